-- Which tokens are out behind a serving, and behind a sending.
use Rattle.std.proofs.Common.{◌≡◌, ◌≢◌, ℕ, ◌+◌, ◌<◌, ◌≤◌, ◌==◌, ◌&&◌, ◌||◌, ◌⊎◌, Bool, true, false, not, cond, if◌then◌else◌, nat_le, List, [], ◌∷◌, ◌++◌, length, filter, flat_map, option_to_list, Contains, Option, Some, None, inl, inr, refl, sym, ap, ◌∙◌, subst, arith, append-nil}
use Rattle.std.specs.List.{list_any}
use Rattle.std.proofs.lemmas.Bool.{eqb-true, false_from_ne_true, or_cases, true≢false}
use Rattle.std.proofs.lemmas.List.Elements.{All-contains}
use Rattle.std.proofs.lemmas.List.Folds.{list_any-append}
use Rattle.std.proofs.lemmas.List.Quantifiers.{all_pairs_push}
use Rattle.fidl_names.specs.HandleNumber.{is_client}
use Rattle.fidl_names.specs.declared.limits.TheConstants as limit
use Rattle.link_admission.specs.Numbering.{among}
use Rattle.vfs_journal.specs.Entries.{Sent, handles_of}
use Rattle.vfs_journal.specs.Fit.{IsFit}
use Rattle.vfs_journal.specs.Outcomes.{Forwarded, Given}
use Rattle.vfs_journal.specs.View.{View, event_in, head_in, is_held_in, is_out_in, next_token_in, onward_in, onward_sent, outcome_in, sending_in, serving_in, then_in}
use Rattle.journal_laws.specs.Knowing.{spent_in}
use Rattle.journal_laws.proofs.Among.{carried_is, one_passes}
use Rattle.journal_laws.proofs.Kept.{client_low}
use Rattle.journal_laws.proofs.LookedUp.{is_first}
use Rattle.journal_laws.proofs.Members.{contains_cases, contains_here, contains_later, contains_none}
use Rattle.journal_laws.proofs.Spent.{IsSpentBy, carry, left_in, spent_by, waits_unspent}
use Rattle.journal_laws.proofs.Spreading.{among_back, among_front}
use Rattle.vfs_world.proofs.Outs.{Rising}

-- ---- what is carried by one of many

pub many_carry : (n : ℕ) (x : Sent) (ones : List Sent) → Contains ones x → among n (handles_of x.sending) ≡ true → among n (flat_map (λ sent. handles_of sent.sending) ones) ≡ true
many_carry n x [] p h = absurd (contains_none x p)
many_carry n x (one ∷ ones) p h = by_place (λ q. many_carry n x ones q h) (contains_cases x one ones p) where
  by_place : (Contains ones x → among n (flat_map (λ sent. handles_of sent.sending) ones) ≡ true) → (one ≡ x) ⊎ Contains ones x → among n (handles_of one.sending ++ flat_map (λ sent. handles_of sent.sending) ones) ≡ true
  by_place rest (inl e) = among_front n (handles_of one.sending) (flat_map (λ sent. handles_of sent.sending) ones) (ap (λ (s : Sent). among n (handles_of s.sending)) e ∙ h)
  by_place rest (inr q) = among_back n (handles_of one.sending) (flat_map (λ sent. handles_of sent.sending) ones) (rest q)

-- ---- the next token

next_by : (out given : ℕ) (n : ℕ) (b : Bool) → (if b then None else Some (limit.FIRST_TOKEN + given)) ≡ Some n → n ≡ limit.FIRST_TOKEN + given
next_by out given n true e = absurd (cc)
next_by out given n false e = let same : limit.FIRST_TOKEN + given ≡ n = cc in sym same

pub next_number : (view : View) (n : ℕ) → next_token_in view ≡ Some n → n ≡ limit.FIRST_TOKEN + length view.given
next_number view n e =
    next_by 0 (length view.given) n (nat_le limit.MAX_TOKENS (length (filter (λ given. is_out_in view given.token) view.given)) || nat_le 0x80000000 (length view.given)) e

-- it is above all that were given
module _ (view : View) (sent : Sent) (fit : IsFit view) (first : head_in view sent.endpoint ≡ Some sent) where
  new_number : (new : Given) → (outcome_in view sent).token ≡ Some new → new.token ≡ limit.FIRST_TOKEN + length view.given
  new_number new e = next_number view new.token ((fit.heads sent first).gives new e)

  pub was_below : (new one : Given) → (outcome_in view sent).token ≡ Some new → Contains view.given one → one.token < new.token
  was_below new one e c =
      let low = (All-contains (λ (given : Given). (limit.FIRST_TOKEN ≤ given.token) × (given.token < limit.FIRST_TOKEN + length view.given)) view.given one fit.numbered c).1 in
      let at = new_number new e in
      omega (arith, low, at)

  pub new_token : (new one : Given) → (outcome_in view sent).token ≡ Some new → Contains view.given one → one.token ≢ new.token
  new_token new one e c same = let low = was_below new one e c in omega (arith, low, same)

  -- the next token was not given yet
  pub next_is_new : (token : ℕ) (one : Given) → next_token_in view ≡ Some token → Contains view.given one → one.token ≢ token
  next_is_new token one next c same =
      let low = (All-contains (λ (given : Given). (limit.FIRST_TOKEN ≤ given.token) × (given.token < limit.FIRST_TOKEN + length view.given)) view.given one fit.numbered c).1 in
      let at = next_number view token next in
      omega (arith, low, at, same)

  rise_by : (o : Option Given) → (outcome_in view sent).token ≡ o → Rising (view.given ++ option_to_list o)
  rise_by None e = subst Rising (sym (append-nil view.given)) fit.tokens
  rise_by (Some new) e =
      all_pairs_push (λ (one later : Given). one.token < later.token) view.given new fit.tokens
      (λ k d inside. let low = (fit.numbered k d inside).1 in let at = new_number new e in omega (arith, low, at))

  pub tokens_rise : Rising (view.given ++ option_to_list (outcome_in view sent).token)
  tokens_rise = rise_by (outcome_in view sent).token refl

  -- ---- tokens are no endpoints

  no_client : (n : ℕ) → limit.FIRST_TOKEN ≤ n → is_client n ≡ false
  no_client n high = false_from_ne_true (is_client n) (λ c. let low = client_low n c in omega (arith, low, high))

  of_two : {X : Type 0} (xs ys : List X) (x : X) → Contains (xs ++ ys) x → Contains xs x ⊎ Contains ys x
  of_two [] ys x c = inr c
  of_two {X} (y ∷ xs) ys x c = by_place (contains_cases x y (xs ++ ys) c) (of_two xs ys x) where
    by_place : (y ≡ x) ⊎ Contains (xs ++ ys) x → (Contains (xs ++ ys) x → Contains xs x ⊎ Contains ys x) → Contains (y ∷ xs) x ⊎ Contains ys x
    by_place (inl e) rest = inl (subst (Contains (y ∷ xs)) e (contains_here y xs))
    by_place (inr d) rest = by_side (rest d) where
      by_side : Contains xs x ⊎ Contains ys x → Contains (y ∷ xs) x ⊎ Contains ys x
      by_side (inl f) = inl (contains_later x y xs f)
      by_side (inr f) = inr f

  given_high : (one : Given) → Contains view.given one → limit.FIRST_TOKEN ≤ one.token
  given_high one c = (All-contains (λ (given : Given). (limit.FIRST_TOKEN ≤ given.token) × (given.token < limit.FIRST_TOKEN + length view.given)) view.given one fit.numbered c).0

  token_high : (one : Given) (o : Option Given) → (outcome_in view sent).token ≡ o → Contains (view.given ++ option_to_list o) one → limit.FIRST_TOKEN ≤ one.token
  token_high one None e c = given_high one (subst (λ (xs : List Given). Contains xs one) (append-nil view.given) c)
  token_high one (Some new) e c = by_side (of_two view.given (new ∷ []) one c) where
    by_side : Contains view.given one ⊎ Contains (new ∷ []) one → limit.FIRST_TOKEN ≤ one.token
    by_side (inl d) = given_high one d
    by_side (inr d) = by_place (contains_cases one new [] d) where
      by_place : (new ≡ one) ⊎ Contains [] one → limit.FIRST_TOKEN ≤ one.token
      by_place (inl f) = let at = new_number new e in let same = ap (λ (g : Given). g.token) f in omega (arith, at, same)
      by_place (inr f) = absurd (contains_none one f)

  -- ---- what is out behind a serving

  abbrev held_then : List Given
  held_then = view.held ++ option_to_list (outcome_in view sent).token

  -- what is spent was held no more
  carried_by : (n : ℕ) → IsSpentBy view sent n → (list_any (λ given. given.token == n) view.given ≡ true) × (is_held_in view n ≡ false)
  carried_by n by = by_kind (fit.carried n (many_carry n by.one view.waiting by.waits by.carries)) where
    by_kind : (is_client n ≡ true) ⊎ ((list_any (λ given. given.token == n) view.given ≡ true) × (is_held_in view n ≡ false)) → (list_any (λ given. given.token == n) view.given ≡ true) × (is_held_in view n ≡ false)
    by_kind (inl client) = absurd (true≢false (sym client ∙ by.other))
    by_kind (inr carried) = carried

  not_given : (n : ℕ) (o : Option Given) → (outcome_in view sent).token ≡ o → list_any (λ given. given.token == n) view.given ≡ true → list_any (λ (given : Given). given.token == n) (option_to_list o) ≡ false
  not_given n None e was = refl
  not_given n (Some new) e was =
      false_from_ne_true ((new.token == n) || false)
      (λ h. by_side (or_cases (new.token == n) false h)) where
        by_side : ((new.token == n) ≡ true) ⊎ (false ≡ true) → ⊥
        by_side (inl f) =
            let one = one_passes (λ (given : Given). given.token == n) view.given was in
            new_token new one.0 e one.1 (eqb-true one.0.token n one.2 ∙ sym (eqb-true new.token n f))
        by_side (inr f) = true≢false (sym f)

  unheld : (n : ℕ) → among n (spent_in view sent) ≡ true → list_any (λ (given : Given). given.token == n) held_then ≡ false
  unheld n h =
      let at = carried_by n (spent_by view sent n (is_first view sent first).waits h) in
      list_any-append (λ (given : Given). given.token == n) view.held (option_to_list (outcome_in view sent).token)
      ∙ ap (λ (b : Bool). b || list_any (λ (given : Given). given.token == n) (option_to_list (outcome_in view sent).token)) at.1
      ∙ not_given n (outcome_in view sent).token refl at.0

  or_out : (s h w : Bool) → (s ≡ true → h ≡ false) → (not s && (h || w)) ≡ (h || (w && not s))
  or_out false true w none = refl
  or_out false false true none = refl
  or_out false false false none = refl
  or_out true true w none = absurd (true≢false (none refl))
  or_out true false true none = refl
  or_out true false false none = refl

  -- of the tokens that no endpoint has for a number, those are held that were, whatever goes on
  held_kept : (n : ℕ) (handles : List ℕ) (held : List Given) → among n handles ≡ false →
      list_any (λ (given : Given). given.token == n) (filter (λ given. not (among given.token handles)) held) ≡ list_any (λ (given : Given). given.token == n) held
  held_kept n handles [] none = refl
  held_kept n handles (one ∷ held) none = by_test (among one.token handles) refl (held_kept n handles held none) where
    by_test : (b : Bool) → among one.token handles ≡ b → list_any (λ (given : Given). given.token == n) (filter (λ given. not (among given.token handles)) held) ≡ list_any (λ (given : Given). given.token == n) held →
        list_any (λ (given : Given). given.token == n) (cond (not b) (one ∷ filter (λ given. not (among given.token handles)) held) (filter (λ given. not (among given.token handles)) held))
        ≡ ((one.token == n) || list_any (λ (given : Given). given.token == n) held)
    by_test false e rest = ap (λ (b : Bool). (one.token == n) || b) rest
    by_test true e rest = rest ∙ ap (λ (b : Bool). b || list_any (λ (given : Given). given.token == n) held) (sym (false_from_ne_true (one.token == n) (λ f. true≢false (sym e ∙ ap (λ (m : ℕ). among m handles) (eqb-true one.token n f) ∙ none))))

  or_no : (b : Bool) → (b || false) ≡ b
  or_no true = refl
  or_no false = refl

  out_onward : (n : ℕ) (o : Option Forwarded) → (outcome_in view sent).forward ≡ o → is_client n ≡ false →
      is_out_in (onward_in (serving_in view sent (event_in view sent)) sent o) n ≡ (list_any (λ (given : Given). given.token == n) held_then || carry n (left_in view sent))
  out_onward n None e other = refl
  out_onward n (Some forward) e other =
      let mid = serving_in view sent (event_in view sent) in
      let new = onward_sent mid.places sent forward in
      let apart : among n (forward.object ∷ []) ≡ false =
      or_no (forward.object == n)
      ∙ false_from_ne_true (forward.object == n) (λ f. true≢false (sym (carried_is sent forward.object ((fit.heads sent first).sends_on forward e)).0 ∙ ap is_client (eqb-true forward.object n f) ∙ other)) in
      ap (λ (b : Bool). b || list_any (λ (one : Sent). among n (handles_of one.sending)) (left_in view sent ++ new ∷ [])) (held_kept n (forward.object ∷ []) held_then apart)
      ∙ ap (λ (b : Bool). list_any (λ (given : Given). given.token == n) held_then || b)
      (list_any-append (λ (one : Sent). among n (handles_of one.sending)) (left_in view sent) (new ∷ [])
      ∙ ap (λ (b : Bool). carry n (left_in view sent) || (b || false)) apart
      ∙ or_no (carry n (left_in view sent)))

  -- those are out that were, but for the spent, and the one that is given
  pub out_then : (one : Given) → Contains (view.given ++ option_to_list (outcome_in view sent).token) one →
      (not (among one.token (spent_in view sent)) && (list_any (λ (given : Given). given.token == one.token) (view.held ++ option_to_list (outcome_in view sent).token) || carry one.token view.waiting)) ≡ is_out_in (then_in view sent) one.token
  out_then one c =
      let n = one.token in
      let other = no_client n (token_high one (outcome_in view sent).token refl c) in
      or_out (among n (spent_in view sent)) (list_any (λ (given : Given). given.token == n) held_then) (carry n view.waiting) (unheld n)
      ∙ ap (λ (b : Bool). list_any (λ (given : Given). given.token == n) held_then || b) (sym (waits_unspent view sent n fit first other))
      ∙ sym (out_onward n (outcome_in view sent).forward refl other)

-- ---- what is out behind a sending

or_not : (h m w : Bool) → (m ≡ true → h ≡ true) → (h || w) ≡ ((h && not m) || (w || (m || false)))
or_not true true true held = refl
or_not true true false held = refl
or_not true false true held = refl
or_not true false false held = refl
or_not false true w held = absurd (true≢false (sym (held refl)))
or_not false false true held = refl
or_not false false false held = refl

held_but : (n : ℕ) (handles : List ℕ) (held : List Given) →
    list_any (λ (given : Given). given.token == n) (filter (λ given. not (among given.token handles)) held) ≡ (list_any (λ (given : Given). given.token == n) held && not (among n handles))
held_but n handles [] = refl
held_but n handles (one ∷ held) = by_tests (among one.token handles) (one.token == n) refl refl (held_but n handles held) where
  by_tests : (b c : Bool) → among one.token handles ≡ b → (one.token == n) ≡ c →
      list_any (λ (given : Given). given.token == n) (filter (λ given. not (among given.token handles)) held) ≡ (list_any (λ (given : Given). given.token == n) held && not (among n handles)) →
      list_any (λ (given : Given). given.token == n) (cond (not b) (one ∷ filter (λ given. not (among given.token handles)) held) (filter (λ given. not (among given.token handles)) held))
      ≡ ((c || list_any (λ (given : Given). given.token == n) held) && not (among n handles))
  by_tests true false e f rest = rest
  by_tests true true e f rest =
      let gone : among n handles ≡ true = ap (λ (m : ℕ). among m handles) (sym (eqb-true one.token n f)) ∙ e in
      rest ∙ ap (λ (b : Bool). list_any (λ (given : Given). given.token == n) held && not b) gone ∙ none (list_any (λ (given : Given). given.token == n) held) ∙ sym (ap not gone) where
        none : (b : Bool) → (b && false) ≡ false
        none true = refl
        none false = refl
  by_tests false false e f rest = ap (λ (b : Bool). b || list_any (λ (given : Given). given.token == n) (filter (λ given. not (among given.token handles)) held)) f ∙ rest
  by_tests false true e f rest =
      ap (λ (b : Bool). b || list_any (λ (given : Given). given.token == n) (filter (λ given. not (among given.token handles)) held)) f
      ∙ sym (ap not (ap (λ (m : ℕ). among m handles) (sym (eqb-true one.token n f)) ∙ e))

-- a token that was held and is sent is out as it was
pub out_sent : (view : View) (sent : Sent) (n : ℕ) → (among n (handles_of sent.sending) ≡ true → is_held_in view n ≡ true) → is_out_in view n ≡ is_out_in (sending_in view sent) n
out_sent view sent n held =
    or_not (is_held_in view n) (among n (handles_of sent.sending)) (carry n view.waiting) held
    ∙ ap (λ (b : Bool). b || (carry n view.waiting || (among n (handles_of sent.sending) || false))) (sym (held_but n (handles_of sent.sending) view.held))
    ∙ ap (λ (b : Bool). list_any (λ (given : Given). given.token == n) (filter (λ given. not (among given.token (handles_of sent.sending))) view.held) || b) (sym (list_any-append (λ (one : Sent). among n (handles_of one.sending)) view.waiting (sent ∷ [])))
