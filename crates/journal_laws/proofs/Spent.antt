-- The tokens that are gone behind a serving: what carries them is served or dropped, and nothing else carries them.
use Rattle.std.proofs.Common.{◌≡◌, ◌≢◌, ℕ, ◌==◌, ◌&&◌, ◌⊎◌, Bool, true, false, not, List, [], ◌∷◌, ◌++◌, filter, flat_map, Some, AllPairs, Contains, refl, sym, ap, ◌∙◌, inl, inr}
use Rattle.std.specs.List.{list_any}
use Rattle.std.proofs.lemmas.Bool.{and_from, and_parts, cases_Bool, eqb-true, eq-eqb, or_cases, true≢false}
use Rattle.std.proofs.lemmas.List.Elements.{All-contains}
use Rattle.fidl_names.specs.HandleNumber.{is_client}
use Rattle.link_admission.specs.Numbering.{among}
use Rattle.vfs_journal.specs.Entries.{Sent, handles_of, tokens_in}
use Rattle.vfs_journal.specs.Fit.{IsFit}
use Rattle.vfs_journal.specs.View.{View, deaths_in, head_in, others_in}
use Rattle.journal_laws.specs.Knowing.{dropped_in, spent_in}
use Rattle.journal_laws.proofs.Among.{among_of, member_of, one_passes, one_place, passes_any}
use Rattle.journal_laws.proofs.KnowingCount.{same_bool}
use Rattle.journal_laws.proofs.Lists.{pairs-head, pairs-tail}
use Rattle.journal_laws.proofs.LookedUp.{is_first}
use Rattle.journal_laws.proofs.Members.{contains_cases, contains_here, contains_later, contains_none, kept, kept_of}
use Rattle.journal_laws.proofs.Spreading.{among_back, among_front, among_sides}

-- some of these entries carries a number
abbrev pub carry : ℕ → List Sent → Bool
carry n ones = list_any (λ sent. among n (handles_of sent.sending)) ones

-- ---- numbers apart

abbrev Differ : ℕ → ℕ → Type 0
Differ x y = x ≢ y

pub apart_right : (xs ys : List ℕ) → AllPairs (λ x y. x ≢ y) (xs ++ ys) → AllPairs (λ x y. x ≢ y) ys
apart_right [] ys h = h
apart_right (x ∷ xs) ys h = apart_right xs ys (pairs-tail Differ x (xs ++ ys) h)

pub in_both : (n : ℕ) (xs ys : List ℕ) → AllPairs (λ x y. x ≢ y) (xs ++ ys) → among n xs ≡ true → among n ys ≡ true → ⊥
in_both n [] ys apart a b = true≢false (sym a)
in_both n (x ∷ xs) ys apart a b = by_side (in_both n xs ys (pairs-tail Differ x (xs ++ ys) apart)) (or_cases (x == n) (among n xs) a) where
  by_side : (among n xs ≡ true → among n ys ≡ true → ⊥) → ((x == n) ≡ true) ⊎ (among n xs ≡ true) → ⊥
  by_side rest (inl e) = All-contains (Differ x) (xs ++ ys) n (pairs-head Differ x (xs ++ ys) apart) (member_of n (xs ++ ys) (among_back n xs ys b)) (eqb-true x n e)
  by_side rest (inr h) = rest h b

-- two entries that carry one handle are one
pub handle_later : (n : ℕ) (one : Sent) (ones : List Sent) → Contains ones one → among n (handles_of one.sending) ≡ true → among n (flat_map (λ sent. handles_of sent.sending) ones) ≡ true
handle_later n one [] p h = absurd (contains_none one p)
handle_later n one (x ∷ ones) p h = by_place (λ q. handle_later n one ones q h) (contains_cases one x ones p) where
  by_place : (Contains ones one → among n (flat_map (λ sent. handles_of sent.sending) ones) ≡ true) → (x ≡ one) ⊎ Contains ones one → among n (handles_of x.sending ++ flat_map (λ sent. handles_of sent.sending) ones) ≡ true
  by_place rest (inl e) = among_front n (handles_of x.sending) (flat_map (λ sent. handles_of sent.sending) ones) (ap (λ (s : Sent). among n (handles_of s.sending)) e ∙ h)
  by_place rest (inr q) = among_back n (handles_of x.sending) (flat_map (λ sent. handles_of sent.sending) ones) (rest q)

pub carried_once : (n : ℕ) (ones : List Sent) (one other : Sent) → AllPairs (λ x y. x ≢ y) (flat_map (λ sent. handles_of sent.sending) ones) → Contains ones one → Contains ones other →
    among n (handles_of one.sending) ≡ true → among n (handles_of other.sending) ≡ true → one ≡ other
carried_once n [] one other apart p q a b = absurd (contains_none one p)
carried_once n (x ∷ ones) one other apart p q a b =
    by_places (λ f g. carried_once n ones one other (apart_right (handles_of x.sending) (flat_map (λ sent. handles_of sent.sending) ones) apart) f g a b) (contains_cases one x ones p) (contains_cases other x ones q) where
      rest : List ℕ
      rest = flat_map (λ sent. handles_of sent.sending) ones

      by_places : (Contains ones one → Contains ones other → one ≡ other) → (x ≡ one) ⊎ Contains ones one → (x ≡ other) ⊎ Contains ones other → one ≡ other
      by_places later (inl e) (inl f) = sym e ∙ f
      by_places later (inl e) (inr g) = absurd (in_both n (handles_of x.sending) rest apart (ap (λ (s : Sent). among n (handles_of s.sending)) e ∙ a) (handle_later n other ones g b))
      by_places later (inr f) (inl e) = absurd (in_both n (handles_of x.sending) rest apart (ap (λ (s : Sent). among n (handles_of s.sending)) e ∙ b) (handle_later n one ones f a))
      by_places later (inr f) (inr g) = later f g

-- ---- what is spent

pub token_in_is : (n : ℕ) (one : Sent) → among n (tokens_in one) ≡ true → (is_client n ≡ false) × (among n (handles_of one.sending) ≡ true)
token_in_is n one h =
    let at = kept_of (λ (m : ℕ). not (is_client m)) (handles_of one.sending) n (member_of n (tokens_in one) h) in
    (no_client (is_client n) at.1, among_of n (handles_of one.sending) at.0) where
      no_client : (b : Bool) → not b ≡ true → b ≡ false
      no_client false e = refl
      no_client true e = absurd (true≢false (sym e))

pub token_in_from : (n : ℕ) (one : Sent) → is_client n ≡ false → among n (handles_of one.sending) ≡ true → among n (tokens_in one) ≡ true
token_in_from n one other h = among_of n (tokens_in one) (kept (λ (m : ℕ). not (is_client m)) (handles_of one.sending) n (member_of n (handles_of one.sending) h) (ap not other))

pub tokens_of_many : (n : ℕ) (ones : List Sent) → among n (flat_map tokens_in ones) ≡ true → (x : Sent) × Contains ones x × (among n (tokens_in x) ≡ true)
tokens_of_many n [] h = absurd (true≢false (sym h))
tokens_of_many n (one ∷ ones) h = by_side (tokens_of_many n ones) (among_sides n (tokens_in one) (flat_map tokens_in ones) h) where
  by_side : (among n (flat_map tokens_in ones) ≡ true → (x : Sent) × Contains ones x × (among n (tokens_in x) ≡ true)) → (among n (tokens_in one) ≡ true) ⊎ (among n (flat_map tokens_in ones) ≡ true) → (x : Sent) × Contains (one ∷ ones) x × (among n (tokens_in x) ≡ true)
  by_side rest (inl g) = (one, contains_here one ones, g)
  by_side rest (inr g) = let later = rest g in (later.0, contains_later later.0 one ones later.1, later.2)

pub tokens_from_many : (n : ℕ) (x : Sent) (ones : List Sent) → Contains ones x → among n (tokens_in x) ≡ true → among n (flat_map tokens_in ones) ≡ true
tokens_from_many n x [] p h = absurd (contains_none x p)
tokens_from_many n x (one ∷ ones) p h = by_place (λ q. tokens_from_many n x ones q h) (contains_cases x one ones p) where
  by_place : (Contains ones x → among n (flat_map tokens_in ones) ≡ true) → (one ≡ x) ⊎ Contains ones x → among n (tokens_in one ++ flat_map tokens_in ones) ≡ true
  by_place rest (inl e) = among_front n (tokens_in one) (flat_map tokens_in ones) (ap (λ (s : Sent). among n (tokens_in s)) e ∙ h)
  by_place rest (inr q) = among_back n (tokens_in one) (flat_map tokens_in ones) (rest q)

-- what carries a token that is spent: it waits, and is served or dropped
pub record IsSpentBy (view : View) (sent : Sent) (n : ℕ) : Type 0 where
  pub one : Sent
  pub waits : Contains view.waiting one
  pub carries : among n (handles_of one.sending) ≡ true
  pub other : is_client n ≡ false
  pub gone : (one ≡ sent) ⊎ (among one.endpoint (deaths_in view sent) ≡ true)

pub spent_by : (view : View) (sent : Sent) (n : ℕ) → Contains view.waiting sent → among n (spent_in view sent) ≡ true → IsSpentBy view sent n
spent_by view sent n waits h = by_side (among_sides n (tokens_in sent) (flat_map tokens_in (dropped_in view sent)) h) where
  by_side : (among n (tokens_in sent) ≡ true) ⊎ (among n (flat_map tokens_in (dropped_in view sent)) ≡ true) → IsSpentBy view sent n
  by_side (inl g) = let at = token_in_is n sent g in record { one = sent; waits = waits; carries = at.1; other = at.0; gone = inl refl }
  by_side (inr g) =
      let many = tokens_of_many n (dropped_in view sent) g in
      let at = token_in_is n many.0 many.2 in
      let dropped = kept_of (λ (other : Sent). among other.endpoint (deaths_in view sent)) (others_in view sent) many.0 many.1 in
      let there = kept_of (λ (other : Sent). not (other.place == sent.place)) view.waiting many.0 dropped.0 in
      record { one = many.0; waits = there.0; carries = at.1; other = at.0; gone = inr dropped.1 }

-- what waits beside the served entry, and isn't dropped
abbrev pub left_in : View → Sent → List Sent
left_in view sent = filter (λ other. not (among other.endpoint (deaths_in view sent))) (others_in view sent)

pub spent_waits : (view : View) (sent : Sent) (n : ℕ) → Contains view.waiting sent → among n (spent_in view sent) ≡ true → carry n view.waiting ≡ true
spent_waits view sent n waits h = let by = spent_by view sent n waits h in passes_any (λ (one : Sent). among n (handles_of one.sending)) view.waiting by.one by.waits by.carries

-- a token waits behind the serving where it did, and isn't spent
pub waits_unspent : (view : View) (sent : Sent) (n : ℕ) → IsFit view → head_in view sent.endpoint ≡ Some sent → is_client n ≡ false → carry n (left_in view sent) ≡ (carry n view.waiting && not (among n (spent_in view sent)))
waits_unspent view sent n fit h other =
    same_bool (carry n (left_in view sent)) (carry n view.waiting && not (among n (spent_in view sent)))
    (λ g. let one = one_passes (λ (one : Sent). among n (handles_of one.sending)) (left_in view sent) g in left_waits one.0 one.1 one.2)
    (λ g.
    let parts = and_parts (carry n view.waiting) (not (among n (spent_in view sent))) g in
    let one = one_passes (λ (one : Sent). among n (handles_of one.sending)) view.waiting parts.0 in
    waits_left one.0 one.1 one.2 parts.1) where
      served : Contains view.waiting sent
      served = (is_first view sent h).waits

      left_parts : (one : Sent) → Contains (left_in view sent) one → Contains view.waiting one × (not (one.place == sent.place) ≡ true) × (not (among one.endpoint (deaths_in view sent)) ≡ true)
      left_parts one p =
          let alive = kept_of (λ (other : Sent). not (among other.endpoint (deaths_in view sent))) (others_in view sent) one p in
          let there = kept_of (λ (other : Sent). not (other.place == sent.place)) view.waiting one alive.0 in
          (there.0, there.1, alive.1)

      not_true : (b : Bool) → not b ≡ true → b ≡ true → ⊥
      not_true true e f = true≢false (sym e)
      not_true false e f = true≢false (sym f)

      unspent : (one : Sent) → Contains (left_in view sent) one → among n (handles_of one.sending) ≡ true → (b : Bool) → among n (spent_in view sent) ≡ b → not b ≡ true
      unspent one p c false e = refl
      unspent one p c true e = absurd (clash (left_parts one p) (spent_by view sent n served e)) where
        clash : Contains view.waiting one × (not (one.place == sent.place) ≡ true) × (not (among one.endpoint (deaths_in view sent)) ≡ true) → IsSpentBy view sent n → ⊥
        clash parts by = by_gone (carried_once n view.waiting by.one one fit.once by.waits parts.0 by.carries c) by.gone where
          by_gone : by.one ≡ one → (by.one ≡ sent) ⊎ (among by.one.endpoint (deaths_in view sent) ≡ true) → ⊥
          by_gone same (inl e) = not_true (one.place == sent.place) parts.1 (eq-eqb one.place sent.place (ap (λ (x : Sent). x.place) (sym same ∙ e)))
          by_gone same (inr dead) = not_true (among one.endpoint (deaths_in view sent)) parts.2 (ap (λ (x : Sent). among x.endpoint (deaths_in view sent)) (sym same) ∙ dead)

      left_waits : (one : Sent) → Contains (left_in view sent) one → among n (handles_of one.sending) ≡ true → (carry n view.waiting && not (among n (spent_in view sent))) ≡ true
      left_waits one p c =
          and_from (carry n view.waiting) (not (among n (spent_in view sent)))
          (passes_any (λ (x : Sent). among n (handles_of x.sending)) view.waiting one (left_parts one p).0 c)
          (unspent one p c (among n (spent_in view sent)) refl)

      waits_left : (one : Sent) → Contains view.waiting one → among n (handles_of one.sending) ≡ true → not (among n (spent_in view sent)) ≡ true → carry n (left_in view sent) ≡ true
      waits_left one p c free = by_place (cases_Bool (one.place == sent.place)) (cases_Bool (among one.endpoint (deaths_in view sent))) where
        spent : among n (spent_in view sent) ≡ true → ⊥
        spent e = not_true (among n (spent_in view sent)) free e

        there : (one.place == sent.place) ≡ false → Contains (others_in view sent) one
        there apart = kept (λ (other : Sent). not (other.place == sent.place)) view.waiting one p (ap not apart)

        by_place : ((one.place == sent.place) ≡ true) ⊎ ((one.place == sent.place) ≡ false) → (among one.endpoint (deaths_in view sent) ≡ true) ⊎ (among one.endpoint (deaths_in view sent) ≡ false) → carry n (left_in view sent) ≡ true
        by_place (inl same) dies =
            let is = one_place view.waiting one sent fit.rise p served (eqb-true one.place sent.place same) in
            absurd (spent (among_front n (tokens_in sent) (flat_map tokens_in (dropped_in view sent)) (token_in_from n sent other (ap (λ (x : Sent). among n (handles_of x.sending)) (sym is) ∙ c))))
        by_place (inr apart) (inl dead) =
            absurd (spent (among_back n (tokens_in sent) (flat_map tokens_in (dropped_in view sent))
            (tokens_from_many n one (dropped_in view sent) (kept (λ (x : Sent). among x.endpoint (deaths_in view sent)) (others_in view sent) one (there apart) dead) (token_in_from n one other c))))
        by_place (inr apart) (inr alive) =
            passes_any (λ (x : Sent). among n (handles_of x.sending)) (left_in view sent) one (kept (λ (x : Sent). not (among x.endpoint (deaths_in view sent))) (others_in view sent) one (there apart) (ap not alive)) c
