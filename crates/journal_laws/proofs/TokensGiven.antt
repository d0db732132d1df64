-- Tokens rise, and only tokens that were given are carried, each once.
use Rattle.std.proofs.Common.{◌≡◌, ℕ, ◌+◌, ◌<◌, ◌≤◌, ◌==◌, ◌&&◌, ◌||◌, ◌⊎◌, Bool, true, false, not, nat_le, if◌then◌else◌, List, [], ◌∷◌, ◌++◌, length, option_to_list, slice_index_or, Option, Some, None, All, AllPairs, Contains, refl, sym, ap, ◌∙◌, subst, inl, inr, append-nil, length-append, arith}
use Rattle.std.specs.List.{list_any}
use Rattle.std.proofs.lemmas.Bool.{and_parts, or_cases, or_left, not-true, true≢false}
use Rattle.std.proofs.lemmas.List.Elements.{All-nil, All-push, All-weaker, Contains-append_cases}
use Rattle.std.proofs.lemmas.List.Folds.{list_any-append}
use Rattle.std.proofs.lemmas.List.Quantifiers.{all_pairs_push}
use Rattle.fidl_names.specs.declared.limits.TheConstants as limit
use Rattle.link_admission.specs.Admission.{may_travel}
use Rattle.link_frames.specs.declared.kinds.FrameKind.TheVariants as kind
use Rattle.link_admission.specs.Numbering.{among}
use Rattle.fidl_names.specs.HandleNumber.{is_client}
use Rattle.vfs_journal.specs.Entries.{Sent, Journal, message, hang_up, handles_of, serves}
use Rattle.vfs_journal.specs.History.{History, all_sent, is_used, was_carried}
use Rattle.vfs_journal.specs.Lawful.{Lawful, begun, refused, sent, closed, served}
use Rattle.vfs_journal.specs.Outcomes.{Forwarded, Given}
use Rattle.vfs_journal.specs.Past.{behind, event_of, history_of}
use Rattle.vfs_journal.specs.Serving.{outcome_of}
use Rattle.vfs_journal.specs.Session.{head, look_ups, sent_behind, with_forward}
use Rattle.vfs_journal.specs.Starts.{Start}
use Rattle.vfs_journal.specs.Tokens.{all_given, is_held, next_token, tokens_out, was_given}
use Rattle.journal_laws.specs.Soundness.{IsStart}
use Rattle.journal_laws.proofs.Among.{passes_any, carried_is}
use Rattle.journal_laws.proofs.Below.{Below}
use Rattle.journal_laws.proofs.Kept.{client_low, is_serving, lawful_kept, message_admitted, one_handle, refusal_of}
use Rattle.journal_laws.proofs.Members.{contains_cases, contains_none}
use Rattle.journal_laws.proofs.Stepping.{stepped}
use Rattle.journal_laws.proofs.Steps.{refusals_change_nothing, sendings_wait_last, servings_take_effect}

abbrev Precedes : Given → Given → Type 0
Precedes one later = one.token < later.token

-- the tokens that were given rise and lie below the next; a number from the first token on that was carried was given, and is carried by
-- one sending
pub record AreGiven (history : History) : Type 0 where
  pub below : All (λ given. given.token < limit.FIRST_TOKEN + length (all_given history)) (all_given history)
  pub rise : AllPairs (λ one later. one.token < later.token) (all_given history)
  pub given : (n : ℕ) → limit.FIRST_TOKEN ≤ n → was_carried history n ≡ true → was_given history n ≡ true
  pub once : (one other : Sent) (n : ℕ) → limit.FIRST_TOKEN ≤ n → Contains (all_sent history) one → Contains (all_sent history) other →
      among n (handles_of one.sending) ≡ true → among n (handles_of other.sending) ≡ true → one ≡ other

begun_given : AreGiven []
begun_given = record {
  below = All-nil (λ given. given.token < limit.FIRST_TOKEN + 0);
  rise = λ i j d l m. absurd (omega arith);
  given = λ n high h. absurd (true≢false (sym h));
  once = λ one other n high p q h k. absurd (contains_none one p);
}

-- what is known of the lists alone
record Lists (given : List Given) (sent : List Sent) : Type 0 where
  below : All (λ (one : Given). one.token < limit.FIRST_TOKEN + length given) given
  rise : AllPairs Precedes given
  given' : (n : ℕ) → limit.FIRST_TOKEN ≤ n → list_any (λ (one : Sent). among n (handles_of one.sending)) sent ≡ true → list_any (λ (one : Given). one.token == n) given ≡ true
  once : (one other : Sent) (n : ℕ) → limit.FIRST_TOKEN ≤ n → Contains sent one → Contains sent other → among n (handles_of one.sending) ≡ true → among n (handles_of other.sending) ≡ true → one ≡ other

lists_of : (history : History) → AreGiven history → Lists (all_given history) (all_sent history)
lists_of history h = record { below = h.below; rise = h.rise; given' = h.given; once = h.once }

of_lists : (history : History) → Lists (all_given history) (all_sent history) → AreGiven history
of_lists history h = record { below = h.below; rise = h.rise; given = h.given'; once = h.once }

same_lists : (g h : List Given) (s t : List Sent) → h ≡ g → t ≡ s → Lists g s → Lists h t
same_lists g h s t e f l = subst (λ x. Lists x t) (sym e) (subst (Lists g) (sym f) l)

-- one more is sent: the tokens that it carries were held
record IsHeldIn (given : List Given) (sent : List Sent) (n : ℕ) : Type 0 where
  was : list_any (λ (one : Given). one.token == n) given ≡ true
  uncarried : list_any (λ (one : Sent). among n (handles_of one.sending)) sent ≡ false

last_of : {X : Type 0} (xs : List X) (x y : X) → Contains (xs ++ x ∷ []) y → Contains xs y ⊎ (x ≡ y)
last_of {X} xs x y h = by_side (Contains-append_cases xs (x ∷ []) y h) where
  only : (x ≡ y) ⊎ Contains [] y → x ≡ y
  only (inl e) = e
  only (inr g) = absurd (contains_none y g)

  by_side : Contains xs y ⊎ Contains (x ∷ []) y → Contains xs y ⊎ (x ≡ y)
  by_side (inl g) = inl g
  by_side (inr g) = inr (only (contains_cases y x [] g))

or-false : (b : Bool) → (b || false) ≡ b
or-false true = refl
or-false false = refl

more_sent : (given : List Given) (ones : List Sent) (new : Sent) → ((n : ℕ) → limit.FIRST_TOKEN ≤ n → among n (handles_of new.sending) ≡ true → IsHeldIn given ones n) → Lists given ones → Lists given (ones ++ new ∷ [])
more_sent given ones new held past = record {
  below = past.below;
  rise = past.rise;
  given' = λ n high h.
      by_side n high
      (or_cases (list_any (λ (one : Sent). among n (handles_of one.sending)) ones) (among n (handles_of new.sending))
      (sym (list_any-append (λ (one : Sent). among n (handles_of one.sending)) ones (new ∷ []) ∙ ap (λ b. list_any (λ (one : Sent). among n (handles_of one.sending)) ones || b) (or-false (among n (handles_of new.sending)))) ∙ h));
  once = λ one other n high p q h k. by_place one other n high (last_of ones new one p) (last_of ones new other q) h k;
} where
  by_side : (n : ℕ) → limit.FIRST_TOKEN ≤ n → (list_any (λ (one : Sent). among n (handles_of one.sending)) ones ≡ true) ⊎ (among n (handles_of new.sending) ≡ true) → list_any (λ (one : Given). one.token == n) given ≡ true
  by_side n high (inl h) = past.given' n high h
  by_side n high (inr h) = (held n high h).was

  clash : (one : Sent) (n : ℕ) → limit.FIRST_TOKEN ≤ n → Contains ones one → among n (handles_of one.sending) ≡ true → among n (handles_of new.sending) ≡ true → ⊥
  clash one n high p h k = true≢false (sym (passes_any (λ (x : Sent). among n (handles_of x.sending)) ones one p h) ∙ (held n high k).uncarried)

  by_place : (one other : Sent) (n : ℕ) → limit.FIRST_TOKEN ≤ n → Contains ones one ⊎ (new ≡ one) → Contains ones other ⊎ (new ≡ other) → among n (handles_of one.sending) ≡ true → among n (handles_of other.sending) ≡ true → one ≡ other
  by_place one other n high (inl p) (inl q) h k = past.once one other n high p q h k
  by_place one other n high (inl p) (inr e) h k = absurd (clash one n high p h (ap (λ (x : Sent). among n (handles_of x.sending)) e ∙ k))
  by_place one other n high (inr e) (inl q) h k = absurd (clash other n high q k (ap (λ (x : Sent). among n (handles_of x.sending)) e ∙ h))
  by_place one other n high (inr e) (inr f) h k = sym e ∙ f

-- one more is given: it is the next
more_given : (given : List Given) (ones : List Sent) (o : Option Given) → ((new : Given) → o ≡ Some new → new.token ≡ limit.FIRST_TOKEN + length given) → Lists given ones → Lists (given ++ option_to_list o) ones
more_given given ones None next past = same_lists given (given ++ []) ones ones (append-nil given) refl past
more_given given ones (Some new) next past =
    let at = next new refl in
    let longer : length (given ++ new ∷ []) ≡ length given + 1 = length-append given (new ∷ []) in
    record {
      below = All-push (λ (one : Given). one.token < limit.FIRST_TOKEN + length (given ++ new ∷ [])) given new
          (All-weaker (λ (one : Given). one.token < limit.FIRST_TOKEN + length given) (λ (one : Given). one.token < limit.FIRST_TOKEN + length (given ++ new ∷ [])) (λ one l. omega (arith, l, longer)) given past.below)
          (omega (arith, at, longer));
      rise = all_pairs_push Precedes given new past.rise (λ k d l. let low : (slice_index_or given k d).token < limit.FIRST_TOKEN + length given = past.below k d l in omega (arith, low, at));
      given' = λ n high h. list_any-append (λ (one : Given). one.token == n) given (new ∷ []) ∙ or_left _ (list_any (λ (one : Given). one.token == n) (new ∷ [])) (past.given' n high h);
      once = past.once;
    }

-- the next token
pub next_is_length : (past : History) (n : ℕ) → next_token past ≡ Some n → n ≡ limit.FIRST_TOKEN + length (all_given past)
next_is_length past n e = by_test (nat_le limit.MAX_TOKENS (length (tokens_out past)) || nat_le 0x80000000 (length (all_given past))) e where
  by_test : (b : Bool) → (if b then None else Some (limit.FIRST_TOKEN + length (all_given past))) ≡ Some n → n ≡ limit.FIRST_TOKEN + length (all_given past)
  by_test true e = absurd (cc)
  by_test false e = let same : limit.FIRST_TOKEN + length (all_given past) ≡ n = cc in sym same

-- what may travel and is no client's was held
held_by : (start : Start) (history : History) (n : ℕ) → limit.FIRST_TOKEN ≤ n → may_travel (look_ups start history) n ≡ true → IsHeldIn (all_given history) (all_sent history) n
held_by start history n high may = by_side (or_cases (is_client n && not (is_used start history n)) (is_held history n) may) where
  by_side : ((is_client n && not (is_used start history n)) ≡ true) ⊎ (is_held history n ≡ true) → IsHeldIn (all_given history) (all_sent history) n
  by_side (inl h) = let low = client_low n (and_parts (is_client n) (not (is_used start history n)) h).0 in absurd (omega (arith, low, high))
  by_side (inr h) = let parts = and_parts (was_given history n) (not (was_carried history n)) h in record { was = parts.0; uncarried = not-true (was_carried history n) parts.1 }

-- behind a serving, and what goes on behind it
served_given : Below → (start : Start) (earlier : Journal) (entry : Sent) → IsStart start → Lawful start earlier → head start (history_of start earlier) entry.endpoint ≡ Some entry → AreGiven (history_of start earlier) →
    AreGiven (history_of start (serves entry ∷ earlier))
unfolding history_of event_of
served_given below start earlier entry s h is given =
    let past = history_of start earlier in
    let mid = behind start (serves entry) past in
    let now = servings_take_effect start past entry in
    let serving' = is_serving below start earlier entry s (stepped start earlier h) (lawful_kept below start s earlier h).sound is in
    of_lists mid
    (same_lists (all_given past ++ option_to_list (outcome_of start past entry).token) (all_given mid) (all_sent past) (all_sent mid) now.tokens now.sent_same
    (more_given (all_given past) (all_sent past) (outcome_of start past entry).token (λ new e. next_is_length past new.token (serving'.parts.token_next new e)) (lists_of past given)))

onward_given : Below → (start : Start) (earlier : Journal) (entry : Sent) → IsStart start → Lawful start earlier → head start (history_of start earlier) entry.endpoint ≡ Some entry → AreGiven (history_of start (serves entry ∷ earlier)) →
    (o : Option Forwarded) → (outcome_of start (history_of start earlier) entry).forward ≡ o → AreGiven (history_of start (with_forward entry.place (serves entry ∷ earlier) o))
unfolding history_of
onward_given below start earlier entry s h is given None e = given
onward_given below start earlier entry s h is given (Some f) e =
    let mid = history_of start (serves entry ∷ earlier) in
    let new = sent_behind (serves entry ∷ earlier) f.endpoint (message f.bytes (f.object ∷ [])) (Some entry.place) in
    let now = sendings_wait_last start mid new in
    let serving' = is_serving below start earlier entry s (stepped start earlier h) (lawful_kept below start s earlier h).sound is in
    let low = client_low f.object (carried_is entry f.object (serving'.answered.goes_on f e).0).0 in
    of_lists _ (same_lists (all_given mid) _ (all_sent mid ++ new ∷ []) _ now.same.tokens now.sent_last
    (more_sent (all_given mid) (all_sent mid) new (λ n high c. absurd (let at = one_handle n f.object c in omega (arith, low, high, at))) (lists_of mid given)))

pub lawful_given : Below → (start : Start) → IsStart start → (journal : Journal) → Lawful start journal → AreGiven (history_of start journal)
unfolding history_of
lawful_given below start s journal begun = begun_given
lawful_given below start s journal (refused earlier frame why h is admits) =
    let past = history_of start earlier in
    let now = refusals_change_nothing start past frame.endpoint why in
    of_lists _ (same_lists (all_given past) _ (all_sent past) _ now.same.tokens now.sent (lists_of past (lawful_given below start s earlier h)))
lawful_given below start s journal (sent earlier frame h is at admits) =
    let past = history_of start earlier in
    let new = sent_behind earlier frame.endpoint (message frame.bytes frame.handles) None in
    let now = sendings_wait_last start past new in
    let admitted = message_admitted start past frame.endpoint frame.handles (refusal_of (look_ups start past) frame kind.Message at admits) in
    of_lists _ (same_lists (all_given past) _ (all_sent past ++ new ∷ []) _ now.same.tokens now.sent_last
    (more_sent (all_given past) (all_sent past) new (λ n high c. held_by start past n high (admitted.travel n c)) (lists_of past (lawful_given below start s earlier h))))
lawful_given below start s journal (closed earlier frame h is at admits) =
    let past = history_of start earlier in
    let new = sent_behind earlier frame.endpoint hang_up None in
    let now = sendings_wait_last start past new in
    of_lists _ (same_lists (all_given past) _ (all_sent past ++ new ∷ []) _ now.same.tokens now.sent_last
    (more_sent (all_given past) (all_sent past) new (λ n high c. absurd (true≢false (sym c))) (lists_of past (lawful_given below start s earlier h))))
lawful_given below start s journal (served earlier entry h is) =
    onward_given below start earlier entry s h is (served_given below start earlier entry s h is (lawful_given below start s earlier h))
    (outcome_of start (history_of start earlier) entry).forward refl
