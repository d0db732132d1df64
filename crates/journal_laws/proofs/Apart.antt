-- No endpoint is born twice, and none travels twice.
use Rattle.std.proofs.Common.{◌≡◌, ◌≢◌, ℕ, ◌<◌, ◌==◌, ◌⊎◌, true, false, List, [], ◌∷◌, ◌++◌, Option, Some, None, flat_map, All, AllPairs, Contains, option_to_list, refl, sym, ap, ◌∙◌, subst, inl, inr, append-nil, arith}
use Rattle.std.proofs.lemmas.Bool.{eq-eqb, true≢false}
use Rattle.std.proofs.lemmas.List.Elements.{All-weaker, All-contains, All-contains_itself, Contains-append_cases}
use Rattle.std.proofs.lemmas.List.Kept.{AllPairs-filter}
use Rattle.std.proofs.lemmas.List.Quantifiers.{all_pairs_push}
use Rattle.link_frames.specs.declared.kinds.FrameKind.TheVariants as kind
use Rattle.fidl_names.specs.HandleNumber.{is_client}
use Rattle.link_admission.specs.Numbering.{among}
use Rattle.vfs_journal.specs.Entries.{Sent, Journal, message, hang_up, handles_of, endpoints_in, sends, serves}
use Rattle.vfs_journal.specs.History.{History, all_sent, births, living, waiting, travelling, is_dead}
use Rattle.vfs_journal.specs.Lawful.{Lawful}
use Rattle.vfs_journal.specs.Lawful as lawful
use Rattle.vfs_journal.specs.Outcomes.{Outcome, Forwarded}
use Rattle.vfs_journal.specs.Past.{behind, event_of, history_of}
use Rattle.vfs_journal.specs.Serving.{outcome_of}
use Rattle.vfs_journal.specs.Session.{head, look_ups, sent_behind, with_forward}
use Rattle.journal_laws.specs.Soundness.{IsStart, OtherEndpoint}
use Rattle.vfs_journal.specs.Starts.{Bound, Start}
use Rattle.journal_laws.proofs.Among.{among_of, from_many, is_found}
use Rattle.journal_laws.proofs.Below.{Below}
use Rattle.journal_laws.proofs.Kept.{lawful_kept, is_serving, message_admitted, refusal_of}
use Rattle.journal_laws.proofs.Lists.{pairs-append, pairs-head, pairs-tail}
use Rattle.journal_laws.proofs.Members.{contains_here, contains_later, contains_cases, contains_none}
use Rattle.journal_laws.proofs.Sound.{view, IsView, Transit, nothing_left}
use Rattle.journal_laws.proofs.Served.{IsAnswered}
use Rattle.journal_laws.proofs.Stepping.{GoesOn, at_each, onward_of, stepped}
use Rattle.journal_laws.proofs.Steps.{refusals_change_nothing, sendings_wait_last, servings_take_effect}
use Rattle.journal_laws.proofs.Views.{is_view}

-- ---- births

-- what a serving binds was never born
new_born : (start : Start) (history : History) (k : Sent) (o : Outcome) (x : Bound) → IsView (view start history) → Transit start (view start history) nothing_left → IsAnswered (view start history) k o → o.bound ≡ Some x →
    (b : Bound) → Contains (births start history) b → b.endpoint ≢ x.endpoint
new_born start history k o x is transit answered e b there same =
    let carried = answered.bound_in x e in
    let alive : is_dead history b.endpoint ≡ false = ap (is_dead history) same ∙ transit.alive k x.endpoint answered.waits carried in
    let lives = is.born_living b there alive in
    true≢false (sym (is_found (λ bound. bound.endpoint == x.endpoint) (living start history) b lives (eq-eqb b.endpoint x.endpoint same)) ∙ transit.unbound k x.endpoint answered.waits carried)

more_born : (bounds : List Bound) (o : Option Bound) → AllPairs OtherEndpoint bounds → ((x : Bound) → o ≡ Some x → (b : Bound) → Contains bounds b → b.endpoint ≢ x.endpoint) → AllPairs OtherEndpoint (bounds ++ option_to_list o)
more_born bounds None apart new = subst (AllPairs OtherEndpoint) (sym (append-nil bounds)) apart
more_born bounds (Some x) apart new =
    all_pairs_push OtherEndpoint bounds x apart (λ k d l. All-weaker (Contains bounds) (λ b. b.endpoint ≢ x.endpoint) (λ b h. new x refl b h) bounds (All-contains_itself bounds) k d l)

served_born : Below → (start : Start) (earlier : Journal) (k : Sent) → IsStart start → Lawful start earlier → head start (history_of start earlier) k.endpoint ≡ Some k → AllPairs OtherEndpoint (births start (history_of start earlier)) →
    AllPairs OtherEndpoint (births start (history_of start (serves k ∷ earlier)))
unfolding history_of event_of
served_born below start earlier k s h first past =
    let history = history_of start earlier in
    let steps = stepped start earlier h in
    let kept = lawful_kept below start s earlier h in
    let answered = (is_serving below start earlier k s steps kept.sound first).answered in
    subst (AllPairs OtherEndpoint) (sym (servings_take_effect start history k).born)
    (more_born (births start history) (outcome_of start history k).bound past (λ x e. new_born start history k (outcome_of start history k) x (is_view start earlier steps) kept.transit answered e))

births_go_on : Below → (start : Start) → IsStart start → GoesOn start (λ journal. AllPairs OtherEndpoint (births start (history_of start journal)))
unfolding history_of
births_go_on below start s = record {
  begins = subst (AllPairs OtherEndpoint) (sym (append-nil (start.firsts ++ start.mounts))) s.apart;
  refuses_on = λ earlier endpoint why h. subst (AllPairs OtherEndpoint) (sym (refusals_change_nothing start (history_of start earlier) endpoint why).same.born) h;
  sends_on = λ earlier one is alone h. subst (AllPairs OtherEndpoint) (sym (sendings_wait_last start (history_of start earlier) one).same.born) h;
  serves_on = λ earlier one all first h. served_born below start earlier one s all first h;
  forwards_on = λ earlier one forward all first e old h.
      subst (AllPairs OtherEndpoint) (sym (sendings_wait_last start (history_of start (serves one ∷ earlier)) (onward_of earlier one forward)).same.born) h;
}

pub births_apart : Below → (start : Start) → IsStart start → (journal : Journal) → Lawful start journal → AllPairs OtherEndpoint (births start (history_of start journal))
births_apart below start s journal h =
    at_each start (λ past. AllPairs OtherEndpoint (births start (history_of start past))) (births_go_on below start s) journal (stepped start journal h)

-- ---- what travels

abbrev pub OtherNumber : ℕ → ℕ → Type 0
OtherNumber one other = one ≢ other

-- no entry carries a handle twice
abbrev pub CarryApart : List Sent → Type 0
CarryApart ones = (one : Sent) → Contains ones one → AllPairs OtherNumber (handles_of one.sending)

pub endpoints_apart : (one : Sent) → AllPairs OtherNumber (handles_of one.sending) → AllPairs OtherNumber (endpoints_in one)
endpoints_apart one h = AllPairs-filter OtherNumber is_client (handles_of one.sending) h

more_apart : (ones now : List Sent) (new : Sent) → CarryApart ones → AllPairs OtherNumber (handles_of new.sending) → now ≡ ones ++ new ∷ [] → CarryApart now
more_apart ones now new past h e one p = by_side (Contains-append_cases ones (new ∷ []) one (subst (λ xs. Contains xs one) e p)) where
  by_place : (new ≡ one) ⊎ Contains [] one → AllPairs OtherNumber (handles_of one.sending)
  by_place (inl same) = subst (λ (x : Sent). AllPairs OtherNumber (handles_of x.sending)) same h
  by_place (inr q) = absurd (contains_none one q)

  by_side : Contains ones one ⊎ Contains (new ∷ []) one → AllPairs OtherNumber (handles_of one.sending)
  by_side (inl q) = past one q
  by_side (inr q) = by_place (contains_cases one new [] q)

same_apart : (ones now : List Sent) → CarryApart ones → now ≡ ones → CarryApart now
same_apart ones now past e = subst CarryApart (sym e) past

forward_apart : (start : Start) (journal : Journal) (origin : ℕ) (o : Option Forwarded) → CarryApart (all_sent (history_of start journal)) → CarryApart (all_sent (history_of start (with_forward origin journal o)))
unfolding history_of
forward_apart start journal origin None h = h
forward_apart start journal origin (Some f) h =
    let new = sent_behind journal f.endpoint (message f.bytes (f.object ∷ [])) (Some origin) in
    more_apart (all_sent (history_of start journal)) (all_sent (behind start (sends new) (history_of start journal))) new h (λ i j d a b. absurd (omega arith))
    (sendings_wait_last start (history_of start journal) new).sent_last

pub carry_apart : (start : Start) (journal : Journal) → Lawful start journal → CarryApart (all_sent (history_of start journal))
unfolding history_of
carry_apart start journal lawful.begun = λ one p. absurd (contains_none one p)
carry_apart start journal (lawful.refused earlier frame why h is admits) =
    same_apart (all_sent (history_of start earlier)) _ (carry_apart start earlier h) (refusals_change_nothing start (history_of start earlier) frame.endpoint why).sent
carry_apart start journal (lawful.sent earlier frame h is at admits) =
    let new = sent_behind earlier frame.endpoint (message frame.bytes frame.handles) None in
    let history = history_of start earlier in
    more_apart (all_sent history) (all_sent (behind start (sends new) history)) new (carry_apart start earlier h)
    (message_admitted start history frame.endpoint frame.handles (refusal_of (look_ups start history) frame kind.Message at admits)).distinct (sendings_wait_last start history new).sent_last
carry_apart start journal (lawful.closed earlier frame h is at admits) =
    let new = sent_behind earlier frame.endpoint hang_up None in
    let history = history_of start earlier in
    more_apart (all_sent history) (all_sent (behind start (sends new) history)) new (carry_apart start earlier h) (λ i j d a b. absurd (omega arith)) (sendings_wait_last start history new).sent_last
carry_apart start journal (lawful.served earlier entry h is) =
    forward_apart start (serves entry ∷ earlier) entry.place (outcome_of start (history_of start earlier) entry).forward
    (same_apart (all_sent (history_of start earlier)) (all_sent (behind start (serves entry) (history_of start earlier))) (carry_apart start earlier h) (servings_take_effect start (history_of start earlier) entry).sent_same)

-- numbers that no entry has twice, and no two entries have, are apart
pub many_apart : (f : Sent → List ℕ) (ones : List Sent) → ((one : Sent) → Contains ones one → AllPairs OtherNumber (f one)) →
    ((one other : Sent) (n : ℕ) → Contains ones one → Contains ones other → among n (f one) ≡ true → among n (f other) ≡ true → one ≡ other) →
    AllPairs (λ one other. one.place < other.place) ones → AllPairs OtherNumber (flat_map f ones)
many_apart f [] each once rises = λ i j d a b. absurd (omega arith)
many_apart f (one ∷ ones) each once rises =
    pairs-append OtherNumber (f one) (flat_map f ones) (each one (contains_here one ones))
    (many_apart f ones (λ x p. each x (contains_later x one ones p)) (λ x y n p q. once x y n (contains_later x one ones p) (contains_later y one ones q)) (pairs-tail (λ (x y : Sent). x.place < y.place) one ones rises))
    (All-weaker (Contains (f one)) (λ n. All (OtherNumber n) (flat_map f ones))
    (λ n p. All-weaker (Contains (flat_map f ones)) (OtherNumber n) (λ m q same. clash n m p q same) (flat_map f ones) (All-contains_itself (flat_map f ones)))
    (f one) (All-contains_itself (f one))) where
      clash : (n m : ℕ) → Contains (f one) n → Contains (flat_map f ones) m → n ≡ m → ⊥
      clash n m p q same =
          let u = from_many f m ones (among_of m (flat_map f ones) q) in
          let has : among m (f one) ≡ true = among_of m (f one) (subst (Contains (f one)) same p) in
          let one_is : one ≡ u.0 = once one u.0 m (contains_here one ones) (contains_later u.0 one ones u.1) has u.2 in
          let after : one.place < u.0.place = All-contains (λ (x : Sent). one.place < x.place) ones u.0 (pairs-head (λ (x y : Sent). x.place < y.place) one ones rises) u.1 in
          let equal : one.place ≡ u.0.place = ap (λ (x : Sent). x.place) one_is in
          omega (arith, after, equal)

pub travelling_apart : (start : Start) (journal : Journal) → Lawful start journal → IsView (view start (history_of start journal)) → Transit start (view start (history_of start journal)) nothing_left →
    AllPairs OtherNumber (travelling (history_of start journal))
travelling_apart start journal h is transit =
    let history = history_of start journal in
    many_apart endpoints_in (waiting history) (λ one p. endpoints_apart one (carry_apart start journal h one (is.waits one p))) transit.once is.rises
