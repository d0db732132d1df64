-- How many entries wait.
use Rattle.std.proofs.Common.{◌≡◌, ℕ, suc, ◌+◌, ◌<◌, ◌≤◌, ◌==◌, ◌⊎◌, Bool, true, false, cond, not, if◌then◌else◌, inl, inr, List, [], ◌∷◌, length, filter, option_to_list, Option, Some, None, All, AllPairs, Contains, refl, sym, ap, ◌∙◌, subst, arith, length-append}
use Rattle.std.proofs.lemmas.Bool.{eq-eqb, leb-false, ne_eqb}
use Rattle.std.proofs.lemmas.List.Elements.{All-contains, All-head, All-tail}
use Rattle.std.proofs.lemmas.List.Filters.{length-filter_both}
use Rattle.std.proofs.lemmas.List.Sums.{count_by-le-length, length-filter}
use Rattle.fidl_names.specs.First.{cause_if, first_of}
use Rattle.fidl_names.specs.declared.limits.TheConstants as limit
use Rattle.fidl_names.specs.HandleNumber.{is_client}
use Rattle.link_admission.specs.Admission.{LookUps, admission, all_may_travel, by_standing, is_full, refusal_by, too_many}
use Rattle.link_frames.specs.declared.kinds.FrameKind.{FrameKind}
use Rattle.link_frames.specs.declared.kinds.FrameKind.TheVariants as kind
use Rattle.link_frames.specs.declared.kinds.Refusal.{Refusal}
use Rattle.link_frames.specs.declared.kinds.Refusal.TheVariants as refusal
use Rattle.link_frames.specs.Frames.{Frame}
use Rattle.link_admission.specs.Numbering.{among}
use Rattle.vfs_journal.specs.Deaths.{others}
use Rattle.vfs_journal.specs.Entries.{Sent, Journal, message, hang_up, sends, serves}
use Rattle.vfs_journal.specs.Fit.{IsFit}
use Rattle.vfs_journal.specs.History.{History, waiting, waits}
use Rattle.vfs_journal.specs.Lawful.{Lawful}
use Rattle.vfs_journal.specs.Lawful as lawful
use Rattle.vfs_journal.specs.Outcomes.{Forwarded}
use Rattle.vfs_journal.specs.Past.{behind, event_of, history_of}
use Rattle.vfs_journal.specs.Serving.{outcome_of}
use Rattle.vfs_journal.specs.Session.{head, look_ups, sent_behind, with_forward}
use Rattle.vfs_journal.specs.Starts.{Start}
use Rattle.vfs_journal.specs.View.{View, deaths_in, event_in, head_in, onward_in, others_in, outcome_in, serving_in, then_in}
use Rattle.journal_laws.specs.Knowing.{dropped_in}
use Rattle.journal_laws.specs.Viewing.{view_behind}
use Rattle.journal_laws.proofs.Lists.{pairs-head, pairs-tail}
use Rattle.journal_laws.proofs.LookedUp.{is_first}
use Rattle.journal_laws.proofs.Members.{contains_cases, contains_none}
use Rattle.journal_laws.proofs.Places.{waiting_rises}
use Rattle.journal_laws.proofs.Stepping.{stepped}
use Rattle.journal_laws.proofs.Steps.{refusals_change_nothing, sendings_wait_last, servings_take_effect}
use Rattle.journal_laws.proofs.ViewParts.{head_is_in}

abbrev IsBefore : Sent → Sent → Type 0
IsBefore one later = one.place < later.place

-- where none has a place, all are kept
all_kept : (place : ℕ) (ones : List Sent) → All (λ (one : Sent). place < one.place) ones → filter (λ one. not (one.place == place)) ones ≡ ones
all_kept place [] h = refl
all_kept place (one ∷ ones) h =
    let after : place < one.place = All-head (λ (x : Sent). place < x.place) one ones h in
    ap (λ (b : Bool). cond (not b) (one ∷ filter (λ x. not (x.place == place)) ones) (filter (λ x. not (x.place == place)) ones)) (ne_eqb one.place place (λ e. omega (arith, after, e)))
    ∙ ap (λ (xs : List Sent). one ∷ xs) (all_kept place ones (All-tail (λ (x : Sent). place < x.place) one ones h))

-- one has the place of an entry
one_less : (sent : Sent) (ones : List Sent) → AllPairs (λ one later. one.place < later.place) ones → Contains ones sent → length (filter (λ one. not (one.place == sent.place)) ones) + 1 ≡ length ones
one_less sent [] rises p = absurd (contains_none sent p)
one_less sent (one ∷ ones) rises p = by_place (one_less sent ones (pairs-tail IsBefore one ones rises)) (contains_cases sent one ones p) where
  by_place : (Contains ones sent → length (filter (λ x. not (x.place == sent.place)) ones) + 1 ≡ length ones) → (one ≡ sent) ⊎ Contains ones sent →
      length (cond (not (one.place == sent.place)) (one ∷ filter (λ x. not (x.place == sent.place)) ones) (filter (λ x. not (x.place == sent.place)) ones)) + 1 ≡ suc (length ones)
  by_place rest (inl e) =
      let here = ap (λ (b : Bool). length (cond (not b) (one ∷ filter (λ x. not (x.place == sent.place)) ones) (filter (λ x. not (x.place == sent.place)) ones)) + 1) (eq-eqb one.place sent.place (ap (λ (x : Sent). x.place) e)) in
      let all = ap length (subst (λ (n : ℕ). filter (λ x. not (x.place == n)) ones ≡ ones) (ap (λ (x : Sent). x.place) e) (all_kept one.place ones (pairs-head IsBefore one ones rises))) in
      here ∙ omega (arith, all)
  by_place rest (inr q) =
      let after : one.place < sent.place = All-contains (λ (x : Sent). one.place < x.place) ones sent (pairs-head IsBefore one ones rises) q in
      let here = ap (λ (b : Bool). length (cond (not b) (one ∷ filter (λ x. not (x.place == sent.place)) ones) (filter (λ x. not (x.place == sent.place)) ones)) + 1) (ne_eqb one.place sent.place (λ e. omega (arith, after, e))) in
      let less = rest q in
      here ∙ omega (arith, less)

-- ---- behind a serving

onward_longer : (view : View) (sent : Sent) (o : Option Forwarded) → length (onward_in view sent o).waiting ≡ length view.waiting + length (option_to_list o)
onward_longer view sent None = omega arith
onward_longer view sent (Some forward) = length-append view.waiting _

pub counts_waiting : (view : View) (sent : Sent) → IsFit view → head_in view sent.endpoint ≡ Some sent →
    length (then_in view sent).waiting + (1 + length (dropped_in view sent)) ≡ length view.waiting + length (option_to_list (outcome_in view sent).forward)
counts_waiting view sent fit h =
    let on = onward_longer (serving_in view sent (event_in view sent)) sent (outcome_in view sent).forward in
    let both = length-filter_both (λ (other : Sent). among other.endpoint (deaths_in view sent)) (λ (other : Sent). not (among other.endpoint (deaths_in view sent))) (λ other. refl) (others_in view sent) in
    let less = one_less sent view.waiting fit.rise (is_first view sent h).waits in
    omega (arith, on, both, less)

-- ---- no more than may

-- behind two causes the third doesn't hold, nor the fourth behind three, where none holds
third_passes : (a b : Option Refusal) (full : Bool) (rest : List (Option Refusal)) → first_of (a ∷ b ∷ cause_if full refusal.ShouldWait ∷ rest) ≡ None → full ≡ false
third_passes None None false rest e = refl
third_passes None None true rest e = absurd (cc)
third_passes None (Some s) full rest e = absurd (cc)
third_passes (Some s) b full rest e = absurd (cc)

fourth_passes : (a b c : Option Refusal) (full : Bool) (rest : List (Option Refusal)) → first_of (a ∷ b ∷ c ∷ cause_if full refusal.ShouldWait ∷ rest) ≡ None → full ≡ false
fourth_passes None b c full rest e = third_passes b c full rest e
fourth_passes (Some s) b c full rest e = absurd (cc)

-- what is admitted finds room
message_room : (l : LookUps) (e : ℕ) (handles : List ℕ) → refusal_by kind.Message l e handles ≡ None → is_full l ≡ false
message_room l e handles h =
    fourth_passes (by_standing (l.standing e)) (cause_if (not (is_client e)) refusal.BadHandle) (cause_if (not (all_may_travel l handles)) refusal.BadHandle) (is_full l)
    (cause_if (too_many l handles) refusal.NoResources ∷ []) h

close_room : (l : LookUps) (e : ℕ) (handles : List ℕ) → refusal_by kind.Close l e handles ≡ None → is_full l ≡ false
close_room l e handles h = third_passes (by_standing (l.standing e)) (cause_if (not (is_client e)) refusal.BadHandle) (is_full l) [] h

by_kind : (start : Start) (history : History) (frame : Frame) (k : FrameKind) → frame.kind ≡ k → admission (look_ups start history) frame ≡ None → refusal_by k (look_ups start history) frame.endpoint frame.handles ≡ None
by_kind start history frame k is admits = ap (λ (x : FrameKind). refusal_by x (look_ups start history) frame.endpoint frame.handles) (sym is) ∙ admits

room_left : (start : Start) (history : History) → is_full (look_ups start history) ≡ false → length (waiting history) < limit.MAX_WAITING
room_left start history e = leb-false limit.MAX_WAITING (length (waiting history)) e

at_most_one : {X : Type 0} (b : Bool) (x : X) → length (if b then x ∷ [] else []) ≤ 1
at_most_one true x = omega arith
at_most_one false x = omega arith

sent_longer : (start : Start) (past : History) (one : Sent) → length (waiting (behind start (sends one) past)) ≤ length (waiting past) + 1
sent_longer start past one =
    let queue = ap length (sendings_wait_last start past one).queue in
    let more = length-append (waiting past) (if waits past one then one ∷ [] else []) in
    let few = at_most_one (waits past one) one in
    omega (arith, queue, more, few)

-- behind a serving one less waits
served_shorter : (start : Start) (journal : Journal) (one : Sent) → Lawful start journal → head start (history_of start journal) one.endpoint ≡ Some one →
    length (waiting (behind start (serves one) (history_of start journal))) + 1 ≤ length (waiting (history_of start journal))
served_shorter start journal one h first =
    let past = history_of start journal in
    let event = event_of start past (serves one) in
    let queue = ap length (servings_take_effect start past one).queue in
    let few = length-filter (λ (other : Sent). not (among other.endpoint event.deaths)) (others past one) in
    let most = count_by-le-length (λ (other : Sent). not (among other.endpoint event.deaths)) (others past one) in
    let there = (is_first (view_behind start journal) one (sym (head_is_in start past one.endpoint) ∙ first)).waits in
    let less = one_less one (waiting past) (waiting_rises start journal (stepped start journal h)) there in
    omega (arith, queue, few, most, less)

onward_few : (start : Start) (journal : Journal) (origin : ℕ) (o : Option Forwarded) → length (waiting (history_of start (with_forward origin journal o))) ≤ length (waiting (history_of start journal)) + 1
unfolding history_of
onward_few start journal origin None = omega arith
onward_few start journal origin (Some f) = sent_longer start (history_of start journal) (sent_behind journal f.endpoint (message f.bytes (f.object ∷ [])) (Some origin))

pub lawful_wait : (start : Start) (journal : Journal) → Lawful start journal → length (waiting (history_of start journal)) ≤ limit.MAX_WAITING
unfolding history_of
lawful_wait start journal lawful.begun = omega arith
lawful_wait start journal (lawful.refused earlier frame why h is admits) =
    let rest = lawful_wait start earlier h in
    let same = ap length (refusals_change_nothing start (history_of start earlier) frame.endpoint why).queue in
    omega (arith, rest, same)
lawful_wait start journal (lawful.sent earlier frame h is at admits) =
    let longer = sent_longer start (history_of start earlier) (sent_behind earlier frame.endpoint (message frame.bytes frame.handles) None) in
    let past = history_of start earlier in
    let room = room_left start past (message_room (look_ups start past) frame.endpoint frame.handles (by_kind start past frame kind.Message at admits)) in
    omega (arith, longer, room)
lawful_wait start journal (lawful.closed earlier frame h is at admits) =
    let longer = sent_longer start (history_of start earlier) (sent_behind earlier frame.endpoint hang_up None) in
    let past = history_of start earlier in
    let room = room_left start past (close_room (look_ups start past) frame.endpoint frame.handles (by_kind start past frame kind.Close at admits)) in
    omega (arith, longer, room)
lawful_wait start journal (lawful.served earlier entry h is) =
    let rest = lawful_wait start earlier h in
    let less = served_shorter start earlier entry h is in
    let more = onward_few start (serves entry ∷ earlier) entry.place (outcome_of start (history_of start earlier) entry).forward in
    omega (arith, rest, less, more)
