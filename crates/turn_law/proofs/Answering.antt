-- A serving is answered as in a moment of the table, and its messages are what is written.
use Rattle.std.proofs.Common.{◌≡◌, ℕ, ◌==◌, ◌&&◌, ◌⊎◌, not, List, [], ◌∷◌, ◌++◌, Option, Some, None, Contains, filter, refl, sym, ap, ◌∙◌, subst, inl, inr, append-nil}
use Rattle.std.specs.Option.{option_map_or}
use Rattle.std.proofs.lemmas.List.Elements.{All-contains, Contains-append_left, Contains-append_right, filter-append}
use Rattle.link_frames.specs.Frames.{Frame}
use Rattle.link_admission.specs.Numbering.{among}
use Rattle.node_graph.specs.Tree.{Tree}
use Rattle.vfs_journal.specs.Entries.{Journal, Sent, serves}
use Rattle.vfs_journal.specs.History.{Event, History, living, position_of, tree_at, trees_of}
use Rattle.vfs_journal.specs.Lawful.{Lawful}
use Rattle.vfs_journal.specs.Outcomes.{Forwarded, Outcome, close_frame}
use Rattle.vfs_journal.specs.Output.{close_frames, frames_behind, frames_of_serving, is_message, rising}
use Rattle.vfs_journal.specs.Past.{event_of, history_of}
use Rattle.vfs_journal.specs.Serving.{moment_of, outcome_at, outcome_of, outcome_of_sending}
use Rattle.vfs_journal.specs.Session.{after_serving, with_forward}
use Rattle.vfs_journal.specs.Starts.{Bound, Start}
use Rattle.vfs_journal.specs.Watching.{first_frames, told_frames}
use Rattle.journal_laws.proofs.Below.{Below}
use Rattle.journal_laws.proofs.Filters.{none_mapped}
use Rattle.turn_law.specs.Invariant.{ServingsAreAnsweredStill, written_on}
use Rattle.turn_law.specs.Premises.{TellsLimit}
use Rattle.turn_law.specs.Quiet.{IsNoWatcher, IsStill, StaysStill}
use Rattle.turn_law.specs.Room.{TellOfLimit}
use Rattle.turn_law.specs.Steps.{frames_in, journal_of}
use Rattle.turn_law.specs.Told.{messages_on, still}
use Rattle.turn_law.proofs.Arrivals.{written_sent}
use Rattle.turn_law.proofs.BySteps.{by_steps}
use Rattle.turn_law.proofs.LinkedSteps.{Linked, Quiet, linked_goes_on}
use Rattle.turn_law.proofs.QuietSessions.{Heads, heads, serving_still, stay_still}
use Rattle.turn_law.proofs.RoomSends.{answers_still}
use Rattle.turn_law.proofs.StepsMade.{steps_lawful}

-- ---- the frames of a serving

-- a new connection that watches nothing is told nothing first
first_nothing : (trees : List Tree) (o : Option Bound) → ((bound : Bound) → o ≡ Some bound → IsNoWatcher bound × (bound.mask ≡ 0)) → option_map_or (λ bound. first_frames (tree_at trees bound.server) bound) o [] ≡ []
first_nothing trees None h = refl
first_nothing trees (Some bound) h = unmasked bound.mask (h bound refl).1 where
  by_mask : ℕ → List Frame
  by_mask mask = first_frames (tree_at trees bound.server) (record bound { mask = mask })

  unmasked : (mask : ℕ) → mask ≡ 0 → by_mask mask ≡ []
  unmasked mask e = ap by_mask e

messages_of_serving : (trees : List Tree) (alive : List Bound) (event : Event) (n : ℕ) → IsStill event.outcome → messages_on n (frames_of_serving trees alive event) ≡ messages_on n event.outcome.frames
messages_of_serving trees alive event n still' =
    ap (λ (fs : List Frame). messages_on n (event.outcome.frames ++ fs ++ told_frames alive event.outcome.server event.outcome.told ++ close_frames event)) (first_nothing trees event.outcome.bound still'.bound)
    ∙ ap (λ told. messages_on n (event.outcome.frames ++ [] ++ told_frames alive event.outcome.server told ++ close_frames event)) still'.untold
    ∙ ap (λ (fs : List Frame). messages_on n (fs ++ [] ++ close_frames event)) (append-nil event.outcome.frames)
    ∙ ap (λ (fs : List Frame). messages_on n (fs ++ close_frames event)) (append-nil event.outcome.frames)
    ∙ filter-append (λ (f : Frame). is_message f.kind && (f.endpoint == n)) event.outcome.frames (close_frames event)
    ∙ ap (λ (fs : List Frame). messages_on n event.outcome.frames ++ fs) (none_mapped (λ (f : Frame). is_message f.kind && (f.endpoint == n)) close_frame (rising (filter (λ endpoint. not (among endpoint event.outcome.ends)) event.deaths)) (λ x. refl))
    ∙ append-nil (messages_on n event.outcome.frames)

written_serves : (start : Start) (journal : Journal) (one : Sent) (n : ℕ) → IsStill (outcome_of start (history_of start journal) one) →
    written_on start (serves one ∷ journal) n ≡ written_on start journal n ++ messages_on n (outcome_of start (history_of start journal) one).frames
unfolding history_of event_of
written_serves start journal one n still' =
    let past = history_of start journal in
    filter-append (λ (f : Frame). is_message f.kind && (f.endpoint == n)) (frames_behind start journal) (frames_of_serving (trees_of start past) (living start past) (event_of start past (serves one)))
    ∙ ap (λ (fs : List Frame). written_on start journal n ++ fs) (messages_of_serving (trees_of start past) (living start past) (event_of start past (serves one)) n still')

written_after : (start : Start) (journal : Journal) (one : Sent) (n : ℕ) (o : Option Forwarded) → written_on start (with_forward one.place (serves one ∷ journal) o) n ≡ written_on start (serves one ∷ journal) n
written_after start journal one n None = refl
written_after start journal one n (Some forward) = written_sent start (serves one ∷ journal) _ n

-- ---- no limit

answer_there : (start : Start) (journal : Journal) (one : Sent) (frame : Frame) → Contains (outcome_of start (history_of start journal) one).frames frame → Contains (frames_behind start (serves one ∷ journal)) frame
unfolding history_of event_of
answer_there start journal one frame there =
    let past = history_of start journal in
    let event = event_of start past (serves one) in
    Contains-append_right (frames_behind start journal) (frames_of_serving (trees_of start past) (living start past) event) frame
    (Contains-append_left _ (close_frames event) frame
    (Contains-append_left _ (told_frames (living start past) event.outcome.server event.outcome.told) frame
    (Contains-append_left event.outcome.frames _ frame there)))

answer_after : (start : Start) (journal : Journal) (one : Sent) (frame : Frame) (o : Option Forwarded) → Contains (frames_behind start (serves one ∷ journal)) frame → Contains (frames_behind start (with_forward one.place (serves one ∷ journal) o)) frame
unfolding history_of
answer_after start journal one frame None there = there
answer_after start journal one frame (Some forward) there = Contains-append_left (frames_behind start (serves one ∷ journal)) _ frame there

-- ---- the law

pub answered_still : Below → ServingsAreAnsweredStill
unfolding journal_of
answered_still below start steps one bound s can keeps at = record { outcome = outcome'; written = λ n. written_after start journal one n (outcome_of start past one).forward ∙ written_serves start journal one n still' } where
  journal : Journal
  journal = journal_of start steps

  past : History
  past = history_of start journal

  lawful' : Lawful start journal
  lawful' = steps_lawful start steps can.1

  quiet : Quiet start journal (frames_in steps)
  quiet = (by_steps start (λ j fs. Quiet start j fs × Linked start j fs) (linked_goes_on below start s) steps can.1).0

  stays : StaysStill start past
  stays = stay_still below start journal s lawful' (quiet keeps.changes)

  first : Heads start journal one
  first = heads below start journal one s lawful' can.0

  still' : IsStill (outcome_of start past one)
  still' = serving_still below start past one first.serving' first.born (stays.sent one first.was_sent) stays

  whole : outcome_of start past one ≡ outcome_of_sending (moment_of start past bound) one.sending
  whole = ap (outcome_at start past one) at

  limited : TellOfLimit (outcome_of_sending (moment_of start past bound) one.sending).frames → ⊥
  limited t =
      All-contains (λ frame. ¬ (TellsLimit frame)) (frames_behind start (after_serving start journal one)) t.frame keeps.limits
      (answer_after start journal one t.frame (outcome_of start past one).forward
      (answer_there start journal one t.frame (subst (λ (o : Outcome). Contains o.frames t.frame) (sym whole) t.there)))
      t.tells

  by_case : (outcome_of_sending (moment_of start past bound) one.sending ≡ outcome_of_sending (still start (bound, position_of past bound.endpoint)) one.sending) ⊎ TellOfLimit (outcome_of_sending (moment_of start past bound) one.sending).frames →
      outcome_of start past one ≡ outcome_of_sending (still start (bound, position_of past bound.endpoint)) one.sending
  by_case (inl e) = whole ∙ e
  by_case (inr t) = absurd (limited t)

  outcome' : outcome_of start past one ≡ outcome_of_sending (still start (bound, position_of past bound.endpoint)) one.sending
  outcome' = by_case (answers_still below.spelled start (moment_of start past bound) one.sending (ap (λ (trees : List Tree). tree_at trees bound.server) stays.trees) (stays.sent one first.was_sent))
