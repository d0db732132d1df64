-- The frames of a longer journal begin with those of its past.
use Rattle.std.proofs.Common.{◌≡◌, ℕ, zero, suc, List, [], ◌∷◌, ◌++◌, Option, Some, None, refl, sym, ap, ◌∙◌, append_assoc, append-nil, fold}
use Rattle.std.proofs.lemmas.List.Sums.{fold-append}
use Rattle.link_admission.specs.Admission.{admission}
use Rattle.link_frames.specs.Frames.{Frame}
use Rattle.link_frames.specs.Numbers.{word_in}
use Rattle.link_frames.specs.declared.kinds.FrameKind.{FrameKind}
use Rattle.link_frames.specs.declared.kinds.FrameKind.TheVariants as kind
use Rattle.link_frames.specs.declared.kinds.Mode.{Mode}
use Rattle.link_frames.specs.declared.kinds.Mode.TheVariants as mode
use Rattle.link_frames.specs.declared.kinds.Refusal.{Refusal}
use Rattle.vfs_journal.specs.Entries.{Entry, Journal, Sent, serves}
use Rattle.vfs_journal.specs.History.{History}
use Rattle.vfs_journal.specs.Outcomes.{Forwarded}
use Rattle.vfs_journal.specs.Output.{frames_behind, frames_of_event}
use Rattle.vfs_journal.specs.Past.{history_of, event_of}
use Rattle.vfs_journal.specs.Serving.{outcome_of}
use Rattle.vfs_journal.specs.Session.{head, oldest, next, with_forward, after_serving, serving, serving_one, weight, drained, look_ups, admitted, by_refusal, arrives, steps, session}
use Rattle.vfs_journal.specs.Starts.{Start}

-- the frames of the first journal stand in front of those of the second
abbrev pub Begins : Start → Journal → Journal → Type 0
Begins start journal later = (more : List Frame) × (frames_behind start later ≡ frames_behind start journal ++ more)

begins_same : (start : Start) (journal : Journal) → Begins start journal journal
begins_same start journal = ([], sym (append-nil (frames_behind start journal)))

begins_far : (start : Start) (first second third : Journal) → Begins start first second → Begins start second third
    → Begins start first third
begins_far start first second third p q =
    (p.0 ++ q.0, q.1 ∙ ap (λ l. l ++ q.0) p.1 ∙ append_assoc (frames_behind start first) p.0 q.0)

begins_entry : (start : Start) (journal : Journal) (entry : Entry) → Begins start journal (entry ∷ journal)
unfolding history_of
begins_entry start journal entry =
    let past = history_of start journal in
    (frames_of_event start past (event_of start past entry), refl)

begins_forward : (start : Start) (origin : ℕ) (journal : Journal) (forward : Option Forwarded) → Begins start journal (with_forward origin journal forward)
begins_forward start origin journal None = begins_same start journal
begins_forward start origin journal (Some forward) = begins_entry start journal _

begins_served : (start : Start) (journal : Journal) (sent : Sent) → Begins start journal (after_serving start journal sent)
begins_served start journal sent =
    begins_far start journal (serves sent ∷ journal) _ (begins_entry start journal (serves sent))
    (begins_forward start sent.place (serves sent ∷ journal) (outcome_of start (history_of start journal) sent).forward)

begins_one : (start : Start) (on : Journal → Journal) (journal : Journal) → ((later : Journal) → Begins start later (on later))
    → (chosen : Option Sent) → Begins start journal (serving_one on (after_serving start journal) journal chosen)
begins_one start on journal goes None = begins_same start journal
begins_one start on journal goes (Some sent) =
    begins_far start journal (after_serving start journal sent) _ (begins_served start journal sent) (goes (after_serving start journal sent))

begins_serving : (times : ℕ) (start : Start) (choice : History → Option Sent) (journal : Journal)
    → Begins start journal (serving times start choice journal)
unfolding serving
begins_serving zero start choice journal = begins_same start journal
begins_serving (suc more) start choice journal =
    begins_one start (serving more start choice) journal (begins_serving more start choice) (choice (history_of start journal))

pub begins_drained : (start : Start) (journal : Journal) → Begins start journal (drained start journal)
begins_drained start journal = begins_serving (weight (history_of start journal)) start (next start) journal

begins_admitted : (start : Start) (journal : Journal) (k : FrameKind) (frame : Frame) → Begins start journal (admitted start journal k frame)
begins_admitted start journal kind.Message frame = begins_entry start journal _
begins_admitted start journal kind.Close frame = begins_entry start journal _
begins_admitted start journal kind.Turn frame =
    begins_serving (word_in frame.bytes) start (λ history. oldest start history frame.endpoint) journal
begins_admitted start journal kind.Pick frame = begins_serving 1 start (λ history. head start history frame.endpoint) journal
begins_admitted start journal kind.Refused frame = begins_same start journal

begins_by : (start : Start) (journal : Journal) (frame : Frame) (why : Option Refusal) → Begins start journal (by_refusal start journal frame why)
begins_by start journal frame (Some why) = begins_entry start journal _
begins_by start journal frame None = begins_admitted start journal frame.kind frame

begins_arrived : (start : Start) (journal : Journal) (frame : Frame) → Begins start journal (arrives start journal frame)
begins_arrived start journal frame =
    begins_by start journal frame (admission (look_ups start (history_of start journal)) frame)

pub begins_stepped : (start : Start) (by : Mode) (journal : Journal) (frame : Frame) → Begins start journal (steps start by journal frame)
begins_stepped start mode.Auto journal frame =
    begins_far start journal (arrives start journal frame) _ (begins_arrived start journal frame)
    (begins_drained start (arrives start journal frame))
begins_stepped start mode.Given journal frame = begins_arrived start journal frame

pub begins_all : (start : Start) (by : Mode) (journal : Journal) (frames : List Frame) → Begins start journal (fold (steps start by) journal frames)
begins_all start by journal [] = begins_same start journal
begins_all start by journal (frame ∷ frames) =
    begins_far start journal (steps start by journal frame) _ (begins_stepped start by journal frame)
    (begins_all start by (steps start by journal frame) frames)

-- nothing is written for no frames
pub nothing : (start : Start) → frames_behind start [] ≡ []
unfolding history_of
nothing start = refl

-- a session's journal with more frames
pub session-append : (start : Start) (by : Mode) (frames later : List Frame)
    → session start by (frames ++ later) ≡ fold (steps start by) (session start by frames) later
session-append start by frames later = fold-append (steps start by) [] frames later
