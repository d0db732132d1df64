-- The names of a copy of a session's output are those of the directory that is watched.
use Rattle.std.proofs.Common.{◌≡◌, ◌==◌, ℕ, cond, ◌&&◌, List, [], ◌∷◌, ◌++◌, Some, refl, sym, ap, ◌∙◌, subst, append-nil}
use Rattle.std.specs.Prelude.{IsTrue, filter}
use Rattle.fidl_wire.specs.Names.{AreDistinct}
use Rattle.link_frames.specs.Frames.{Frame, Frames}
use Rattle.link_frames.specs.declared.kinds.FrameKind.{FrameKind}
use Rattle.link_frames.specs.declared.kinds.FrameKind.TheVariants as kind
use Rattle.link_frames.specs.declared.kinds.Mode.{Mode}
use Rattle.link_frames.specs.declared.kinds.Side.TheVariants.{Any}
use Rattle.session_start.specs.Items.{Lists}
use Rattle.watch_events.specs.Events.{Event}
use Rattle.watch_events.specs.NamesNow.{is_named_now}
use Rattle.std.specs.Io.KnownBytes.{Consumes}
use Rattle.vfs_journal.specs.Output.{frames_behind}
use Rattle.vfs_journal.specs.Output as output
use Rattle.vfs_journal.specs.Session.{ended}
use Rattle.vfs_journal.specs.Starts.{Bound, start_of}
use Rattle.journal_laws.proofs.Below.{below}
use Rattle.journal_laws.proofs.Draining.{sessions_are_lawful}
use Rattle.journal_laws.proofs.Starting.{accepted_starts_are_starts}
use Rattle.frame_laws.proofs.Readings.{sessions_are_read_back}
use Rattle.session_laws.specs.Watching.{KnowsItsNames}
use Rattle.session_laws.specs.Sight.{AreWritten}
use Rattle.session_laws.specs.Sight as sight
use Rattle.session_laws.proofs.Knowing.{know_their_names}
use Rattle.run_status.specs.Outside.{Streams}
use Rattle.dir_mirror.specs.Copies.{AreTold, is_message, messages_on}
use Rattle.mirror_program.specs.Answers.{Answers}
use Rattle.mirror_program.specs.Watched.{IsWatching, WroteItsNames, past_of, written_by}
use Rattle.mirror_program.specs.declared.statuses.MirrorStatus.{MirrorStatus}
use Rattle.mirror_program.specs.declared.statuses.MirrorStatus.TheVariants as status
use Rattle.mirror_program.proofs.Complete.{untaken}

same_kind : (k : FrameKind) → is_message k ≡ output.is_message k
same_kind kind.Message = refl
same_kind kind.Close = refl
same_kind kind.Turn = refl
same_kind kind.Pick = refl
same_kind kind.Refused = refl

-- the messages on an endpoint, in the words of those who write them
same_messages : (endpoint : ℕ) (frames : List Frame) → messages_on endpoint frames ≡ filter (sight.is_message_on endpoint) frames
same_messages endpoint [] = refl
same_messages endpoint (frame ∷ frames) =
    ap (λ b. cond (b && (frame.endpoint == endpoint)) (frame ∷ messages_on endpoint frames) (messages_on endpoint frames)) (same_kind frame.kind)
    ∙ ap (λ l. cond (sight.is_message_on endpoint frame) (frame ∷ l) l) (same_messages endpoint frames)

written : (messages : List Frame) (events : List Event) → AreTold messages events → AreWritten messages events
written [] events told = told
written (message ∷ later) events told = (told.0, told.1, told.2.whole, written later told.1 told.3, told.4)

-- what the watcher knows, behind the last drain
knows : AreDistinct → (lists : Lists) (by : Mode) (sent : List Frame) (watcher : Bound) → IsWatching lists by sent watcher → KnowsItsNames (start_of lists) (past_of lists by sent) watcher
knows apart lists by sent watcher is =
    know_their_names (below apart) (start_of lists) [] (ended (start_of lists) by sent) (accepted_starts_are_starts lists is.accepted is.of_bytes)
    (sessions_are_lawful (start_of lists) by sent is.each).1 watcher is.lives is.watches is.asks

pub watched : AreDistinct → (endpoint : ℕ) (before after : Streams) (same : Type 0) (lists : Lists) (by : Mode) (sent : List Frame) (watcher : Bound)
    → IsWatching lists by sent watcher → watcher.endpoint ≡ endpoint → before.left ≡ Some (written_by lists by sent)
    → (answer : MirrorStatus) → answer ≡ status.Done → Answers endpoint before after same answer → WroteItsNames lists by sent watcher before after
watched apart endpoint before after same lists by sent watcher is on told answer done answers =
    let a = subst (Answers endpoint before after same) done answers in
    let copy = a.0 in
    let all = a.1.0 in
    let left = untaken (written_by lists by sent) all.taken after.left (subst (λ l. Consumes l after.left all.taken) told all.took) in
    let taken : written_by lists by sent ≡ all.taken = left.1 ∙ ap (λ l. all.taken ++ l) (left.2 all.at_end) ∙ append-nil all.taken in
    let back = (sessions_are_read_back (below apart) lists by sent is.accepted is.of_bytes is.each).1 in
    let frames : all.frames ≡ frames_behind (start_of lists) (ended (start_of lists) by sent) =
    (back.once all.frames [] (subst (λ b. Frames Any b all.frames []) (sym taken) all.read)).0 in
    let known = knows apart lists by sent watcher is in
    let e : copy.endpoint ≡ watcher.endpoint = all.of_it ∙ sym on in
    let events : all.mirrors.events ≡ known.events =
    known.alone all.mirrors.events
    (subst (λ l. AreWritten l all.mirrors.events)
    (ap (λ n. messages_on n all.frames) e ∙ same_messages watcher.endpoint all.frames ∙ ap (filter (sight.is_message_on watcher.endpoint)) frames)
    (written (messages_on copy.endpoint all.frames) all.mirrors.events all.mirrors.told)) in
    record {
      names = copy.names;
      gone = copy.ended;
      wrote = a.2;
      ascending = all.mirrors.ascending;
      named = λ name.
          let here = all.mirrors.named name in
          let there = known.named name in (
            λ has. there.0 (subst (λ es. IsTrue (is_named_now es name)) events (here.0 has)),
            λ has. here.1 (subst (λ es. IsTrue (is_named_now es name)) (sym events) (there.1 has)),
          );
    }
