-- What a session writes is read back as the frames that its journal has more.
use Rattle.std.proofs.Common.{◌≡◌, ℕ, List, [], ◌++◌, length, drop, sym, ap, ◌∙◌, subst, append-nil}
use Rattle.std.specs.Prelude.{All}
use Rattle.std.proofs.Math.Seq.{drop-append_seam}
use Rattle.link_frames.specs.Frames.{Frame, IsFrame, spellings}
use Rattle.link_frames.specs.declared.kinds.Side.TheVariants as side
use Rattle.link_frames.specs.declared.kinds.Mode.{Mode}
use Rattle.fidl_wire.specs.Names.{AreDistinct}
use Rattle.frame_laws.proofs.Readings.{parts_are_read_back}
use Rattle.frame_laws.specs.Laws.{AreMore}
use Rattle.journal_laws.proofs.Below.{below}
use Rattle.journal_laws.specs.Soundness.{IsStart}
use Rattle.vfs_journal.specs.Entries.{Journal}
use Rattle.vfs_journal.specs.Lawful.{Lawful}
use Rattle.vfs_journal.specs.Output.{frames_behind}
use Rattle.vfs_journal.specs.Session.{steps}
use Rattle.vfs_journal.specs.Starts.{Start}
use Rattle.vfs_script.specs.Scripts.{Spoken, frame_of}
use Rattle.vfs_world.specs.World.{LeadsTo, StandsFor, World}
use Rattle.io_client.specs.Calls.{Calls}
use Rattle.script_session.specs.Playing.{Played, frames_since}
use Rattle.script_session.specs.Steps.{Plays}

-- these frames come back, and the bytes of the output spell them
pub record ComesBack (start : Start) (earlier later : Journal) (before after : List ℕ) : Type 0 where
  pub grown : frames_behind start later ≡ frames_behind start earlier ++ frames_since start earlier later
  pub each : All (IsFrame side.Any) (frames_since start earlier later)
  pub written : after ≡ before ++ spellings (frames_since start earlier later)

since_is : (start : Start) (earlier later : Journal) (more : List Frame) → frames_behind start later ≡ frames_behind start earlier ++ more → frames_since start earlier later ≡ more
since_is start earlier later more grown = ap (drop (length (frames_behind start earlier))) grown ∙ drop-append_seam (frames_behind start earlier) more

pub comes_back : (start : Start) (earlier later : Journal) (new : World) (before after : List ℕ) → AreDistinct → IsStart start → Lawful start earlier →
    LeadsTo start later new earlier before after → ComesBack start earlier later before after
comes_back start earlier later new before after distinct sound lawful led =
    let are : AreMore start earlier later led.part = parts_are_read_back (below distinct) start earlier later led.part sound lawful led.stands.lawful led.more in
    let same = since_is start earlier later are.more are.grown in
    let spelled : led.part ≡ spellings are.more = are.read.reads.split ∙ append-nil (spellings are.more) in
    record {
      grown = are.grown ∙ ap (λ l. frames_behind start earlier ++ l) (sym same);
      each = subst (All (IsFrame side.Any)) (sym same) are.read.each;
      written = led.written ∙ ap (λ l. before ++ l) (spelled ∙ ap spellings (sym same));
    }

-- what comes back where a script is played on
pub record Came (start : Start) (earlier later : Journal) (bytes : List ℕ) : Type 0 where
  pub each : All (IsFrame side.Any) (frames_since start earlier later)
  pub spelled : bytes ≡ spellings (frames_since start earlier later)

pub came : (start : Start) (played : Played) (later : Journal) (old new : World) (calls : Calls) (before after bytes : List ℕ) → before ≡ [] → bytes ≡ after →
    Plays start played old calls → LeadsTo start later new played.journal before after → Came start played.journal later bytes
came start played later old new calls before after bytes none is plays led =
    let back = comes_back start played.journal later new before after plays.distinct plays.stands.sound plays.stands.lawful led in
    record { each = back.each; spelled = is ∙ back.written ∙ ap (λ l. l ++ spellings (frames_since start played.journal later)) none }

-- and behind a line's frame
abbrev pub since_line : Start → Mode → Played → Spoken → List Frame
since_line start by played said = frames_since start played.journal (steps start by played.journal (frame_of said))

pub record LineBack (start : Start) (by : Mode) (played : Played) (said : Spoken) (new : World) (bytes : List ℕ) : Type 0 where
  pub stands : StandsFor start new (steps start by played.journal (frame_of said))
  pub each : All (IsFrame side.Any) (since_line start by played said)
  pub spelled : bytes ≡ spellings (since_line start by played said)

pub line_back : (start : Start) (by : Mode) (played : Played) (said : Spoken) (frame : Frame) (old new : World) (calls : Calls) (before after bytes : List ℕ) → frame_of said ≡ frame → before ≡ [] →
    bytes ≡ after → Plays start played old calls → ((journal : Journal) → StandsFor start old journal → LeadsTo start (steps start by journal frame) new journal before after) →
    LineBack start by played said new bytes
line_back start by played said frame old new calls before after bytes is none same plays heard =
    let led = subst (λ (f : Frame). LeadsTo start (steps start by played.journal f) new played.journal before after) (sym is) (heard played.journal plays.stands) in
    let back = came start played (steps start by played.journal (frame_of said)) old new calls before after bytes none same plays led in
    record { stands = led.stands; each = back.each; spelled = back.spelled }
