-- How a command ends that writes one text, and how the note is told.
use Rattle.std.specs.Prelude.{◌≡◌, List, ℕ, OnErr, OnOk, Option, Result}
use Rattle.std.specs.Io.KnownBytes.{Appends}
use Rattle.host_io.specs.Causes.{HasCause, Rose}
use Rattle.host_io.specs.Streams.{AppendsPart, IsFlushed}
use Rattle.run_status.specs.declared.statuses.Status.{Status}
use Rattle.run_status.specs.declared.statuses.Status.TheVariants as status
use Rattle.run_status.specs.Outside.{SinkTold}

-- these bytes stand behind what was written, and all is flushed
abbrev pub PassedOn : Option (List ℕ) → Option (List ℕ) → List ℕ → ℕ → Type 0
PassedOn written written' bytes flushed = Appends written written' bytes × IsFlushed written' flushed

-- the sink got this text, and all that it got is flushed
abbrev pub GotAll : SinkTold → SinkTold → List ℕ → Type 0
GotAll before after text = PassedOn before.written after.written text after.flushed

-- the sink got this text, and all that it got is flushed; where that fails it got a front of the text, and the count of its faults, which stays else, rose
pub record Writes {T E : Type 0} (text : List ℕ) (before after : SinkTold) (result : Result T E) : Type 0 where
  pub whole : OnOk result (GotAll before after text)
  pub part : OnErr result (AppendsPart before.written after.written text)
  pub cause : HasCause before.faults after.faults result

-- the text is written and flushed, and no call of the sink failed; or a front of it is written, and one failed. What stands after want of
-- memory is a parameter
abbrev pub WritesText : List ℕ → Type 0 → SinkTold → SinkTold → Status → Type 0
WritesText text starved before after status.Done = GotAll before after text × (after.faults ≡ before.faults)
WritesText text starved before after status.WriteFault = AppendsPart before.written after.written text × Rose before.faults after.faults
WritesText text starved before after status.NoMemory = starved
WritesText text starved before after _ = ⊥

-- a text that is written piece by piece: where memory is wanting a front of it was written, and no call of the sink failed
abbrev pub WritesPieces : List ℕ → SinkTold → SinkTold → Status → Type 0
WritesPieces text before after = WritesText text (AppendsPart before.written after.written text × (after.faults ≡ before.faults)) before after

-- the note is all that is told, and it is passed on, where telling it met no fault; where it met one, a front of it is all
pub record Tells (note : List ℕ) (before after : SinkTold) : Type 0 where
  pub whole : (Rose before.faults after.faults → ⊥) → GotAll before after note
  pub part : AppendsPart before.written after.written note
