-- Where no line of the script is bad, and no fault is met, all is done unless memory runs out.
use Rattle.std.proofs.Common.{◌≡◌, ℕ, List, inl, inr}
use Rattle.fidl_wire.specs.Names.{AreDistinct}
use Rattle.link_frames.specs.Frames.{spellings}
use Rattle.run_status.specs.Causes.{Collides}
use Rattle.run_status.specs.Outside.{FilesTold, SinkTold}
use Rattle.run_status.specs.Texts.{WritesText}
use Rattle.run_status.specs.declared.statuses.Status.{Status}
use Rattle.script_session.specs.ScriptCauses.{AfterScript, HasNoScript}
use Rattle.script_session.specs.Scripts.{IsPlayable, Said}
use Rattle.vfs_program.proofs.Complete.{after_done, no_collision, no_script, text_done}
use Rattle.vfs_program.specs.Answers.{IsDoneOrNoMemory}
use Rattle.vfs_script.specs.Scripts.{frames_of}
use Rattle.frames_program.specs.Answers.{Answers, IsServable, NoFault}

pub complete : (script : List ℕ) (before after : FilesTold) (sb sa : SinkTold) (F K : Type 0) (answer : Status) → Answers script before after sb sa F K answer → IsServable script before →
    NoFault script before after sb sa → IsDoneOrNoMemory answer
complete script before after sb sa F K answer a s n =
    let told : Said → Status → Type 0 = λ said. WritesText (spellings (frames_of said.text)) ⊥ sb sa in
    after_done Collides (F × K) (λ (none : Unit {0}). AreDistinct) (λ none. AfterScript script before after K told) answer (no_collision s.0 answer)
    (λ none distinct. after_done (HasNoScript script before after) K (IsPlayable (before.told script)) told answer
    (no_script script before after s.1.said s.1.told s.1.says n.file answer)
    (λ said says. text_done (spellings (frames_of said.text)) ⊥ sb sa n.sink answer)) a
