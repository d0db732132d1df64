use Rattle.vfs_script.specs.Scripts.{calls_of}
use Rattle.vfs_script.proofs.ScriptLemmas.{are_apart, calls_are}
use Rattle.vfs_script.proofs.laws.calls_are_apart.Goals as goal

pub returns : goal.returns
returns c = λ text. are_apart (calls_of text) (calls_are text)
