use Rattle.std.proofs.Common.{◌≡◌, ◌++◌}
use Rattle.std.specs.List.{flat_map}
use Rattle.mirror_program.specs.Texts.{line_of}
use Rattle.mirror_program.proofs.texts.text_of.Given as goal

abbrev pub invariant-loop-name : goal.invariant-loop-name
invariant-loop-name l = l.text.items ++ flat_map line_of l.name-iterator ≡ flat_map line_of l.fn.mirror.names
