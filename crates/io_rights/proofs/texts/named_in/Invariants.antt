use Rattle.std.proofs.Common.{◌≡◌}
use Rattle.io_rights.proofs.LetterTexts.{named_before}
use Rattle.io_rights.proofs.texts.named_in.Given as goal

abbrev pub invariant-loop-operation : goal.invariant-loop-operation
invariant-loop-operation l =
    record {
      so_far : l.rights ≡ named_before l.text l.operation-index;
    }
