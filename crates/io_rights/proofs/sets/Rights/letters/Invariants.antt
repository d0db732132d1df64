use Rattle.std.proofs.Common.{◌≡◌, ◌≤◌, length}
use Rattle.io_rights.proofs.LetterTexts.{letters_in}
use Rattle.io_rights.proofs.sets.Rights.letters.Given as goal

abbrev pub invariant-loop-operation : goal.invariant-loop-operation
invariant-loop-operation l =
    record {
      so_far : l.letters ≡ letters_in l.self l.operation-index;
      few : length l.letters ≤ l.operation-index;
    }
