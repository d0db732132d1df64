use Rattle.std.proofs.Common.{◌≡◌, take, true}
use Rattle.std.specs.List.{list_all}
use Rattle.vfs_script.specs.Words.{is_decimal_digit}
use Rattle.vfs_script.proofs.numbers.all_decimal.Given as goal

abbrev pub invariant-loop-byte : goal.invariant-loop-byte
invariant-loop-byte l = list_all is_decimal_digit (take l.byte-index l.word) ≡ true
