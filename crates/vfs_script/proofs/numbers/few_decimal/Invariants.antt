use Rattle.std.proofs.Common.{◌≡◌, take, true}
use Rattle.std.specs.List.{list_all}
use Rattle.std.specs.Str.Parse.{digits_value}
use Rattle.vfs_script.specs.Words.{is_decimal_digit}
use Rattle.vfs_script.proofs.numbers.few_decimal.Given as goal

abbrev pub invariant-loop-byte : goal.invariant-loop-byte
invariant-loop-byte l =
    record {
      value : l.number ≡ digits_value 10 (take l.byte-index l.word);
      digits : list_all is_decimal_digit (take l.byte-index l.word) ≡ true;
    }
