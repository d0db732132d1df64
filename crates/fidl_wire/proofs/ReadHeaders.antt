-- What a header is read as, by what its tests come to.
use Rattle.std.proofs.Common.{◌≡◌, ◌≢◌, ◌∙◌, ℕ, ◌≤◌, ◌==◌, Bool, true, false, not, nat_lt, List, length, Result, Ok, Err, ap, arith}
use Rattle.std.specs.Prelude.{slice_index, if◌then◌else◌}
use Rattle.std.proofs.lemmas.Bool.Decides.{nat_tests}
use Rattle.fidl_wire.specs.declared.headers.Header.{Header}
use Rattle.fidl_wire.specs.declared.faults.WireFault.{WireFault}
use Rattle.fidl_wire.specs.declared.faults.WireWhat.TheVariants.{Short, Magic, Version, Overflow}
use Rattle.fidl_wire.specs.Numbers.{has_bit}
use Rattle.fidl_wire.specs.Headers.{fault, fields_of, header_of}

abbrev pub read_as : List ℕ → Bool → Bool → Bool → Bool → Result Header WireFault
read_as bytes short magic version overflow =
    if short then Err (fault (length bytes) Short)
    else if not magic then Err (fault 7 Magic)
    else if not version then Err (fault 4 Version)
    else if overflow then Err (fault 6 Overflow)
    else Ok (fields_of bytes)

pub header_is : (bytes : List ℕ) (short magic version overflow : Bool) → nat_lt (length bytes) 16 ≡ short → slice_index bytes 7 == 1 ≡ magic → has_bit 0x02 (slice_index bytes 4) ≡ version → has_bit 0x40 (slice_index bytes 6) ≡ overflow →
    header_of bytes ≡ read_as bytes short magic version overflow
header_is bytes short magic version overflow a b c d =
    ap (λ is. read_as bytes is (slice_index bytes 7 == 1) (has_bit 0x02 (slice_index bytes 4)) (has_bit 0x40 (slice_index bytes 6))) a
    ∙ ap (λ is. read_as bytes short is (has_bit 0x02 (slice_index bytes 4)) (has_bit 0x40 (slice_index bytes 6))) b
    ∙ ap (λ is. read_as bytes short magic is (has_bit 0x40 (slice_index bytes 6))) c
    ∙ ap (read_as bytes short magic version) d

pub not_short : (n : ℕ) → 16 ≤ n → nat_lt n 16 ≡ false
not_short n long = grind (arith, nat_tests)

pub some_bit : (n : ℕ) → n ≢ 0 → not (n == 0) ≡ true
some_bit n some = grind (arith, nat_tests)
