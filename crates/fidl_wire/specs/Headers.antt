-- A transactional message's header, of sixteen bytes.
use Rattle.std.specs.Prelude.{ℕ, Bool, not, List, [], ◌∷◌, ◌++◌, length, slice_index, Result, Ok, Err, nat_lt, ◌==◌, if◌then◌else◌}
use Rattle.fidl_wire.specs.declared.headers.Header.{Header}
use Rattle.fidl_wire.specs.declared.faults.WireFault.{WireFault}
use Rattle.fidl_wire.specs.declared.faults.WireWhat.{WireWhat}
use Rattle.fidl_wire.specs.declared.faults.WireWhat.TheVariants.{Short, Magic, Version, Overflow}
use Rattle.fidl_names.specs.Numbers.{number_at, number_bytes}
use Rattle.fidl_wire.specs.Numbers.{has_bit}

-- the fault of this reason at this offset
abbrev pub fault : ℕ → WireWhat → WireFault
fault at what = record { at = at; what = what }

-- the fields at their offsets; the bits that no field has are ignored
abbrev pub fields_of : List ℕ → Header
fields_of bytes =
    record { txid = number_at 4 0 bytes; flexible = has_bit 0x80 (slice_index bytes 6); ordinal = number_at 8 8 bytes }

-- the header, or the first flaw: sixteen bytes, the magic number, the version's bit, no overflow
abbrev pub header_of : List ℕ → Result Header WireFault
header_of bytes =
    if nat_lt (length bytes) 16 then Err (fault (length bytes) Short)
    else if not (slice_index bytes 7 == 1) then Err (fault 7 Magic)
    else if not (has_bit 0x02 (slice_index bytes 4)) then Err (fault 4 Version)
    else if has_bit 0x40 (slice_index bytes 6) then Err (fault 6 Overflow)
    else Ok (fields_of bytes)

-- the dynamic flags that are written
abbrev pub flags_of : Bool → ℕ
flags_of flexible = if flexible then 0x80 else 0

-- a header as it is written: the bits that no field has are zero
abbrev pub header_bytes : Header → List ℕ
header_bytes h = number_bytes 4 h.txid ++ (0x02 ∷ 0 ∷ flags_of h.flexible ∷ 1 ∷ []) ++ number_bytes 8 h.ordinal
