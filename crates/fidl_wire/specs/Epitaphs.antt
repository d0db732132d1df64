-- The last message of a channel, with the status that it closes with.
use Rattle.std.specs.Prelude.{◌≡◌, ◌==◌, ◌&&◌, ℕ, ℤ, Bool, false, List, ◌++◌, length, Option, Some, None, Result, Ok, Err, if◌then◌else◌}
use Rattle.std.specs.Int.{w32, cast_signed, cast_unsigned}
use Rattle.fidl_wire.specs.declared.faults.WireFault.{WireFault}
use Rattle.fidl_wire.specs.declared.headers.Header.{Header}
use Rattle.fidl_names.specs.Numbers.{number_at, number_bytes}
use Rattle.fidl_wire.specs.Headers.{header_of, header_bytes}

-- no method has this ordinal
abbrev pub epitaph_ordinal : ℕ
epitaph_ordinal = 0xffff_ffff_ffff_ffff

abbrev pub epitaph_header : Header
epitaph_header = record { txid = 0; flexible = false; ordinal = epitaph_ordinal }

-- as it is written
abbrev pub epitaph_bytes : ℤ → List ℕ
epitaph_bytes status = header_bytes epitaph_header ++ number_bytes 4 (cast_unsigned w32 status) ++ number_bytes 4 0

-- the header of one: it has no flaw, the transaction id 0 and the ordinal
abbrev pub heads_epitaph : Result Header WireFault → Bool
heads_epitaph (Err flaw) = false
heads_epitaph (Ok header) = (header.txid == 0) && (header.ordinal == epitaph_ordinal)

-- 24 bytes: such a header, a status, and four zero bytes
abbrev pub is_epitaph : List ℕ → Bool
is_epitaph bytes = (length bytes == 24) && (heads_epitaph (header_of bytes) && (number_at 4 20 bytes == 0))

-- the status of an epitaph, a number of 32 bits
abbrev pub epitaph_of : List ℕ → Option ℤ
epitaph_of bytes = if is_epitaph bytes then Some (cast_signed w32 (number_at 4 16 bytes)) else None

-- these are an epitaph with this status
abbrev pub IsEpitaph : List ℕ → ℤ → Type 0
IsEpitaph bytes status = epitaph_of bytes ≡ Some status
