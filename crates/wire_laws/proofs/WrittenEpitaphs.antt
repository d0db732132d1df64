-- An epitaph that was written is read.
use Rattle.std.proofs.Common.{◌≡◌, ℕ, ℤ, ◌^◌, ◌<◌, List, ◌++◌, length, Some, None, Result, Ok, refl, ap, ◌∙◌, append_assoc, length-append, lit<, arith}
use Rattle.std.proofs.lemmas.Int.{to_z-of_z}
use Rattle.std.specs.Prelude.{FitsSigned, if◌then◌else◌, ◌&&◌, ◌==◌}
use Rattle.std.specs.Int.{w32, cast_signed, cast_unsigned}
use Rattle.fidl_names.specs.declared.statuses.Status.{Status}
use Rattle.fidl_names.specs.declared.statuses.Status.TheVariants as status
use Rattle.fidl_names.specs.Numbers.{number_at, number_bytes}
use Rattle.fidl_names.specs.StatusNumber.{number_of}
use Rattle.fidl_wire.specs.Epitaphs.{epitaph_bytes, epitaph_header, epitaph_of, heads_epitaph, IsEpitaph}
use Rattle.fidl_wire.specs.declared.faults.WireFault.{WireFault}
use Rattle.fidl_wire.specs.declared.headers.Header.{Header}
use Rattle.fidl_wire.specs.Headers.{header_of, header_bytes}
use Rattle.wire_laws.proofs.ReadHeaders.{header_again, length-header}
use Rattle.wire_laws.proofs.Spelled.{length-number_bytes, number_behind, number_front, number_alone}

-- a status that fits 32 bits, with bits that do
pub record IsWord (status : ℤ) : Type 0 where
  pub fits : FitsSigned w32 status
  pub small : cast_unsigned w32 status < 256 ^ 4

status_fits : (s : Status) → IsWord (number_of s)
status_fits status.Ok = record { fits = record { sfits = lit< tt }; small = lit< tt }
status_fits status.Internal = record { fits = record { sfits = lit< tt }; small = lit< tt }
status_fits status.NotSupported = record { fits = record { sfits = lit< tt }; small = lit< tt }
status_fits status.NoResources = record { fits = record { sfits = lit< tt }; small = lit< tt }
status_fits status.NoMemory = record { fits = record { sfits = lit< tt }; small = lit< tt }
status_fits status.InvalidArgs = record { fits = record { sfits = lit< tt }; small = lit< tt }
status_fits status.BadHandle = record { fits = record { sfits = lit< tt }; small = lit< tt }
status_fits status.WrongType = record { fits = record { sfits = lit< tt }; small = lit< tt }
status_fits status.OutOfRange = record { fits = record { sfits = lit< tt }; small = lit< tt }
status_fits status.BufferTooSmall = record { fits = record { sfits = lit< tt }; small = lit< tt }
status_fits status.BadState = record { fits = record { sfits = lit< tt }; small = lit< tt }
status_fits status.ShouldWait = record { fits = record { sfits = lit< tt }; small = lit< tt }
status_fits status.PeerClosed = record { fits = record { sfits = lit< tt }; small = lit< tt }
status_fits status.NotFound = record { fits = record { sfits = lit< tt }; small = lit< tt }
status_fits status.AlreadyExists = record { fits = record { sfits = lit< tt }; small = lit< tt }
status_fits status.AccessDenied = record { fits = record { sfits = lit< tt }; small = lit< tt }
status_fits status.NotDir = record { fits = record { sfits = lit< tt }; small = lit< tt }
status_fits status.NotFile = record { fits = record { sfits = lit< tt }; small = lit< tt }
status_fits status.FileBig = record { fits = record { sfits = lit< tt }; small = lit< tt }
status_fits status.NoSpace = record { fits = record { sfits = lit< tt }; small = lit< tt }
status_fits status.NotEmpty = record { fits = record { sfits = lit< tt }; small = lit< tt }

-- what the tests of an epitaph come to where they hold
read_by : (size rest word : ℕ) (found : Result Header WireFault) → size ≡ 24 → found ≡ Ok epitaph_header → rest ≡ 0 →
    (if (size == 24) && (heads_epitaph found && (rest == 0)) then Some (cast_signed w32 word) else None) ≡ Some (cast_signed w32 word)
read_by size rest word found a b c = rw (a, b, c) refl

read_as_epitaph : (bytes : List ℕ) (number : ℕ) → length bytes ≡ 24 → header_of bytes ≡ Ok epitaph_header → number_at 4 16 bytes ≡ number → number_at 4 20 bytes ≡ 0 → epitaph_of bytes ≡ Some (cast_signed w32 number)
read_as_epitaph bytes number size header word zeros =
    read_by (length bytes) (number_at 4 20 bytes) (number_at 4 16 bytes) (header_of bytes) size header zeros ∙ ap (λ (n : ℕ). Some (cast_signed w32 n)) word

word_again : (status : ℤ) → IsWord status → IsEpitaph (epitaph_bytes status) status
word_again status is =
    let head = header_bytes epitaph_header in
    let word = number_bytes 4 (cast_unsigned w32 status) in
    let zeros = number_bytes 4 0 in
    let size : length head ≡ 16 = length-header epitaph_header in
    let front : length (head ++ word) ≡ 20 = omega (arith, size, length-append head word, length-number_bytes 4 (cast_unsigned w32 status)) in
    let group : epitaph_bytes status ≡ head ++ (word ++ zeros) = append_assoc head word zeros in
    let long : length (epitaph_bytes status) ≡ 24 = omega (arith, front, length-append (head ++ word) zeros, length-number_bytes 4 0) in
    let header : header_of (epitaph_bytes status) ≡ Ok epitaph_header = ap header_of group ∙ header_again epitaph_header (word ++ zeros) (lit< tt) (lit< tt) in
    let number : number_at 4 16 (epitaph_bytes status) ≡ cast_unsigned w32 status = ap (number_at 4 16) group ∙ number_behind 4 16 head (word ++ zeros) size ∙ number_front 4 (cast_unsigned w32 status) zeros is.small in
    let last : number_at 4 20 (epitaph_bytes status) ≡ 0 = number_behind 4 20 (head ++ word) zeros front ∙ (number_alone 4 0 (lit< tt)).value_is in
    read_as_epitaph (epitaph_bytes status) (cast_unsigned w32 status) long header number last ∙ ap Some (to_z-of_z w32 status is.fits)

pub epitaph_again : (s : Status) → IsEpitaph (epitaph_bytes (number_of s)) (number_of s)
epitaph_again s = word_again (number_of s) (status_fits s)
