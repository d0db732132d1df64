-- What holds of every header, every layout, every message and all handles.
use Rattle.std.specs.Prelude.{◌≡◌, ℕ, ℤ, ◌+◌, ◌*◌, ◌^◌, ◌<◌, ◌≤◌, List, ◌++◌, length, drop, replicate, slice_index_or, slice_range, Option, None, Ok, Err}
use Rattle.fidl_names.specs.declared.methods.Handle.{Handle}
use Rattle.fidl_names.specs.declared.statuses.Status.{Status}
use Rattle.fidl_names.specs.StatusNumber.{number_of}
use Rattle.fidl_wire.specs.declared.faults.WireFault.{WireFault}
use Rattle.fidl_wire.specs.declared.headers.Header.{Header}
use Rattle.fidl_wire.specs.Epitaphs.{epitaph_bytes, IsEpitaph}
use Rattle.fidl_wire.specs.Headers.{header_of, header_bytes}
use Rattle.fidl_wire.specs.Layout.{Layout, Content, Member}
use Rattle.fidl_wire.specs.Reading.{body_of}
use Rattle.fidl_wire.specs.Grammar.{IsSpelled}
use Rattle.wire_laws.specs.Meanings.{IsFaultOf}
use Rattle.fidl_wire.specs.Spelling.{FitsBody, body_bytes, body_handles, given, table_part}

-- what bytes and handles spell is read
abbrev pub ReadsWhatIsSpelled : Type 0
ReadsWhatIsSpelled =
    (layout : Layout) (content : Content) (message : List ℕ) (handles : List Handle) → IsSpelled layout content message handles → body_of layout message handles ≡ Ok content

-- what is read is spelled
abbrev pub SpelledWhereRead : Type 0
SpelledWhereRead =
    (layout : Layout) (content : Content) (message : List ℕ) (handles : List Handle) → body_of layout message handles ≡ Ok content → IsSpelled layout content message handles

-- bytes and handles spell at most one value
abbrev pub SpelledOnce : Type 0
SpelledOnce =
    (layout : Layout) (a b : Content) (message : List ℕ) (handles : List Handle) → IsSpelled layout a message handles → IsSpelled layout b message handles → a ≡ b

-- the one spelling of a value, behind any header, is spelled by the grammar
abbrev pub SpellingIsSpelled : Type 0
SpellingIsSpelled =
    (layout : Layout) (content : Content) (header : List ℕ) → length header ≡ 16 → FitsBody layout content →
    IsSpelled layout content (header ++ body_bytes layout content) (body_handles layout content)

-- and it reads as that value
abbrev pub SpellingIsRead : Type 0
SpellingIsRead =
    (layout : Layout) (content : Content) (header : List ℕ) → length header ≡ 16 → FitsBody layout content →
    body_of layout (header ++ body_bytes layout content) (body_handles layout content) ≡ Ok content

-- no bytes that spell a value are fewer than its spelling: that has no absent envelope at a table's end, and nothing of a member that isn't known
abbrev pub SpellingIsShortest : Type 0
SpellingIsShortest =
    (layout : Layout) (content : Content) (message : List ℕ) (handles : List Handle) → IsSpelled layout content message handles →
    length (body_bytes layout content) ≤ length (drop 16 message)

-- in the spelling of a table, the envelope of each member that isn't given is zero
abbrev pub AbsentEnvelopesAreZero : Type 0
AbsentEnvelopesAreZero =
    (values : List (Option Member)) (k : ℕ) → k < length (given values) → slice_index_or (given values) k None ≡ None →
    slice_range (table_part values).outside (8 * k) (8 * k + 8) ≡ replicate 8 0

-- a fault that is answered is what it says, and no value is spelled there
abbrev pub FaultsAreMeant : Type 0
FaultsAreMeant =
    (layout : Layout) (message : List ℕ) (handles : List Handle) (e : WireFault) → body_of layout message handles ≡ Err e → IsFaultOf layout message handles e

-- and what is meant is answered
abbrev pub MeantFaultsAreAnswered : Type 0
MeantFaultsAreAnswered =
    (layout : Layout) (message : List ℕ) (handles : List Handle) (e : WireFault) → IsFaultOf layout message handles e → body_of layout message handles ≡ Err e

-- so a body has at most one fault
abbrev pub FaultsAreMeantOnce : Type 0
FaultsAreMeantOnce =
    (layout : Layout) (message : List ℕ) (handles : List Handle) (a b : WireFault) → IsFaultOf layout message handles a → IsFaultOf layout message handles b → a ≡ b

-- a header that was written is read back, whatever follows it
abbrev pub HeadersAreRead : Type 0
HeadersAreRead =
    (h : Header) (rest : List ℕ) → h.txid < 2 ^ 32 → h.ordinal < 2 ^ 64 → header_of (header_bytes h ++ rest) ≡ Ok h

-- what is written for a status is an epitaph with its number
abbrev pub WrittenEpitaphsAreRead : Type 0
WrittenEpitaphsAreRead = (status : Status) → IsEpitaph (epitaph_bytes (number_of status)) (number_of status)

-- two readings as an epitaph are one
abbrev pub EpitaphsAreReadOnce : Type 0
EpitaphsAreReadOnce = (bytes : List ℕ) (a b : ℤ) → IsEpitaph bytes a → IsEpitaph bytes b → a ≡ b
