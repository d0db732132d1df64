-- What a text says as a script: its mode, its frames and its calls, or its first bad line.
use Rattle.std.specs.Prelude.{◌≡◌, ◌<◌, ℕ, ⊤, ◌+◌, ◌==◌, ◌||◌, ◌&&◌, not, Bool, if◌then◌else◌, List, [], ◌∷◌, length, map, drop, slice_index, slice_get, filter, filter_map, codes, Option, Some, None, is_none, is_some, false}
use Rattle.std.specs.Str.{bytes_eq, is_utf8}
use Rattle.link_frames.specs.declared.kinds.Mode.{Mode}
use Rattle.link_frames.specs.declared.kinds.Mode.TheVariants as mode
use Rattle.link_frames.specs.Frames.{Frame}
use Rattle.io_messages.specs.Shapes.{is_one_way}
use Rattle.fidl_names.specs.First.{cause_if, first_of}
use Rattle.vfs_script.specs.declared.calls.Call.{Call}
use Rattle.vfs_script.specs.declared.faults.ScriptFault.{ScriptFault}
use Rattle.vfs_script.specs.declared.faults.ScriptFault.TheVariants as fault
use Rattle.vfs_script.specs.Words.{◌>>=◌, given, newline}
use Rattle.text_pieces.specs.Pieces.{pieces}
use Rattle.vfs_script.specs.Lines.{Line, line_of, frame_at, fits_at, call_of}

-- a line of a text, and its number
pub record Numbered : Type 0 where
  pub number : ℕ
  pub bytes : List ℕ

abbrev pub numbered_from : ℕ → List (List ℕ) → List Numbered
numbered_from number [] = []
numbered_from number (bytes ∷ others) = record { number = number; bytes = bytes } ∷ numbered_from (number + 1) others

-- the lines of a text, counted from 1; behind the last line's end stands an empty one more
unfoldable pub lines_of : List ℕ → List Numbered
lines_of text = numbered_from 1 (pieces newline text)

-- an empty line, or one that begins with `#`
abbrev pub is_skipped : List ℕ → Bool
is_skipped bytes = (length bytes == 0) || (slice_index bytes 0 == 35)

-- the lines in front of the first one that isn't skipped, and those from that on
abbrev pub heads : List Numbered → List Numbered
heads [] = []
heads (line ∷ others) = if is_skipped line.bytes then line ∷ heads others else []

abbrev pub from_mode : List Numbered → List Numbered
from_mode [] = []
from_mode (line ∷ others) = if is_skipped line.bytes then from_mode others else line ∷ others

-- `auto` or `given`
unfoldable pub mode_of : List ℕ → Option Mode
mode_of word =
    if bytes_eq word (codes "auto") then Some mode.Auto
    else if bytes_eq word (codes "given") then Some mode.Given
    else None

-- the mode, which the first line that isn't skipped says
abbrev pub mode_in : List Numbered → Option Mode
mode_in lines = do
  line ← slice_get (from_mode lines) 0
  mode_of line.bytes

-- the lines behind the mode line
abbrev pub behind_mode : List Numbered → List Numbered
behind_mode lines = drop 1 (from_mode lines)

-- what a line says, and its number
pub record Spoken : Type 0 where
  pub number : ℕ
  pub line : Line

-- what is said in the line with this number, where it has a form and its message isn't too long
abbrev pub said_at : ℕ → Option Line → Option Spoken
said_at number None = None
said_at number (Some line) = given (fits_at number line) (record { number = number; line = line })

unfoldable pub spoken : Numbered → Option Spoken
spoken line = said_at line.number (line_of line.bytes)

abbrev pub is_bad_text : Numbered → Bool
is_bad_text line = not (is_utf8 line.bytes)

-- behind the mode line a line is bad where it isn't UTF-8, or says something that it can't
abbrev pub is_bad : Numbered → Bool
is_bad line = is_bad_text line || (not (is_skipped line.bytes) && is_none (spoken line))

abbrev pub bad_heads : List Numbered → Option ℕ
bad_heads lines = first_of (map (λ line. cause_if (is_bad_text line) line.number) lines)

abbrev pub bad_lines : List Numbered → Option ℕ
bad_lines lines = first_of (map (λ line. cause_if (is_bad line) line.number) lines)

-- the first bad line of these: 0 where no line says the mode, or else one in front of that line, or
-- else one behind it
abbrev pub bad_in : List Numbered → Option ℕ
bad_in lines =
    first_of
    (cause_if (is_none (mode_in lines)) 0
    ∷ bad_heads (heads lines)
    ∷ bad_lines (behind_mode lines)
    ∷ [])

-- what lines behind the mode line say
abbrev pub spoken_in : List Numbered → List Spoken
spoken_in lines = filter_map spoken (filter (λ line. not (is_skipped line.bytes)) lines)

abbrev pub frame_of : Spoken → Frame
frame_of said = frame_at said.number said.line

abbrev pub call_in : Spoken → Option Call
call_in said = call_of said.number said.line

-- the first bad line of a text
unfoldable pub bad_line : List ℕ → Option ℕ
bad_line text = bad_in (lines_of text)

-- what a text says: each of its lines behind the mode line that isn't skipped
unfoldable pub script_lines : List ℕ → List Spoken
script_lines text = spoken_in (behind_mode (lines_of text))

unfoldable pub script_mode : List ℕ → Option Mode
script_mode text = mode_in (lines_of text)

-- the frames of a script, and beside each the call that it makes
abbrev pub frames_of : List ℕ → List Frame
frames_of text = map frame_of (script_lines text)

abbrev pub calls_of : List ℕ → List (Option Call)
calls_of text = map call_in (script_lines text)

-- why a text is no script: its first bad line; want of memory says nothing
abbrev pub IsFirstBad : Option ℕ → ScriptFault → Type 0
IsFirstBad found (fault.Line line) = found ≡ Some line
IsFirstBad found fault.NoMemory = ⊤

-- how many calls there are
abbrev pub count_calls : List (Option Call) → ℕ
count_calls calls = length (filter is_some calls)

-- each call has a reply, and a transaction id over those of the calls before it, which are over
-- this number
abbrev pub AreCalls : ℕ → List (Option Call) → Type 0
AreCalls low [] = ⊤
AreCalls low (None ∷ calls) = AreCalls low calls
AreCalls low (Some call ∷ calls) = (low < call.txid) × (is_one_way call.method ≡ false) × AreCalls call.txid calls

-- a later call has a higher transaction id, so no two have one
abbrev pub AreApart : List (Option Call) → Type 0
AreApart calls =
    (i j : ℕ) (a b : Call) → i < j → slice_get calls i ≡ Some (Some a) → slice_get calls j ≡ Some (Some b) → a.txid < b.txid
