-- A script stands for few frames, and these have few bytes.
use Rattle.std.proofs.Common.{◌≡◌, ◌≤◌, ◌<◌, ◌+◌, ◌*◌, ℕ, Bool, true, false, cond, List, [], ◌∷◌, ◌++◌, Option, Some, None, length, map, drop, not, arith, length-append, length-drop}
use Rattle.std.specs.Prelude.{All, filter, filter_map}
use Rattle.std.specs.List.{cons_option}
use Rattle.std.proofs.lemmas.List.{length-map}
use Rattle.std.proofs.lemmas.List.Elements.{All-head, All-tail}
use Rattle.std.proofs.lemmas.List.Sums.{length-filter, count_by-le-length}
use Rattle.fidl_names.specs.declared.limits.TheConstants as limit
use Rattle.link_frames.specs.Frames.{Frame, IsFrame, spelling, spellings}
use Rattle.link_frames.specs.declared.kinds.Side.TheVariants.{ToServers}
use Rattle.link_frames.proofs.Spelled.{length-spelling}
use Rattle.text_pieces.specs.Pieces.{pieces}
use Rattle.text_pieces.proofs.PieceLemmas.{pieces_few}
use Rattle.vfs_script.specs.Words.{newline}
use Rattle.vfs_script.specs.Scripts.{Numbered, Spoken, behind_mode, frame_of, frames_of, from_mode, is_skipped, lines_of, numbered_from, script_lines, spoken, spoken_in}

-- ---- frames

numbered_many : (number : ℕ) (lines : List (List ℕ)) → length (numbered_from number lines) ≡ length lines
numbered_many number [] = omega arith
numbered_many number (line ∷ others) = let rest = numbered_many (number + 1) others in omega (arith, rest)

shorter : (yes : Bool) (first second : List Numbered) (most : ℕ) → length first ≤ most → length second ≤ most → length (cond yes first second) ≤ most
shorter true first second most few other = few
shorter false first second most few other = other

from_mode_few : (lines : List Numbered) → length (from_mode lines) ≤ length lines
from_mode_few [] = omega arith
from_mode_few (line ∷ others) =
    let rest = from_mode_few others in
    shorter (is_skipped line.bytes) (from_mode others) (line ∷ others) (length (line ∷ others)) (omega (arith, rest)) (omega arith)

one_more : (said : Option Spoken) (later : List Spoken) (most : ℕ) → length later ≤ most → length (cons_option said later) ≤ most + 1
one_more None later most few = omega (arith, few)
one_more (Some said) later most few = omega (arith, few)

said_few : (lines : List Numbered) → length (filter_map spoken lines) ≤ length lines
said_few [] = omega arith
said_few (line ∷ others) = let all = one_more (spoken line) (filter_map spoken others) (length others) (said_few others) in omega (arith, all)

spoken_few : (lines : List Numbered) → length (spoken_in lines) ≤ length lines
spoken_few lines =
    let other : Numbered → Bool = λ line. not (is_skipped line.bytes) in
    let said = said_few (filter other lines) in
    let counted = length-filter other lines in
    let few = count_by-le-length other lines in
    omega (arith, said, counted, few)

frames_few : (text : List ℕ) → length (frames_of text) ≤ length text + 1
unfolding script_lines lines_of
frames_few text =
    let lines = numbered_from 1 (pieces newline text) in
    let said = spoken_few (behind_mode lines) in
    let dropped = length-drop 1 (from_mode lines) in
    let from = from_mode_few lines in
    let many = numbered_many 1 (pieces newline text) in
    let few = pieces_few newline text in
    let frames = length-map (spoken_in (behind_mode lines)) frame_of in
    omega (arith, said, dropped, from, many, few, frames)

-- ---- their bytes

bytes_few : (frames : List Frame) → All (IsFrame ToServers) frames → length (spellings frames) ≤ 65804 * length frames
bytes_few [] each = omega arith
bytes_few (frame ∷ frames) each =
    let is = All-head (IsFrame ToServers) frame frames each in
    let rest = bytes_few frames (All-tail (IsFrame ToServers) frame frames each) in
    let size = length-spelling frame in
    let all = length-append (spelling frame) (spellings frames) in
    omega (arith, is.shape.few_handles, is.shape.few_bytes, rest, size, all)

pub scripts_few : (text : List ℕ) → length text ≤ limit.MAX_TEXT → All (IsFrame ToServers) (frames_of text) → length (spellings (frames_of text)) < limit.MAX_INPUT
scripts_few text few each =
    let frames = frames_few text in
    let bytes = bytes_few (frames_of text) each in
    omega (arith, few, frames, bytes)
