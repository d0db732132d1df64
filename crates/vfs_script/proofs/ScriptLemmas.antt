-- Lines taken one after another, and what holds of all calls.
use Rattle.std.proofs.Common.{◌≡◌, ℕ, zero, suc, ◌+◌, ◌<◌, ◌≤◌, Bool, true, false, not, List, [], ◌∷◌, ◌++◌, length, map, drop, Option, Some, None, refl, sym, ap, ◌∙◌, subst, arith, append_assoc, append-nil, cond}
use Rattle.std.specs.Prelude.{filter, filter_map, slice_get, IfSome}
use Rattle.std.specs.List.{cons_option}
use Rattle.std.proofs.lemmas.Option.{same_Some}
use Rattle.std.proofs.lemmas.List.{length-drop, length-map}
use Rattle.io_messages.specs.Asked.{Asked, method_of}
use Rattle.io_messages.specs.Shapes.{is_one_way}
use Rattle.io_client.specs.Calls.{watcher_of}
use Rattle.link_frames.specs.declared.kinds.Mode.{Mode}
use Rattle.vfs_script.specs.declared.calls.Call.{Call}
use Rattle.vfs_script.specs.Lines.{Line, request, raw, hang_up, turn, pick, line_of, fits_at, call_of}
use Rattle.vfs_script.specs.Words.{given, newline}
use Rattle.text_pieces.specs.Pieces.{pieces}
use Rattle.link_frames.specs.Frames.{spelling, spellings}
use Rattle.fidl_names.specs.First.{first_of}
use Rattle.vfs_script.specs.Kept.{Kept, kept_and, kept_with}
use Rattle.vfs_script.specs.Scripts.{AreApart, AreCalls, bad_line, calls_of, frames_of, lines_of, script_lines, script_mode, Numbered, Spoken, said_at, bad_heads, bad_in, bad_lines, behind_mode, call_in, frame_of, from_mode, heads, is_skipped, mode_in, numbered_from, spoken, spoken_in}

-- ---- what lines say

-- what a line that isn't skipped says has its number
given_some : {A : Type 0} (test : Bool) (value : A) (found : A) → given test value ≡ Some found → value ≡ found
given_some true value found e = same_Some value found e
given_some false value found e = cc

said_number : (number : ℕ) (form : Option Line) (said : Spoken) → said_at number form ≡ Some said → said.number ≡ number
said_number number None said e = cc
said_number number (Some form) said e = sym (ap (λ (s : Spoken). s.number) (given_some (fits_at number form) (record { number = number; line = form }) said e))

pub spoken-number : (line : Numbered) (said : Spoken) → spoken line ≡ Some said → said.number ≡ line.number
unfolding spoken
spoken-number line said e = said_number line.number (line_of line.bytes) said e

-- all frames, and all calls
pub kept_bytes : (kept : Kept) (said : List Spoken) → (kept_with kept said).bytes ≡ kept.bytes ++ spellings (map frame_of said)
kept_bytes kept [] = sym (append-nil kept.bytes)
kept_bytes kept (first ∷ said) =
    kept_bytes (kept_and kept (frame_of first) (call_in first)) said
    ∙ append_assoc kept.bytes (spelling (frame_of first)) (spellings (map frame_of said))

pub kept_calls : (kept : Kept) (said : List Spoken) → (kept_with kept said).calls ≡ kept.calls ++ map call_in said
kept_calls kept [] = sym (append-nil kept.calls)
kept_calls kept (first ∷ said) =
    kept_calls (kept_and kept (frame_of first) (call_in first)) said
    ∙ append_assoc kept.calls (call_in first ∷ []) (map call_in said)

-- ---- calls and their transaction ids

AreCalls-weaker : (low number : ℕ) (calls : List (Option Call)) → low ≤ number → AreCalls number calls → AreCalls low calls
AreCalls-weaker low number [] le h = tt
AreCalls-weaker low number (None ∷ calls) le h = AreCalls-weaker low number calls le h
AreCalls-weaker low number (Some call ∷ calls) le h =
    let over = h.0 in
    (omega (arith, le, over), h.1, h.2)

request_more : (low number endpoint : ℕ) (a : Asked) (one_way : Bool) (calls : List (Option Call)) → is_one_way (method_of a) ≡ one_way → low < number → AreCalls number calls →
    AreCalls low (cond one_way None (Some (record { endpoint = endpoint; txid = number; method = method_of a; watcher = watcher_of a })) ∷ calls)
request_more low number endpoint a true calls e lt h = AreCalls-weaker low number calls (omega (arith, lt)) h
request_more low number endpoint a false calls e lt h = (lt, e, h)

calls_more : (low number : ℕ) (line : Line) (calls : List (Option Call)) → low < number → AreCalls number calls → AreCalls low (call_of number line ∷ calls)
calls_more low number (request endpoint a) calls lt h = request_more low number endpoint a (is_one_way (method_of a)) calls refl lt h
calls_more low number (raw endpoint handles bytes) calls lt h = AreCalls-weaker low number calls (omega (arith, lt)) h
calls_more low number (hang_up endpoint) calls lt h = AreCalls-weaker low number calls (omega (arith, lt)) h
calls_more low number (turn server count) calls lt h = AreCalls-weaker low number calls (omega (arith, lt)) h
calls_more low number (pick endpoint) calls lt h = AreCalls-weaker low number calls (omega (arith, lt)) h

-- the calls of one line and of those behind it
said_more : (low : ℕ) (line : Numbered) (said : Option Spoken) (others : List Spoken) → said ≡ spoken line → low < line.number → AreCalls line.number (map call_in others) →
    AreCalls low (map call_in (cons_option said others))
said_more low line None others e lt h = AreCalls-weaker low line.number (map call_in others) (omega (arith, lt)) h
said_more low line (Some said) others e lt h =
    let same = spoken-number line said (sym e) in
    calls_more low said.number said.line (map call_in others) (rw same lt) (rw same h)

line_more : (low : ℕ) (line : Numbered) (skipped : Bool) (lines : List Numbered) → low < line.number → AreCalls line.number (map call_in (filter_map spoken lines)) →
    AreCalls low (map call_in (filter_map spoken (cond (not skipped) (line ∷ lines) lines)))
line_more low line true lines lt h = AreCalls-weaker low line.number (map call_in (filter_map spoken lines)) (omega (arith, lt)) h
line_more low line false lines lt h = said_more low line (spoken line) (filter_map spoken lines) refl lt h

calls_rise : (low number : ℕ) (texts : List (List ℕ)) → low < number → AreCalls low (map call_in (spoken_in (numbered_from number texts)))
calls_rise low number [] lt = tt
calls_rise low number (bytes ∷ texts) lt =
    line_more low (record { number = number; bytes = bytes }) (is_skipped bytes) (filter (λ l. not (is_skipped l.bytes)) (numbered_from (number + 1) texts)) lt
    (calls_rise number (number + 1) texts (omega arith))

-- ---- the lines up to the mode line

-- what stands behind the mode line is numbered on
behind_first : (number : ℕ) (bytes : List ℕ) (texts : List (List ℕ)) (skipped : Bool) →
    AreCalls 0 (map call_in (spoken_in (drop 1 (from_mode (numbered_from (number + 1) texts))))) →
    AreCalls 0 (map call_in (spoken_in (drop 1 (cond skipped (from_mode (numbered_from (number + 1) texts)) (record { number = number; bytes = bytes } ∷ numbered_from (number + 1) texts)))))
behind_first number bytes texts true h = h
behind_first number bytes texts false h = calls_rise 0 (number + 1) texts (omega arith)

pub behind_calls : (number : ℕ) (texts : List (List ℕ)) → AreCalls 0 (map call_in (spoken_in (behind_mode (numbered_from number texts))))
behind_calls number [] = tt
behind_calls number (bytes ∷ texts) = behind_first number bytes texts (is_skipped bytes) (behind_calls (number + 1) texts)

pub length-numbered : (number : ℕ) (texts : List (List ℕ)) → length (numbered_from number texts) ≡ length texts
length-numbered number [] = refl
length-numbered number (bytes ∷ texts) = ap suc (length-numbered (number + 1) texts)

last_one : (a : Option ℕ) → first_of (a ∷ []) ≡ a
last_one None = refl
last_one (Some a) = refl

-- where the mode is said and no line in front is bad, those behind decide
pub bad_in-behind : (lines : List Numbered) (mode : Mode) → mode_in lines ≡ Some mode → bad_heads (heads lines) ≡ None → bad_in lines ≡ bad_lines (behind_mode lines)
bad_in-behind lines mode m b = rw (m, b) (last_one (bad_lines (behind_mode lines)))

-- a call at its place
pub call_given : (low : ℕ) (calls : List (Option Call)) (i : ℕ) (call : Call) → AreCalls low calls → slice_get calls i ≡ Some (Some call) → (low < call.txid) × (is_one_way call.method ≡ false)
call_given low [] i call h at = cc
call_given low (None ∷ calls) zero call h at = cc
call_given low (None ∷ calls) (suc i) call h at = call_given low calls i call h at
call_given low (Some first ∷ calls) zero call h at =
    let same : first ≡ call = same_Some first call (same_Some (Some first) (Some call) at) in
    subst (λ (c : Call). (low < c.txid) × (is_one_way c.method ≡ false)) same (h.0, h.1)
call_given low (Some first ∷ calls) (suc i) call h at =
    let later = call_given first.txid calls i call h.2 at in
    let over = later.0 in
    let lower = h.0 in
    (omega (arith, over, lower), later.1)

pub given_call : (calls : List (Option Call)) (i : ℕ) (found : Option Call) → AreCalls 0 calls → slice_get calls i ≡ Some found →
    IfSome found (λ call. 0 < call.txid) × IfSome found (λ call. is_one_way call.method ≡ false)
given_call calls i None h at = (tt, tt)
given_call calls i (Some call) h at = call_given 0 calls i call h at

-- ---- a whole script

pub bad_line-is : (text : List ℕ) (lines : List Numbered) → lines ≡ lines_of text → bad_in lines ≡ bad_line text
unfolding bad_line
bad_line-is text lines e = ap bad_in e

pub mode-is : (text : List ℕ) (lines : List Numbered) → lines ≡ lines_of text → mode_in lines ≡ script_mode text
unfolding script_mode
mode-is text lines e = ap mode_in e

pub bad_line-behind : (text : List ℕ) (lines behind : List Numbered) (mode : Mode) → lines ≡ lines_of text → behind ≡ behind_mode lines →
    mode_in lines ≡ Some mode → bad_heads (heads lines) ≡ None → bad_line text ≡ bad_lines behind
bad_line-behind text lines behind mode e b m h = sym (bad_line-is text lines e) ∙ (bad_in-behind lines mode m h ∙ ap bad_lines (sym b))

lines_are : (text : List ℕ) → lines_of text ≡ numbered_from 1 (pieces newline text)
unfolding lines_of
lines_are text = refl

script_lines-is : (text : List ℕ) (lines behind : List Numbered) → lines ≡ lines_of text → behind ≡ behind_mode lines → spoken_in behind ≡ script_lines text
unfolding script_lines
script_lines-is text lines behind e b = ap spoken_in b ∙ ap (λ l. spoken_in (behind_mode l)) e

-- nothing was kept before
abbrev pub none_kept : Kept
none_kept = record { bytes = []; calls = [] }

pub all_bytes : (text : List ℕ) (lines behind : List Numbered) (old new : Kept) → lines ≡ lines_of text → behind ≡ behind_mode lines → old ≡ none_kept →
    new ≡ kept_with old (spoken_in behind) → new.bytes ≡ spellings (frames_of text)
all_bytes text lines behind old new e b none kept =
    ap (λ (k : Kept). k.bytes) (kept ∙ ap (λ k. kept_with k (spoken_in behind)) none)
    ∙ (kept_bytes none_kept (spoken_in behind) ∙ ap (λ said. spellings (map frame_of said)) (script_lines-is text lines behind e b))

pub all_calls : (text : List ℕ) (lines behind : List Numbered) (old new : Kept) → lines ≡ lines_of text → behind ≡ behind_mode lines → old ≡ none_kept →
    new ≡ kept_with old (spoken_in behind) → new.calls ≡ calls_of text
all_calls text lines behind old new e b none kept =
    ap (λ (k : Kept). k.calls) (kept ∙ ap (λ k. kept_with k (spoken_in behind)) none)
    ∙ (kept_calls none_kept (spoken_in behind) ∙ ap (map call_in) (script_lines-is text lines behind e b))

script_calls : (text : List ℕ) → AreCalls 0 (map call_in (spoken_in (behind_mode (lines_of text))))
script_calls text = subst (λ lines. AreCalls 0 (map call_in (spoken_in (behind_mode lines)))) (sym (lines_are text)) (behind_calls 1 (pieces newline text))

pub calls_are : (text : List ℕ) → AreCalls 0 (calls_of text)
calls_are text = subst (λ said. AreCalls 0 (map call_in said)) (script_lines-is text (lines_of text) (behind_mode (lines_of text)) refl refl) (script_calls text)

-- as many calls as lines at most
said_few : (found : Option Spoken) (others : List Spoken) (size : ℕ) → length others ≤ size → length (cons_option found others) ≤ suc size
said_few None others size h = omega (arith, h)
said_few (Some said) others size h = omega (arith, h)

told_few : (skipped : Bool) (line : Numbered) (lines : List Numbered) (size : ℕ) → length (filter_map spoken lines) ≤ size → length (filter_map spoken (cond (not skipped) (line ∷ lines) lines)) ≤ suc size
told_few true line lines size h = omega (arith, h)
told_few false line lines size h = said_few (spoken line) (filter_map spoken lines) size h

spoken_few : (lines : List Numbered) → length (spoken_in lines) ≤ length lines
spoken_few [] = omega arith
spoken_few (line ∷ lines) = told_few (is_skipped line.bytes) line (filter (λ l. not (is_skipped l.bytes)) lines) (length lines) (spoken_few lines)

kept_few : (skipped : Bool) (line : Numbered) (lines others : List Numbered) → length others ≤ length lines → length (cond skipped others (line ∷ lines)) ≤ suc (length lines)
kept_few true line lines others h = omega (arith, h)
kept_few false line lines others h = omega arith

from_few : (lines : List Numbered) → length (from_mode lines) ≤ length lines
from_few [] = omega arith
from_few (line ∷ lines) = kept_few (is_skipped line.bytes) line lines (from_mode lines) (from_few lines)

behind_few : (lines : List Numbered) → length (behind_mode lines) ≤ length lines
behind_few lines = let few = from_few lines in let size = length-drop 1 (from_mode lines) in omega (arith, few, size)

pub calls_few : (text : List ℕ) (lines behind : List Numbered) (calls : List (Option Call)) → lines ≡ lines_of text → behind ≡ behind_mode lines → calls ≡ calls_of text → length calls ≤ length lines
calls_few text lines behind calls e b c =
    let said = spoken_few behind in
    let same : length calls ≡ length (spoken_in behind) =
    ap length c ∙ (length-map (script_lines text) call_in ∙ ap length (sym (script_lines-is text lines behind e b))) in
    let few = behind_few lines in
    let where_from = ap length b in
    omega (arith, said, same, few, where_from)

-- a later call has a higher transaction id
pub later_higher : (low : ℕ) (calls : List (Option Call)) (i j : ℕ) (a b : Call) → AreCalls low calls → i < j → slice_get calls i ≡ Some (Some a) → slice_get calls j ≡ Some (Some b) → a.txid < b.txid
later_higher low [] i j a b h lt at later = cc
later_higher low (first ∷ calls) i zero a b h lt at later = absurd (omega (arith, lt))
later_higher low (None ∷ calls) zero (suc j) a b h lt at later = cc
later_higher low (None ∷ calls) (suc i) (suc j) a b h lt at later = later_higher low calls i j a b h (omega (arith, lt)) at later
later_higher low (Some first ∷ calls) zero (suc j) a b h lt at later =
    let same : first ≡ a = same_Some first a (same_Some (Some first) (Some a) at) in
    subst (λ (c : Call). c.txid < b.txid) same (call_given first.txid calls j b h.2 later).0
later_higher low (Some first ∷ calls) (suc i) (suc j) a b h lt at later = later_higher first.txid calls i j a b h.2 (omega (arith, lt)) at later

pub are_apart : (calls : List (Option Call)) → AreCalls 0 calls → AreApart calls
are_apart calls h = λ i j a b lt at later. later_higher 0 calls i j a b h lt at later
