-- What happens where lines are played, one after the other.
use Rattle.std.proofs.Common.{◌≡◌, ℕ, ◌+◌, List, [], ◌∷◌, ◌++◌, map, Option, Some, None, refl, sym, ap, ◌∙◌, subst, append_assoc, append-nil, arith, fold}
use Rattle.std.specs.List.{flat_map}
use Rattle.std.proofs.lemmas.List.Sums.{fold-append}
use Rattle.link_frames.specs.Frames.{Frame}
use Rattle.link_frames.specs.declared.kinds.Mode.{Mode}
use Rattle.vfs_journal.specs.Session.{drained, session, steps}
use Rattle.vfs_journal.specs.Starts.{Start}
use Rattle.vfs_script.specs.Scripts.{Spoken, call_in, count_calls, frame_of}
use Rattle.vfs_script.specs.Transcripts.{counts_line, frame_line}
use Rattle.vfs_script.specs.declared.calls.Call.{Call}
use Rattle.script_session.specs.Answering.{Past, sends, gets, count_answers, count_calls as calls_made, one_of}
use Rattle.script_session.specs.Transcript.{lines_of, text_of, with_frames}
use Rattle.script_session.specs.Playing.{Played, drain_played, frames_since, not_yet, play_all, play_line, play_lines}

-- ---- lines

pub frames_grow : (past : Past) (frames : List Frame) → lines_of (with_frames past frames) ≡ lines_of past ++ flat_map frame_line frames
frames_grow past [] = sym (append-nil (lines_of past))
frames_grow past (f ∷ frames) = frames_grow (gets f ∷ past) frames ∙ append_assoc (lines_of past) (frame_line f) (flat_map frame_line frames)

abbrev pub Grows : List ℕ → List ℕ → Type 0
Grows text later = (more : List ℕ) × (later ≡ text ++ more)

grows_far : (a b c : List ℕ) → Grows a b → Grows b c → Grows a c
grows_far a b c p q = (p.0 ++ q.0, q.1 ∙ ap (λ l. l ++ q.0) p.1 ∙ append_assoc a p.0 q.0)

pub line_grows : (start : Start) (by : Mode) (played : Played) (said : Spoken) → Grows (lines_of played.past) (lines_of (play_line start by played said).past)
line_grows start by played said =
    let since = frames_since start played.journal (steps start by played.journal (frame_of said)) in
    (flat_map frame_line since, frames_grow (sends (call_in said) ∷ played.past) since)

pub lines_grow : (start : Start) (by : Mode) (played : Played) (lines : List Spoken) → Grows (lines_of played.past) (lines_of (fold (play_line start by) played lines).past)
lines_grow start by played [] = ([], sym (append-nil (lines_of played.past)))
lines_grow start by played (said ∷ lines) =
    let next = play_line start by played said in
    grows_far (lines_of played.past) (lines_of next.past) (lines_of (fold (play_line start by) next lines).past) (line_grows start by played said) (lines_grow start by next lines)

pub counts_behind : (past : Past) → Grows (lines_of past) (text_of past)
counts_behind past = (counts_line (calls_made past) (count_answers past), refl)

-- so all that was written by some line is a front of the whole transcript
pub drain_grows : (start : Start) (played : Played) → Grows (lines_of played.past) (text_of (drain_played start played))
drain_grows start played =
    let since = frames_since start played.journal (drained start played.journal) in
    let past = with_frames played.past since in
    let counts = counts_line (calls_made past) (count_answers past) in
    grows_far (lines_of played.past) (lines_of past) (text_of past) (flat_map frame_line since, frames_grow played.past since) (counts, refl)

pub whole_grows : (start : Start) (by : Mode) (front rest : List Spoken) → Grows (lines_of (play_lines start by front).past) (text_of (play_all start by (front ++ rest)))
whole_grows start by front rest =
    let first = play_lines start by front in
    let all = play_lines start by (front ++ rest) in
    let same : all ≡ fold (play_line start by) first rest = fold-append (play_line start by) not_yet front rest in
    grows_far (lines_of first.past) (lines_of all.past) (text_of (drain_played start all))
    (subst (λ (p : Played). Grows (lines_of first.past) (lines_of p.past)) (sym same) (lines_grow start by first rest))
    (drain_grows start all)

-- and so of the lines of all
pub front_grows : (start : Start) (by : Mode) (front rest : List Spoken) → Grows (lines_of (play_lines start by front).past) (lines_of (play_lines start by (front ++ rest)).past)
front_grows start by front rest =
    let first = play_lines start by front in
    subst (λ (p : Played). Grows (lines_of first.past) (lines_of p.past)) (sym (fold-append (play_line start by) not_yet front rest)) (lines_grow start by first rest)

-- one line more
pub play_more : (start : Start) (by : Mode) (front : List Spoken) (said : Spoken) → play_lines start by (front ++ said ∷ []) ≡ play_line start by (play_lines start by front) said
play_more start by front said = fold-append (play_line start by) not_yet front (said ∷ [])

-- ---- calls

pub frames_make_none : (past : Past) (frames : List Frame) → calls_made (with_frames past frames) ≡ calls_made past
frames_make_none past [] = refl
frames_make_none past (f ∷ frames) = frames_make_none (gets f ∷ past) frames

pub counted : (call : Option Call) (calls : List (Option Call)) → count_calls (call ∷ calls) ≡ one_of call + count_calls calls
counted None calls = omega arith
counted (Some call) calls = omega arith

lines_make : (start : Start) (by : Mode) (played : Played) (lines : List Spoken) →
    calls_made (fold (play_line start by) played lines).past ≡ calls_made played.past + count_calls (map call_in lines)
lines_make start by played [] = omega arith
lines_make start by played (said ∷ lines) =
    let next = play_line start by played said in
    let rest = lines_make start by next lines in
    let one = frames_make_none (sends (call_in said) ∷ played.past) (frames_since start played.journal next.journal) in
    let more = counted (call_in said) (map call_in lines) in
    omega (arith, rest, one, more)

-- as many calls were made as the lines make
pub calls_are_made : (start : Start) (by : Mode) (lines : List Spoken) → calls_made (play_lines start by lines).past ≡ count_calls (map call_in lines)
calls_are_made start by lines = let all = lines_make start by not_yet lines in omega (arith, all)

-- ---- the session

-- the journal is that of the session of the frames
played_from : (start : Start) (by : Mode) (played : Played) (lines : List Spoken) →
    (fold (play_line start by) played lines).journal ≡ fold (steps start by) played.journal (map frame_of lines)
played_from start by played [] = refl
played_from start by played (said ∷ lines) = played_from start by (play_line start by played said) lines

pub journal_is : (start : Start) (by : Mode) (lines : List Spoken) → (play_lines start by lines).journal ≡ session start by (map frame_of lines)
journal_is start by lines = played_from start by not_yet lines
