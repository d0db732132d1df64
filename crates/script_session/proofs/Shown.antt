-- A transcript shows all that the session of its script writes.
use Rattle.std.proofs.Common.{◌≡◌, ℕ, List, [], ◌∷◌, ◌++◌, length, drop, map, refl, sym, ap, ◌∙◌, fold}
use Rattle.std.proofs.Math.Seq.{drop-append_seam}
use Rattle.std.proofs.lemmas.List.Concat.{flat_map-append}
use Rattle.std.specs.List.{flat_map}
use Rattle.link_frames.specs.declared.kinds.Mode.{Mode}
use Rattle.vfs_journal.specs.Entries.{Journal}
use Rattle.vfs_journal.specs.Output.{frames_behind}
use Rattle.vfs_journal.specs.Past.{history_of}
use Rattle.vfs_journal.specs.Session.{drained, ended, steps}
use Rattle.vfs_journal.specs.Starts.{Start}
use Rattle.vfs_script.specs.Scripts.{Spoken, call_in, calls_of, count_calls, frame_of, frames_of, script_lines}
use Rattle.vfs_script.specs.Transcripts.{counts_line, frame_line}
use Rattle.script_session.specs.Answering.{Past, sends, count_answers, count_calls as calls_made}
use Rattle.script_session.specs.Transcript.{lines_of, with_frames}
use Rattle.script_session.specs.Playing.{Played, frames_since, not_yet, play_all, play_line, play_lines, transcript}
use Rattle.vfs_world.proofs.Growth.{Begins, begins_drained, begins_stepped}
use Rattle.script_session.proofs.Played.{calls_are_made, frames_grow, frames_make_none, journal_is}

-- all frames so far, as lines
abbrev all_shown : Start → Journal → List ℕ
all_shown start journal = flat_map frame_line (frames_behind start journal)

since_behind : (start : Start) (earlier later : Journal) → Begins start earlier later → frames_behind start later ≡ frames_behind start earlier ++ frames_since start earlier later
since_behind start earlier later begins =
    begins.1
    ∙ ap (λ l. frames_behind start earlier ++ l) (sym (ap (drop (length (frames_behind start earlier))) begins.1 ∙ drop-append_seam (frames_behind start earlier) begins.0))

-- what comes back behind an earlier journal is shown behind what was
shown_more : (start : Start) (earlier later : Journal) (past : Past) → Begins start earlier later → lines_of past ≡ all_shown start earlier →
    lines_of (with_frames past (frames_since start earlier later)) ≡ all_shown start later
shown_more start earlier later past begins shown =
    frames_grow past (frames_since start earlier later)
    ∙ ap (λ l. l ++ flat_map frame_line (frames_since start earlier later)) shown
    ∙ sym (flat_map-append frame_line (frames_behind start earlier) (frames_since start earlier later))
    ∙ sym (ap (flat_map frame_line) (since_behind start earlier later begins))

played_shown : (start : Start) (by : Mode) (played : Played) (lines : List Spoken) → lines_of played.past ≡ all_shown start played.journal →
    lines_of (fold (play_line start by) played lines).past ≡ all_shown start (fold (play_line start by) played lines).journal
played_shown start by played [] shown = shown
played_shown start by played (said ∷ lines) shown =
    played_shown start by (play_line start by played said) lines
    (shown_more start played.journal (steps start by played.journal (frame_of said)) (sends (call_in said) ∷ played.past) (begins_stepped start by played.journal (frame_of said)) shown)

none_shown : (start : Start) → [] ≡ all_shown start []
unfolding history_of
none_shown start = refl

all_played : (start : Start) (by : Mode) (lines : List Spoken) → lines_of (play_all start by lines) ≡ all_shown start (ended start by (map frame_of lines))
all_played start by lines =
    let played = play_lines start by lines in
    shown_more start played.journal (drained start played.journal) played.past (begins_drained start played.journal) (played_shown start by not_yet lines (none_shown start))
    ∙ ap (λ journal. all_shown start (drained start journal)) (journal_is start by lines)

calls_made_in : (start : Start) (by : Mode) (lines : List Spoken) → calls_made (play_all start by lines) ≡ count_calls (map call_in lines)
calls_made_in start by lines =
    let played = play_lines start by lines in
    frames_make_none played.past (frames_since start played.journal (drained start played.journal)) ∙ calls_are_made start by lines

-- a transcript is the lines of all frames of the ended session, and then the counts
pub transcript_is : (start : Start) (by : Mode) (text : List ℕ) →
    transcript start by text ≡ flat_map frame_line (frames_behind start (ended start by (frames_of text)))
    ++ counts_line (count_calls (calls_of text)) (count_answers (play_all start by (script_lines text)))
unfolding transcript
transcript_is start by text =
    let lines = script_lines text in
    ap (λ l. l ++ counts_line (calls_made (play_all start by lines)) (count_answers (play_all start by lines))) (all_played start by lines)
    ∙ ap (λ n. flat_map frame_line (frames_behind start (ended start by (frames_of text))) ++ counts_line n (count_answers (play_all start by lines))) (calls_made_in start by lines)
