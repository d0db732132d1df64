-- What is sent waits last.
use Rattle.std.proofs.Common.{◌≡◌, ℕ, ◌≤◌, ◌&&◌, Bool, true, false, not, if◌then◌else◌, [], ◌∷◌, ◌++◌, length, Option, Some, refl, ap, ◌∙◌, arith}
use Rattle.vfs_journal.specs.Entries.{Sent, Sending, Journal, message, sends, serves}
use Rattle.vfs_journal.specs.History.{History, waiting, waits, was_served, is_dead}
use Rattle.vfs_journal.specs.Lawful.{Lawful}
use Rattle.vfs_journal.specs.Outcomes.{Forwarded}
use Rattle.vfs_journal.specs.Past.{behind, history_of}
use Rattle.vfs_journal.specs.Serving.{outcome_of}
use Rattle.vfs_journal.specs.Session.{head, sent_behind, with_forward, after_serving}
use Rattle.journal_laws.specs.Soundness.{IsStart}
use Rattle.vfs_journal.specs.Starts.{Start}
use Rattle.journal_laws.proofs.Below.{Below}
use Rattle.journal_laws.proofs.Kept.{lawful_kept, is_serving, is_forwarded, end_lives, mounts_born}
use Rattle.journal_laws.proofs.Served.{serving_sound}
use Rattle.journal_laws.proofs.Sound.{view}
use Rattle.journal_laws.proofs.Stepping.{Stepped, stepped, served_next}
use Rattle.journal_laws.proofs.Steps.{sendings_wait_last}
use Rattle.journal_laws.proofs.Views.{is_view, served_view, fresh_unserved}

queue_of : (start : Start) (past : History) (new : Sent) → was_served past new ≡ false → is_dead past new.endpoint ≡ false → waiting (behind start (sends new) past) ≡ waiting past ++ new ∷ []
queue_of start past new unserved alive =
    let it_waits : waits past new ≡ true = ap (λ (b : Bool). not b && not (is_dead past new.endpoint)) unserved ∙ ap not alive in
    (sendings_wait_last start past new).queue ∙ ap (λ (b : Bool). waiting past ++ (if b then new ∷ [] else [])) it_waits

sent_queue : (start : Start) (journal : Journal) (endpoint : ℕ) (sending : Sending) (origin : Option ℕ) → Stepped start journal → is_dead (history_of start journal) endpoint ≡ false →
    waiting (history_of start (sends (sent_behind journal endpoint sending origin) ∷ journal)) ≡ waiting (history_of start journal) ++ sent_behind journal endpoint sending origin ∷ []
unfolding history_of
sent_queue start journal endpoint sending origin steps alive =
    queue_of start (history_of start journal) (sent_behind journal endpoint sending origin)
    (fresh_unserved start journal (sent_behind journal endpoint sending origin) steps (same_le (length journal))) alive where
      same_le : (n : ℕ) → n ≤ n
      same_le n = omega arith

pub what_is_sent_waits : (start : Start) (journal : Journal) (endpoint : ℕ) (sending : Sending) (origin : Option ℕ) → Lawful start journal → is_dead (history_of start journal) endpoint ≡ false →
    waiting (history_of start (sends (sent_behind journal endpoint sending origin) ∷ journal)) ≡ waiting (history_of start journal) ++ sent_behind journal endpoint sending origin ∷ []
what_is_sent_waits start journal endpoint sending origin h alive = sent_queue start journal endpoint sending origin (stepped start journal h) alive

-- the end of a mount lives behind the serving whose Open goes on to it
end_alive : Below → (start : Start) (journal : Journal) (sent : Sent) (forward : Forwarded) → IsStart start → Lawful start journal → head start (history_of start journal) sent.endpoint ≡ Some sent →
    (outcome_of start (history_of start journal) sent).forward ≡ Some forward → is_dead (history_of start (serves sent ∷ journal)) forward.endpoint ≡ false
unfolding history_of
end_alive below start journal sent forward s h first e =
    let history = history_of start journal in
    let mid = behind start (serves sent) history in
    let steps = stepped start journal h in
    let kept = lawful_kept below start s journal h in
    let is = is_view start journal steps in
    let served = is_serving below start journal sent s steps kept.sound first in
    let new = sent_behind (serves sent ∷ journal) forward.endpoint (message forward.bytes (forward.object ∷ [])) (Some sent.place) in
    let sound = serving_sound start (view start history) (view start mid) sent (outcome_of start history sent) s kept.sound is served.answered (served_view start history sent served.keeps) in
    let mid_is = is_view start (serves sent ∷ journal) (served_next start journal sent h first) in
    (end_lives start (view start mid) forward.endpoint s sound mid_is (mounts_born start mid) (is_forwarded below start history sent new forward s kept.sound is served e refl refl).end).0

pub what_goes_on_waits : Below → (start : Start) (journal : Journal) (sent : Sent) (forward : Forwarded) → IsStart start → Lawful start journal → head start (history_of start journal) sent.endpoint ≡ Some sent →
    (outcome_of start (history_of start journal) sent).forward ≡ Some forward →
    waiting (history_of start (after_serving start journal sent))
    ≡ waiting (history_of start (serves sent ∷ journal))
    ++ sent_behind (serves sent ∷ journal) forward.endpoint (message forward.bytes (forward.object ∷ [])) (Some sent.place) ∷ []
what_goes_on_waits below start journal sent forward s h first e =
    ap (λ (o : Option Forwarded). waiting (history_of start (with_forward sent.place (serves sent ∷ journal) o))) e
    ∙ sent_queue start (serves sent ∷ journal) forward.endpoint (message forward.bytes (forward.object ∷ [])) (Some sent.place) (served_next start journal sent h first)
    (end_alive below start journal sent forward s h first e)
