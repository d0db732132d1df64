-- The replies on an endpoint are those to what was served on it, in order.
use Rattle.std.proofs.Common.{◌≡◌, ℕ, ◌==◌, ◌∙◌, Bool, true, false, cond, [], ◌∷◌, ◌++◌, filter, refl, sym, ap}
use Rattle.std.specs.List.{flat_map}
use Rattle.std.proofs.lemmas.Bool.{eqb-true}
use Rattle.std.proofs.lemmas.List.{append-nil}
use Rattle.std.proofs.lemmas.List.Concat.{flat_map-append}
use Rattle.std.proofs.lemmas.List.Elements.{filter-append}
use Rattle.vfs_journal.specs.Entries.{Journal, Sent, sends, serves, refuses}
use Rattle.vfs_journal.specs.History.{History, is_watcher, living, trees_of, was_served}
use Rattle.vfs_journal.specs.Output.{frames_of, frames_of_serving, refused_frame}
use Rattle.vfs_journal.specs.Past.{behind, event_of, history_of}
use Rattle.vfs_journal.specs.Serving.{outcome_of}
use Rattle.vfs_journal.specs.Starts.{Start}
use Rattle.journal_laws.proofs.Places.{head_is, waits_unserved}
use Rattle.session_laws.proofs.Front.{served_more}
use Rattle.journal_laws.proofs.Stepping.{Stepped, none, refusing, sending, serving}
use Rattle.journal_laws.proofs.Filters.{all_of, joined_same}
use Rattle.session_laws.proofs.RepliesServed.{IsServedOn, answer_before, answer_now, new_elsewhere, served_on_bound}
use Rattle.session_laws.proofs.Written.{no_watcher_before, serving_replies}
use Rattle.session_laws.specs.Pipelined.{is_on, is_reply_on, replies_on, replies_to, served_on, was_watcher}

-- an answer on another endpoint has no reply on this
no_other : (start : Start) (past : History) (new : Sent) (endpoint : ℕ) → IsServedOn start past new → (new.endpoint == endpoint) ≡ false →
    filter (is_reply_on endpoint) (outcome_of start past new).frames ≡ []
no_other start past new endpoint h other = by_kind (is_watcher h.bound.birth.protocol) refl where
  by_kind : (b : Bool) → is_watcher h.bound.birth.protocol ≡ b → filter (is_reply_on endpoint) (outcome_of start past new).frames ≡ []
  by_kind true is = ap (filter (is_reply_on endpoint)) (h.framed.watcher is)
  by_kind false is = (h.framed.framed is).others endpoint (ap (λ (n : ℕ). n == endpoint) h.on ∙ other)

-- what one more serving replies on an endpoint
replied_now : (start : Start) (past : History) (new : Sent) (endpoint : ℕ) → IsServedOn start past new → (on : Bool) → (new.endpoint == endpoint) ≡ on →
    filter (is_reply_on endpoint) (outcome_of start past new).frames ≡ flat_map (replies_to (behind start (serves new) past)) (cond on (new ∷ []) [])
replied_now start past new endpoint h true is =
    let now = behind start (serves new) past in
    let same = eqb-true new.endpoint endpoint is in
    ap (λ (n : ℕ). filter (is_reply_on n) (outcome_of start past new).frames) (sym same)
    ∙ ap (filter (is_reply_on new.endpoint)) (sym (answer_now start past new))
    ∙ sym (append-nil (replies_to now new))
replied_now start past new endpoint h false is = no_other start past new endpoint h is

-- what was served before has the replies that it had
replied_before : (start : Start) (past : History) (new : Sent) (endpoint : ℕ) → was_served past new ≡ false →
    flat_map (replies_to past) (served_on past endpoint) ≡ flat_map (replies_to (behind start (serves new) past)) (served_on past endpoint)
replied_before start past new endpoint not_yet =
    joined_same (replies_to past) (replies_to (behind start (serves new) past)) (served_on past endpoint)
    (all_of (λ one. replies_to past one ≡ replies_to (behind start (serves new) past) one) (served_on past endpoint)
    (λ one there. ap (filter (is_reply_on one.endpoint)) (sym (answer_before start past new one (new_elsewhere past new one endpoint there not_yet)))))

pub ordered : (start : Start) (journal : Journal) (endpoint : ℕ) → Stepped start journal → was_watcher start (history_of start journal) endpoint ≡ false →
    replies_on start (history_of start journal) endpoint ≡ flat_map (replies_to (history_of start journal)) (served_on (history_of start journal) endpoint)
unfolding history_of event_of
ordered start journal endpoint none h = refl
ordered start journal endpoint (refusing earlier at why steps all) h =
    let past = history_of start earlier in
    let event = event_of start past (refuses at why) in
    let served = served_more event past endpoint ∙ append-nil (served_on past endpoint) in
    filter-append (is_reply_on endpoint) (frames_of start past) (refused_frame at why ∷ [])
    ∙ append-nil (replies_on start past endpoint)
    ∙ ordered start earlier endpoint steps (no_watcher_before start event past endpoint h)
    ∙ sym (ap (flat_map (replies_to (event ∷ past))) served)
ordered start journal endpoint (sending earlier new steps next) h =
    let past = history_of start earlier in
    let event = event_of start past (sends new) in
    let served = served_more event past endpoint ∙ append-nil (served_on past endpoint) in
    ap (filter (is_reply_on endpoint)) (append-nil (frames_of start past))
    ∙ ordered start earlier endpoint steps (no_watcher_before start event past endpoint h)
    ∙ sym (ap (flat_map (replies_to (event ∷ past))) served)
ordered start journal endpoint (serving earlier new steps all is) h =
    let past = history_of start earlier in
    let event = event_of start past (serves new) in
    let now = behind start (serves new) past in
    let not_yet = waits_unserved past new (head_is start past new is).waits in
    let first = cond (is_on endpoint new) (new ∷ []) [] in
    filter-append (is_reply_on endpoint) (frames_of start past) (frames_of_serving (trees_of start past) (living start past) event)
    ∙ ap (λ frames. replies_on start past endpoint ++ frames)
    (serving_replies start past new endpoint h ∙ replied_now start past new endpoint (served_on_bound start earlier new steps is) (is_on endpoint new) refl)
    ∙ ap (λ frames. frames ++ flat_map (replies_to now) first)
    (ordered start earlier endpoint steps (no_watcher_before start event past endpoint h) ∙ replied_before start past new endpoint not_yet)
    ∙ sym (flat_map-append (replies_to now) (served_on past endpoint) first)
    ∙ sym (ap (flat_map (replies_to now)) (served_more event past endpoint))
