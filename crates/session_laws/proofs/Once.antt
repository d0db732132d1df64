-- What was served is answered as its endpoint answers, and nothing is served on an endpoint that is dead.
use Rattle.std.proofs.Common.{◌≡◌, ℕ, ◌==◌, ◌⊎◌, ◌∙◌, Bool, true, false, not, List, [], ◌∷◌, filter, map, option_to_list, Some, None, Ok, All, AllPairs, Contains, refl, sym, ap, subst, inl, inr, arith}
use Rattle.std.proofs.lemmas.Bool.{eqb-true}
use Rattle.std.proofs.lemmas.List.Elements.{Contains-append_left}
use Rattle.std.proofs.lemmas.List.Kept.{AllPairs-cons}
use Rattle.link_admission.specs.Numbering.{among}
use Rattle.fidl_names.specs.declared.statuses.Status.{Status}
use Rattle.fidl_names.specs.HandleNumber.{handle_with}
use Rattle.io_messages.specs.Asked.{Asked, method_of}
use Rattle.io_messages.specs.declared.protocols.Protocol.{Protocol}
use Rattle.io_messages.specs.Requests.{has_txid}
use Rattle.io_messages.specs.Shapes.{is_one_way}
use Rattle.vfs_journal.specs.Entries.{Journal, Sending, Sent, sends, serves, refuses}
use Rattle.vfs_journal.specs.History.{Event, History, births, is_dead, is_watcher, served_by, serves_on}
use Rattle.vfs_journal.specs.Outcomes.{ending}
use Rattle.vfs_journal.specs.Past.{behind, event_of, history_of}
use Rattle.vfs_journal.specs.Serving.{outcome_of, read_by}
use Rattle.vfs_journal.specs.Starts.{Start}
use Rattle.journal_laws.proofs.Members.{contains_none, none_passes}
use Rattle.journal_laws.proofs.Places.{head_is, waits_unserved}
use Rattle.journal_laws.proofs.Steps.{births-more}
use Rattle.session_laws.proofs.Forms.{HasId, read_has}
use Rattle.session_laws.proofs.Framed.{AreFramed, HasReply, IsReplied}
use Rattle.session_laws.proofs.Front.{bound_lives}
use Rattle.journal_laws.proofs.Stepping.{Stepped, none, refusing, sending, serving}
use Rattle.journal_laws.proofs.Filters.{all_of}
use Rattle.session_laws.proofs.RepliesServed.{IsServedOn, answer_before, answer_now, new_elsewhere, served_cases, served_on_bound}
use Rattle.session_laws.specs.Replies.{IsAnswered}
use Rattle.session_laws.specs.Pipelined.{EndsByEpitaph, HasOneReply, answer_to, is_reply_on, served_on, txid_in, txid_of}

-- ---- answers

swapped : (b : Bool) → not b ≡ false → b ≡ true
swapped true e = refl
swapped false e = absurd (cc)

unset : (b : Bool) → not b ≡ true → b ≡ false
unset true e = absurd (cc)
unset false e = refl

-- a request whose method has no reply has no transaction id
without_id : (p : Protocol) (bytes handles : List ℕ) (txid : ℕ) (asked : Asked) → read_by p bytes handles ≡ Ok (txid, asked) → is_one_way (method_of asked) ≡ true → (txid_in bytes == 0) ≡ true
without_id p bytes handles txid asked reads way =
    let has = subst (HasId (txid_in bytes)) reads (read_has p bytes (map handle_with handles)) in
    ap (λ (b : Bool). has_txid b (txid_in bytes)) (sym way) ∙ has.1

-- what is served now is answered by its outcome
now_answered : (start : Start) (past : History) (new : Sent) → IsServedOn start past new → IsAnswered start (behind start (serves new) past) new
now_answered start past new h =
    let now = behind start (serves new) past in
    let frames = (outcome_of start past new).frames in
    let answer = answer_now start past new in
    record {
      bound = h.bound;
      born = subst (λ bounds. Contains bounds h.bound) (sym (births-more start (event_of start past (serves new)) past))
          (Contains-append_left (births start past) (option_to_list (event_of start past (serves new)).outcome.bound) h.bound h.born);
      on = h.on;
      watcher = λ is. answer ∙ h.framed.watcher is;
      one_way = λ is. ap (filter (is_reply_on new.endpoint)) answer ∙ none_by (is_watcher h.bound.birth.protocol) refl (swapped (txid_of new.sending == 0) is);
      two_way = λ other is. by_answer ((own other).two_way (unset (txid_of new.sending == 0) is));
      request = λ bytes handles txid asked other is reads has. in_reply (h.framed.replied bytes handles other is (subst HasReply (sym reads) has));
      silent = λ bytes handles txid asked is reads way.
          ap (filter (is_reply_on new.endpoint)) answer ∙ none_by (is_watcher h.bound.birth.protocol) refl (ap (λ (s : Sending). txid_of s == 0) is ∙ without_id h.bound.birth.protocol bytes handles txid asked reads way);
      unknown = λ bytes handles txid ordinal other is reads. in_reply (h.framed.replied bytes handles other is (subst HasReply (sym reads) tt));
    }
  where
    own : is_watcher h.bound.birth.protocol ≡ false → AreFramed new.endpoint (txid_of new.sending) (outcome_of start past new).frames
    own other = subst (λ (n : ℕ). AreFramed n (txid_of new.sending) (outcome_of start past new).frames) h.on (h.framed.framed other)

    none_by : (b : Bool) → is_watcher h.bound.birth.protocol ≡ b → (txid_of new.sending == 0) ≡ true → filter (is_reply_on new.endpoint) (outcome_of start past new).frames ≡ []
    none_by true is z = ap (filter (is_reply_on new.endpoint)) (h.framed.watcher is)
    none_by false is z = (own is).one_way z

    has_one : IsReplied new.endpoint (txid_of new.sending) (outcome_of start past new).frames → HasOneReply (behind start (serves new) past) new
    has_one replied = (replied.0, ap (filter (is_reply_on new.endpoint)) (answer_now start past new) ∙ replied.1, replied.2)

    in_reply : IsReplied h.bound.endpoint (txid_of new.sending) (outcome_of start past new).frames → HasOneReply (behind start (serves new) past) new
    in_reply replied = has_one (subst (λ (n : ℕ). IsReplied n (txid_of new.sending) (outcome_of start past new).frames) h.on replied)

    by_answer : ((status : Status) × ((outcome_of start past new).frames ≡ ending new.endpoint status)) ⊎ IsReplied new.endpoint (txid_of new.sending) (outcome_of start past new).frames →
        EndsByEpitaph (behind start (serves new) past) new ⊎ HasOneReply (behind start (serves new) past) new
    by_answer (inl ended) = inl (ended.0, answer_now start past new ∙ ended.1)
    by_answer (inr replied) = inr (has_one replied)

-- what was answered before is so behind an event that leaves its answer
still_answered : (start : Start) (event : Event) (past : History) (one : Sent) → answer_to (event ∷ past) one ≡ answer_to past one → IsAnswered start past one → IsAnswered start (event ∷ past) one
still_answered start event past one same h = record {
  bound = h.bound;
  born = subst (λ bounds. Contains bounds h.bound) (sym (births-more start event past)) (Contains-append_left (births start past) (option_to_list event.outcome.bound) h.bound h.born);
  on = h.on;
  watcher = λ is. same ∙ h.watcher is;
  one_way = λ is. ap (filter (is_reply_on one.endpoint)) same ∙ h.one_way is;
  two_way = λ other is. by_answer (h.two_way other is);
  request = λ bytes handles txid asked other is reads has. still_one (h.request bytes handles txid asked other is reads has);
  silent = λ bytes handles txid asked is reads way. ap (filter (is_reply_on one.endpoint)) same ∙ h.silent bytes handles txid asked is reads way;
  unknown = λ bytes handles txid ordinal other is reads. still_one (h.unknown bytes handles txid ordinal other is reads);
} where
  still_one : HasOneReply past one → HasOneReply (event ∷ past) one
  still_one replied = (replied.0, ap (filter (is_reply_on one.endpoint)) same ∙ replied.1, replied.2)

  by_answer : EndsByEpitaph past one ⊎ HasOneReply past one → EndsByEpitaph (event ∷ past) one ⊎ HasOneReply (event ∷ past) one
  by_answer (inl ended) = inl (ended.0, same ∙ ended.1)
  by_answer (inr replied) = inr (still_one replied)

-- an event that serves nothing
served_earlier : (event : Event) (past : History) (endpoint : ℕ) (one : Sent) → served_by event.entry ≡ None → Contains (served_on (event ∷ past) endpoint) one → Contains (served_on past endpoint) one
served_earlier event past endpoint one idle h = by_side (served_cases event past endpoint one h) where
  by_side : Contains (served_on past endpoint) one ⊎ (served_by event.entry ≡ Some one) → Contains (served_on past endpoint) one
  by_side (inl there) = there
  by_side (inr e) = absurd (cc)

served_side : (start : Start) (past : History) (new one : Sent) → (Contains (served_on past one.endpoint) one → IsAnswered start (behind start (serves new) past) one) →
    IsAnswered start (behind start (serves new) past) new → Contains (served_on past one.endpoint) one ⊎ (Some new ≡ Some one) → IsAnswered start (behind start (serves new) past) one
served_side start past new one before now (inl there) = before there
served_side start past new one before now (inr e) = subst (λ (s : Sent). IsAnswered start (behind start (serves new) past) s) (cc) now

pub answered : (start : Start) (journal : Journal) (one : Sent) → Stepped start journal → Contains (served_on (history_of start journal) one.endpoint) one → IsAnswered start (history_of start journal) one
unfolding history_of event_of
answered start journal one none there = absurd (contains_none one there)
answered start journal one (refusing earlier at why steps all) there =
    let past = history_of start earlier in
    let event = event_of start past (refuses at why) in
    still_answered start event past one refl (answered start earlier one steps (served_earlier event past one.endpoint one refl there))
answered start journal one (sending earlier new steps next) there =
    let past = history_of start earlier in
    let event = event_of start past (sends new) in
    still_answered start event past one refl (answered start earlier one steps (served_earlier event past one.endpoint one refl there))
answered start journal one (serving earlier new steps all is) there =
    let past = history_of start earlier in
    let event = event_of start past (serves new) in
    let not_yet = waits_unserved past new (head_is start past new is).waits in
    served_side start past new one
    (λ before. still_answered start event past one (answer_before start past new one (new_elsewhere past new one one.endpoint before not_yet)) (answered start earlier one steps before))
    (now_answered start past new (served_on_bound start earlier new steps is))
    (served_cases event past one.endpoint one there)

-- ---- the last serving

-- an event's deaths are apart from who lives behind it
died : (past : History) (endpoint : ℕ) (event : Event) → is_dead past endpoint ≡ false → Contains past event → among endpoint event.deaths ≡ false
died past endpoint event lives there = none_passes (λ (e : Event). among endpoint e.deaths) past event lives there

abbrev EndsBefore : ℕ → Event → Event → Type 0
EndsBefore endpoint later event = among endpoint event.deaths ≡ true → serves_on endpoint later ≡ false

-- what serves nothing ends nothing that is served
idle_behind : (past : History) (endpoint : ℕ) (later : Event) → serves_on endpoint later ≡ false → All (EndsBefore endpoint later) past
idle_behind past endpoint later idle = all_of (EndsBefore endpoint later) past (λ event there dies. idle)

serving_behind : (past : History) (endpoint : ℕ) (later : Event) (new : Sent) → serves_on endpoint later ≡ (new.endpoint == endpoint) → is_dead past new.endpoint ≡ false → (b : Bool) → (new.endpoint == endpoint) ≡ b →
    All (EndsBefore endpoint later) past
serving_behind past endpoint later new same lives false is = idle_behind past endpoint later (same ∙ is)
serving_behind past endpoint later new same lives true is =
    all_of (EndsBefore endpoint later) past
    (λ event there dies.
    let alive = subst (λ (n : ℕ). is_dead past n ≡ false) (eqb-true new.endpoint endpoint is) lives in
    let wrong : true ≡ false = sym dies ∙ died past endpoint event alive there in
    absurd (cc))

pub last_served : (start : Start) (journal : Journal) (endpoint : ℕ) → Stepped start journal → AllPairs (EndsBefore endpoint) (history_of start journal)
unfolding history_of event_of
last_served start journal endpoint none = λ i j d l m. absurd (omega arith)
last_served start journal endpoint (refusing earlier at why steps all) =
    let past = history_of start earlier in
    let event = event_of start past (refuses at why) in
    AllPairs-cons (EndsBefore endpoint) event past (idle_behind past endpoint event refl) (last_served start earlier endpoint steps)
last_served start journal endpoint (sending earlier new steps next) =
    let past = history_of start earlier in
    let event = event_of start past (sends new) in
    AllPairs-cons (EndsBefore endpoint) event past (idle_behind past endpoint event refl) (last_served start earlier endpoint steps)
last_served start journal endpoint (serving earlier new steps all is) =
    let past = history_of start earlier in
    let event = event_of start past (serves new) in
    let alive = bound_lives start past new.endpoint (head_is start past new is).bound in
    AllPairs-cons (EndsBefore endpoint) event past (serving_behind past endpoint event new refl alive (new.endpoint == endpoint) refl) (last_served start earlier endpoint steps)
