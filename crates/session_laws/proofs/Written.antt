-- Which replies are written for one event: those of its answer.
use Rattle.std.proofs.Common.{◌≡◌, ℕ, ◌==◌, ◌&&◌, ◌⊎◌, ◌∙◌, Bool, true, false, not, List, [], ◌∷◌, ◌++◌, filter, map, option_to_list, Option, Some, None, Contains, refl, sym, ap, subst, inl, inr}
use Rattle.std.specs.List.{list_any}
use Rattle.std.specs.Option.{option_map_or}
use Rattle.std.proofs.lemmas.Bool.{and_parts}
use Rattle.std.proofs.lemmas.List.{append-nil}
use Rattle.std.proofs.lemmas.List.Elements.{All-map, Contains-append_left, Contains-append_right, filter-append}
use Rattle.link_frames.specs.Frames.{Frame}
use Rattle.link_admission.specs.Numbering.{among}
use Rattle.node_graph.specs.Tree.{Tree, names_in}
use Rattle.path_walk.specs.Names.{dot}
use Rattle.conn_rules.specs.Answers.{Act, Answer, Happening, replies, closes, binds, watches, forwards, refuses, ends, hangs_up, silent}
use Rattle.conn_rules.specs.Answers as news
use Rattle.vfs_journal.specs.Entries.{Sent, serves}
use Rattle.vfs_journal.specs.History.{Event, History, births, is_dead, is_watcher, living, tree_at, trees_of, watches_node}
use Rattle.vfs_journal.specs.Outcomes.{Asker, Outcome, bound_of, close_frame, watcher_birth}
use Rattle.vfs_journal.specs.Output.{close_frames, frames_of_serving, rising}
use Rattle.vfs_journal.specs.Past.{event_of}
use Rattle.vfs_journal.specs.Serving.{outcome_of}
use Rattle.vfs_journal.specs.Starts.{Bound, Start}
use Rattle.vfs_journal.specs.Watching.{first_frames, first_messages, told_by, told_frames, told_of, watcher_of}
use Rattle.watch_events.specs.Events.{event_bytes}
use Rattle.watch_events.specs.Messages.{Watcher, added, asks_for, deleted, removed, watch_frame}
use Rattle.watch_events.specs.Messages as messages
use Rattle.journal_laws.proofs.Members.{contains_here, kept_of, mapped_member, none_passes}
use Rattle.journal_laws.proofs.Steps.{births-more}
use Rattle.session_laws.proofs.Framed.{other_reply}
use Rattle.session_laws.proofs.ShortIds.{outcome_holds}
use Rattle.journal_laws.proofs.Filters.{all_of, none_in_front, none_joined, none_kept, none_mapped}
use Rattle.session_laws.specs.Pipelined.{is_reply_on, was_watcher}

-- ---- whom watchers' messages go to

-- an endpoint that is no watcher's isn't that of a watcher that was born
other_watcher : (endpoint : ℕ) (bound : Bound) → ((bound.endpoint == endpoint) && is_watcher bound.birth.protocol) ≡ false → is_watcher bound.birth.protocol ≡ true → (bound.endpoint == endpoint) ≡ false
other_watcher endpoint bound h is = by_test (bound.endpoint == endpoint) (ap (λ (w : Bool). (bound.endpoint == endpoint) && w) (sym is) ∙ h) where
  by_test : (b : Bool) → (b && true) ≡ false → b ≡ false
  by_test true e = e
  by_test false e = refl

abbrev IsElsewhere : ℕ → Bound → Type 0
IsElsewhere endpoint bound = is_watcher bound.birth.protocol ≡ true → (bound.endpoint == endpoint) ≡ false

born_elsewhere : (start : Start) (history : History) (endpoint : ℕ) (bound : Bound) → was_watcher start history endpoint ≡ false → Contains (births start history) bound → IsElsewhere endpoint bound
born_elsewhere start history endpoint bound none born is =
    other_watcher endpoint bound (none_passes (λ (b : Bound). (b.endpoint == endpoint) && is_watcher b.birth.protocol) (births start history) bound none born) is

-- who was no watcher wasn't before
pub no_watcher_before : (start : Start) (event : Event) (past : History) (endpoint : ℕ) → was_watcher start (event ∷ past) endpoint ≡ false → was_watcher start past endpoint ≡ false
no_watcher_before start event past endpoint none =
    none_in_front (λ (b : Bound). (b.endpoint == endpoint) && is_watcher b.birth.protocol) (births start past) (option_to_list event.outcome.bound)
    (subst (λ bounds. list_any (λ (b : Bound). (b.endpoint == endpoint) && is_watcher b.birth.protocol) bounds ≡ false) (births-more start event past) none)

-- ---- a new watcher's first messages

-- what a serving binds is a watcher's, or asks for no event
abbrev IsUnmasked : Bound → Type 0
IsUnmasked bound = (bound.mask ≡ 0) ⊎ (is_watcher bound.birth.protocol ≡ true)

abbrev BindsUnmasked : Outcome → Type 0
BindsUnmasked outcome = (bound : Bound) → outcome.bound ≡ Some bound → IsUnmasked bound

answer_unmasked : (asker : Asker) (answer : Answer) (bound : Bound) → bound_of asker answer ≡ Some bound → IsUnmasked bound
answer_unmasked asker (binds birth announced) bound e = inl (cc)
answer_unmasked asker (watches mask) bound e =
    let made : Bound = record { endpoint = asker.object; server = asker.server; birth = watcher_birth asker.node; mask = mask } in
    let same : made ≡ bound = cc in
    inr (ap (λ (b : Bound). is_watcher b.birth.protocol) (sym same))
answer_unmasked asker (replies a) bound e = absurd (cc)
answer_unmasked asker closes bound e = absurd (cc)
answer_unmasked asker (forwards mount flags rest) bound e = absurd (cc)
answer_unmasked asker (refuses status) bound e = absurd (cc)
answer_unmasked asker (ends status) bound e = absurd (cc)
answer_unmasked asker hangs_up bound e = absurd (cc)
answer_unmasked asker silent bound e = absurd (cc)

binds_unmasked : (start : Start) (past : History) (new : Sent) → BindsUnmasked (outcome_of start past new)
binds_unmasked start past new = outcome_holds BindsUnmasked (λ asker act. answer_unmasked asker act.answer) (λ bound e. absurd (cc)) start past new

first_none : (endpoint : ℕ) (tree : Tree) (bound : Bound) → IsUnmasked bound → IsElsewhere endpoint bound → filter (is_reply_on endpoint) (first_frames tree bound) ≡ []
first_none endpoint tree bound (inl unmasked) other =
    ap (λ (mask : ℕ). filter (is_reply_on endpoint) (messages.first_frames bound.endpoint mask (names_in tree.edges bound.birth.node))) unmasked
first_none endpoint tree bound (inr is) other =
    none_mapped (is_reply_on endpoint) (watch_frame bound.endpoint) (first_messages tree bound) (λ bytes. other_reply endpoint bound.endpoint [] bytes (other is))

firsts_none : (endpoint : ℕ) (trees : List Tree) (o : Option Bound) → ((bound : Bound) → o ≡ Some bound → IsUnmasked bound) → ((bound : Bound) → o ≡ Some bound → IsElsewhere endpoint bound) →
    filter (is_reply_on endpoint) (option_map_or (λ bound. first_frames (tree_at trees bound.server) bound) o []) ≡ []
firsts_none endpoint trees None unmasked other = refl
firsts_none endpoint trees (Some bound) unmasked other = first_none endpoint (tree_at trees bound.server) bound (unmasked bound refl) (other bound refl)

-- ---- what watchers are told

watches_so : (server node : ℕ) (bound : Bound) → watches_node server node bound ≡ true → is_watcher bound.birth.protocol ≡ true
watches_so server node bound h = (and_parts (is_watcher bound.birth.protocol) ((bound.server == server) && (bound.birth.node == node)) h).0

told_of_none : (endpoint : ℕ) (lives : List Bound) (server directory event : ℕ) (name : List ℕ) → ((bound : Bound) → Contains lives bound → IsElsewhere endpoint bound) →
    filter (is_reply_on endpoint) (told_of lives server directory event name) ≡ []
told_of_none endpoint lives server directory event name other =
    let watching = filter (watches_node server directory) lives in
    let asking = filter (λ (watcher : Watcher). asks_for watcher.mask event) (map watcher_of watching) in
    let frame : Watcher → Frame = λ watcher. watch_frame watcher.endpoint (event_bytes event name) in
    none_kept (is_reply_on endpoint) (map frame asking)
    (All-map (λ f. is_reply_on endpoint f ≡ false) frame asking
    (all_of (λ watcher. is_reply_on endpoint (frame watcher) ≡ false) asking
    (λ watcher there.
    let from = mapped_member watcher_of watcher watching (kept_of (λ (w : Watcher). asks_for w.mask event) (map watcher_of watching) watcher there).0 in
    let bound = kept_of (watches_node server directory) lives from.0 from.1 in
    let elsewhere = other from.0 bound.0 (watches_so server directory from.0 bound.1) in
    other_reply endpoint watcher.endpoint [] (event_bytes event name) (subst (λ (n : ℕ). (n == endpoint) ≡ false) (ap (λ (w : Watcher). w.endpoint) from.2) elsewhere))))

told_none : (endpoint : ℕ) (lives : List Bound) (server : ℕ) → ((bound : Bound) → Contains lives bound → IsElsewhere endpoint bound) → (happening : Happening) →
    filter (is_reply_on endpoint) (told_by lives server happening) ≡ []
told_none endpoint lives server other (news.removed name) = told_of_none endpoint lives server name.directory removed name.name other
told_none endpoint lives server other (news.added name) = told_of_none endpoint lives server name.directory added name.name other
told_none endpoint lives server other (news.deleted directory) = told_of_none endpoint lives server directory deleted dot other

-- ---- the whole

-- of the frames for a serving the replies on an endpoint that is no watcher's are those of its answer
pub serving_replies : (start : Start) (past : History) (new : Sent) (endpoint : ℕ) → was_watcher start (event_of start past (serves new) ∷ past) endpoint ≡ false →
    filter (is_reply_on endpoint) (frames_of_serving (trees_of start past) (living start past) (event_of start past (serves new)))
    ≡ filter (is_reply_on endpoint) (outcome_of start past new).frames
unfolding event_of
serving_replies start past new endpoint none =
    let event = event_of start past (serves new) in
    let answer = event.outcome.frames in
    let first = option_map_or (λ bound. first_frames (tree_at (trees_of start past) bound.server) bound) event.outcome.bound [] in
    let told = told_frames (living start past) event.outcome.server event.outcome.told in
    let close = close_frames event in
    let p = is_reply_on endpoint in
    filter-append p (answer ++ first ++ told) close
    ∙ ap (λ frames. filter p (answer ++ first ++ told) ++ frames) no_close
    ∙ append-nil (filter p (answer ++ first ++ told))
    ∙ filter-append p (answer ++ first) told
    ∙ ap (λ frames. filter p (answer ++ first) ++ frames) no_told
    ∙ append-nil (filter p (answer ++ first))
    ∙ filter-append p answer first
    ∙ ap (λ frames. filter p answer ++ frames) no_first
    ∙ append-nil (filter p answer)
  where
    now : History
    now = event_of start past (serves new) ∷ past

    born : (bound : Bound) → Contains (births start past ++ option_to_list (outcome_of start past new).bound) bound → IsElsewhere endpoint bound
    born bound there =
        born_elsewhere start now endpoint bound none (subst (λ bounds. Contains bounds bound) (sym (births-more start (event_of start past (serves new)) past)) there)

    no_close : filter (is_reply_on endpoint) (close_frames (event_of start past (serves new))) ≡ []
    no_close =
        let event = event_of start past (serves new) in
        none_mapped (is_reply_on endpoint) close_frame (rising (filter (λ (n : ℕ). not (among n event.outcome.ends)) event.deaths)) (λ n. refl)

    no_told : filter (is_reply_on endpoint) (told_frames (living start past) (outcome_of start past new).server (outcome_of start past new).told) ≡ []
    no_told =
        none_joined (is_reply_on endpoint) (told_by (living start past) (outcome_of start past new).server) (outcome_of start past new).told
        (told_none endpoint (living start past) (outcome_of start past new).server
        (λ bound there.
        born bound
        (Contains-append_left (births start past) (option_to_list (outcome_of start past new).bound) bound
        (kept_of (λ (b : Bound). not (is_dead past b.endpoint)) (births start past) bound there).0)))

    no_first : filter (is_reply_on endpoint) (option_map_or (λ bound. first_frames (tree_at (trees_of start past) bound.server) bound) (outcome_of start past new).bound []) ≡ []
    no_first =
        firsts_none endpoint (trees_of start past) (outcome_of start past new).bound (binds_unmasked start past new)
        (λ bound e.
        born bound
        (Contains-append_right (births start past) (option_to_list (outcome_of start past new).bound) bound
        (subst (λ (o : Option Bound). Contains (option_to_list o) bound) (sym e) (contains_here bound []))))
