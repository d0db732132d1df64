-- What a server sees at a serving is the moment of the view, and what it writes are the frames of the view but for Close frames.
use Rattle.std.proofs.Common.{◌≡◌, ℕ, ◌==◌, ◌&&◌, Bool, true, false, if◌then◌else◌, List, [], ◌∷◌, ◌++◌, length, map, filter, Option, Some, None, Ok, Err, refl, sym, ap, ◌∙◌}
use Rattle.std.specs.Option.{option_map_or}
use Rattle.std.proofs.lemmas.Bool.{eq-eqb}
use Rattle.std.proofs.lemmas.List.Elements.{filter_agree}
use Rattle.std.proofs.lemmas.List.Sums.{length-filter}
use Rattle.link_frames.specs.Frames.{Frame}
use Rattle.link_admission.specs.Numbering.{among}
use Rattle.io_messages.specs.declared.protocols.Protocol.{Protocol}
use Rattle.io_messages.specs.declared.protocols.Protocol.TheVariants as protocol
use Rattle.node_graph.specs.Tree.{Tree}
use Rattle.path_walk.specs.Names.{dot}
use Rattle.watch_events.specs.Messages.{added, deleted, removed, told}
use Rattle.conn_rules.specs.Answers.{Answer, Happening, binds, closes, ends, forwards, hangs_up, refuses, replies, silent, watches}
use Rattle.conn_rules.specs.Answers as news
use Rattle.conn_rules.specs.Births.{Position}
use Rattle.conn_rules.specs.declared.births.Room.{Room}
use Rattle.vfs_journal.specs.Entries.{Sending, hang_up, message}
use Rattle.vfs_journal.specs.History.{Event, is_watcher, tree_at, watches_node}
use Rattle.vfs_journal.specs.Outcomes.{Asker, Outcome, bound_of}
use Rattle.vfs_journal.specs.Output.{close_frames, frames_of_serving}
use Rattle.vfs_journal.specs.Serving.{Moment, Read, asker_of, fault_answer, fault_txid, object_of, outcome_of_message, outcome_of_read, outcome_of_sending, read_by, request_act}
use Rattle.vfs_journal.specs.Starts.{Bound}
use Rattle.vfs_journal.specs.View.{View, at_in, bounds_in, directory_in, is_out_in, moment_in, next_token_in}
use Rattle.vfs_journal.specs.Watching.{first_frames, told_by, told_frames, told_of, watcher_of}
use Rattle.journal_laws.proofs.Lists.{filter-filter}
use Rattle.vfs_server.specs.Holding.{if_at, living_at}
use Rattle.vfs_server.specs.Servers.{Server}
use Rattle.vfs_server.specs.Serving.{IsMomentOf, frames_here}
use Rattle.vfs_world.proofs.ServerSteps.{HoldsNumber}

-- ---- watchers

same_test : (a b c : Bool) → ((b && a) && c) ≡ (a && (b && c))
same_test true true c = refl
same_test true false c = refl
same_test false true c = refl
same_test false false c = refl

-- the watchers of a directory are found among the server's watchers
watchers_here : (view : View) (index node : ℕ) →
    filter (λ bound. bound.birth.node == node) (filter (λ bound. is_watcher bound.birth.protocol) (living_at view index)) ≡ filter (watches_node index node) (bounds_in view)
watchers_here view index node =
    ap (filter (λ (b : Bound). b.birth.node == node)) (filter-filter (λ b. is_watcher b.birth.protocol) (λ b. b.server == index) (bounds_in view))
    ∙ filter-filter (λ b. b.birth.node == node) (λ b. (b.server == index) && is_watcher b.birth.protocol) (bounds_in view)
    ∙ filter_agree (λ b. ((b.server == index) && is_watcher b.birth.protocol) && (b.birth.node == node)) (watches_node index node)
    (λ b. same_test (is_watcher b.birth.protocol) (b.server == index) (b.birth.node == node)) (bounds_in view)

kept_test : (a b c : Bool) → ((b && a) && (a && (b && c))) ≡ (a && (b && c))
kept_test true true c = refl
kept_test true false c = refl
kept_test false true c = refl
kept_test false false c = refl

watching_here : (view : View) (index node : ℕ) →
    filter (watches_node index node) (filter (λ bound. is_watcher bound.birth.protocol) (living_at view index)) ≡ filter (watches_node index node) (bounds_in view)
watching_here view index node =
    ap (filter (watches_node index node)) (filter-filter (λ b. is_watcher b.birth.protocol) (λ b. b.server == index) (bounds_in view))
    ∙ filter-filter (watches_node index node) (λ b. (b.server == index) && is_watcher b.birth.protocol) (bounds_in view)
    ∙ filter_agree (λ b. ((b.server == index) && is_watcher b.birth.protocol) && watches_node index node b) (watches_node index node)
    (λ b. kept_test (is_watcher b.birth.protocol) (b.server == index) (b.birth.node == node)) (bounds_in view)

-- ---- the moment

same_room : (a b : ℕ) (c d : ℕ) (s t : Option ℕ) → a ≡ b → c ≡ d → s ≡ t →
    ◌≡◌ {A = Room} (record { connections = a; watchers = c; token = s }) (record { connections = b; watchers = d; token = t })
same_room a b c d s t p q r = λ i. record { connections = p i; watchers = q i; token = r i }

pub is_moment : (view : View) (one : Server) (endpoint : ℕ) (pair : Bound × Position) (token : Option ℕ) (handles : List ℕ) → HoldsNumber view pair.0.server one → at_in view endpoint ≡ Some pair → token ≡ next_token_in view →
    ((number : ℕ) → among number handles ≡ true → is_out_in view number ≡ true) → IsMomentOf one endpoint token handles (moment_in view pair)
is_moment view one endpoint pair token handles h found next out =
    let server = pair.0.server in
    record {
      bound =
          h.bound endpoint
          ∙ ap (if_at server) found
          ∙ ap (λ (b : Bool). if b then (let o : Option (Bound × Position) = Some pair in o) else None) (eq-eqb server server refl);
      room =
          same_room _ _ _ _ _ _
          (sym (length-filter (λ (b : Bound). b.server == server) (bounds_in view)) ∙ sym h.count)
          (ap length (sym (watchers_here view server pair.0.birth.node)) ∙ sym (ap (λ (ws : List Bound). length (filter (λ b. b.birth.node == pair.0.birth.node) ws)) h.watchers))
          (sym next);
      tree = h.tree;
      directory = λ number carried. sym (h.tokens number ∙ ap (λ (b : Bool). if b then directory_in view server number else None) (out number carried));
    }

-- ---- the parts of an outcome are those of its server

on_server : Asker → Option Bound → Type 0
on_server asker o = (b : Bound) → o ≡ Some b → b.server ≡ asker.server

none_on : (asker : Asker) → on_server asker None
unfolding on_server
none_on asker b e = absurd (cc)

server_in : Option Bound → ℕ → ℕ
server_in o n = option_map_or (λ b. b.server) o n

answer_on : (asker : Asker) (answer : Answer) → on_server asker (bound_of asker answer)
unfolding on_server server_in
answer_on asker (binds birth announced) = λ b e. sym (ap (λ o. server_in o 0) e)
answer_on asker (watches mask) = λ b e. sym (ap (λ o. server_in o 0) e)
answer_on asker (replies a) = none_on asker
answer_on asker closes = none_on asker
answer_on asker (forwards mount flags rest) = none_on asker
answer_on asker (refuses status) = none_on asker
answer_on asker (ends status) = none_on asker
answer_on asker hangs_up = none_on asker
answer_on asker silent = none_on asker

-- whom it goes to is at the server, and so is what it binds
pub record IsOn (moment : Moment) (outcome : Outcome) : Type 0 where
  pub server : outcome.server ≡ moment.bound.server
  pub bound : (b : Bound) → outcome.bound ≡ Some b → b.server ≡ moment.bound.server

read_on : (moment : Moment) (read : Read) → IsOn moment (outcome_of_read moment read)
unfolding on_server
read_on moment (Ok found) =
    record { server = refl; bound = answer_on (asker_of moment.bound found.0 (object_of found.1)) (request_act moment found.1).answer }
read_on moment (Err fault) = record { server = refl; bound = answer_on (asker_of moment.bound (fault_txid fault) 0) (fault_answer fault) }

message_on : (moment : Moment) (p : Protocol) (bytes handles : List ℕ) → IsOn moment (outcome_of_message moment p bytes handles)
unfolding on_server
message_on moment protocol.Watcher bytes handles = record { server = refl; bound = none_on (asker_of moment.bound 0 0) }
message_on moment protocol.Directory bytes handles = read_on moment (read_by protocol.Directory bytes handles)
message_on moment protocol.File bytes handles = read_on moment (read_by protocol.File bytes handles)
message_on moment protocol.Node bytes handles = read_on moment (read_by protocol.Node bytes handles)
message_on moment protocol.Echo bytes handles = read_on moment (read_by protocol.Echo bytes handles)

pub sending_on : (moment : Moment) (sending : Sending) → IsOn moment (outcome_of_sending moment sending)
unfolding outcome_of_sending on_server
sending_on moment (message bytes handles) = message_on moment moment.bound.birth.protocol bytes handles
sending_on moment hang_up = record { server = refl; bound = none_on (asker_of moment.bound 0 0) }

-- ---- frames

first_same : (trees : List Tree) (server : ℕ) (o : Option Bound) → ((b : Bound) → o ≡ Some b → b.server ≡ server) →
    option_map_or (λ bound. first_frames (tree_at trees server) bound) o [] ≡ option_map_or (λ bound. first_frames (tree_at trees bound.server) bound) o []
first_same trees server None on = refl
first_same trees server (Some b) on = ap (λ (n : ℕ). first_frames (tree_at trees n) b) (sym (on b refl))

told_same : (view : View) (index directory event : ℕ) (name : List ℕ) →
    told_of (filter (λ bound. is_watcher bound.birth.protocol) (living_at view index)) index directory event name ≡ told_of (bounds_in view) index directory event name
told_same view index directory event name =
    ap (λ (bs : List Bound). told (map watcher_of bs) event name) (watching_here view index directory)

told_by_same : (view : View) (index : ℕ) (one : Happening) →
    told_by (filter (λ bound. is_watcher bound.birth.protocol) (living_at view index)) index one ≡ told_by (bounds_in view) index one
told_by_same view index (news.removed name) = told_same view index name.directory removed name.name
told_by_same view index (news.added name) = told_same view index name.directory added name.name
told_by_same view index (news.deleted directory) = told_same view index directory deleted dot

told_all_same : (view : View) (index : ℕ) (told : List Happening) → told_frames (filter (λ bound. is_watcher bound.birth.protocol) (living_at view index)) index told ≡ told_frames (bounds_in view) index told
told_all_same view index [] = refl
told_all_same view index (one ∷ more) = λ i. told_by_same view index one i ++ told_all_same view index more i

-- what a server writes is all but the Close frames
pub frames_same : (view : View) (one : Server) (pair : Bound × Position) (event : Event) → HoldsNumber view pair.0.server one → IsOn (moment_in view pair) event.outcome →
    frames_here (moment_in view pair) one.watchers event.outcome ++ close_frames event ≡ frames_of_serving view.trees (bounds_in view) event
frames_same view one pair event h on =
    let server = pair.0.server in
    let outcome = event.outcome in
    ap (λ (ws : List Bound). frames_here (moment_in view pair) ws outcome ++ close_frames event) h.watchers
    ∙ ap (λ (fs : List Frame). (outcome.frames ++ fs ++ told_frames (filter (λ (b : Bound). is_watcher b.birth.protocol) (living_at view server)) server outcome.told) ++ close_frames event) (first_same view.trees server outcome.bound on.bound)
    ∙ ap (λ (fs : List Frame). (outcome.frames ++ option_map_or (λ (b : Bound). first_frames (tree_at view.trees b.server) b) outcome.bound [] ++ fs) ++ close_frames event) (told_all_same view server outcome.told)
    ∙ ap (λ (n : ℕ). (outcome.frames ++ option_map_or (λ (b : Bound). first_frames (tree_at view.trees b.server) b) outcome.bound [] ++ told_frames (bounds_in view) n outcome.told) ++ close_frames event) (sym on.server)
