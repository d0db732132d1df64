use Rattle.std.proofs.Common.{◌≡◌, ◌∙◌, ◌+◌, ℕ, Bool, true, false, List, [], None, Ok, Option, Some, length, ap, append-nil, refl, rules, subst, sym}
use Rattle.std.specs.Option.{option_map}
use Rattle.std.proofs.lemmas.Option.{same_Some}
use Rattle.std.specs.Prelude.{OnOk}
use Rattle.std.specs.FinMap as finite
use Rattle.io_messages.specs.Asked.{asked, method_of}
use Rattle.io_messages.specs.Protocols.{has_method}
use Rattle.io_messages.specs.Requests.{request_of}
use Rattle.io_messages.specs.declared.protocols.Protocol.{Protocol}
use Rattle.io_messages.specs.declared.protocols.Protocol.TheVariants as protocol
use Rattle.request_reader.proofs.AskedParts.{file_has}
use Rattle.node_graph.specs.Graph.{number_of}
use Rattle.conn_rules.specs.Answers.{nothing_told}
use Rattle.conn_rules.specs.Births.{Connection, Position}
use Rattle.conn_rules.specs.declared.served.Served.TheVariants as served
use Rattle.vfs_journal.specs.Entries.{message}
use Rattle.vfs_journal.specs.Serving.{Moment, object_of, outcome_of_read, outcome_of_sending}
use Rattle.vfs_journal.specs.Starts.{Bound}
use Rattle.vfs_server.specs.declared.asking.Asking.{Asking}
use Rattle.vfs_server.specs.declared.deed.Deed.TheVariants as deeds
use Rattle.vfs_server.specs.declared.fate.Fate.TheVariants as fates
use Rattle.vfs_server.specs.Given as given
use Rattle.vfs_server.specs.declared.watching.Seat.{Seat}
use Rattle.vfs_server.specs.Kept.{Connections, IsSound}
use Rattle.vfs_server.specs.Seats.{Seats, seat_at}
use Rattle.vfs_server.specs.Servers.{Server, connected, seen, seen_as}
use Rattle.vfs_server.specs.Serving.{IsMomentOf, Serves}
use Rattle.vfs_server.specs.Steps.{Answers, room_for, stays}
use Rattle.vfs_server.specs.Watched.{bounds_at}
use Rattle.vfs_server.proofs.Answering.{on_ok, request_answers}
use Rattle.vfs_server.proofs.Binding.{either_way, seen_watching, server_of}
use Rattle.vfs_server.proofs.Giving.{given_other}
use Rattle.vfs_server.proofs.Maps.{get_put}
use Rattle.vfs_server.proofs.Seats.{seated}
use Rattle.vfs_server.proofs.Servings.{at_server, is_asked, serves_message}
use Rattle.vfs_server.proofs.Settled.{settled}
use Rattle.vfs_server.proofs.Sound.{sound_served}
use Rattle.vfs_server.proofs.server.Server.read.Goals as goal

pub read-done-requires-clause-node : goal.read-done-requires-clause-node
read-done-requires-clause-node c connection there = c.self.invariant.each c.args.endpoint connection there

done_or_not : {P : Type 0} (b : Bool) → b ≡ false → b ≡ true → P
done_or_not b is isnt = absurd (let wrong : false ≡ true = sym is ∙ isnt in cc)

pub invariant_of-self-2 : goal.invariant_of-self-2
invariant_of-self-2 c =
    either_way _ (finite.get c.self.inside.connections c.args.endpoint)
    (λ old there.
    let part = c.read-done.ensures.read old there c.if-not-done.false in
    subst (λ (connections : Connections). IsSound c.read-done.new.graph connections c.self.inside.watching c.self.inside.tokens) (sym part.3)
    (sound_served c.self.inside.graph c.read-done.new.graph c.self.inside.connections c.self.inside.watching c.self.inside.tokens c.args.endpoint old part.1 c.self.invariant there part.2.holds))
    (λ none. done_or_not c.read-done.result (c.read-done.ensures.there none) c.if-not-done.false)

-- the server before
abbrev before : (c : goal.After-put_bare_reply) → Server
before c = server_of c.self.inside.index c.self.inside.graph c.self.inside.connections c.self.inside.watching c.self.inside.tokens

-- what would be asked of any message; nothing looks at where what is lent lies
abbrev asking : (c : goal.After-put_bare_reply) → Option ℕ → Asking
asking c token = record {
  ordinals = c.args.ordinals;
  endpoint = c.args.endpoint;
  connections = finite.len c.self.inside.connections + length c.self.inside.watching;
  watching = record { ref_ptr = c.args.self.ref_ptr; now = c.self.inside.watching };
  tokens = record { ref_ptr = c.args.self.ref_ptr; now = c.self.inside.tokens };
  token = token;
}

abbrev IsServing : (c : goal.After-put_bare_reply) → Moment → List ℕ → Server → Connections → Type 0
IsServing c moment bytes server connections =
    Serves moment (outcome_of_sending moment (message bytes [])) fates.Stays server (server_of c.self.inside.index c.read-done.new.graph connections c.self.inside.watching c.self.inside.tokens) c.args.outbox.now c.put_bare_reply.new.outbox

on_connection : (c : goal.After-put_bare_reply) (bytes : List ℕ) (token : Option ℕ) (moment : Moment) → request_of protocol.File bytes [] ≡ Ok (c.args.txid, asked c.args.request.now) → IsMomentOf (before c) c.args.endpoint token [] moment →
    (old : Connection) → finite.get c.self.inside.connections c.args.endpoint ≡ Some old → OnOk c.put_bare_reply.result (IsServing c moment bytes (before c) c.read-done.new.self)
on_connection c bytes token moment is here old there =
    let part = c.read-done.ensures.read old there c.if-not-done.false in
    let can = c.self.invariant.each c.args.endpoint old there in
    let kept = sound_served c.self.inside.graph c.read-done.new.graph c.self.inside.connections c.self.inside.watching c.self.inside.tokens c.args.endpoint old part.1 c.self.invariant there part.2.holds in
    let asks = is_asked c.self.inside.index c.self.inside.graph c.self.inside.connections c.self.inside.watching c.self.inside.tokens (asking c token) [] moment old there refl refl here in
    let acts =
    given_other _ c.args.txid served.Reply given.Reply nothing_told c.read-done.new.out part.1 c.self.inside.graph c.read-done.new.graph refl refl
    (part.2.serves (room_for (asking c token) (number_of old.birth.node)) moment.tree moment.directory asks.tree) in
    let known = subst (λ p. has_method p (method_of (asked c.args.request.now)) ≡ true) (sym part.0) (file_has (asked c.args.request.now) c.requires.part) in
    on_ok c.put_bare_reply.result
    (λ does.
    subst (λ (connections : Connections). IsServing c moment bytes (before c) connections) (sym part.3)
    (settled moment _ deeds.Stays fates.Stays (before c) _ _ c.args.outbox.now c.put_bare_reply.new.outbox
    (serves_message c.self.inside.index c.self.inside.graph c.self.inside.connections c.self.inside.watching c.self.inside.tokens (asking c token) [] moment old there refl refl here
    c.read-done.new.graph part.1 bytes [] stays c.args.outbox.now c.put_bare_reply.new.outbox c.put_bare_reply.new.outbox
    refl refl can part.2.holds (kept.each c.args.endpoint part.1 (get_put c.self.inside.connections c.args.endpoint part.1))
    (subst (λ request. Answers moment (outcome_of_read moment request) stays part.1 c.self.inside.graph c.read-done.new.graph c.args.outbox.now c.put_bare_reply.new.outbox)
    (sym (ap (λ (p : Protocol). request_of p bytes []) part.0 ∙ is))
    (request_answers c.self.inside.index (asking c token) c.self.inside.graph c.read-done.new.graph old can moment asks c.args.txid (asked c.args.request.now) known given.Reply nothing_told c.read-done.new.out part.1
    part.2.holds.birth acts stays refl c.args.outbox.now c.put_bare_reply.new.outbox does))
    (sym (append-nil c.put_bare_reply.new.outbox)))
    (at_server c.self.inside.index c.self.inside.graph c.self.inside.connections c.self.inside.watching c.self.inside.tokens (asking c token) [] moment old there refl refl here)
    (refl, refl)))
    (c.put_bare_reply.ensures.does (object_of (asked c.args.request.now)) old.birth.node)

pub returns-clause-serves : goal.returns-clause-serves
returns-clause-serves c bytes token moment is asked =
    let here = subst (λ (server : Server). IsMomentOf server c.args.endpoint token [] moment) (sym c.self.view_is) asked in
    subst (λ (server : Server). OnOk c.put_bare_reply.result (IsServing c moment bytes server c.read-done.new.self)) c.self.view_is
    (either_way _ (finite.get c.self.inside.connections c.args.endpoint) (on_connection c bytes token moment is here)
    (λ none. done_or_not c.read-done.result (c.read-done.ensures.there none) c.if-not-done.false))

-- what is bound without a connection watches, and is no file
watches : (index endpoint : ℕ) (seats : Seats) (o : Option Connection) (bound : Bound) (position : Position) → o ≡ None → seen_as index (bounds_at index seats) endpoint o ≡ Some (bound, position) → bound.birth.protocol ≡ protocol.Watcher
watches index endpoint seats o bound position none is = seated_one (seat_at seats endpoint) (sym (seen_watching index endpoint seats o none) ∙ is) where
  seated_one : (found : Option Seat) → option_map (seated index endpoint) found ≡ Some (bound, position) → bound.birth.protocol ≡ protocol.Watcher
  seated_one (Some seat) here = sym (ap (λ (pair : Bound × Position). pair.0.birth.protocol) (same_Some (seated index endpoint seat) (bound, position) here))
  seated_one None here = absurd (cc)

-- and what is bound with one is bound as that was
connects : (index endpoint : ℕ) (watchers : List Bound) (o : Option Connection) (old : Connection) (bound : Bound) (position : Position) → o ≡ Some old → seen_as index watchers endpoint o ≡ Some (bound, position) →
    old.birth.protocol ≡ bound.birth.protocol
connects index endpoint watchers o old bound position there is =
    ap (λ (pair : Bound × Position). pair.0.birth.protocol) (same_Some (connected index endpoint old) (bound, position) (sym (ap (seen_as index watchers endpoint) there) ∙ is))

pub returns-then-not-done-clause-reads : goal.returns-then-not-done-clause-reads
returns-then-not-done-clause-reads c bound position is file =
    let here = subst (λ (server : Server). seen server c.args.endpoint ≡ Some (bound, position)) (sym c.self.view_is) is in
    either_way _ (finite.get c.self.inside.connections c.args.endpoint)
    (λ old there.
    done_or_not c.read-done.result c.if-not-done.true
    (c.read-done.ensures.reads old there (connects c.self.inside.index c.args.endpoint (bounds_at c.self.inside.index c.self.inside.watching) (finite.get c.self.inside.connections c.args.endpoint) old bound position there here ∙ file)))
    (λ none. absurd (no_file (sym (watches c.self.inside.index c.args.endpoint c.self.inside.watching (finite.get c.self.inside.connections c.args.endpoint) bound position none here) ∙ file))) where
      no_file : protocol.Watcher ≡ protocol.File → ⊥
      no_file wrong = search rules
