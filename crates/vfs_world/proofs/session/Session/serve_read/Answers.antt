use Rattle.std.proofs.Common.{◌∙◌, [], List, append-nil, ap, arith, refl, set, subst, sym}
use Rattle.std.specs.Result.{OnOk}
use Rattle.std.proofs.lemmas.Option.{slice_get_read, slice_get_within}
use Rattle.link_admission.specs.Standings.{Known}
use Rattle.io_messages.specs.Asked.{asked}
use Rattle.vfs_server.specs.Servers.{Server}
use Rattle.vfs_world.specs.Heads.{ServesTaken}
use Rattle.vfs_world.specs.Running.{whole}
use Rattle.vfs_world.specs.World.{World}
use Rattle.vfs_world.proofs.Answered.{set_same}
use Rattle.vfs_world.proofs.ReadTaken.{behind, read_begins, read_taken}
use Rattle.vfs_world.proofs.Taken.{can_answer}
use Rattle.vfs_world.proofs.session.Session.serve_read.Goals as goal

pub index_mut-one-requires : goal.index_mut-one-requires
index_mut-one-requires c =
    let taken = c.requires.taken in
    let can = can_answer taken.0 (whole c.args.self.now) c.args.endpoint c.args.server c.args.sent.now taken.1.0 taken.1.1 in
    let within = slice_get_within c.args.self.now.servers.items c.args.server can.one can.there in
    omega (arith, within)

pub returns-clause-served : goal.returns-clause-served
returns-clause-served c =
    let taken = c.requires.taken in
    let old = whole c.args.self.now in
    let asks = c.in_ok-txid.ensures.read in
    let can = can_answer taken.0 old c.args.endpoint c.args.server c.args.sent.now taken.1.0 taken.1.1 in
    let within = slice_get_within c.args.self.now.servers.items c.args.server can.one can.there in
    let there = slice_get_read c.args.self.now.servers.items _ c.args.server c.index_mut-one.result.now refl within c.index_mut-one.ensures.value in
    subst (λ (k : Known). OnOk c.in_ok-read.read (ServesTaken c.args.endpoint c.args.server c.args.sent.now old (record (behind old c.args.server c.read.new.self) { known = k }) c.args.outbox.now c.read.new.outbox)) (sym c.served.ensures)
    (read_taken old c.args.endpoint c.args.server c.args.sent.now asks.bytes asks.sending c.in_ok-txid.txid (asked c.in_ok-txid.request) asks.asks c.index_mut-one.result.now c.read.new.self there c.args.outbox.now c.read.new.outbox c.in_ok-read.read c.in_ok-read.ensures.serves refl)

pub returns-clause-begins : goal.returns-clause-begins
returns-clause-begins c =
    let taken = c.requires.taken in
    let old = whole c.args.self.now in
    let asks = c.in_ok-txid.ensures.read in
    let can = can_answer taken.0 old c.args.endpoint c.args.server c.args.sent.now taken.1.0 taken.1.1 in
    let within = slice_get_within c.args.self.now.servers.items c.args.server can.one can.there in
    let there = slice_get_read c.args.self.now.servers.items _ c.args.server c.index_mut-one.result.now refl within c.index_mut-one.ensures.value in
    read_begins taken.0 old taken.1.0 c.args.endpoint c.args.server c.args.sent.now taken.1.1 asks.bytes asks.sending c.in_ok-txid.txid (asked c.in_ok-txid.request) asks.asks c.index_mut-one.result.now c.read.new.self there c.args.outbox.now c.read.new.outbox c.in_ok-read.read c.in_ok-read.ensures.serves c.in_ok-read.ensures.no_memory

-- where nothing was read, the server is as it was
pub returns-in_err-read-clause-unchanged : goal.returns-in_err-read-clause-unchanged
returns-in_err-read-clause-unchanged c = λ none.
    let taken = c.requires.taken in
    let old = whole c.args.self.now in
    let can = can_answer taken.0 old c.args.endpoint c.args.server c.args.sent.now taken.1.0 taken.1.1 in
    let within = slice_get_within c.args.self.now.servers.items c.args.server can.one can.there in
    let there = slice_get_read c.args.self.now.servers.items _ c.args.server c.index_mut-one.result.now refl within c.index_mut-one.ensures.value in
    let same = c.in_err-read.ensures.unchanged refl in (
      ap (λ (servers : List Server). let world : World = record old { servers = servers } in world)
          (ap (set c.args.self.now.servers.items c.args.server) same.0 ∙ sym (set_same c.args.self.now.servers.items c.args.server c.index_mut-one.result.now there)),
      same.1,
    )

pub returns-in_err-read-clause-begins : goal.returns-in_err-read-clause-begins
returns-in_err-read-clause-begins c = ([], (c.in_err-read.ensures.unchanged refl).1 ∙ sym (append-nil c.args.outbox.now))
