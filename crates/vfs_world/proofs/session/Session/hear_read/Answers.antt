use Rattle.std.proofs.Common.{◌∙◌, ◌-◌, [], List, append-nil, ap, arith, refl, sym}
use Rattle.fidl_names.specs.declared.limits.TheConstants as limit
use Rattle.link_frames.specs.Views.{frame_of}
use Rattle.io_messages.specs.Asked.{asked}
use Rattle.vfs_server.specs.Servers.{Server}
use Rattle.vfs_world.specs.Running.{whole}
use Rattle.vfs_world.specs.World.{World}
use Rattle.vfs_world.proofs.CallResults.{begins_by, on_ok}
use Rattle.vfs_world.proofs.Hearing.{places_low}
use Rattle.vfs_world.proofs.ReadAtOnce.{read_lasts, read_leads}
use Rattle.vfs_world.proofs.session.Session.hear_read.Goals as goal

pub overflow_add-self : goal.overflow_add-self
overflow_add-self c = let low = places_low (limit.MAX_PLACES - limit.FRAME_PLACES) (whole c.args.self.now) c.requires.running in omega (arith, low)

pub returns-clause-heard : goal.returns-clause-heard
returns-clause-heard c =
    λ start journal stands.
    on_ok c.in_ok-read.read
    (λ answers. (read_leads (whole c.args.self.now) c.requires.running (frame_of c.args.frame) c.requires.frame (c.can_be_served.ensures c.if-not-can_be_served.false) c.in_ok-at.at c.in_ok-txid.txid (asked c.in_ok-txid.request) _ c.args.outbox.now c.read_at.new.outbox c.in_ok-txid.ensures.read answers start journal stands).0)
    c.in_ok-read.ensures.answers

pub returns-clause-none : goal.returns-clause-none
returns-clause-none c =
    λ start journal stands.
    on_ok c.in_ok-read.read
    (λ answers. (read_leads (whole c.args.self.now) c.requires.running (frame_of c.args.frame) c.requires.frame (c.can_be_served.ensures c.if-not-can_be_served.false) c.in_ok-at.at c.in_ok-txid.txid (asked c.in_ok-txid.request) _ c.args.outbox.now c.read_at.new.outbox c.in_ok-txid.ensures.read answers start journal stands).1)
    c.in_ok-read.ensures.answers

pub returns-clause-running : goal.returns-clause-running
returns-clause-running c =
    λ most running.
    on_ok c.in_ok-read.read
    (λ answers. read_lasts (whole c.args.self.now) c.requires.running (frame_of c.args.frame) c.requires.frame (c.can_be_served.ensures c.if-not-can_be_served.false) c.in_ok-at.at c.in_ok-txid.txid (asked c.in_ok-txid.request) _ c.args.outbox.now c.read_at.new.outbox c.in_ok-txid.ensures.read answers most running)
    c.in_ok-read.ensures.answers

pub returns-clause-begins : goal.returns-clause-begins
returns-clause-begins c =
    begins_by c.in_ok-read.read c.args.outbox.now c.read_at.new.outbox
    (on_ok c.in_ok-read.read
    (λ answers.
    let leads = (read_leads (whole c.args.self.now) c.requires.running (frame_of c.args.frame) c.requires.frame (c.can_be_served.ensures c.if-not-can_be_served.false) c.in_ok-at.at c.in_ok-txid.txid (asked c.in_ok-txid.request) _ c.args.outbox.now c.read_at.new.outbox c.in_ok-txid.ensures.read answers c.requires.running.start c.requires.running.journal c.requires.running.stands).0 in
    (leads.part, leads.written))
    c.in_ok-read.ensures.answers)
    c.in_ok-read.ensures.no_memory

-- where nothing was read, all is as it was
pub returns-in_err-read-clause-unchanged : goal.returns-in_err-read-clause-unchanged
returns-in_err-read-clause-unchanged c = λ none.
    let same = c.in_err-read.ensures.unchanged refl in
    (ap (λ (servers : List Server). let world : World = record (whole c.args.self.now) { servers = servers } in world) same.0, same.1)

pub returns-in_err-read-clause-begins : goal.returns-in_err-read-clause-begins
returns-in_err-read-clause-begins c = ([], (c.in_err-read.ensures.unchanged refl).1 ∙ sym (append-nil c.args.outbox.now))
