use Rattle.std.proofs.Common.{◌≡◌, ◌+◌, ℕ, arith, length, subst, sym}
use Rattle.vfs_journal.specs.Starts.{start_of}
use Rattle.vfs_world.proofs.Begun.{AreBegun, all_begun, none_begun, one_begun}
use Rattle.vfs_world.proofs.beginning.add_servers.Goals as goal

pub loop-index-preserved : goal.loop-index-preserved
loop-index-preserved c =
    subst (AreBegun (start_of c.args.start.now) (c.loop-index.index + 1)) (sym c.in_ok-push.ensures.items)
    (one_begun (start_of c.args.start.now) c.loop-index.index c.loop-index.servers.items c.in_ok-server.server c.loop-index.invariant c.in_ok-server.ensures.index (c.in_ok-server.ensures.holds))

pub returns : goal.returns
returns c =
    let end : c.loop-index.index ≡ length c.args.start.now.servers = omega (arith, c.loop-index-test.false, c.servers-index-end.ensures.count) in
    all_begun c.args.start.now c.loop-index.servers.items (subst (λ (n : ℕ). AreBegun (start_of c.args.start.now) n c.loop-index.servers.items) end c.loop-index.invariant)

pub loop-index-init : goal.loop-index-init
loop-index-init c = subst (AreBegun (start_of c.args.start.now) 0) (sym c.requires.none) (none_begun (start_of c.args.start.now))
