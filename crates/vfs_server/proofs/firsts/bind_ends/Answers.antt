use Rattle.std.proofs.Common.{◌≡◌, ◌∙◌, ℕ, List, ap, arith, length, subst}
use Rattle.vfs_journal.specs.Starts.{Bound}
use Rattle.vfs_server.specs.Beginning.{HoldsJust, bound_among}
use Rattle.vfs_server.proofs.Begins.{bound_whole}
use Rattle.vfs_server.proofs.firsts.bind_ends.Goals as goal

pub returns : goal.returns
returns c =
    let end : c.loop-item.item ≡ length c.args.start.now.mounts = omega (arith, c.loop-item-test.false, c.mounts-item-end.ensures) in
    subst (λ (bounds : List Bound). HoldsJust c.args.start.now c.args.index bounds c.loop-item.server c.args.places.now)
    (ap (λ (n : ℕ). bound_among c.args.start.now c.args.index n) end ∙ bound_whole c.args.start.now c.args.index) c.loop-item.invariant
