use Rattle.std.proofs.Common.{◌∙◌, sym, arith, map, take, ◌++◌, []}
use Rattle.session_start.specs.RulesOnLists.{first_failing, node_place, mount_place, mount_fits}
use Rattle.tree_file.proofs.Places.{fail-on, fail-stop, fail-end, fail-breaks, more_mapped, push_behind, take_past}
use Rattle.tree_file.proofs.rules.add_mounts.Goals as goal

pub returns-then-not-branch-clause-refused : goal.returns-then-not-branch-clause-refused
returns-then-not-branch-clause-refused c nodes stands =
    let held = c.loop-item.invariant nodes stands in
    let listed = map node_place nodes ++ map mount_place (take c.loop-item.item c.args.mounts.now) in
    let misfit = sym (c.in_ok-place_mount.ensures listed held.1).0 ∙ c.if-not-branch.true in
    fail-breaks 9 (first_failing (mount_fits nodes) [] c.args.mounts.now) c.loop-item.item c.broken.result
    (held.0 ∙ fail-stop (mount_fits nodes) c.args.mounts.now c.loop-item.item c.index-mounts-item.result c.loop-item-test.true c.index-mounts-item.is misfit) c.broken.ensures

pub loop-item-preserved : goal.loop-item-preserved
loop-item-preserved c nodes stands =
    let held = c.loop-item.invariant nodes stands in
    let listed = map node_place nodes ++ map mount_place (take c.loop-item.item c.args.mounts.now) in
    let placed = c.in_ok-place_mount.ensures listed held.1 in
    let fits = sym placed.0 ∙ c.if-not-branch.false in
    let more = more_mapped mount_place c.args.mounts.now c.loop-item.item c.index-mounts-item.result c.loop-item-test.true c.index-mounts-item.is in
    let joined = push_behind (map node_place nodes) (map mount_place (take c.loop-item.item c.args.mounts.now)) (mount_place c.index-mounts-item.result) in (
      held.0 ∙ fail-on (mount_fits nodes) c.args.mounts.now c.loop-item.item c.index-mounts-item.result c.loop-item-test.true c.index-mounts-item.is fits,
      rw (← more, ← joined) (placed.1 c.if-not-branch.false),
    )

pub returns-clause-fit : goal.returns-clause-fit
returns-clause-fit c nodes stands = (c.loop-item.invariant nodes stands).0 ∙ fail-end (mount_fits nodes) c.args.mounts.now c.loop-item.item (omega (arith, c.loop-item-test.false))

pub returns-clause-placed : goal.returns-clause-placed
returns-clause-placed c nodes stands =
    let all_of = take_past c.args.mounts.now c.loop-item.item (omega (arith, c.loop-item-test.false)) in
    rw all_of at (c.loop-item.invariant nodes stands).1
