use Rattle.std.proofs.Common.{◌≡◌, ◌≤◌, ◌++◌, ℕ, List, None, append-nil, arith, length, subst, sym}
use Rattle.std.proofs.lemmas.List.{length-map, take_all}
use Rattle.std.proofs.lemmas.List.FromFn.{length-enumerate_from}
use Rattle.std.specs.List.{enumerate_from}
use Rattle.session_start.proofs.Accepted.{few_of}
use Rattle.session_start.specs.Lent.{mount_item}
use Rattle.vfs_journal.specs.Starts.{Bound, end_of, start_of}
use Rattle.message_queues.specs.Queues.{Binds, server_of}
use Rattle.vfs_world.specs.Beginning.{BindsJust}
use Rattle.vfs_world.proofs.Begun.{mount_bound, mount_one_of, mount_unbound}
use Rattle.vfs_world.proofs.beginning.bind_mounts.Goals as goal

pub loop-item-init : goal.loop-item-init
loop-item-init c = subst (λ (bounds : List Bound). BindsJust (start_of c.args.start.now) bounds c.args.queues.now) (sym (append-nil (start_of c.args.start.now).firsts)) c.requires.firsts

pub end_of_mount-requires : goal.end_of_mount-requires
end_of_mount-requires c =
    let few = few_of c.args.start.now c.requires.accepted in
    let mounts = few.mounts in
    let within = c.loop-item-test.true in
    let size = c.mounts-item-end.ensures in
    omega (arith, mounts, within, size)

pub bind-requires-clause-unbound : goal.bind-requires-clause-unbound
bind-requires-clause-unbound c =
    subst (λ (endpoint : ℕ). server_of c.loop-item.queues endpoint ≡ None) (sym c.end_of_mount.ensures)
    (mount_unbound c.args.start.now c.requires.sound c.loop-item.item c.loop-item.queues (mount_item c.mount_at-mount.result) c.mount_at-mount.ensures c.loop-item.invariant)

pub bind-requires-clause-one_of : goal.bind-requires-clause-one_of
bind-requires-clause-one_of c = mount_one_of c.args.start.now c.requires.sound c.loop-item.item c.loop-item.queues (mount_item c.mount_at-mount.result) c.mount_at-mount.ensures c.loop-item.invariant

pub loop-item-preserved : goal.loop-item-preserved
loop-item-preserved c =
    mount_bound c.args.start.now c.requires.sound c.loop-item.item c.loop-item.queues (mount_item c.mount_at-mount.result) c.mount_at-mount.ensures c.loop-item.invariant c.bind.new.self
    (subst (λ (endpoint : ℕ). Binds c.loop-item.queues endpoint c.mount_at-mount.result.target c.bind.new.self) c.end_of_mount.ensures c.in_ok-bind.ensures.bound)

pub returns : goal.returns
returns c =
    let lists = c.args.start.now in
    let size = length-map (enumerate_from 0 lists.mounts) (end_of lists) in
    let listed = length-enumerate_from 0 lists.mounts in
    let end : length (start_of lists).mounts ≤ c.loop-item.item = omega (arith, c.loop-item-test.false, c.mounts-item-end.ensures, size, listed) in
    subst (λ (bounds : List Bound). BindsJust (start_of lists) ((start_of lists).firsts ++ bounds) c.loop-item.queues) (take_all c.loop-item.item (start_of lists).mounts end) c.loop-item.invariant
