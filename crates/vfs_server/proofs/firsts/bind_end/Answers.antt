use Rattle.std.proofs.Common.{◌∙◌, ℕ, ◌++◌, ◌∷◌, [], List, OnOk, ap, arith, subst, sym}
use Rattle.session_start.specs.Lent.{mount_item}
use Rattle.session_start.proofs.Accepted.{few_of}
use Rattle.vfs_journal.specs.Starts.{Bound}
use Rattle.vfs_server.specs.Beginning.{HoldsJust, IsNextBound, begun, bound_among}
use Rattle.vfs_server.proofs.Begins.{ends_more, ends_same}
use Rattle.vfs_server.proofs.Begun.{end_is, end_next}
use Rattle.vfs_server.proofs.firsts.bind_end.Goals as goal

pub returns-then-mount-index : goal.returns-then-mount-index
returns-then-mount-index c =
    subst (λ (bounds : List Bound). HoldsJust c.args.start.now c.args.index bounds c.args.server.now c.args.places.now)
    (sym (ends_same c.args.start.now c.args.index c.args.item (mount_item c.mount_at-mount.result) c.mount_at-mount.ensures c.if-mount-index.true)) c.requires.holds

pub end_of_mount-endpoint-requires : goal.end_of_mount-endpoint-requires
end_of_mount-endpoint-requires c =
    let few = few_of c.args.start.now c.requires.accepted in
    let mounts = few.mounts in
    let within = c.requires.within in
    omega (arith, mounts, within)

pub bind_at-requires : goal.bind_at-requires
bind_at-requires c = record {
  next = (
    c.args.start.now,
    c.args.index,
    bound_among c.args.start.now c.args.index c.args.item,
    subst (λ (n : ℕ). IsNextBound c.args.start.now c.args.index (bound_among c.args.start.now c.args.index c.args.item)
        (begun c.args.start.now c.args.index n (mount_item c.mount_at-mount.result).at (mount_item c.mount_at-mount.result).rights) c.args.server.now c.args.places.now)
        (sym c.end_of_mount-endpoint.ensures)
        (end_next c.args.start.now c.requires.accepted c.args.index c.requires.there c.args.item c.args.server.now c.args.places.now (mount_item c.mount_at-mount.result) c.mount_at-mount.ensures c.if-mount-index.false c.requires.holds),
  );
}

pub returns : goal.returns
returns c =
    let lists = c.args.start.now in
    let mount = mount_item c.mount_at-mount.result in
    subst (λ (bounds : List Bound). OnOk c.bind_at.result (HoldsJust lists c.args.index bounds c.bind_at.new.server c.args.places.now))
    (sym (ends_more lists c.args.index c.args.item mount c.mount_at-mount.ensures c.if-mount-index.false
    ∙ ap (λ (bound : Bound). bound_among lists c.args.index c.args.item ++ bound ∷ [])
    (end_is lists c.requires.accepted c.args.index c.requires.there c.args.item c.args.server.now c.args.places.now mount c.mount_at-mount.ensures c.if-mount-index.false
    ∙ ap (λ (n : ℕ). begun lists c.args.index n mount.at mount.rights) (sym c.end_of_mount-endpoint.ensures))))
    (c.bind_at.ensures lists c.args.index (bound_among lists c.args.index c.args.item)
    (subst (λ (n : ℕ). IsNextBound c.args.start.now c.args.index (bound_among c.args.start.now c.args.index c.args.item)
    (begun c.args.start.now c.args.index n (mount_item c.mount_at-mount.result).at (mount_item c.mount_at-mount.result).rights) c.args.server.now c.args.places.now)
    (sym c.end_of_mount-endpoint.ensures)
    (end_next c.args.start.now c.requires.accepted c.args.index c.requires.there c.args.item c.args.server.now c.args.places.now (mount_item c.mount_at-mount.result) c.mount_at-mount.ensures c.if-mount-index.false c.requires.holds)))
