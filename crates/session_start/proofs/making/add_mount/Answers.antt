use Rattle.std.proofs.Common.{List, OnOk, subst, sym}
use Rattle.session_start.specs.Lent.{mount_item}
use Rattle.session_start.specs.Numbering.{Named}
use Rattle.session_start.specs.Growing.{named_with}
use Rattle.session_start.specs.Places.{Stands}
use Rattle.session_start.proofs.Nexts.{mount_next, mounts_more, mounts_same}
use Rattle.session_start.proofs.making.add_mount.Goals as goal

pub returns-then-mount-server : goal.returns-then-mount-server
returns-then-mount-server c =
    subst (λ (named : List Named). Stands named c.args.graph.now c.args.places.now)
    (sym (mounts_same c.args.start.now c.args.server c.args.item (mount_item c.mount_at-mount.result) c.mount_at-mount.ensures c.if-mount-server.true)) c.requires.stand

pub add-requires : goal.add-requires
add-requires c = record {
  next = (
    c.args.start.now,
    c.args.server,
    named_with c.args.start.now c.args.server c.args.item,
    mount_next c.args.start.now c.args.server c.args.item (mount_item c.mount_at-mount.result) c.mount_at-mount.ensures c.args.graph.now c.args.places.now c.requires.accepted c.requires.there c.if-mount-server.false c.requires.stand,
  );
}

pub returns : goal.returns
returns c =
    subst (λ (named : List Named). OnOk c.add.result (Stands named c.add.new.graph c.add.new.places))
    (sym (mounts_more c.args.start.now c.args.server c.args.item (mount_item c.mount_at-mount.result) c.mount_at-mount.ensures c.if-mount-server.false))
    (c.add.ensures c.args.start.now c.args.server (named_with c.args.start.now c.args.server c.args.item)
    (mount_next c.args.start.now c.args.server c.args.item (mount_item c.mount_at-mount.result) c.mount_at-mount.ensures c.args.graph.now c.args.places.now c.requires.accepted c.requires.there c.if-mount-server.false c.requires.stand))
