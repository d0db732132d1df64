use Rattle.std.proofs.Common.{codes, map, ap, Some, ◌∙◌, sym, arith, length}
use Rattle.toml.specs.View.{view}
use Rattle.tree_file.specs.Reading.{read_all, mount_of}
use Rattle.tree_file.specs.Rules.{items_at, read_mounts, servers_of}
use Rattle.tree_file.proofs.Passes.{read-on, read-stop, read-end, read-breaks, read-named}
use Rattle.tree_file.proofs.lists.read_mounts.Goals as goal

pub loop-value-init : goal.loop-value-init
loop-value-init c = ap (λ none. read_all (λ _. mount_of c.args.names.now) none (map view c.items_at-values.result.now)) (sym c.requires.none)

pub returns-in-None-clause-refused : goal.returns-in-None-clause-refused
returns-in-None-clause-refused c =
    let document = view c.args.document.now in
    let whole = read-named (λ names _. mount_of names) (servers_of document) c.args.names.now (items_at (codes "mount") document) (map view c.items_at-values.result.now) c.requires.servers c.items_at-values.ensures in
    read-breaks 6 (read_mounts document) (length c.loop-value.mounts.items) c.len.result c.broken.result
    (whole ∙ c.loop-value.invariant ∙ read-stop (λ _. mount_of c.args.names.now) c.loop-value.mounts.items c.items_at-values.result.now c.loop-value.value-index c.value-item.result c.loop-value-test.true c.value-item.is (sym c.in-None.ensures))
    (omega (arith, c.loop-value.mounts.ok.0, c.len.ensures)) c.broken.ensures

pub loop-value-preserved : goal.loop-value-preserved
loop-value-preserved c =
    let pushed = c.in_ok-push-in-Some.ensures.items in
    rw pushed (c.loop-value.invariant ∙ read-on (λ _. mount_of c.args.names.now) c.loop-value.mounts.items c.items_at-values.result.now c.loop-value.value-index c.value-item.result c.in_ok-keep_mount-in-Some.field-0 c.loop-value-test.true c.value-item.is (sym c.in-Some.ensures ∙ ap Some (sym c.in_ok-keep_mount-in-Some.ensures)))

pub returns-clause-read : goal.returns-clause-read
returns-clause-read c =
    let document = view c.args.document.now in
    read-named (λ names _. mount_of names) (servers_of document) c.args.names.now (items_at (codes "mount") document) (map view c.items_at-values.result.now) c.requires.servers c.items_at-values.ensures
    ∙ c.loop-value.invariant ∙ read-end (λ _. mount_of c.args.names.now) c.loop-value.mounts.items c.items_at-values.result.now c.loop-value.value-index (omega (arith, c.loop-value-test.false))
