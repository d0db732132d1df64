use Rattle.std.proofs.Common.{◌≡◌, List, [], map, refl, ap, ◌∙◌, sym, arith, length}
use Rattle.toml.specs.Data.{Data}
use Rattle.toml.specs.View.{view}
use Rattle.tree_file.specs.Reading.{read_all, server_of}
use Rattle.tree_file.specs.Rules.{read_servers}
use Rattle.tree_file.proofs.Passes.{read-on, read-stop, read-end, read-breaks, server_few}
use Rattle.tree_file.proofs.lists.read_servers.Goals as goal

pub loop-value-init : goal.loop-value-init
loop-value-init c = rw c.requires (refl, omega arith)

pub returns-in-None-clause-refused : goal.returns-in-None-clause-refused
returns-in-None-clause-refused c =
    let whole : read_servers (view c.args.document.now) ≡ read_all server_of [] (map view c.items_at-values.result.now) = ap (λ (listed : List Data). read_all server_of [] listed) (sym c.items_at-values.ensures) in
    let found = ap (λ earlier. server_of earlier (view c.value-item.result)) (sym c.deref.ensures.value) ∙ sym c.in_ok-name.ensures ∙ c.in-None.is in
    read-breaks 4 (read_servers (view c.args.document.now)) (length c.loop-value.names.items) c.len.result c.broken.result
    (whole ∙ c.loop-value.invariant.0 ∙ read-stop server_of c.loop-value.names.items c.items_at-values.result.now c.loop-value.value-index c.value-item.result c.loop-value-test.true c.value-item.is found)
    (omega (arith, c.loop-value.names.ok.0, c.len.ensures)) c.broken.ensures

pub loop-value-preserved : goal.loop-value-preserved
loop-value-preserved c =
    let pushed = c.in_ok-push-in-Some.ensures.items in
    let found = ap (λ earlier. server_of earlier (view c.value-item.result)) (sym c.deref.ensures.value) ∙ sym c.in_ok-name.ensures ∙ c.in-Some.is in
    rw pushed (
      c.loop-value.invariant.0 ∙ read-on server_of c.loop-value.names.items c.items_at-values.result.now c.loop-value.value-index c.value-item.result c.in-Some.name c.loop-value-test.true c.value-item.is found,
      server_few c.loop-value.names.items (view c.value-item.result) c.in-Some.name found,
    )

pub returns-clause-read : goal.returns-clause-read
returns-clause-read c =
    ap (λ (listed : List Data). read_all server_of [] listed) (sym c.items_at-values.ensures)
    ∙ c.loop-value.invariant.0 ∙ read-end server_of c.loop-value.names.items c.items_at-values.result.now c.loop-value.value-index (omega (arith, c.loop-value-test.false))
