use Rattle.std.proofs.Common.{codes, map, refl, ap, Some, ◌∙◌, sym, arith, length, cond, true}
use Rattle.std.specs.BTreeSet.{contains}
use Rattle.std.specs.Ordering.{nat_cmp, is_eq}
use Rattle.toml.specs.View.{view}
use Rattle.session_start.specs.Items.{ClientItem}
use Rattle.tree_file.specs.Reading.{client_of}
use Rattle.tree_file.specs.Rules.{items_at, read_clients, servers_of}
use Rattle.tree_file.proofs.Passes.{read-on, read-stop, read-end, read-breaks, read-named, endpoints-more}
use Rattle.tree_file.proofs.lists.read_clients.Goals as goal

pub loop-value-init : goal.loop-value-init
loop-value-init c = rw c.requires.none (refl, λ number. let none = c.new-endpoints.ensures.empty in rw none)

pub returns-in-None-clause-refused : goal.returns-in-None-clause-refused
returns-in-None-clause-refused c =
    let document = view c.args.document.now in
    let whole = read-named client_of (servers_of document) c.args.names.now (items_at (codes "client") document) (map view c.items_at-values.result.now) c.requires.servers c.items_at-values.ensures in
    read-breaks 7 (read_clients document) (length c.loop-value.clients.items) c.len.result c.broken.result
    (whole ∙ c.loop-value.invariant.0 ∙ read-stop (client_of c.args.names.now) c.loop-value.clients.items c.items_at-values.result.now c.loop-value.value-index c.value-item.result c.loop-value-test.true c.value-item.is
    (sym (c.in-None.ensures c.loop-value.clients.items c.loop-value.invariant.1)))
    (omega (arith, c.loop-value.clients.ok.0, c.len.ensures)) c.broken.ensures

pub loop-value-preserved : goal.loop-value-preserved
loop-value-preserved c =
    let pushed = c.in_ok-push-in-Some.ensures.items in
    let kept = c.in_ok-keep_client-in-Some.ensures in
    rw pushed (
      c.loop-value.invariant.0 ∙ read-on (client_of c.args.names.now) c.loop-value.clients.items c.items_at-values.result.now c.loop-value.value-index c.value-item.result c.in_ok-keep_client-in-Some.field-0 c.loop-value-test.true c.value-item.is
          (sym (c.in-Some.ensures c.loop-value.clients.items c.loop-value.invariant.1) ∙ ap Some (sym kept)),
      endpoints-more c.loop-value.endpoints c.insert.new.self c.loop-value.clients.items c.in_ok-keep_client-in-Some.field-0 c.loop-value.invariant.1
          (λ q. c.in_ok-insert-in-Some.ensures.updates.0 q ∙ ap (λ e. cond (is_eq (nat_cmp e q)) true (contains nat_cmp c.loop-value.endpoints q)) (ap (λ (one : ClientItem). one.endpoint) (sym kept))),
    )

pub returns-clause-read : goal.returns-clause-read
returns-clause-read c =
    let document = view c.args.document.now in
    read-named client_of (servers_of document) c.args.names.now (items_at (codes "client") document) (map view c.items_at-values.result.now) c.requires.servers c.items_at-values.ensures
    ∙ c.loop-value.invariant.0 ∙ read-end (client_of c.args.names.now) c.loop-value.clients.items c.items_at-values.result.now c.loop-value.value-index (omega (arith, c.loop-value-test.false))
