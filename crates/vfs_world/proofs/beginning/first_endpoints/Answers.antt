use Rattle.std.proofs.Common.{◌≤◌, ◌∙◌, ◌++◌, ◌∷◌, [], ap, arith, length, map, sym, take}
use Rattle.std.proofs.lemmas.List.{length-map, map-append, take_all}
use Rattle.session_start.specs.Lent.{client_item}
use Rattle.vfs_journal.specs.Starts.{Bound, first_of_client, start_of}
use Rattle.vfs_world.proofs.Begun.{client_listed, one_more}
use Rattle.vfs_world.proofs.beginning.first_endpoints.Goals as goal

pub loop-item-preserved : goal.loop-item-preserved
loop-item-preserved c =
    let lists = c.args.start.now in
    let client = client_item c.client_at-client.result in
    c.in_ok-push.ensures.items ∙ ap (λ items. items ++ client.endpoint ∷ []) c.loop-item.invariant
    ∙ sym (ap (map (λ (bound : Bound). bound.endpoint)) (one_more (start_of lists).firsts c.loop-item.item (first_of_client lists client) (client_listed lists c.loop-item.item client c.client_at-client.ensures))
    ∙ map-append (λ (bound : Bound). bound.endpoint) (take c.loop-item.item (start_of lists).firsts) (first_of_client lists client ∷ []))

pub returns : goal.returns
returns c =
    let lists = c.args.start.now in
    let size = length-map lists.clients (first_of_client lists) in
    let end : length (start_of lists).firsts ≤ c.loop-item.item = omega (arith, c.loop-item-test.false, c.clients-item-end.ensures, size) in
    c.loop-item.invariant ∙ ap (map (λ (bound : Bound). bound.endpoint)) (take_all c.loop-item.item (start_of lists).firsts end)
