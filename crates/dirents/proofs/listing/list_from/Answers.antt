use Rattle.std.proofs.Common.{◌∙◌, ap, ℕ, List, Option}
use Rattle.std.specs.Option.{option_map}
use Rattle.std.specs.Prelude.{option_to_list, ◌++◌, map}
use Rattle.node_graph.specs.Graph.{listed_after}
use Rattle.dirents.specs.Listings.{dot_entry, listed_entry}
use Rattle.dirents.specs.Steps.{dot_at}
use Rattle.dirents.proofs.Listed.{listing_is, all_entries}
use Rattle.dirents.proofs.listing.list_from.Goals as goal

pub returns-clause-entries : goal.returns-clause-entries
returns-clause-entries c = λ tree stands.
    let names = c.names_after.ensures.names ∙ ap (λ (after : Option (List ℕ)). listed_after c.args.graph.now.edges c.args.dir.number after) c.name_at.ensures in
    ap (λ (dot : Option ℕ). option_to_list (option_map dot_entry dot) ++ map listed_entry c.names_after.result)
    (c.dot_at.ensures ∙ ap (λ (number : ℕ). dot_at number c.args.place.now) c.number.ensures)
    ∙ listing_is c.args.graph.now tree stands _ c.args.place.now c.names_after.result names c.names_after.ensures.kinds

pub returns-clause-named : goal.returns-clause-named
returns-clause-named c = all_entries _ c.names_after.result c.names_after.ensures.named
