use Rattle.std.proofs.Common.{ap, List, Bool, true, ◌≡◌, []}
use Rattle.node_graph.specs.Tree.{EdgeKey}
use Rattle.node_graph.specs.declared.nodes.Entry.{Entry}
use Rattle.node_graph.specs.declared.short.ShortName.{ShortName}
use Rattle.node_graph.specs.Ends.{IsNamed}
use Rattle.node_graph.specs.Short.{IsIndex}
use Rattle.node_graph.proofs.Ordered.{map_of, named_none}
use Rattle.node_graph.proofs.Indexed.{no_index}
use Rattle.node_graph.proofs.edges.Edges.new.Goals as goal

-- nothing is named, and nothing stands in the index
begun : (names : List (EdgeKey × Entry)) (index : List (ShortName × Entry)) (whole : Bool) → names ≡ [] → index ≡ [] → whole ≡ true → IsNamed names × IsIndex index whole (map_of names)
begun names index whole none empty all = rw (none, empty, all) (named_none, no_index)

pub invariant_of-result : goal.invariant_of-result
invariant_of-result c = begun c.new.result.entries c.new-2.result.found.entries c.new-2.result.whole c.new.ensures.empty c.new-2.ensures.none c.new-2.ensures.whole

pub returns : goal.returns
returns c = ap (λ (es : List (EdgeKey × Entry)). map_of es) c.new.ensures.empty
