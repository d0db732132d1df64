use Rattle.std.proofs.Common.{◌∙◌, ap, map, List}
use Rattle.toml.specs.Data.{get}
use Rattle.toml.specs.View.{view}
use Rattle.toml.specs.declared.value.Value.{Value}
use Rattle.tree_file.specs.Rules.{items_at}
use Rattle.tree_file.proofs.Views.{items-found}
use Rattle.tree_file.proofs.lists.items_at.Goals as goal

pub returns-in-Some-as_array : goal.returns-in-Some-as_array
unfolding items_at
returns-in-Some-as_array c =
    ap (λ (vs : List Value). map view vs) c.as_slice.ensures.value
    ∙ items-found (get c.args.key.now (view c.args.document.now)) (view c.in-Some.value.now) c.in-Some-as_array.items.now.items c.in-Some.ensures c.in-Some-as_array.ensures
