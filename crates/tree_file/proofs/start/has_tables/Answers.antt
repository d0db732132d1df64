use Rattle.std.proofs.Common.{◌∙◌, ap, List}
use Rattle.std.specs.List.{list_all}
use Rattle.toml.specs.Data.{get}
use Rattle.toml.specs.View.{view}
use Rattle.toml.specs.declared.value.Value.{Value}
use Rattle.tree_file.specs.Fields.{is_table}
use Rattle.tree_file.specs.Rules.{has_tables}
use Rattle.tree_file.proofs.Views.{tables-found}
use Rattle.tree_file.proofs.start.has_tables.Goals as goal

pub returns-in-Some-as_array : goal.returns-in-Some-as_array
unfolding has_tables
returns-in-Some-as_array c =
    c.are_tables.ensures
    ∙ ap (λ (vs : List Value). list_all (λ v. is_table (view v)) vs) c.as_slice.ensures.value
    ∙ tables-found (get c.args.key.now (view c.args.document.now)) (view c.in-Some.value.now) c.in-Some-as_array.items.now.items c.in-Some.ensures c.in-Some-as_array.ensures
