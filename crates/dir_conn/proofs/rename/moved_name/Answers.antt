-- What is told of a name that is another one now.
use Rattle.std.proofs.Common.{◌≡◌, ◌∷◌, ℕ, Bool, true, false, not, Option, Some, None, refl}
use Rattle.std.specs.Option.{option_map, option_to_list}
use Rattle.std.specs.Prelude.{if◌then◌else◌}
use Rattle.node_graph.specs.Tree.{EdgeKey}
use Rattle.conn_rules.specs.Answers.{added, deleted, gone, nothing_told, removed}
use Rattle.conn_rules.specs.Served.{key_at}
use Rattle.dir_conn.proofs.rename.moved_name.Goals as goal

told_of : (changed : Bool) (from to : EdgeKey) (replaced : Option ℕ) → not changed ≡ false →
    removed from ∷ added to ∷ option_to_list (option_map deleted replaced) ≡ (if changed then removed from ∷ added to ∷ gone replaced else nothing_told)
told_of true from to None is = refl
told_of true from to (Some directory) is = refl
told_of false from to replaced is = absurd (cc)

pub returns : goal.returns
returns c = record { told = told_of c.args.moved.changed (key_at c.args.from) (key_at c.args.to) c.args.moved.replaced c.if-not-moved.false }
