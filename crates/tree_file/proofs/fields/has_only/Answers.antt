use Rattle.std.proofs.Common.{◌∙◌, sym}
use Rattle.std.specs.Str.{bytes_eq}
use Rattle.tree_file.specs.Fields.{has_only}
use Rattle.tree_file.proofs.Views.{any_map, all_keys}
use Rattle.tree_file.proofs.fields.has_only.Goals as goal

pub returns-in-Some : goal.returns-in-Some
unfolding has_only
returns-in-Some c =
    rw (← c.in-Some.ensures)
    (c.knows_all.ensures
    ∙ all_keys _ _ (λ key. sym (any_map (λ one. one.now) (λ one. bytes_eq one key) c.args.known.now)) c.in-Some.table.now.entries)
