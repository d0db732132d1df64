use Rattle.std.proofs.Common.{List, ◌++◌, refl, sym, ap, ◌∙◌}
use Rattle.std.proofs.lemmas.List.{append-nil}
use Rattle.fidl_names.specs.declared.methods.Handle.{Handle}
use Rattle.io_messages.proofs.Lengths.{not_held}
use Rattle.io_messages.proofs.fields.put_held.Goals as goal

pub returns-in_default : goal.returns-in_default
returns-in_default c = record {
  handles = sym (ap (λ (hs : List Handle). c.args.out.now.handles ++ hs) (not_held c.args.field c.in_default.not-Held) ∙ append-nil c.args.out.now.handles);
  bytes = refl;
}
