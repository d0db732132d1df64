use Rattle.std.proofs.Common.{Some, get_or, ap, sym, ◌∙◌}
use Rattle.std.proofs.lemmas.Option.{slice_get-get_or}
use Rattle.session_start.specs.declared.start.Start.TheInside.{Inside}
use Rattle.session_start.specs.Items.{Lists}
use Rattle.session_start.proofs.start.Start.mount_at.Goals as goal

pub returns : goal.returns
returns c =
    let item = c.index.result.now in
    let same = ap (λ (inside : Inside). get_or inside.lists.mounts c.args.i item) c.self-inside.view_is ∙ ap (λ (lists : Lists). get_or lists.mounts c.args.i item) c.self.view_is in
    slice_get-get_or c.args.self.now.mounts c.args.i item c.requires ∙ ap Some (sym (c.lend_mount.ensures ∙ c.index.ensures ∙ same))
