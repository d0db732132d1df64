use Rattle.std.proofs.Common.{◌≡◌, List, Some, ap, length, subst, sym}
use Rattle.std.specs.List.{slice_get}
use Rattle.std.proofs.lemmas.Option.{slice_get_read}
use Rattle.conn_rules.specs.declared.mounts.MountTarget.{MountTarget}
use Rattle.conn_rules.proofs.mounts.Mounts.target_of.Goals as goal

pub returns : goal.returns
returns c = record {
  target =
      subst (λ (targets : List MountTarget). slice_get targets c.args.mount ≡ Some c.index.result.now) c.self.view_is
      (slice_get_read c.self.inside.targets.items (length c.args.self.now) c.args.mount c.index.result.now (ap length (sym c.self.view_is)) c.requires.there c.index.ensures);
}
