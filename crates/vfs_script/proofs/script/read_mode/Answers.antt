-- No line says the mode.
use Rattle.std.proofs.Common.{refl, ap, ◌∙◌}
use Rattle.vfs_script.specs.Scripts.{from_mode}
use Rattle.vfs_script.proofs.script.read_mode.Goals as goal

pub returns : goal.returns
returns c =
    record {
      mode = tt;
      heads = tt;
      left = tt;
      refused = rw (c.loop-number.invariant.mode ∙ ap from_mode c.in_default.ensures.none.0) refl;
    }
