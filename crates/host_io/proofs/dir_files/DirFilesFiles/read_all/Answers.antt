use Rattle.std.proofs.Common.{◌≡◌, ap, ◌∙◌, arith}
use Rattle.std.proofs.lemmas.Grind.{common_steps}
use Rattle.host_io.specs.Causes.{next_count}
use Rattle.host_io.proofs.dir_files.DirFilesFiles.read_all.Goals as goal

pub returns-in-Err-Failed : goal.returns-in-Err-Failed
returns-in-Err-Failed g c =
    let counted : c.saturating_add-self-inside.result ≡ next_count c.args.self.now.faults = c.saturating_add-self-inside.ensures ∙ ap (λ s. next_count s.faults) c.self.view_is in
    record {
      bound = grind (arith, common_steps);
      once = grind (arith, common_steps);
      faults_stay = grind (arith, common_steps);
      overlong_stays = grind (arith, common_steps);
      failed = grind (arith, common_steps);
      too_large = grind (arith, common_steps);
      counted = grind (arith, common_steps);
    }
