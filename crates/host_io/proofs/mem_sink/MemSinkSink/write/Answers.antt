use Rattle.std.proofs.Common.{◌≡◌, ap, ◌∙◌, ◌++◌, take, arith}
use Rattle.std.proofs.lemmas.Grind.{common_steps}
use Rattle.host_io.proofs.mem_sink.MemSinkSink.write.Goals as goal

pub returns : goal.returns
returns c =
    let written : c.extend_from_slice.new.self.items ≡ c.args.self.now.written ++ take c.min-n.result c.args.piece.now =
    (rw c.unwrap.ensures at c.extend_from_slice.ensures.items) ∙ ap (λ s. s.written ++ take c.min-n.result c.args.piece.now) c.self.view_is in
    record {
      bound = grind (arith, common_steps);
      bytes = written;
      unflushed = grind (arith, common_steps);
      cause = grind (arith, common_steps);
      fails = grind (arith, common_steps);
      count = grind (arith, common_steps);
      taken = grind (arith, common_steps);
      counted = tt;
    }
