use Rattle.std.proofs.Common.{rules, arith, ◌≡◌, []}
use Rattle.std.proofs.lemmas.Grind.{common_steps}
use Rattle.std.proofs.lemmas.Result.{err_from_is_err_and}
use Rattle.host_io.proofs.Sent.{Sent-more, Sent-all, Sent-part}
use Rattle.host_io.proofs.streams.write_whole.Goals as goal

pub loop-rest-preserved : goal.loop-rest-preserved
loop-rest-preserved g c = record {
  sent = Sent-more _ _ _ _ _ _ c.loop-rest.invariant.sent c.in_ok-n.ensures.bytes;
  unflushed = search rules;
  stays = search rules;
}

pub returns : goal.returns
returns g c =
    let none : c.loop-rest.rest.now ≡ [] = grind (arith, common_steps) in
    record {
      whole = Sent-all _ _ _ _ c.loop-rest.invariant.sent none;
      part = tt;
      unflushed = c.loop-rest.invariant.unflushed;
      cause = record { later = omega (arith, c.loop-rest.invariant.stays); stays = c.loop-rest.invariant.stays; failed = tt };
    }

pub returns-in_err-n : goal.returns-in_err-n
returns-in_err-n g c =
    let p = err_from_is_err_and c.from_residual.result c.from_residual.ensures.1 in
    rw p.1 (record {
      whole = tt;
      part = Sent-part _ _ _ _ _ c.loop-rest.invariant.sent c.in_err-n.ensures.bytes;
      unflushed = search rules;
      cause = record {
        later = omega (arith, c.in_err-n.ensures.cause.later, c.loop-rest.invariant.stays);
        stays = tt;
        failed = omega (arith, c.in_err-n.ensures.cause.failed, c.loop-rest.invariant.stays);
      };
    })
