use Rattle.std.proofs.Common.{◌++◌, length, ap, ◌∙◌, subst, arith, length-append}
use Rattle.link_frames.specs.Frames.{spellings}
use Rattle.sha2.specs.Hashers.{Holds256}
use Rattle.script_session.proofs.Metering.{spelled_both}
use Rattle.script_session.proofs.tally.Tally.take.Goals as goal

pub returns-clause-tallied : goal.returns-clause-tallied
returns-clause-tallied c = λ before more tallies are is.
    let counted = c.count_frames.ensures.count more are is in
    let both = ap length (spelled_both before more) in
    let same = ap length is in
    record {
      frames = (let was = tallies.frames in omega (arith, was, counted, length-append before more));
      bytes = (let was = tallies.bytes in omega (arith, was, both, same, length-append (spellings before) (spellings more)));
      hash = subst (Holds256 c.update.new.self) (ap (λ l. spellings before ++ l) is ∙ spelled_both before more) (c.update.ensures (spellings before) tallies.hash);
    }
