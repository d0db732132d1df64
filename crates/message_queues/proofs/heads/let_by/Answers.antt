use Rattle.std.proofs.Common.{refl, sym, ◌∙◌}
use Rattle.message_queues.proofs.Least.{let_one_by, popped_rises}
use Rattle.message_queues.proofs.heads.let_by.Goals as goal

pub loop-init : goal.loop-init
loop-init c = record { same = refl; rising = c.requires }

pub loop-preserved : goal.loop-preserved
loop-preserved c = record {
  same =
      let_one_by c.loop.line.items c.pop_front.new.self.items c.loop.others c.insert.new.self (c.in-Some.first, c.in-Some.endpoint) c.loop.invariant.rising (sym c.first_of.ensures ∙ c.in-Some.is)
      c.in-Ok.ensures.updates c.pop_front.ensures.rest
      ∙ c.loop.invariant.same;
  rising = popped_rises c.loop.line.items c.pop_front.new.self.items c.loop.invariant.rising c.pop_front.ensures.rest;
}
