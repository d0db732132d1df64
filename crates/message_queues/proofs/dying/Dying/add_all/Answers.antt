use Rattle.std.proofs.Common.{◌∙◌, ap, refl, subst, List, ℕ}
use Rattle.std.proofs.lemmas.List.{take_all}
use Rattle.message_queues.specs.Steps.{Adds, Doomed}
use Rattle.message_queues.proofs.Spread.{adds_none, adds_step}
use Rattle.message_queues.proofs.dying.Dying.add_all.Goals as goal

pub loop-endpoint-init : goal.loop-endpoint-init
loop-endpoint-init c = record { found = adds_none c.args.self.now.found; tokens = refl }

pub loop-endpoint-preserved : goal.loop-endpoint-preserved
loop-endpoint-preserved c = record {
  found = adds_step c.args.endpoints.now c.loop-endpoint.endpoint-index c.args.self.now.found c.loop-endpoint.self.found c.add.new.self.found c.loop-endpoint-test.true c.loop-endpoint.invariant.found
      (ap (λ (doomed : Doomed). doomed.found) c.in_ok-add.ensures);
  tokens = ap (λ (doomed : Doomed). doomed.tokens) c.in_ok-add.ensures ∙ c.loop-endpoint.invariant.tokens;
}

pub returns-clause-found : goal.returns-clause-found
returns-clause-found c =
    subst (λ (ns : List ℕ). Adds ns c.args.self.now.found c.loop-endpoint.self.found) (take_all c.loop-endpoint.endpoint-index c.args.endpoints.now c.loop-endpoint-test.false) c.loop-endpoint.invariant.found
