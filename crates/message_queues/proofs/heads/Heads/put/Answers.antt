use Rattle.std.proofs.Common.{◌∙◌, ℕ, List, ap, sym, subst}
use Rattle.std.specs.FinMap as finite
use Rattle.message_queues.specs.Steps.{Heads, IsRising, heads_with}
use Rattle.message_queues.proofs.Least.{pushed, pushed_rises}
use Rattle.message_queues.proofs.heads.Heads.put.Goals as goal

pub invariant_of-self-then-is_last : goal.invariant_of-self-then-is_last
invariant_of-self-then-is_last c =
    subst (λ (line : List (ℕ × ℕ)). IsRising line) (sym c.in_ok-push_back.ensures.items)
    (pushed_rises c.self.inside.line.items c.args.place c.args.endpoint c.self.invariant (c.is_last.ensures c.if-is_last.true))

pub returns-then-is_last-clause-put : goal.returns-then-is_last-clause-put
returns-then-is_last-clause-put c =
    let others = finite.from_entries c.self.inside.others.entries in
    ap (λ (line : List (ℕ × ℕ)). heads_with line others) c.in_ok-push_back.ensures.items
    ∙ pushed c.self.inside.line.items others c.args.place c.args.endpoint (c.is_last.ensures c.if-is_last.true)
    ∙ ap (λ (heads : Heads). finite.insert heads c.args.place c.args.endpoint) c.self.view_is
