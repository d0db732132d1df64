use Rattle.std.proofs.Common.{◌≡◌, ◌∙◌, ◌++◌, ◌∷◌, [], ℕ, List, ap, arith, replicate}
use Rattle.std.specs.FinMap as finite
use Rattle.std.proofs.lemmas.List.{replicate_more}
use Rattle.message_queues.specs.Steps.{Heads}
use Rattle.message_queues.proofs.heads.Heads.of_each.Goals as goal

pub loop-preserved : goal.loop-preserved
loop-preserved c =
    c.in_ok-push.ensures.items ∙ ap (λ (heads : List Heads). heads ++ c.new.result ∷ []) c.loop.invariant ∙ ap (λ (one : Heads). replicate c.loop.counter finite.empty ++ one ∷ []) c.new.ensures
    ∙ replicate_more c.loop.counter finite.empty

pub returns : goal.returns
returns c =
    let end : c.loop.counter ≡ c.args.servers = omega (arith, c.loop-test.false, c.loop.auto.counter-end) in
    c.loop.invariant ∙ ap (λ (servers : ℕ). replicate servers finite.empty) end
