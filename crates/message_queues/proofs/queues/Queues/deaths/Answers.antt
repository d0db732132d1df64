use Rattle.std.proofs.Common.{◌≡◌, ◌∙◌, List, [], ℕ, ap, subst, sym}
use Rattle.message_queues.specs.Queues.{Queues, queue_of}
use Rattle.message_queues.specs.Dying.{tokens_on}
use Rattle.message_queues.specs.Steps.{Adds}
use Rattle.message_queues.proofs.Gathered.{gathered_all, gathered_first, gathered_more}
use Rattle.message_queues.proofs.PutBehind.{idle_tokens}
use Rattle.message_queues.proofs.Sound.{nothing_counted}
use Rattle.message_queues.proofs.Spread.{idle_deaths, spread_deaths}
use Rattle.message_queues.proofs.queues.Queues.deaths.Goals as goal

pub loop-endpoint-init : goal.loop-endpoint-init
loop-endpoint-init c = gathered_first c.args.self.now c.args.firsts.items c.in_ok-dying.dying c.in_ok-dying.ensures.found c.in_ok-dying.ensures.tokens

pub loop-endpoint-preserved : goal.loop-endpoint-preserved
loop-endpoint-preserved c =
    gathered_more c.args.self.now c.args.firsts.items c.loop-endpoint.dying c.add_carried.new.dying c.loop-endpoint.index c.in-Some.endpoint c.loop-endpoint.invariant (sym c.in-Some.ensures.endpoint) c.in_ok-add_carried.ensures

pub returns-clause-died : goal.returns-clause-died
returns-clause-died c =
    spread_deaths c.args.self.now c.args.firsts.items c.loop-endpoint.dying.found c.into_buried-2.result.dead.items c.loop-endpoint.index c.loop-endpoint.invariant.spread (sym c.in_default.ensures.endpoint) c.into_buried-2.ensures.dead
    c.into_buried-2.ensures.once

pub returns-clause-tokens : goal.returns-clause-tokens
returns-clause-tokens c =
    c.into_buried-2.ensures.tokens
    ∙ gathered_all c.args.self.now c.args.firsts.items c.loop-endpoint.dying c.loop-endpoint.index c.loop-endpoint.invariant (sym c.in_default.ensures.endpoint)
    ∙ ap (tokens_on c.args.self.now) (sym c.into_buried-2.ensures.dead)

idle : (c : goal.After-into_buried) (endpoint : ℕ) → queue_of c.args.self.now endpoint ≡ []
idle c endpoint =
    ap (λ (queues : Queues). queue_of queues endpoint) (sym c.self.view_is)
    ∙ nothing_counted c.self.inside.boxes c.self.inside.heads.items c.self.inside.count c.self.inside.servers c.self.invariant c.if-self-eq0.true endpoint

pub returns-then-self-eq0-clause-died : goal.returns-then-self-eq0-clause-died
returns-then-self-eq0-clause-died c =
    idle_deaths c.args.self.now c.args.firsts.items c.into_buried.result.dead.items (idle c)
    (subst (λ (found : List ℕ). Adds c.args.firsts.items [] found) (sym c.into_buried.ensures.dead) c.in_ok-dying.ensures.found) c.into_buried.ensures.once

pub returns-then-self-eq0-clause-tokens : goal.returns-then-self-eq0-clause-tokens
returns-then-self-eq0-clause-tokens c = c.into_buried.ensures.tokens ∙ c.in_ok-dying.ensures.tokens ∙ sym (idle_tokens c.args.self.now c.into_buried.result.dead.items (idle c))
