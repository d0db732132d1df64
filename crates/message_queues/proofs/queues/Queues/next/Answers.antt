use Rattle.std.proofs.Common.{◌+◌, ◌∙◌, ℕ, ap, subst, sym}
use Rattle.std.specs.Prelude.{None, Option, Some}
use Rattle.message_queues.specs.Oldest.{IsBound, IsOldest, NothingWaits}
use Rattle.message_queues.specs.Queues.{Queues, queue_of}
use Rattle.message_queues.specs.Steps.{Heads, IsLeast, queues_with}
use Rattle.message_queues.proofs.Placed.{heads_there}
use Rattle.message_queues.proofs.Served.{IsLeastBelow, least_more, least_none, oldest_behind}
use Rattle.message_queues.proofs.Sound.{nothing_counted}
use Rattle.message_queues.proofs.queues.Queues.next.Goals as goal

pub loop-heads-init : goal.loop-heads-init
loop-heads-init c = least_none c.deref-heads-items.result.now

pub loop-heads-preserved : goal.loop-heads-preserved
loop-heads-preserved c =
    let items = c.deref-heads-items.result.now in
    let index = c.loop-heads.heads-index in
    subst (λ (head : Option (ℕ × ℕ)). IsLeastBelow items (index + 1) head) (sym c.older-oldest.ensures)
    (least_more items index c.loop-heads.oldest c.oldest.result c.loop-heads.invariant
    (subst (λ (one : Heads). IsLeast one c.oldest.result) (heads_there items index c.heads-item.result c.heads-item.is c.loop-heads-test.true) c.oldest.ensures))

pub returns-in-Some : goal.returns-in-Some
returns-in-Some c =
    let inside = c.self.inside in
    let items = c.deref-heads-items.result.now in
    subst (λ (queues : Queues). IsOldest queues (IsBound queues) c.in-Some.head.1) c.self.view_is
    (oldest_behind (queues_with inside.boxes.entries inside.servers) inside.heads.items items inside.count c.loop-heads.heads-index (Some c.in-Some.head) c.self.invariant.kept c.deref-heads-items.ensures.value
    c.loop-heads-test.false c.loop-heads.auto.heads-index-end (subst (λ (head : Option (ℕ × ℕ)). IsLeastBelow items c.loop-heads.heads-index head) c.in-Some.is c.loop-heads.invariant))

pub returns-in-None : goal.returns-in-None
returns-in-None c =
    let inside = c.self.inside in
    let items = c.deref-heads-items.result.now in
    subst (λ (queues : Queues). NothingWaits queues (IsBound queues)) c.self.view_is
    (oldest_behind (queues_with inside.boxes.entries inside.servers) inside.heads.items items inside.count c.loop-heads.heads-index None c.self.invariant.kept c.deref-heads-items.ensures.value c.loop-heads-test.false
    c.loop-heads.auto.heads-index-end (subst (λ (head : Option (ℕ × ℕ)). IsLeastBelow items c.loop-heads.heads-index head) c.in-None.is c.loop-heads.invariant))

pub returns-then-self-eq0 : goal.returns-then-self-eq0
returns-then-self-eq0 c = λ endpoint _.
    ap (λ (queues : Queues). queue_of queues endpoint) (sym c.self.view_is)
    ∙ nothing_counted c.self.inside.boxes c.self.inside.heads.items c.self.inside.count c.self.inside.servers c.self.invariant c.if-self-eq0.true endpoint
