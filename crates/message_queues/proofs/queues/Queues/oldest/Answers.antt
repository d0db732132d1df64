use Rattle.std.proofs.Common.{◌≡◌, ◌∙◌, List, ap, subst}
use Rattle.std.specs.Prelude.{None, Some}
use Rattle.std.specs.FinMap as finite
use Rattle.message_queues.specs.Oldest.{IsBoundAt, IsOldest, NothingWaits}
use Rattle.message_queues.specs.Queues.{Queues}
use Rattle.message_queues.specs.Steps.{Heads, IsLeast, heads_of, queues_with}
use Rattle.message_queues.proofs.Served.{oldest_at}
use Rattle.message_queues.proofs.queues.Queues.oldest.Goals as goal

pub returns-in-Some : goal.returns-in-Some
returns-in-Some c =
    let inside = c.self.inside in
    let there : c.in_ok-heads.heads.now ≡ heads_of inside.heads.items c.args.server = c.in_ok-heads.ensures.lookup.3.1 finite.empty ∙ ap (λ (heads : List Heads). heads_of heads c.args.server) c.deref.ensures.value in
    subst (λ (queues : Queues). IsOldest queues (IsBoundAt queues c.args.server) c.in-Some.head.1) c.self.view_is
    (oldest_at (queues_with inside.boxes.entries inside.servers) inside.heads.items inside.count c.args.server (Some c.in-Some.head) c.self.invariant.kept
    (subst (λ (one : Heads). IsLeast one (Some c.in-Some.head)) there c.in-Some.ensures))

pub returns-in-None : goal.returns-in-None
returns-in-None c =
    let inside = c.self.inside in
    let there : c.in_ok-heads.heads.now ≡ heads_of inside.heads.items c.args.server = c.in_ok-heads.ensures.lookup.3.1 finite.empty ∙ ap (λ (heads : List Heads). heads_of heads c.args.server) c.deref.ensures.value in
    subst (λ (queues : Queues). NothingWaits queues (IsBoundAt queues c.args.server)) c.self.view_is
    (oldest_at (queues_with inside.boxes.entries inside.servers) inside.heads.items inside.count c.args.server None c.self.invariant.kept
    (subst (λ (one : Heads). IsLeast one None) there c.in-None.ensures))
