use Rattle.std.proofs.Common.{◌∙◌, List, ℕ, fold, refl, ap, subst}
use Rattle.std.proofs.lemmas.List.{take_all}
use Rattle.link_admission.specs.Standings.{gone}
use Rattle.vfs_world.specs.ServingSteps.{ForgetsAll}
use Rattle.vfs_world.proofs.Forgotten.{next_goes, next_out, none_gone}
use Rattle.vfs_world.proofs.forgetting.forget_all.Goals as goal

pub loop-token-init : goal.loop-token-init
loop-token-init c = none_gone c.args.servers.now.items c.args.endpoints.now c.args.tokens.now c.requires.out

pub forget-requires : goal.forget-requires
forget-requires c = record {
  out = next_out c.args.servers.now.items c.args.endpoints.now c.args.tokens.now c.loop-token.token-index _ c.loop-token.servers.items c.loop-token.endpoints c.loop-token-test.true refl c.loop-token.invariant;
}

pub loop-token-preserved : goal.loop-token-preserved
loop-token-preserved c =
    next_goes c.args.servers.now.items c.args.endpoints.now c.args.tokens.now c.loop-token.token-index _ c.loop-token.servers.items c.forget.new.servers.items c.loop-token.endpoints c.forget.new.endpoints c.loop-token-test.true refl
    c.loop-token.invariant c.forget.ensures.forgets c.forget.ensures.known

pub returns : goal.returns
returns c =
    let whole = take_all c.loop-token.token-index c.args.tokens.now c.loop-token-test.false in
    record {
      forgets = subst (λ (tokens : List ℕ). ForgetsAll c.args.servers.now.items tokens c.loop-token.servers.items) whole c.loop-token.invariant.forgets;
      known = c.loop-token.invariant.known ∙ ap (fold gone c.args.endpoints.now) whole;
    }
