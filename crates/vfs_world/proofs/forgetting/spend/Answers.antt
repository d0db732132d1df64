use Rattle.std.proofs.Common.{◌∙◌, ap, fold, subst, sym}
use Rattle.link_admission.specs.Standings.{Known, gone}
use Rattle.vfs_journal.specs.Entries.{tokens_in}
use Rattle.vfs_world.specs.ServingSteps.{CanGo}
use Rattle.vfs_world.proofs.Forgotten.{all_then, both_out, gone_then}
use Rattle.vfs_world.proofs.forgetting.spend.Goals as goal

pub forget_carried-requires : goal.forget_carried-requires
forget_carried-requires c = record { out = (both_out (tokens_in c.args.sent.now) c.args.dropped.now c.args.endpoints.now c.requires.out).0 }

pub forget_all-requires : goal.forget_all-requires
forget_all-requires c = record {
  out =
      subst (λ (known : Known). CanGo known c.args.dropped.now) (sym c.forget_carried.ensures.known)
      (both_out (tokens_in c.args.sent.now) c.args.dropped.now c.args.endpoints.now c.requires.out).1;
}

pub returns-clause-forgets : goal.returns-clause-forgets
returns-clause-forgets c =
    all_then c.args.servers.now.items c.forget_carried.new.servers.items c.forget_all.new.servers.items (tokens_in c.args.sent.now) c.args.dropped.now c.forget_carried.ensures.forgets
    c.forget_all.ensures.forgets

pub returns-clause-known : goal.returns-clause-known
returns-clause-known c =
    c.forget_all.ensures.known ∙ ap (λ (known : Known). fold gone known c.args.dropped.now) c.forget_carried.ensures.known
    ∙ sym (gone_then (tokens_in c.args.sent.now) c.args.dropped.now c.args.endpoints.now)
