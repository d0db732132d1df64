use Rattle.std.proofs.Common.{◌≡◌, ◌≢◌, ◌∙◌, ℕ, All, AllPairs, List, ap, arith, fold, subst, sym, true}
use Rattle.link_admission.specs.Standings.{Known, ended, is_live, standing_of}
use Rattle.vfs_world.specs.Holding.{HoldsEach}
use Rattle.vfs_world.specs.ServingSteps.{without_in}
use Rattle.vfs_world.proofs.Ending.{ended_known}
use Rattle.vfs_world.proofs.settling.bury.Goals as goal

pub returns-clause-known : goal.returns-clause-known
returns-clause-known c =
    ended_known c.args.endpoints.now c.dropped.new.self c.end_all.new.endpoints c.in_ok-buried.buried.dead.items _ _ c.dropped.ensures (c.end_all.ensures ∙ ap (fold ended c.dropped.new.self) c.deref.ensures.value)
    (let a = c.requires.counted in let b = c.in_ok-buried.ensures.dropped in let d = c.len-before.ensures.len in let e = c.len.ensures.len in omega arith)

pub returns-clause-gone : goal.returns-clause-gone
returns-clause-gone c = λ view apart holds.
    subst (λ (dead : List ℕ). HoldsEach (without_in view dead) c.let_all_go.new.servers.items) c.deref-2.ensures.value (c.let_all_go.ensures.gone view apart holds)

pub end_all-requires-clause-live : goal.end_all-requires-clause-live
end_all-requires-clause-live c =
    subst (λ (k : Known). All (λ endpoint. is_live (standing_of k endpoint) ≡ true) c.deref.result.now) (sym c.dropped.ensures)
    (subst (λ (dead : List ℕ). All (λ endpoint. is_live (standing_of c.args.endpoints.now endpoint) ≡ true) dead) (sym c.deref.ensures.value)
    (c.requires.live c.in_ok-buried.buried.dead.items c.in_ok-buried.ensures.died))

pub end_all-requires-clause-once : goal.end_all-requires-clause-once
end_all-requires-clause-once c = subst (AllPairs (λ one other. one ≢ other)) (sym c.deref.ensures.value) c.in_ok-buried.ensures.died.once
