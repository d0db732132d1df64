use Rattle.std.proofs.Common.{arith, ap, sym, ◌∙◌}
use Rattle.std.specs.Prelude.{unwrap_or}
use Rattle.path_walk.specs.Names.{dot}
use Rattle.path_walk.proofs.PartLemmas.{no_slash, last_slash, parent_before}
use Rattle.path_walk.proofs.parts.parent_of.Goals as goal

pub returns-in-Some : goal.returns-in-Some
returns-in-Some c =
    sym
    (parent_before c.args.path.now
    ∙ ap (λ front. unwrap_or front dot) (last_slash c.args.path.now c.in-Some.place c.in-Some.ensures.0.high c.in-Some.ensures.1 c.in-Some.ensures.0.after))

pub returns-in-None : goal.returns-in-None
returns-in-None c =
    sym
    (parent_before c.args.path.now
    ∙ ap (λ front. unwrap_or front dot) (no_slash c.args.path.now (λ k within is. c.in-None.ensures k (omega arith) within is)))
