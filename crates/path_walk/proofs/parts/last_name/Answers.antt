use Rattle.std.proofs.Common.{◌≤◌, ◌+◌, ◌-◌, length, drop, arith, ◌∙◌, sym}
use Rattle.std.proofs.lemmas.List.{take_all, length-drop}
use Rattle.path_walk.proofs.PartLemmas.{last_of_whole, last_behind}
use Rattle.path_walk.proofs.parts.last_name.Goals as goal

pub returns-in-Some : goal.returns-in-Some
returns-in-Some c =
    let size = length-drop (c.in-Some.place + 1) c.args.path.now in
    let all : length (drop (c.in-Some.place + 1) c.args.path.now) ≤ length c.args.path.now - (c.in-Some.place + 1) = omega (arith, size) in
    take_all (length c.args.path.now - (c.in-Some.place + 1)) (drop (c.in-Some.place + 1) c.args.path.now) all
    ∙ sym (last_behind c.args.path.now c.in-Some.place c.requires.below c.in-Some.ensures.0.high c.in-Some.ensures.1 c.in-Some.ensures.0.after)

pub returns-in-None : goal.returns-in-None
returns-in-None c = sym (last_of_whole c.args.path.now c.requires.below (λ k within is. c.in-None.ensures k (omega arith) within is))
