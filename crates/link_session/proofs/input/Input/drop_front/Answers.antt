use Rattle.std.proofs.Common.{ap, ◌∙◌, drop, arith, length, ◌≤◌, take, ◌-◌}
use Rattle.std.proofs.lemmas.List.{length-take-le}
use Rattle.link_session.proofs.Pieces.{take_moved}
use Rattle.link_session.proofs.input.Input.drop_front.Goals as goal

pub returns : goal.returns
returns c =
    let n = c.args.n in
    let fits : c.self.inside.kept ≤ length c.self.inside.buffer.items = omega (arith, c.self.inside.buffer.ok.0, c.self.invariant.0, c.self.invariant.1) in
    let seen : n ≤ length (take c.self.inside.kept c.self.inside.buffer.items) = rw (← c.self.view_is) at c.requires in
    let kept : n ≤ c.self.inside.kept = omega (arith, seen, length-take-le c.self.inside.kept c.self.inside.buffer.items fits) in
    ap (take (c.self.inside.kept - n)) c.copy_within.ensures.items ∙ take_moved c.self.inside.buffer.items _ c.self.inside.kept n fits kept ∙ ap (drop n) c.self.view_is
