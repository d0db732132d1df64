-- What the three tests say together.
use Rattle.std.proofs.Common.{◌∙◌, ◌≤◌, sym, arith}
use Rattle.std.proofs.lemmas.Bool.{eqb-true, leb-true}
use Rattle.fidl_names.specs.declared.limits.TheConstants as limit
use Rattle.link_frames.specs.Views.{frame_of}
use Rattle.vfs_world.specs.Arrivals.{IsPlain}
use Rattle.vfs_world.proofs.session.Session.can_be_served.Goals.{then-is_plain, else-is_plain}
use Rattle.vfs_world.proofs.session.Session.can_be_served.Goals as goal

pub returns-then-live-le-MAX_LIVE : goal.returns-then-live-le-MAX_LIVE
returns-then-live-le-MAX_LIVE c =
    let none = eqb-true c.len.result 0 in
    let others : IsPlain (frame_of c.args.frame) × (c.args.self.now.endpoints.live ≤ limit.MAX_LIVE) =
    elim c.if-is_plain.branch [
      | then-is_plain w ↦ (c.is_plain.ensures w.if-is_plain.true, (let few = leb-true w.live.result limit.MAX_LIVE (sym w.value-is ∙ c.if-live-le-MAX_LIVE.true) in let live = w.live.ensures in omega (arith, few, live)))
      | else-is_plain w ↦ absurd (let no = sym w.value-is ∙ c.if-live-le-MAX_LIVE.true in cc)
    ] in
    λ is. record { none = sym c.len.ensures.len ∙ none is; few = others.1; plain = others.0 }
