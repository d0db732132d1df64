use Rattle.std.proofs.Common.{◌∙◌, ℕ, ◌+◌, List, [], ap}
use Rattle.link_frames.specs.Deframing.{Deframing, dropped}
use Rattle.link_frames.proofs.deframer.Deframer.discard.Goals as goal

pub returns : goal.returns
returns c =
    let by_kept : List ℕ → Deframing = λ kept. record { side = c.self.inside.side; start = c.self.inside.start + c.len-count.result; kept = kept } in
    let by_count : ℕ → Deframing = λ count. record { side = c.self.inside.side; start = c.self.inside.start + count; kept = [] } in
    ap by_kept c.clear.ensures.items ∙ ap by_count (c.len-count.ensures ∙ c.self.inside.kept.ok.0) ∙ ap dropped c.self.view_is
