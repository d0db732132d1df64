use Rattle.std.proofs.Common.{List, ℕ, sym, subst}
use Rattle.link_frames.specs.Deframing.{Deframing, IsKept}
use Rattle.link_frames.specs.Views.{frame_of, IsWholeFront}
use Rattle.link_frames.proofs.Streams.{NoFront}
use Rattle.link_frames.proofs.Feeding.{whole_kept, keeps_none, reads_none}
use Rattle.link_frames.proofs.deframer.Deframer.next_frame.Goals as goal

pub returns-in-Whole-clause-shown : goal.returns-in-Whole-clause-shown
returns-in-Whole-clause-shown c =
    let s = c.self.inside.side in
    let f = frame_of c.in-Whole.frame in
    let is : IsWholeFront s c.self.inside.kept.items f c.in-Whole.size = subst (λ (l : List ℕ). IsWholeFront s l f c.in-Whole.size) c.deref.ensures.value c.in-Whole.ensures in
    let kept = whole_kept s c.self.inside.kept.items f c.in-Whole.size c.self.invariant.no_further is in
    subst (λ (d : Deframing). IsKept d f) c.self.view_is (record { sound = is.sound; spelled = kept })

pub returns-in-NotWhole : goal.returns-in-NotWhole
returns-in-NotWhole c =
    let s = c.self.inside.side in
    let none = reads_none s c.deref.result.now c.frame_at.result c.frame_at.ensures c.in-NotWhole.is in
    let front = subst (NoFront s) c.deref.ensures.value none in
    record {
      shown = tt;
      none = λ f kept.
          let is = subst (λ (d : Deframing). IsKept d f) (sym c.self.view_is) kept in
          keeps_none s c.self.inside.kept.items f front is.sound is.spelled;
    }
