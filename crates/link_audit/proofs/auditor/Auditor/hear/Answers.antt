use Rattle.std.proofs.Common.{◌≡◌, ◌-◌, List, [], ◌∷◌, ◌++◌, ℕ, arith, drop, length, refl, subst, sym}
use Rattle.link_frames.specs.Views.{frame_of}
use Rattle.vfs_world.specs.World.{LeadsTo}
use Rattle.link_audit.specs.Auditing.{Audits}
use Rattle.link_audit.specs.Records.{comes_in}
use Rattle.link_audit.specs.Recorded.{behind_record}
use Rattle.link_audit.proofs.Reasons.{missing_first}
use Rattle.link_audit.proofs.Stepping.{all_left, all_out, held_as, not_all_out, written_anew}
use Rattle.link_audit.proofs.auditor.Auditor.hear.Goals as goal

pub returns-then-owes : goal.returns-then-owes
returns-then-owes c = λ start before audits.
    missing_first start before (comes_in (frame_of c.args.frame)) refl (not_all_out start before c.args.self.now audits (c.owes.ensures.some c.if-owes.true))

pub returns : goal.returns
returns c = λ start before audits.
    let one = comes_in (frame_of c.args.frame) in
    let none : c.args.self.now.owed ≡ [] = c.owes.ensures.none c.if-owes.false in
    let old = c.self.inside in (
      all_out start before c.args.self.now audits none,
      subst (λ (owed : List ℕ). Audits start (before ++ one ∷ []) (held_as c.accept.new.self owed)) (sym (all_left c.accept.new.outbox c.len-self-inside.result c.len-self-inside.ensures))
          (written_anew start before one c.args.self.now old.world c.accept.new.self c.accept.new.outbox (drop (length old.outbox - old.left) old.outbox) c.self.view_is audits none refl
          (omega (arith, c.in_ok-accept.ensures.frames))
          (λ journal stands.
          subst (λ (held : List ℕ). LeadsTo start (behind_record start journal one) c.accept.new.self journal held c.accept.new.outbox) c.clear.ensures
          (c.in_ok-accept.ensures.arrived start journal stands))),
    )
