use Rattle.std.proofs.Common.{◌≡◌, ◌-◌, List, [], ◌∷◌, ◌++◌, ℕ, Ok, arith, ap, drop, length, refl, subst, sym}
use Rattle.vfs_world.specs.World.{LeadsTo, StandsFor, World}
use Rattle.link_audit.specs.Auditing.{Auditing, Audits}
use Rattle.link_audit.specs.Records.{served}
use Rattle.link_audit.specs.Recorded.{behind_record, journal_of}
use Rattle.link_audit.proofs.Reasons.{missing_first, nothing_first}
use Rattle.link_audit.proofs.Stepping.{all_left, all_out, can_serve, held_as, not_all_out, written_anew}
use Rattle.link_audit.proofs.auditor.Auditor.serve.Goals as goal

pub returns-then-owes : goal.returns-then-owes
returns-then-owes c = λ start before audits.
    missing_first start before (served c.args.endpoint) refl (not_all_out start before c.args.self.now audits (c.owes.ensures.some c.if-owes.true))

pub returns-in-Idle : goal.returns-in-Idle
returns-in-Idle c = λ start before audits.
    let none : c.args.self.now.owed ≡ [] = c.owes.ensures.none c.if-owes.false in
    let stands = subst (λ (w : World). StandsFor start w (journal_of start before)) (sym (ap (λ (a : Auditing). a.world) c.self.view_is)) audits.stands in
    nothing_first start before c.args.endpoint (all_out start before c.args.self.now audits none)
    (c.in_ok-pick.ensures.only_idle start (journal_of start before) stands (ap Ok c.in-Idle.is))

pub returns : goal.returns
returns c = λ start before audits.
    let one = served c.args.endpoint in
    let none : c.args.self.now.owed ≡ [] = c.owes.ensures.none c.if-owes.false in
    let old = c.self.inside in
    let stands = subst (λ (w : World). StandsFor start w (journal_of start before)) (sym (ap (λ (a : Auditing). a.world) c.self.view_is)) audits.stands in (
      (
        all_out start before c.args.self.now audits none,
        can_serve start before c.args.endpoint (λ nothing.
            let idle = c.in_ok-pick.ensures.idle start (journal_of start before) stands nothing in
            c.in_default.not-Idle (cc)),
      ),
      subst (λ (owed : List ℕ). Audits start (before ++ one ∷ []) (held_as c.pick.new.self owed)) (sym (all_left c.pick.new.outbox c.len-self-inside.result c.len-self-inside.ensures))
          (written_anew start before one c.args.self.now old.world c.pick.new.self c.pick.new.outbox (drop (length old.outbox - old.left) old.outbox) c.self.view_is audits none refl
          (omega (arith, c.in_ok-pick.ensures.frames))
          (λ journal stands'.
          subst (λ (held : List ℕ). LeadsTo start (behind_record start journal one) c.pick.new.self journal held c.pick.new.outbox) c.clear.ensures
          (c.in_ok-pick.ensures.picked start journal stands'))),
    )
