use Rattle.std.proofs.Common.{◌≡◌, ◌<◌, [], ap, arith, length, refl, subst, sym}
use Rattle.vfs_journal.specs.History.{waiting}
use Rattle.vfs_journal.specs.Past.{history_of}
use Rattle.vfs_world.specs.World.{StandsFor, World}
use Rattle.link_audit.specs.Auditing.{Auditing}
use Rattle.link_audit.specs.Records.{ends}
use Rattle.link_audit.specs.Recorded.{journal_of}
use Rattle.link_audit.proofs.Reasons.{missing_first, still_first}
use Rattle.link_audit.proofs.Stepping.{all_out, ended_on, no_length, not_all_out}
use Rattle.link_audit.proofs.auditor.Auditor.end.Goals as goal

pub returns-then-owes : goal.returns-then-owes
returns-then-owes c = λ start before audits. missing_first start before ends refl (not_all_out start before c.args.self.now audits (c.owes.ensures.some c.if-owes.true))

pub returns-then-waiting-gt0 : goal.returns-then-waiting-gt0
returns-then-waiting-gt0 c = λ start before audits.
    let none : c.args.self.now.owed ≡ [] = c.owes.ensures.none c.if-owes.false in
    let stands = subst (λ (w : World). StandsFor start w (journal_of start before)) (sym (ap (λ (a : Auditing). a.world) c.self.view_is)) audits.stands in
    let count = c.waiting.ensures.waiting start (journal_of start before) stands in
    let some : 0 < c.waiting.result = c.if-waiting-gt0.true in
    still_first start before (all_out start before c.args.self.now audits none) (λ nothing. omega (arith, some, count, ap length nothing))

pub returns : goal.returns
returns c = λ start before audits.
    let none : c.args.self.now.owed ≡ [] = c.owes.ensures.none c.if-owes.false in
    let stands = subst (λ (w : World). StandsFor start w (journal_of start before)) (sym (ap (λ (a : Auditing). a.world) c.self.view_is)) audits.stands in
    let count = c.waiting.ensures.waiting start (journal_of start before) stands in (
      (all_out start before c.args.self.now audits none, no_length (waiting (history_of start (journal_of start before))) (omega (arith, c.if-waiting-gt0.false, count))),
      ended_on start before c.args.self.now audits,
    )
