use Rattle.std.proofs.Common.{◌≤◌, ◌<◌, ◌+◌, List, ℕ, ap, arith, drop, length, length-drop, refl, subst, sym}
use Rattle.std.specs.Prelude.{None, Option}
use Rattle.vfs_journal.specs.Starts.{start_of}
use Rattle.link_audit.specs.Auditing.{CameTo, IsFirstWrong, Judges}
use Rattle.link_audit.specs.Fronts.{record_of}
use Rattle.link_audit.specs.Records.{InFront}
use Rattle.link_audit.specs.declared.records.Record.{Record as Lent}
use Rattle.link_audit.specs.declared.verdicts.Why.{Why}
use Rattle.link_audit.proofs.Coming.{bad_there, came_on, goes_on_by, lawful_there, only_one, rest_is, unlawful_there, vouched_there}
use Rattle.link_audit.proofs.auditing.audit.Goals as goal

pub returns-in-Some-2-clause-verdict : goal.returns-in-Some-2-clause-verdict
returns-in-Some-2-clause-verdict c =
    let start = start_of c.args.start.now in
    let came = c.loop-front.invariant.came in
    let one = record_of c.in-Some.front.one in
    let wrong : IsFirstWrong start came.before one c.in-Some-2.why =
    subst (λ (told : Option Why). Judges start came.before one c.judge.new.self told) c.in-Some-2.is (c.in_ok-why.ensures start came.before came.audits) in
    unlawful_there start c.args.recording.now c.loop-front.place c.loop-front.rest.now (drop c.in-Some.front.size c.loop-front.rest.now) one c.in-Some-2.why c.loop-front.auditor came
    c.in-Some.ensures.shown.stands wrong

pub returns-in-Some-2-clause-only : goal.returns-in-Some-2-clause-only
returns-in-Some-2-clause-only c = only_one (start_of c.args.start.now) c.args.recording.now _ (returns-in-Some-2-clause-verdict c)

pub returns-in-End-clause-verdict : goal.returns-in-End-clause-verdict
returns-in-End-clause-verdict c =
    let start = start_of c.args.start.now in
    let came = c.loop-front.invariant.came in
    let rest = c.loop-front.rest.now in
    let more = drop c.in-Some.front.size rest in
    let judged : Judges start came.before (record_of c.in-Some.front.one) c.judge.new.self None =
    subst (λ (told : Option Why). Judges start came.before (record_of c.in-Some.front.one) c.judge.new.self told) c.in_default-2.is (c.in_ok-why.ensures start came.before came.audits) in
    lawful_there start c.args.recording.now c.loop-front.place rest more c.loop-front.auditor c.judge.new.self came
    (subst (λ (one : Lent). InFront rest (record_of one) more) c.in-End.is c.in-Some.ensures.shown.stands)
    (subst (λ (one : Lent). Judges start came.before (record_of one) c.judge.new.self None) c.in-End.is judged)

pub returns-in-End-clause-only : goal.returns-in-End-clause-only
returns-in-End-clause-only c = only_one (start_of c.args.start.now) c.args.recording.now _ (returns-in-End-clause-verdict c)

pub returns-in-End-clause-laws : goal.returns-in-End-clause-laws
returns-in-End-clause-laws c =
    let start = start_of c.args.start.now in
    let came = c.loop-front.invariant.came in
    let rest = c.loop-front.rest.now in
    let more = drop c.in-Some.front.size rest in
    let judged : Judges start came.before (record_of c.in-Some.front.one) c.judge.new.self None =
    subst (λ (told : Option Why). Judges start came.before (record_of c.in-Some.front.one) c.judge.new.self told) c.in_default-2.is (c.in_ok-why.ensures start came.before came.audits) in
    vouched_there start c.args.recording.now c.loop-front.place rest more c.loop-front.auditor c.judge.new.self came
    (subst (λ (one : Lent). InFront rest (record_of one) more) c.in-End.is c.in-Some.ensures.shown.stands)
    (subst (λ (one : Lent). Judges start came.before (record_of one) c.judge.new.self None) c.in-End.is judged)

pub loop-front-preserved : goal.loop-front-preserved
loop-front-preserved c =
    let start = start_of c.args.start.now in
    let came = c.loop-front.invariant.came in
    let rest = c.loop-front.rest.now in
    let n = c.in-Some.front.size in
    let shown = c.in-Some.ensures.shown in
    let some : 0 < n = shown.some in
    let within : n ≤ length rest = shown.within in
    let judged : Judges start came.before (record_of c.in-Some.front.one) c.judge.new.self None =
    subst (λ (told : Option Why). Judges start came.before (record_of c.in-Some.front.one) c.judge.new.self told) c.in_default-2.is (c.in_ok-why.ensures start came.before came.audits) in
    record {
      came =
          subst (λ (b : List ℕ). CameTo start c.args.recording.now (c.loop-front.place + 1) b c.judge.new.self) (sym (rest_is n rest))
          (came_on start c.args.recording.now c.loop-front.place rest (drop n rest) (record_of c.in-Some.front.one) c.loop-front.auditor c.judge.new.self came shown.stands
          (goes_on_by c.in-Some.front.one c.in_default-one.not-End) judged);
      few = omega (arith, some, within, c.loop-front.invariant.few, ap length (rest_is n rest), length-drop n rest);
    }

pub returns-clause-only : goal.returns-clause-only
returns-clause-only c =
    let start = start_of c.args.start.now in
    only_one start c.args.recording.now _ (bad_there start c.args.recording.now c.loop-front.place c.loop-front.rest.now c.loop-front.auditor c.loop-front.invariant.came (c.in_default.ensures.none refl))
