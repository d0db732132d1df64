use Rattle.std.proofs.Common.{◌∙◌, ap, sym, ◌++◌, ◌∷◌, []}
use Rattle.std.specs.List.{list_all}
use Rattle.std.specs.Prelude.{◌&&◌, ◌||◌, nat_eq, nat_le}
use Rattle.watch_events.specs.Messages.{idle}
use Rattle.watch_events.proofs.Once.{events_once}
use Rattle.watch_events.specs.Events.{Event, event_of, left}
use Rattle.dir_mirror.specs.Copies.{is_deletion}
use Rattle.dir_mirror.proofs.Walked.{all_known, all_more, apart_test, any_more, read_more, read_all}
use Rattle.dir_mirror.proofs.mirror.read_message.Goals.{else-known-via-then-known+else-whole, else-known-via-else-known}
use Rattle.dir_mirror.proofs.mirror.read_message.Goals as goal

pub loop-one-preserved : goal.loop-one-preserved
loop-one-preserved c =
    let e : Event = event_of c.in-Some.one in
    let before = c.loop-one.invariant in (
      before.0 ++ e ∷ [],
      record {
        read = read_more c.args.bytes.now (left c.loop-one.events) (left c.next.new.self) e before.0 before.1.read c.in-Some.ensures.steps.0 c.in-Some.ensures.steps.1;
        known = ap (λ b. b && nat_le e.event idle) before.1.known ∙ all_more (λ (one : Event). nat_le one.event idle) before.0 e;
        deleted = ap (λ b. b || nat_eq e.event 0) before.1.deleted ∙ any_more is_deletion before.0 e;
      },
    )

pub returns-else-known-clause-bad : goal.returns-else-known-clause-bad
returns-else-known-clause-bad c = λ none events good.
    let before = c.loop-one.invariant in
    let read = read_all c.args.bytes.now (left c.loop-one.events) before.0 before.1.read c.in_default.ensures.steps.0 in
    let same = events_once c.args.bytes.now [] (left c.loop-one.events) events before.0 good.whole read in
    elim c.else-known.branch as (λ _. ⊥) [
      | else-known-via-then-known+else-whole w ↦ apart_test (w.whole.ensures.1 (ap left c.in_default.ensures.steps.1 ∙ sym same.1)) w.if-whole.false
      | else-known-via-else-known w ↦ apart_test (before.1.known ∙ ap (λ l. list_all (λ (one : Event). nat_le one.event idle) l) (sym same.0) ∙ all_known events good.known) w.if-known.false
    ]
