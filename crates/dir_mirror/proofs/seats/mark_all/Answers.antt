use Rattle.std.proofs.Common.{◌≡◌, ◌∙◌, ap, sym, subst, Some, None, true}
use Rattle.std.specs.Prelude.{All, is_some}
use Rattle.std.specs.Str.{bytes_eq}
use Rattle.watch_events.specs.Events.{Event, event_of, left}
use Rattle.dir_mirror.specs.Seats.{after_event, after_events, change_of, is_there, seat_of}
use Rattle.dir_mirror.proofs.Changed.{after_one_more, no_change, seat_after, still_seated}
use Rattle.dir_mirror.proofs.Kept.{same_bytes}
use Rattle.dir_mirror.proofs.Walked.{all_at, walk_on, walked}
use Rattle.dir_mirror.proofs.seats.mark_all.Goals as goal

pub loop-one-preserved-in-Some-change_of : goal.loop-one-preserved-in-Some-change_of
loop-one-preserved-in-Some-change_of c =
    let e : Event = event_of c.in-Some.one in
    let before = c.loop-one.invariant in
    let change : change_of e ≡ Some c.in-Some-change_of.there = sym c.change_of.ensures ∙ c.in-Some-change_of.is in
    record {
      ordered = c.mark.ensures.ordered;
      seats = λ name. still_seated (bytes_eq e.name name) c.in-Some-change_of.there _ _ (c.mark.ensures.marked name) ∙ before.seats name;
      told = λ events rest are. walk_on (left c.loop-one.one-iterator) (left c.next.new.self) e events rest _ _ (before.told events rest are) c.in-Some.ensures.steps.0
          (λ given others split holds name.
          seat_after c.in-Some-change_of.there e name _ _ change (c.mark.ensures.marked name)
          (λ same puts. ap is_some (ap (seat_of (λ key. key.items) c.loop-one.seats) (sym (same_bytes e.name name same))) ∙ before.seats e.name
          ∙ all_at (λ one. change_of one ≡ Some true → is_some (seat_of (λ key. key.items) c.args.seats.now one.name) ≡ true) given e others
          (subst (All (λ one. change_of one ≡ Some true → is_some (seat_of (λ key. key.items) c.args.seats.now one.name) ≡ true)) split (c.requires.seated events rest are)) (change ∙ ap Some puts))
          ∙ ap (λ b. after_event b e name) (holds name) ∙ sym (after_one_more (is_there (λ key. key.items) c.args.seats.now name) given e name));
    }

pub loop-one-preserved : goal.loop-one-preserved
loop-one-preserved c =
    let e : Event = event_of c.in-Some.one in
    let before = c.loop-one.invariant in
    let none : change_of e ≡ None = sym c.change_of.ensures ∙ c.in_default.is in
    record {
      ordered = before.ordered;
      seats = before.seats;
      told = λ events rest are. walk_on (left c.loop-one.one-iterator) (left c.next.new.self) e events rest _ _ (before.told events rest are) c.in-Some.ensures.steps.0
          (λ given others split holds name. holds name ∙ sym (after_one_more (is_there (λ key. key.items) c.args.seats.now name) given e name
          ∙ no_change (after_events (is_there (λ key. key.items) c.args.seats.now name) given name) e name none));
    }

pub returns-clause-told : goal.returns-clause-told
returns-clause-told c = λ events rest are. walked (left c.loop-one.one-iterator) events rest _ (c.loop-one.invariant.told events rest are) c.in-None.ensures.steps.0
