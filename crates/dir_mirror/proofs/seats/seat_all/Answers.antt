use Rattle.std.proofs.Common.{◌≡◌, ◌∙◌, ap, sym, Some, true, [], ◌∷◌}
use Rattle.std.specs.Prelude.{is_some}
use Rattle.std.proofs.lemmas.List.Elements.{All-nil, All-cons, All-append, All-weaker}
use Rattle.watch_events.specs.Events.{Event, event_of, left}
use Rattle.dir_mirror.specs.Seats.{change_of, seat_of}
use Rattle.std.specs.Option.{option_eq}
use Rattle.std.specs.Bool.{beq}
use Rattle.dir_mirror.proofs.Walked.{apart_test, walk_on, walked}
use Rattle.dir_mirror.proofs.seats.seat_all.Goals as goal

pub returns-in_err-seat-clause-there : goal.returns-in_err-seat-clause-there
returns-in_err-seat-clause-there c = λ name. c.seat.ensures.there name ∙ c.loop-one.invariant.there name

pub loop-one-preserved-in-Continue-1 : goal.loop-one-preserved-in-Continue-1
loop-one-preserved-in-Continue-1 c =
    let e : Event = event_of c.in-Some.one in
    let before = c.loop-one.invariant in
    record {
      ordered = c.seat.ensures.ordered;
      names = c.seat.ensures.names ∙ before.names;
      there = λ name. c.seat.ensures.there name ∙ before.there name;
      seated = λ events rest are. walk_on (left c.loop-one.one-iterator) (left c.next.new.self) e events rest _ _ (before.seated events rest are) c.in-Some.ensures.steps.0
          (λ given others split holds. All-append (λ (one : Event). change_of one ≡ Some true → is_some (seat_of (λ key. key.items) c.seat.new.seats one.name) ≡ true) given (e ∷ [])
          (All-weaker (λ (one : Event). change_of one ≡ Some true → is_some (seat_of (λ key. key.items) c.loop-one.seats one.name) ≡ true) (λ (one : Event). change_of one ≡ Some true → is_some (seat_of (λ key. key.items) c.seat.new.seats one.name) ≡ true) (λ one h puts. c.seat.ensures.kept one.name (h puts)) given holds)
          (All-cons (λ (one : Event). change_of one ≡ Some true → is_some (seat_of (λ key. key.items) c.seat.new.seats one.name) ≡ true) e [] (λ _. c.in_ok-seat.ensures.seated) (All-nil (λ (one : Event). change_of one ≡ Some true → is_some (seat_of (λ key. key.items) c.seat.new.seats one.name) ≡ true))));
    }

pub loop-one-preserved : goal.loop-one-preserved
loop-one-preserved c =
    let e : Event = event_of c.in-Some.one in
    let before = c.loop-one.invariant in
    record {
      ordered = before.ordered;
      names = before.names;
      there = before.there;
      seated = λ events rest are. walk_on (left c.loop-one.one-iterator) (left c.next.new.self) e events rest _ _ (before.seated events rest are) c.in-Some.ensures.steps.0
          (λ given others split holds. All-append (λ (one : Event). change_of one ≡ Some true → is_some (seat_of (λ key. key.items) c.loop-one.seats one.name) ≡ true) given (e ∷ []) holds
          (All-cons (λ (one : Event). change_of one ≡ Some true → is_some (seat_of (λ key. key.items) c.loop-one.seats one.name) ≡ true) e [] (λ puts. absurd (apart_test (ap (λ o. option_eq beq o (Some true)) (c.change_of.ensures ∙ puts)) (sym c.eq.ensures ∙ c.if-eq.false))) (All-nil (λ (one : Event). change_of one ≡ Some true → is_some (seat_of (λ key. key.items) c.loop-one.seats one.name) ≡ true))));
    }

pub returns-clause-seated : goal.returns-clause-seated
returns-clause-seated c = λ events rest are. walked (left c.loop-one.one-iterator) events rest _ (c.loop-one.invariant.seated events rest are) c.in-None.ensures.steps.0
