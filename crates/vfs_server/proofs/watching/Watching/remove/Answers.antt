use Rattle.std.proofs.Common.{◌≡◌, ◌∙◌, None, ap, subst, sym}
use Rattle.watch_events.specs.Watching.{Removes}
use Rattle.vfs_server.specs.Seats.{AreByDirectory, Seats, seat_at, without}
use Rattle.vfs_server.proofs.SeatLists.{by_directory_less}
use Rattle.vfs_server.proofs.watching.Watching.remove.Goals as goal

pub number-requires : goal.number-requires
number-requires c = c.requires.kept c.in_ok-seat.seat (ap (λ (seats : Seats). seat_at seats c.args.endpoint) (sym c.self.view_is) ∙ sym c.shift_remove.ensures.value ∙ c.in_ok-seat.was)

pub invariant_of-self-2 : goal.invariant_of-self-2
invariant_of-self-2 c =
    let gone : seat_at (without c.args.endpoint c.self.inside.seats.entries) c.args.endpoint ≡ None =
    ap (λ (seats : Seats). seat_at seats c.args.endpoint) (sym c.shift_remove.ensures.entries) ∙ c.shift_remove.ensures.updates.1 in
    subst (λ (seats : Seats). AreByDirectory seats c.remove.new.self) (sym c.shift_remove.ensures.entries)
    (by_directory_less c.self.inside.seats.entries c.self.inside.watchers c.self.invariant c.args.endpoint c.in_ok-seat.seat c.remove.new.self (sym c.shift_remove.ensures.value ∙ c.in_ok-seat.was) gone
    (subst (λ number. Removes c.self.inside.watchers number c.args.endpoint c.remove.new.self) c.number.ensures c.remove.ensures.removed))
