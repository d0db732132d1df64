use Rattle.std.proofs.Common.{◌≡◌, List}
use Rattle.std.specs.Prelude.{nat_le}
use Rattle.std.specs.List.{list_all, list_any}
use Rattle.watch_events.specs.Events.{Event, left}
use Rattle.watch_events.specs.Messages.{idle}
use Rattle.dir_mirror.specs.Copies.{is_deletion}
use Rattle.dir_mirror.specs.Seats.{HasRead}
use Rattle.dir_mirror.proofs.mirror.read_message.Given as goal

abbrev pub invariant-loop-one : goal.invariant-loop-one
invariant-loop-one l =
    (given : List Event) × record {
      read : HasRead l.bytes (left l.events) given;
      known : l.known ≡ list_all (λ one. nat_le one.event idle) given;
      deleted : l.deleted ≡ list_any is_deletion given;
    }
