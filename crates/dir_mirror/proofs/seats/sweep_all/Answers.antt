use Rattle.std.proofs.Common.{◌∙◌, ap, sym, Some}
use Rattle.dir_mirror.specs.Seats.{names_of}
use Rattle.dir_mirror.proofs.Kept.{names_without_seat}
use Rattle.dir_mirror.proofs.seats.sweep_all.Goals as goal

pub loop-one-preserved-else-get : goal.loop-one-preserved-else-get
loop-one-preserved-else-get c = record {
  ordered = c.remove.ensures.ordered;
  names = ap (names_of (λ key. key.items)) c.remove.ensures.entries
      ∙ names_without_seat (λ key. key.items) _ c.loop-one.seats.entries (sym c.in-Some-false.ensures.value ∙ ap Some c.in-Some-false.field-0-test)
      ∙ c.loop-one.invariant.names;
}
