use Rattle.std.proofs.Common.{◌∙◌, ℕ, ◌≤◌, ◌++◌, List, length, refl, sym, ap, subst}
use Rattle.fidl_names.specs.declared.limits.TheConstants as limit
use Rattle.message_queues.proofs.parcel.Parcel.of_message.Goals as goal

pub invariant_of-result : goal.invariant_of-result
invariant_of-result c = (
  c.in_ok-handles.ensures.by_number,
  subst (λ (bytes : List ℕ). length bytes ≤ limit.MAX_BYTES) (sym (c.in_ok-extend_from_slice.ensures.items ∙ ap (λ (front : List ℕ). front ++ c.args.frame.bytes.now) c.clear.ensures.items)) c.requires.short,
)

pub returns : goal.returns
returns c = record { message = rw (c.in_ok-extend_from_slice.ensures.items, c.clear.ensures.items, c.in_ok-handles.ensures.numbers) refl }
