use Rattle.std.proofs.Common.{◌≡◌, ◌∙◌, ◌==◌, ℕ, ◌<◌, Bool, true, false, nat_le, Option, Some, None, ap, sym, arith}
use Rattle.std.specs.Prelude.{if◌then◌else◌}
use Rattle.std.proofs.lemmas.Bool.Decides.{nat_tests}
use Rattle.fidl_names.specs.declared.limits.TheConstants as limit
use Rattle.link_frames.specs.declared.kinds.FrameKind.{FrameKind}
use Rattle.link_frames.specs.declared.kinds.FrameReason.{FrameReason}
use Rattle.link_frames.specs.declared.kinds.FrameReason.TheVariants as reason
use Rattle.link_frames.specs.Frames.{keeps_shape, reason_of}
use Rattle.link_frames.proofs.fixed.reason_of.Goals as goal

abbrev by_tests : FrameKind → ℕ → ℕ → Bool → Bool → Option FrameReason
by_tests kind handles bytes zero few =
    if zero
    then (if few
    then (if nat_le bytes limit.MAX_BYTES
    then (if keeps_shape kind handles bytes then None else Some reason.Shape)
    else Some reason.Bytes)
    else Some reason.Handles)
    else Some reason.Zero

too_many : (n : ℕ) → limit.MAX_HANDLES < n → nat_le n limit.MAX_HANDLES ≡ false
too_many n many = grind (arith, nat_tests)

told_handles : (given : Option FrameKind) (kind : FrameKind) (field handles bytes : ℕ) → given ≡ Some kind → field ≡ 0 → limit.MAX_HANDLES < handles → Some reason.Handles ≡ reason_of given field handles bytes
told_handles given kind field handles bytes is none many =
    sym (ap (λ (o : Option FrameKind). reason_of o field handles bytes) is
    ∙ ap (λ b. by_tests kind handles bytes b (nat_le handles limit.MAX_HANDLES)) (ap (λ (n : ℕ). n == 0) none)
    ∙ ap (by_tests kind handles bytes true) (too_many handles many))

pub returns-then-handles-gt-MAX_HANDLES : goal.returns-then-handles-gt-MAX_HANDLES
returns-then-handles-gt-MAX_HANDLES c =
    told_handles c.args.kind c.in-Some.kind c.args.zero c.args.handles c.args.bytes c.in-Some.is c.if-not-is_zero.false c.if-handles-gt-MAX_HANDLES.true
