-- The status with a number.
use Rattle.std.proofs.Common.{◌≡◌, ℤ, Option, Some, None, IsNone, IfSome, refl, sym, ap, ◌∙◌}
use Rattle.std.specs.Ordering.{int_eq}
use Rattle.std.specs.Cmp.{signed_Decides}
use Rattle.fidl_names.specs.declared.statuses.Status.{Status}
use Rattle.fidl_names.specs.declared.statuses.Status.TheVariants as status
use Rattle.fidl_names.specs.StatusNumber.{number_of}
use Rattle.io_replies.specs.Reading.{status_with, all_statuses}
use Rattle.io_messages.proofs.Known.{find_none}

again : (s : Status) → status_with (number_of s) ≡ Some s
unfolding status_with
again status.Ok = refl
again status.Internal = refl
again status.NotSupported = refl
again status.NoResources = refl
again status.NoMemory = refl
again status.InvalidArgs = refl
again status.BadHandle = refl
again status.WrongType = refl
again status.OutOfRange = refl
again status.BufferTooSmall = refl
again status.BadState = refl
again status.ShouldWait = refl
again status.PeerClosed = refl
again status.NotFound = refl
again status.AlreadyExists = refl
again status.AccessDenied = refl
again status.NotDir = refl
again status.NotFile = refl
again status.FileBig = refl
again status.NoSpace = refl
again status.NotEmpty = refl

-- each status has its own number
pub status_with-found : (z : ℤ) (s : Status) → number_of s ≡ z → status_with z ≡ Some s
status_with-found z s h = sym (ap status_with h) ∙ again s

pub status_with-none : (z : ℤ) → ((s : Status) → number_of s ≡ z → ⊥) → status_with z ≡ None
unfolding status_with
status_with-none z none = find_none (λ s. int_eq (number_of s) z) all_statuses (λ s h. none s ((signed_Decides (number_of s) z).0 h))

-- what says which status has the number is the status with it
pub status_with-is : (o : Option Status) (z : ℤ) → IfSome o (λ s. number_of s ≡ z) → (IsNone o → (s : Status) → number_of s ≡ z → ⊥) → o ≡ status_with z
status_with-is None z found none = sym (status_with-none z (none refl))
status_with-is (Some s) z found none = sym (status_with-found z s found)
