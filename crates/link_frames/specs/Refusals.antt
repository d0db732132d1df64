-- What a refusal is told as.
use Rattle.std.specs.Prelude.{ℕ, []}
use Rattle.std.specs.Int.{w32, cast_unsigned}
use Rattle.fidl_names.specs.Numbers.{number_bytes}
use Rattle.fidl_names.specs.StatusNumber.{number_of}
use Rattle.fidl_names.specs.declared.statuses.Status.{Status}
use Rattle.fidl_names.specs.declared.statuses.Status.TheVariants as status
use Rattle.link_frames.specs.Frames.{Frame, frame_with}
use Rattle.link_frames.specs.declared.kinds.FrameKind.TheVariants as kind
use Rattle.link_frames.specs.declared.kinds.Refusal.{Refusal}
use Rattle.link_frames.specs.declared.kinds.Refusal.TheVariants as refusal

-- the status of a refusal
abbrev pub status_of : Refusal → Status
status_of refusal.PeerClosed = status.PeerClosed
status_of refusal.BadHandle = status.BadHandle
status_of refusal.ShouldWait = status.ShouldWait
status_of refusal.NoResources = status.NoResources

-- the frame that answers one that is refused: on its endpoint, with the status as a number of 32 bits
abbrev pub refused_frame : ℕ → Refusal → Frame
refused_frame endpoint why = frame_with endpoint kind.Refused [] (number_bytes 4 (cast_unsigned w32 (number_of (status_of why))))
