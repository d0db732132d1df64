-- The journals that frames and servings can make.
use Rattle.std.specs.Prelude.{◌≡◌, [], ◌∷◌, Some, None}
use Rattle.link_admission.specs.Admission.{admission}
use Rattle.link_frames.specs.declared.kinds.Refusal.{Refusal}
use Rattle.link_frames.specs.declared.kinds.Side.TheVariants.{ToServers}
use Rattle.link_frames.specs.declared.kinds.FrameKind.TheVariants as kind
use Rattle.link_frames.specs.Frames.{Frame, IsFrame}
use Rattle.vfs_journal.specs.Entries.{Sent, Journal, message, hang_up, sends, refuses}
use Rattle.vfs_journal.specs.Past.{history_of}
use Rattle.vfs_journal.specs.Session.{head, look_ups, sent_behind, after_serving}
use Rattle.vfs_journal.specs.Starts.{Start}

-- each step is a refused frame, an admitted message or hang-up, or the serving of the first waiting entry of a bound endpoint
pub data Lawful (start : Start) : Journal → Type 0 where
  begun : Lawful start []
  refused : (earlier : Journal) (frame : Frame) (why : Refusal) → Lawful start earlier → IsFrame ToServers frame → admission (look_ups start (history_of start earlier)) frame ≡ Some why → Lawful start (refuses frame.endpoint why ∷ earlier)
  sent : (earlier : Journal) (frame : Frame) → Lawful start earlier → IsFrame ToServers frame → frame.kind ≡ kind.Message → admission (look_ups start (history_of start earlier)) frame ≡ None → Lawful start (sends (sent_behind earlier frame.endpoint (message frame.bytes frame.handles) None) ∷ earlier)
  closed : (earlier : Journal) (frame : Frame) → Lawful start earlier → IsFrame ToServers frame → frame.kind ≡ kind.Close → admission (look_ups start (history_of start earlier)) frame ≡ None → Lawful start (sends (sent_behind earlier frame.endpoint hang_up None) ∷ earlier)
  served : (earlier : Journal) (entry : Sent) → Lawful start earlier → head start (history_of start earlier) entry.endpoint ≡ Some entry → Lawful start (after_serving start earlier entry)
