-- What was sent, as it is kept while it waits.
use Rattle.std.specs.Prelude.{◌≡◌, ◌≤◌, ℕ, List, length}
use Rattle.fidl_names.specs.declared.limits.TheConstants as limit
use Rattle.fidl_names.specs.declared.methods.Handle.{Handle}
use Rattle.link_frames.specs.Frames.{Frame}
use Rattle.link_frames.specs.declared.kinds.FrameKind.{FrameKind}
use Rattle.link_frames.specs.declared.kinds.FrameKind.TheVariants as kind
use Rattle.vfs_journal.specs.Entries.{Sending, message, hang_up}
use Rattle.vfs_journal.specs.Handles.{AreByNumber, numbers_of}
use Rattle.message_queues.specs.declared.parcel.Content.{Content}
use Rattle.message_queues.specs.declared.parcel.Content.TheVariants as content
use Rattle.message_queues.specs.declared.lent.LentContent.{LentContent}
use Rattle.message_queues.specs.declared.lent.LentContent.TheVariants as lent

-- what is kept, with the handles as their numbers
abbrev pub sending_of : Content → Sending
sending_of (content.Message bytes handles) = message bytes.items (numbers_of handles.items)
sending_of content.HangUp = hang_up

-- each handle that is kept is the one that its number stands for, and the bytes are no more than a message has
abbrev pub IsSendable : Content → Type 0
IsSendable (content.Message bytes handles) = AreByNumber handles.items × (length bytes.items ≤ limit.MAX_BYTES)
IsSendable content.HangUp = Unit {0}

-- the same of what is lent
abbrev pub lent_sending : LentContent → Sending
lent_sending (lent.Message bytes handles) = message bytes.now (numbers_of handles.now)
lent_sending lent.HangUp = hang_up

abbrev pub IsLendable : LentContent → Type 0
IsLendable (lent.Message bytes handles) = AreByNumber handles.now × (length bytes.now ≤ limit.MAX_BYTES)
IsLendable lent.HangUp = Unit {0}

-- what a frame of this kind sends: its message, or that its client hung up
abbrev pub sent_by : FrameKind → Frame → Sending
sent_by kind.Close frame = hang_up
sent_by _ frame = message frame.bytes frame.handles

-- a message with these bytes and handles was sent
abbrev pub IsMessage : Sending → List ℕ → List Handle → Type 0
IsMessage sending bytes handles = (sending ≡ message bytes (numbers_of handles)) × AreByNumber handles
