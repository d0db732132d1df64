-- What the client of the one file sees: its Reads up to the frame that ends its endpoint, and the
-- messages that come back.
use Rattle.std.specs.Prelude.{ℕ, ◌+◌, List, [], ◌∷◌, ◌++◌, ◌==◌, length, if◌then◌else◌}
use Rattle.fidl_names.specs.declared.methods.Method.TheVariants as method
use Rattle.fidl_names.specs.declared.statuses.Status.TheVariants as status
use Rattle.fidl_names.specs.StatusNumber.{number_of}
use Rattle.fidl_wire.specs.Epitaphs.{epitaph_bytes}
use Rattle.link_frames.specs.Frames.{Frame}
use Rattle.link_frames.specs.declared.kinds.FrameKind.{FrameKind}
use Rattle.link_frames.specs.declared.kinds.FrameKind.TheVariants as kind
use Rattle.io_messages.specs.Replies.{fails, payload}
use Rattle.io_messages.specs.ReplyWriting.{reply_bytes}
use Rattle.conn_rules.specs.FileRows.{is_too_much, part_from}
use Rattle.file_session.specs.OneFile.{Meaning, Reads, Ends, meaning_of}

-- a Read that was sent: its transaction id, and for how many bytes it asks
pub record Asked : Type 0 where
  pub txid : ℕ
  pub count : ℕ

-- what a frame is for endpoint 1, while it is live: a Read, its end and what that tells, or nothing
pub data Use : Type 0 where
  Asks : Asked → Use
  EndsIt : (told : List (List ℕ)) → Use
  Idle : Use

abbrev pub use_of_message : Meaning → Use
use_of_message (Reads txid count) = Asks (record { txid = txid; count = count })
use_of_message (Ends status) = EndsIt (epitaph_bytes (number_of status) ∷ [])

-- a message without handles is heard, one with handles is refused, and a Close hangs up
abbrev pub use_by : FrameKind → List ℕ → List ℕ → Use
use_by kind.Message [] message = use_of_message (meaning_of message)
use_by kind.Message (handle ∷ handles) message = Idle
use_by kind.Close handles message = EndsIt []
use_by kind.Turn handles message = Idle
use_by kind.Pick handles message = Idle
use_by kind.Refused handles message = Idle

abbrev pub use_of : Frame → Use
use_of frame = if frame.endpoint == 1 then use_by frame.kind frame.handles frame.bytes else Idle

-- the Reads before the frame that ends the endpoint
abbrev pub reads_by : Use → List Asked → List Asked
reads_by (Asks read) later = read ∷ later
reads_by (EndsIt told) later = []
reads_by Idle later = later

abbrev pub reads_of : List Frame → List Asked
reads_of [] = []
reads_of (frame ∷ frames) = reads_by (use_of frame) (reads_of frames)

-- what that end tells
abbrev pub epitaph_by : Use → List (List ℕ) → List (List ℕ)
epitaph_by (Asks read) later = later
epitaph_by (EndsIt told) later = told
epitaph_by Idle later = later

abbrev pub epitaph_of : List Frame → List (List ℕ)
epitaph_of [] = []
epitaph_of (frame ∷ frames) = epitaph_by (use_of frame) (epitaph_of frames)

-- the messages among frames
abbrev pub message_in : FrameKind → List ℕ → List (List ℕ)
message_in kind.Message message = message ∷ []
message_in kind.Close message = []
message_in kind.Turn message = []
message_in kind.Pick message = []
message_in kind.Refused message = []

abbrev pub messages_of : List Frame → List (List ℕ)
messages_of [] = []
messages_of (frame ∷ frames) = message_in frame.kind frame.bytes ++ messages_of frames

-- the reply to a Read: so many of the file's bytes from a position on, or that it asks for too many
abbrev pub reply_to : List ℕ → ℕ → Asked → List ℕ
reply_to file position read =
    if is_too_much read.count then reply_bytes read.txid (fails method.Read status.OutOfRange)
    else reply_bytes read.txid (payload method.Read (part_from position read.count file))

-- the position that a Read leaves: behind the bytes that it gave
abbrev pub position_after : List ℕ → ℕ → Asked → ℕ
position_after file position read =
    if is_too_much read.count then position
    else position + length (part_from position read.count file)

-- the replies to Reads, each from where the one before it left the position
abbrev pub replies : List ℕ → ℕ → List Asked → List (List ℕ)
replies file position [] = []
replies file position (read ∷ reads) = reply_to file position read ∷ replies file (position_after file position read) reads

abbrev pub position_after_all : List ℕ → ℕ → List Asked → ℕ
position_after_all file position [] = position
position_after_all file position (read ∷ reads) = position_after_all file (position_after file position read) reads
