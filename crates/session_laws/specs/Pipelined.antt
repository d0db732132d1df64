-- What was sent on an endpoint and which replies were written on it, looking back.
use Rattle.std.specs.Prelude.{◌≡◌, ℕ, ◌==◌, ◌&&◌, Bool, not, List, [], ◌∷◌, filter, filter_map, find, reverse, Option}
use Rattle.std.specs.List.{list_any}
use Rattle.std.specs.Option.{option_map_or}
use Rattle.link_frames.specs.Frames.{Frame}
use Rattle.link_frames.specs.Numbers.{word_in}
use Rattle.fidl_names.specs.declared.statuses.Status.{Status}
use Rattle.vfs_journal.specs.Entries.{Sent, Sending, message, hang_up}
use Rattle.vfs_journal.specs.History.{Event, History, all_sent, births, is_watcher, served_by, serves_place, was_served}
use Rattle.vfs_journal.specs.Outcomes.{ending}
use Rattle.vfs_journal.specs.Output.{frames_of, is_message}
use Rattle.vfs_journal.specs.Starts.{Start}

-- ---- what was sent on an endpoint

abbrev pub is_on : ℕ → Sent → Bool
is_on endpoint sent = sent.endpoint == endpoint

-- what was admitted on an endpoint, messages and a hang-up, in order of sending
abbrev pub sent_on : History → ℕ → List Sent
sent_on history endpoint = filter (is_on endpoint) (all_sent history)

-- what was served on it, in order of serving
abbrev pub served_on : History → ℕ → List Sent
served_on history endpoint = filter (is_on endpoint) (filter_map (λ event. served_by event.entry) (reverse history))

-- what was admitted on it and not served, in order of sending
abbrev pub unserved_on : History → ℕ → List Sent
unserved_on history endpoint = filter (λ sent. not (was_served history sent)) (sent_on history endpoint)

-- it was bound as a watcher's
abbrev pub was_watcher : Start → History → ℕ → Bool
was_watcher start history endpoint = list_any (λ bound. (bound.endpoint == endpoint) && is_watcher bound.birth.protocol) (births start history)

-- ---- which frames are replies

-- the transaction id of a message: the number in its first four bytes
abbrev pub txid_in : List ℕ → ℕ
txid_in bytes = word_in bytes

abbrev pub txid_of : Sending → ℕ
txid_of (message bytes handles) = txid_in bytes
txid_of hang_up = 0

-- a message with a transaction id other than 0 asks for a reply
abbrev pub is_two_way : Sending → Bool
is_two_way sending = not (txid_of sending == 0)

-- a reply is a Message with a transaction id other than 0. An epitaph has none, nor has the announcement of what an endpoint was bound to,
-- and Close and Refused frames are no messages. What a watcher is told has no header at all, so that this tells replies only on endpoints
-- that are no watcher's.
abbrev pub is_reply_on : ℕ → Frame → Bool
is_reply_on endpoint frame = is_message frame.kind && ((frame.endpoint == endpoint) && not (txid_in frame.bytes == 0))

-- the replies that were written on an endpoint: those among all the frames of the output, in order
abbrev pub replies_on : Start → History → ℕ → List Frame
replies_on start history endpoint = filter (is_reply_on endpoint) (frames_of start history)

-- ---- what was answered

-- the serving of what was sent, if it was served
abbrev pub serving_of : History → Sent → Option Event
serving_of history sent = find (serves_place sent.place) history

-- the frames of its answer; none where it wasn't served
abbrev pub answer_to : History → Sent → List Frame
answer_to history sent = option_map_or (λ event. event.outcome.frames) (serving_of history sent) []

-- the replies among them
abbrev pub replies_to : History → Sent → List Frame
replies_to history sent = filter (is_reply_on sent.endpoint) (answer_to history sent)

-- the answer to it was that its endpoint ended, with a status
abbrev pub EndsByEpitaph : History → Sent → Type 0
EndsByEpitaph history sent = (status : Status) × (answer_to history sent ≡ ending sent.endpoint status)

-- it has one reply, with its own transaction id
abbrev pub HasOneReply : History → Sent → Type 0
HasOneReply history sent = (reply : Frame) × (replies_to history sent ≡ reply ∷ []) × (txid_in reply.bytes ≡ txid_of sent.sending)
