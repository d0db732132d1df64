-- The journal that frames make, and the servings of Turns, Picks and drains.
use Rattle.std.specs.Prelude.{ℕ, zero, suc, ◌+◌, ◌==◌, Bool, false, List, [], ◌∷◌, length, find, sum_by, Option, Some, None, Ok, if◌then◌else◌, fold}
use Rattle.std.specs.Option.{option_map_or}
use Rattle.link_admission.specs.Admission.{LookUps, admission}
use Rattle.link_frames.specs.declared.kinds.FrameKind.{FrameKind}
use Rattle.link_frames.specs.declared.kinds.FrameKind.TheVariants as kind
use Rattle.link_frames.specs.declared.kinds.Mode.{Mode}
use Rattle.link_frames.specs.declared.kinds.Mode.TheVariants as mode
use Rattle.link_frames.specs.declared.kinds.Refusal.{Refusal}
use Rattle.link_frames.specs.Frames.{Frame}
use Rattle.link_frames.specs.Numbers.{word_in}
use Rattle.io_messages.specs.Asked.{Asked}
use Rattle.io_messages.specs.Asked as asks
use Rattle.io_messages.specs.declared.protocols.Protocol.TheVariants as protocol
use Rattle.path_walk.specs.Paths.{names_of}
use Rattle.vfs_journal.specs.Entries.{Sending, message, hang_up, Sent, sends, serves, refuses, Journal}
use Rattle.vfs_journal.specs.History.{History, bound_at, is_bound, waiting, standing_of, is_used, live_count}
use Rattle.vfs_journal.specs.Outcomes.{Forwarded}
use Rattle.vfs_journal.specs.Past.{history_of}
use Rattle.vfs_journal.specs.Serving.{Read, read_by, outcome_of}
use Rattle.vfs_journal.specs.Starts.{Start}
use Rattle.vfs_journal.specs.Tokens.{is_held}

-- ---- which entry is served

-- the first waiting entry of an endpoint that is bound
abbrev pub head : Start → History → ℕ → Option Sent
head start history endpoint =
    if is_bound start history endpoint then find (λ sent. sent.endpoint == endpoint) (waiting history) else None

abbrev pub is_bound_at : Start → History → ℕ → ℕ → Bool
is_bound_at start history server endpoint = option_map_or (λ bound. bound.server == server) (bound_at start history endpoint) false

-- the first waiting entry whose endpoint is bound at a server, and anywhere
abbrev pub oldest : Start → History → ℕ → Option Sent
oldest start history server = find (λ sent. is_bound_at start history server sent.endpoint) (waiting history)

abbrev pub next : Start → History → Option Sent
next start history = find (λ sent. is_bound start history sent.endpoint) (waiting history)

-- ---- serving

-- what was sent, at the next place of a journal
abbrev pub sent_behind : Journal → ℕ → Sending → Option ℕ → Sent
sent_behind journal endpoint sending origin = record { place = length journal; endpoint = endpoint; sending = sending; origin = origin }

-- a forwarded message is sent on the end of its mount
abbrev pub with_forward : ℕ → Journal → Option Forwarded → Journal
with_forward origin journal None = journal
with_forward origin journal (Some forward) =
    sends (sent_behind journal forward.endpoint (message forward.bytes (forward.object ∷ [])) (Some origin)) ∷ journal

-- the journal behind the serving of an entry
abbrev pub after_serving : Start → Journal → Sent → Journal
after_serving start journal sent =
    with_forward sent.place (serves sent ∷ journal) (outcome_of start (history_of start journal) sent).forward

-- one serving, and then on; nothing where nothing is chosen
abbrev pub serving_one : (Journal → Journal) → (Sent → Journal) → Journal → Option Sent → Journal
serving_one on by journal None = journal
serving_one on by journal (Some sent) = on (by sent)

-- at most so many servings of what is chosen, until nothing is
unfoldable pub serving : ℕ → Start → (History → Option Sent) → Journal → Journal
serving zero start choice journal = journal
serving (suc more) start choice journal =
    serving_one (serving more start choice) (after_serving start journal) journal (choice (history_of start journal))

-- a server's oldest entries, at most so many
abbrev pub turned : Start → ℕ → ℕ → Journal → Journal
turned start server times journal = serving times start (λ history. oldest start history server) journal

-- the first entry of an endpoint
abbrev pub picked : Start → ℕ → Journal → Journal
picked start endpoint journal = serving 1 start (λ history. head start history endpoint) journal

-- an Open weighs one more than its path has names, and anything else one
abbrev pub weight_of_read : Read → ℕ
weight_of_read (Ok (txid, asks.open_path path flags attributes object)) = 1 + length (names_of path)
weight_of_read _ = 1

abbrev pub weight_of : Sending → ℕ
weight_of (message bytes handles) = weight_of_read (read_by protocol.Directory bytes handles)
weight_of hang_up = 1

abbrev pub weight : History → ℕ
weight history = sum_by (λ sent. weight_of sent.sending) (waiting history)

-- everything that can be served. Each serving lowers the weight (`servings_lower_the_weight` in journal_laws), so that there are no more servings
-- than that, and nothing waits behind them (`drains_serve_all`)
abbrev pub drained : Start → Journal → Journal
drained start journal = serving (weight (history_of start journal)) start (next start) journal

-- ---- frames

-- what admission looks up in the past
abbrev pub look_ups : Start → History → LookUps
look_ups start history =
    record {
      standing = standing_of start history;
      used = is_used start history;
      holds = is_held history;
      waiting = length (waiting history);
      live = live_count start history;
      servers = length start.trees;
    }

-- an admitted frame is sent, or performed
abbrev pub admitted : Start → Journal → FrameKind → Frame → Journal
admitted start journal kind.Message frame = sends (sent_behind journal frame.endpoint (message frame.bytes frame.handles) None) ∷ journal
admitted start journal kind.Close frame = sends (sent_behind journal frame.endpoint hang_up None) ∷ journal
admitted start journal kind.Turn frame = turned start frame.endpoint (word_in frame.bytes) journal
admitted start journal kind.Pick frame = picked start frame.endpoint journal
admitted start journal kind.Refused frame = journal

abbrev pub by_refusal : Start → Journal → Frame → Option Refusal → Journal
by_refusal start journal frame (Some why) = refuses frame.endpoint why ∷ journal
by_refusal start journal frame None = admitted start journal frame.kind frame

-- the journal behind a frame
abbrev pub arrives : Start → Journal → Frame → Journal
arrives start journal frame =
    by_refusal start journal frame (admission (look_ups start (history_of start journal)) frame)

-- in mode auto a drain follows each frame
abbrev pub steps : Start → Mode → Journal → Frame → Journal
steps start mode.Auto journal frame = drained start (arrives start journal frame)
steps start mode.Given journal frame = arrives start journal frame

-- the journal of a session's frames, and that with the last drain
abbrev pub session : Start → Mode → List Frame → Journal
session start by frames = fold (steps start by) [] frames

abbrev pub ended : Start → Mode → List Frame → Journal
ended start by frames = drained start (session start by frames)
