-- What the serving of an entry answers: its parts, each a function of the act's answer.
use Rattle.std.specs.Prelude.{ℕ, Bool, false, if◌then◌else◌, List, [], ◌∷◌, map, Option, Some, None}
use Rattle.fidl_names.specs.declared.methods.Method.TheVariants as method
use Rattle.fidl_names.specs.declared.statuses.Status.{Status}
use Rattle.fidl_names.specs.StatusNumber.{number_of}
use Rattle.fidl_wire.specs.Epitaphs.{epitaph_bytes}
use Rattle.link_frames.specs.Frames.{Frame, frame_with}
use Rattle.link_frames.specs.declared.kinds.FrameKind.TheVariants as kind
use Rattle.io_messages.specs.declared.protocols.Protocol.{Protocol}
use Rattle.io_messages.specs.declared.protocols.Protocol.TheVariants as protocol
use Rattle.io_messages.specs.Replies.{Answered, done, settled}
use Rattle.io_messages.specs.Replies as answered
use Rattle.io_messages.specs.ReplyWriting.{reply_bytes, reply_handles, event_bytes}
use Rattle.fidl_names.specs.HandleNumber.{number_of_handle, end_of_mount}
use Rattle.io_rights.specs.Operations.{none}
use Rattle.node_graph.specs.Tree.{Change, stay}
use Rattle.conn_rules.specs.Onward.{onward_bytes}
use Rattle.conn_rules.specs.Answers.{Answer, replies, closes, binds, watches, forwards, refuses, ends, hangs_up, silent, Happening, nothing_told, Act}
use Rattle.conn_rules.specs.Births.{Birth, Position, fresh}
use Rattle.vfs_journal.specs.Starts.{Bound}

-- whom an answer goes to: the endpoint that was served and its server and node, the transaction id of its request, and the endpoint that
-- the request carries (0 for none)
pub record Asker : Type 0 where
  pub endpoint : ℕ
  pub server : ℕ
  pub node : ℕ
  pub txid : ℕ
  pub object : ℕ

-- a message that goes on to the end of a mount, with the endpoint that it carries
pub record Forwarded : Type 0 where
  pub endpoint : ℕ
  pub bytes : List ℕ
  pub object : ℕ

-- a token that was given, with the endpoint that it was given on and the directory that it names
pub record Given : Type 0 where
  pub token : ℕ
  pub endpoint : ℕ
  pub server : ℕ
  pub node : ℕ

pub record Outcome : Type 0 where
  -- the frames of the answer
  pub frames : List Frame
  -- the position that the served endpoint has then
  pub position : Position
  -- the endpoint that is bound
  pub bound : Option Bound
  -- the server whose tree changes, how, and what watchers are told of it
  pub server : ℕ
  pub change : Change
  pub told : List Happening
  pub forward : Option Forwarded
  pub token : Option Given
  -- the endpoints that the answer ends
  pub ends : List ℕ

-- ---- frames

abbrev pub reply_frame : Asker → Answered → Frame
reply_frame asker a = frame_with asker.endpoint kind.Message (map number_of_handle (reply_handles a)) (reply_bytes asker.txid a)

abbrev pub close_frame : ℕ → Frame
close_frame endpoint = frame_with endpoint kind.Close [] []

-- an endpoint's last message, and that it is closed
abbrev pub ending : ℕ → Status → List Frame
ending endpoint status = frame_with endpoint kind.Message [] (epitaph_bytes (number_of status)) ∷ close_frame endpoint ∷ []

-- what a new connection is bound to, where it is to be told
abbrev pub announcement : ℕ → Protocol → Bool → List Frame
announcement endpoint protocol announced = if announced then frame_with endpoint kind.Message [] (event_bytes protocol) ∷ [] else []

abbrev pub frames_of : Asker → Answer → List Frame
frames_of asker (replies a) = reply_frame asker a ∷ []
frames_of asker closes = reply_frame asker (done method.Close) ∷ close_frame asker.endpoint ∷ []
frames_of asker (binds birth announced) = announcement asker.object birth.protocol announced
frames_of asker (watches mask) = reply_frame asker (settled method.Watch) ∷ []
frames_of asker (forwards mount flags rest) = []
frames_of asker (refuses status) = ending asker.object status
frames_of asker (ends status) = ending asker.endpoint status
frames_of asker hangs_up = []
frames_of asker silent = []

-- ---- the other parts

abbrev pub watcher_birth : ℕ → Birth
watcher_birth node = record { node = node; rights = none; protocol = protocol.Watcher; append = false }

abbrev pub bound_of : Asker → Answer → Option Bound
bound_of asker (binds birth announced) = Some (record { endpoint = asker.object; server = asker.server; birth = birth; mask = 0 })
bound_of asker (watches mask) = Some (record { endpoint = asker.object; server = asker.server; birth = watcher_birth asker.node; mask = mask })
bound_of asker _ = None

abbrev pub forward_of : Asker → Answer → Option Forwarded
forward_of asker (forwards mount flags rest) =
    Some (record { endpoint = end_of_mount mount; bytes = onward_bytes flags rest asker.object; object = asker.object })
forward_of asker _ = None

abbrev pub token_in : Asker → Answered → Option Given
token_in asker (answered.token number) =
    Some (record { token = number; endpoint = asker.endpoint; server = asker.server; node = asker.node })
token_in asker _ = None

abbrev pub token_of : Asker → Answer → Option Given
token_of asker (replies a) = token_in asker a
token_of asker _ = None

abbrev pub ends_of : Asker → Answer → List ℕ
ends_of asker closes = asker.endpoint ∷ []
ends_of asker (refuses status) = asker.object ∷ []
ends_of asker (ends status) = asker.endpoint ∷ []
ends_of asker hangs_up = asker.endpoint ∷ []
ends_of asker _ = []

-- the outcome of an act
abbrev pub outcome_with : Asker → Act → Outcome
outcome_with asker act =
    record {
      frames = frames_of asker act.answer;
      position = act.position;
      bound = bound_of asker act.answer;
      server = asker.server;
      change = act.change;
      told = act.told;
      forward = forward_of asker act.answer;
      token = token_of asker act.answer;
      ends = ends_of asker act.answer;
    }

-- of an entry that serves nothing
abbrev pub no_outcome : Outcome
no_outcome =
    record { frames = []; position = fresh; bound = None; server = 0; change = stay; told = nothing_told; forward = None; token = None; ends = [] }
