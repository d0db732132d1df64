-- Which frames change nothing that another client could see, and what an output tells of limits.
use Rattle.std.specs.Prelude.{◌≡◌, ◌≢◌, ℕ, ◌||◌, Bool, true, false, All, AllPairs, List, flat_map, map}
use Rattle.fidl_names.specs.HandleNumber.{handle_with}
use Rattle.fidl_names.specs.StatusNumber.{number_of}
use Rattle.fidl_names.specs.declared.statuses.Status.TheVariants as status
use Rattle.fidl_wire.specs.Epitaphs.{IsEpitaph}
use Rattle.link_frames.specs.declared.kinds.FrameKind.TheVariants as kind
use Rattle.link_frames.specs.declared.kinds.Refusal.TheVariants as refusal
use Rattle.link_frames.specs.Frames.{Frame}
use Rattle.link_frames.specs.Refusals.{refused_frame}
use Rattle.io_flags.specs.Words.{creates, has}
use Rattle.io_flags.specs.declared.names.Flag.TheVariants as flag
use Rattle.io_messages.specs.Asked.{Asked}
use Rattle.io_messages.specs.Asked as asks
use Rattle.io_messages.specs.Requests.{IsAsked}

-- ---- changes

-- flags of an Open that makes a node, or cuts a file
abbrev pub makes_or_cuts : ℕ → Bool
makes_or_cuts word = creates word || (has word flag.UnnamedTemporary || has word flag.FileTruncate)

-- a request that changes a tree, that gives a token with which others do, or that is told of changes
abbrev pub is_change : Asked → Bool
is_change asks.get_token = true
is_change (asks.watch mask options watcher) = true
is_change (asks.write bytes) = true
is_change (asks.write_at bytes offset) = true
is_change (asks.resize size) = true
is_change (asks.rename src token dst) = true
is_change (asks.link src token dst) = true
is_change (asks.unlink name flags) = true
is_change (asks.open_path path word attributes object) = makes_or_cuts word
is_change _ = false

-- bytes and handles are such a request, whatever their endpoint speaks
pub record Changes (bytes handles : List ℕ) : Type 0 where
  pub txid : ℕ
  pub request : Asked
  pub reads : IsAsked bytes (map handle_with handles) txid request
  pub change : is_change request ≡ true

-- no message is one
abbrev pub ChangeNothing : List Frame → Type 0
ChangeNothing frames = All (λ frame. frame.kind ≡ kind.Message → ¬ (Changes frame.bytes frame.handles)) frames

-- ---- handles

-- each handle number stands in one frame, and once in it
abbrev pub HandlesStandOnce : List Frame → Type 0
HandlesStandOnce frames = AllPairs (λ one other. one ≢ other) (flat_map (λ frame. frame.handles) frames)

-- ---- limits

-- a limit refused a frame, or an endpoint ended for want of room
pub data TellsLimit : Frame → Type 0 where
  waits : (endpoint : ℕ) → TellsLimit (refused_frame endpoint refusal.ShouldWait)
  refuses : (endpoint : ℕ) → TellsLimit (refused_frame endpoint refusal.NoResources)
  ends : (frame : Frame) → frame.kind ≡ kind.Message → IsEpitaph frame.bytes (number_of status.NoResources) → TellsLimit frame

-- nothing that is written tells of one
abbrev pub MeetsNoLimit : List Frame → Type 0
MeetsNoLimit frames = All (λ frame. ¬ (TellsLimit frame)) frames
