-- The serving of a message on an endpoint that is bound at a server.
use Rattle.std.specs.Prelude.{◌≡◌, ℕ, ◌==◌, ◌+◌, ◌<◌, ◌≤◌, ◌^◌, ◌++◌, true, if◌then◌else◌, List, [], length, filter, count_by, option_to_list, Option, Some, None}
use Rattle.std.specs.FinMap as finite
use Rattle.std.specs.Option.{option_map, option_map_or}
use Rattle.fidl_names.specs.declared.limits.TheConstants as limit
use Rattle.link_frames.specs.Frames.{Frame, spellings}
use Rattle.link_admission.specs.Numbering.{among}
use Rattle.node_graph.specs.declared.nodes.NodeKind.TheVariants.{Mount}
use Rattle.node_graph.specs.Graph.{Leads, StandsFor, holds_at}
use Rattle.node_graph.specs.Tree.{Tree}
use Rattle.conn_rules.specs.declared.births.Room.{Room}
use Rattle.conn_rules.specs.Births.{Position, fresh}
use Rattle.conn_rules.specs.Nodes.{kind_here}
use Rattle.vfs_journal.specs.Entries.{Sending, message}
use Rattle.vfs_journal.specs.Handles.{numbers_of}
use Rattle.vfs_journal.specs.Outcomes.{Given, Outcome}
use Rattle.vfs_journal.specs.Serving.{Moment}
use Rattle.vfs_journal.specs.Starts.{Bound}
use Rattle.vfs_journal.specs.View.{moved}
use Rattle.vfs_journal.specs.Watching.{first_frames, told_frames}
use Rattle.vfs_server.specs.declared.fate.Fate.{Fate}
use Rattle.vfs_server.specs.declared.message.Message.{Message}
use Rattle.vfs_server.specs.declared.fate.Fate.TheVariants as fates
use Rattle.vfs_server.specs.Binding.{watching_behind}
use Rattle.vfs_server.specs.Fates.{numbers_in, numbers_told}
use Rattle.vfs_server.specs.Servers.{Server, in_use, named, seen}

-- ---- moments

-- what is in use at a server and at one of its directories, where this is the next token
abbrev pub room_at : Server → ℕ → Option ℕ → Room
room_at server node token =
    record {
      connections = in_use server;
      watchers = length (filter (λ bound. bound.birth.node == node) server.watchers);
      token = token;
    }

-- a moment of the serving of what has these handles on an endpoint that is bound there, where this is the next token
pub record IsMomentOf (server : Server) (endpoint : ℕ) (token : Option ℕ) (handles : List ℕ) (moment : Moment) : Type 0 where
  pub bound : seen server endpoint ≡ Some (moment.bound, moment.position)
  pub room : moment.room ≡ room_at server moment.bound.birth.node token
  pub tree : StandsFor server.graph moment.tree
  -- a handle that comes with it names the directory that it names here
  pub directory : (number : ℕ) → among number handles ≡ true → moment.directory number ≡ named server number

-- a message as a sending
abbrev pub message_of : Message → Sending
message_of sent = message sent.bytes.now (numbers_of sent.handles.now)

-- a server can take what has these handles on an endpoint that is bound there, where this is the next token: no endpoint that comes with it
-- is bound there, and the token names nothing there and has room
pub record CanTake (server : Server) (endpoint : ℕ) (token : Option ℕ) (handles : List ℕ) : Type 0 where
  pub moment : (moment : Moment) × IsMomentOf server endpoint token handles moment
  pub made : server.graph.made < 2 ^ 63
  pub unbound : (number : ℕ) → among number handles ≡ true → number < limit.FIRST_TOKEN → seen server number ≡ None
  pub unnamed : (next : ℕ) → token ≡ Some next → named server next ≡ None
  pub room : (next : ℕ) → token ≡ Some next → finite.len server.tokens < limit.MAX_TOKENS

-- ---- servings

-- a node of the tree is this mount
abbrev pub HasMount : Tree → ℕ → Type 0
HasMount tree mount = (node : ℕ) × (kind_here tree node ≡ Mount mount)

-- the frames of an answer, what a new watcher is told first, and what the watchers are told of the change
abbrev pub frames_here : Moment → List Bound → Outcome → List Frame
frames_here moment watchers outcome =
    outcome.frames
    ++ option_map_or (λ bound. first_frames moment.tree bound) outcome.bound []
    ++ told_frames watchers moment.bound.server outcome.told

-- what an endpoint is bound to, where this is bound newly, if anything is, and that was seen of it before
abbrev pub newly_seen : Option Bound → ℕ → Option (Bound × Position) → Option (Bound × Position)
newly_seen None endpoint before = before
newly_seen (Some newest) endpoint before = if endpoint == newest.endpoint then Some (newest, fresh) else before

-- the directory that a token names, where this is given newly, if one is, and it named that before
abbrev pub newly_named : Option Given → ℕ → Option ℕ → Option ℕ
newly_named None token before = before
newly_named (Some given) token before = if token == given.token then Some given.node else before

-- how often a node is newly held: once by who is bound to it, and once by the token that names it
abbrev pub newly_held : Outcome → ℕ → ℕ
newly_held outcome number =
    count_by (λ bound. bound.birth.node == number) (option_to_list outcome.bound)
    + count_by (λ given. given.node == number) (option_to_list outcome.token)

-- a server does what an outcome says: it writes its frames, changes the tree, moves the endpoint that it serves, binds the one that is to be
-- bound, behind whoever watches if it is to watch, lets the token that is given name its directory, holds both nodes, and changes nothing else;
-- and it tells what became of endpoints and tokens
pub record Serves (moment : Moment) (outcome : Outcome) (fate : Fate) (old new : Server) (before after : List ℕ) : Type 0 where
  pub frames : after ≡ before ++ spellings (frames_here moment old.watchers outcome)
  pub tells : numbers_in outcome ≡ numbers_told moment.bound.endpoint fate
  pub index : new.index ≡ old.index
  pub bound : (endpoint : ℕ) →
      seen new endpoint ≡ newly_seen outcome.bound endpoint (option_map (moved moment.bound.endpoint outcome.position) (seen old endpoint))
  pub count : in_use new ≡ in_use old + length (option_to_list outcome.bound)
  pub watchers : new.watchers ≡ option_map_or (watching_behind old.watchers) outcome.bound old.watchers
  pub tokens : (token : ℕ) → named new token ≡ newly_named outcome.token token (named old token)
  pub tree : Leads old.graph new.graph outcome.change
  pub holds : (number : ℕ) → holds_at new.graph number ≡ holds_at old.graph number + newly_held outcome number
  -- who is bound is bound here, and a token is given here, on the endpoint that is served
  pub here : (bound : Bound) → outcome.bound ≡ Some bound → bound.server ≡ moment.bound.server
  pub given : (given : Given) → outcome.token ≡ Some given → (given.server ≡ moment.bound.server) × (given.endpoint ≡ moment.bound.endpoint)
  -- an Open goes on behind a mount of the tree
  pub mounted : (mount object flags : ℕ) (rest : List (List ℕ)) → fate ≡ fates.Forwards mount object flags rest → HasMount moment.tree mount
