-- What each endpoint is told where nobody changes anything: a table of who lives where that grows by frames. What a message is answered is
-- a matter of the connection that it is sent on and where that stands, and of nothing that others do meanwhile: so no turn and no journal
-- is in it.
use Rattle.std.specs.Prelude.{ℕ, zero, suc, ◌==◌, ◌&&◌, Bool, false, not, is_some, if◌then◌else◌, List, [], ◌∷◌, ◌++◌, filter, find, reverse, Option, Some, None}
use Rattle.std.specs.List.{list_all, list_any}
use Rattle.std.specs.Option.{option_map, option_map_or}
use Rattle.fidl_names.specs.HandleNumber.{is_client}
use Rattle.link_frames.specs.declared.kinds.FrameKind.{FrameKind}
use Rattle.link_frames.specs.declared.kinds.FrameKind.TheVariants as kind
use Rattle.link_frames.specs.Frames.{Frame}
use Rattle.link_admission.specs.Numbering.{among}
use Rattle.conn_rules.specs.Births.{Position, fresh}
use Rattle.vfs_journal.specs.Entries.{Sending, message, hang_up}
use Rattle.vfs_journal.specs.History.{tree_at}
use Rattle.vfs_journal.specs.Outcomes.{Forwarded, Outcome}
use Rattle.vfs_journal.specs.Output.{is_message}
use Rattle.vfs_journal.specs.Serving.{Moment, outcome_of_sending}
use Rattle.vfs_journal.specs.Session.{weight_of}
use Rattle.vfs_journal.specs.Starts.{Bound, Start}
use Rattle.vfs_journal.specs.View.{moved}

-- who lives, each with the position where it stands, and the messages that each endpoint was told
pub record Table : Type 0 where
  pub life : ℕ → Option (Bound × Position)
  pub told : ℕ → List Frame

-- whoever was just bound
abbrev pub newborn : Bound → Bound × Position
newborn bound = (bound, fresh)

-- from the start on first connections and the ends of mounts live, and nobody was told anything
abbrev pub table_at_start : Start → Table
table_at_start start =
    record {
      life = λ endpoint. option_map newborn (find (λ bound. bound.endpoint == endpoint) (start.firsts ++ start.mounts));
      told = λ endpoint. [];
    }

-- ---- one answer

-- the moment in which it is given: the tree is the start's, nothing is in use, and no token names a directory
abbrev pub still : Start → Bound × Position → Moment
still start pair =
    record {
      bound = pair.0;
      position = pair.1;
      room = record { connections = 0; watchers = 0; token = None };
      tree = tree_at start.trees pair.0.server;
      directory = λ token. None;
    }

-- the messages among frames that are on an endpoint
abbrev pub messages_on : ℕ → List Frame → List Frame
messages_on endpoint frames = filter (λ frame. is_message frame.kind && (frame.endpoint == endpoint)) frames

-- behind what was answered on an endpoint: whoever is ended lives no more, whoever is bound is newborn, and the endpoint itself stands where
-- the answer left it; and the messages are told
abbrev pub answered : Table → ℕ → Outcome → Table
answered table served outcome =
    record {
      life = λ endpoint.
          if among endpoint outcome.ends then None
          else if option_map_or (λ bound. bound.endpoint == endpoint) outcome.bound false then option_map newborn outcome.bound
          else option_map (moved served outcome.position) (table.life endpoint);
      told = λ endpoint. table.told endpoint ++ messages_on endpoint outcome.frames;
    }

-- ---- one sending

-- what goes on behind a mount goes on so, on the mount's end
abbrev pub onward : (ℕ → Sending → Table → Table) → Option Forwarded → Table → Table
onward on None table = table
onward on (Some forward) table = on forward.endpoint (message forward.bytes (forward.object ∷ [])) table

abbrev pub by_answer : (ℕ → Sending → Table → Table) → ℕ → Table → Option Outcome → Table
by_answer on endpoint table None = table
by_answer on endpoint table (Some outcome) = onward on outcome.forward (answered table endpoint outcome)

-- what whoever lives there answers
abbrev pub answer_on : Start → Table → ℕ → Sending → Option Outcome
answer_on start table endpoint sending = option_map (λ pair. outcome_of_sending (still start pair) sending) (table.life endpoint)

-- the table behind at most so many answers: the first on the endpoint that something is sent on, each further one on the end of a mount
unfoldable pub answers : ℕ → Start → ℕ → Sending → Table → Table
answers zero start endpoint sending table = table
answers (suc more) start endpoint sending table =
    by_answer (answers more start) endpoint table (answer_on start table endpoint sending)

-- all of them: over each mount an Open has fewer names left
abbrev pub sent_on : Start → ℕ → Sending → Table → Table
sent_on start endpoint sending table = answers (weight_of sending) start endpoint sending table

-- ---- frames

-- a number with which a client makes an endpoint, and no first connection
abbrev pub is_new : Start → ℕ → Bool
is_new start number = is_client number && not (list_any (λ bound. bound.endpoint == number) start.firsts)

-- a frame is heard where its endpoint is a client's and lives, and all that it carries is new
abbrev pub is_heard : Start → Table → Frame → Bool
is_heard start table frame =
    is_client frame.endpoint && (is_some (table.life frame.endpoint) && list_all (is_new start) frame.handles)

-- what a frame sends
abbrev pub sending_by : FrameKind → Frame → Option Sending
sending_by kind.Message frame = Some (message frame.bytes frame.handles)
sending_by kind.Close frame = Some hang_up
sending_by _ frame = None

-- the table behind a frame: what is heard is answered, and nothing comes of the others
abbrev pub behind_frame : Start → Frame → Table → Table
behind_frame start frame table =
    if is_heard start table frame
    then option_map_or (λ sending. sent_on start frame.endpoint sending table) (sending_by frame.kind frame) table
    else table

-- ---- the whole

-- the table behind frames, the newest first
unfoldable pub table_of : Start → List Frame → Table
table_of start [] = table_at_start start
table_of start (frame ∷ earlier) = behind_frame start frame (table_of start earlier)

-- the messages that an endpoint is told behind frames in their order
abbrev pub told : Start → List Frame → ℕ → List Frame
told start frames endpoint = (table_of start (reverse frames)).told endpoint
