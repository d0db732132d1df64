-- The rows of the methods that change, name or watch what is in a directory.
use Rattle.std.specs.Prelude.{ℕ, ◌==◌, ◌||◌, Bool, not, nat_lt, nat_le, is_some, is_none}
use Rattle.std.specs.Prelude.{if◌then◌else◌, List, [], ◌∷◌, Option, Some, None}
use Rattle.fidl_names.specs.declared.methods.Method.TheVariants as method
use Rattle.fidl_names.specs.declared.limits.TheConstants as limit
use Rattle.fidl_names.specs.declared.statuses.Status.{Status}
use Rattle.fidl_names.specs.declared.statuses.Status.TheVariants as status
use Rattle.io_messages.specs.Replies.{done, settled, token}
use Rattle.node_graph.specs.Refusals.{directory_behind, is_same_name, link_change, link_refusal}
use Rattle.node_graph.specs.Refusals.{rename_change, rename_refusal, unlink_refusal}
pub use Rattle.node_graph.specs.Tree.{name_in}
use Rattle.node_graph.specs.Tree.{Tree, EdgeKey, cut}
use Rattle.path_walk.specs.Names.{name_fault}
use Rattle.conn_rules.specs.declared.births.Room.{Room}
use Rattle.conn_rules.specs.Contexts.{Context}
use Rattle.conn_rules.specs.Answers.{Answer, Act, Happening, added, only, failure_of, gone}
use Rattle.conn_rules.specs.Answers.{nothing_told, removed, replies, watches}
use Rattle.conn_rules.specs.Opens.{is_full}
use Rattle.fidl_names.specs.First.{cause_if, first_of}
use Rattle.conn_rules.specs.Refusals.{as_status, unless}

abbrev pub is_bad_name : List ℕ → Bool
is_bad_name name = is_some (name_fault name)

-- ---- Unlink

-- bit 0 asks for a directory; no other bit has a meaning
abbrev pub unlink_refusals : Tree → EdgeKey → ℕ → List (Option Status)
unlink_refusals tree key flags =
    cause_if (is_bad_name key.name || nat_lt 1 flags) status.InvalidArgs
    ∷ as_status (unlink_refusal tree key (flags == 1)) ∷ []

-- the name is gone
abbrev pub unlinked : Context → EdgeKey → Act
unlinked context key =
    record {
      answer = replies (done method.Unlink);
      position = context.position;
      change = cut key;
      told = removed key ∷ gone (directory_behind context.tree key);
    }

abbrev pub unlink_act : Context → List ℕ → ℕ → Act
unlink_act context name flags =
    unless (first_of (unlink_refusals context.tree (name_in context.birth.node name) flags))
    context.position method.Unlink
    (unlinked context (name_in context.birth.node name))

-- ---- Link

-- of Link and Rename alike
abbrev pub two_names_refusal : List ℕ → List ℕ → Option ℕ → Option Status
two_names_refusal src dst target =
    first_of (cause_if (is_bad_name src || is_bad_name dst) status.InvalidArgs
    ∷ cause_if (is_none target) status.NotFound ∷ [])

-- the node of the first name has the second name too, with the same mask
abbrev pub linked : Context → EdgeKey → EdgeKey → Act
linked context from to =
    record {
      answer = replies (settled method.Link);
      position = context.position;
      change = link_change context.tree from to;
      told = added to ∷ [];
    }

abbrev pub link_into : Context → List ℕ → List ℕ → Option ℕ → Act
link_into context src dst None = only context.position (failure_of method.Link status.NotFound)
link_into context src dst (Some target) =
    unless
    (as_status (link_refusal context.tree (name_in context.birth.node src) (name_in target dst)))
    context.position method.Link
    (linked context (name_in context.birth.node src) (name_in target dst))

-- the target is the directory of the token, where that is of this server
abbrev pub link_act : Context → List ℕ → ℕ → List ℕ → Act
link_act context src number dst =
    unless (two_names_refusal src dst (context.directory number)) context.position method.Link
    (link_into context src dst (context.directory number))

-- ---- Rename

-- a name that is to be what it is tells nothing
abbrev pub rename_told : Tree → EdgeKey → EdgeKey → List Happening
rename_told tree from to =
    if is_same_name from to then nothing_told
    else removed from ∷ added to ∷ gone (directory_behind tree to)

-- the name moves, with its mask, and takes the place of the one that was there
abbrev pub renamed : Context → EdgeKey → EdgeKey → Act
renamed context from to =
    record {
      answer = replies (done method.Rename);
      position = context.position;
      change = rename_change from to;
      told = rename_told context.tree from to;
    }

abbrev pub rename_into : Context → List ℕ → List ℕ → Option ℕ → Act
rename_into context src dst None = only context.position (failure_of method.Rename status.NotFound)
rename_into context src dst (Some target) =
    unless
    (as_status (rename_refusal context.tree (name_in context.birth.node src) (name_in target dst)))
    context.position method.Rename
    (renamed context (name_in context.birth.node src) (name_in target dst))

abbrev pub rename_act : Context → List ℕ → ℕ → List ℕ → Act
rename_act context src number dst =
    unless (two_names_refusal src dst (context.directory number)) context.position method.Rename
    (rename_into context src dst (context.directory number))

-- ---- tokens and watchers

-- the next token, which then names this directory
abbrev pub token_answer : Option ℕ → Answer
token_answer None = failure_of method.GetToken status.NoResources
token_answer (Some number) = replies (token number)

abbrev pub token_act : Context → Act
token_act context = only context.position (token_answer context.room.token)

-- the five events that a watcher can ask for, by their bits: DELETED, ADDED, REMOVED, EXISTING,
-- IDLE
abbrev pub every_event : ℕ
every_event = 31

abbrev pub watch_refusals : Room → ℕ → ℕ → List (Option Status)
watch_refusals room mask options =
    cause_if ((mask == 0) || (nat_lt every_event mask || not (options == 0))) status.InvalidArgs
    ∷ cause_if (nat_le limit.MAX_WATCHERS room.watchers || is_full room) status.NoResources
    ∷ []

abbrev pub watch_act : Context → ℕ → ℕ → Act
watch_act context mask options =
    unless (first_of (watch_refusals context.room mask options)) context.position method.Watch
    (only context.position (watches mask))
