-- What one request does: a function of what it is served in, and the request.
use Rattle.std.specs.Prelude.{Bool, true, false, not, List, [], ◌∷◌, Option}
use Rattle.std.specs.Option.{option_map_or}
use Rattle.fidl_names.specs.declared.methods.Method.{Method}
use Rattle.fidl_names.specs.declared.methods.Method.TheVariants as method
use Rattle.fidl_names.specs.declared.statuses.Status.{Status}
use Rattle.fidl_names.specs.declared.statuses.Status.TheVariants as status
use Rattle.io_messages.specs.Asked.{Asked, method_of}
use Rattle.io_messages.specs.Asked as asks
use Rattle.io_messages.specs.declared.protocols.Home.{Home}
use Rattle.io_messages.specs.declared.protocols.Home.TheVariants as homes
use Rattle.io_messages.specs.declared.protocols.Protocol.{Protocol}
use Rattle.io_messages.specs.declared.protocols.Protocol.TheVariants as protocol
use Rattle.io_messages.specs.Protocols.{home_of}
use Rattle.io_messages.specs.Replies.{done, payload, attributes}
use Rattle.io_rights.specs.Needs.{needed_by}
use Rattle.conn_rules.specs.Births.{Birth}
use Rattle.conn_rules.specs.Answers.{Act, only, replies, closes, binds}
use Rattle.conn_rules.specs.Contexts.{Context}
use Rattle.conn_rules.specs.FileRows.{read_act, read_at_act, write_act, write_at_act, seek_act}
use Rattle.conn_rules.specs.FileRows.{resize_act}
use Rattle.conn_rules.specs.Listings.{listing_act, rewind_act}
use Rattle.conn_rules.specs.NameRows.{unlink_act, link_act, rename_act, token_act, watch_act}
use Rattle.conn_rules.specs.Nodes.{attributes_of, protocol_name}
use Rattle.conn_rules.specs.Opens.{open_act, is_full}
use Rattle.fidl_names.specs.First.{cause_if, first_of}
use Rattle.conn_rules.specs.Refusals.{unless, lacks}

-- ---- the rows of every node's methods

-- the endpoint is bound like this connection, with a fresh position
abbrev pub clone_act : Context → Act
clone_act context =
    unless (first_of (cause_if (is_full context.room) status.NoResources ∷ []))
    context.position method.Clone
    (only context.position (binds context.birth false))

-- ---- all rows

abbrev pub row_act : Context → Asked → Act
row_act context (asks.clone endpoint) = clone_act context
row_act context asks.close = only context.position closes
row_act context asks.query =
    only context.position (replies (payload method.Query (protocol_name context.birth.protocol)))
row_act context (asks.get_attributes bits) =
    only context.position
    (replies (attributes (attributes_of context.tree context.birth.node bits)))
row_act context asks.sync = only context.position (replies (done method.Sync))
row_act context (asks.open_path path flags given object) = open_act context path flags
row_act context (asks.read_dirents most) = listing_act context most
row_act context asks.rewind = rewind_act context
row_act context asks.get_token = token_act context
row_act context (asks.rename src token dst) = rename_act context src token dst
row_act context (asks.link src token dst) = link_act context src token dst
row_act context (asks.unlink name flags) = unlink_act context name flags
row_act context (asks.watch mask options watcher) = watch_act context mask options
row_act context (asks.read count) = read_act context count
row_act context (asks.read_at count offset) = read_at_act context count offset
row_act context (asks.write bytes) = write_act context bytes
row_act context (asks.write_at bytes offset) = write_at_act context bytes offset
row_act context (asks.seek origin offset) = seek_act context origin offset
row_act context (asks.resize size) = resize_act context size
row_act context (asks.echo_string value) =
    only context.position (replies (payload method.EchoString value))

-- ---- before the rows

-- where a method is at home on every node
abbrev pub is_of_every_node : Home → Bool
is_of_every_node homes.EveryNode = true
is_of_every_node _ = false

-- a node reference knows the methods of directories and files, and has those of every node alone
abbrev pub is_beyond : Protocol → Method → Bool
is_beyond protocol.Directory method = false
is_beyond protocol.File method = false
is_beyond protocol.Node method = not (is_of_every_node (home_of method))
is_beyond protocol.Echo method = false
is_beyond protocol.Watcher method = false

-- a right that the method needs is wanting. No connection to a service lacks CONNECT, without which
-- none is bound
abbrev pub lacks_right : Birth → Method → Bool
lacks_right birth method = option_map_or (lacks birth.rights) (needed_by method) false

abbrev pub method_refusals : Birth → Method → List (Option Status)
method_refusals birth method =
    cause_if (is_beyond birth.protocol method) status.BadHandle
    ∷ cause_if (lacks_right birth method) status.BadHandle
    ∷ []

-- what one request does: its method is refused, or its row says it
unfoldable pub act_of : Context → Asked → Act
act_of context request =
    unless (first_of (method_refusals context.birth (method_of request)))
    context.position (method_of request)
    (row_act context request)
