-- Which protocol has which method.
use Rattle.std.specs.Prelude.{Bool, true, false, List, [], ◌∷◌}
use Rattle.fidl_names.specs.declared.methods.Method.{Method}
use Rattle.fidl_names.specs.declared.methods.Method.TheVariants as method
use Rattle.io_messages.specs.declared.protocols.Protocol.{Protocol}
use Rattle.io_messages.specs.declared.protocols.Protocol.TheVariants as protocol
use Rattle.io_messages.specs.declared.protocols.Home.{Home}
use Rattle.io_messages.specs.declared.protocols.Home.TheVariants as homes

-- where each method belongs
abbrev pub home_of : Method → Home
home_of method.Clone = homes.EveryNode
home_of method.Close = homes.EveryNode
home_of method.Query = homes.EveryNode
home_of method.GetAttributes = homes.EveryNode
home_of method.Sync = homes.EveryNode
home_of method.OpenPath = homes.Directories
home_of method.ReadDirents = homes.Directories
home_of method.Rewind = homes.Directories
home_of method.GetToken = homes.Directories
home_of method.Rename = homes.Directories
home_of method.Link = homes.Directories
home_of method.Unlink = homes.Directories
home_of method.Watch = homes.Directories
home_of method.Read = homes.Files
home_of method.ReadAt = homes.Files
home_of method.Write = homes.Files
home_of method.WriteAt = homes.Files
home_of method.Seek = homes.Files
home_of method.Resize = homes.Files
home_of method.EchoString = homes.Echoes

-- what each protocol has; a watcher's has nothing
abbrev pub has : Protocol → Home → Bool
has protocol.Directory homes.EveryNode = true
has protocol.Directory homes.Directories = true
has protocol.File homes.EveryNode = true
has protocol.File homes.Files = true
has protocol.Node homes.EveryNode = true
has protocol.Node homes.Directories = true
has protocol.Node homes.Files = true
has protocol.Echo homes.Echoes = true
has _ _ = false

abbrev pub has_method : Protocol → Method → Bool
has_method p m = has p (home_of m)

abbrev pub all_methods : List Method
all_methods =
    method.Clone ∷ method.Close ∷ method.Query ∷ method.GetAttributes ∷ method.Sync ∷ method.OpenPath ∷ method.ReadDirents ∷ method.Rewind ∷ method.GetToken ∷ method.Rename ∷ method.Link ∷ method.Unlink ∷ method.Watch ∷ method.Read ∷ method.ReadAt ∷ method.Write ∷ method.WriteAt ∷ method.Seek ∷ method.Resize ∷ method.EchoString ∷ []
