-- What becomes of endpoints and tokens: as an outcome has it, and as a deed of a connection does. No public clause needs this.
use Rattle.std.specs.Prelude.{ℕ, List, [], ◌∷◌, Option, Some, None}
use Rattle.fidl_names.specs.HandleNumber.{end_of_mount}
use Rattle.node_graph.specs.Graph.{number_of}
use Rattle.conn_rules.specs.Onward.{onward_bytes}
use Rattle.vfs_journal.specs.Outcomes.{Forwarded, Given, Outcome}
use Rattle.vfs_journal.specs.Starts.{Bound}
use Rattle.vfs_server.specs.declared.deed.Deed.{Deed}
use Rattle.vfs_server.specs.declared.deed.Deed.TheVariants as deeds
use Rattle.vfs_server.specs.Servers.{bound_with, watcher_with}

-- the endpoint that is bound, those that end, the Open that goes on, and the token that is given
pub record Effects : Type 0 where
  pub bound : Option Bound
  pub ends : List ℕ
  pub forward : Option Forwarded
  pub token : Option Given

abbrev pub effects_of : Outcome → Effects
effects_of outcome = record { bound = outcome.bound; ends = outcome.ends; forward = outcome.forward; token = outcome.token }

-- nothing becomes of any
abbrev pub no_effects : Effects
no_effects = record { bound = None; ends = []; forward = None; token = None }

-- those of a deed on the endpoint that was served at this server; a token is given on the endpoint
abbrev pub effects_done : ℕ → ℕ → Deed → Effects
effects_done endpoint server deeds.Stays = no_effects
effects_done endpoint server deeds.Ends = record no_effects { ends = endpoint ∷ [] }
effects_done endpoint server (deeds.Binds object birth) =
    record no_effects { bound = Some (bound_with server object birth) }
effects_done endpoint server (deeds.Watches object directory mask) =
    record no_effects { bound = Some (watcher_with server object (number_of directory) mask) }
effects_done endpoint server (deeds.Refuses object) = record no_effects { ends = object ∷ [] }
effects_done endpoint server (deeds.Forwards mount object flags rest) =
    record no_effects { forward = Some (record { endpoint = end_of_mount mount; bytes = onward_bytes flags rest object; object = object }) }
effects_done endpoint server (deeds.Gives token directory) =
    record no_effects { token = Some (record { token = token; endpoint = endpoint; server = server; node = number_of directory }) }
