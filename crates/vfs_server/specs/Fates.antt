-- What becomes of endpoints and tokens by a serving, in numbers: as an outcome has it, and as a fate tells it.
use Rattle.std.specs.Prelude.{ℕ, List, [], ◌∷◌, Option, Some, None}
use Rattle.std.specs.Option.{option_map}
use Rattle.fidl_names.specs.HandleNumber.{end_of_mount}
use Rattle.conn_rules.specs.Onward.{onward_bytes}
use Rattle.vfs_journal.specs.Outcomes.{Forwarded, Outcome}
use Rattle.vfs_server.specs.declared.fate.Fate.{Fate}
use Rattle.vfs_server.specs.declared.fate.Fate.TheVariants as fates

-- the endpoint that is bound, those that end, the message that goes on, and the token that is given
pub record Numbers : Type 0 where
  pub bound : Option ℕ
  pub ends : List ℕ
  pub forward : Option Forwarded
  pub token : Option ℕ

abbrev pub numbers_in : Outcome → Numbers
numbers_in outcome =
    record {
      bound = option_map (λ bound. bound.endpoint) outcome.bound;
      ends = outcome.ends;
      forward = outcome.forward;
      token = option_map (λ given. given.token) outcome.token;
    }

abbrev pub no_numbers : Numbers
no_numbers = record { bound = None; ends = []; forward = None; token = None }

-- those that a fate tells of a serving on this endpoint
abbrev pub numbers_told : ℕ → Fate → Numbers
numbers_told endpoint fates.Stays = no_numbers
numbers_told endpoint fates.Ends = record no_numbers { ends = endpoint ∷ [] }
numbers_told endpoint (fates.Binds object) = record no_numbers { bound = Some object }
numbers_told endpoint (fates.Refuses object) = record no_numbers { ends = object ∷ [] }
numbers_told endpoint (fates.Forwards mount object flags rest) =
    record no_numbers { forward = Some (record { endpoint = end_of_mount mount; bytes = onward_bytes flags rest object; object = object }) }
numbers_told endpoint (fates.Gives token) = record no_numbers { token = Some token }
