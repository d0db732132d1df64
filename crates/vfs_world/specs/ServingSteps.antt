-- Words of the steps of a serving, which the private functions of a world are told by. No public clause needs these.
use Rattle.std.specs.Prelude.{◌≡◌, ◌≢◌, AllPairs, ℕ, ◌==◌, Bool, true, false, not, List, [], ◌∷◌, ◌++◌, length, map, filter, option_to_list, Option, Some, None, slice_get, slice_set}
use Rattle.std.specs.FinMap as finite
use Rattle.std.specs.Option.{option_map_or}
use Rattle.link_frames.specs.Frames.{Frame}
use Rattle.link_admission.specs.Numbering.{among}
use Rattle.link_admission.specs.Standings.{Known, given, gone}
use Rattle.fidl_names.specs.HandleNumber.{end_of_mount}
use Rattle.conn_rules.specs.Births.{Position}
use Rattle.conn_rules.specs.Onward.{onward_bytes}
use Rattle.vfs_journal.specs.Entries.{Sent, endpoints_in, handles_of, message, tokens_in}
use Rattle.vfs_journal.specs.Outcomes.{close_frame}
use Rattle.vfs_journal.specs.Output.{rising}
use Rattle.vfs_journal.specs.Serving.{Moment, outcome_of_sending}
use Rattle.vfs_journal.specs.Starts.{Bound}
use Rattle.vfs_journal.specs.View.{View}
use Rattle.message_queues.specs.Dying.{tokens_on}
use Rattle.message_queues.specs.Queues.{Binds, Queues, Requeues, queue_of}
use Rattle.vfs_server.specs.Binding.{Forgets}
use Rattle.vfs_server.specs.declared.fate.Fate.{Fate}
use Rattle.vfs_server.specs.declared.fate.Fate.TheVariants as fates
use Rattle.vfs_server.specs.Servers.{Server}
use Rattle.vfs_server.specs.Serving.{IsMomentOf, Serves}

-- these live no more
abbrev pub without_in : View → List ℕ → View
without_in view dead = record view { living = filter (λ pair. not (among pair.0.endpoint dead)) view.living }

-- ---- what a step counts on

-- no endpoint is bound twice
abbrev pub AreApart : List (Bound × Position) → Type 0
AreApart living = AllPairs (λ one other. one.0.endpoint ≢ other.0.endpoint) living

-- ---- what each step of a serving says, of the server at which the endpoint is bound

-- the server does what the outcome of the entry says, and no other does anything
abbrev pub Answers : List Server → ℕ → ℕ → Option ℕ → Sent → Fate → List Server → List ℕ → List ℕ → Type 0
Answers old at endpoint token sent fate new before after =
    (one : Server) (moment : Moment) → slice_get old at ≡ Some one → IsMomentOf one endpoint token (handles_of sent.sending) moment →
    (now : Server) × (new ≡ slice_set old at now) × Serves moment (outcome_of_sending moment sent.sending) fate one now before after

-- the endpoint that a fate binds
abbrev pub bound_told : Fate → Option ℕ
bound_told (fates.Binds object) = Some object
bound_told _ = None

-- what is bound at a server is bound there for what waits as well
abbrev pub BindsThere : ℕ → Option ℕ → Queues → Queues → Type 0
BindsThere server (Some object) old new = Binds old object server new
BindsThere server None old new = new ≡ old

-- an Open that goes on, at a place, from the one at another
abbrev pub onward_told : ℕ → ℕ → ℕ → ℕ → List ℕ → Sent
onward_told place origin mount object bytes =
    record { place = place; endpoint = end_of_mount mount; sending = message bytes (object ∷ []); origin = Some origin }

-- what a fate sends on waits last on its mount's end, and takes a place
abbrev pub SendsOn : ℕ → ℕ → Fate → Queues → Queues → Type 0
SendsOn place origin (fates.Forwards mount object flags rest) old new =
    Requeues old (end_of_mount mount) (queue_of old (end_of_mount mount) ++ onward_told place origin mount object (onward_bytes flags rest object) ∷ []) new
SendsOn place origin _ old new = new ≡ old

abbrev pub is_sent_on : Fate → ℕ
is_sent_on (fates.Forwards mount object flags rest) = 1
is_sent_on _ = 0

-- ---- deaths, as a fate tells them

-- the endpoint that ends
abbrev pub end_told : ℕ → Fate → Option ℕ
end_told endpoint fates.Stays = None
end_told endpoint fates.Ends = Some endpoint
end_told endpoint (fates.Binds object) = None
end_told endpoint (fates.Refuses object) = Some object
end_told endpoint (fates.Forwards mount object flags rest) = None
end_told endpoint (fates.Gives token) = None

-- the endpoint with which something was done
abbrev pub settled_told : ℕ → Fate → Option ℕ
settled_told endpoint fates.Stays = None
settled_told endpoint fates.Ends = Some endpoint
settled_told endpoint (fates.Binds object) = Some object
settled_told endpoint (fates.Refuses object) = Some object
settled_told endpoint (fates.Forwards mount object flags rest) = Some object
settled_told endpoint (fates.Gives token) = None

abbrev pub is_it : Option ℕ → ℕ → Bool
is_it one number = option_map_or (λ it. it == number) one false

-- the endpoints that an entry carries, but one
abbrev pub carried_but : Option ℕ → Sent → List ℕ
carried_but one sent = filter (λ number. not (is_it one number)) (endpoints_in sent)

-- the first that die
abbrev pub first_told : Sent → Fate → List ℕ
first_told sent fate = option_to_list (end_told sent.endpoint fate) ++ carried_but (settled_told sent.endpoint fate) sent

-- whether no Open goes on by a fate, and no token is given
abbrev pub ends_here : Fate → Bool
ends_here fates.Stays = true
ends_here fates.Ends = true
ends_here (fates.Binds object) = true
ends_here (fates.Refuses object) = true
ends_here (fates.Forwards mount object flags rest) = false
ends_here (fates.Gives token) = false

-- a serving that leaves all others as they are: nobody dies of it, and the entry carries no token
pub record IsQuiet (sent : Sent) (fate : Fate) : Type 0 where
  pub first : first_told sent fate ≡ []
  pub tokens : tokens_in sent ≡ []
  pub here : ends_here fate ≡ true

-- a serving that leaves all others as they are but for one token, which the entry carries
pub record IsLoneToken (sent : Sent) (fate : Fate) (token : ℕ) : Type 0 where
  pub first : first_told sent fate ≡ []
  pub tokens : tokens_in sent ≡ token ∷ []
  pub here : ends_here fate ≡ true

-- a serving that leaves all others as they are but for one token, which it gives; the entry carries no token
pub record IsLoneGift (sent : Sent) (fate : Fate) : Type 0 where
  pub first : first_told sent fate ≡ []
  pub tokens : tokens_in sent ≡ []
  pub sends : is_sent_on fate ≡ 0

-- a serving of which one endpoint dies first, which its answer closed, and no other; the entry carries no token
pub record IsLoneEnd (sent : Sent) (fate : Fate) (end : ℕ) : Type 0 where
  pub first : first_told sent fate ≡ end ∷ []
  pub told : end_told sent.endpoint fate ≡ Some end
  pub tokens : tokens_in sent ≡ []
  pub here : ends_here fate ≡ true

-- such a serving, where that one is refused, which the entry carries
pub record IsLoneRefusal (sent : Sent) (fate : Fate) (object : ℕ) : Type 0 where
  pub lone : IsLoneEnd sent fate object
  pub refuses : fate ≡ fates.Refuses object
  pub carried : among object (endpoints_in sent) ≡ true

-- the Close frames for deaths beside the one that the answer closed
abbrev pub closed_for : Option ℕ → List ℕ → List Frame
closed_for one deaths = map close_frame (rising (filter (λ number. not (is_it one number)) deaths))

-- ---- tokens

-- the tokens that are spent: those that the served entry carried, and those of what waited on whoever died
abbrev pub spent_told : Sent → Queues → List ℕ → List ℕ
spent_told sent queues dead = tokens_in sent ++ tokens_on queues dead

-- every server has forgotten a token
pub record ForgetsEach (old : List Server) (token : ℕ) (new : List Server) : Type 0 where
  pub many : length new ≡ length old
  pub each : (index : ℕ) (one now : Server) → slice_get old index ≡ Some one → slice_get new index ≡ Some now → Forgets one token now

-- every server has forgotten these tokens, one after another
abbrev pub ForgetsAll : List Server → List ℕ → List Server → Type 0
ForgetsAll old [] new = new ≡ old
ForgetsAll old (token ∷ tokens) new = (next : List Server) × (ForgetsEach old token next × ForgetsAll next tokens new)

-- each of these tokens is known to be out, and not held, when it goes, one after another
abbrev pub CanGo : Known → List ℕ → Type 0
CanGo known [] = Unit {0}
CanGo known (token ∷ tokens) = (finite.get known.tokens token ≡ Some false) × CanGo (gone known token) tokens

-- what is known when the clients have the token that a fate gives
abbrev pub known_told : Fate → Known → Known
known_told (fates.Gives token) known = given known
known_told _ known = known
