-- What asks for a part of a file and was taken is served as if it had been answered, and settled.
use Rattle.std.proofs.Common.{◌≡◌, ℕ, ◌+◌, ◌-◌, ◌==◌, ◌∷◌, true, false, append-nil, length, List, [], Option, Some, Result, Ok, Err, refl, sym, ap, ◌∙◌, subst, arith}
use Rattle.std.specs.Prelude.{slice_get, slice_set}
use Rattle.std.specs.Result.{OnErr, OnOk}
use Rattle.std.proofs.lemmas.Bool.{eqb-true}
use Rattle.std.proofs.lemmas.Option.{same_Some}
use Rattle.fidl_names.specs.declared.limits.TheConstants as limit
use Rattle.fidl_names.specs.declared.memory.NoMemory.{NoMemory}
use Rattle.io_messages.specs.Asked.{Asked}
use Rattle.io_messages.specs.Requests.{request_of}
use Rattle.io_messages.specs.declared.protocols.Protocol.TheVariants as protocol
use Rattle.link_admission.specs.Standings.{next_token_of}
use Rattle.vfs_journal.specs.Entries.{Sending, Sent, handles_of, message}
use Rattle.vfs_journal.specs.Output.{Begins}
use Rattle.vfs_journal.specs.Serving.{Moment, outcome_of_sending}
use Rattle.message_queues.specs.Queues.{count}
use Rattle.vfs_server.specs.declared.fate.Fate.TheVariants as fates
use Rattle.vfs_server.specs.Servers.{Server}
use Rattle.vfs_server.specs.Serving.{IsMomentOf, Serves}
use Rattle.vfs_world.specs.Heads.{ServesTaken, SettlesHead, Takes, TakesHead}
use Rattle.vfs_world.specs.Running.{IsRunning}
use Rattle.vfs_world.specs.Servings.{ServesOne}
use Rattle.vfs_world.specs.ServingSteps.{Answers}
use Rattle.vfs_world.specs.World.{World}
use Rattle.vfs_world.proofs.Carried.{quiet_stays}
use Rattle.vfs_world.proofs.Halves.{one_served, serves_taken}
use Rattle.vfs_world.proofs.Quiet.{settles_quietly}
use Rattle.vfs_world.proofs.Taken.{can_answer, takes_head}

-- the world behind it
abbrev pub behind : World → ℕ → Server → World
behind old server now = record old { servers = slice_set old.servers server now; known = record old.known { waiting = old.known.waiting - 1 }; places = old.places + 1 }

module _ (first old : World) (run : IsRunning limit.MAX_PLACES first) (endpoint server : ℕ) (sent : Sent) (takes : Takes first endpoint server sent old) (bytes : List ℕ) (sending : sent.sending ≡ message bytes [])
    (txid : ℕ) (a : Asked) (asks : request_of protocol.File bytes [] ≡ Ok (txid, a)) (one now : Server) (there : slice_get old.servers server ≡ Some one) (before after : List ℕ)
    (serves : (bytes : List ℕ) (token : Option ℕ) (moment : Moment) → request_of protocol.File bytes [] ≡ Ok (txid, a) → IsMomentOf one endpoint token [] moment →
    Serves moment (outcome_of_sending moment (message bytes [])) fates.Stays one now before after) where
  abbrev answered : World
  answered = record old { servers = slice_set old.servers server now; known = record old.known { waiting = old.known.waiting - 1 } }

  bare : handles_of sent.sending ≡ []
  bare = ap handles_of sending

  answers : Answers old.servers server endpoint (next_token_of old.known) sent fates.Stays (slice_set old.servers server now) before after
  answers other moment found here =
      let same = same_Some one other (sym there ∙ found) in
      let asked =
      subst (λ (x : Server). IsMomentOf x endpoint (next_token_of old.known) [] moment) (sym same)
      (subst (λ (handles : List ℕ). IsMomentOf other endpoint (next_token_of old.known) handles moment) bare here) in (
        now,
        refl,
        subst (λ (x : Server). Serves moment (outcome_of_sending moment sent.sending) fates.Stays x now before after) same
            (subst (λ (s : Sending). Serves moment (outcome_of_sending moment s) fates.Stays one now before after) (sym sending) (serves bytes (next_token_of old.known) moment asks asked)),
      )

  head : TakesHead first endpoint server sent fates.Stays answered before after
  head = takes_head first old answered endpoint server sent fates.Stays before after takes answers refl refl refl refl

  counted : count answered.queues ≡ answered.known.waiting
  counted = let is = (can_answer first old endpoint server sent run takes).counted in omega (arith, is)

  settles : SettlesHead answered sent fates.Stays (record answered { places = answered.places + 1 }) after after
  settles = settles_quietly answered sent fates.Stays after (quiet_stays sent bare) counted

  pub read_served : old.spent ≡ false → ServesOne (λ one. one ≡ endpoint) first (behind old server now) before after
  read_served able = one_served first answered (behind old server now) (behind old server now) run endpoint server sent fates.Stays before after after head settles refl able

-- where memory sufficed
pub read_taken : (old : World) (endpoint server : ℕ) (sent : Sent) (bytes : List ℕ) → sent.sending ≡ message bytes [] → (txid : ℕ) (a : Asked) →
    request_of protocol.File bytes [] ≡ Ok (txid, a) → (one now : Server) → slice_get old.servers server ≡ Some one → (before after : List ℕ) (r : Result (Unit {0}) NoMemory) →
    ((bytes : List ℕ) (token : Option ℕ) (moment : Moment) → request_of protocol.File bytes [] ≡ Ok (txid, a) → IsMomentOf one endpoint token [] moment →
    OnOk r (Serves moment (outcome_of_sending moment (message bytes [])) fates.Stays one now before after)) →
    old.spent ≡ false → OnOk r (ServesTaken endpoint server sent old (behind old server now) before after)
read_taken old endpoint server sent bytes sending txid a asks one now there before after (Ok x) serves able =
    serves_taken endpoint server sent old (behind old server now) before after
    (λ from run takes. read_served from old run endpoint server sent takes bytes sending txid a asks one now there before after serves able)
read_taken old endpoint server sent bytes sending txid a asks one now there before after (Err e) serves able = tt

-- and whether it did or not, what was written stays in front
pub read_begins : (first old : World) (run : IsRunning limit.MAX_PLACES first) (endpoint server : ℕ) (sent : Sent) → Takes first endpoint server sent old → (bytes : List ℕ) → sent.sending ≡ message bytes [] → (txid : ℕ) (a : Asked) →
    request_of protocol.File bytes [] ≡ Ok (txid, a) → (one now : Server) → slice_get old.servers server ≡ Some one → (before after : List ℕ) (r : Result (Unit {0}) NoMemory) →
    ((bytes : List ℕ) (token : Option ℕ) (moment : Moment) → request_of protocol.File bytes [] ≡ Ok (txid, a) → IsMomentOf one endpoint token [] moment →
    OnOk r (Serves moment (outcome_of_sending moment (message bytes [])) fates.Stays one now before after)) →
    OnErr r (after ≡ before) → Begins before after
read_begins first old run endpoint server sent takes bytes sending txid a asks one now there before after (Ok x) serves same =
    let can = can_answer first old endpoint server sent run takes in
    let asked =
    subst (λ (x : Server). IsMomentOf x endpoint (next_token_of old.known) [] can.can.moment.0) (same_Some can.one one (sym can.there ∙ there))
    (subst (λ (handles : List ℕ). IsMomentOf can.one endpoint (next_token_of old.known) handles can.can.moment.0) (ap handles_of sending) can.can.moment.1) in
    (_, (serves bytes (next_token_of old.known) can.can.moment.0 asks asked).frames)
read_begins first old run endpoint server sent takes bytes sending txid a asks one now there before after (Err e) serves same = ([], same ∙ sym (append-nil before))

-- a list of no length is empty
pub none_of : {A : Type 0} (xs : List A) → (length xs == 0) ≡ true → xs ≡ []
none_of [] h = refl
none_of (x ∷ xs) h = absurd (let zero_is = eqb-true (length (x ∷ xs)) 0 h in omega (arith, zero_is))
