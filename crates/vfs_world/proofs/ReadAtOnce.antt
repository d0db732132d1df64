-- What asks for a part of a file and is served at once is served as if it had waited, been taken and answered, and settled.
use Rattle.std.proofs.Common.{◌≡◌, ℕ, inl, ◌+◌, ◌-◌, ◌≤◌, ◌==◌, ◌&&◌, Bool, true, false, not, if◌then◌else◌, IsSome, List, [], ◌∷◌, Option, Some, None, Result, Ok, Err, IfSome, length, refl, sym, ap, ◌∙◌, subst, arith}
use Rattle.std.specs.Prelude.{nat_le, nat_lt, slice_get, slice_set}
use Rattle.std.specs.Result.{OnOk}
use Rattle.fidl_names.specs.declared.memory.NoMemory.{NoMemory}
use Rattle.std.specs.FinMap as finite
use Rattle.std.specs.Option.{option_map}
use Rattle.std.proofs.lemmas.Bool.{eqb-true}
use Rattle.std.proofs.lemmas.Bool.Decides.{nat_tests}
use Rattle.std.proofs.lemmas.Option.{same_Some}
use Rattle.fidl_names.specs.declared.limits.TheConstants as limit
use Rattle.fidl_names.specs.First.{cause_if, first_of}
use Rattle.fidl_names.specs.HandleNumber.{is_client}
use Rattle.io_messages.specs.Asked.{Asked}
use Rattle.io_messages.specs.Requests.{request_of}
use Rattle.io_messages.specs.declared.protocols.Protocol.TheVariants as protocol
use Rattle.link_frames.specs.Frames.{Frame, IsFrame}
use Rattle.link_admission.specs.Standings.{Known, Sends as SendsHandles, next_token_of, standing_of as known_standing}
use Rattle.link_frames.specs.declared.kinds.FrameKind.{FrameKind}
use Rattle.link_frames.specs.declared.kinds.Refusal.TheVariants as refusal
use Rattle.link_frames.specs.declared.kinds.Side.TheVariants.{ToServers}
use Rattle.link_admission.specs.declared.kinds.Standing.TheVariants as standing
use Rattle.vfs_journal.specs.Entries.{Journal, Sending, Sent, handles_of, message}
use Rattle.vfs_journal.specs.History.{waiting}
use Rattle.vfs_journal.specs.Past.{history_of}
use Rattle.vfs_journal.specs.Serving.{Moment, outcome_of_sending}
use Rattle.vfs_journal.specs.Session.{arrives, drained}
use Rattle.vfs_journal.specs.Starts.{Bound, Start}
use Rattle.vfs_journal.specs.View.{at_in}
use Rattle.conn_rules.specs.Births.{Position}
use Rattle.journal_laws.specs.Viewing.{view_behind}
use Rattle.message_queues.specs.Parcels.{sent_by}
use Rattle.message_queues.specs.Queues.{count, queue_of, server_of}
use Rattle.vfs_server.specs.declared.fate.Fate.TheVariants as fates
use Rattle.vfs_server.specs.Holding.{if_at}
use Rattle.vfs_server.specs.Servers.{Server, seen}
use Rattle.vfs_server.specs.Serving.{IsMomentOf, Serves}
use Rattle.vfs_world.specs.Heads.{SettlesHead, Takes, TakesHead}
use Rattle.vfs_world.specs.Running.{IsRunning}
use Rattle.vfs_world.specs.Servings.{IsDrain, ServesOne}
use Rattle.vfs_world.specs.ServingSteps.{Answers}
use Rattle.vfs_world.specs.World.{LeadsTo, StandsFor, World}
use Rattle.vfs_world.proofs.Carried.{quiet_stays}
use Rattle.vfs_world.proofs.Halves.{goes_on, one_served}
use Rattle.vfs_world.proofs.Quiet.{settles_quietly}
use Rattle.vfs_world.proofs.Taken.{takes_head}
use Rattle.vfs_world.specs.Arrivals.{AnswersPart, CanBeServed, IsAdmitted, IsFree, Sends}
use Rattle.vfs_world.proofs.AtOnce.{bound_lives, drained_behind, for_want_of_room, none_waits, nothing_waits, plain_admission, plain_admits, reached_at_once, sent_in, sent_lasts, taken_again, waits_in, waits_last}

-- ---- at its server

pub reads_there : (old : List Server) (at endpoint txid : ℕ) (a : Asked) (one now : Server) (before after : List ℕ) (served : Option (Result (Unit {0}) NoMemory)) → slice_get old at ≡ Some one →
    IfSome served (λ answer. IsSome (seen one endpoint)) →
    ((bytes : List ℕ) (token : Option ℕ) (moment : Moment) → request_of protocol.File bytes [] ≡ Ok (txid, a) → IsMomentOf one endpoint token [] moment →
    IfSome served (λ answer. OnOk answer (Serves moment (outcome_of_sending moment (message bytes [])) fates.Stays one now before after))) →
    IfSome served (λ answer. OnOk answer (AnswersPart old at endpoint txid a (slice_set old at now) before after))
reads_there old at endpoint txid a one now before after (Some (Ok x)) there bound serves =
    record { one = one; there = there; bound = bound; answers = λ bytes token moment is here. (now, refl, serves bytes token moment is here) }
reads_there old at endpoint txid a one now before after (Some (Err e)) there bound serves = tt
reads_there old at endpoint txid a one now before after None there bound serves = tt

-- ---- where it is bound

-- what is bound at a server is bound there for what waits
bound_there : (index : ℕ) (found : Option (Bound × Position)) → IsSome (if_at index found) → option_map (λ (pair : Bound × Position). pair.0.server) found ≡ Some index
bound_there index None some = absurd (let wrong : false ≡ true = some in cc)
bound_there index (Some pair) some = by_test (pair.0.server == index) refl some where
  by_test : (b : Bool) → (pair.0.server == index) ≡ b → IsSome (if b then Some pair else None) → Some pair.0.server ≡ Some index
  by_test true e some = ap Some (eqb-true pair.0.server index e)
  by_test false e some = absurd (let wrong : false ≡ true = some in cc)

bound_at : (most : ℕ) (world : World) (run : IsRunning most world) (at endpoint : ℕ) (one : Server) → slice_get world.servers at ≡ Some one → IsSome (seen one endpoint) → server_of world.queues endpoint ≡ Some at
bound_at most world run at endpoint one there bound =
    let holds = run.stands.holds in
    let view = view_behind run.start run.journal in
    let here = subst IsSome ((holds.servers.each at one there).bound endpoint) bound in
    holds.queues.bound endpoint ∙ bound_there one.index (at_in view endpoint) here ∙ ap Some (holds.servers.index at one there)

-- ---- its admission

-- what is known when it waits
abbrev with_one : Known → Known
with_one known = record known { waiting = known.waiting + 1 }

abbrev let_in : World → World
let_in world = record world { known = with_one world.known }

neither : {A : Type 0} (b : Bool) (x y : A) → y ≡ (if b && false then x else y)
neither true x y = refl
neither false x y = refl

sends_none : (known : Known) → SendsHandles known [] (with_one known)
sends_none known = record {
  standing = λ n. neither (is_client n) standing.Live (known_standing known n);
  live = omega arith;
  tokens = λ n. neither (not (is_client n)) (Some false) (finite.get known.tokens n);
  same_out = refl;
  same_next = refl;
  waiting = refl;
  same_servers = refl;
}

not_more : (n : ℕ) → n ≤ limit.MAX_LIVE → nat_lt limit.MAX_LIVE (n + 0) ≡ false
not_more n few = grind (arith, nat_tests)

-- there is room for it
no_want : (known : Known) → known.waiting ≡ 0 → known.live ≤ limit.MAX_LIVE → for_want_of_room known ≡ None
no_want known none few =
    let room = not_more known.live few in
    λ i. first_of (cause_if (nat_le limit.MAX_WAITING (none i)) refusal.ShouldWait ∷ cause_if (room i) refusal.NoResources ∷ [])

none_counted : (most : ℕ) (world : World) → IsRunning most world → count world.queues ≡ 0 → world.known.waiting ≡ 0
none_counted most world run none = run.stands.knows.waiting ∙ ap length (nothing_waits most world run none)

-- ---- from its admission to the drain

module _ (old : World) (run : IsRunning (limit.MAX_PLACES - limit.FRAME_PLACES) old) (frame : Frame) (is : IsFrame ToServers frame) (can : CanBeServed frame old) (at txid : ℕ) (a : Asked) (servers : List Server)
    (before after : List ℕ) (asks : request_of protocol.File frame.bytes [] ≡ Ok (txid, a)) (answers : AnswersPart old.servers at frame.endpoint txid a servers before after) where
  abbrev now : World
  now = let_in old

  -- when it was taken, when it was answered, and then
  abbrev taken : World
  taken = record now { places = old.places + 1 }

  abbrev answered : World
  answered = record old { servers = servers; places = old.places + 1 }

  abbrev pub new : World
  new = record old { servers = servers; places = old.places + 2 }

  abbrev sent : Sent
  sent = sent_in now frame

  bound : server_of old.queues frame.endpoint ≡ Some at
  bound = bound_at (limit.MAX_PLACES - limit.FRAME_PLACES) old run at frame.endpoint answers.one answers.there answers.bound

  none : (endpoint : ℕ) → queue_of old.queues endpoint ≡ []
  none = none_waits old old (limit.MAX_PLACES - limit.FRAME_PLACES) run refl can.none

  sends : Sends frame.kind
  sends = inl can.plain.message

  free : IsFree frame at now
  free = record { sends = sends; bound = bound; none = can.none }

  admitted : IsAdmitted old frame now
  admitted = record {
    none =
        plain_admission old.known frame None can.plain (bound_lives (limit.MAX_PLACES - limit.FRAME_PLACES) old frame.endpoint at run bound can.none)
        (no_want old.known (none_counted (limit.MAX_PLACES - limit.FRAME_PLACES) old run can.none) can.few);
    admits = plain_admits old.known (with_one old.known) frame can.plain (sends_none old.known);
    same = refl;
  }

  takes : Takes (waits_in now frame) frame.endpoint at sent taken
  takes = taken_again old.queues sent none at taken bound refl

  sending : sent.sending ≡ message frame.bytes []
  sending = ap (λ (k : FrameKind). sent_by k frame) can.plain.message ∙ ap (message frame.bytes) can.plain.bare

  bare : handles_of sent.sending ≡ []
  bare = ap handles_of sending

  serves : Answers old.servers at frame.endpoint (next_token_of old.known) sent fates.Stays servers before after
  serves one moment there here =
      let same = same_Some answers.one one (sym answers.there ∙ there) in
      let asked =
      subst (λ (server : Server). IsMomentOf server frame.endpoint (next_token_of old.known) [] moment) (sym same)
      (subst (λ (handles : List ℕ). IsMomentOf one frame.endpoint (next_token_of old.known) handles moment) bare here) in
      let served = answers.answers frame.bytes (next_token_of old.known) moment asks asked in (
        served.0,
        served.1,
        subst (λ (server : Server). Serves moment (outcome_of_sending moment sent.sending) fates.Stays server served.0 before after) same
            (subst (λ (s : Sending). Serves moment (outcome_of_sending moment s) fates.Stays answers.one served.0 before after) (sym sending) served.2),
      )

  known_then : old.known ≡ record (with_one old.known) { waiting = old.known.waiting + 1 - 1 }
  known_then = let same : old.known.waiting ≡ old.known.waiting + 1 - 1 = omega arith in ap (λ (n : ℕ). let known : Known = record old.known { waiting = n } in known) same

  head : TakesHead (waits_in now frame) frame.endpoint at sent fates.Stays answered before after
  head = takes_head (waits_in now frame) taken answered frame.endpoint at sent fates.Stays before after takes serves refl refl known_then refl

  settles : SettlesHead answered sent fates.Stays (record answered { places = answered.places + 1 }) after after
  settles = settles_quietly answered sent fates.Stays after (quiet_stays sent bare) (can.none ∙ sym (none_counted (limit.MAX_PLACES - limit.FRAME_PLACES) old run can.none))

  runs : IsRunning limit.MAX_PLACES (waits_in now frame)
  runs = sent_lasts (limit.MAX_PLACES - limit.FRAME_PLACES) old now (waits_in now frame) frame run is sends admitted (waits_last now frame)

  two_more : new ≡ record answered { places = answered.places + 1 }
  two_more = let same : old.places + 2 ≡ old.places + 1 + 1 = omega arith in ap (λ (n : ℕ). record old { servers = servers; places = n }) same

  one : ServesOne (λ one. one ≡ frame.endpoint) (waits_in now frame) new before after
  one = one_served (waits_in now frame) answered (record answered { places = answered.places + 1 }) new runs frame.endpoint at sent fates.Stays before after after head settles two_more run.stands.able

  pub read_lasts : (most : ℕ) → IsRunning most old → IsRunning (most + limit.FRAME_PLACES) new
  read_lasts most running = goes_on (most + limit.FRAME_PLACES) (waits_in now frame) new (sent_lasts most old now (waits_in now frame) frame running is sends admitted (waits_last now frame)) frame.endpoint before after one

  idle : IsDrain new new after after
  idle = record { done = 0; serves = (refl, refl); last = λ endpoint is_bound. none endpoint }

  pub read_leads : (start : Start) (journal : Journal) → StandsFor start old journal →
      LeadsTo start (drained start (arrives start journal frame)) new journal before after × (waiting (history_of start (drained start (arrives start journal frame))) ≡ [])
  read_leads start journal stands =
      drained_behind run.apart start journal (arrives start journal frame) new new before after after
      (reached_at_once run.apart start journal old now new frame before after stands is admitted at free none one) idle
