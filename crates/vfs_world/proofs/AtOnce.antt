-- What is served at once is served as if it had waited: it is behind nothing, and is taken again at once.
use Rattle.std.proofs.Common.{◌≡◌, ℕ, zero, suc, inl, inr, ◌+◌, ◌≤◌, ◌==◌, ◌&&◌, Bool, true, false, not, cond, if◌then◌else◌, IsSome, List, [], ◌∷◌, ◌++◌, length, filter, drop, Option, Some, None, refl, sym, ap, ◌∙◌, subst, arith}
use Rattle.std.specs.Prelude.{slice_get}
use Rattle.std.specs.List.{list_any}
use Rattle.std.specs.Cmp.{nat_cmp_total}
use Rattle.std.specs.FinMap as finite
use Rattle.std.specs.Option.{option_map, option_map_or, option_and_then}
use Rattle.std.specs.Ordering.{eq_by_cmp, nat_cmp}
use Rattle.std.proofs.Math.Nat.{zero-add}
use Rattle.std.proofs.lemmas.Bool.{eq-eqb, eqb-true, or_left}
use Rattle.std.proofs.lemmas.Bool.Decides.{nat_tests}
use Rattle.std.proofs.lemmas.Option.{none-some, same_Some}
use Rattle.fidl_names.specs.declared.limits.TheConstants as limit
use Rattle.fidl_names.specs.First.{cause_if, first_of}
use Rattle.fidl_names.specs.HandleNumber.{is_client}
use Rattle.fidl_wire.specs.Names.{AreDistinct}
use Rattle.link_frames.specs.Frames.{Frame, IsFrame}
use Rattle.link_admission.specs.Admission.{Admits, AdmitsKind, admission, by_standing, is_full, look_ups as known_look_ups, refusal_by, too_many}
use Rattle.link_admission.specs.Standings.{Known, Sends as SendsHandles, standing_of as known_standing}
use Rattle.link_frames.specs.declared.kinds.FrameKind.{FrameKind}
use Rattle.link_frames.specs.declared.kinds.FrameKind.TheVariants as kind
use Rattle.link_frames.specs.declared.kinds.Refusal.{Refusal}
use Rattle.link_frames.specs.declared.kinds.Refusal.TheVariants as refusal
use Rattle.link_frames.specs.declared.kinds.Side.TheVariants.{ToServers}
use Rattle.link_admission.specs.declared.kinds.Standing.TheVariants as standing
use Rattle.vfs_journal.specs.Entries.{Journal, Sent, is_hang_up}
use Rattle.vfs_journal.specs.History.{History, births, hung_up, is_bound, is_dead, is_live, living, waiting}
use Rattle.vfs_journal.specs.Past.{history_of}
use Rattle.vfs_journal.specs.Session.{arrives, drained}
use Rattle.vfs_journal.specs.Starts.{Bound, Start}
use Rattle.vfs_journal.specs.View.{at_in, with_position}
use Rattle.conn_rules.specs.Births.{Position}
use Rattle.journal_laws.specs.Viewing.{view_behind}
use Rattle.journal_laws.proofs.Among.{is_found}
use Rattle.journal_laws.proofs.HangUps.{hang_ups_wait}
use Rattle.journal_laws.proofs.Members.{found, kept_of, mapped_member}
use Rattle.message_queues.specs.Queues.{Mailbox, Queues, Requeues, count, head_of, queue_of, server_of}
use Rattle.message_queues.specs.Parcels.{sent_by}
use Rattle.message_queues.proofs.Counting.{counts_its_list}
use Rattle.vfs_world.specs.Heads.{Takes}
use Rattle.vfs_world.specs.Running.{IsRunning}
use Rattle.vfs_world.specs.Servings.{IsDrain, IsOldestOfAll, ServesOne, ServesTimes}
use Rattle.vfs_world.specs.World.{LeadsTo, StandsFor, World}
use Rattle.vfs_world.proofs.OneMore.{one_of_these}
use Rattle.vfs_world.proofs.Serves.{drain_leads}
use Rattle.vfs_world.proofs.Times.{goes_on}
use Rattle.vfs_world.specs.Arrivals.{IsAdmitted, IsFree, IsPlain, Reaches, Sends, WaitsLast}
use Rattle.vfs_world.proofs.Hearing.{hang_up_lasts, hang_up_leads, message_lasts, message_leads}

-- ---- queues with one entry more

abbrev last_box : Queues → Sent → Mailbox
last_box queues sent = record { server = server_of queues sent.endpoint; queue = queue_of queues sent.endpoint ++ sent ∷ [] }

abbrev pub with_last : Queues → Sent → Queues
with_last queues sent = record { boxes = finite.insert queues.boxes sent.endpoint (last_box queues sent); servers = queues.servers }

tests_alike : (a b : ℕ) → eq_by_cmp nat_cmp a b ≡ (a == b)
tests_alike a b = grind (arith, nat_tests)

box_at : (queues : Queues) (sent : Sent) (other : ℕ) → finite.get (with_last queues sent).boxes other ≡ cond (other == sent.endpoint) (Some (last_box queues sent)) (finite.get queues.boxes other)
box_at queues sent other =
    finite.get-insert nat_cmp_total queues.boxes sent.endpoint (last_box queues sent) other
    ∙ ap (λ (b : Bool). cond b (Some (last_box queues sent)) (finite.get queues.boxes other)) (tests_alike other sent.endpoint)

either_queue : (b : Bool) (one : Mailbox) (two : Option Mailbox) → option_map_or (λ (box : Mailbox). box.queue) (cond b (Some one) two) [] ≡ (if b then one.queue else option_map_or (λ (box : Mailbox). box.queue) two [])
either_queue true one two = refl
either_queue false one two = refl

pub waits_there : (queues : Queues) (sent : Sent) → Requeues queues sent.endpoint (queue_of queues sent.endpoint ++ sent ∷ []) (with_last queues sent)
waits_there queues sent = record {
  waiting = λ other. ap (λ (box : Option Mailbox). option_map_or (λ (b : Mailbox). b.queue) box []) (box_at queues sent other) ∙ either_queue (other == sent.endpoint) (last_box queues sent) (finite.get queues.boxes other);
  bound = λ other. ap (option_and_then (λ (b : Mailbox). b.server)) (box_at queues sent other) ∙ by_test other (other == sent.endpoint) refl;
  those = refl;
}
  where
    by_test : (other : ℕ) (b : Bool) → (other == sent.endpoint) ≡ b → option_and_then (λ (box : Mailbox). box.server) (cond b (Some (last_box queues sent)) (finite.get queues.boxes other)) ≡ server_of queues other
    by_test other true e = ap (server_of queues) (sym (eqb-true other sent.endpoint e))
    by_test other false e = refl

-- ---- where nothing waits

module _ (queues : Queues) (sent : Sent) (none : (endpoint : ℕ) → queue_of queues endpoint ≡ []) where
  alone : (endpoint : ℕ) → queue_of (with_last queues sent) endpoint ≡ (if endpoint == sent.endpoint then sent ∷ [] else [])
  alone endpoint =
      (waits_there queues sent).waiting endpoint
      ∙ (λ i. if endpoint == sent.endpoint then none sent.endpoint i ++ sent ∷ [] else none endpoint i)

  here : queue_of (with_last queues sent) sent.endpoint ≡ sent ∷ []
  here = alone sent.endpoint ∙ ap (λ (b : Bool). if b then sent ∷ [] else []) (eq-eqb sent.endpoint sent.endpoint refl)

  pub is_first : head_of (with_last queues sent) sent.endpoint ≡ Some sent
  is_first = ap (λ (q : List Sent). slice_get q 0) here

  turned : (a b : ℕ) → (a == b) ≡ (b == a)
  turned a b = grind (arith, nat_tests)

  counted : count (with_last queues sent) ≡ 1
  counted = counts_its_list (with_last queues sent) (sent ∷ []) (λ n. alone n ∙ by_test (n == sent.endpoint) ∙ ap (λ (b : Bool). cond b (sent ∷ []) []) (turned n sent.endpoint)) where
    by_test : (b : Bool) → (if b then sent ∷ [] else []) ≡ cond b (sent ∷ []) []
    by_test true = refl
    by_test false = refl

  none_counted : count queues ≡ 0
  none_counted = counts_its_list queues [] none

  -- it is taken again, and no other waits
  pub taken_again : (server : ℕ) (now : World) → server_of queues sent.endpoint ≡ Some server → now.queues ≡ queues → Takes (record now { queues = with_last queues sent }) sent.endpoint server sent now
  taken_again server now bound same = record {
    bound = (waits_there queues sent).bound sent.endpoint ∙ bound;
    first = is_first;
    taken = record {
      waiting = λ other. ap (λ (q : Queues). queue_of q other) same ∙ none other ∙ by_test other (other == sent.endpoint) refl;
      bound = λ other. ap (λ (q : Queues). server_of q other) same ∙ sym ((waits_there queues sent).bound other);
      those = ap (λ (q : Queues). q.servers) same;
    };
    count = let a = counted in let b = none_counted in let c = ap count same in omega (arith, a, b, c);
    same = refl;
  }
    where
      by_test : (other : ℕ) (b : Bool) → (other == sent.endpoint) ≡ b →
          [] ≡ (if b then drop 1 (queue_of (with_last queues sent) sent.endpoint) else queue_of (with_last queues sent) other)
      by_test other true e = sym (ap (drop 1) here)
      by_test other false e = sym (alone other ∙ ap (λ (t : Bool). if t then sent ∷ [] else []) e)

  -- it is the oldest of all
  pub oldest_then : IsSome (server_of queues sent.endpoint) → IsOldestOfAll (with_last queues sent) sent.endpoint
  oldest_then bound = record {
    sent = sent;
    one_of = subst IsSome (sym ((waits_there queues sent).bound sent.endpoint)) bound;
    waits = is_first;
    least = λ other later there waits. by_test other later (other == sent.endpoint) refl (sym (ap (λ (q : List Sent). slice_get q 0) (alone other)) ∙ waits);
  }
    where
      by_test : (other : ℕ) (later : Sent) (b : Bool) → (other == sent.endpoint) ≡ b → slice_get (if other == sent.endpoint then sent ∷ [] else []) 0 ≡ Some later → sent.place ≤ later.place
      by_test other later true e waits =
          let same = same_Some sent later (sym (ap (λ (t : Bool). slice_get (if t then sent ∷ [] else []) 0) e) ∙ waits) in
          let places = ap (λ (one : Sent). one.place) same in
          omega (arith, places)
      by_test other later false e waits = absurd (none-some later (sym (ap (λ (t : Bool). slice_get (if t then sent ∷ [] else []) 0) e) ∙ waits))

-- ---- from a frame to its serving

-- the world in which what a frame sends waits, as it would
abbrev pub sent_in : World → Frame → Sent
sent_in now frame = record { place = now.places; endpoint = frame.endpoint; sending = sent_by frame.kind frame; origin = None }

abbrev pub waits_in : World → Frame → World
waits_in now frame = record now { queues = with_last now.queues (sent_in now frame); places = now.places + 1 }

pub waits_last : (now : World) (frame : Frame) → WaitsLast now frame.endpoint (sent_by frame.kind frame) (waits_in now frame)
waits_last now frame = record { queued = waits_there now.queues (sent_in now frame); same = refl }

-- whatever a frame sends, it leads on as its kind does
sent_leads : AreDistinct → (start : Start) (journal : Journal) (old now new : World) (frame : Frame) (before : List ℕ) → StandsFor start old journal → IsFrame ToServers frame → Sends frame.kind →
    IsAdmitted old frame now → WaitsLast now frame.endpoint (sent_by frame.kind frame) new → LeadsTo start (arrives start journal frame) new journal before before
sent_leads apart start journal old now new frame before s is (inl message) admitted waits =
    message_leads apart start journal old now new frame before s is message admitted (subst (λ k. WaitsLast now frame.endpoint (sent_by k frame) new) message waits)
sent_leads apart start journal old now new frame before s is (inr close) admitted waits =
    hang_up_leads apart start journal old now new frame before s is close admitted (subst (λ k. WaitsLast now frame.endpoint (sent_by k frame) new) close waits)

pub sent_lasts : (most : ℕ) (old now new : World) (frame : Frame) → IsRunning most old → IsFrame ToServers frame → Sends frame.kind → IsAdmitted old frame now →
    WaitsLast now frame.endpoint (sent_by frame.kind frame) new → IsRunning (most + limit.FRAME_PLACES) new
sent_lasts most old now new frame r is (inl message) admitted waits =
    message_lasts most old now new frame r is message admitted (subst (λ k. WaitsLast now frame.endpoint (sent_by k frame) new) message waits)
sent_lasts most old now new frame r is (inr close) admitted waits =
    hang_up_lasts most old now new frame r is close admitted (subst (λ k. WaitsLast now frame.endpoint (sent_by k frame) new) close waits)

-- where none are counted, nothing waits, and nothing on any endpoint
pub nothing_waits : (most : ℕ) (world : World) (r : IsRunning most world) → count world.queues ≡ 0 → waiting (history_of r.start r.journal) ≡ []
nothing_waits most world r none =
    let view = r.stands.holds.queues in
    no_items (waiting (history_of r.start r.journal)) (sym (counts_its_list world.queues (waiting (history_of r.start r.journal)) view.queue) ∙ none)
  where
    no_items : (ones : List Sent) → length ones ≡ 0 → ones ≡ []
    no_items [] e = refl
    no_items (one ∷ ones) e = absurd (omega (arith, e))

pub none_waits : (old now : World) (most : ℕ) → IsRunning most old → now ≡ record old { known = now.known } → count now.queues ≡ 0 → (endpoint : ℕ) → queue_of now.queues endpoint ≡ []
none_waits old now most r same none endpoint =
    let queues : now.queues ≡ old.queues = ap (λ (w : World). w.queues) same in
    ap (λ (q : Queues). queue_of q endpoint) queues ∙ r.stands.holds.queues.queue endpoint
    ∙ ap (filter (λ (sent : Sent). sent.endpoint == endpoint)) (nothing_waits most old r (sym (ap count queues) ∙ none))

pub reached_at_once : AreDistinct → (start : Start) (journal : Journal) (old now new : World) (frame : Frame) (before after : List ℕ) → StandsFor start old journal → IsFrame ToServers frame →
    IsAdmitted old frame now → (server : ℕ) → IsFree frame server now → ((endpoint : ℕ) → queue_of now.queues endpoint ≡ []) → ServesOne (λ one. one ≡ frame.endpoint) (waits_in now frame) new before after →
    Reaches start (arrives start journal frame) new journal before after
reached_at_once apart start journal old now new frame before after stands is admitted server free none one = record {
  there = waits_in now frame;
  between = before;
  leads = sent_leads apart start journal old now (waits_in now frame) frame before stands is free.sends admitted (waits_last now frame);
  done = 1;
  serves = (
    new,
    (
      after,
      (
        one_of_these (IsOldestOfAll (with_last now.queues (sent_in now frame))) frame.endpoint (waits_in now frame) new before after
            (oldest_then now.queues (sent_in now frame) none (subst IsSome (sym free.bound) refl)) one,
        (refl, refl),
      ),
    ),
  );
}

pub reached_by : (start : Start) (journal later : Journal) (new : World) (before after : List ℕ) → LeadsTo start later new journal before after → Reaches start later new journal before after
reached_by start journal later new before after leads = record { there = new; between = after; leads = leads; done = 0; serves = (refl, refl) }

-- ---- and to all that can be served then

times_on : (Chosen : Queues → ℕ → Type 0) (done more : ℕ) (old k new : World) (before between after : List ℕ) → ServesTimes Chosen done old k before between → ServesTimes Chosen more k new between after →
    ServesTimes Chosen (done + more) old new before after
times_on Chosen zero more old k new before between after same rest =
    subst (λ (n : ℕ). ServesTimes Chosen n old new before after) (sym (zero-add more))
    (subst (λ (w : World). ServesTimes Chosen more w new before after) same.0 (subst (λ (bytes : List ℕ). ServesTimes Chosen more k new bytes after) same.1 rest))
times_on Chosen (suc done) more old k new before between after serves rest =
    let e : suc (done + more) ≡ suc done + more = omega arith in
    subst (λ (n : ℕ). ServesTimes Chosen n old new before after) e
    (serves.0, (serves.1.0, (serves.1.1.0, times_on Chosen done more serves.0 k new serves.1.0 between after serves.1.1.1 rest)))

pub drained_behind : AreDistinct → (start : Start) (journal later : Journal) (k new : World) (before between after : List ℕ) → Reaches start later k journal before between → IsDrain k new between after →
    LeadsTo start (drained start later) new journal before after × (waiting (history_of start (drained start later)) ≡ [])
drained_behind apart start journal later k new before between after r d =
    let whole = drain_leads apart start later r.there new r.between after r.leads.stands
    (record { done = r.done + d.done; serves = times_on IsOldestOfAll r.done d.done r.there k new r.between between after r.serves d.serves; last = d.last }) in
    (goes_on start journal later (drained start later) r.there new before r.between after r.leads whole.0, whole.1)

-- ---- a message without handles, on a client's endpoint that is bound while nothing waits

-- whoever is bound while nothing waits lives, and nobody hung up on it
lives_so : (dead live hung : Bool) → dead ≡ false → live ≡ true → hung ≡ false → (if dead then standing.Dead else if live then (if hung then standing.HungUp else standing.Live) else standing.Unused) ≡ standing.Live
lives_so false true false d l h = refl
lives_so false true true d l h = absurd cc
lives_so false false hung d l h = absurd cc
lives_so true live hung d l h = absurd cc

-- a bound endpoint
record Lives (start : Start) (history : History) (endpoint : ℕ) : Type 0 where
  undead : is_dead history endpoint ≡ false
  live : is_live start history endpoint ≡ true

not_false : (b : Bool) → not b ≡ true → b ≡ false
not_false false e = refl
not_false true e = absurd cc

bound_by : (start : Start) (journal : Journal) (endpoint server : ℕ) (found : Option (Bound × Position)) → at_in (view_behind start journal) endpoint ≡ found → option_map (λ (pair : Bound × Position). pair.0.server) found ≡ Some server →
    Lives start (history_of start journal) endpoint
bound_by start journal endpoint server None is some = absurd cc
bound_by start journal endpoint server (Some pair) is some =
    let history = history_of start journal in
    let there = found (λ (pair : Bound × Position). pair.0.endpoint == endpoint) (view_behind start journal).living pair is in
    let of = mapped_member (with_position history) pair (living start history) there.0 in
    let at : of.0.endpoint ≡ endpoint = ap (λ (p : Bound × Position). p.0.endpoint) of.2 ∙ eqb-true pair.0.endpoint endpoint there.1 in
    let kept = kept_of (λ (bound : Bound). not (is_dead history bound.endpoint)) (births start history) of.0 of.1 in
    record {
      undead = ap (is_dead history) (sym at) ∙ not_false (is_dead history of.0.endpoint) kept.1;
      live = or_left (is_bound start history endpoint) _ (is_found (λ (bound : Bound). bound.endpoint == endpoint) (living start history) of.0 of.1 (eq-eqb of.0.endpoint endpoint at));
    }

pub bound_lives : (most : ℕ) (world : World) (endpoint server : ℕ) → IsRunning most world → server_of world.queues endpoint ≡ Some server → count world.queues ≡ 0 →
    known_standing world.known endpoint ≡ standing.Live
bound_lives most world endpoint server r bound none =
    let history = history_of r.start r.journal in
    let lives = bound_by r.start r.journal endpoint server (at_in (view_behind r.start r.journal) endpoint) refl (sym (r.stands.holds.queues.bound endpoint) ∙ bound) in
    r.stands.knows.standing endpoint
    ∙ lives_so (is_dead history endpoint) (is_live r.start history endpoint) (hung_up history endpoint) lives.undead lives.live (by_hang_up lives.undead (hung_up history endpoint) refl)
  where
    by_hang_up : is_dead (history_of r.start r.journal) endpoint ≡ false → (b : Bool) → hung_up (history_of r.start r.journal) endpoint ≡ b → b ≡ false
    by_hang_up undead false e = refl
    by_hang_up undead true e =
        let waits = hang_ups_wait r.start r.journal endpoint r.stands.lawful e undead in
        sym waits ∙ ap (list_any (λ (sent : Sent). is_hang_up sent.sending && (sent.endpoint == endpoint))) (nothing_waits most world r none)

-- for want of room it is refused, where its endpoint lives, and for nothing else
abbrev pub for_want_of_room : Known → Option Refusal
for_want_of_room known =
    first_of (cause_if (is_full (known_look_ups known)) refusal.ShouldWait ∷ cause_if (too_many (known_look_ups known) []) refusal.NoResources ∷ [])

plain_refusal : (known : Known) (endpoint : ℕ) → is_client endpoint ≡ true → known_standing known endpoint ≡ standing.Live → refusal_by kind.Message (known_look_ups known) endpoint [] ≡ for_want_of_room known
plain_refusal known endpoint client lives = λ i.
    first_of
    (by_standing (lives i)
    ∷ cause_if (not (client i)) refusal.BadHandle
    ∷ cause_if (not true) refusal.BadHandle
    ∷ cause_if (is_full (known_look_ups known)) refusal.ShouldWait
    ∷ cause_if (too_many (known_look_ups known) []) refusal.NoResources
    ∷ [])

-- what admits it, and what refuses it
pub plain_admission : (known : Known) (frame : Frame) (first : Option Refusal) → IsPlain frame → known_standing known frame.endpoint ≡ standing.Live → for_want_of_room known ≡ first → admission (known_look_ups known) frame ≡ first
plain_admission known frame first plain lives is =
    (λ i. refusal_by (plain.message i) (known_look_ups known) frame.endpoint (plain.bare i)) ∙ plain_refusal known frame.endpoint plain.client lives ∙ is

pub plain_admits : (old new : Known) (frame : Frame) → IsPlain frame → SendsHandles old [] new → Admits old frame new
plain_admits old new frame plain sends =
    subst (λ (k : FrameKind). AdmitsKind k old frame.endpoint frame.handles new) (sym plain.message) (subst (λ (handles : List ℕ). SendsHandles old handles new) (sym plain.bare) sends)
