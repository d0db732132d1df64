-- What a frame leaves, whether it is refused or admitted, and behind its admission waits or is served.
use Rattle.std.proofs.Common.{◌≡◌, ℕ, ◌+◌, ◌<◌, ◌≤◌, ◌==◌, Bool, true, false, not, List, [], ◌∷◌, ◌++◌, Option, Some, None, refl, sym, ap, ◌∙◌, subst, arith}
use Rattle.std.specs.Prelude.{All}
use Rattle.std.proofs.lemmas.Bool.{leb-false}
use Rattle.std.proofs.lemmas.List.Elements.{All-filter}
use Rattle.fidl_names.specs.First.{cause_if, first_of}
use Rattle.fidl_names.specs.HandleNumber.{is_client}
use Rattle.fidl_names.specs.declared.limits.TheConstants as limit
use Rattle.fidl_wire.specs.Names.{AreDistinct}
use Rattle.link_admission.specs.Admission.{Admits, AdmitsKind, admission, all_may_travel, by_standing, is_full, look_ups as known_look_ups, refusal_by, too_many}
use Rattle.link_frames.specs.Frames.{Frame, IsFrame, spelling}
use Rattle.link_frames.specs.Numbers.{word_in}
use Rattle.link_admission.specs.Standings.{Known}
use Rattle.link_frames.specs.declared.kinds.FrameKind.{FrameKind}
use Rattle.link_frames.specs.declared.kinds.FrameKind.TheVariants as kind
use Rattle.link_frames.specs.declared.kinds.Refusal.{Refusal}
use Rattle.link_frames.specs.declared.kinds.Refusal.TheVariants as refusal
use Rattle.link_frames.specs.declared.kinds.Side.TheVariants.{ToServers}
use Rattle.vfs_journal.specs.Entries.{Journal, Sending, Sent, hang_up, message}
use Rattle.vfs_journal.specs.Output.{refused_frame}
use Rattle.vfs_journal.specs.Past.{history_of}
use Rattle.vfs_journal.specs.Session.{admitted, arrives, by_refusal, look_ups, turned}
use Rattle.vfs_journal.specs.Starts.{Start}
use Rattle.journal_laws.specs.Viewing.{view_behind}
use Rattle.journal_laws.proofs.Below.{below}
use Rattle.journal_laws.proofs.Fits.{views_fit}
use Rattle.message_queues.specs.Queues.{Requeues, queue_of}
use Rattle.message_queues.proofs.Counting.{counts_its_list}
use Rattle.vfs_world.specs.Running.{IsRunning}
use Rattle.vfs_world.specs.Servings.{IsPick, IsTurn}
use Rattle.vfs_world.specs.World.{LeadsTo, StandsFor, World}
use Rattle.vfs_world.proofs.Heard.{SendsIt, admits_same, hang_up_on, message_on, refused_on}
use Rattle.vfs_world.proofs.Lasting.{lasts_hang_up, lasts_message, lasts_more, lasts_refused}
use Rattle.vfs_world.proofs.Serves.{pick_leads, turn_leads}
use Rattle.vfs_world.specs.Arrivals.{CanWait, IsAdmitted, WaitsLast}

-- ---- the journal behind a frame

-- looking back admits what is admitted
admits_too : AreDistinct → (start : Start) (journal : Journal) (world : World) (frame : Frame) → StandsFor start world journal → admission (known_look_ups world.known) frame ≡ None →
    admission (look_ups start (history_of start journal)) frame ≡ None
admits_too apart start journal world frame s none = sym (admits_same (below apart) start journal world frame s) ∙ none

arrives_by : AreDistinct → (start : Start) (journal : Journal) (world : World) (frame : Frame) (one : FrameKind) → StandsFor start world journal → admission (known_look_ups world.known) frame ≡ None → frame.kind ≡ one →
    arrives start journal frame ≡ admitted start journal one frame
arrives_by apart start journal world frame one s none is =
    ap (by_refusal start journal frame) (admits_too apart start journal world frame s none) ∙ ap (λ (k : FrameKind). admitted start journal k frame) is

-- its places are few
pub places_low : (most : ℕ) (world : World) → IsRunning most world → world.places ≤ most
places_low most world r = let places = r.stands.holds.places in let few = r.few in omega (arith, places, few)

-- ---- a refused frame

-- only a place is taken
abbrev pub placed : World → World
placed world = record world { places = world.places + 1 }

pub refused_leads : AreDistinct → (start : Start) (journal : Journal) (old new : World) (frame : Frame) (why : Refusal) (before after : List ℕ) → StandsFor start old journal → IsFrame ToServers frame →
    admission (known_look_ups old.known) frame ≡ Some why → new ≡ placed old → after ≡ before ++ spelling (refused_frame frame.endpoint why) → LeadsTo start (arrives start journal frame) new journal before after
refused_leads apart start journal old new frame why before after s is some takes written =
    refused_on (below apart) start journal old new frame why before after s is some
    (record {
      servers = ap (λ (w : World). w.servers) takes;
      queues = ap (λ (w : World). w.queues) takes;
      known = ap (λ (w : World). w.known) takes;
      places = ap (λ (w : World). w.places) takes;
      able = ap (λ (w : World). w.spent) takes ∙ s.able;
    }) written

pub refused_lasts : (most : ℕ) (old new : World) (frame : Frame) (why : Refusal) → IsRunning most old → IsFrame ToServers frame → admission (known_look_ups old.known) frame ≡ Some why → new ≡ placed old → IsRunning (most + limit.FRAME_PLACES) new
refused_lasts most old new frame why r is some takes =
    let leads : LeadsTo r.start (arrives r.start r.journal frame) new r.journal [] (spelling (refused_frame frame.endpoint why)) =
    refused_leads r.apart r.start r.journal old new frame why [] (spelling (refused_frame frame.endpoint why)) r.stands is some takes refl in
    lasts_refused most old new r frame.endpoint why
    (subst (λ (j : Journal). StandsFor r.start new j)
    (ap (by_refusal r.start r.journal frame) (sym (admits_same (below r.apart) r.start r.journal old frame r.stands) ∙ some)) leads.stands)

-- ---- one more can wait

fourth_none : (a b d e : Option Refusal) (rest : List (Option Refusal)) → first_of (a ∷ b ∷ d ∷ e ∷ rest) ≡ None → e ≡ None
fourth_none None None None None rest h = refl
fourth_none None None None (Some why) rest h = absurd (cc)
fourth_none None None (Some why) e rest h = absurd (cc)
fourth_none None (Some why) d e rest h = absurd (cc)
fourth_none (Some why) b d e rest h = absurd (cc)

third_none : (a b d : Option Refusal) (rest : List (Option Refusal)) → first_of (a ∷ b ∷ d ∷ rest) ≡ None → d ≡ None
third_none None None None rest h = refl
third_none None None (Some why) rest h = absurd (cc)
third_none None (Some why) d rest h = absurd (cc)
third_none (Some why) b d rest h = absurd (cc)

no_cause : (test : Bool) (why : Refusal) → cause_if test why ≡ None → test ≡ false
no_cause true why h = absurd (cc)
no_cause false why h = refl

message_fits : (known : Known) (frame : Frame) → frame.kind ≡ kind.Message → admission (known_look_ups known) frame ≡ None → known.waiting < limit.MAX_WAITING
message_fits known frame is none =
    let l = known_look_ups known in
    let by_kind = subst (λ (k : FrameKind). refusal_by k l frame.endpoint frame.handles ≡ None) is none in
    leb-false limit.MAX_WAITING known.waiting
    (no_cause (is_full l) refusal.ShouldWait
    (fourth_none (by_standing (l.standing frame.endpoint)) (cause_if (not (is_client frame.endpoint)) refusal.BadHandle) (cause_if (not (all_may_travel l frame.handles)) refusal.BadHandle)
    (cause_if (is_full l) refusal.ShouldWait) (cause_if (too_many l frame.handles) refusal.NoResources ∷ []) by_kind))

hang_up_fits : (known : Known) (frame : Frame) → frame.kind ≡ kind.Close → admission (known_look_ups known) frame ≡ None → known.waiting < limit.MAX_WAITING
hang_up_fits known frame is none =
    let l = known_look_ups known in
    let by_kind = subst (λ (k : FrameKind). refusal_by k l frame.endpoint frame.handles ≡ None) is none in
    leb-false limit.MAX_WAITING known.waiting
    (no_cause (is_full l) refusal.ShouldWait
    (third_none (by_standing (l.standing frame.endpoint)) (cause_if (not (is_client frame.endpoint)) refusal.BadHandle) (cause_if (is_full l) refusal.ShouldWait) [] by_kind))

can_wait : (old now : World) (frame : Frame) → IsRunning limit.MAX_PLACES old → IsAdmitted old frame now → old.known.waiting < limit.MAX_WAITING → CanWait now
can_wait old now frame r admitted few =
    let view = view_behind r.start r.journal in
    let fit = views_fit (below r.apart) r.start r.journal r.stands.sound r.stands.lawful in
    let holds = r.stands.holds in
    let places = holds.places in
    let known = r.stands.knows.waiting in
    let counted = counts_its_list old.queues view.waiting holds.queues.queue in
    let least = r.few in
    subst CanWait (sym admitted.same)
    (record {
      newest = λ endpoint.
          subst (λ (n : ℕ). All (λ (one : Sent). one.place < n) (queue_of old.queues endpoint)) (sym places)
          (subst (All (λ (one : Sent). one.place < view.places)) (sym (holds.queues.queue endpoint)) (All-filter (λ one. one.endpoint == endpoint) (λ one. one.place < view.places) view.waiting fit.below));
      few = omega (arith, counted, known, few);
      low = omega (arith, places, least);
    })

pub message_can_wait : (old now : World) (frame : Frame) → IsRunning limit.MAX_PLACES old → IsAdmitted old frame now → frame.kind ≡ kind.Message → CanWait now
message_can_wait old now frame r admitted is = can_wait old now frame r admitted (message_fits old.known frame is admitted.none)

pub hang_up_can_wait : (old now : World) (frame : Frame) → IsRunning limit.MAX_PLACES old → IsAdmitted old frame now → frame.kind ≡ kind.Close → CanWait now
hang_up_can_wait old now frame r admitted is = can_wait old now frame r admitted (hang_up_fits old.known frame is admitted.none)

-- ---- it waits

sends_it : (old now new : World) (frame : Frame) (sending : Sending) → old.spent ≡ false → IsAdmitted old frame now → WaitsLast now frame.endpoint sending new → SendsIt old frame sending new
sends_it old now new frame sending able admitted waits = record {
  servers = ap (λ (w : World). w.servers) waits.same ∙ ap (λ (w : World). w.servers) admitted.same;
  queued =
      subst (λ (w : World). Requeues w.queues frame.endpoint (queue_of w.queues frame.endpoint ++ record { place = w.places; endpoint = frame.endpoint; sending = sending; origin = None } ∷ []) new.queues)
      admitted.same waits.queued;
  known = subst (λ (k : Known). Admits old.known frame k) (sym (ap (λ (w : World). w.known) waits.same)) admitted.admits;
  places = ap (λ (w : World). w.places) waits.same ∙ ap (λ (w : World). w.places + 1) admitted.same;
  able = ap (λ (w : World). w.spent) waits.same ∙ ap (λ (w : World). w.spent) admitted.same ∙ able;
}

pub message_leads : AreDistinct → (start : Start) (journal : Journal) (old now new : World) (frame : Frame) (before : List ℕ) → StandsFor start old journal → IsFrame ToServers frame → frame.kind ≡ kind.Message →
    IsAdmitted old frame now → WaitsLast now frame.endpoint (message frame.bytes frame.handles) new → LeadsTo start (arrives start journal frame) new journal before before
message_leads apart start journal old now new frame before s is e admitted waits =
    message_on (below apart) start journal old new frame before s is e admitted.none (sends_it old now new frame (message frame.bytes frame.handles) s.able admitted waits)

pub hang_up_leads : AreDistinct → (start : Start) (journal : Journal) (old now new : World) (frame : Frame) (before : List ℕ) → StandsFor start old journal → IsFrame ToServers frame → frame.kind ≡ kind.Close →
    IsAdmitted old frame now → WaitsLast now frame.endpoint hang_up new → LeadsTo start (arrives start journal frame) new journal before before
hang_up_leads apart start journal old now new frame before s is e admitted waits =
    hang_up_on (below apart) start journal old new frame before s is e admitted.none (sends_it old now new frame hang_up s.able admitted waits)

pub message_lasts : (most : ℕ) (old now new : World) (frame : Frame) → IsRunning most old → IsFrame ToServers frame → frame.kind ≡ kind.Message → IsAdmitted old frame now →
    WaitsLast now frame.endpoint (message frame.bytes frame.handles) new → IsRunning (most + limit.FRAME_PLACES) new
message_lasts most old now new frame r is e admitted waits =
    let leads : LeadsTo r.start (arrives r.start r.journal frame) new r.journal [] [] = message_leads r.apart r.start r.journal old now new frame [] r.stands is e admitted waits in
    lasts_message most old new r frame (admits_too r.apart r.start r.journal old frame r.stands admitted.none) e
    (subst (λ (j : Journal). StandsFor r.start new j) (arrives_by r.apart r.start r.journal old frame kind.Message r.stands admitted.none e) leads.stands)

pub hang_up_lasts : (most : ℕ) (old now new : World) (frame : Frame) → IsRunning most old → IsFrame ToServers frame → frame.kind ≡ kind.Close → IsAdmitted old frame now →
    WaitsLast now frame.endpoint hang_up new → IsRunning (most + limit.FRAME_PLACES) new
hang_up_lasts most old now new frame r is e admitted waits =
    let leads : LeadsTo r.start (arrives r.start r.journal frame) new r.journal [] [] = hang_up_leads r.apart r.start r.journal old now new frame [] r.stands is e admitted waits in
    lasts_hang_up most old new r frame (admits_too r.apart r.start r.journal old frame r.stands admitted.none) e
    (subst (λ (j : Journal). StandsFor r.start new j) (arrives_by r.apart r.start r.journal old frame kind.Close r.stands admitted.none e) leads.stands)

-- ---- it is served

same_known : (old now : World) → now ≡ record old { known = now.known } → now.known ≡ old.known → now ≡ old
same_known old now same known = same ∙ ap (λ (k : Known). record old { known = k }) known

pub turn_same : (old now : World) (frame : Frame) → frame.kind ≡ kind.Turn → IsAdmitted old frame now → now ≡ old
turn_same old now frame e admitted =
    same_known old now admitted.same (subst (λ (k : FrameKind). AdmitsKind k old.known frame.endpoint frame.handles now.known) e admitted.admits)

pub pick_same : (old now : World) (frame : Frame) → frame.kind ≡ kind.Pick → IsAdmitted old frame now → now ≡ old
pick_same old now frame e admitted =
    same_known old now admitted.same (subst (λ (k : FrameKind). AdmitsKind k old.known frame.endpoint frame.handles now.known) e admitted.admits)

pub turn_on : AreDistinct → (start : Start) (journal : Journal) (old now new : World) (frame : Frame) (times done : ℕ) (before after : List ℕ) → StandsFor start old journal → frame.kind ≡ kind.Turn → IsAdmitted old frame now →
    times ≡ word_in frame.bytes → IsTurn frame.endpoint times done now new before after → LeadsTo start (arrives start journal frame) new journal before after
turn_on apart start journal old now new frame times done before after s e admitted is turn =
    subst (λ (j : Journal). LeadsTo start j new journal before after) (sym (arrives_by apart start journal old frame kind.Turn s admitted.none e))
    (subst (λ (n : ℕ). LeadsTo start (turned start frame.endpoint n journal) new journal before after) is
    (turn_leads apart start journal frame.endpoint times done old new before after s
    (subst (λ (w : World). IsTurn frame.endpoint times done w new before after) (turn_same old now frame e admitted) turn)))

pub pick_on : AreDistinct → (start : Start) (journal : Journal) (old now new : World) (frame : Frame) (before after : List ℕ) → StandsFor start old journal → frame.kind ≡ kind.Pick → IsAdmitted old frame now →
    IsPick frame.endpoint now new before after → LeadsTo start (arrives start journal frame) new journal before after
pick_on apart start journal old now new frame before after s e admitted pick =
    subst (λ (j : Journal). LeadsTo start j new journal before after) (sym (arrives_by apart start journal old frame kind.Pick s admitted.none e))
    (pick_leads apart start journal frame.endpoint old new before after s
    (subst (λ (w : World). IsPick frame.endpoint w new before after) (pick_same old now frame e admitted) pick))

-- what runs behind the admission of a Turn or a Pick ran before
pub runs_now : (most : ℕ) (old now : World) → now ≡ old → IsRunning most old → IsRunning most now
runs_now most old now same r = subst (IsRunning most) (sym same) r

pub runs_on : (most : ℕ) (world : World) → IsRunning most world → IsRunning (most + limit.FRAME_PLACES) world
runs_on most world r = lasts_more most (most + limit.FRAME_PLACES) world (omega arith) r
