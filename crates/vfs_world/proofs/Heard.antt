-- What a frame leaves before anything is served for it.
use Rattle.std.proofs.Common.{◌≡◌, ℕ, suc, ◌+◌, ◌<◌, ◌≤◌, ◌==◌, ◌&&◌, ◌⊎◌, Bool, true, false, not, if◌then◌else◌, Contains, inl, inr, List, [], ◌∷◌, ◌++◌, length, Some, None, append-nil, refl, sym, ap, ◌∙◌, subst, arith}
use Rattle.std.proofs.lemmas.Bool.{and_parts, eqb-true, or_cases, true≢false}
use Rattle.std.proofs.lemmas.List.Elements.{All-contains}
use Rattle.std.proofs.lemmas.Grind.{flat_map-append}
use Rattle.fidl_names.specs.HandleNumber.{is_client}
use Rattle.fidl_names.specs.declared.limits.TheConstants as limit
use Rattle.link_admission.specs.Admission.{Admits, admission, look_ups as known_look_ups}
use Rattle.link_frames.specs.Frames.{Frame, IsFrame, spelling}
use Rattle.link_admission.specs.Numbering.{among}
use Rattle.link_frames.specs.declared.kinds.FrameKind.{FrameKind}
use Rattle.link_frames.specs.declared.kinds.FrameKind.TheVariants as kind
use Rattle.link_frames.specs.declared.kinds.Refusal.{Refusal}
use Rattle.link_frames.specs.declared.kinds.Side.TheVariants.{ToServers}
use Rattle.vfs_journal.specs.Entries.{Journal, Sending, Sent, handles_of, hang_up, message, refuses, sends}
use Rattle.vfs_journal.specs.Fit.{IsFit}
use Rattle.vfs_journal.specs.History.{is_used}
use Rattle.vfs_journal.specs.Lawful.{Lawful}
use Rattle.vfs_journal.specs.Outcomes.{Given}
use Rattle.vfs_journal.specs.Lawful as lawful
use Rattle.vfs_journal.specs.Output.{frames_of, output_of, refused_frame}
use Rattle.vfs_journal.specs.Past.{event_of, history_of}
use Rattle.vfs_journal.specs.Session.{admitted, arrives, by_refusal, look_ups, sent_behind}
use Rattle.vfs_journal.specs.Starts.{Start}
use Rattle.vfs_journal.specs.Tokens.{is_held}
use Rattle.vfs_journal.specs.View.{View, is_held_in, queue_in, refusing_in, sending_in}
use Rattle.journal_laws.specs.Knowing.{Knows}
use Rattle.journal_laws.specs.Viewing.{view_behind}
use Rattle.journal_laws.proofs.Below.{Below}
use Rattle.journal_laws.proofs.Fits.{views_fit}
use Rattle.journal_laws.proofs.Kept.{client_low, message_admitted, refusal_of}
use Rattle.journal_laws.proofs.KnowingAdmits.{knowers_admit, refusals_known}
use Rattle.journal_laws.proofs.KnowingSent.{hang_ups_known, messages_known}
use Rattle.journal_laws.proofs.Lists.{eqb_sym}
use Rattle.journal_laws.proofs.LookedUp.{queue_sent}
use Rattle.journal_laws.proofs.ViewLaws.{hang_up_viewed, message_viewed}
use Rattle.journal_laws.proofs.ViewParts.{held_is}
use Rattle.journal_laws.proofs.ViewSteps.{refused_viewed}
use Rattle.message_queues.specs.Queues.{Requeues, queue_of}
use Rattle.vfs_server.specs.Servers.{Server}
use Rattle.vfs_world.specs.Holding.{HoldsEach, HoldsQueues}
use Rattle.vfs_world.specs.World.{Holds, LeadsTo, StandsFor, World}
use Rattle.vfs_world.proofs.EachServer.{each_same, indexed, numbered}
use Rattle.vfs_world.proofs.Leaving.{out_sent}

-- ---- what is written

refusal_written : (start : Start) (journal : Journal) (endpoint : ℕ) (why : Refusal) →
    output_of start (refuses endpoint why ∷ journal) ≡ output_of start journal ++ spelling (refused_frame endpoint why)
unfolding history_of event_of
refusal_written start journal endpoint why =
    flat_map-append spelling (frames_of start (history_of start journal)) (refused_frame endpoint why ∷ [])
    ∙ ap (λ (bytes : List ℕ). output_of start journal ++ bytes) (append-nil (spelling (refused_frame endpoint why)))

nothing_written : (start : Start) (journal : Journal) (sent : Sent) → output_of start (sends sent ∷ journal) ≡ output_of start journal ++ []
unfolding history_of event_of
nothing_written start journal sent = flat_map-append spelling (frames_of start (history_of start journal)) []

-- ---- a frame is refused

pub admits_same : Below → (start : Start) (journal : Journal) (world : World) (frame : Frame) → StandsFor start world journal → admission (known_look_ups world.known) frame ≡ admission (look_ups start (history_of start journal)) frame
admits_same below start journal world frame s = knowers_admit below start journal world.known frame s.sound s.lawful s.knows

-- only a place is taken
pub record TakesPlace (old new : World) : Type 0 where
  pub servers : new.servers ≡ old.servers
  pub queues : new.queues ≡ old.queues
  pub known : new.known ≡ old.known
  pub places : new.places ≡ old.places + 1
  pub able : new.spent ≡ false

refusing_each : (view : View) (servers : List Server) → HoldsEach view servers → HoldsEach (refusing_in view) servers
refusing_each view servers h = record {
  many = h.many;
  index = h.index;
  each = λ i server e. let x = h.each i server e in record { bound = x.bound; count = x.count; watchers = x.watchers; tokens = x.tokens; tree = x.tree; holds = x.holds };
}

refused_holds : (view : View) (old new : World) → Holds view old → TakesPlace old new → Holds (refusing_in view) new
refused_holds view old new h takes = record {
  servers = subst (HoldsEach (refusing_in view)) (sym takes.servers) (refusing_each view old.servers h.servers);
  queues = subst (HoldsQueues (refusing_in view)) (sym takes.queues) (record { queue = h.queues.queue; bound = h.queues.bound; those = h.queues.those });
  places = let a = h.places in let b = takes.places in omega (arith, a, b);
}

pub refused_on : Below → (start : Start) (journal : Journal) (old new : World) (frame : Frame) (why : Refusal) (before after : List ℕ) → StandsFor start old journal → IsFrame ToServers frame →
    admission (known_look_ups old.known) frame ≡ Some why → TakesPlace old new → after ≡ before ++ spelling (refused_frame frame.endpoint why) → LeadsTo start (arrives start journal frame) new journal before after
unfolding history_of
refused_on below start journal old new frame why before after s is refuses' takes written =
    let past = history_of start journal in
    let refused = sym (admits_same below start journal old frame s) ∙ refuses' in
    subst (λ (j : Journal). LeadsTo start j new journal before after) (sym (ap (by_refusal start journal frame) refused))
    (record {
      stands = record {
        able = takes.able;
        sound = s.sound;
        lawful = lawful.refused journal frame why s.lawful is refused;
        knows = subst (Knows start (history_of start (refuses frame.endpoint why ∷ journal))) (sym takes.known)
            (refusals_known start journal frame.endpoint why old.known s.knows);
        holds = subst (λ (v : View). Holds v new) (sym (refused_viewed start past frame.endpoint why)) (refused_holds (view_behind start journal) old new s.holds takes);
      };
      part = spelling (refused_frame frame.endpoint why);
      more = refusal_written start journal frame.endpoint why;
      written = written;
    })

-- ---- a message or a hang-up is sent

-- it waits behind all others, and takes a place; what is known is as its admission leaves it
pub record SendsIt (old : World) (frame : Frame) (sending : Sending) (new : World) : Type 0 where
  pub servers : new.servers ≡ old.servers
  pub queued : Requeues old.queues frame.endpoint (queue_of old.queues frame.endpoint ++ record { place = old.places; endpoint = frame.endpoint; sending = sending; origin = None } ∷ []) new.queues
  pub known : Admits old.known frame new.known
  pub places : new.places ≡ old.places + 1
  pub able : new.spent ≡ false

sent_holds : (view : View) (old new : World) (frame : Frame) (sending : Sending) (sent : Sent) → Holds view old → ((one : Given) → Contains view.given one → among one.token (handles_of sending) ≡ true → is_held_in view one.token ≡ true) → SendsIt old frame sending new →
    record { place = old.places; endpoint = frame.endpoint; sending = sending; origin = None } ≡ sent → Holds (sending_in view sent) new
sent_holds view old new frame sending sent h held s is = record {
  servers = subst (HoldsEach (sending_in view sent)) (sym s.servers)
      (indexed (sending_in view sent) old.servers
      (each_same view (sending_in view sent) old.servers refl refl refl
      (λ one c. out_sent view sent one.token (λ carried. held one c (ap (λ (x : Sent). among one.token (handles_of x.sending)) is ∙ carried)))
      (numbered view old.servers h.servers)));
  queues = record {
    queue = λ n. s.queued.waiting n ∙ by_test n (n == frame.endpoint) refl ∙ sym (queue_sent view sent n);
    bound = λ n. s.queued.bound n ∙ h.queues.bound n;
    those = s.queued.those ∙ h.queues.those;
  };
  places = let a = h.places in let b = s.places in omega (arith, a, b);
} where
  at : frame.endpoint ≡ sent.endpoint
  at = ap (λ (x : Sent). x.endpoint) is

  by_test : (n : ℕ) (b : Bool) → (n == frame.endpoint) ≡ b →
      (if b then queue_of old.queues frame.endpoint ++ record { place = old.places; endpoint = frame.endpoint; sending = sending; origin = None } ∷ [] else queue_of old.queues n)
      ≡ queue_in view n ++ (if sent.endpoint == n then sent ∷ [] else [])
  by_test n true e =
      ap (λ (x : Sent). queue_of old.queues frame.endpoint ++ x ∷ []) is
      ∙ ap (λ (m : ℕ). queue_of old.queues m ++ sent ∷ []) (sym (eqb-true n frame.endpoint e))
      ∙ ap (λ (q : List Sent). q ++ sent ∷ []) (h.queues.queue n)
      ∙ ap (λ (b : Bool). queue_in view n ++ (if b then sent ∷ [] else [])) (sym (ap (λ (m : ℕ). m == n) (sym at) ∙ eqb_sym frame.endpoint n ∙ e))
  by_test n false e =
      h.queues.queue n
      ∙ sym (append-nil (queue_in view n))
      ∙ ap (λ (b : Bool). queue_in view n ++ (if b then sent ∷ [] else [])) (sym (ap (λ (m : ℕ). m == n) (sym at) ∙ eqb_sym frame.endpoint n ∙ e))

sent_is : (places n endpoint : ℕ) (sending : Sending) → places ≡ n →
    ◌≡◌ {A = Sent} (record { place = places; endpoint = endpoint; sending = sending; origin = None }) (record { place = n; endpoint = endpoint; sending = sending; origin = None })
sent_is places n endpoint sending e = λ i. record { place = e i; endpoint = endpoint; sending = sending; origin = None }

-- the view's places are the journal's entries
history_long : (start : Start) (journal : Journal) → length (history_of start journal) ≡ length journal
unfolding history_of
history_long start [] = refl
history_long start (entry ∷ journal) = ap (λ (n : ℕ). suc n) (history_long start journal)

places_are : (start : Start) (journal : Journal) → (view_behind start journal).places ≡ length journal
places_are start journal = history_long start journal

-- a token that an admitted message carries was held
held_before : Below → (start : Start) (journal : Journal) (frame : Frame) {world : World} → StandsFor start world journal → frame.kind ≡ kind.Message → admission (look_ups start (history_of start journal)) frame ≡ None →
    (one : Given) → Contains (view_behind start journal).given one → among one.token frame.handles ≡ true → is_held_in (view_behind start journal) one.token ≡ true
held_before below start journal frame s e let_in one c carried =
    let past = history_of start journal in
    let view = view_behind start journal in
    let fit : IsFit view = views_fit below start journal s.sound s.lawful in
    let high = (All-contains (λ (given : Given). (limit.FIRST_TOKEN ≤ given.token) × (given.token < limit.FIRST_TOKEN + length view.given)) view.given one fit.numbered c).0 in
    let admitted = message_admitted start past frame.endpoint frame.handles (refusal_of (look_ups start past) frame kind.Message e let_in) in
    sym (held_is start past one.token) ∙ by_side high (or_cases (is_client one.token && not (is_used start past one.token)) (is_held past one.token) (admitted.travel one.token carried)) where
      by_side : limit.FIRST_TOKEN ≤ one.token → ((is_client one.token && not (is_used start (history_of start journal) one.token)) ≡ true) ⊎ (is_held (history_of start journal) one.token ≡ true) →
          is_held (history_of start journal) one.token ≡ true
      by_side high (inl h) = let low = client_low one.token (and_parts (is_client one.token) (not (is_used start (history_of start journal) one.token)) h).0 in absurd (omega (arith, low, high))
      by_side high (inr h) = h

pub message_on : Below → (start : Start) (journal : Journal) (old new : World) (frame : Frame) (before : List ℕ) → StandsFor start old journal → IsFrame ToServers frame → frame.kind ≡ kind.Message →
    admission (known_look_ups old.known) frame ≡ None → SendsIt old frame (message frame.bytes frame.handles) new → LeadsTo start (arrives start journal frame) new journal before before
message_on below start journal old new frame before s is e admits sends' =
    let let_in = sym (admits_same below start journal old frame s) ∙ admits in
    let sent = sent_behind journal frame.endpoint (message frame.bytes frame.handles) None in
    subst (λ (j : Journal). LeadsTo start j new journal before before)
    (sym (ap (by_refusal start journal frame) let_in ∙ ap (λ (one : FrameKind). admitted start journal one frame) e))
    (record {
      stands = record {
        able = sends'.able;
        sound = s.sound;
        lawful = lawful.sent journal frame s.lawful is e let_in;
        knows = messages_known below start journal frame old.known new.known s.sound s.lawful e let_in s.knows sends'.known;
        holds = subst (λ (v : View). Holds v new) (sym (message_viewed start journal frame s.lawful let_in e))
            (sent_holds (view_behind start journal) old new frame (message frame.bytes frame.handles) sent s.holds (λ one c carried. held_before below start journal frame s e let_in one c carried) sends'
            (sent_is old.places (length journal) frame.endpoint (message frame.bytes frame.handles) (s.holds.places ∙ places_are start journal)));
      };
      part = [];
      more = nothing_written start journal sent;
      written = sym (append-nil before);
    })

pub hang_up_on : Below → (start : Start) (journal : Journal) (old new : World) (frame : Frame) (before : List ℕ) → StandsFor start old journal → IsFrame ToServers frame → frame.kind ≡ kind.Close →
    admission (known_look_ups old.known) frame ≡ None → SendsIt old frame hang_up new → LeadsTo start (arrives start journal frame) new journal before before
hang_up_on below start journal old new frame before s is e admits sends' =
    let let_in = sym (admits_same below start journal old frame s) ∙ admits in
    let sent = sent_behind journal frame.endpoint hang_up None in
    subst (λ (j : Journal). LeadsTo start j new journal before before)
    (sym (ap (by_refusal start journal frame) let_in ∙ ap (λ (one : FrameKind). admitted start journal one frame) e))
    (record {
      stands = record {
        able = sends'.able;
        sound = s.sound;
        lawful = lawful.closed journal frame s.lawful is e let_in;
        knows = hang_ups_known below start journal frame old.known new.known s.sound s.lawful e let_in s.knows sends'.known;
        holds = subst (λ (v : View). Holds v new) (sym (hang_up_viewed start journal frame s.lawful let_in e))
            (sent_holds (view_behind start journal) old new frame hang_up sent s.holds (λ one c carried. absurd (true≢false (sym carried))) sends'
            (sent_is old.places (length journal) frame.endpoint hang_up (s.holds.places ∙ places_are start journal)));
      };
      part = [];
      more = nothing_written start journal sent;
      written = sym (append-nil before);
    })
