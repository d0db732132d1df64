-- Endpoints agree with the table behind each frame that arrives.
use Rattle.std.proofs.Common.{◌≡◌, ◌≢◌, ℕ, ◌==◌, ◌&&◌, ◌||◌, ◌⊎◌, Bool, true, false, is_some, List, [], ◌∷◌, ◌++◌, filter, filter_map, reverse, Option, Some, None, Contains, if◌then◌else◌, refl, sym, ap, ◌∙◌, subst, inl, inr, append-nil}
use Rattle.std.specs.List.{list_all, list_any}
use Rattle.std.specs.Prelude.{option_to_list}
use Rattle.std.proofs.lemmas.Bool.{cases_Bool, eq-eqb, eqb-false, eqb-true, false_from_ne_true, ne_eqb, or_left, or_parts, true≢false}
use Rattle.std.proofs.lemmas.List.{map-append}
use Rattle.std.proofs.lemmas.List.Elements.{Contains-append_cases, filter-append}
use Rattle.fidl_names.specs.HandleNumber.{is_client}
use Rattle.link_frames.specs.declared.kinds.Refusal.{Refusal}
use Rattle.link_frames.specs.Frames.{Frame}
use Rattle.link_admission.specs.Numbering.{among}
use Rattle.link_frames.specs.Refusals.{refused_frame}
use Rattle.conn_rules.specs.Births.{Position}
use Rattle.vfs_journal.specs.Entries.{Journal, Sending, Sent, endpoints_in, handles_of, refuses, sends}
use Rattle.vfs_journal.specs.History.{History, all_sent, bound_at, is_bound, is_dead, is_live, is_used, living, position_of, waiting, was_carried}
use Rattle.vfs_journal.specs.Lawful.{Lawful}
use Rattle.vfs_journal.specs.Output.{frames_behind, is_message}
use Rattle.vfs_journal.specs.Past.{event_of, history_of}
use Rattle.vfs_journal.specs.Session.{sent_behind}
use Rattle.vfs_journal.specs.Starts.{Bound, Start}
use Rattle.journal_laws.specs.Soundness.{Carries, IsStart}
use Rattle.journal_laws.proofs.Among.{carried_from, carried_is}
use Rattle.journal_laws.proofs.Below.{Below}
use Rattle.journal_laws.proofs.Filters.{all_of, none_kept}
use Rattle.journal_laws.proofs.Kept.{lawful_kept}
use Rattle.journal_laws.proofs.KnowingServed.{carried_lives}
use Rattle.journal_laws.proofs.Lists.{filter_map-more}
use Rattle.journal_laws.proofs.Members.{contains_cases, contains_none, found}
use Rattle.journal_laws.proofs.Queues.{what_is_sent_waits}
use Rattle.journal_laws.proofs.Sound.{endpoint_known, view}
use Rattle.journal_laws.proofs.Stepping.{stepped}
use Rattle.journal_laws.proofs.Steps.{refusals_change_nothing, sendings_wait_last}
use Rattle.journal_laws.proofs.Views.{is_view}
use Rattle.turn_law.specs.Counting.{AreLinked, counting, counts_on, is_named, is_open}
use Rattle.turn_law.specs.Invariant.{AgreesOn, IsAsTold, IsGone, TravelsAs, queue_on, sendings_of, written_on}
use Rattle.turn_law.specs.Premises.{HandlesStandOnce}
use Rattle.turn_law.specs.Tables.{SaySame}
use Rattle.turn_law.specs.Told.{is_new, messages_on, sending_by, table_of}
use Rattle.turn_law.proofs.Arriving.{counted_more, told_counted, told_uncounted, uncounted_more, unnamed_counting, unnamed_untold}
use Rattle.turn_law.proofs.Linked.{live_behind, live_same, live_used, once_carried}
use Rattle.turn_law.proofs.Touching.{frames_touch}

-- ---- what is said alike is told alike

pub told_same : (start : Start) (frames : List Frame) (bound : Bound) (queue queue' : List Sent) (position position' : Position) (written written' : List Frame) → queue ≡ queue' → position ≡ position' → written ≡ written' →
    IsAsTold start frames bound queue position written → IsAsTold start frames bound queue' position' written'
told_same start frames bound queue queue' position position' written written' a b c h =
    subst (λ (q : List Sent). IsAsTold start frames bound q position' written') a
    (subst (λ (p : Position). IsAsTold start frames bound queue p written') b
    (subst (λ (w : List Frame). IsAsTold start frames bound queue position w) c h))

pub bound_on : (start : Start) (history : History) (n : ℕ) (bound : Bound) → bound_at start history n ≡ Some bound → bound.endpoint ≡ n
bound_on start history n bound e = eqb-true bound.endpoint n (found (λ b. b.endpoint == n) (living start history) bound e).1

pub bound_live : (start : Start) (history : History) (n : ℕ) (bound : Bound) → bound_at start history n ≡ Some bound → is_live start history n ≡ true
bound_live start history n bound e = or_left (is_bound start history n) _ (ap is_some e)

-- a frame counts only on its own endpoint
pub elsewhere : (start : Start) (n : ℕ) (frames : List Frame) (frame : Frame) → frame.endpoint ≢ n → counts_on start n frames frame ≡ false
elsewhere start n frames frame other = ap (λ (b : Bool). b && (is_open start n frames && list_all (is_new start) frame.handles)) (ne_eqb frame.endpoint n other)

-- ---- an admitted frame

module _ (below : Below) (start : Start) (journal : Journal) (frames : List Frame) (frame : Frame) (sending : Sending) (s : IsStart start) (lawful' : Lawful start journal)
    (linked : AreLinked start (history_of start journal) frames) (once : HandlesStandOnce (frame ∷ frames))
    (alive : is_dead (history_of start journal) frame.endpoint ≡ false) (live : is_live start (history_of start journal) frame.endpoint ≡ true) (client' : is_client frame.endpoint ≡ true)
    (counts : counts_on start frame.endpoint frames frame ≡ true) (sends' : sending_by frame.kind frame ≡ Some sending)
    (carries : (n : ℕ) → among n frame.handles ≡ among n (handles_of sending))
    (fresh : (n : ℕ) → among n frame.handles ≡ true → (is_client n ≡ true) × (is_used start (history_of start journal) n ≡ false))
    (agrees : (n : ℕ) → is_client n ≡ true → AgreesOn start journal frames n) where
  abbrev one : Sent
  one = sent_behind journal frame.endpoint sending None

  abbrev past : History
  past = history_of start journal

  abbrev now : History
  now = history_of start (sends one ∷ journal)

  queue_now : (n : ℕ) → queue_on now n ≡ queue_on past n ++ (if frame.endpoint == n then one ∷ [] else [])
  queue_now n =
      ap (filter (λ (x : Sent). x.endpoint == n)) (what_is_sent_waits start journal frame.endpoint sending None lawful' alive)
      ∙ filter-append (λ (x : Sent). x.endpoint == n) (waiting past) (one ∷ [])

  queue_here : (n : ℕ) → frame.endpoint ≡ n → queue_on now n ≡ queue_on past n ++ one ∷ []
  queue_here n at = queue_now n ∙ ap (λ (b : Bool). queue_on past n ++ (if b then one ∷ [] else [])) (eq-eqb frame.endpoint n at)

  queue_there : (n : ℕ) → frame.endpoint ≢ n → queue_on now n ≡ queue_on past n
  queue_there n other = queue_now n ∙ ap (λ (b : Bool). queue_on past n ++ (if b then one ∷ [] else [])) (ne_eqb frame.endpoint n other) ∙ append-nil (queue_on past n)

  written_now : (n : ℕ) → written_on start (sends one ∷ journal) n ≡ written_on start journal n
  unfolding history_of event_of
  written_now n = ap (messages_on n) (append-nil (frames_behind start journal))

  position_now : (n : ℕ) → position_of now n ≡ position_of past n
  unfolding history_of
  position_now n = (sendings_wait_last start past one).same.positions n

  -- what is live isn't carried by the frame
  live_uncarried : (n : ℕ) → is_client n ≡ true → is_live start past n ≡ true → among n frame.handles ≡ false
  live_uncarried n client lives =
      false_from_ne_true (among n frame.handles) (λ h. true≢false (sym (live_used below start journal n s lawful' client lives) ∙ (fresh n h).1))

  touches : (n : ℕ) → is_client n ≡ true → frame.endpoint ≢ n → among n frame.handles ≡ false → SaySame n (table_of start (frame ∷ frames)) (table_of start frames)
  touches n client other uncarried = frames_touch below.spelled start frame frames n client other uncarried

  bound_now : (n : ℕ) → is_client n ≡ true → (bound : Bound) → bound_at start now n ≡ Some bound → IsAsTold start (frame ∷ frames) bound (queue_on now bound.endpoint) (position_of now bound.endpoint) (written_on start (sends one ∷ journal) bound.endpoint)
  unfolding history_of
  bound_now n client bound e = by_place (cases_Bool (frame.endpoint == bound.endpoint)) where
    before : bound_at start past n ≡ Some bound
    before = sym ((sendings_wait_last start past one).same.bound n) ∙ e

    on : bound.endpoint ≡ n
    on = bound_on start past n bound before

    told : IsAsTold start frames bound (queue_on past bound.endpoint) (position_of past bound.endpoint) (written_on start journal bound.endpoint)
    told = (agrees n client).bound bound before

    by_place : ((frame.endpoint == bound.endpoint) ≡ true) ⊎ ((frame.endpoint == bound.endpoint) ≡ false) → IsAsTold start (frame ∷ frames) bound (queue_on now bound.endpoint) (position_of now bound.endpoint) (written_on start (sends one ∷ journal) bound.endpoint)
    by_place (inl at) =
        let here = eqb-true frame.endpoint bound.endpoint at in
        told_same start (frame ∷ frames) bound _ _ _ _ _ _ (sym (queue_here bound.endpoint here)) (sym (position_now bound.endpoint)) (sym (written_now bound.endpoint))
        (told_counted start frame frames bound (queue_on past bound.endpoint) one (position_of past bound.endpoint) (written_on start journal bound.endpoint)
        (ap (λ (m : ℕ). counts_on start m frames frame) (sym here) ∙ counts) sends' told)
    by_place (inr other) =
        let there = eqb-false frame.endpoint bound.endpoint other in
        told_same start (frame ∷ frames) bound _ _ _ _ _ _ (sym (queue_there bound.endpoint there)) (sym (position_now bound.endpoint)) (sym (written_now bound.endpoint))
        (told_uncounted start frame frames bound (queue_on past bound.endpoint) (position_of past bound.endpoint) (written_on start journal bound.endpoint)
        (elsewhere start bound.endpoint frames frame there)
        (touches bound.endpoint (ap is_client on ∙ client) there (live_uncarried bound.endpoint (ap is_client on ∙ client) (ap (is_live start past) on ∙ bound_live start past n bound before)))
        told)

  gone_now : (n : ℕ) → is_client n ≡ true → is_live start now n ≡ false → IsGone start (sends one ∷ journal) (frame ∷ frames) n
  unfolding history_of
  gone_now n client none =
      let apart = or_parts (is_live start past n) (among n (endpoints_in one)) (sym (live_behind below start journal frame.endpoint sending n lawful' alive) ∙ none) in
      let other = λ (at : frame.endpoint ≡ n). true≢false (sym live ∙ ap (is_live start past) at ∙ apart.0) in
      let uncarried = false_from_ne_true (among n frame.handles) (λ h. true≢false (sym (carried_from one n client (sym (carries n) ∙ h)) ∙ apart.1)) in
      let same = touches n client other uncarried in
      let gone = (agrees n client).gone apart.0 in
      record { ended = same.life ∙ gone.ended; told = same.told ∙ gone.told ∙ sym (written_now n) }

  -- what was carried already
  travels_on : (n : ℕ) → is_client n ≡ true → (x : Sent) → Contains (waiting past) x → among n (endpoints_in x) ≡ true → TravelsAs start (sends one ∷ journal) (frame ∷ frames) n x
  travels_on n client x there carried = by_place (cases_Bool (frame.endpoint == n)) where
    old : TravelsAs start journal frames n x
    old = (agrees n client).travels x (there, carried)

    sent : Frame → Option Sending
    sent f = sending_by f.kind f

    queue_by : ((frame.endpoint == n) ≡ true) ⊎ ((frame.endpoint == n) ≡ false) → sendings_of (queue_on now n) ≡ filter_map (λ (f : Frame). sending_by f.kind f) (reverse (counting start n (frame ∷ frames)))
    queue_by (inl at) =
        let here = eqb-true frame.endpoint n at in
        ap sendings_of (queue_here n here)
        ∙ map-append (λ (y : Sent). y.sending) (queue_on past n) (one ∷ [])
        ∙ ap (λ (ss : List Sending). ss ++ sending ∷ []) old.queue
        ∙ sym (ap (λ (fs : List Frame). filter_map (λ (f : Frame). sending_by f.kind f) (reverse fs)) (counted_more start n frame frames (ap (λ (m : ℕ). counts_on start m frames frame) (sym here) ∙ counts))
        ∙ filter_map-more (λ (f : Frame). sending_by f.kind f) frame (counting start n frames)
        ∙ ap (λ (o : Option Sending). filter_map (λ (f : Frame). sending_by f.kind f) (reverse (counting start n frames)) ++ option_to_list o) sends')
    queue_by (inr other) =
        let there' = eqb-false frame.endpoint n other in
        ap sendings_of (queue_there n there')
        ∙ old.queue
        ∙ sym (ap (λ (fs : List Frame). filter_map (λ (f : Frame). sending_by f.kind f) (reverse fs)) (uncounted_more start n frame frames (elsewhere start n frames frame there')))

    by_place : ((frame.endpoint == n) ≡ true) ⊎ ((frame.endpoint == n) ≡ false) → TravelsAs start (sends one ∷ journal) (frame ∷ frames) n x
    by_place place = record {
      queue = queue_by place;
      silent = written_now n ∙ old.silent;
      later = frame ∷ old.later;
      frame = old.frame;
      earlier = old.earlier;
      split = ap (λ (fs : List Frame). frame ∷ fs) old.split;
      carries = old.carries;
      comes = old.comes;
    }

  -- what the frame carries
  carried_now : (n : ℕ) → is_client n ≡ true → among n (endpoints_in one) ≡ true → TravelsAs start (sends one ∷ journal) (frame ∷ frames) n one
  carried_now n client carried = record {
    queue = ap sendings_of (queue_there n other ∙ none_waits) ∙ sym (ap (λ (fs : List Frame). filter_map (λ (f : Frame). sending_by f.kind f) (reverse fs)) (uncounted_more start n frame frames (elsewhere start n frames frame other) ∙ unnamed_counting start frames n unnamed));
    silent = written_now n ∙ sym ((agrees n client).gone unlive).told ∙ (unnamed_untold below.spelled start frames n s client unnamed).told;
    later = [];
    frame = frame;
    earlier = frames;
    split = refl;
    carries = here;
    comes = record { on = refl; sends = sends'; counts = counts };
  } where
    here : among n frame.handles ≡ true
    here = carries n ∙ (carried_is one n carried).1

    unused : is_used start past n ≡ false
    unused = (fresh n here).1

    unlive : is_live start past n ≡ false
    unlive = false_from_ne_true (is_live start past n) (λ h. true≢false (sym (live_used below start journal n s lawful' client h) ∙ unused))

    other : frame.endpoint ≢ n
    other at = true≢false (sym live ∙ ap (is_live start past) at ∙ unlive)

    unnamed : is_named start frames n ≡ false
    unnamed =
        ap (λ (b : Bool). b || list_any (λ f. among n f.handles) frames) (or_parts (list_any (λ bound. bound.endpoint == n) start.firsts) (was_carried past n) unused).0
        ∙ once_carried n frame frames once here

    none_waits : queue_on past n ≡ []
    none_waits =
        none_kept (λ (x : Sent). x.endpoint == n) (waiting past)
        (all_of (λ (x : Sent). (x.endpoint == n) ≡ false) (waiting past)
        (λ x there. ne_eqb x.endpoint n (λ at.
        let right = (lawful_kept below start s journal lawful').sound.right x ((is_view start journal (stepped start journal lawful')).waits x there) in
        true≢false (sym (ap (is_used start past) (sym at) ∙ endpoint_known start (all_sent past) x s (ap is_client at ∙ client) right) ∙ unused))))

  travels_now : (n : ℕ) → is_client n ≡ true → (x : Sent) → Carries now x n → TravelsAs start (sends one ∷ journal) (frame ∷ frames) n x
  travels_now n client x (there, carried) =
      by_case (Contains-append_cases (waiting past) (one ∷ []) x (subst (λ (ones : List Sent). Contains ones x) (what_is_sent_waits start journal frame.endpoint sending None lawful' alive) there)) where
        by_one : (one ≡ x) ⊎ Contains [] x → TravelsAs start (sends one ∷ journal) (frame ∷ frames) n x
        by_one (inl e) = subst (λ (y : Sent). TravelsAs start (sends one ∷ journal) (frame ∷ frames) n y) e (carried_now n client (ap (λ (y : Sent). among n (endpoints_in y)) e ∙ carried))
        by_one (inr none) = absurd (contains_none x none)

        by_case : Contains (waiting past) x ⊎ Contains (one ∷ []) x → TravelsAs start (sends one ∷ journal) (frame ∷ frames) n x
        by_case (inl old) = travels_on n client x old carried
        by_case (inr new) = by_one (contains_cases x one [] new)

  pub sent_agrees : (n : ℕ) → is_client n ≡ true → AgreesOn start (sends one ∷ journal) (frame ∷ frames) n
  sent_agrees n client = record { bound = bound_now n client; travels = travels_now n client; gone = gone_now n client }

-- ---- a refused frame

module _ (start : Start) (journal : Journal) (endpoint : ℕ) (why : Refusal) where
  abbrev before' : History
  before' = history_of start journal

  abbrev behind' : History
  behind' = history_of start (refuses endpoint why ∷ journal)

  pub written_same : (n : ℕ) → written_on start (refuses endpoint why ∷ journal) n ≡ written_on start journal n
  unfolding history_of event_of
  written_same n = filter-append (λ (f : Frame). is_message f.kind && (f.endpoint == n)) (frames_behind start journal) (refused_frame endpoint why ∷ []) ∙ append-nil (messages_on n (frames_behind start journal))

  queue_same : (n : ℕ) → queue_on behind' n ≡ queue_on before' n
  unfolding history_of
  queue_same n = ap (filter (λ (x : Sent). x.endpoint == n)) (refusals_change_nothing start before' endpoint why).queue

  position_same : (n : ℕ) → position_of behind' n ≡ position_of before' n
  unfolding history_of
  position_same n = (refusals_change_nothing start before' endpoint why).same.positions n

  bound_same : (n : ℕ) → bound_at start behind' n ≡ bound_at start before' n
  unfolding history_of
  bound_same n = (refusals_change_nothing start before' endpoint why).same.bound n

  waiting_same : waiting behind' ≡ waiting before'
  unfolding history_of
  waiting_same = (refusals_change_nothing start before' endpoint why).queue

  live_as : (n : ℕ) → is_live start behind' n ≡ is_live start before' n
  unfolding history_of
  live_as n = live_same start before' endpoint why n

  -- frames are as they were
  pub alone_agrees : (frames : List Frame) (n : ℕ) → AgreesOn start journal frames n → AgreesOn start (refuses endpoint why ∷ journal) frames n
  alone_agrees frames n h = record {
    bound = λ bound e.
        told_same start frames bound _ _ _ _ _ _ (sym (queue_same bound.endpoint)) (sym (position_same bound.endpoint)) (sym (written_same bound.endpoint))
        (h.bound bound (sym (bound_same n) ∙ e));
    travels = λ x c.
        let old = h.travels x (subst (λ (ones : List Sent). Contains ones x) waiting_same c.0, c.1) in
        record {
          queue = ap sendings_of (queue_same n) ∙ old.queue;
          silent = written_same n ∙ old.silent;
          later = old.later;
          frame = old.frame;
          earlier = old.earlier;
          split = old.split;
          carries = old.carries;
          comes = old.comes;
        };
    gone = λ none.
        let old = h.gone (sym (live_as n) ∙ none) in
        record { ended = old.ended; told = old.told ∙ sym (written_same n) };
  }

-- a frame that isn't heard, and counts on nobody who is live, says nothing
pub unheard_agrees : (start : Start) (journal : Journal) (frames : List Frame) (frame : Frame) (n : ℕ) → table_of start (frame ∷ frames) ≡ table_of start frames → (is_live start (history_of start journal) n ≡ true → counts_on start n frames frame ≡ false) →
    AgreesOn start journal frames n → AgreesOn start journal (frame ∷ frames) n
unheard_agrees start journal frames frame n same uncounted h = record {
  bound = λ bound e.
      let at = bound_on start (history_of start journal) n bound e in
      told_uncounted start frame frames bound _ _ _ (ap (λ (m : ℕ). counts_on start m frames frame) at ∙ uncounted (bound_live start (history_of start journal) n bound e))
      (record { life = ap (λ t. t.life bound.endpoint) same; told = ap (λ t. t.told bound.endpoint) same }) (h.bound bound e);
  travels = λ x c.
      let old = h.travels x c in
      record {
        queue = old.queue ∙ sym (ap (λ (fs : List Frame). filter_map (λ (f : Frame). sending_by f.kind f) (reverse fs)) (uncounted_more start n frame frames (uncounted (carried_lives (view start (history_of start journal)) x n c.0 c.1))));
        silent = old.silent;
        later = frame ∷ old.later;
        frame = old.frame;
        earlier = old.earlier;
        split = ap (λ (fs : List Frame). frame ∷ fs) old.split;
        carries = old.carries;
        comes = old.comes;
      };
  gone = λ none.
      let old = h.gone none in
      record { ended = ap (λ t. t.life n) same ∙ old.ended; told = ap (λ t. t.told n) same ∙ old.told };
}
