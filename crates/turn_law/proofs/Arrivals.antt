-- At the beginning all endpoints agree with the table, and they do behind each frame that arrives.
use Rattle.std.proofs.Common.{◌≡◌, ℕ, ◌==◌, ◌⊎◌, true, false, not, is_some, List, [], ◌∷◌, ◌++◌, Option, Some, None, All, filter, find, refl, sym, ap, ◌∙◌, inl, inr, append-nil}
use Rattle.std.specs.Option.{option_map}
use Rattle.std.proofs.lemmas.Bool.{and_parts, cases_Bool, eqb-false, eqb-true, false_from_ne_true, or_parts, true≢false}
use Rattle.std.proofs.lemmas.List.Elements.{All-cons}
use Rattle.fidl_names.specs.HandleNumber.{is_client}
use Rattle.link_admission.specs.Admission.{admission}
use Rattle.link_frames.specs.declared.kinds.FrameKind.{FrameKind}
use Rattle.link_frames.specs.declared.kinds.FrameKind.TheVariants as kind
use Rattle.link_frames.specs.declared.kinds.Refusal.{Refusal}
use Rattle.link_frames.specs.declared.kinds.Side.TheVariants.{ToServers}
use Rattle.link_frames.specs.Frames.{Frame, IsFrame}
use Rattle.link_admission.specs.Numbering.{among}
use Rattle.vfs_journal.specs.Entries.{Journal, Sent, hang_up, message, refuses, sends}
use Rattle.vfs_journal.specs.History.{History, bound_at, is_bound, is_dead, is_live, living, travelling}
use Rattle.vfs_journal.specs.Output.{frames_behind}
use Rattle.vfs_journal.specs.Past.{event_of, history_of}
use Rattle.vfs_journal.specs.Session.{admitted, by_refusal, look_ups, sent_behind}
use Rattle.vfs_journal.specs.Starts.{Bound, Start}
use Rattle.journal_laws.proofs.Below.{Below}
use Rattle.journal_laws.proofs.Filters.{all_kept, all_of}
use Rattle.journal_laws.proofs.Kept.{close_admitted, message_admitted, refusal_of}
use Rattle.journal_laws.proofs.Members.{contains_none, found}
use Rattle.turn_law.specs.Counting.{before, counting, counts_on}
use Rattle.turn_law.specs.Invariant.{AgreesOn, ArrivalsAgree, BeginningsAgree, written_on}
use Rattle.turn_law.specs.Steps.{CanArrive, frames_in, is_sending, journal_of}
use Rattle.turn_law.specs.Told.{is_heard, messages_on, newborn, sending_by, table_of}
use Rattle.turn_law.proofs.ArrivalsAgree.{alone_agrees, elsewhere, sent_agrees, unheard_agrees, written_same}
use Rattle.turn_law.proofs.Hearing.{heard_parts, heard_where_counted, unheard_table}
use Rattle.turn_law.proofs.Linked.{close_carries_none, travels_new}
use Rattle.turn_law.proofs.LinkedSteps.{IsBeforeFrame, before_frame, only_there, refused_by, steps_are_frames}
use Rattle.turn_law.proofs.StepsMade.{with_sending}

-- ---- the beginning

living_first : (start : Start) → living start [] ≡ start.firsts ++ start.mounts
living_first start =
    ap (filter (λ bound. not (is_dead [] bound.endpoint))) (append-nil (start.firsts ++ start.mounts))
    ∙ all_kept (λ (bound : Bound). not (is_dead [] bound.endpoint)) (start.firsts ++ start.mounts) (all_of (λ (bound : Bound). not (is_dead [] bound.endpoint) ≡ true) (start.firsts ++ start.mounts) (λ bound there. refl))

pub life_first : (start : Start) (n : ℕ) → (table_of start []).life n ≡ option_map newborn (bound_at start [] n)
unfolding table_of
life_first start n = ap (λ (bounds : List Bound). option_map newborn (find (λ bound. bound.endpoint == n) bounds)) (sym (living_first start))

pub first_agrees : (start : Start) (n : ℕ) → AgreesOn start [] [] n
unfolding history_of table_of before counting
first_agrees start n = record {
  bound = λ bound e.
      let at = eqb-true bound.endpoint n (found (λ b. b.endpoint == n) (living start []) bound e).1 in
      record {
        waits = refl;
        life = life_first start bound.endpoint ∙ ap (λ (m : ℕ). option_map newborn (bound_at start [] m)) at ∙ ap (option_map newborn) e;
        told = refl;
      };
  travels = λ x c. absurd (contains_none x c.0);
  gone = λ none.
      let unbound = (or_parts (is_bound start [] n) (among n (travelling [])) none).0 in
      record { ended = life_first start n ∙ no_life (bound_at start [] n) unbound; told = refl };
} where
  no_life : (o : Option Bound) → is_some o ≡ false → option_map newborn o ≡ None
  no_life None h = refl
  no_life (Some bound) h = absurd (cc)

pub beginnings : BeginningsAgree
unfolding journal_of history_of
beginnings start s = record { clients = λ n client. first_agrees start n; ends = λ n other. refl }

-- ---- a frame

pub written_sent : (start : Start) (journal : Journal) (one : Sent) (n : ℕ) → written_on start (sends one ∷ journal) n ≡ written_on start journal n
unfolding history_of event_of
written_sent start journal one n = ap (messages_on n) (append-nil (frames_behind start journal))

pub arrivals : Below → ArrivalsAgree
unfolding journal_of
arrivals below start steps frame s can keeps agrees =
    record { clients = clients_by (admission (look_ups start past) frame) refl; ends = ends_by (admission (look_ups start past) frame) refl } where
      journal : Journal
      journal = journal_of start steps

      frames : List Frame
      frames = frames_in steps

      past : History
      past = history_of start journal

      given : is_sending frame.kind ≡ true → IsBeforeFrame start steps frame
      given sending = before_frame below start steps frame s can sending keeps

      -- what is refused is neither heard nor counts on who is live
      refused : (why : Refusal) → admission (look_ups start past) frame ≡ Some why → is_sending frame.kind ≡ true → (n : ℕ) → is_client n ≡ true → AgreesOn start (refuses frame.endpoint why ∷ journal) (frame ∷ frames) n
      refused why e sending n client =
          alone_agrees start journal frame.endpoint why (frame ∷ frames) n
          (unheard_agrees start journal frames frame n (unheard_table start frame frames unheard) (λ lives. uncounted lives (cases_Bool (frame.endpoint == n))) (agrees.clients n client)) where
            b : IsBeforeFrame start steps frame
            b = given sending

            not_both : is_live start past frame.endpoint ≡ true → counts_on start frame.endpoint frames frame ≡ true → ⊥
            not_both lives counts = b.unlimited why e (refused_by below start journal frames frame s b.lawful can.0.0 b.linked b.tokens why b.once lives counts frame.kind refl sending e)

            uncounted : is_live start past n ≡ true → ((frame.endpoint == n) ≡ true) ⊎ ((frame.endpoint == n) ≡ false) → counts_on start n frames frame ≡ false
            uncounted lives (inl at) =
                let here = eqb-true frame.endpoint n at in
                false_from_ne_true (counts_on start n frames frame)
                (λ c. not_both (ap (is_live start past) here ∙ lives) (ap (λ (m : ℕ). counts_on start m frames frame) here ∙ c))
            uncounted lives (inr other) = elsewhere start n frames frame (eqb-false frame.endpoint n other)

            all : All (IsFrame ToServers) (frame ∷ frames)
            all = All-cons (IsFrame ToServers) frame frames can.0.0 (steps_are_frames start steps can.1)

            never : is_heard start (table_of start frames) frame ≡ true → (is_live start past frame.endpoint ≡ true) ⊎ (is_live start past frame.endpoint ≡ false) → ⊥
            never heard (inl lives) =
                let both = sym (heard_where_counted below.spelled start frame frames s all) ∙ heard in
                not_both lives (and_parts (is_some ((table_of start frames).life frame.endpoint)) (counts_on start frame.endpoint frames frame) both).1
            never heard (inr none) =
                let parts = heard_parts start (table_of start frames) frame heard in
                true≢false (sym parts.1 ∙ ap is_some ((agrees.clients frame.endpoint parts.0).gone none).ended)

            unheard : is_heard start (table_of start frames) frame ≡ false
            unheard = false_from_ne_true (is_heard start (table_of start frames) frame) (λ heard. never heard (cases_Bool (is_live start past frame.endpoint)))

      refused_by_kind : (why : Refusal) → admission (look_ups start past) frame ≡ Some why → (k : FrameKind) → frame.kind ≡ k → (n : ℕ) → is_client n ≡ true → AgreesOn start (refuses frame.endpoint why ∷ journal) (with_sending k frame frames) n
      refused_by_kind why e kind.Message is n client = refused why e (ap is_sending is) n client
      refused_by_kind why e kind.Close is n client = refused why e (ap is_sending is) n client
      refused_by_kind why e kind.Turn is n client = alone_agrees start journal frame.endpoint why frames n (agrees.clients n client)
      refused_by_kind why e kind.Pick is n client = alone_agrees start journal frame.endpoint why frames n (agrees.clients n client)
      refused_by_kind why e kind.Refused is n client = alone_agrees start journal frame.endpoint why frames n (agrees.clients n client)

      message_agrees : frame.kind ≡ kind.Message → admission (look_ups start past) frame ≡ None → (n : ℕ) → is_client n ≡ true →
          AgreesOn start (sends (sent_behind journal frame.endpoint (message frame.bytes frame.handles) None) ∷ journal) (frame ∷ frames) n
      message_agrees is none =
          let b = given (ap is_sending is) in
          let admitted' = message_admitted start past frame.endpoint frame.handles (refusal_of (look_ups start past) frame kind.Message is none) in
          let there = only_there below start journal frames frame s b.lawful can.0.0 b.linked b.tokens kind.Message is refl none in
          sent_agrees below start journal frames frame (message frame.bytes frame.handles) s b.lawful b.linked b.once admitted'.alive admitted'.live admitted'.client there.1
          (ap (λ (k : FrameKind). sending_by k frame) is) (λ m. refl) (λ m carried. travels_new start past m b.tokens (admitted'.travel m carried)) agrees.clients

      close_agrees : frame.kind ≡ kind.Close → admission (look_ups start past) frame ≡ None → (n : ℕ) → is_client n ≡ true →
          AgreesOn start (sends (sent_behind journal frame.endpoint hang_up None) ∷ journal) (frame ∷ frames) n
      close_agrees is none =
          let b = given (ap is_sending is) in
          let admitted' = close_admitted start past frame.endpoint frame.handles (refusal_of (look_ups start past) frame kind.Close is none) in
          let there = only_there below start journal frames frame s b.lawful can.0.0 b.linked b.tokens kind.Close is refl none in
          sent_agrees below start journal frames frame hang_up s b.lawful b.linked b.once admitted'.alive admitted'.live admitted'.client there.1
          (ap (λ (k : FrameKind). sending_by k frame) is) (λ m. close_carries_none frame m is can.0.0)
          (λ m carried. absurd (true≢false (sym carried ∙ close_carries_none frame m is can.0.0))) agrees.clients

      admitted_agrees : (k : FrameKind) → frame.kind ≡ k → CanArrive start journal frame k → admission (look_ups start past) frame ≡ None → (n : ℕ) → is_client n ≡ true → AgreesOn start (admitted start journal k frame) (with_sending k frame frames) n
      admitted_agrees kind.Message is can' none n client = message_agrees is none n client
      admitted_agrees kind.Close is can' none n client = close_agrees is none n client
      admitted_agrees kind.Turn is (why, refused') none n client = absurd (let wrong : Some why ≡ None = sym refused' ∙ none in cc)
      admitted_agrees kind.Pick is (why, refused') none n client = absurd (let wrong : Some why ≡ None = sym refused' ∙ none in cc)
      admitted_agrees kind.Refused is (why, refused') none n client = absurd (let wrong : Some why ≡ None = sym refused' ∙ none in cc)

      admitted_ends : (k : FrameKind) → CanArrive start journal frame k → admission (look_ups start past) frame ≡ None → (n : ℕ) → written_on start journal n ≡ [] → written_on start (admitted start journal k frame) n ≡ []
      admitted_ends kind.Message can' none n h = written_sent start journal (sent_behind journal frame.endpoint (message frame.bytes frame.handles) None) n ∙ h
      admitted_ends kind.Close can' none n h = written_sent start journal (sent_behind journal frame.endpoint hang_up None) n ∙ h
      admitted_ends kind.Turn (why, refused') none n h = absurd (let wrong : Some why ≡ None = sym refused' ∙ none in cc)
      admitted_ends kind.Pick (why, refused') none n h = absurd (let wrong : Some why ≡ None = sym refused' ∙ none in cc)
      admitted_ends kind.Refused (why, refused') none n h = absurd (let wrong : Some why ≡ None = sym refused' ∙ none in cc)

      clients_by : (o : Option Refusal) → admission (look_ups start past) frame ≡ o → (n : ℕ) → is_client n ≡ true → AgreesOn start (by_refusal start journal frame o) (with_sending frame.kind frame frames) n
      clients_by (Some why) e n client = refused_by_kind why e frame.kind refl n client
      clients_by None e n client = admitted_agrees frame.kind refl can.0.1 e n client

      ends_by : (o : Option Refusal) → admission (look_ups start past) frame ≡ o → (n : ℕ) → is_client n ≡ false → written_on start (by_refusal start journal frame o) n ≡ []
      ends_by (Some why) e n other = written_same start journal frame.endpoint why n ∙ agrees.ends n other
      ends_by None e n other = admitted_ends frame.kind can.0.1 e n (agrees.ends n other)
