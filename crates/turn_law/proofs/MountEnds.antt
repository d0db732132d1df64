-- In the table the ends of mounts stay as they were at the start, and are told nothing.
use Rattle.std.proofs.Common.{◌≡◌, ◌≢◌, ℕ, zero, suc, ◌==◌, ◌||◌, Bool, true, false, List, [], ◌∷◌, ◌++◌, Option, Some, None, All, find, if◌then◌else◌, refl, sym, ap, ◌∙◌, subst, append-nil}
use Rattle.std.specs.Option.{option_map, option_map_or}
use Rattle.std.proofs.lemmas.Bool.{and_parts, eqb-true, false_from_ne_true, ne_eqb, true≢false}
use Rattle.std.proofs.lemmas.List.Elements.{All-cons, All-contains, All-nil, All-weaker}
use Rattle.fidl_names.specs.HandleNumber.{is_client}
use Rattle.link_frames.specs.declared.kinds.FrameKind.{FrameKind}
use Rattle.link_frames.specs.declared.kinds.FrameKind.TheVariants as kind
use Rattle.link_frames.specs.Frames.{Frame}
use Rattle.link_admission.specs.Numbering.{among}
use Rattle.io_messages.specs.Asked as asks
use Rattle.io_messages.specs.declared.protocols.Protocol.{Protocol}
use Rattle.io_messages.specs.declared.protocols.Protocol.TheVariants as protocol
use Rattle.node_graph.specs.Tree.{Tree}
use Rattle.path_walk.specs.Paths.{text_of}
use Rattle.conn_rules.specs.Onward.{onward_bytes}
use Rattle.conn_rules.specs.Answers.{Act, Answer, binds, closes, ends, forwards, hangs_up, refuses, replies, silent, watches}
use Rattle.conn_rules.specs.Births.{Position, fresh}
use Rattle.vfs_journal.specs.Entries.{Sending, hang_up, handles_of, message}
use Rattle.vfs_journal.specs.Outcomes.{Asker, Forwarded, Outcome, outcome_with}
use Rattle.vfs_journal.specs.Serving.{Moment, asker_of, context_at, outcome_of_message, outcome_of_read, outcome_of_sending, request_act}
use Rattle.vfs_journal.specs.Session.{weight_of}
use Rattle.vfs_journal.specs.Starts.{Bound, Start}
use Rattle.vfs_journal.specs.View.{moved}
use Rattle.journal_laws.specs.Soundness.{IsOnDirectory, IsStart}
use Rattle.journal_laws.proofs.Acts.{IsOpenAnswer, act_answers}
use Rattle.journal_laws.proofs.Among.{member_of}
use Rattle.journal_laws.proofs.Below.{Below}
use Rattle.journal_laws.proofs.Members.{found}
use Rattle.journal_laws.proofs.Onward.{onward_reads}
use Rattle.turn_law.specs.Told.{Table, answered, answers, behind_frame, by_answer, is_heard, newborn, onward, sending_by, sent_on, still, table_at_start, table_of}
use Rattle.turn_law.specs.Tables.{SaySame}
use Rattle.turn_law.proofs.Forwards.{IsOnward, open_position, sending_goes}
use Rattle.turn_law.proofs.Hearing.{heard_parts}
use Rattle.turn_law.proofs.LinkedSteps.{new_each}
use Rattle.turn_law.proofs.Touching.{AreNamed, answered_named, answered_touches, nothing_on, table_named, unbound_by}
use Rattle.turn_law.proofs.Within.{StaysWithin, sending_within}

-- what is no client's endpoint stays as it was at the start, and is told nothing
pub record EndsStay (start : Start) (table : Table) : Type 0 where
  pub life : (n : ℕ) → is_client n ≡ false → table.life n ≡ (table_at_start start).life n
  pub told : (n : ℕ) → is_client n ≡ false → table.told n ≡ []

-- ---- what an Open touches

pub record TouchesObject (position : Position) (object : ℕ) (o : Outcome) : Type 0 where
  pub stands : o.position ≡ position
  pub ends : (n : ℕ) → among n o.ends ≡ true → n ≡ object
  pub frames : All (λ frame. frame.endpoint ≡ object) o.frames

pub among_one : (n m : ℕ) → among n (m ∷ []) ≡ true → n ≡ m
among_one n m h = by_test (m == n) refl h where
  by_test : (b : Bool) → (m == n) ≡ b → (b || false) ≡ true → n ≡ m
  by_test true is h = sym (eqb-true m n is)
  by_test false is h = absurd (cc)

announced : (object : ℕ) (frame : Frame) (b : Bool) → frame.endpoint ≡ object → All (λ (f : Frame). f.endpoint ≡ object) (if b then frame ∷ [] else [])
announced object frame true h = All-cons (λ (f : Frame). f.endpoint ≡ object) frame [] h (All-nil (λ (f : Frame). f.endpoint ≡ object))
announced object frame false h = All-nil (λ (f : Frame). f.endpoint ≡ object)

both_on : (object : ℕ) (frame other : Frame) → frame.endpoint ≡ object → other.endpoint ≡ object → All (λ (f : Frame). f.endpoint ≡ object) (frame ∷ other ∷ [])
both_on object frame other h g = All-cons (λ (f : Frame). f.endpoint ≡ object) frame (other ∷ []) h (All-cons (λ (f : Frame). f.endpoint ≡ object) other [] g (All-nil (λ (f : Frame). f.endpoint ≡ object)))

answer_touches : (asker : Asker) (act : Act) (position : Position) (tree : Tree) (path : List ℕ) (word : ℕ) → act.position ≡ position → (answer : Answer) → IsOpenAnswer tree path word answer →
    TouchesObject position asker.object (outcome_with asker (record { answer = answer; position = act.position; change = act.change; told = act.told }))
answer_touches asker act position tree path word at (binds birth b) h = record { stands = at; ends = λ n e. absurd (cc); frames = announced asker.object _ b refl }
answer_touches asker act position tree path word at (forwards mount flags rest) h = record { stands = at; ends = λ n e. absurd (cc); frames = All-nil (λ (f : Frame). f.endpoint ≡ asker.object) }
answer_touches asker act position tree path word at (refuses status) h = record { stands = at; ends = λ n e. among_one n asker.object e; frames = both_on asker.object _ _ refl refl }
answer_touches asker act position tree path word at (replies a) h = absurd h
answer_touches asker act position tree path word at closes h = absurd h
answer_touches asker act position tree path word at (watches mask) h = absurd h
answer_touches asker act position tree path word at (ends status) h = absurd h
answer_touches asker act position tree path word at hangs_up h = absurd h
answer_touches asker act position tree path word at silent h = absurd h

open_touches : (asker : Asker) (act : Act) (position : Position) (tree : Tree) (path : List ℕ) (word : ℕ) → act.position ≡ position → IsOpenAnswer tree path word act.answer → TouchesObject position asker.object (outcome_with asker act)
open_touches asker act position tree path word at h = answer_touches asker act position tree path word at act.answer h

-- what goes on, served on a directory
pub onward_touched : Below → (moment : Moment) (forward : Forwarded) → moment.bound.birth.protocol ≡ protocol.Directory → IsOnward forward →
    TouchesObject moment.position forward.object (outcome_of_sending moment (message forward.bytes (forward.object ∷ [])))
unfolding outcome_of_sending
onward_touched below moment forward directory is =
    subst (TouchesObject moment.position forward.object)
    (sym (ap (λ (bytes : List ℕ). outcome_of_message moment moment.bound.birth.protocol bytes (forward.object ∷ [])) is.bytes
    ∙ ap (λ (p : Protocol). outcome_of_message moment p (onward_bytes is.flags is.rest forward.object) (forward.object ∷ [])) directory
    ∙ ap (outcome_of_read moment) (onward_reads below is.flags is.rest forward.object is.path is.small is.low)))
    (open_touches (asker_of moment.bound 0 forward.object) (request_act moment (asks.open_path (text_of is.rest) is.flags None forward.object)) moment.position moment.tree (text_of is.rest) is.flags
    (open_position (context_at moment) (text_of is.rest) is.flags None forward.object)
    (act_answers (context_at moment) (asks.open_path (text_of is.rest) is.flags None forward.object)).0)

-- ---- the ends of mounts

some_same : {x y : Bound × Position} → Some x ≡ Some y → x ≡ y
some_same e = cc

-- who lives there at the start is a directory's connection at its beginning
pub end_at_start : (start : Start) (n : ℕ) (pair : Bound × Position) → IsStart start → (table_at_start start).life n ≡ Some pair → (pair.0.birth.protocol ≡ protocol.Directory) × (pair.1 ≡ fresh)
end_at_start start n pair s e = by_find (find (λ bound. bound.endpoint == n) (start.firsts ++ start.mounts)) refl e where
  by_find : (o : Option Bound) → find (λ bound. bound.endpoint == n) (start.firsts ++ start.mounts) ≡ o → option_map newborn o ≡ Some pair → (pair.0.birth.protocol ≡ protocol.Directory) × (pair.1 ≡ fresh)
  by_find None is e = absurd (cc)
  by_find (Some bound) is e =
      let one = found (λ b. b.endpoint == n) (start.firsts ++ start.mounts) bound is in
      let same = some_same e in
      (ap (λ (p : Bound × Position). p.0.birth.protocol) (sym same) ∙ (All-contains (IsOnDirectory start.trees) (start.firsts ++ start.mounts) bound s.placed one.0).protocol, ap (λ (p : Bound × Position). p.1) (sym same))

-- a connection that stays where it is moves nowhere
pub moved_fresh : (served : ℕ) (position : Position) (old : Option (Bound × Position)) → ((pair : Bound × Position) → old ≡ Some pair → pair.0.endpoint ≡ served → pair.1 ≡ position) → option_map (moved served position) old ≡ old
moved_fresh served position None h = refl
moved_fresh served position (Some pair) h = by_test (pair.0.endpoint == served) refl where
  by_test : (b : Bool) → (pair.0.endpoint == served) ≡ b → Some (if b then (pair.0, position) else pair) ≡ Some pair
  by_test true e = ap (λ (p : Position). Some (pair.0, p)) (sym (h pair refl (eqb-true pair.0.endpoint served e)))
  by_test false e = refl

pub onward_stays : Below → (start : Start) (table : Table) (forward : Forwarded) (pair : Bound × Position) → IsStart start → AreNamed table → EndsStay start table → is_client forward.endpoint ≡ false → is_client forward.object ≡ true → IsOnward forward →
    table.life forward.endpoint ≡ Some pair → EndsStay start (answered table forward.endpoint (outcome_of_sending (still start pair) (message forward.bytes (forward.object ∷ []))))
onward_stays below start table forward pair s named stays end client is lives = record { life = life_there; told = told_there } where
  o : Outcome
  o = outcome_of_sending (still start pair) (message forward.bytes (forward.object ∷ []))

  at : (pair.0.birth.protocol ≡ protocol.Directory) × (pair.1 ≡ fresh)
  at = end_at_start start forward.endpoint pair s (sym (stays.life forward.endpoint end) ∙ lives)

  touched : TouchesObject pair.1 forward.object o
  touched = onward_touched below (still start pair) forward at.0 is

  within : StaysWithin pair.0.endpoint (forward.object ∷ []) o
  within = sending_within below.spelled (still start pair) (message forward.bytes (forward.object ∷ []))

  other : (n : ℕ) → is_client n ≡ false → forward.object ≢ n
  other n none same = true≢false (sym client ∙ ap is_client same ∙ none)

  uncarried : (n : ℕ) → is_client n ≡ false → among n (forward.object ∷ []) ≡ false
  uncarried n none = ap (λ (b : Bool). b || false) (ne_eqb forward.object n (other n none))

  life_there : (n : ℕ) → is_client n ≡ false → (answered table forward.endpoint o).life n ≡ (table_at_start start).life n
  life_there n none =
      ap (λ (b : Bool). if b then None else if option_map_or (λ bound. bound.endpoint == n) o.bound false then option_map newborn o.bound else option_map (moved forward.endpoint o.position) (table.life n))
      (false_from_ne_true (among n o.ends) (λ h. other n none (sym (touched.ends n h))))
      ∙ ap (λ (b : Bool). if b then option_map newborn o.bound else option_map (moved forward.endpoint o.position) (table.life n)) (unbound_by n (forward.object ∷ []) (uncarried n none) o.bound within.bound)
      ∙ moved_fresh forward.endpoint o.position (table.life n)
      (λ q e here. (end_at_start start n q s (sym (stays.life n none) ∙ e)).1 ∙ sym at.1 ∙ sym touched.stands)
      ∙ stays.life n none

  told_there : (n : ℕ) → is_client n ≡ false → (answered table forward.endpoint o).told n ≡ []
  told_there n none =
      ap (λ (fs : List Frame). table.told n ++ fs)
      (nothing_on n o.frames (All-weaker (λ (f : Frame). f.endpoint ≡ forward.object) (λ (f : Frame). f.endpoint ≢ n) (λ f e same. other n none (sym e ∙ same)) o.frames touched.frames))
      ∙ append-nil (table.told n)
      ∙ stays.told n none

-- and on the ends behind it
pub onwards_stay : Below → (more : ℕ) (start : Start) (table : Table) (forward : Forwarded) → IsStart start → AreNamed table → EndsStay start table → is_client forward.endpoint ≡ false → is_client forward.object ≡ true → IsOnward forward →
    EndsStay start (answers more start forward.endpoint (message forward.bytes (forward.object ∷ [])) table)
unfolding answers
onwards_stay below zero start table forward s named stays end client is = stays
onwards_stay below (suc more) start table forward s named stays end client is =
    by_life (λ t f g h e c i. onwards_stay below more start t f s g h e c i) (table.life forward.endpoint) refl where
      by_life : ((t : Table) (f : Forwarded) → AreNamed t → EndsStay start t → is_client f.endpoint ≡ false → is_client f.object ≡ true → IsOnward f → EndsStay start (answers more start f.endpoint (message f.bytes (f.object ∷ [])) t)) →
          (x : Option (Bound × Position)) → table.life forward.endpoint ≡ x →
          EndsStay start (by_answer (answers more start) forward.endpoint table (option_map (λ pair. outcome_of_sending (still start pair) (message forward.bytes (forward.object ∷ []))) x))
      by_life rest None e = stays
      by_life rest (Some pair) e = by_forward o.forward refl where
        o : Outcome
        o = outcome_of_sending (still start pair) (message forward.bytes (forward.object ∷ []))

        next : Table
        next = answered table forward.endpoint o

        next_stays : EndsStay start next
        next_stays = onward_stays below start table forward pair s named stays end client is e

        by_forward : (x : Option Forwarded) → o.forward ≡ x → EndsStay start (onward (answers more start) x next)
        by_forward None f = next_stays
        by_forward (Some f) g =
            let on = (sending_within below.spelled (still start pair) (message forward.bytes (forward.object ∷ []))).forward f g in
            rest next f (answered_named table forward.endpoint o named) next_stays on.1
            (ap is_client (among_one f.object forward.object on.0) ∙ client)
            (sending_goes below (still start pair) (message forward.bytes (forward.object ∷ [])) f g).on

-- ---- frames

no_client_other : (e n : ℕ) → is_client e ≡ true → is_client n ≡ false → e ≢ n
no_client_other e n client none same = true≢false (sym client ∙ ap is_client same ∙ none)

pub clients_alone : (handles : List ℕ) (n : ℕ) → ((m : ℕ) → among m handles ≡ true → is_client m ≡ true) → is_client n ≡ false → among n handles ≡ false
clients_alone handles n each none = false_from_ne_true (among n handles) (λ h. true≢false (sym (each n h) ∙ none))

-- what is sent on a client's endpoint, with clients' endpoints
sent_stays : Below → (more : ℕ) (start : Start) (endpoint : ℕ) (sending : Sending) (table : Table) → IsStart start → AreNamed table → EndsStay start table → is_client endpoint ≡ true →
    ((m : ℕ) → among m (handles_of sending) ≡ true → is_client m ≡ true) → EndsStay start (answers more start endpoint sending table)
unfolding answers
sent_stays below zero start endpoint sending table s named stays client each = stays
sent_stays below (suc more) start endpoint sending table s named stays client each = by_life (table.life endpoint) refl where
  by_life : (x : Option (Bound × Position)) → table.life endpoint ≡ x → EndsStay start (by_answer (answers more start) endpoint table (option_map (λ pair. outcome_of_sending (still start pair) sending) x))
  by_life None e = stays
  by_life (Some pair) e = by_forward o.forward refl where
    o : Outcome
    o = outcome_of_sending (still start pair) sending

    within : StaysWithin endpoint (handles_of sending) o
    within = subst (λ (m : ℕ). StaysWithin m (handles_of sending) o) (named.own endpoint pair e) (sending_within below.spelled (still start pair) sending)

    next : Table
    next = answered table endpoint o

    same : (n : ℕ) → is_client n ≡ false → SaySame n next table
    same n none = answered_touches table endpoint (handles_of sending) o n named within (no_client_other endpoint n client none) (clients_alone (handles_of sending) n each none)

    next_stays : EndsStay start next
    next_stays = record { life = λ n none. (same n none).life ∙ stays.life n none; told = λ n none. (same n none).told ∙ stays.told n none }

    by_forward : (x : Option Forwarded) → o.forward ≡ x → EndsStay start (onward (answers more start) x next)
    by_forward None f = next_stays
    by_forward (Some f) g =
        let on = within.forward f g in
        onwards_stay below more start next f s (answered_named table endpoint o named) next_stays on.1 (each f.object on.0) (sending_goes below (still start pair) sending f g).on

frame_stays : Below → (start : Start) (frame : Frame) (table : Table) → IsStart start → AreNamed table → EndsStay start table → EndsStay start (behind_frame start frame table)
frame_stays below start frame table s named stays = by_heard (is_heard start table frame) refl frame.kind where
  each : is_heard start table frame ≡ true → (m : ℕ) → among m frame.handles ≡ true → is_client m ≡ true
  each heard m h = (and_parts (is_client m) _ (new_each start frame.handles (heard_parts start table frame heard).2 m (member_of m frame.handles h))).0

  by_kind : is_heard start table frame ≡ true → (k : FrameKind) → EndsStay start (option_map_or (λ sending. sent_on start frame.endpoint sending table) (sending_by k frame) table)
  by_kind heard kind.Message =
      sent_stays below (weight_of (message frame.bytes frame.handles)) start frame.endpoint (message frame.bytes frame.handles) table s named stays (heard_parts start table frame heard).0 (each heard)
  by_kind heard kind.Close = sent_stays below (weight_of hang_up) start frame.endpoint hang_up table s named stays (heard_parts start table frame heard).0 (λ m h. absurd (cc))
  by_kind heard kind.Turn = stays
  by_kind heard kind.Pick = stays
  by_kind heard kind.Refused = stays

  by_heard : (b : Bool) → is_heard start table frame ≡ b → (k : FrameKind) → EndsStay start (if b then option_map_or (λ sending. sent_on start frame.endpoint sending table) (sending_by k frame) table else table)
  by_heard true h k = by_kind h k
  by_heard false h k = stays

pub ends_stay : Below → (start : Start) (frames : List Frame) → IsStart start → EndsStay start (table_of start frames)
unfolding table_of
ends_stay below start [] s = record { life = λ n none. refl; told = λ n none. refl }
ends_stay below start (frame ∷ frames) s = frame_stays below start frame (table_of start frames) s (table_named start frames) (ends_stay below start frames s)
