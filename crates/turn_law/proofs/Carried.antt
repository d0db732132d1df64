-- What the table says of an endpoint that is carried by what is served: behind the frame that carries it stands what the answer does with it.
use Rattle.std.proofs.Common.{◌≡◌, ℕ, suc, ◌==◌, ◌&&◌, ◌||◌, ◌⊎◌, Bool, true, false, not, is_some, List, [], ◌∷◌, ◌++◌, filter, find, length, Option, Some, None, All, Contains, if◌then◌else◌, refl, sym, ap, ◌∙◌, subst, inl, inr}
use Rattle.std.specs.List.{list_all, list_any}
use Rattle.std.specs.Option.{option_map}
use Rattle.std.proofs.lemmas.Bool.{and_parts, eqb-true, true≢false}
use Rattle.fidl_names.specs.HandleNumber.{is_client}
use Rattle.link_frames.specs.declared.kinds.FrameKind.{FrameKind}
use Rattle.link_frames.specs.declared.kinds.FrameKind.TheVariants as kind
use Rattle.link_frames.specs.declared.kinds.Side.TheVariants.{ToServers}
use Rattle.link_frames.specs.Frames.{Frame, IsFrame}
use Rattle.link_admission.specs.Numbering.{among}
use Rattle.conn_rules.specs.Births.{Position}
use Rattle.vfs_journal.specs.Entries.{Journal, Sending, Sent, endpoints_in, handles_of, hang_up, message}
use Rattle.vfs_journal.specs.History.{History, bound_at, is_bound, position_of, waiting}
use Rattle.vfs_journal.specs.Lawful.{Lawful}
use Rattle.vfs_journal.specs.Outcomes.{Outcome}
use Rattle.vfs_journal.specs.Past.{history_of}
use Rattle.vfs_journal.specs.Serving.{outcome_of, outcome_of_sending}
use Rattle.vfs_journal.specs.Session.{head, weight_of}
use Rattle.vfs_journal.specs.Starts.{Bound, Start}
use Rattle.journal_laws.specs.Soundness.{IsStart}
use Rattle.journal_laws.proofs.Among.{carried_is, member_of}
use Rattle.journal_laws.proofs.Below.{Below}
use Rattle.journal_laws.proofs.Filters.{found_first}
use Rattle.journal_laws.proofs.Kept.{lawful_kept}
use Rattle.journal_laws.proofs.Sound.{ByOrigin, IsForwarded, view}
use Rattle.turn_law.specs.Counting.{is_named}
use Rattle.turn_law.specs.Invariant.{AgreesOn, Comes, IsAnsweredStill, IsAsTold, TravelsAs, queue_on, written_on}
use Rattle.turn_law.specs.Premises.{HandlesStandOnce}
use Rattle.turn_law.specs.Tables.{SaySame}
use Rattle.turn_law.specs.Told.{Table, answered, answers, is_heard, is_new, onward, sending_by, sent_on, still, table_at_start, table_of}
use Rattle.turn_law.proofs.ArrivalsAgree.{bound_on}
use Rattle.turn_law.proofs.Arriving.{IsUntold, unnamed_untold}
use Rattle.turn_law.proofs.Counted.{table_same}
use Rattle.turn_law.proofs.EndPlaces.{EndsStand, IsEndServed, end_served}
use Rattle.turn_law.proofs.Heads.{IsHead, is_head}
use Rattle.turn_law.proofs.Hearing.{heard_parts}
use Rattle.turn_law.proofs.Linked.{once_carried}
use Rattle.turn_law.proofs.LinkedSteps.{fewer_once, new_each}
use Rattle.turn_law.proofs.MountEnds.{EndsStay, clients_alone, ends_stay, onward_stays}
use Rattle.turn_law.proofs.QuietSessions.{Heads, heads}
use Rattle.turn_law.proofs.ServedLines.{one_answer, some_weight}
use Rattle.turn_law.proofs.Touching.{AreNamed, answered_touches, start_named, table_named, then_same}
use Rattle.turn_law.proofs.Within.{StaysWithin, sending_within}

-- each frame sends something
abbrev pub Sends : Frame → Type 0
Sends frame = (sending : Sending) × (sending_by frame.kind frame ≡ Some sending)

-- a serving, where each endpoint agrees with the table
pub record IsService (start : Start) (journal : Journal) (frames : List Frame) (one : Sent) (bound : Bound) : Type 0 where
  pub lawful : Lawful start journal
  pub all : All (IsFrame ToServers) frames
  pub once : HandlesStandOnce frames
  pub sends : All Sends frames
  pub first : head start (history_of start journal) one.endpoint ≡ Some one
  pub at : bound_at start (history_of start journal) one.endpoint ≡ Some bound
  pub answered : IsAnsweredStill start journal one bound
  pub stands : EndsStand start journal
  pub agrees : (n : ℕ) → is_client n ≡ true → AgreesOn start journal frames n

-- ---- parts of it

some_sending : {x y : Sending} → Some x ≡ Some y → x ≡ y
some_sending e = cc

-- a frame carries what its sending does
pub frame_handles : (frame : Frame) (sending : Sending) (m : ℕ) → sending_by frame.kind frame ≡ Some sending → among m (handles_of sending) ≡ true → among m frame.handles ≡ true
frame_handles frame sending m sends h = by_kind frame.kind sends where
  by_kind : (k : FrameKind) → sending_by k frame ≡ Some sending → among m frame.handles ≡ true
  by_kind kind.Message e = ap (λ (x : Sending). among m (handles_of x)) (some_sending e) ∙ h
  by_kind kind.Close e = absurd (true≢false (sym h ∙ ap (λ (x : Sending). among m (handles_of x)) (sym (some_sending e))))
  by_kind kind.Turn e = absurd (cc)
  by_kind kind.Pick e = absurd (cc)
  by_kind kind.Refused e = absurd (cc)

pub find_of : (b : Bool) (o : Option Sent) (one : Sent) → (if b then o else None) ≡ Some one → o ≡ Some one
find_of true o one h = h
find_of false o one h = absurd (cc)

-- what waits behind it on its endpoint
pub rest_of : (start : Start) (journal : Journal) (one : Sent) → head start (history_of start journal) one.endpoint ≡ Some one → (rest : List Sent) × (queue_on (history_of start journal) one.endpoint ≡ one ∷ rest)
rest_of start journal one first =
    let past = history_of start journal in
    found_first (λ (x : Sent). x.endpoint == one.endpoint) (waiting past) one (find_of (is_bound start past one.endpoint) (find (λ (x : Sent). x.endpoint == one.endpoint) (waiting past)) one first)

-- a new number that a frame carries is named nowhere before
pub new_unnamed : (start : Start) (n : ℕ) (later : List Frame) (frame : Frame) (earlier : List Frame) → HandlesStandOnce (later ++ frame ∷ earlier) → among n frame.handles ≡ true → is_new start n ≡ true → is_named start earlier n ≡ false
new_unnamed start n [] frame earlier once carries new =
    ap (λ (b : Bool). b || list_any (λ f. among n f.handles) earlier) (unfirst (list_any (λ bound. bound.endpoint == n) start.firsts) (and_parts (is_client n) _ new).1)
    ∙ once_carried n frame earlier once carries where
      unfirst : (b : Bool) → not b ≡ true → b ≡ false
      unfirst true h = sym h
      unfirst false h = refl
new_unnamed start n (f ∷ later) frame earlier once carries new = new_unnamed start n later frame earlier (fewer_once f (later ++ frame ∷ earlier) once) carries new

-- the frame that carries it, and the table before that, of which the answer makes what is said behind it
pub record IsCarriedLine (start : Start) (journal : Journal) (frames : List Frame) (one : Sent) (n : ℕ) : Type 0 where
  pub later : List Frame
  pub frame : Frame
  pub earlier : List Frame
  pub split : frames ≡ later ++ frame ∷ earlier
  pub carries : among n frame.handles ≡ true
  pub heard : is_heard start (table_of start earlier) frame ≡ true
  pub new : is_new start n ≡ true
  pub unnamed : is_named start earlier n ≡ false
  pub base : Table
  pub named : AreNamed base
  pub life : base.life n ≡ None
  pub told : base.told n ≡ []
  pub more : ℕ
  pub weighs : weight_of one.sending ≡ suc more
  pub ends : EndsStay start (answered base one.endpoint (outcome_of start (history_of start journal) one))
  pub says : SaySame n (table_of start (frame ∷ earlier))
      (onward (answers more start) (outcome_of start (history_of start journal) one).forward (answered base one.endpoint (outcome_of start (history_of start journal) one)))

module _ (below : Below) (start : Start) (journal : Journal) (frames : List Frame) (one : Sent) (bound : Bound) (s : IsStart start) (c : IsService start journal frames one bound) where
  abbrev past : History
  past = history_of start journal

  abbrev o : Outcome
  o = outcome_of start past one

  on : bound.endpoint ≡ one.endpoint
  on = bound_on start past one.endpoint bound c.at

  pub within : StaysWithin one.endpoint (handles_of one.sending) (outcome_of start (history_of start journal) one)
  within =
      subst (λ (m : ℕ). StaysWithin m (handles_of one.sending) (outcome_of start past one)) on
      (subst (StaysWithin bound.endpoint (handles_of one.sending)) (sym c.answered.outcome) (sending_within below.spelled (still start (bound, position_of past bound.endpoint)) one.sending))

  pub heads' : Heads start journal one
  heads' = heads below start journal one s c.lawful c.first

  -- the answers of the table, where it has that life
  all_answers : (table : Table) → table.life one.endpoint ≡ Some (bound, position_of past bound.endpoint) →
      sent_on start one.endpoint one.sending table ≡ onward (answers (some_weight one).0 start) o.forward (answered table one.endpoint o)
  all_answers table lives =
      ap (λ (w : ℕ). answers w start one.endpoint one.sending table) (some_weight one).1
      ∙ one_answer start (some_weight one).0 one.endpoint one.sending table (bound, position_of past bound.endpoint) lives
      ∙ ap (λ (x : Outcome). onward (answers (some_weight one).0 start) x.forward (answered table one.endpoint x)) (sym c.answered.outcome)

  -- the frame of what waits first on a client's endpoint
  pub head_of : is_client one.endpoint ≡ true → IsHead start frames bound one (rest_of start journal one c.first).0 (position_of (history_of start journal) bound.endpoint) (written_on start journal bound.endpoint)
  head_of client =
      let rest = rest_of start journal one c.first in
      is_head below.spelled start frames bound one rest.0 (position_of past bound.endpoint) (written_on start journal bound.endpoint) s c.all c.once (ap is_client on ∙ client)
      (subst (λ (queue : List Sent). IsAsTold start frames bound queue (position_of past bound.endpoint) (written_on start journal bound.endpoint)) (ap (queue_on past) on ∙ rest.1) ((c.agrees one.endpoint client).bound bound c.at))

  new_of : (frame : Frame) (earlier : List Frame) (n : ℕ) → is_heard start (table_of start earlier) frame ≡ true → among n frame.handles ≡ true → is_new start n ≡ true
  new_of frame earlier n heard carries = new_each start frame.handles (heard_parts start (table_of start earlier) frame heard).2 n (member_of n frame.handles carries)

  clients_line : (n : ℕ) → is_client one.endpoint ≡ true → among n (endpoints_in one) ≡ true → IsCarriedLine start journal frames one n
  clients_line n client carried = record {
    later = h.later;
    frame = h.frame;
    earlier = h.earlier;
    split = h.split;
    carries = carries;
    heard = h.heard;
    new = new;
    unnamed = unnamed;
    base = base;
    named = table_named start h.earlier;
    life = untold.life;
    told = untold.told;
    more = (some_weight one).0;
    weighs = (some_weight one).1;
    ends = record { life = λ m none. (same m none).life ∙ (ends_stay below start h.earlier s).life m none; told = λ m none. (same m none).told ∙ (ends_stay below start h.earlier s).told m none };
    says =
        table_same n _ _
        (h.behind
        ∙ ap (λ (m : ℕ). sent_on start m one.sending base) on
        ∙ all_answers base (ap (λ (m : ℕ). base.life m) (sym on) ∙ h.life));
  } where
    h : IsHead start frames bound one (rest_of start journal one c.first).0 (position_of past bound.endpoint) (written_on start journal bound.endpoint)
    h = head_of client

    base : Table
    base = table_of start h.earlier

    is : (is_client n ≡ true) × (among n (handles_of one.sending) ≡ true)
    is = carried_is one n carried

    carries : among n h.frame.handles ≡ true
    carries = frame_handles h.frame one.sending n h.sends is.1

    new : is_new start n ≡ true
    new = new_of h.frame h.earlier n h.heard carries

    unnamed : is_named start h.earlier n ≡ false
    unnamed = new_unnamed start n h.later h.frame h.earlier (subst HandlesStandOnce h.split c.once) carries new

    untold : IsUntold start h.earlier n
    untold = unnamed_untold below.spelled start h.earlier n s is.0 unnamed

    each : (m : ℕ) → among m (handles_of one.sending) ≡ true → is_client m ≡ true
    each m g = (and_parts (is_client m) _ (new_of h.frame h.earlier m h.heard (frame_handles h.frame one.sending m h.sends g))).0

    same : (m : ℕ) → is_client m ≡ false → SaySame m (answered base one.endpoint o) base
    same m none =
        answered_touches base one.endpoint (handles_of one.sending) o m (table_named start h.earlier) within
        (λ e. true≢false (sym client ∙ ap is_client e ∙ none)) (clients_alone (handles_of one.sending) m each none)

  ends_line : (n : ℕ) → is_client one.endpoint ≡ false → among n (endpoints_in one) ≡ true → (t : TravelsAs start journal frames n one) → (x : Option ℕ) → Comes start n t.frame t.earlier one x → ByOrigin start (view start past).sent one x → IsCarriedLine start journal frames one n
  unfolding table_of
  ends_line n none carried t None comes by_origin = absurd (true≢false (sym by_origin.client ∙ none))
  ends_line n none carried t (Some origin) comes by_origin = record {
    later = t.later;
    frame = t.frame;
    earlier = t.earlier;
    split = t.split;
    carries = t.carries;
    heard = comes.heard;
    new = new;
    unnamed = new_unnamed start n t.later t.frame t.earlier (subst HandlesStandOnce t.split c.once) t.carries new;
    base = table_at_start start;
    named = start_named start;
    life = untold.life;
    told = untold.told;
    more = (some_weight one).0;
    weighs = (some_weight one).1;
    ends =
        subst (λ (x : Outcome). EndsStay start (answered (table_at_start start) one.endpoint x)) (sym (c.answered.outcome ∙ ap (outcome_of_sending (still start (bound, position_of past bound.endpoint))) served.forwarded.sent))
        (onward_stays below start (table_at_start start) _ (bound, position_of past bound.endpoint) s (start_named start) (record { life = λ m e. refl; told = λ m e. refl }) none served.forwarded.client served.onward served.lives);
    says =
        then_same (record { life = sym comes.rest.life; told = sym comes.rest.told })
        (table_same n _ _ (all_answers (table_at_start start) served.lives));
  } where
    served : IsEndServed start journal one bound
    served = end_served below start journal one bound s c.lawful heads' none c.stands c.at

    new : is_new start n ≡ true
    new = new_of t.frame t.earlier n comes.heard t.carries

    unfirst : (b : Bool) → not b ≡ true → (b || false) ≡ false
    unfirst true h = absurd (cc)
    unfirst false h = refl

    untold : IsUntold start [] n
    untold = unnamed_untold below.spelled start [] n s (carried_is one n carried).0 (unfirst (list_any (λ b. b.endpoint == n) start.firsts) (and_parts (is_client n) _ new).1)

  pub carried_line : (n : ℕ) → among n (endpoints_in one) ≡ true → IsCarriedLine start journal frames one n
  carried_line n carried = by_client (is_client one.endpoint) refl where
    t : TravelsAs start journal frames n one
    t = (c.agrees n (carried_is one n carried).0).travels one (heads'.serving'.answered.waits, carried)

    by_client : (b : Bool) → is_client one.endpoint ≡ b → IsCarriedLine start journal frames one n
    by_client true e = clients_line n e carried
    by_client false e = ends_line n e carried t one.origin t.comes ((lawful_kept below start s journal c.lawful).sound.right one heads'.was_sent).by_origin
