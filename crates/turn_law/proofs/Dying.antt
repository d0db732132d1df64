-- Who dies of a serving has no life in the table either, and was told what was written on it.
use Rattle.std.proofs.Common.{◌≡◌, ◌≢◌, ℕ, suc, ◌==◌, ◌&&◌, ◌||◌, ◌⊎◌, Bool, true, false, not, is_some, List, [], ◌∷◌, ◌++◌, filter, drop, length, map, Option, Some, None, All, AllPairs, Contains, ◌<◌, if◌then◌else◌, refl, sym, ap, ◌∙◌, subst, inl, inr, append-nil, append_assoc}
use Rattle.std.specs.List.{list_all, list_any}
use Rattle.std.specs.Option.{option_map, option_map_or}
use Rattle.std.proofs.lemmas.Bool.{and_parts, cases_Bool, eq-eqb, eqb-false, eqb-true, false_from_ne_true, ne_eqb, or_cases, or_left, or_parts, or_right, true≢false}
use Rattle.std.proofs.lemmas.List.Elements.{Contains-append_cases, Contains-append_left}
use Rattle.fidl_names.specs.HandleNumber.{is_client}
use Rattle.link_frames.specs.Frames.{Frame}
use Rattle.link_admission.specs.Numbering.{among}
use Rattle.conn_rules.specs.Births.{Position}
use Rattle.vfs_journal.specs.Deaths.{deaths_of, first_deaths, is_settled, others, spread}
use Rattle.vfs_journal.specs.Entries.{Journal, Sending, Sent, endpoints_in, handles_of, message}
use Rattle.vfs_journal.specs.History.{History, bound_at, is_bound, position_of, waiting}
use Rattle.vfs_journal.specs.Outcomes.{Forwarded, Outcome}
use Rattle.vfs_journal.specs.Past.{history_of}
use Rattle.vfs_journal.specs.Serving.{outcome_of}
use Rattle.vfs_journal.specs.Starts.{Bound, Start}
use Rattle.vfs_journal.specs.View.{moved}
use Rattle.journal_laws.specs.Soundness.{IsStart}
use Rattle.journal_laws.proofs.Among.{among_of, carried_from, carried_is, member_of}
use Rattle.journal_laws.proofs.Below.{Below}
use Rattle.journal_laws.proofs.Kept.{lawful_kept}
use Rattle.journal_laws.proofs.LookedUp.{own_queue}
use Rattle.journal_laws.proofs.Members.{contains_cases, contains_here, contains_later, contains_map, contains_none, kept, kept_of}
use Rattle.journal_laws.proofs.Served.{other_of}
use Rattle.journal_laws.proofs.Sound.{ByOrigin, IsForwarded, end_apart, view}
use Rattle.journal_laws.proofs.Spreading.{among_sides}
use Rattle.journal_laws.proofs.Stepping.{stepped}
use Rattle.journal_laws.proofs.Views.{is_view}
use Rattle.turn_law.specs.Counting.{before, counts_on, is_named, is_open}
use Rattle.turn_law.specs.Invariant.{AgreesOn, Comes, TravelsAs, queue_on, sendings_of, written_on}
use Rattle.turn_law.specs.Premises.{HandlesStandOnce}
use Rattle.turn_law.specs.Tables.{SaySame}
use Rattle.turn_law.specs.Told.{Table, answered, answers, is_heard, is_new, messages_on, newborn, onward, sending_by, table_of}
use Rattle.turn_law.proofs.ArrivalsAgree.{bound_on}
use Rattle.turn_law.proofs.Arriving.{IsUntold, no_life, unnamed_closed, unnamed_untold}
use Rattle.turn_law.proofs.Carried.{IsCarriedLine, IsService, carried_line, find_of, frame_handles, head_of, heads', new_unnamed, rest_of, within}
use Rattle.turn_law.proofs.Heads.{IsHead}
use Rattle.turn_law.proofs.Hearing.{unheard_table}
use Rattle.turn_law.proofs.Linked.{once_carried}
use Rattle.turn_law.proofs.LinkedSteps.{fewer_once, new_each}
use Rattle.turn_law.proofs.ServedLines.{IsServedLine, served_line}
use Rattle.turn_law.proofs.ServedPast.{dying_of}
use Rattle.turn_law.proofs.Steady.{dead_steady, named_later}
use Rattle.turn_law.proofs.Tails.{IsCarriedIn, IsSentBehind, before_tail, carrier_in, one_carrier, sent_behind_those}
use Rattle.turn_law.proofs.Touching.{all_untouched, answered_named, answers_touch, nothing_on, onward_touches, then_same, uncarried_object}
use Rattle.turn_law.proofs.Within.{StaysWithin}

-- ---- from its carrier on

once_right : (xs ys : List Frame) → HandlesStandOnce (xs ++ ys) → HandlesStandOnce ys
once_right [] ys h = h
once_right (x ∷ xs) ys h = once_right xs ys (fewer_once x (xs ++ ys) h)

pub named_here : (start : Start) (n : ℕ) (frame : Frame) (earlier : List Frame) → among n frame.handles ≡ true → is_named start (frame ∷ earlier) n ≡ true
named_here start n frame earlier h =
    or_right (list_any (λ bound. bound.endpoint == n) start.firsts) (among n frame.handles || list_any (λ f. among n f.handles) earlier) (or_left (among n frame.handles) (list_any (λ f. among n f.handles) earlier) h)

open_named : (start : Start) (n : ℕ) (frames : List Frame) → is_open start n frames ≡ true → is_named start frames n ≡ true
open_named start n frames h = by_test (is_named start frames n) refl where
  by_test : (b : Bool) → is_named start frames n ≡ b → is_named start frames n ≡ true
  by_test true e = e
  by_test false e = absurd (true≢false (sym h ∙ unnamed_closed start frames n e))

-- where nobody lives behind its carrier, nobody lives later, nor before any frame that counts there
pub record IsGoneFrom (start : Start) (frames base : List Frame) (n : ℕ) : Type 0 where
  pub says : SaySame n (table_of start frames) (table_of start base)
  pub before_counted : (later : List Frame) (frame : Frame) (earlier : List Frame) → frames ≡ later ++ frame ∷ earlier → counts_on start n earlier frame ≡ true → (table_of start earlier).life n ≡ None

pub gone_from : Below → (start : Start) (frames later : List Frame) (frame : Frame) (earlier : List Frame) (n : ℕ) → HandlesStandOnce frames → is_client n ≡ true → is_new start n ≡ true → frames ≡ later ++ frame ∷ earlier →
    among n frame.handles ≡ true → (table_of start (frame ∷ earlier)).life n ≡ None → IsGoneFrom start frames (frame ∷ earlier) n
gone_from below start frames later frame earlier n once client new split carries none = record {
  says = subst (λ (fs : List Frame). SaySame n (table_of start fs) (table_of start (frame ∷ earlier))) (sym split) (dead_steady below.spelled start n later (frame ∷ earlier) once' client named none);
  before_counted = before_it;
} where
  once' : HandlesStandOnce (later ++ frame ∷ earlier)
  once' = subst HandlesStandOnce split once

  named : is_named start (frame ∷ earlier) n ≡ true
  named = named_here start n frame earlier carries

  unfirst : (b : Bool) → not b ≡ true → b ≡ false
  unfirst true h = sym h
  unfirst false h = refl

  carried_before : (e : List Frame) → is_named start e n ≡ true → list_any (λ f. among n f.handles) e ≡ true
  carried_before e h =
      ap (λ (b : Bool). b || list_any (λ f. among n f.handles) e) (sym (unfirst (list_any (λ bound. bound.endpoint == n) start.firsts) (and_parts (is_client n) _ new).1)) ∙ h

  before_it : (l : List Frame) (f : Frame) (e : List Frame) → frames ≡ l ++ f ∷ e → counts_on start n e f ≡ true → (table_of start e).life n ≡ None
  before_it l f e split' counts =
      let opens = (and_parts (is_open start n e) (list_all (is_new start) f.handles) (and_parts (f.endpoint == n) _ counts).1).0 in
      let c = carrier_in n e (carried_before e (open_named start n e opens)) in
      let whole : l ++ f ∷ e ≡ (l ++ f ∷ c.later) ++ c.frame ∷ c.earlier =
      ap (λ (fs : List Frame). l ++ f ∷ fs) c.split ∙ sym (append_assoc l (f ∷ c.later) (c.frame ∷ c.earlier)) in
      let same = one_carrier n later (l ++ f ∷ c.later) frame c.frame earlier c.earlier once' (sym split ∙ split' ∙ whole) carries c.carries in
      let tail : e ≡ c.later ++ frame ∷ earlier =
      c.split ∙ ap (λ (fs : List Frame). c.later ++ c.frame ∷ fs) (sym same.1) ∙ ap (λ (x : Frame). c.later ++ x ∷ earlier) (sym same.0) in
      let once'' : HandlesStandOnce (c.later ++ frame ∷ earlier) = subst HandlesStandOnce tail (once_right (f ∷ []) e (once_right l (f ∷ e) (subst HandlesStandOnce split' once))) in
      subst (λ (fs : List Frame). (table_of start fs).life n ≡ None) (sym tail)
      ((dead_steady below.spelled start n c.later (frame ∷ earlier) once'' client named none).life ∙ none)

-- ---- who dies

-- no life, and told what was written; and nobody lives there before what waits on it
pub record IsDeadIn (start : Start) (frames : List Frame) (past : History) (one : Sent) (n : ℕ) (written : List Frame) : Type 0 where
  pub client : is_client n ≡ true
  pub ended : (table_of start frames).life n ≡ None
  pub told : (table_of start frames).told n ≡ written
  pub before_waiting : (x : Sent) (m : ℕ) (later : List Frame) (frame : Frame) (earlier : List Frame) → Contains (others past one) x → x.endpoint ≡ n → among m (handles_of x.sending) ≡ true → frames ≡ later ++ frame ∷ earlier →
      among m frame.handles ≡ true → counts_on start n earlier frame ≡ true → (table_of start earlier).life n ≡ None

-- all that a pass of deaths reaches has what the first have, and what is carried on such an endpoint
pub spread_all : (P : ℕ → Type 0) (dying : List ℕ) (ones : List Sent) → ((n : ℕ) → among n dying ≡ true → P n) → ((x : Sent) → Contains ones x → P x.endpoint → (n : ℕ) → among n (endpoints_in x) ≡ true → P n) →
    (n : ℕ) → among n (spread dying ones) ≡ true → P n
spread_all P dying [] first each n h = first n h
spread_all P dying (x ∷ ones) first each n h =
    spread_all P (if among x.endpoint dying then dying ++ endpoints_in x else dying) ones (λ m g. by_test (among x.endpoint dying) refl m g) (λ y there. each y (contains_later y x ones there)) n h where
      by_side : among x.endpoint dying ≡ true → (m : ℕ) → (among m dying ≡ true) ⊎ (among m (endpoints_in x) ≡ true) → P m
      by_side dies m (inl g) = first m g
      by_side dies m (inr g) = each x (contains_here x ones) (first x.endpoint dies) m g

      by_test : (b : Bool) → among x.endpoint dying ≡ b → (m : ℕ) → among m (if b then dying ++ endpoints_in x else dying) ≡ true → P m
      by_test true e m g = by_side e m (among_sides m dying (endpoints_in x) g)
      by_test false e m g = first m g

module _ (below : Below) (start : Start) (journal : Journal) (frames : List Frame) (one : Sent) (bound : Bound) (s : IsStart start) (c : IsService start journal frames one bound) where
  abbrev past : History
  past = history_of start journal

  abbrev o : Outcome
  o = outcome_of start past one

  -- what is written on an endpoint then
  abbrev pub written : ℕ → List Frame
  written n = written_on start journal n ++ messages_on n (outcome_of start (history_of start journal) one).frames

  inside : StaysWithin one.endpoint (handles_of one.sending) o
  inside = within below start journal frames one bound s c

  -- what the answer makes of an endpoint that it carries and that doesn't go on
  pub line_says : (n : ℕ) → is_client n ≡ true → (l : IsCarriedLine start journal frames one n) → ((f : Forwarded) → (outcome_of start (history_of start journal) one).forward ≡ Some f → (f.object == n) ≡ false) →
      SaySame n (table_of start (l.frame ∷ l.earlier)) (answered l.base one.endpoint (outcome_of start (history_of start journal) one))
  line_says n client l other = then_same l.says (by_forward o.forward refl) where
    by_forward : (x : Option Forwarded) → o.forward ≡ x → SaySame n (onward (answers l.more start) x (answered l.base one.endpoint o)) (answered l.base one.endpoint o)
    by_forward None e = record { life = refl; told = refl }
    by_forward (Some f) e =
        onward_touches start l.more (answered l.base one.endpoint o) (f.object ∷ []) n (λ e s t g o u. answers_touch below.spelled l.more start e s t n client g o u) client
        (ap (λ (b : Bool). b || false) (other f e)) (answered_named l.base one.endpoint o l.named) (Some f)
        (λ g same. subst (λ (y : Forwarded). (among y.object (f.object ∷ []) ≡ true) × (is_client y.endpoint ≡ false)) (forward_same same)
        (or_left (f.object == f.object) false (eq-eqb f.object f.object refl), (inside.forward f e).1)) where
          forward_same : {x y : Forwarded} → Some x ≡ Some y → x ≡ y
          forward_same e = cc

  pub line_life : (n : ℕ) → (l : IsCarriedLine start journal frames one n) → (answered l.base one.endpoint (outcome_of start (history_of start journal) one)).life n
      ≡ (if among n (outcome_of start (history_of start journal) one).ends then None
      else if option_map_or (λ b. b.endpoint == n) (outcome_of start (history_of start journal) one).bound false then option_map newborn (outcome_of start (history_of start journal) one).bound else None)
  line_life n l = ap (λ (x : Option (Bound × Position)). if among n o.ends then None else if option_map_or (λ b. b.endpoint == n) o.bound false then option_map newborn o.bound else option_map (moved one.endpoint o.position) x) l.life

  pub line_told : (n : ℕ) → (l : IsCarriedLine start journal frames one n) → (answered l.base one.endpoint (outcome_of start (history_of start journal) one)).told n ≡ messages_on n (outcome_of start (history_of start journal) one).frames
  line_told n l = ap (λ (fs : List Frame). fs ++ messages_on n o.frames) l.told

  -- nothing was written on what is carried
  pub silent : (n : ℕ) → among n (endpoints_in one) ≡ true → written_on start journal n ≡ []
  silent n carried = ((c.agrees n (carried_is one n carried).0).travels one ((heads' below start journal frames one bound s c).serving'.answered.waits, carried)).silent

  -- carried by what is served, and not born
  unborn_dies : (n : ℕ) → among n (endpoints_in one) ≡ true → ((f : Forwarded) → o.forward ≡ Some f → (f.object == n) ≡ false) →
      ((if among n o.ends then None else if option_map_or (λ b. b.endpoint == n) o.bound false then option_map newborn o.bound else None) ≡ None) → IsDeadIn start frames past one n (written n)
  unborn_dies n carried other none = record {
    client = client;
    ended = gone.says.life ∙ life;
    told = gone.says.told ∙ says.told ∙ line_told n l ∙ sym (ap (λ (fs : List Frame). fs ++ messages_on n o.frames) (silent n carried));
    before_waiting = λ x m later frame earlier there on here split carries counts. gone.before_counted later frame earlier split counts;
  } where
    client : is_client n ≡ true
    client = (carried_is one n carried).0

    l : IsCarriedLine start journal frames one n
    l = carried_line below start journal frames one bound s c n carried

    says : SaySame n (table_of start (l.frame ∷ l.earlier)) (answered l.base one.endpoint o)
    says = line_says n client l other

    life : (table_of start (l.frame ∷ l.earlier)).life n ≡ None
    life = says.life ∙ line_life n l ∙ none

    gone : IsGoneFrom start frames (l.frame ∷ l.earlier) n
    gone = gone_from below start frames l.later l.frame l.earlier n c.once client l.new l.split l.carries life

  -- what is carried, or waits, is on its way
  pub bound_uncarried : (x : Sent) (n : ℕ) → Contains (waiting (history_of start journal)) x → among n (endpoints_in x) ≡ true → (one.endpoint == n) ≡ false
  bound_uncarried x n there carried =
      ne_eqb one.endpoint n
      (λ e.
      let unbound = (lawful_kept below start s journal c.lawful).transit.unbound x n there carried in
      true≢false (sym (ap (λ (m : ℕ). is_some (bound_at start past m)) (sym e) ∙ ap is_some c.at) ∙ unbound))

  pub other_uncarried : (x : Sent) (n : ℕ) → Contains (others (history_of start journal) one) x → among n (endpoints_in x) ≡ true → among n (handles_of one.sending) ≡ false
  other_uncarried x n there carried =
      false_from_ne_true (among n (handles_of one.sending))
      (λ h.
      let other = other_of (waiting past) one x there in
      let same = (lawful_kept below start s journal c.lawful).transit.once x one n other.0 (heads' below start journal frames one bound s c).serving'.answered.waits carried
      (carried_from one n (carried_is x n carried).0 h) in
      other.1 (ap (λ (y : Sent). y.place) same))

  -- on others nothing is written
  pub untouched_written : (n : ℕ) → (one.endpoint == n) ≡ false → among n (handles_of one.sending) ≡ false → messages_on n (outcome_of start (history_of start journal) one).frames ≡ []
  untouched_written n other uncarried = nothing_on n o.frames (all_untouched n one.endpoint (handles_of one.sending) o.frames (eqb-false one.endpoint n other) uncarried inside.frames)

  pub own_uncarried : is_client one.endpoint ≡ true → among bound.endpoint (handles_of one.sending) ≡ false
  own_uncarried client =
      false_from_ne_true (among bound.endpoint (handles_of one.sending))
      (λ h.
      let on = bound_on start past one.endpoint bound c.at in
      true≢false (sym (eq-eqb one.endpoint bound.endpoint (sym on))
      ∙ bound_uncarried one bound.endpoint (heads' below start journal frames one bound s c).serving'.answered.waits (carried_from one bound.endpoint (ap is_client on ∙ client) h)))

  -- what the table says behind what is served on a client's endpoint
  pub own_line : (client : is_client one.endpoint ≡ true) →
      IsServedLine start frames bound (rest_of start journal one c.first).0 (written_on start journal bound.endpoint) (outcome_of start (history_of start journal) one)
  own_line client =
      subst (IsServedLine start frames bound (rest_of start journal one c.first).0 (written_on start journal bound.endpoint)) (sym c.answered.outcome)
      (served_line below.spelled start frames bound one (rest_of start journal one c.first).0 (position_of past bound.endpoint) (written_on start journal bound.endpoint)
      (ap is_client (bound_on start past one.endpoint bound c.at) ∙ client) (own_uncarried client) (head_of below start journal frames one bound s c client))

  -- the served endpoint, where the answer ends it
  own_dies : is_client one.endpoint ≡ true → among bound.endpoint o.ends ≡ true → IsDeadIn start frames past one bound.endpoint (written bound.endpoint)
  own_dies client ends = record {
    client = client';
    ended = whole.life ∙ none;
    told = whole.told ∙ line.told;
    before_waiting = before_it;
  } where
    on : bound.endpoint ≡ one.endpoint
    on = bound_on start past one.endpoint bound c.at

    client' : is_client bound.endpoint ≡ true
    client' = ap is_client on ∙ client

    rest : List Sent
    rest = (rest_of start journal one c.first).0

    h : IsHead start frames bound one rest (position_of past bound.endpoint) (written_on start journal bound.endpoint)
    h = head_of below start journal frames one bound s c client

    line : IsServedLine start frames bound rest (written_on start journal bound.endpoint) o
    line = own_line client

    base : List Frame
    base = before start bound.endpoint (length rest) frames

    none : (table_of start base).life bound.endpoint ≡ None
    none = line.life ∙ ap (λ (b : Bool). if b then None else Some (bound, o.position)) ends

    named : is_named start base bound.endpoint ≡ true
    named =
        subst (λ (fs : List Frame). is_named start fs bound.endpoint ≡ true) (sym (h.newer ∙ sym (append_assoc h.mid (h.frame ∷ []) h.earlier)))
        (named_later start (h.mid ++ h.frame ∷ []) h.earlier bound.endpoint (by_test (is_named start h.earlier bound.endpoint) refl)) where
          by_test : (b : Bool) → is_named start h.earlier bound.endpoint ≡ b → is_named start h.earlier bound.endpoint ≡ true
          by_test true e = e
          by_test false e = absurd (let wrong : None ≡ Some (bound, position_of past bound.endpoint) = sym (unnamed_untold below.spelled start h.earlier bound.endpoint s client' e).life ∙ h.life in cc)

    tail : (mid : List Frame) × (frames ≡ mid ++ base)
    tail = before_tail start bound.endpoint (length rest) frames

    whole : SaySame bound.endpoint (table_of start frames) (table_of start base)
    whole =
        subst (λ (fs : List Frame). SaySame bound.endpoint (table_of start fs) (table_of start base)) (sym tail.1)
        (dead_steady below.spelled start bound.endpoint tail.0 base (subst HandlesStandOnce tail.1 c.once) client' named none)

    -- what waits on it still was sent behind those
    sent_there : (x : Sent) → Contains (others past one) x → x.endpoint ≡ bound.endpoint → IsSentBehind frames base x.sending
    sent_there x there at =
        sent_behind_those start bound.endpoint (length rest) frames x.sending
        (subst (λ (ss : List Sending). Contains ss x.sending) h.waits
        (contains_map (λ (y : Sent). y.sending) rest x
        (subst (λ (ones : List Sent). Contains ones x)
        (own_queue one.endpoint one (waiting past) (is_view start journal (stepped start journal c.lawful)).rises (find_of (is_bound start past one.endpoint) _ one c.first)
        ∙ ap (drop 1) (rest_of start journal one c.first).1)
        (kept (λ (y : Sent). y.endpoint == one.endpoint) (others past one) x there (eq-eqb x.endpoint one.endpoint (at ∙ on))))))

    before_it : (x : Sent) (m : ℕ) (later : List Frame) (frame : Frame) (earlier : List Frame) → Contains (others past one) x → x.endpoint ≡ bound.endpoint → among m (handles_of x.sending) ≡ true → frames ≡ later ++ frame ∷ earlier →
        among m frame.handles ≡ true → counts_on start bound.endpoint earlier frame ≡ true → (table_of start earlier).life bound.endpoint ≡ None
    before_it x m later frame earlier there at carried split carries counts =
        let g = sent_there x there at in
        let same = one_carrier m later g.later frame g.frame earlier g.earlier (subst HandlesStandOnce split c.once) (sym split ∙ g.split) carries (frame_handles g.frame x.sending m g.sends carried) in
        let behind : earlier ≡ g.mid ++ base = same.1 ∙ g.behind in
        let once' : HandlesStandOnce (g.mid ++ base) = subst HandlesStandOnce behind (once_right (frame ∷ []) earlier (once_right later (frame ∷ earlier) (subst HandlesStandOnce split c.once))) in
        subst (λ (fs : List Frame). (table_of start fs).life bound.endpoint ≡ None) (sym behind)
        ((dead_steady below.spelled start bound.endpoint g.mid base once' client' named none).life ∙ none)

  -- what the answer ends, and what is carried and nothing is done with
  ended_dies : (n : ℕ) → among n o.ends ≡ true → IsDeadIn start frames past one n (written n)
  ended_dies n ends = by_side ((heads' below start journal frames one bound s c).serving'.answered.ends_in n ends) where
    on : bound.endpoint ≡ one.endpoint
    on = bound_on start past one.endpoint bound c.at

    stays : (f : Forwarded) → o.forward ≡ Some f → (f.object == n) ≡ false
    stays f e = absurd (true≢false (sym ends ∙ ap (among n) ((heads' below start journal frames one bound s c).serving'.answered.goes_on f e).2))

    by_side : ((n ≡ one.endpoint) × (is_client n ≡ true)) ⊎ (among n (endpoints_in one) ≡ true) → IsDeadIn start frames past one n (written n)
    by_side (inl own) =
        let same : bound.endpoint ≡ n = on ∙ sym own.0 in
        subst (λ (m : ℕ). IsDeadIn start frames past one m (written m)) same (own_dies (ap is_client (sym own.0) ∙ own.1) (ap (λ (m : ℕ). among m o.ends) same ∙ ends))
    by_side (inr carried) =
        unborn_dies n carried stays (ap (λ (b : Bool). if b then None else if option_map_or (λ b. b.endpoint == n) o.bound false then option_map newborn o.bound else None) ends)

  left_dies : (n : ℕ) → among n (endpoints_in one) ≡ true → is_settled o n ≡ false → IsDeadIn start frames past one n (written n)
  left_dies n carried left =
      let a = or_parts (option_map_or (λ b. b.endpoint == n) o.bound false) _ left in
      let b = or_parts (among n o.ends) (option_map_or (λ f. f.object == n) o.forward false) a.1 in
      unborn_dies n carried (λ f e. ap (λ (x : Option Forwarded). option_map_or (λ g. g.object == n) x false) (sym e) ∙ b.1)
      (ap (λ (x : Bool). if x then None else if option_map_or (λ b. b.endpoint == n) o.bound false then option_map newborn o.bound else None) b.0
      ∙ ap (λ (x : Bool). if x then option_map newborn o.bound else None) a.0)

  first_dies : (n : ℕ) → among n (first_deaths one o) ≡ true → IsDeadIn start frames past one n (written n)
  first_dies n h = by_side (among_sides n o.ends (filter (λ endpoint. not (is_settled o endpoint)) (endpoints_in one)) h) where
    unsettled : (b : Bool) → not b ≡ true → b ≡ false
    unsettled true g = sym g
    unsettled false g = refl

    by_side : (among n o.ends ≡ true) ⊎ (among n (filter (λ endpoint. not (is_settled o endpoint)) (endpoints_in one)) ≡ true) → IsDeadIn start frames past one n (written n)
    by_side (inl e) = ended_dies n e
    by_side (inr g) =
        let k = kept_of (λ endpoint. not (is_settled o endpoint)) (endpoints_in one) n (member_of n _ g) in
        left_dies n (among_of n (endpoints_in one) k.0) (unsettled (is_settled o n) k.1)

  -- what another entry carries, on an endpoint that dies
  dropped_dies : (x : Sent) → Contains (others past one) x → IsDeadIn start frames past one x.endpoint (written x.endpoint) → (n : ℕ) → among n (endpoints_in x) ≡ true → IsDeadIn start frames past one n (written n)
  dropped_dies x there dead n carried = by_origin x.origin t.comes right where
    other : Contains (waiting past) x × (x.place ≢ one.place)
    other = other_of (waiting past) one x there

    is : (is_client n ≡ true) × (among n (handles_of x.sending) ≡ true)
    is = carried_is x n carried

    t : TravelsAs start journal frames n x
    t = (c.agrees n is.0).travels x (other.0, carried)

    right : ByOrigin start (view start past).sent x x.origin
    right = ((lawful_kept below start s journal c.lawful).sound.right x ((is_view start journal (stepped start journal c.lawful)).waits x other.0)).by_origin

    by_origin : (y : Option ℕ) → Comes start n t.frame t.earlier x y → ByOrigin start (view start past).sent x y → IsDeadIn start frames past one n (written n)
    by_origin (Some origin) comes by = absurd (true≢false (sym dead.client ∙ end_apart start x.endpoint s by.end))
    by_origin None comes by = record {
      client = is.0;
      ended = gone.says.life ∙ none;
      told = gone.says.told ∙ ap (λ (table : Table). table.told n) unheard ∙ untold.told ∙ sym (ap (λ (fs : List Frame). fs ++ messages_on n o.frames) t.silent ∙ untouched_written n (bound_uncarried x n other.0 carried) (other_uncarried x n there carried));
      before_waiting = λ y m later frame earlier there' at' here split carries counts. gone.before_counted later frame earlier split counts;
    } where
      counts : counts_on start x.endpoint t.earlier t.frame ≡ true
      counts = ap (λ (m : ℕ). counts_on start m t.earlier t.frame) (sym comes.on) ∙ comes.counts

      new : is_new start n ≡ true
      new = new_each start t.frame.handles (and_parts (is_open start x.endpoint t.earlier) (list_all (is_new start) t.frame.handles) (and_parts (t.frame.endpoint == x.endpoint) _ counts).1).1 n (member_of n t.frame.handles t.carries)

      untold : IsUntold start t.earlier n
      untold = unnamed_untold below.spelled start t.earlier n s is.0 (new_unnamed start n t.later t.frame t.earlier (subst HandlesStandOnce t.split c.once) t.carries new)

      unheard : table_of start (t.frame ∷ t.earlier) ≡ table_of start t.earlier
      unheard =
          unheard_table start t.frame t.earlier
          (no_life start t.frame t.earlier x.endpoint (dead.before_waiting x n t.later t.frame t.earlier there refl is.1 t.split t.carries counts) comes.on)

      none : (table_of start (t.frame ∷ t.earlier)).life n ≡ None
      none = ap (λ (table : Table). table.life n) unheard ∙ untold.life

      gone : IsGoneFrom start frames (t.frame ∷ t.earlier) n
      gone = gone_from below start frames t.later t.frame t.earlier n c.once is.0 new t.split t.carries none

  pub all_that_die : (n : ℕ) → among n (dying_of (history_of start journal) one (outcome_of start (history_of start journal) one)) ≡ true → IsDeadIn start frames (history_of start journal) one n (written n)
  all_that_die n h = spread_all (λ m. IsDeadIn start frames past one m (written m)) (first_deaths one o) (others past one) first_dies dropped_dies n h
