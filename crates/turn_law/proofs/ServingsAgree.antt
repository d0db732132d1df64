-- Endpoints agree with the table behind each serving.
use Rattle.std.proofs.Common.{◌≡◌, ◌≢◌, ℕ, suc, ◌≤◌, ◌<◌, ◌==◌, ◌&&◌, ◌||◌, ◌⊎◌, Bool, true, false, not, is_some, List, [], ◌∷◌, ◌++◌, filter, filter_map, drop, length, reverse, take, map, Option, Some, None, All, Contains, if◌then◌else◌, refl, sym, ap, ◌∙◌, subst, inl, inr, append-nil, length-append, arith}
use Rattle.std.specs.List.{list_any}
use Rattle.std.specs.Option.{option_map, option_map_or}
use Rattle.std.specs.Prelude.{option_to_list}
use Rattle.std.proofs.lemmas.Bool.{and_parts, cases_Bool, eq-eqb, eqb-false, eqb-true, false_from_ne_true, ne_eqb, or_cases, true≢false}
use Rattle.std.proofs.lemmas.List.Elements.{All-cons, All-head, All-nil, All-tail, All-weaker}
use Rattle.fidl_names.specs.HandleNumber.{is_client}
use Rattle.link_frames.specs.declared.kinds.Side.TheVariants.{ToServers}
use Rattle.link_frames.specs.Frames.{Frame, IsFrame}
use Rattle.link_admission.specs.Numbering.{among}
use Rattle.conn_rules.specs.Births.{Position, fresh}
use Rattle.vfs_journal.specs.Deaths.{first_deaths, is_settled, others}
use Rattle.vfs_journal.specs.Entries.{Journal, Sending, Sent, endpoints_in, handles_of, message}
use Rattle.vfs_journal.specs.History.{History, bound_at, is_bound, is_live, position_of, waiting}
use Rattle.vfs_journal.specs.Outcomes.{Forwarded, Outcome}
use Rattle.vfs_journal.specs.Past.{history_of}
use Rattle.vfs_journal.specs.Serving.{outcome_of}
use Rattle.vfs_journal.specs.Session.{after_serving, weight_of}
use Rattle.vfs_journal.specs.Starts.{Bound, Start}
use Rattle.vfs_journal.specs.View.{View, at_in, moved, with_position}
use Rattle.journal_laws.specs.Soundness.{Carries, IsStart}
use Rattle.journal_laws.specs.Viewing.{view_behind}
use Rattle.journal_laws.proofs.Among.{carried_from, carried_is}
use Rattle.journal_laws.proofs.Below.{Below}
use Rattle.journal_laws.proofs.Kept.{lawful_kept, one_handle}
use Rattle.journal_laws.proofs.KnowingServed.{After, after_served, carried_lives}
use Rattle.journal_laws.proofs.Lists.{filter_map-more}
use Rattle.journal_laws.proofs.Served.{IsAnswered, other_of}
use Rattle.journal_laws.proofs.Sound.{view}
use Rattle.journal_laws.proofs.Spreading.{among_front, spread_keeps}
use Rattle.journal_laws.proofs.ViewParts.{at_is}
use Rattle.turn_law.specs.Counting.{before, counting, counts_on, sendings_in}
use Rattle.turn_law.specs.Invariant.{AgreesOn, Comes, IsAsTold, IsGone, IsRestOf, TravelsAs, queue_on, sendings_of, written_on}
use Rattle.turn_law.specs.Premises.{HandlesStandOnce}
use Rattle.turn_law.specs.Tables.{SaySame}
use Rattle.turn_law.specs.Told.{Table, answered, answers, messages_on, newborn, onward, sending_by, sent_on, still, table_at_start, table_of}
use Rattle.turn_law.proofs.Alike.{answers_over, onwards_alike, something_weighs}
use Rattle.turn_law.proofs.ArrivalsAgree.{bound_live, bound_on, told_same}
use Rattle.turn_law.proofs.Arriving.{IsUntold, unnamed_untold}
use Rattle.turn_law.proofs.Carried.{IsCarriedLine, IsService, Sends, carried_line, head_of, heads', rest_of, within}
use Rattle.turn_law.proofs.Dying.{IsDeadIn, all_that_die, bound_uncarried, named_here, line_life, line_says, line_told, other_uncarried, own_line, silent, untouched_written}
use Rattle.turn_law.proofs.Counted.{table_same}
use Rattle.turn_law.proofs.EndPlaces.{end_served}
use Rattle.turn_law.proofs.Forwards.{IsLighter, sending_goes}
use Rattle.turn_law.proofs.Heads.{IsHead, sendings_long}
use Rattle.turn_law.proofs.ServedLines.{IsServedLine}
use Rattle.turn_law.proofs.ServedPast.{IsGoneOn, IsLeft, IsServedPast, at_by, dying_of, queue_by, served_past}
use Rattle.turn_law.proofs.Steady.{carried_counting, carried_steady}
use Rattle.turn_law.proofs.Touching.{answered_named, nothing_on, start_named, then_same}
use Rattle.turn_law.proofs.Within.{StaysWithin}

-- ---- each frame that counts sends something

all_sent_by : (fs : List Frame) → All Sends fs → length (sendings_in fs) ≡ length fs
all_sent_by [] h = refl
all_sent_by (f ∷ fs) h =
    let rest = all_sent_by fs (All-tail Sends f fs h) in
    let own = All-head Sends f fs h in
    let more = ap length (filter_map-more (λ (g : Frame). sending_by g.kind g) f fs ∙ ap (λ (o : Option Sending). sendings_in fs ++ option_to_list o) own.1) in
    let long = length-append (sendings_in fs) (own.0 ∷ []) in
    omega (arith, rest, more, long)

counting_sends : (start : Start) (n : ℕ) (fs : List Frame) → All Sends fs → All Sends (counting start n fs)
unfolding counting
counting_sends start n [] h = All-nil Sends
counting_sends start n (f ∷ fs) h = by_test (counts_on start n fs f) (counting_sends start n fs (All-tail Sends f fs h)) where
  by_test : (b : Bool) → All Sends (counting start n fs) → All Sends (if b then f ∷ counting start n fs else counting start n fs)
  by_test true rest = All-cons Sends f (counting start n fs) (All-head Sends f fs h) rest
  by_test false rest = rest

take_whole : (fs : List Frame) → take (length fs) fs ≡ fs
take_whole [] = refl
take_whole (f ∷ fs) = ap (λ (gs : List Frame). f ∷ gs) (take_whole fs)

-- ---- tests

pair_parts : {x y : Bound × Position} → Some x ≡ Some y → x ≡ y
pair_parts e = cc

live_parts : (a b : Bool) → (a && not b) ≡ true → (a ≡ true) × (b ≡ false)
live_parts true true h = absurd (cc)
live_parts true false h = (refl, refl)
live_parts false b h = absurd (cc)

gone_parts : (a b : Bool) → (a && not b) ≡ false → (a ≡ false) ⊎ (b ≡ true)
gone_parts true true h = inr refl
gone_parts true false h = absurd (cc)
gone_parts false b h = inl refl

-- behind an Open that goes on its object is as at the start
start_alike : (below : Below) (start : Start) (journal : Journal) (frames : List Frame) (one : Sent) (bound : Bound) (s : IsStart start) (c : IsService start journal frames one bound) (n : ℕ) (l : IsCarriedLine start journal frames one n) →
    (let o = outcome_of start (history_of start journal) one in (o.frames ≡ []) × (o.ends ≡ []) × (o.bound ≡ None)) → IsUntold start [] n →
    SaySame n (answered l.base one.endpoint (outcome_of start (history_of start journal) one)) (table_at_start start)
unfolding table_of
start_alike below start journal frames one bound s c n l alone none =
    let o = outcome_of start (history_of start journal) one in
    record {
      life =
          line_life below start journal frames one bound s c n l
          ∙ ap (λ (es : List ℕ). if among n es then None else if option_map_or (λ b. b.endpoint == n) o.bound false then option_map newborn o.bound else None) alone.1
          ∙ ap (λ (x : Option Bound). if option_map_or (λ b. b.endpoint == n) x false then option_map newborn x else None) alone.2
          ∙ sym none.life;
      told = line_told below start journal frames one bound s c n l ∙ ap (messages_on n) alone.0;
    }

module _ (below : Below) (start : Start) (journal : Journal) (frames : List Frame) (one : Sent) (bound : Bound) (s : IsStart start) (c : IsService start journal frames one bound) where
  abbrev past : History
  past = history_of start journal

  abbrev o : Outcome
  o = outcome_of start past one

  abbrev now : History
  now = history_of start (after_serving start journal one)

  abbrev dying : List ℕ
  dying = dying_of past one o

  inside : StaysWithin one.endpoint (handles_of one.sending) o
  inside = within below start journal frames one bound s c

  behind : IsServedPast start journal one
  behind = served_past below start journal one s c.lawful c.first

  waits' : Contains (waiting past) one
  waits' = (heads' below start journal frames one bound s c).serving'.answered.waits

  after' : After start past now dying
  after' = after_served below start journal one s c.lawful c.first

  on : bound.endpoint ≡ one.endpoint
  on = bound_on start past one.endpoint bound c.at

  queue_now : (n : ℕ) → is_client n ≡ true → among n dying ≡ false → queue_on now n ≡ (if one.endpoint == n then drop 1 (queue_on past n) else queue_on past n)
  queue_now n client spared =
      behind.queue n (λ f e. ne_eqb f.endpoint n (λ same. true≢false (sym client ∙ ap is_client (sym same) ∙ (inside.forward f e).1)))
      ∙ ap (λ (b : Bool). if b then [] else if one.endpoint == n then drop 1 (queue_on past n) else queue_on past n) spared

  queue_same : (n : ℕ) → is_client n ≡ true → among n dying ≡ false → (one.endpoint == n) ≡ false → queue_on now n ≡ queue_on past n
  queue_same n client spared other = queue_now n client spared ∙ ap (λ (b : Bool). if b then drop 1 (queue_on past n) else queue_on past n) other

  written_now : (n : ℕ) → written_on start (after_serving start journal one) n ≡ written_on start journal n ++ messages_on n o.frames
  written_now n = c.answered.written n

  ends_spared : (n : ℕ) → among n dying ≡ false → among n o.ends ≡ false
  ends_spared n spared =
      false_from_ne_true (among n o.ends) (λ e. true≢false (sym (spread_keeps n (first_deaths one o) (others past one) (among_front n o.ends _ e)) ∙ spared))

  -- ---- who is bound

  -- whoever was just bound
  newly_told : (b : Bound) → o.bound ≡ Some b → among b.endpoint dying ≡ false → IsAsTold start frames b (queue_on now b.endpoint) fresh (written_on start (after_serving start journal one) b.endpoint)
  newly_told b is spared =
      told_same start frames b (queue_on past n) (queue_on now n) fresh fresh (messages_on n o.frames) _ (sym (queue_same n client spared (bound_uncarried below start journal frames one bound s c one n waits' carried))) refl
      (sym (written_now n ∙ ap (λ (fs : List Frame). fs ++ messages_on n o.frames) (silent below start journal frames one bound s c n carried)))
      (record {
        waits = t.queue ∙ sym (ap (λ (k : ℕ). sendings_in (take k (counting start n frames))) many ∙ ap sendings_in (take_whole (counting start n frames)));
        life = whole.life ∙ line.life ∙ line_life below start journal frames one bound s c n l ∙ born;
        told = whole.told ∙ line.told ∙ line_told below start journal frames one bound s c n l;
      }) where
        n : ℕ
        n = b.endpoint

        carried : among n (endpoints_in one) ≡ true
        carried = (heads' below start journal frames one bound s c).serving'.answered.bound_in b is

        client : is_client n ≡ true
        client = (carried_is one n carried).0

        t : TravelsAs start journal frames n one
        t = (c.agrees n client).travels one (waits', carried)

        l : IsCarriedLine start journal frames one n
        l = carried_line below start journal frames one bound s c n carried

        stays : (f : Forwarded) → o.forward ≡ Some f → (f.object == n) ≡ false
        stays f e = absurd (let wrong : Some b ≡ None = sym is ∙ (inside.onward f e).2 in cc)

        line : SaySame n (table_of start (l.frame ∷ l.earlier)) (answered l.base one.endpoint o)
        line = line_says below start journal frames one bound s c n client l stays

        born : (if among n o.ends then None else if option_map_or (λ b. b.endpoint == n) o.bound false then option_map newborn o.bound else None) ≡ Some (b, fresh)
        born =
            ap (λ (x : Bool). if x then None else if option_map_or (λ b. b.endpoint == n) o.bound false then option_map newborn o.bound else None) (ends_spared n spared)
            ∙ ap (λ (x : Option Bound). if option_map_or (λ b. b.endpoint == n) x false then option_map newborn x else None) is
            ∙ ap (λ (x : Bool). if x then Some (newborn b) else None) (eq-eqb b.endpoint n refl)

        many : length (queue_on past n) ≡ length (counting start n frames)
        many =
            let a = sendings_long (queue_on past n) in
            let b' = ap length t.queue in
            let d = all_sent_by (counting start n frames) (counting_sends start n frames c.sends) in
            omega (arith, a, b', d)

        base : List Frame
        base = l.frame ∷ l.earlier

        whole : SaySame n (table_of start (before start n (length (queue_on past n)) frames)) (table_of start base)
        whole =
            subst (λ (k : ℕ). SaySame n (table_of start (before start n k frames)) (table_of start base)) (sym many)
            (subst (λ (fs : List Frame). SaySame n (table_of start (before start n (length (counting start n fs)) fs)) (table_of start base)) (sym l.split)
            (carried_steady below.spelled start n l.later base s (subst (All (IsFrame ToServers)) l.split c.all) (subst HandlesStandOnce l.split c.once) client
            (named_here start n l.frame l.earlier l.carries) (carried_counting start n l.frame l.earlier l.unnamed)))

  some_bound : {x y : Bound} → Some x ≡ Some y → x ≡ y
  some_bound e = cc

  -- whoever was bound, and is
  old_told : (b : Bound) → is_client b.endpoint ≡ true → bound_at start past b.endpoint ≡ Some b → among b.endpoint dying ≡ false →
      IsAsTold start frames b (queue_on now b.endpoint) (moved one.endpoint o.position (b, position_of past b.endpoint)).1 (written_on start (after_serving start journal one) b.endpoint)
  old_told b client is spared = by_place (cases_Bool (b.endpoint == one.endpoint)) where
    old : IsAsTold start frames b (queue_on past b.endpoint) (position_of past b.endpoint) (written_on start journal b.endpoint)
    old = (c.agrees b.endpoint client).bound b is

    uncarried : among b.endpoint (handles_of one.sending) ≡ false
    uncarried =
        false_from_ne_true (among b.endpoint (handles_of one.sending))
        (λ h.
        let unbound = (lawful_kept below start s journal c.lawful).transit.unbound one b.endpoint waits' (carried_from one b.endpoint client h) in
        true≢false (sym (ap is_some is) ∙ unbound))

    -- the served one
    own : b.endpoint ≡ one.endpoint → b ≡ bound
    own at = some_bound (sym is ∙ ap (bound_at start past) at ∙ c.at)

    own_told : is_client one.endpoint ≡ true → among bound.endpoint dying ≡ false → IsAsTold start frames bound (queue_on now bound.endpoint) o.position (written_on start (after_serving start journal one) bound.endpoint)
    own_told client' spared' =
        told_same start frames bound rest (queue_on now bound.endpoint) o.position o.position _ _
        (sym (queue_now bound.endpoint (ap is_client on ∙ client') spared'
        ∙ ap (λ (x : Bool). if x then drop 1 (queue_on past bound.endpoint) else queue_on past bound.endpoint) (eq-eqb one.endpoint bound.endpoint (sym on))
        ∙ ap (λ (m : ℕ). drop 1 (queue_on past m)) on
        ∙ ap (drop 1) (rest_of start journal one c.first).1))
        refl (sym (written_now bound.endpoint))
        (record {
          waits = h.waits;
          life = line.life ∙ ap (λ (x : Bool). if x then None else Some (bound, o.position)) (ends_spared bound.endpoint spared');
          told = line.told;
        }) where
          rest : List Sent
          rest = (rest_of start journal one c.first).0

          h : IsHead start frames bound one rest (position_of past bound.endpoint) (written_on start journal bound.endpoint)
          h = head_of below start journal frames one bound s c client'

          line : IsServedLine start frames bound rest (written_on start journal bound.endpoint) o
          line = own_line below start journal frames one bound s c client'

    position_by : (x : Bool) → (b.endpoint == one.endpoint) ≡ x → (moved one.endpoint o.position (b, position_of past b.endpoint)).1 ≡ (if x then o.position else position_of past b.endpoint)
    position_by true e = ap (λ (x : Bool). let p : Bound × Position = if x then (b, o.position) else (b, position_of past b.endpoint) in p.1) e
    position_by false e = ap (λ (x : Bool). let p : Bound × Position = if x then (b, o.position) else (b, position_of past b.endpoint) in p.1) e

    by_place : ((b.endpoint == one.endpoint) ≡ true) ⊎ ((b.endpoint == one.endpoint) ≡ false) →
        IsAsTold start frames b (queue_on now b.endpoint) (moved one.endpoint o.position (b, position_of past b.endpoint)).1 (written_on start (after_serving start journal one) b.endpoint)
    by_place (inl e) =
        let at = eqb-true b.endpoint one.endpoint e in
        let same = own at in
        subst (λ (p : Position). IsAsTold start frames b (queue_on now b.endpoint) p (written_on start (after_serving start journal one) b.endpoint)) (sym (position_by true e))
        (subst (λ (x : Bound). IsAsTold start frames x (queue_on now x.endpoint) o.position (written_on start (after_serving start journal one) x.endpoint)) (sym same)
        (own_told (ap is_client (sym at) ∙ client) (ap (λ (x : Bound). among x.endpoint dying) (sym same) ∙ spared)))
    by_place (inr e) =
        let other = ne_eqb one.endpoint b.endpoint (λ at. true≢false (sym (eq-eqb b.endpoint one.endpoint (sym at)) ∙ e)) in
        told_same start frames b (queue_on past b.endpoint) _ (position_of past b.endpoint) _ (written_on start journal b.endpoint) _
        (sym (queue_same b.endpoint client spared other)) (sym (position_by false e))
        (sym (written_now b.endpoint ∙ ap (λ (fs : List Frame). written_on start journal b.endpoint ++ fs) (untouched_written below start journal frames one bound s c b.endpoint other uncarried) ∙ append-nil (written_on start journal b.endpoint)))
        old

  bound_now : (n : ℕ) → is_client n ≡ true → (b : Bound) → bound_at start now n ≡ Some b → IsAsTold start frames b (queue_on now b.endpoint) (position_of now b.endpoint) (written_on start (after_serving start journal one) b.endpoint)
  bound_now n client b is = by_death (among n dying) refl where
    on' : b.endpoint ≡ n
    on' = bound_on start now n b is

    whole : at_by past one (at_in (view_behind start journal)) o n ≡ Some (b, position_of now b.endpoint)
    whole = sym (behind.at n) ∙ at_is start now n ∙ ap (option_map (with_position now)) is

    Told : Type 0
    Told = IsAsTold start frames b (queue_on now b.endpoint) (position_of now b.endpoint) (written_on start (after_serving start journal one) b.endpoint)

    by_old : among n dying ≡ false → (x : Option Bound) → bound_at start past n ≡ x → option_map (moved one.endpoint o.position) (option_map (with_position past) x) ≡ Some (b, position_of now b.endpoint) → Told
    by_old spared None e h = absurd (cc)
    by_old spared (Some b') e h =
        let pair = pair_parts h in
        let same : b' ≡ b = sym (moved_bound b') ∙ ap (λ (p : Bound × Position). p.0) pair in
        let at : b'.endpoint ≡ n = bound_on start past n b' e in
        subst (λ (p : Position). IsAsTold start frames b (queue_on now b.endpoint) p (written_on start (after_serving start journal one) b.endpoint)) (ap (λ (p : Bound × Position). p.1) pair)
        (subst (λ (x : Bound). IsAsTold start frames x (queue_on now x.endpoint) (moved one.endpoint o.position (b', position_of past b'.endpoint)).1 (written_on start (after_serving start journal one) x.endpoint)) same
        (old_told b' (ap is_client at ∙ client) (ap (bound_at start past) at ∙ e) (ap (λ (m : ℕ). among m dying) at ∙ spared))) where
          moved_bound : (x : Bound) → (moved one.endpoint o.position (x, position_of past x.endpoint)).0 ≡ x
          moved_bound x = by_test (x.endpoint == one.endpoint) where
            by_test : (t : Bool) → (let p : Bound × Position = if t then (x, o.position) else (x, position_of past x.endpoint) in p.0) ≡ x
            by_test true = refl
            by_test false = refl

    by_new : among n dying ≡ false → (x : Option Bound) → o.bound ≡ x → option_map newborn x ≡ Some (b, position_of now b.endpoint) → Told
    by_new spared None e h = absurd (cc)
    by_new spared (Some b') e h =
        let pair = pair_parts h in
        let same : b' ≡ b = ap (λ (p : Bound × Position). p.0) pair in
        subst (λ (p : Position). IsAsTold start frames b (queue_on now b.endpoint) p (written_on start (after_serving start journal one) b.endpoint)) (ap (λ (p : Bound × Position). p.1) pair)
        (newly_told b (e ∙ ap Some same) (ap (λ (m : ℕ). among m dying) on' ∙ spared))

    by_birth : among n dying ≡ false → (x : Bool) → option_map_or (λ y. y.endpoint == n) o.bound false ≡ x →
        (if x then option_map newborn o.bound else option_map (moved one.endpoint o.position) (at_in (view_behind start journal) n)) ≡ Some (b, position_of now b.endpoint) → Told
    by_birth spared true e h = by_new spared o.bound refl h
    by_birth spared false e h = by_old spared (bound_at start past n) refl (ap (option_map (moved one.endpoint o.position)) (sym (at_is start past n)) ∙ h)

    by_death : (x : Bool) → among n dying ≡ x → Told
    by_death true e =
        absurd (let wrong : None ≡ Some (b, position_of now b.endpoint) =
        sym (ap (λ (x : Bool). if x then None else if option_map_or (λ y. y.endpoint == n) o.bound false then option_map newborn o.bound else option_map (moved one.endpoint o.position) (at_in (view_behind start journal) n)) e) ∙ whole in cc)
    by_death false e =
        by_birth e (option_map_or (λ y. y.endpoint == n) o.bound false) refl
        (sym (ap (λ (x : Bool). if x then None else if option_map_or (λ y. y.endpoint == n) o.bound false then option_map newborn o.bound else option_map (moved one.endpoint o.position) (at_in (view_behind start journal) n)) e) ∙ whole)

  -- ---- what is on its way

  spared_now : (x : Sent) (n : ℕ) → Contains (waiting now) x → among n (endpoints_in x) ≡ true → among n dying ≡ false
  spared_now x n there carried = (live_parts (is_live start past n) (among n dying) (sym (after'.live n) ∙ carried_lives (view start now) x n there carried)).1

  travels_left : (n : ℕ) (x : Sent) → Contains (waiting now) x → among n (endpoints_in x) ≡ true → IsLeft past one o x → TravelsAs start (after_serving start journal one) frames n x
  travels_left n x there carried left =
      let other = other_of (waiting past) one x left.there in
      let client = (carried_is x n carried).0 in
      let apart = bound_uncarried below start journal frames one bound s c x n other.0 carried in
      let old = (c.agrees n client).travels x (other.0, carried) in
      record {
        queue = ap sendings_of (queue_same n client (spared_now x n there carried) apart) ∙ old.queue;
        silent =
            written_now n
            ∙ ap (λ (fs : List Frame). fs ++ messages_on n o.frames) old.silent
            ∙ untouched_written below start journal frames one bound s c n apart (other_uncarried below start journal frames one bound s c x n left.there carried);
        later = old.later;
        frame = old.frame;
        earlier = old.earlier;
        split = old.split;
        carries = old.carries;
        comes = old.comes;
      }

  travels_on : (n : ℕ) (x : Sent) → Contains (waiting now) x → among n (endpoints_in x) ≡ true → IsGoneOn o one x → TravelsAs start (after_serving start journal one) frames n x
  travels_on n x there carried gone = record {
    queue = ap sendings_of (queue_same n client (spared_now x n there carried) (bound_uncarried below start journal frames one bound s c one n waits' mine)) ∙ t.queue;
    silent =
        written_now n
        ∙ ap (λ (fs : List Frame). fs ++ messages_on n o.frames) t.silent
        ∙ ap (messages_on n) alone.0;
    later = l.later;
    frame = l.frame;
    earlier = l.earlier;
    split = l.split;
    carries = l.carries;
    comes = subst (Comes start n l.frame l.earlier x) (sym gone.origin) (record { heard = l.heard; rest = rest });
  } where
    f : Forwarded
    f = gone.forward

    goes : (among f.object (endpoints_in one) ≡ true) × (o.bound ≡ None) × (o.ends ≡ [])
    goes = (heads' below start journal frames one bound s c).serving'.answered.goes_on f gone.goes

    alone : (o.frames ≡ []) × (o.ends ≡ []) × (o.bound ≡ None)
    alone = inside.onward f gone.goes

    at : n ≡ f.object
    at = one_handle n f.object (ap (λ (y : Sending). among n (handles_of y)) (sym gone.sends) ∙ (carried_is x n carried).1)

    client : is_client n ≡ true
    client = (carried_is x n carried).0

    mine : among n (endpoints_in one) ≡ true
    mine = ap (λ (m : ℕ). among m (endpoints_in one)) at ∙ goes.0

    t : TravelsAs start journal frames n one
    t = (c.agrees n client).travels one (waits', mine)

    l : IsCarriedLine start journal frames one n
    l = carried_line below start journal frames one bound s c n mine

    lighter : IsLighter (weight_of one.sending) f
    lighter = sending_goes below (still start (bound, position_of past bound.endpoint)) one.sending f (ap (λ (y : Outcome). y.forward) (sym c.answered.outcome) ∙ gone.goes)

    sending : Sending
    sending = message f.bytes (f.object ∷ [])

    first_none : IsUntold start [] n
    first_none = unnamed_untold below.spelled start [] n s client (unfirst (list_any (λ b. b.endpoint == n) start.firsts) (and_parts (is_client n) _ l.new).1) where
      unfirst : (b : Bool) → not b ≡ true → (b || false) ≡ false
      unfirst true h = absurd (cc)
      unfirst false h = refl

    alike : SaySame n (answered l.base one.endpoint o) (table_at_start start)
    alike = start_alike below start journal frames one bound s c n l alone first_none

    more_than : weight_of sending ≤ l.more
    more_than = let less = lighter.less in let same = l.weighs in omega (arith, less, same)

    over : answers l.more start f.endpoint sending (table_at_start start) ≡ sent_on start f.endpoint sending (table_at_start start)
    over = answers_over below l.more (weight_of sending) start f.endpoint sending (table_at_start start) (something_weighs sending) more_than (same_le (weight_of sending)) where
      same_le : (k : ℕ) → k ≤ k
      same_le k = omega arith

    onwards : SaySame n (answers l.more start f.endpoint sending (answered l.base one.endpoint o)) (answers l.more start f.endpoint sending (table_at_start start))
    onwards =
        onwards_alike below l.more start f n (answered l.base one.endpoint o) (table_at_start start) s (answered_named l.base one.endpoint o l.named) (start_named start) l.ends (record { life = λ m e. refl; told = λ m e. refl })
        (inside.forward f gone.goes).1 (ap is_client (sym at) ∙ client) lighter.on alike

    whole : SaySame n (table_of start (l.frame ∷ l.earlier)) (sent_on start f.endpoint sending (table_at_start start))
    whole =
        then_same l.says
        (then_same (table_same n _ _ (ap (λ (y : Option Forwarded). onward (answers l.more start) y (answered l.base one.endpoint o)) gone.goes))
        (then_same onwards (table_same n _ _ over)))

    rest : SaySame n (sent_on start x.endpoint x.sending (table_at_start start)) (table_of start (l.frame ∷ l.earlier))
    rest =
        then_same
        (table_same n _ _ (ap (λ (m : ℕ). sent_on start m x.sending (table_at_start start)) gone.on ∙ ap (λ (y : Sending). sent_on start f.endpoint y (table_at_start start)) gone.sends))
        (record { life = sym whole.life; told = sym whole.told })

  travels_now : (n : ℕ) (x : Sent) → Carries now x n → TravelsAs start (after_serving start journal one) frames n x
  travels_now n x (there, carried) = by_case (behind.waits x there) where
    by_case : IsLeft past one o x ⊎ IsGoneOn o one x → TravelsAs start (after_serving start journal one) frames n x
    by_case (inl left) = travels_left n x there carried left
    by_case (inr gone) = travels_on n x there carried gone

  -- ---- who is gone

  gone_now : (n : ℕ) → is_client n ≡ true → is_live start now n ≡ false → IsGone start (after_serving start journal one) frames n
  gone_now n client none = by_case (gone_parts (is_live start past n) (among n dying) (sym (after'.live n) ∙ none)) where
    by_case : (is_live start past n ≡ false) ⊎ (among n dying ≡ true) → IsGone start (after_serving start journal one) frames n
    by_case (inl unlive) =
        let old = (c.agrees n client).gone unlive in
        let other = ne_eqb one.endpoint n (λ e. true≢false (sym (bound_live start past one.endpoint bound c.at) ∙ ap (is_live start past) e ∙ unlive)) in
        let uncarried = false_from_ne_true (among n (handles_of one.sending)) (λ h. true≢false (sym (carried_lives (view start past) one n waits' (carried_from one n client h)) ∙ unlive)) in
        record {
          ended = old.ended;
          told = old.told ∙ sym (written_now n ∙ ap (λ (fs : List Frame). written_on start journal n ++ fs) (untouched_written below start journal frames one bound s c n other uncarried) ∙ append-nil (written_on start journal n));
        }
    by_case (inr dies) =
        let dead = all_that_die below start journal frames one bound s c n dies in
        record { ended = dead.ended; told = dead.told ∙ sym (written_now n) }

  pub served_clients : (n : ℕ) → is_client n ≡ true → AgreesOn start (after_serving start journal one) frames n
  served_clients n client = record { bound = bound_now n client; travels = travels_now n; gone = gone_now n client }

  -- ---- on the ends of mounts nothing is written

  settled_client : (m : ℕ) → is_settled o m ≡ true → is_client m ≡ true
  settled_client m h = by_bound (or_cases (option_map_or (λ b. b.endpoint == m) o.bound false) _ h) where
    answered' : IsAnswered (view start past) one o
    answered' = (heads' below start journal frames one bound s c).serving'.answered

    some_new : (x : Option Bound) → o.bound ≡ x → option_map_or (λ b. b.endpoint == m) x false ≡ true → is_client m ≡ true
    some_new None e g = absurd (cc)
    some_new (Some b) e g = ap is_client (sym (eqb-true b.endpoint m g)) ∙ (carried_is one b.endpoint (answered'.bound_in b e)).0

    some_forward : (x : Option Forwarded) → o.forward ≡ x → option_map_or (λ f. f.object == m) x false ≡ true → is_client m ≡ true
    some_forward None e g = absurd (cc)
    some_forward (Some f) e g = ap is_client (sym (eqb-true f.object m g)) ∙ (carried_is one f.object (answered'.goes_on f e).0).0

    by_end : ((m ≡ one.endpoint) × (is_client m ≡ true)) ⊎ (among m (endpoints_in one) ≡ true) → is_client m ≡ true
    by_end (inl own) = own.1
    by_end (inr carried) = (carried_is one m carried).0

    by_rest : (among m o.ends ≡ true) ⊎ (option_map_or (λ f. f.object == m) o.forward false ≡ true) → is_client m ≡ true
    by_rest (inl e) = by_end (answered'.ends_in m e)
    by_rest (inr e) = some_forward o.forward refl e

    by_bound : (option_map_or (λ b. b.endpoint == m) o.bound false ≡ true) ⊎ ((among m o.ends || option_map_or (λ f. f.object == m) o.forward false) ≡ true) → is_client m ≡ true
    by_bound (inl e) = some_new o.bound refl e
    by_bound (inr e) = by_rest (or_cases (among m o.ends) (option_map_or (λ f. f.object == m) o.forward false) e)

  on_clients : All (λ frame. is_client frame.endpoint ≡ true) o.frames
  on_clients = by_client (is_client one.endpoint) refl where
    by_side : is_client one.endpoint ≡ true → (f : Frame) → (f.endpoint ≡ one.endpoint) ⊎ (is_settled o f.endpoint ≡ true) → is_client f.endpoint ≡ true
    by_side client f (inl e) = ap is_client e ∙ client
    by_side client f (inr e) = settled_client f.endpoint e

    by_client : (b : Bool) → is_client one.endpoint ≡ b → All (λ (f : Frame). is_client f.endpoint ≡ true) o.frames
    by_client true e = All-weaker (λ (f : Frame). (f.endpoint ≡ one.endpoint) ⊎ (is_settled o f.endpoint ≡ true)) (λ (f : Frame). is_client f.endpoint ≡ true) (by_side e) o.frames inside.alone
    by_client false e =
        let served = end_served below start journal one bound s c.lawful (heads' below start journal frames one bound s c) e c.stands c.at in
        All-weaker (λ (f : Frame). f.endpoint ≡ served.forwarded.object) (λ (f : Frame). is_client f.endpoint ≡ true) (λ f at. ap is_client at ∙ served.forwarded.client) o.frames served.touches.frames

  pub served_ends : (n : ℕ) → is_client n ≡ false → written_on start journal n ≡ [] → written_on start (after_serving start journal one) n ≡ []
  served_ends n none before' =
      written_now n
      ∙ ap (λ (fs : List Frame). fs ++ messages_on n o.frames) before'
      ∙ nothing_on n o.frames (All-weaker (λ (f : Frame). is_client f.endpoint ≡ true) (λ (f : Frame). f.endpoint ≢ n) (λ f client same. true≢false (sym client ∙ ap is_client same ∙ none)) o.frames on_clients)
