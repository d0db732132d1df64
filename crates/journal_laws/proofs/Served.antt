-- What is kept behind a serving.
use Rattle.std.proofs.Common.{◌≡◌, ◌≢◌, ℕ, ◌<◌, ◌≤◌, ◌==◌, ◌||◌, ◌⊎◌, Bool, true, false, not, List, [], Option, Some, None, filter, All, Contains, refl, sym, ap, ◌∙◌, subst, inl, inr}
use Rattle.std.proofs.lemmas.Bool.{eqb-true, eq-eqb, or_cases, or_from, cases_Bool, cases_eq, false_from_ne_true, true≢false}
use Rattle.std.specs.Option.{option_map_or}
use Rattle.fidl_names.specs.HandleNumber.{is_client}
use Rattle.link_admission.specs.Numbering.{among}
use Rattle.vfs_journal.specs.Deaths.{spread, first_deaths, is_settled}
use Rattle.vfs_journal.specs.Entries.{Sent, endpoints_in}
use Rattle.vfs_journal.specs.Outcomes.{Given, Outcome, Forwarded}
use Rattle.journal_laws.specs.Soundness.{IsStart, AreMounted}
use Rattle.vfs_journal.specs.Starts.{Bound, Start}
use Rattle.journal_laws.proofs.Among.{member_of, among_of, carried_is, carrier_of, carrier_travels, some_found, is_found, one_place}
use Rattle.journal_laws.proofs.Members.{kept, kept_of}
use Rattle.std.proofs.lemmas.List.Kept.{AllPairs-filter}
use Rattle.journal_laws.proofs.Sound.{ByOrigin, end_apart, nothing_left, View, IsView, used, bound_in, travels, IsRight, IsKnown, Sound, Transit, endpoint_known, carried_used}
use Rattle.journal_laws.proofs.Spreading.{IsDropped, IsClosed, spread_from, spread_keeps, spread_closed, among_front, among_back, among_sides}

abbrev Before : Sent → Sent → Type 0
Before one other = one.place < other.place

-- an entry that waits is answered: its endpoint is bound, what is ended is it or is carried, and what is bound or goes on is carried
pub record IsAnswered (v : View) (k : Sent) (o : Outcome) : Type 0 where
  pub waits : Contains v.waiting k
  pub bound : Bound
  pub lives : Contains v.living bound
  pub at : bound.endpoint ≡ k.endpoint
  pub ends_in : (n : ℕ) → among n o.ends ≡ true → ((n ≡ k.endpoint) × (is_client n ≡ true)) ⊎ (among n (endpoints_in k) ≡ true)
  pub bound_in : (x : Bound) → o.bound ≡ Some x → among x.endpoint (endpoints_in k) ≡ true
  pub token_in : (g : Given) → o.token ≡ Some g → 0x80000000 ≤ g.token
  pub goes_on : (f : Forwarded) → o.forward ≡ Some f → (among f.object (endpoints_in k) ≡ true) × (o.bound ≡ None) × (o.ends ≡ [])

-- ---- deaths

abbrev pub others_of : List Sent → Sent → List Sent
others_of waiting k = filter (λ other. not (other.place == k.place)) waiting

abbrev pub dying : List Sent → Sent → Outcome → List ℕ
dying waiting k o = spread (first_deaths k o) (others_of waiting k)

unsettled : Sent → Outcome → List ℕ
unsettled k o = filter (λ endpoint. not (is_settled o endpoint)) (endpoints_in k)

-- how an endpoint dies: it is ended, or carried and left, or carried by an entry that is dropped
pub data Dies (v : View) (k : Sent) (o : Outcome) (n : ℕ) : Type 0 where
  ended : among n o.ends ≡ true → Dies v k o n
  carried : among n (endpoints_in k) ≡ true → is_settled o n ≡ false → Dies v k o n
  dropped : (one : Sent) → Contains v.waiting one → one.place ≢ k.place → among one.endpoint (dying v.waiting k o) ≡ true → among n (endpoints_in one) ≡ true → Dies v k o n

not_same : (a b : ℕ) → not (a == b) ≡ true → a ≢ b
not_same a b h e = let same : (a == b) ≡ true = eq-eqb a b e in by_test (a == b) same h where
  by_test : (c : Bool) → c ≡ true → not c ≡ true → ⊥
  by_test true e h = true≢false (sym h)
  by_test false e h = true≢false (sym e)

not_false : (b : Bool) → not b ≡ true → b ≡ false
not_false true h = sym h
not_false false h = refl

pub other_of : (waiting : List Sent) (k one : Sent) → Contains (others_of waiting k) one → Contains waiting one × (one.place ≢ k.place)
other_of waiting k one h =
    let at = kept_of (λ other. not (other.place == k.place)) waiting one h in
    (at.0, not_same one.place k.place at.1)

pub is_other : (waiting : List Sent) (k one : Sent) → Contains waiting one → one.place ≢ k.place → Contains (others_of waiting k) one
is_other waiting k one h apart = kept (λ other. not (other.place == k.place)) waiting one h (by_test (cases_Bool (one.place == k.place))) where
  by_test : ((one.place == k.place) ≡ true) ⊎ ((one.place == k.place) ≡ false) → not (one.place == k.place) ≡ true
  by_test (inl e) = absurd (apart (eqb-true one.place k.place e))
  by_test (inr e) = ap not e

pub how_it_dies : (v : View) (k : Sent) (o : Outcome) (n : ℕ) → among n (dying v.waiting k o) ≡ true → Dies v k o n
how_it_dies v k o n h = by_from (spread_from n (first_deaths k o) (others_of v.waiting k) h) where
  by_side : (among n o.ends ≡ true) ⊎ (among n (filter (λ endpoint. not (is_settled o endpoint)) (endpoints_in k)) ≡ true) → Dies v k o n
  by_side (inl h) = ended h
  by_side (inr h) =
      let at = kept_of (λ endpoint. not (is_settled o endpoint)) (endpoints_in k) n (member_of n _ h) in
      carried (among_of n (endpoints_in k) at.0) (not_false (is_settled o n) at.1)

  by_from : (among n (first_deaths k o) ≡ true) ⊎ IsDropped n (dying v.waiting k o) (others_of v.waiting k) → Dies v k o n
  by_from (inl h) = by_side (among_sides n o.ends (filter (λ endpoint. not (is_settled o endpoint)) (endpoints_in k)) h)
  by_from (inr h) = let at = other_of v.waiting k h.one h.there in dropped h.one at.0 at.1 h.on h.with

ends_die : (v : View) (k : Sent) (o : Outcome) (n : ℕ) → among n o.ends ≡ true → among n (dying v.waiting k o) ≡ true
ends_die v k o n h =
    spread_keeps n (first_deaths k o) (others_of v.waiting k) (among_front n o.ends (filter (λ endpoint. not (is_settled o endpoint)) (endpoints_in k)) h)

left_dies : (v : View) (k : Sent) (o : Outcome) (n : ℕ) → among n (endpoints_in k) ≡ true → is_settled o n ≡ false → among n (dying v.waiting k o) ≡ true
left_dies v k o n h left =
    spread_keeps n (first_deaths k o) (others_of v.waiting k)
    (among_back n o.ends (filter (λ endpoint. not (is_settled o endpoint)) (endpoints_in k))
    (among_of n _ (kept (λ endpoint. not (is_settled o endpoint)) (endpoints_in k) n (member_of n (endpoints_in k) h) (ap not left))))

-- a client's endpoint dies, which is known
pub known_by_death : (start : Start) (v : View) (k : Sent) (o : Outcome) (n : ℕ) → IsStart start → Sound start v → IsView v → IsAnswered v k o → Dies v k o n → IsKnown start v.sent n
known_by_death start v k o n s past is answered (ended h) = by_side (answered.ends_in n h) where
  by_side : ((n ≡ k.endpoint) × (is_client n ≡ true)) ⊎ (among n (endpoints_in k) ≡ true) → IsKnown start v.sent n
  by_side (inl own) =
      let sent = is.waits k answered.waits in
      let client : is_client k.endpoint ≡ true = ap is_client (sym own.0) ∙ own.1 in
      (own.1, ap (used start v.sent) own.0 ∙ endpoint_known start v.sent k s client (past.right k sent))
  by_side (inr h) =
      let at = carried_is k n h in
      (at.0, carried_used start v.sent k n (is.waits k answered.waits) at.1)
known_by_death start v k o n s past is answered (carried h left) =
    let at = carried_is k n h in
    (at.0, carried_used start v.sent k n (is.waits k answered.waits) at.1)
known_by_death start v k o n s past is answered (dropped one there apart on h) =
    let at = carried_is one n h in
    (at.0, carried_used start v.sent one n (is.waits one there) at.1)

-- a dropped entry has no origin, and so stands before what waits on what it carries
first_by : (start : Start) (v : View) (one other : Sent) → IsStart start → Sound start v → is_client one.endpoint ≡ true → Contains v.sent one → Contains v.sent other →
    among other.endpoint (endpoints_in one) ≡ true → (o : Option ℕ) → one.origin ≡ o → one.place < other.place
first_by start v one other s past client p q h None e = past.order one other p q e h
first_by start v one other s past client p q h (Some origin) e =
    let forwarded = subst (λ (x : Option ℕ). ByOrigin start v.sent one x) e (past.right one p).by_origin in
    let wrong : true ≡ false = sym client ∙ end_apart start one.endpoint s forwarded.end in
    absurd (cc)

pub deaths_closed : (start : Start) (v : View) (k : Sent) (o : Outcome) → IsStart start → Sound start v → IsView v → IsAnswered v k o → IsClosed (dying v.waiting k o) (others_of v.waiting k)
deaths_closed start v k o s past is answered =
    spread_closed (first_deaths k o) (others_of v.waiting k) (AllPairs-filter Before (λ other. not (other.place == k.place)) v.waiting is.rises)
    (λ one other p q dead h.
    let a = other_of v.waiting k one p in
    let b = other_of v.waiting k other q in
    let client = (known_by_death start v k o one.endpoint s past is answered (how_it_dies v k o one.endpoint dead)).0 in
    first_by start v one other s past client (is.waits one a.0) (is.waits other b.0) h one.origin refl)

-- ---- behind a serving

pub record Serves (start : Start) (v : View) (k : Sent) (o : Outcome) (w : View) : Type 0 where
  pub sent : w.sent ≡ v.sent
  pub waited : (one : Sent) → Contains w.waiting one → Contains v.waiting one × (one.place ≢ k.place) × (among one.endpoint (dying v.waiting k o) ≡ false)
  pub still : (one : Sent) → Contains v.waiting one → one.place ≢ k.place → among one.endpoint (dying v.waiting k o) ≡ false → Contains w.waiting one
  pub lived : (b : Bound) → Contains w.living b → Contains v.living b ⊎ (o.bound ≡ Some b)
  pub lives : (b : Bound) → Contains v.living b → among b.endpoint (dying v.waiting k o) ≡ false → Contains w.living b
  pub new_lives : (b : Bound) → o.bound ≡ Some b → w.dead b.endpoint ≡ false → Contains w.living b
  pub births : (b : Bound) → Contains w.births b → Contains v.births b ⊎ (o.bound ≡ Some b)
  pub given : (g : Given) → Contains w.given g → Contains v.given g ⊎ (o.token ≡ Some g)
  pub trees : All (AreMounted start) v.trees → All (AreMounted start) w.trees
  pub dead : (n : ℕ) → w.dead n ≡ (among n (dying v.waiting k o) || v.dead n)

carried_known : (start : Start) (v : View) (k : Sent) (n : ℕ) → IsView v → Contains v.waiting k → among n (endpoints_in k) ≡ true → IsKnown start v.sent n
carried_known start v k n is waits h = let at = carried_is k n h in (at.0, carried_used start v.sent k n (is.waits k waits) at.1)

pub serving_sound : (start : Start) (v w : View) (k : Sent) (o : Outcome) → IsStart start → Sound start v → IsView v → IsAnswered v k o → Serves start v k o w → Sound start w
serving_sound start v w k o s past is answered serves = record {
  right = λ one h. subst (λ sent. IsRight start sent one) (sym serves.sent) (past.right one (subst (λ sent. Contains sent one) serves.sent h));
  order = λ one other p q none h. past.order one other (subst (λ sent. Contains sent one) serves.sent p) (subst (λ sent. Contains sent other) serves.sent q) none h;
  dead = λ n h. subst (λ sent. IsKnown start sent n) (sym serves.sent) (dead_by n (or_cases (among n (dying v.waiting k o)) (v.dead n) (sym (serves.dead n) ∙ h)));
  born = λ b h. subst (λ sent. Contains start.mounts b ⊎ IsKnown start sent b.endpoint) (sym serves.sent) (born_by b (serves.births b h));
  tokens = λ g h. tokens_by g (serves.given g h);
  mounted = serves.trees past.mounted;
} where
  dead_by : (n : ℕ) → (among n (dying v.waiting k o) ≡ true) ⊎ (v.dead n ≡ true) → IsKnown start v.sent n
  dead_by n (inl h) = known_by_death start v k o n s past is answered (how_it_dies v k o n h)
  dead_by n (inr h) = past.dead n h

  born_by : (b : Bound) → Contains v.births b ⊎ (o.bound ≡ Some b) → Contains start.mounts b ⊎ IsKnown start v.sent b.endpoint
  born_by b (inl h) = past.born b h
  born_by b (inr e) = inr (carried_known start v k b.endpoint is answered.waits (answered.bound_in b e))

  tokens_by : (g : Given) → Contains v.given g ⊎ (o.token ≡ Some g) → 0x80000000 ≤ g.token
  tokens_by g (inl h) = past.tokens g h
  tokens_by g (inr e) = answered.token_in g e

-- ---- in transit behind a serving

abbrev pub goes_on_with : Outcome → ℕ → Type 0
goes_on_with o n = (f : Forwarded) × (o.forward ≡ Some f) × (f.object ≡ n)

own_bound : (v : View) (k : Sent) (o : Outcome) → IsAnswered v k o → bound_in v.living k.endpoint ≡ true
own_bound v k o answered = is_found (λ bound. bound.endpoint == k.endpoint) v.living answered.bound answered.lives (eq-eqb answered.bound.endpoint k.endpoint answered.at)

-- no other waiting entry carries what this one does
alone : (start : Start) (v : View) (k one : Sent) (n : ℕ) → Transit start v nothing_left → Contains v.waiting k → Contains v.waiting one → one.place ≢ k.place → among n (endpoints_in one) ≡ true → among n (endpoints_in k) ≡ true → ⊥
alone start v k one n past p q apart h g = apart (ap (λ (x : Sent). x.place) (past.once one k n q p h g))

spared_by : (start : Start) (v : View) (k : Sent) (o : Outcome) (one : Sent) (n : ℕ) → Transit start v nothing_left → IsAnswered v k o → Contains v.waiting one → one.place ≢ k.place → among one.endpoint (dying v.waiting k o) ≡ false →
    among n (endpoints_in one) ≡ true → Dies v k o n → ⊥
spared_by start v k o one n past answered there apart alive h (ended e) = by_side (answered.ends_in n e) where
  by_side : ((n ≡ k.endpoint) × (is_client n ≡ true)) ⊎ (among n (endpoints_in k) ≡ true) → ⊥
  by_side (inl own) = true≢false (sym (own_bound v k o answered) ∙ ap (bound_in v.living) (sym own.0) ∙ past.unbound one n there h)
  by_side (inr g) = alone start v k one n past answered.waits there apart h g
spared_by start v k o one n past answered there apart alive h (carried g left) = alone start v k one n past answered.waits there apart h g
spared_by start v k o one n past answered there apart alive h (dropped other p q on g) =
    true≢false (sym on ∙ ap (λ (x : Sent). among x.endpoint (dying v.waiting k o)) (past.once other one n p there g h) ∙ alive)

-- what a waiting entry that isn't dropped carries doesn't die
spared : (start : Start) (v : View) (k : Sent) (o : Outcome) (one : Sent) (n : ℕ) → Transit start v nothing_left → IsAnswered v k o → Contains v.waiting one → one.place ≢ k.place → among one.endpoint (dying v.waiting k o) ≡ false →
    among n (endpoints_in one) ≡ true → among n (dying v.waiting k o) ≡ false
spared start v k o one n past answered there apart alive h =
    false_from_ne_true (among n (dying v.waiting k o)) (λ dead. spared_by start v k o one n past answered there apart alive h (how_it_dies v k o n dead))

-- what is settled is bound, ended, or goes on
pub data Settles (o : Outcome) (n : ℕ) : Type 0 where
  binding : (x : Bound) → o.bound ≡ Some x → x.endpoint ≡ n → Settles o n
  ending : among n o.ends ≡ true → Settles o n
  going : (f : Forwarded) → o.forward ≡ Some f → f.object ≡ n → Settles o n

how_settled : (o : Outcome) (n : ℕ) → is_settled o n ≡ true → Settles o n
how_settled o n h = by_bound o.bound refl (or_cases (option_map_or (λ bound. bound.endpoint == n) o.bound false) _ h) where
  by_forward : (x : Option Forwarded) → o.forward ≡ x → option_map_or (λ forward. forward.object == n) x false ≡ true → Settles o n
  by_forward None e h = absurd (cc)
  by_forward (Some f) e h = going f e (eqb-true f.object n h)

  by_rest : (among n o.ends ≡ true) ⊎ (option_map_or (λ forward. forward.object == n) o.forward false ≡ true) → Settles o n
  by_rest (inl h) = ending h
  by_rest (inr h) = by_forward o.forward refl h

  by_bound : (x : Option Bound) → o.bound ≡ x → (option_map_or (λ bound. bound.endpoint == n) x false ≡ true) ⊎ ((among n o.ends || option_map_or (λ forward. forward.object == n) o.forward false) ≡ true) → Settles o n
  by_bound None e (inl h) = absurd (cc)
  by_bound (Some x) e (inl h) = binding x e (eqb-true x.endpoint n h)
  by_bound x e (inr h) = by_rest (or_cases (among n o.ends) _ h)

bound_still : (v w : View) (k : Sent) (o : Outcome) (start : Start) (n : ℕ) → Serves start v k o w → among n (dying v.waiting k o) ≡ false → bound_in v.living n ≡ true → bound_in w.living n ≡ true
bound_still v w k o start n serves alive h =
    let b = some_found (λ bound. bound.endpoint == n) v.living h in
    let at : b.0.endpoint ≡ n = eqb-true b.0.endpoint n b.3 in
    is_found (λ bound. bound.endpoint == n) w.living b.0 (serves.lives b.0 b.2 (ap (λ (m : ℕ). among m (dying v.waiting k o)) at ∙ alive)) b.3

Where : View → Outcome → ℕ → Type 0
Where w o n = ((bound_in w.living n ≡ true) ⊎ (travels w.waiting n ≡ true)) ⊎ goes_on_with o n

-- an endpoint that was carried by what is served, and doesn't die, is bound or goes on
settled_reached : (start : Start) (v w : View) (k : Sent) (o : Outcome) (n : ℕ) → Serves start v k o w → w.dead n ≡ false → among n (dying v.waiting k o) ≡ false → Settles o n →
    ((bound_in w.living n ≡ true) ⊎ (travels w.waiting n ≡ true)) ⊎ goes_on_with o n
settled_reached start v w k o n serves undead alive (binding x e at) =
    inl (inl (is_found (λ bound. bound.endpoint == n) w.living x (serves.new_lives x e (ap w.dead at ∙ undead)) (eq-eqb x.endpoint n at)))
settled_reached start v w k o n serves undead alive (ending h) = absurd (true≢false (sym (ends_die v k o n h) ∙ alive))
settled_reached start v w k o n serves undead alive (going f e at) = inr (f, e, at)

reached_again : (start : Start) (v w : View) (k : Sent) (o : Outcome) (one : Sent) → IsStart start → Sound start v → IsView v → Transit start v nothing_left → IsAnswered v k o → Serves start v k o w →
    among one.endpoint (dying v.waiting k o) ≡ false → (u : Sent) → Contains v.waiting u → among one.endpoint (endpoints_in u) ≡ true → (u.place ≡ k.place) ⊎ (u.place ≡ k.place → ⊥) →
    ((bound_in w.living one.endpoint ≡ true) ⊎ (travels w.waiting one.endpoint ≡ true)) ⊎ goes_on_with o one.endpoint
reached_again start v w k o one s past is transit answered serves alive u there carries (inl e) =
    let same : u ≡ k = one_place v.waiting u k is.rises there answered.waits e in
    let by_k : among one.endpoint (endpoints_in k) ≡ true = ap (λ (x : Sent). among one.endpoint (endpoints_in x)) (sym same) ∙ carries in
    let undead : w.dead one.endpoint ≡ false = serves.dead one.endpoint ∙ or_from (among one.endpoint (dying v.waiting k o)) (v.dead one.endpoint) alive (transit.alive k one.endpoint answered.waits by_k) in
    by_test by_k undead (cases_Bool (is_settled o one.endpoint)) where
      by_test : among one.endpoint (endpoints_in k) ≡ true → w.dead one.endpoint ≡ false → (is_settled o one.endpoint ≡ true) ⊎ (is_settled o one.endpoint ≡ false) →
          ((bound_in w.living one.endpoint ≡ true) ⊎ (travels w.waiting one.endpoint ≡ true)) ⊎ goes_on_with o one.endpoint
      by_test by_k undead (inl h) = settled_reached start v w k o one.endpoint serves undead alive (how_settled o one.endpoint h)
      by_test by_k undead (inr h) = absurd (true≢false (sym (left_dies v k o one.endpoint by_k h) ∙ alive))
reached_again start v w k o one s past is transit answered serves alive u there carries (inr apart) =
    let lives : among u.endpoint (dying v.waiting k o) ≡ false =
    false_from_ne_true (among u.endpoint (dying v.waiting k o))
    (λ dead. true≢false (sym (deaths_closed start v k o s past is answered u (is_other v.waiting k u there apart) dead one.endpoint carries) ∙ alive)) in
    inl (inr (carrier_travels one.endpoint w.waiting u (serves.still u there apart lives) carries))

reached_by : (start : Start) (v w : View) (k : Sent) (o : Outcome) (one : Sent) → IsStart start → Sound start v → IsView v → Transit start v nothing_left → IsAnswered v k o → Serves start v k o w →
    among one.endpoint (dying v.waiting k o) ≡ false → ((bound_in v.living one.endpoint ≡ true) ⊎ (travels v.waiting one.endpoint ≡ true)) ⊎ nothing_left one.endpoint →
    ((bound_in w.living one.endpoint ≡ true) ⊎ (travels w.waiting one.endpoint ≡ true)) ⊎ goes_on_with o one.endpoint
reached_by start v w k o one s past is transit answered serves alive (inl (inl h)) = inl (inl (bound_still v w k o start one.endpoint serves alive h))
reached_by start v w k o one s past is transit answered serves alive (inl (inr h)) =
    let u = carrier_of one.endpoint v.waiting h in
    reached_again start v w k o one s past is transit answered serves alive u.0 u.1 u.2 (cases_eq u.0.place k.place)
reached_by start v w k o one s past is transit answered serves alive (inr h) = absurd h

unbound_by : (start : Start) (v w : View) (k : Sent) (o : Outcome) (one : Sent) (n : ℕ) → Transit start v nothing_left → IsAnswered v k o → Contains v.waiting one → one.place ≢ k.place → among n (endpoints_in one) ≡ true →
    (b : Bound) → b.endpoint ≡ n → Contains v.living b ⊎ (o.bound ≡ Some b) → ⊥
unbound_by start v w k o one n past answered there apart h b at (inl lives) =
    true≢false (sym (is_found (λ bound. bound.endpoint == n) v.living b lives (eq-eqb b.endpoint n at)) ∙ past.unbound one n there h)
unbound_by start v w k o one n past answered there apart h b at (inr e) =
    alone start v k one n past answered.waits there apart h (ap (λ (m : ℕ). among m (endpoints_in k)) (sym at) ∙ answered.bound_in b e)

pub serving_transit : (start : Start) (v w : View) (k : Sent) (o : Outcome) → IsStart start → Sound start v → IsView v → Transit start v nothing_left → IsAnswered v k o → Serves start v k o w → Transit start w (goes_on_with o)
serving_transit start v w k o s past is transit answered serves = record {
  once = λ one other n p q h g. transit.once one other n (serves.waited one p).0 (serves.waited other q).0 h g;
  unbound = λ one n p h.
      let at = serves.waited one p in
      false_from_ne_true (bound_in w.living n)
      (λ yes.
      let b = some_found (λ bound. bound.endpoint == n) w.living yes in
      unbound_by start v w k o one n transit answered at.0 at.1 h b.0 (eqb-true b.0.endpoint n b.3) (serves.lived b.0 b.2));
  alive = λ one n p h.
      let at = serves.waited one p in
      serves.dead n ∙ or_from (among n (dying v.waiting k o)) (v.dead n) (spared start v k o one n transit answered at.0 at.1 at.2 h) (transit.alive one n at.0 h);
  reached = λ one p.
      let at = serves.waited one p in
      reached_by start v w k o one s past is transit answered serves at.2 (transit.reached one at.0);
}

-- what goes on is nowhere else behind the serving
pub gone_on : (start : Start) (v w : View) (k : Sent) (o : Outcome) (f : Forwarded) → Transit start v nothing_left → IsAnswered v k o → Serves start v k o w → o.forward ≡ Some f →
    ((one : Sent) → Contains w.waiting one → among f.object (endpoints_in one) ≡ true → ⊥) × (bound_in w.living f.object ≡ false) × (w.dead f.object ≡ false)
gone_on start v w k o f transit answered serves e =
    let on = answered.goes_on f e in (
      λ one p h. let at = serves.waited one p in alone start v k one f.object transit answered.waits at.0 at.1 h on.0,
      false_from_ne_true (bound_in w.living f.object)
          (λ yes.
          let b = some_found (λ bound. bound.endpoint == f.object) w.living yes in
          by_birth b.0 (eqb-true b.0.endpoint f.object b.3) (serves.lived b.0 b.2)),
      serves.dead f.object ∙ or_from (among f.object (dying v.waiting k o)) (v.dead f.object)
          (false_from_ne_true (among f.object (dying v.waiting k o)) (λ dead. by_death on.0 on.2 (how_it_dies v k o f.object dead)))
          (transit.alive k f.object answered.waits on.0),
    ) where
      by_birth : (b : Bound) → b.endpoint ≡ f.object → Contains v.living b ⊎ (o.bound ≡ Some b) → ⊥
      by_birth b at (inl lives) =
          true≢false (sym (is_found (λ bound. bound.endpoint == f.object) v.living b lives (eq-eqb b.endpoint f.object at)) ∙ transit.unbound k f.object answered.waits (answered.goes_on f e).0)
      by_birth b at (inr h) = let none = (answered.goes_on f e).1 in absurd (cc)

      settles : is_settled o f.object ≡ true
      settles = ap (λ (x : Option Forwarded). option_map_or (λ (bound : Bound). bound.endpoint == f.object) o.bound false || (among f.object o.ends || option_map_or (λ (forward : Forwarded). forward.object == f.object) x false)) e ∙ last (option_map_or (λ (bound : Bound). bound.endpoint == f.object) o.bound false) (among f.object o.ends) where
        last : (a b : Bool) → (a || (b || (f.object == f.object))) ≡ true
        last true b = refl
        last false true = refl
        last false false = eq-eqb f.object f.object refl

      by_death : among f.object (endpoints_in k) ≡ true → o.ends ≡ [] → Dies v k o f.object → ⊥
      by_death h none (ended d) = true≢false (sym d ∙ ap (among f.object) none)
      by_death h none (carried g left) = true≢false (sym settles ∙ left)
      by_death h none (dropped one there apart on g) = alone start v k one f.object transit answered.waits there apart g h
