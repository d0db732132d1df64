-- What is kept of a lawful journal: what was sent, dead, born and given, and what is in transit.
use Rattle.std.proofs.Common.{◌≡◌, ℕ, ◌^◌, ◌<◌, ◌≤◌, ◌==◌, ◌||◌, ◌⊎◌, Bool, true, false, is_some, List, [], ◌∷◌, ◌++◌, Option, Some, None, find, flat_map, map, All, AllPairs, Contains, sym, ap, ◌∙◌, subst, inl, inr}
use Rattle.std.specs.List.{list_any}
use Rattle.std.proofs.lemmas.Bool.{or_cases, or_left, or_right}
use Rattle.std.proofs.lemmas.List.Elements.{All-contains, Contains-append_cases}
use Rattle.std.proofs.lemmas.List.Folds.{list_any-append}
use Rattle.fidl_names.specs.HandleNumber.{is_client}
use Rattle.link_admission.specs.Numbering.{among}
use Rattle.node_graph.specs.Tree.{Tree}
use Rattle.path_walk.specs.Paths.{IsPath, text_of}
use Rattle.vfs_journal.specs.Entries.{Sent, Sending, message, hang_up, handles_of, endpoints_in}
use Rattle.vfs_journal.specs.History.{History, all_sent, births, living, waiting, is_dead, trees_of}
use Rattle.vfs_journal.specs.Outcomes.{Given}
use Rattle.conn_rules.specs.Onward.{onward_bytes}
use Rattle.journal_laws.specs.Soundness.{IsStart, AreMounted, mount_ends}
use Rattle.vfs_journal.specs.Starts.{Bound, Start}
use Rattle.vfs_journal.specs.Tokens.{all_given}
use Rattle.journal_laws.proofs.Among.{passes_any, carried_is, carrier_of, carrier_travels}
use Rattle.journal_laws.proofs.Members.{contains_here, contains_later, contains_cases, contains_none}
use Rattle.journal_laws.proofs.Onward.{AreBytes}

-- ---- what is looked at

pub record View : Type 0 where
  pub sent : List Sent
  pub waiting : List Sent
  pub living : List Bound
  pub births : List Bound
  pub given : List Given
  pub trees : List Tree
  pub dead : ℕ → Bool

abbrev pub view : Start → History → View
view start history = record {
  sent = all_sent history;
  waiting = waiting history;
  living = living start history;
  births = births start history;
  given = all_given history;
  trees = trees_of start history;
  dead = is_dead history;
}

abbrev pub used : Start → List Sent → ℕ → Bool
used start sent n = list_any (λ bound. bound.endpoint == n) start.firsts || list_any (λ one. among n (handles_of one.sending)) sent

abbrev pub bound_in : List Bound → ℕ → Bool
bound_in living n = is_some (find (λ bound. bound.endpoint == n) living)

abbrev pub travels : List Sent → ℕ → Bool
travels waiting n = among n (flat_map endpoints_in waiting)

-- ---- what was sent

abbrev pub bytes_in : Sending → List ℕ
bytes_in (message bytes handles) = bytes
bytes_in hang_up = []

-- a client's sending is on an endpoint that is known
pub record IsClients (start : Start) (sent : List Sent) (one : Sent) : Type 0 where
  pub client : is_client one.endpoint ≡ true
  pub known : used start sent one.endpoint ≡ true
  pub bytes : AreBytes (bytes_in one.sending)

-- what was forwarded is an Open of a path, on the end of a mount
pub record IsForwarded (start : Start) (one : Sent) : Type 0 where
  pub end : Contains (mount_ends start) one.endpoint
  pub rest : List (List ℕ)
  pub flags : ℕ
  pub object : ℕ
  pub sent : one.sending ≡ message (onward_bytes flags rest object) (object ∷ [])
  pub path : IsPath (text_of rest) rest
  pub small : flags < 256 ^ 8
  pub client : is_client object ≡ true

abbrev pub ByOrigin : Start → List Sent → Sent → Option ℕ → Type 0
ByOrigin start sent one None = IsClients start sent one
ByOrigin start sent one (Some origin) = IsForwarded start one

pub record IsRight (start : Start) (sent : List Sent) (one : Sent) : Type 0 where
  pub handles : (n : ℕ) → among n (handles_of one.sending) ≡ true → (is_client n ≡ true) ⊎ (0x80000000 ≤ n)
  pub by_origin : ByOrigin start sent one one.origin

abbrev pub IsKnown : Start → List Sent → ℕ → Type 0
IsKnown start sent n = (is_client n ≡ true) × (used start sent n ≡ true)

-- ---- what is kept

pub record Sound (start : Start) (v : View) : Type 0 where
  pub right : (one : Sent) → Contains v.sent one → IsRight start v.sent one
  pub order : (one other : Sent) → Contains v.sent one → Contains v.sent other → one.origin ≡ None → among other.endpoint (endpoints_in one) ≡ true → one.place < other.place
  pub dead : (n : ℕ) → v.dead n ≡ true → IsKnown start v.sent n
  pub born : (b : Bound) → Contains v.births b → Contains start.mounts b ⊎ IsKnown start v.sent b.endpoint
  pub tokens : (g : Given) → Contains v.given g → 0x80000000 ≤ g.token
  pub mounted : All (AreMounted start) v.trees

-- what waits reaches a bound endpoint, or one in transit, or one of these
pub record Transit (start : Start) (v : View) (left : ℕ → Type 0) : Type 0 where
  pub once : (one other : Sent) (n : ℕ) → Contains v.waiting one → Contains v.waiting other → among n (endpoints_in one) ≡ true → among n (endpoints_in other) ≡ true → one ≡ other
  pub unbound : (one : Sent) (n : ℕ) → Contains v.waiting one → among n (endpoints_in one) ≡ true → bound_in v.living n ≡ false
  pub alive : (one : Sent) (n : ℕ) → Contains v.waiting one → among n (endpoints_in one) ≡ true → v.dead n ≡ false
  pub reached : (one : Sent) → Contains v.waiting one → ((bound_in v.living one.endpoint ≡ true) ⊎ (travels v.waiting one.endpoint ≡ true)) ⊎ left one.endpoint

-- how lists of a history belong together
pub record IsView (v : View) : Type 0 where
  pub waits : (one : Sent) → Contains v.waiting one → Contains v.sent one
  pub rises : AllPairs (λ one other. one.place < other.place) v.waiting
  pub living_born : (b : Bound) → Contains v.living b → Contains v.births b × (v.dead b.endpoint ≡ false)
  pub born_living : (b : Bound) → Contains v.births b → v.dead b.endpoint ≡ false → Contains v.living b

-- ---- a sending

-- what is known stays known
pub still_used : (start : Start) (sent more : List Sent) (n : ℕ) → used start sent n ≡ true → used start (sent ++ more) n ≡ true
still_used start sent more n h = by_side (or_cases (list_any (λ (bound : Bound). bound.endpoint == n) start.firsts) (list_any (λ (one : Sent). among n (handles_of one.sending)) sent) h) where
  by_side : (list_any (λ (bound : Bound). bound.endpoint == n) start.firsts ≡ true) ⊎ (list_any (λ (one : Sent). among n (handles_of one.sending)) sent ≡ true) → used start (sent ++ more) n ≡ true
  by_side (inl h) = or_left _ _ h
  by_side (inr h) =
      or_right _ _ (list_any-append (λ (one : Sent). among n (handles_of one.sending)) sent more ∙ or_left _ (list_any (λ (one : Sent). among n (handles_of one.sending)) more) h)

still_known : (start : Start) (sent more : List Sent) (n : ℕ) → IsKnown start sent n → IsKnown start (sent ++ more) n
still_known start sent more n h = (h.0, still_used start sent more n h.1)

pub carried_used : (start : Start) (sent : List Sent) (one : Sent) (n : ℕ) → Contains sent one → among n (handles_of one.sending) ≡ true → used start sent n ≡ true
carried_used start sent one n there h = or_right _ _ (passes_any (λ (s : Sent). among n (handles_of s.sending)) sent one there h)

still_by : (start : Start) (sent more : List Sent) (one : Sent) (o : Option ℕ) → ByOrigin start sent one o → ByOrigin start (sent ++ more) one o
still_by start sent more one None h = record { client = h.client; known = still_used start sent more one.endpoint h.known; bytes = h.bytes }
still_by start sent more one (Some origin) h = h

still_right : (start : Start) (sent more : List Sent) (one : Sent) → IsRight start sent one → IsRight start (sent ++ more) one
still_right start sent more one h = record { handles = h.handles; by_origin = still_by start sent more one one.origin h.by_origin }

-- one more is sent
pub record Adds (v : View) (new : Sent) (w : View) : Type 0 where
  pub sent : w.sent ≡ v.sent ++ new ∷ []
  pub waited : (one : Sent) → Contains w.waiting one → Contains v.waiting one ⊎ (new ≡ one)
  pub still : (one : Sent) → Contains v.waiting one → Contains w.waiting one
  pub living : w.living ≡ v.living
  pub births : w.births ≡ v.births
  pub given : w.given ≡ v.given
  pub trees : w.trees ≡ v.trees
  pub dead : (n : ℕ) → w.dead n ≡ v.dead n

-- what it needs: its place is the last, it is right behind all others, and what it carries was nowhere
pub record IsNew (start : Start) (v : View) (new : Sent) : Type 0 where
  pub last : (one : Sent) → Contains v.sent one → one.place < new.place
  pub right : IsRight start (v.sent ++ new ∷ []) new
  pub on : new.origin ≡ None → used start v.sent new.endpoint ≡ true
  pub unknown : (n : ℕ) → among n (endpoints_in new) ≡ true → new.origin ≡ None → used start v.sent n ≡ false

-- the end of a mount is no client's
end_by : (n : ℕ) (b : Bound) (bounds : List Bound) → (Contains (map (λ bound. bound.endpoint) bounds) n → (x : Bound) × Contains bounds x × (x.endpoint ≡ n)) →
    (b.endpoint ≡ n) ⊎ Contains (map (λ bound. bound.endpoint) bounds) n → (x : Bound) × Contains (b ∷ bounds) x × (x.endpoint ≡ n)
end_by n b bounds rest (inl e) = (b, contains_here b bounds, e)
end_by n b bounds rest (inr h) = let later = rest h in (later.0, contains_later later.0 b bounds later.1, later.2)

end_in : (n : ℕ) (bounds : List Bound) → Contains (map (λ bound. bound.endpoint) bounds) n → (x : Bound) × Contains bounds x × (x.endpoint ≡ n)
end_in n [] h = absurd (contains_none n h)
end_in n (b ∷ bounds) h = end_by n b bounds (end_in n bounds) (contains_cases n b.endpoint (map (λ bound. bound.endpoint) bounds) h)

pub end_apart : (start : Start) (n : ℕ) → IsStart start → Contains (mount_ends start) n → is_client n ≡ false
end_apart start n s h =
    let one = end_in n start.mounts h in
    ap is_client (sym one.2) ∙ All-contains (λ (bound : Bound). is_client bound.endpoint ≡ false) start.mounts one.0 s.ends one.1

pub end_born : (start : Start) (n : ℕ) → Contains (mount_ends start) n → (x : Bound) × Contains start.mounts x × (x.endpoint ≡ n)
end_born start n h = end_in n start.mounts h

known_by : (start : Start) (sent : List Sent) (one : Sent) → IsStart start → is_client one.endpoint ≡ true → (o : Option ℕ) → ByOrigin start sent one o → used start sent one.endpoint ≡ true
known_by start sent one s client None h = h.known
known_by start sent one s client (Some origin) h = let wrong : false ≡ true = sym (end_apart start one.endpoint s h.end) ∙ client in absurd (cc)

pub endpoint_known : (start : Start) (sent : List Sent) (one : Sent) → IsStart start → is_client one.endpoint ≡ true → IsRight start sent one → used start sent one.endpoint ≡ true
endpoint_known start sent one s client right = known_by start sent one s client one.origin right.by_origin

last_of : {X : Type 0} (xs : List X) (x y : X) → Contains (xs ++ x ∷ []) y → Contains xs y ⊎ (x ≡ y)
last_of {X} xs x y h = by_side (Contains-append_cases xs (x ∷ []) y h) where
  only : (x ≡ y) ⊎ Contains [] y → x ≡ y
  only (inl e) = e
  only (inr h) = absurd (contains_none y h)

  by_side : Contains xs y ⊎ Contains (x ∷ []) y → Contains xs y ⊎ (x ≡ y)
  by_side (inl h) = inl h
  by_side (inr h) = inr (only (contains_cases y x [] h))

abbrev with_sent : View → List Sent → List Sent → (ℕ → Bool) → View
with_sent v sent waiting dead = record { sent = sent; waiting = waiting; living = v.living; births = v.births; given = v.given; trees = v.trees; dead = dead }

same_view : (v w : View) (sent : List Sent) → w.sent ≡ sent → w.living ≡ v.living → w.births ≡ v.births → w.given ≡ v.given → w.trees ≡ v.trees → with_sent v sent w.waiting w.dead ≡ w
same_view v w sent a b c d e =
    let step : View → List Sent → List Bound → List Bound → List Given → List Tree → View =
    λ x s l bs g t. record { sent = s; waiting = x.waiting; living = l; births = bs; given = g; trees = t; dead = x.dead } in
    ap (λ s. step w s v.living v.births v.given v.trees) (sym a)
    ∙ ap (λ l. step w w.sent l v.births v.given v.trees) (sym b)
    ∙ ap (λ bs. step w w.sent w.living bs v.given v.trees) (sym c)
    ∙ ap (λ g. step w w.sent w.living w.births g v.trees) (sym d)
    ∙ ap (λ t. step w w.sent w.living w.births w.given t) (sym e)

right_by : (start : Start) (v : View) (new one : Sent) → Sound start v → IsNew start v new → Contains v.sent one ⊎ (new ≡ one) → IsRight start (v.sent ++ new ∷ []) one
right_by start v new one past is (inl h) = still_right start v.sent (new ∷ []) one (past.right one h)
right_by start v new one past is (inr e) = subst (λ (s : Sent). IsRight start (v.sent ++ new ∷ []) s) e is.right

order_by : (start : Start) (v : View) (new one other : Sent) → IsStart start → Sound start v → IsNew start v new → Contains v.sent one ⊎ (new ≡ one) → Contains v.sent other ⊎ (new ≡ other) →
    one.origin ≡ None → among other.endpoint (endpoints_in one) ≡ true → one.place < other.place
order_by start v new one other s past is (inl p) (inl q) none h = past.order one other p q none h
order_by start v new one other s past is (inl p) (inr e) none h = subst (λ (x : Sent). one.place < x.place) e (is.last one p)
order_by start v new one other s past is (inr e) (inl q) none h =
    let carries : among other.endpoint (endpoints_in new) ≡ true = ap (λ (x : Sent). among other.endpoint (endpoints_in x)) e ∙ h in
    let fresh : used start v.sent other.endpoint ≡ false = is.unknown other.endpoint carries (ap (λ (x : Sent). x.origin) e ∙ none) in
    let old : used start v.sent other.endpoint ≡ true = endpoint_known start v.sent other s (carried_is new other.endpoint carries).0 (past.right other q) in
    let wrong : true ≡ false = sym old ∙ fresh in
    absurd (cc)
order_by start v new one other s past is (inr e) (inr f) none h =
    let first : new.origin ≡ None = ap (λ (x : Sent). x.origin) e ∙ none in
    let carries : among new.endpoint (endpoints_in new) ≡ true = ap (λ (x : Sent). among new.endpoint (endpoints_in x)) e ∙ ap (λ (x : Sent). among x.endpoint (endpoints_in one)) f ∙ h in
    let wrong : true ≡ false = sym (is.on first) ∙ is.unknown new.endpoint carries first in
    absurd (cc)

born_by : (start : Start) (sent more : List Sent) (b : Bound) → Contains start.mounts b ⊎ IsKnown start sent b.endpoint → Contains start.mounts b ⊎ IsKnown start (sent ++ more) b.endpoint
born_by start sent more b (inl h) = inl h
born_by start sent more b (inr h) = inr (still_known start sent more b.endpoint h)

pub sending_sound : (start : Start) (v w : View) (new : Sent) → IsStart start → Sound start v → IsNew start v new → Adds v new w → Sound start w
sending_sound start v w new s past is adds =
    let more = v.sent ++ new ∷ [] in
    let sound : Sound start (with_sent v more w.waiting w.dead) = record {
      right = λ one h. right_by start v new one past is (last_of v.sent new one h);
      order = λ one other p q none h. order_by start v new one other s past is (last_of v.sent new one p) (last_of v.sent new other q) none h;
      dead = λ n h. still_known start v.sent (new ∷ []) n (past.dead n (sym (adds.dead n) ∙ h));
      born = λ b h. born_by start v.sent (new ∷ []) b (past.born b h);
      tokens = past.tokens;
      mounted = past.mounted;
    } in
    subst (Sound start) (same_view v w more adds.sent adds.living adds.births adds.given adds.trees) sound

-- what is carried is nowhere else, the endpoint is reached, and those that were left are carried
pub record Brings (v : View) (new : Sent) (w : View) (left : ℕ → Type 0) : Type 0 where
  pub alone : (n : ℕ) → among n (endpoints_in new) ≡ true → (one : Sent) → Contains v.waiting one → among n (endpoints_in one) ≡ true → ⊥
  pub unbound : (n : ℕ) → among n (endpoints_in new) ≡ true → bound_in v.living n ≡ false
  pub alive : (n : ℕ) → among n (endpoints_in new) ≡ true → v.dead n ≡ false
  pub reached : (bound_in v.living new.endpoint ≡ true) ⊎ (travels v.waiting new.endpoint ≡ true)
  pub fills : (n : ℕ) → left n → among n (endpoints_in new) ≡ true
  pub waits : (n : ℕ) → left n → Contains w.waiting new

once_by : (v : View) (new : Sent) (w : View) (left : ℕ → Type 0) (start : Start) (one other : Sent) (n : ℕ) → Transit start v left → Brings v new w left → Contains v.waiting one ⊎ (new ≡ one) → Contains v.waiting other ⊎ (new ≡ other) →
    among n (endpoints_in one) ≡ true → among n (endpoints_in other) ≡ true → one ≡ other
once_by v new w left start one other n past brings (inl p) (inl q) h k = past.once one other n p q h k
once_by v new w left start one other n past brings (inl p) (inr e) h k = absurd (brings.alone n (ap (λ (x : Sent). among n (endpoints_in x)) e ∙ k) one p h)
once_by v new w left start one other n past brings (inr e) (inl q) h k = absurd (brings.alone n (ap (λ (x : Sent). among n (endpoints_in x)) e ∙ h) other q k)
once_by v new w left start one other n past brings (inr e) (inr f) h k = sym e ∙ f

still_travels : (v w : View) (new : Sent) → Adds v new w → (n : ℕ) → travels v.waiting n ≡ true → travels w.waiting n ≡ true
still_travels v w new adds n h =
    let one = carrier_of n v.waiting h in
    carrier_travels n w.waiting one.0 (adds.still one.0 one.1) one.2

abbrev Reached : View → ℕ → Type 0
Reached v n = (bound_in v.living n ≡ true) ⊎ (travels v.waiting n ≡ true)

still_reached : (v w : View) (new : Sent) → Adds v new w → (n : ℕ) → Reached v n → Reached w n
still_reached v w new adds n (inl h) = inl (ap (λ living. bound_in living n) adds.living ∙ h)
still_reached v w new adds n (inr h) = inr (still_travels v w new adds n h)

reached_by : (v w : View) (new : Sent) (left : ℕ → Type 0) → Adds v new w → Brings v new w left → (n : ℕ) → Reached v n ⊎ left n → Reached w n
reached_by v w new left adds brings n (inl h) = still_reached v w new adds n h
reached_by v w new left adds brings n (inr h) = inr (carrier_travels n w.waiting new (brings.waits n h) (brings.fills n h))

unbound_by : (start : Start) (v w : View) (new one : Sent) (left : ℕ → Type 0) (n : ℕ) → Transit start v left → Brings v new w left → Contains v.waiting one ⊎ (new ≡ one) → among n (endpoints_in one) ≡ true → bound_in v.living n ≡ false
unbound_by start v w new one left n past brings (inl p) h = past.unbound one n p h
unbound_by start v w new one left n past brings (inr e) h = brings.unbound n (ap (λ (x : Sent). among n (endpoints_in x)) e ∙ h)

alive_by : (start : Start) (v w : View) (new one : Sent) (left : ℕ → Type 0) (n : ℕ) → Transit start v left → Brings v new w left → Contains v.waiting one ⊎ (new ≡ one) → among n (endpoints_in one) ≡ true → v.dead n ≡ false
alive_by start v w new one left n past brings (inl p) h = past.alive one n p h
alive_by start v w new one left n past brings (inr e) h = brings.alive n (ap (λ (x : Sent). among n (endpoints_in x)) e ∙ h)

reached_one : (start : Start) (v w : View) (new one : Sent) (left : ℕ → Type 0) → Transit start v left → Adds v new w → Brings v new w left → Contains v.waiting one ⊎ (new ≡ one) → Reached w one.endpoint
reached_one start v w new one left past adds brings (inl p) = reached_by v w new left adds brings one.endpoint (past.reached one p)
reached_one start v w new one left past adds brings (inr e) = subst (λ (x : Sent). Reached w x.endpoint) e (still_reached v w new adds new.endpoint brings.reached)

abbrev pub nothing_left : ℕ → Type 0
nothing_left n = ⊥

pub sending_transit : (start : Start) (v w : View) (new : Sent) (left : ℕ → Type 0) → Transit start v left → Adds v new w → Brings v new w left → Transit start w nothing_left
sending_transit start v w new left past adds brings = record {
  once = λ one other n p q h k. once_by v new w left start one other n past brings (adds.waited one p) (adds.waited other q) h k;
  unbound = λ one n p h. ap (λ living. bound_in living n) adds.living ∙ unbound_by start v w new one left n past brings (adds.waited one p) h;
  alive = λ one n p h. adds.dead n ∙ alive_by start v w new one left n past brings (adds.waited one p) h;
  reached = λ one p. inl (reached_one start v w new one left past adds brings (adds.waited one p));
}
