-- The view behind one more event.
use Rattle.std.proofs.Common.{◌≡◌, ◌≢◌, ℕ, ◌+◌, ◌==◌, ◌&&◌, ◌||◌, Bool, true, false, not, cond, if◌then◌else◌, List, [], ◌∷◌, ◌++◌, length, map, filter, option_to_list, Option, Some, None, Contains, refl, sym, ap, ◌∙◌, arith}
use Rattle.std.specs.List.{list_any}
use Rattle.std.specs.Option.{option_map_or}
use Rattle.std.proofs.lemmas.Bool.{eq-eqb, ne_eqb}
use Rattle.std.proofs.lemmas.List.{map-append}
use Rattle.std.proofs.lemmas.List.Elements.{filter-append, filter_agree}
use Rattle.link_frames.specs.declared.kinds.Refusal.{Refusal}
use Rattle.link_admission.specs.Numbering.{among}
use Rattle.conn_rules.specs.Births.{Position, fresh}
use Rattle.vfs_journal.specs.Entries.{Sent, sends, serves, refuses, handles_of}
use Rattle.vfs_journal.specs.History.{History, living, position_of, waiting, was_carried, trees_of, changed, is_dead, binds_endpoint}
use Rattle.journal_laws.specs.Laws.{but_for, newly_living}
use Rattle.vfs_journal.specs.Outcomes.{Given, Outcome}
use Rattle.vfs_journal.specs.Past.{behind, event_of}
use Rattle.vfs_journal.specs.Serving.{outcome_of}
use Rattle.vfs_journal.specs.Starts.{Bound, Start}
use Rattle.vfs_journal.specs.Tokens.{all_given}
use Rattle.vfs_journal.specs.View.{view_of, with_position, refusing_in, sending_in, serving_in, event_in, moved}
use Rattle.journal_laws.proofs.Lists.{eqb_sym, filter-filter}
use Rattle.journal_laws.proofs.Members.{contains_here, contains_later}
use Rattle.journal_laws.proofs.Steps.{refusals_change_nothing, sendings_wait_last, servings_take_effect}
use Rattle.journal_laws.proofs.ViewParts.{event_is}

one_more : {X : Type 0} (x : X) (xs : List X) → length (x ∷ xs) ≡ length xs + 1
one_more x xs = omega arith

-- ---- a refusal

pub refused_viewed : (start : Start) (past : History) (endpoint : ℕ) (why : Refusal) →
    view_of start (behind start (refuses endpoint why) past) ≡ refusing_in (view_of start past)
unfolding event_of
refused_viewed start past endpoint why =
    let h = refusals_change_nothing start past endpoint why in
    let alive = h.same.alive in
    let queue = h.queue in
    let trees = h.same.trees in
    let given = h.same.tokens in
    let sent = h.sent in
    let more = one_more (event_of start past (refuses endpoint why)) past in
    λ i. record {
      living = map (with_position past) (alive i);
      waiting = queue i;
      trees = trees i;
      given = given i;
      held = filter (λ one. not (list_any (λ other. among one.token (handles_of other.sending)) (sent i))) (given i);
      places = more i;
    }

-- ---- a sending

not_or : (a b : Bool) → not (a || b) ≡ (not a && not b)
not_or true b = refl
not_or false b = refl

still_held : (start : Start) (past : History) (sent : Sent) (given : List Given) →
    filter (λ one. not (was_carried (behind start (sends sent) past) one.token)) given
    ≡ filter (λ one. not (among one.token (handles_of sent.sending))) (filter (λ one. not (was_carried past one.token)) given)
still_held start past sent given =
    filter_agree (λ one. not (was_carried (behind start (sends sent) past) one.token)) (λ one. not (was_carried past one.token) && not (among one.token (handles_of sent.sending)))
    (λ one. ap not ((sendings_wait_last start past sent).carried one.token) ∙ not_or (was_carried past one.token) (among one.token (handles_of sent.sending))) given
    ∙ sym (filter-filter (λ one. not (among one.token (handles_of sent.sending))) (λ one. not (was_carried past one.token)) given)

pub sent_viewed : (start : Start) (past : History) (sent : Sent) → waiting (behind start (sends sent) past) ≡ waiting past ++ sent ∷ [] →
    view_of start (behind start (sends sent) past) ≡ sending_in (view_of start past) sent
unfolding event_of
sent_viewed start past sent queue =
    let now = behind start (sends sent) past in
    let h = sendings_wait_last start past sent in
    let alive = h.same.alive in
    let trees = h.same.trees in
    let given = h.same.tokens in
    let held = ap (filter (λ (one : Given). not (was_carried now one.token))) h.same.tokens ∙ still_held start past sent (all_given past) in
    let more = one_more (event_of start past (sends sent)) past in
    λ i. record {
      living = map (with_position past) (alive i);
      waiting = queue i;
      trees = trees i;
      given = given i;
      held = held i;
      places = more i;
    }

-- ---- a serving

map_filter : {X Y : Type 0} (f : X → Y) (p : X → Bool) (q : Y → Bool) (xs : List X) → ((x : X) → q (f x) ≡ p x) → map f (filter p xs) ≡ filter q (map f xs)
map_filter f p q [] same = refl
map_filter {X} {Y} f p q (x ∷ xs) same = by_test (p x) (q (f x)) (same x) (map_filter f p q xs same) where
  by_test : (b c : Bool) → c ≡ b → map f (filter p xs) ≡ filter q (map f xs) → map f (cond b (x ∷ filter p xs) (filter p xs)) ≡ cond c (f x ∷ filter q (map f xs)) (filter q (map f xs))
  by_test true true e rest = ap (λ (ys : List Y). f x ∷ ys) rest
  by_test false false e rest = rest
  by_test true false e rest = absurd (cc)
  by_test false true e rest = absurd (cc)

map_members : {X Y Z : Type 0} (f : X → Z) (g : Y → Z) (h : X → Y) (xs : List X) → ((x : X) → Contains xs x → f x ≡ g (h x)) → map f xs ≡ map g (map h xs)
map_members f g h [] same = refl
map_members {X} {Y} {Z} f g h (x ∷ xs) same =
    ap (λ (z : Z). z ∷ map f xs) (same x (contains_here x xs))
    ∙ ap (λ (zs : List Z). g (h x) ∷ zs) (map_members f g h xs (λ y p. same y (contains_later y x xs p)))

-- what is bound is new, and the token that is given was never carried
pub record BringsNew (start : Start) (past : History) (o : Outcome) : Type 0 where
  pub unbound : (new : Bound) → o.bound ≡ Some new → (b : Bound) → Contains (living start past) b → new.endpoint ≢ b.endpoint
  pub alive : (new : Bound) → o.bound ≡ Some new → is_dead past new.endpoint ≡ false
  pub uncarried : (given : Given) → o.token ≡ Some given → was_carried past given.token ≡ false

-- who lived on is at its position, the served endpoint at the new one
binds_none : (o : Option Bound) (n : ℕ) → ((new : Bound) → o ≡ Some new → new.endpoint ≢ n) → option_map_or (λ bound. bound.endpoint == n) o false ≡ false
binds_none None n apart = refl
binds_none (Some new) n apart = ne_eqb new.endpoint n (apart new refl)

moved_by : (t : Bool) (b : Bound) (at was : Position) → ◌≡◌ {A = Bound × Position} (b, if t then at else was) (if t then (b, at) else (b, was))
moved_by true b at was = refl
moved_by false b at was = refl

position_by : (b : Bound) (k : ℕ) (at was : Position) (binds serves' : Bool) → binds ≡ false → serves' ≡ (b.endpoint == k) →
    ◌≡◌ {A = Bound × Position} (b, if binds then fresh else if serves' then at else was) (moved k at (b, was))
position_by b k at was true serves' e same = absurd (cc)
position_by b k at was false serves' e same = ap (λ (t : Bool). let pair : Bound × Position = (b, if t then at else was) in pair) same ∙ moved_by (b.endpoint == k) b at was

lived_on : (start : Start) (past : History) (sent : Sent) → BringsNew start past (outcome_of start past sent) → (b : Bound) → Contains (living start past) b →
    with_position (behind start (serves sent) past) b ≡ moved sent.endpoint (outcome_of start past sent).position (with_position past b)
unfolding event_of
lived_on start past sent new b lives =
    let o = outcome_of start past sent in
    position_by b sent.endpoint o.position (position_of past b.endpoint) (binds_endpoint b.endpoint (event_of start past (serves sent))) (sent.endpoint == b.endpoint)
    (binds_none o.bound b.endpoint (λ x e. new.unbound x e b lives))
    (eqb_sym sent.endpoint b.endpoint)

still_lives : (start : Start) (past : History) (sent : Sent) → BringsNew start past (outcome_of start past sent) →
    let now = behind start (serves sent) past in
    let event = event_of start past (serves sent) in
    map (with_position now) (but_for event.deaths (living start past))
    ≡ filter (λ pair. not (among pair.0.endpoint event.deaths)) (map (moved sent.endpoint event.outcome.position) (map (with_position past) (living start past)))
unfolding event_of
still_lives start past sent new =
    let now = behind start (serves sent) past in
    let event = event_of start past (serves sent) in
    map_filter (with_position now) (λ bound. not (among bound.endpoint event.deaths)) (λ pair. not (among pair.0.endpoint event.deaths)) (living start past) (λ b. refl)
    ∙ ap (filter (λ (pair : Bound × Position). not (among pair.0.endpoint event.deaths)))
    (map_members (with_position now) (moved sent.endpoint event.outcome.position) (with_position past) (living start past) (λ b p. lived_on start past sent new b p))

-- what is bound begins at its beginning
new_by : (now : History) (deaths : List ℕ) (dead : ℕ → Bool) (o : Option Bound) → ((new : Bound) → o ≡ Some new → (dead new.endpoint ≡ among new.endpoint deaths) × (position_of now new.endpoint ≡ fresh)) →
    map (with_position now) (filter (λ bound. not (dead bound.endpoint)) (option_to_list o))
    ≡ filter (λ pair. not (among pair.0.endpoint deaths)) (map (λ (bound : Bound). (bound, fresh)) (option_to_list o))
new_by now deaths dead None is = refl
new_by now deaths dead (Some new) is =
    by_test (dead new.endpoint) (among new.endpoint deaths) (is new refl).0 where
      one : with_position now new ≡ (new, fresh)
      one = ap (λ (at : Position). (new, at)) (is new refl).1

      by_test : (b c : Bool) → b ≡ c → map (with_position now) (cond (not b) (new ∷ []) []) ≡ cond (not c) ((new, fresh) ∷ []) []
      by_test true true e = refl
      by_test false false e = ap (λ (pair : Bound × Position). pair ∷ []) one
      by_test true false e = absurd (cc)
      by_test false true e = absurd (cc)

binds_this : (o : Option Bound) (new : Bound) → o ≡ Some new → option_map_or (λ bound. bound.endpoint == new.endpoint) o false ≡ true
binds_this o new e = ap (λ (x : Option Bound). option_map_or (λ bound. bound.endpoint == new.endpoint) x false) e ∙ eq-eqb new.endpoint new.endpoint refl

fresh_by : (binds : Bool) (other : Position) → binds ≡ true → (if binds then fresh else other) ≡ fresh
fresh_by true other e = refl
fresh_by false other e = absurd (cc)

or_false : (a b : Bool) → b ≡ false → (a || b) ≡ a
or_false true b e = refl
or_false false b e = e

new_lives : (start : Start) (past : History) (sent : Sent) → BringsNew start past (outcome_of start past sent) →
    let now = behind start (serves sent) past in
    let event = event_of start past (serves sent) in
    map (with_position now) (newly_living now event.outcome.bound)
    ≡ filter (λ pair. not (among pair.0.endpoint event.deaths)) (map (λ (bound : Bound). (bound, fresh)) (option_to_list event.outcome.bound))
unfolding event_of
new_lives start past sent new =
    let now = behind start (serves sent) past in
    let event = event_of start past (serves sent) in
    new_by now event.deaths (is_dead now) event.outcome.bound
    (λ x e. (
      or_false (among x.endpoint event.deaths) (is_dead past x.endpoint) (new.alive x e),
      fresh_by (binds_endpoint x.endpoint event) (if sent.endpoint == x.endpoint then event.outcome.position else position_of past x.endpoint) (binds_this event.outcome.bound x e),
    ))

-- the token that is given is held
given_held : (carried : ℕ → Bool) (given : List Given) (o : Option Given) → ((one : Given) → o ≡ Some one → carried one.token ≡ false) →
    filter (λ one. not (carried one.token)) (given ++ option_to_list o) ≡ filter (λ one. not (carried one.token)) given ++ option_to_list o
given_held carried given o is =
    filter-append (λ one. not (carried one.token)) given (option_to_list o)
    ∙ ap (λ (more : List Given). filter (λ one. not (carried one.token)) given ++ more) (by_token o is) where
      by_token : (p : Option Given) → ((one : Given) → p ≡ Some one → carried one.token ≡ false) → filter (λ one. not (carried one.token)) (option_to_list p) ≡ option_to_list p
      by_token None h = refl
      by_token (Some one) h = ap (λ (b : Bool). cond (not b) (one ∷ []) []) (h one refl)

pub served_viewed : (start : Start) (past : History) (sent : Sent) → BringsNew start past (outcome_of start past sent) →
    view_of start (behind start (serves sent) past) ≡ serving_in (view_of start past) sent (event_of start past (serves sent))
unfolding event_of
served_viewed start past sent new =
    let now = behind start (serves sent) past in
    let event = event_of start past (serves sent) in
    let h = servings_take_effect start past sent in
    let lives =
    ap (map (with_position now)) h.alive
    ∙ map-append (with_position now) (but_for event.deaths (living start past)) (newly_living now event.outcome.bound)
    ∙ ap (λ (pairs : List (Bound × Position)). pairs ++ map (with_position now) (newly_living now event.outcome.bound)) (still_lives start past sent new)
    ∙ ap (λ (pairs : List (Bound × Position)). filter (λ pair. not (among pair.0.endpoint event.deaths)) (map (moved sent.endpoint event.outcome.position) (map (with_position past) (living start past))) ++ pairs) (new_lives start past sent new)
    ∙ sym (filter-append (λ (pair : Bound × Position). not (among pair.0.endpoint event.deaths)) (map (moved sent.endpoint event.outcome.position) (map (with_position past) (living start past))) (map (λ (bound : Bound). (bound, fresh)) (option_to_list event.outcome.bound))) in
    let queue = h.queue in
    let given = h.tokens in
    let held =
    filter_agree (λ one. not (was_carried now one.token)) (λ one. not (was_carried past one.token)) (λ one. ap not (h.carried one.token)) (all_given now)
    ∙ ap (filter (λ (one : Given). not (was_carried past one.token))) h.tokens
    ∙ given_held (was_carried past) (all_given past) event.outcome.token (λ one e. new.uncarried one e) in
    let more = one_more event past in
    λ i. record {
      living = lives i;
      waiting = queue i;
      trees = changed (trees_of start past) event.outcome.server event.outcome.change;
      given = given i;
      held = held i;
      places = more i;
    }

-- and so by the view alone
pub served_in_view : (start : Start) (past : History) (sent : Sent) → BringsNew start past (outcome_of start past sent) →
    view_of start (behind start (serves sent) past) ≡ serving_in (view_of start past) sent (event_in (view_of start past) sent)
served_in_view start past sent new =
    served_viewed start past sent new ∙ ap (serving_in (view_of start past) sent) (event_is start past sent)
