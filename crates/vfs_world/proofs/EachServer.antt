-- What all servers hold behind each step of a serving.
use Rattle.std.proofs.Common.{◌≡◌, ◌≢◌, ℕ, zero, suc, ◌+◌, ◌<◌, ◌==◌, ◌⊎◌, ◌&&◌, ◌||◌, Bool, true, false, not, List, [], ◌∷◌, count_by, length, option_to_list, Contains, Option, Some, None, set, inl, inr, refl, sym, ap, ◌∙◌, subst, arith, length-set}
use Rattle.std.specs.Option.{option_map_or}
use Rattle.std.specs.Prelude.{slice_get}
use Rattle.std.proofs.lemmas.Grind.{common_steps}
use Rattle.std.proofs.lemmas.Option.{same_Some, slice_get_within}
use Rattle.link_admission.specs.Numbering.{among}
use Rattle.node_graph.specs.Tree.{after}
use Rattle.conn_rules.specs.Births.{Position}
use Rattle.vfs_journal.specs.History.{tree_at}
use Rattle.vfs_journal.specs.Outcomes.{Given, Outcome}
use Rattle.vfs_journal.specs.Serving.{Moment}
use Rattle.vfs_journal.specs.Starts.{Bound}
use Rattle.vfs_journal.specs.View.{View, at_in, is_out_in}
use Rattle.journal_laws.proofs.Lists.{eqb_sym}
use Rattle.vfs_server.specs.Binding.{watching_behind}
use Rattle.vfs_server.specs.declared.fate.Fate.{Fate}
use Rattle.vfs_server.specs.Servers.{Server, in_use, named}
use Rattle.vfs_server.specs.Serving.{Serves, newly_named, newly_seen}
use Rattle.vfs_world.specs.Holding.{HoldsEach}
use Rattle.vfs_world.specs.ServingSteps.{ForgetsAll, ForgetsEach}
use Rattle.vfs_world.proofs.Between.{answered_in, bound_in, given_in}
use Rattle.vfs_world.proofs.Outs.{HoldsOut, Rising, but, looks_given, named_here, named_there, out_first, out_forgets, out_last}
use Rattle.vfs_world.proofs.ServerSteps.{HoldsLooks, HoldsNumber, Looks, answered_here, answered_there, bound_here, bound_there, by_index, by_number, changed_here, counted_by, looked, looks_answered, looks_bound, looks_of, one_if}

-- ---- by their numbers

pub record AreNumbered (view : View) (servers : List Server) : Type 0 where
  pub many : length servers ≡ length view.trees
  pub index : (index : ℕ) (server : Server) → slice_get servers index ≡ Some server → server.index ≡ index
  pub each : (index : ℕ) (server : Server) → slice_get servers index ≡ Some server → HoldsNumber view index server

pub numbered : (view : View) (servers : List Server) → HoldsEach view servers → AreNumbered view servers
numbered view servers h = record {
  many = h.many;
  index = h.index;
  each = λ index server e. by_number view server index (h.index index server e) (h.each index server e);
}

pub indexed : (view : View) (servers : List Server) → AreNumbered view servers → HoldsEach view servers
indexed view servers h = record {
  many = h.many;
  index = h.index;
  each = λ index server e. by_index view server index (h.index index server e) (h.each index server e);
}

-- ---- one is replaced

pub set_cases : {X : Type 0} (xs : List X) (i : ℕ) (x : X) (j : ℕ) (y : X) → slice_get (set xs i x) j ≡ Some y → ((j ≡ i) × (y ≡ x)) ⊎ ((j ≢ i) × (slice_get xs j ≡ Some y))
set_cases [] i x j y e = inl (absurd (cc))
set_cases (z ∷ xs) zero x zero y e = inl (refl, sym (same_Some x y e))
set_cases (z ∷ xs) zero x (suc j) y e = inr ((λ f. absurd (omega (arith, f))), e)
set_cases (z ∷ xs) (suc i) x zero y e = inr ((λ f. absurd (omega (arith, f))), e)
set_cases (z ∷ xs) (suc i) x (suc j) y e = next (set_cases xs i x j y e) where
  next : ((j ≡ i) × (y ≡ x)) ⊎ ((j ≢ i) × (slice_get xs j ≡ Some y)) → ((suc j ≡ suc i) × (y ≡ x)) ⊎ ((suc j ≢ suc i) × (slice_get xs j ≡ Some y))
  next (inl h) = inl (ap (λ (n : ℕ). suc n) h.0, h.1)
  next (inr h) = inr ((λ f. h.0 (omega (arith, f))), h.1)

pub each_set : (view later : View) (servers : List Server) (i : ℕ) (one now : Server) → AreNumbered view servers → slice_get servers i ≡ Some one → now.index ≡ one.index → length later.trees ≡ length view.trees →
    HoldsNumber later i now → ((j : ℕ) (server : Server) → j ≢ i → HoldsNumber view j server → HoldsNumber later j server) → AreNumbered later (set servers i now)
each_set view later servers i one now h there at trees here others = record {
  many = length-set servers i now ∙ h.many ∙ sym trees;
  index = λ j server e. by_case_index j server (set_cases servers i now j server e);
  each = λ j server e. by_case j server (set_cases servers i now j server e);
} where
  by_case_index : (j : ℕ) (server : Server) → ((j ≡ i) × (server ≡ now)) ⊎ ((j ≢ i) × (slice_get servers j ≡ Some server)) → server.index ≡ j
  by_case_index j server (inl f) = ap (λ (s : Server). s.index) f.1 ∙ at ∙ h.index i one there ∙ sym f.0
  by_case_index j server (inr f) = h.index j server f.1

  by_case : (j : ℕ) (server : Server) → ((j ≡ i) × (server ≡ now)) ⊎ ((j ≢ i) × (slice_get servers j ≡ Some server)) → HoldsNumber later j server
  by_case j server (inl f) = subst (λ (s : Server). HoldsNumber later j s) (sym f.1) (subst (λ (n : ℕ). HoldsNumber later n now) (sym f.0) here)
  by_case j server (inr f) = others j server f.0 (h.each j server f.1)

-- ---- an endpoint was served

-- what is held then: the endpoint is moved, the newest is bound, and the token is given
abbrev pub served_in : View → ℕ → Outcome → View
served_in view endpoint outcome = given_in (bound_in (answered_in view endpoint outcome) outcome.bound) outcome.token

-- what is bound and given by it is at this server, and was not before
pub record IsNewAt (view : View) (index endpoint : ℕ) (outcome : Outcome) : Type 0 where
  pub server : outcome.server ≡ index
  pub bound : (b : Bound) → outcome.bound ≡ Some b → b.server ≡ index
  pub given : (one : Given) → outcome.token ≡ Some one → one.server ≡ index
  pub free : (b : Bound) → outcome.bound ≡ Some b → at_in (answered_in view endpoint outcome) b.endpoint ≡ None
  pub apart : (one other : Given) → outcome.token ≡ Some one → Contains view.given other → other.token ≢ one.token

held_as_bound : (o : Option Bound) (looks : Looks) (number : ℕ) → (looks_bound o looks).holds number ≡ looks.holds number + count_by (λ bound. bound.birth.node == number) (option_to_list o)
held_as_bound None looks number = let none : count_by (λ (bound : Bound). bound.birth.node == number) [] ≡ 0 = refl in omega (arith, none)
held_as_bound (Some b) looks number = let one = counted_by (λ (bound : Bound). bound.birth.node == number) b (b.birth.node == number) refl in omega (arith, one)

held_as_given : (o : Option Given) (looks : Looks) (number : ℕ) → (looks_given o looks).holds number ≡ looks.holds number + count_by (λ given. given.node == number) (option_to_list o)
held_as_given None looks number = let none : count_by (λ (given : Given). given.node == number) [] ≡ 0 = refl in omega (arith, none)
held_as_given (Some one) looks number = let c = given_counted one (one.node == number) refl in omega (arith, c) where
  given_counted : (one : Given) (b : Bool) → (one.node == number) ≡ b → count_by (λ (given : Given). given.node == number) (one ∷ []) ≡ one_if b
  given_counted one true e = ap (λ (n : ℕ). n) (grind (arith, common_steps))
  given_counted one false e = ap (λ (n : ℕ). n) (grind (arith, common_steps))

-- at the server at which it is bound
module _ (view : View) (one now : Server) (index : ℕ) (moment : Moment) (outcome : Outcome) (fate : Fate) (before after' : List ℕ) (h : HoldsNumber view index one) (is : IsNewAt view index moment.bound.endpoint outcome)
    (within : index < length view.trees) (s : Serves moment outcome fate one now before after') where
  abbrev k : ℕ
  k = moment.bound.endpoint

  abbrev answered : Looks
  answered = looks_answered k outcome.position (looks_of one)

  abbrev and_bound : Looks
  and_bound = looks_bound outcome.bound answered

  abbrev then_looks : Looks
  then_looks = looks_given outcome.token and_bound

  held : HoldsLooks (served_in view k outcome) index then_looks
  held =
      named_here (bound_in (answered_in view k outcome) outcome.bound) and_bound index outcome.token
      (bound_here (answered_in view k outcome) answered index outcome.bound (answered_here view (looks_of one) index k outcome (looked view index one h)) is.bound is.free)
      is.given is.apart

  found_then : (o : Option Bound) (t : Option Given) (n : ℕ) → newly_seen o n (answered.bound n) ≡ (looks_given t (looks_bound o answered)).bound n
  found_then None None n = refl
  found_then None (Some given) n = refl
  found_then (Some b) None n = refl
  found_then (Some b) (Some given) n = refl

  count_then : (o : Option Bound) (t : Option Given) → in_use one + length (option_to_list o) ≡ (looks_given t (looks_bound o answered)).count
  count_then None None = omega arith
  count_then None (Some given) = omega arith
  count_then (Some b) None = omega arith
  count_then (Some b) (Some given) = omega arith

  watchers_then : (o : Option Bound) (t : Option Given) → option_map_or (watching_behind one.watchers) o one.watchers ≡ (looks_given t (looks_bound o answered)).watchers
  watchers_then None None = refl
  watchers_then None (Some given) = refl
  watchers_then (Some b) None = refl
  watchers_then (Some b) (Some given) = refl

  tokens_then : (o : Option Bound) (t : Option Given) (n : ℕ) → newly_named t n (named one n) ≡ (looks_given t (looks_bound o answered)).tokens n
  tokens_then None None n = refl
  tokens_then None (Some given) n = refl
  tokens_then (Some b) None n = refl
  tokens_then (Some b) (Some given) n = refl

  pub served_here : HoldsNumber (served_in view moment.bound.endpoint outcome) index now
  served_here = record {
    bound = λ n. s.bound n ∙ found_then outcome.bound outcome.token n ∙ held.bound n;
    count = s.count ∙ count_then outcome.bound outcome.token ∙ held.count;
    watchers = s.watchers ∙ watchers_then outcome.bound outcome.token ∙ held.watchers;
    tokens = λ token. s.tokens token ∙ tokens_then outcome.bound outcome.token token ∙ held.tokens token;
    tree = changed_here view now.graph index outcome is.server within (s.tree (tree_at view.trees index) h.tree);
    holds = λ number.
        let a = s.holds number in
        let b = held_as_bound outcome.bound answered number in
        let c = held_as_given outcome.token and_bound number in
        let d = held.holds number in
        omega (arith, a, b, c, d);
  }

pub each_served : (view : View) (servers : List Server) (one now : Server) (pair : Bound × Position) (moment : Moment) (outcome : Outcome) (fate : Fate) (before after' : List ℕ) → AreNumbered view servers →
    slice_get servers pair.0.server ≡ Some one → at_in view moment.bound.endpoint ≡ Some pair → IsNewAt view pair.0.server moment.bound.endpoint outcome → Serves moment outcome fate one now before after' →
    AreNumbered (served_in view moment.bound.endpoint outcome) (set servers pair.0.server now)
each_served view servers one now pair moment outcome fate before after' h there found is s =
    let i = pair.0.server in
    let k = moment.bound.endpoint in
    let within = slice_get_within servers i one there in
    let many = h.many in
    each_set view (served_in view k outcome) servers i one now h there s.index (length-set view.trees outcome.server (after (tree_at view.trees outcome.server) outcome.change))
    (served_here view one now i moment outcome fate before after' (h.each i one there) is (omega (arith, within, many)) s)
    (λ j server apart held.
    named_there (bound_in (answered_in view k outcome) outcome.bound) j server outcome.token
    (bound_there (answered_in view k outcome) server j outcome.bound (answered_there view server j k pair outcome held found (λ e. apart (sym e)) (λ e. apart (sym e ∙ is.server)))
    (λ b e f. apart (sym f ∙ is.bound b e)))
    (λ new e f. apart (sym f ∙ is.given new e)) is.apart)

-- ---- views that are looked up alike

pub each_same : (v w : View) (servers : List Server) → w.living ≡ v.living → w.trees ≡ v.trees → w.given ≡ v.given → ((one : Given) → Contains v.given one → is_out_in v one.token ≡ is_out_in w one.token) →
    AreNumbered v servers → AreNumbered w servers
each_same v w servers living trees given same h = record {
  many = h.many ∙ ap length (sym trees);
  index = h.index;
  each = λ j server e. out_last v w (is_out_in v) j server living trees given same (out_first v j server (h.each j server e));
}

-- ---- tokens are forgotten

pub by_length : (servers : List Server) (i : ℕ) → i < length servers → (one : Server) × (slice_get servers i ≡ Some one)
by_length [] i low = absurd (omega arith)
by_length (one ∷ servers) zero low = (one, refl)
by_length (one ∷ servers) (suc i) low = by_length servers i (omega arith)

-- by a test of what is out
pub record AreOut (view : View) (out : ℕ → Bool) (servers : List Server) : Type 0 where
  pub many : length servers ≡ length view.trees
  pub index : (index : ℕ) (server : Server) → slice_get servers index ≡ Some server → server.index ≡ index
  pub each : (index : ℕ) (server : Server) → slice_get servers index ≡ Some server → HoldsOut view out index server

all_out : (view : View) (servers : List Server) → AreNumbered view servers → AreOut view (is_out_in view) servers
all_out view servers h = record { many = h.many; index = h.index; each = λ i server e. out_first view i server (h.each i server e) }

one_forgotten : (view : View) (out : ℕ → Bool) (token : ℕ) (servers new : List Server) → Rising view.given → AreOut view out servers → ForgetsEach servers token new → AreOut view (but token out) new
one_forgotten view out token servers new rises h f = record {
  many = f.many ∙ h.many;
  index = λ i now e. let one = was i now e in (f.each i one.0 now one.1 e).index ∙ h.index i one.0 one.1;
  each = λ i now e. let one = was i now e in out_forgets view out i token one.0 now rises (h.each i one.0 one.1) (f.each i one.0 now one.1 e);
} where
  was : (i : ℕ) (now : Server) → slice_get new i ≡ Some now → (one : Server) × (slice_get servers i ≡ Some one)
  was i now e = by_length servers i (let within = slice_get_within new i now e in let many = f.many in omega (arith, within, many))

-- without these tokens
abbrev pub buts : List ℕ → (ℕ → Bool) → ℕ → Bool
buts [] out = out
buts (token ∷ tokens) out = buts tokens (but token out)

pub buts_are : (tokens : List ℕ) (out : ℕ → Bool) (n : ℕ) → buts tokens out n ≡ (not (among n tokens) && out n)
buts_are [] out n = refl
buts_are (token ∷ tokens) out n =
    buts_are tokens (but token out) n
    ∙ ap (λ (b : Bool). not (among n tokens) && (not b && out n)) (eqb_sym n token)
    ∙ either (among n tokens) (token == n) (out n) where
      either : (a b c : Bool) → (not a && (not b && c)) ≡ (not (b || a) && c)
      either true true c = refl
      either true false c = refl
      either false true c = refl
      either false false c = refl

all_forgotten : (view : View) (tokens : List ℕ) (out : ℕ → Bool) (servers new : List Server) → Rising view.given → AreOut view out servers → ForgetsAll servers tokens new → AreOut view (buts tokens out) new
all_forgotten view [] out servers new rises h same = subst (AreOut view out) (sym same) h
all_forgotten view (token ∷ tokens) out servers new rises h f =
    all_forgotten view tokens (but token out) f.0 new rises (one_forgotten view out token servers f.0 rises h f.1.0) f.1.1

-- what they hold then is what a view says in which these tokens are out no more
pub each_forgotten : (view later : View) (tokens : List ℕ) (servers new : List Server) → Rising view.given → AreNumbered view servers → ForgetsAll servers tokens new → later.living ≡ view.living → later.trees ≡ view.trees →
    later.given ≡ view.given → ((one : Given) → Contains view.given one → (not (among one.token tokens) && is_out_in view one.token) ≡ is_out_in later one.token) → AreNumbered later new
each_forgotten view later tokens servers new rises h f living trees given same =
    let left = all_forgotten view tokens (is_out_in view) servers new rises (all_out view servers h) f in
    record {
      many = left.many ∙ ap length (sym trees);
      index = left.index;
      each = λ i server e.
          out_last view later (buts tokens (is_out_in view)) i server living trees given (λ one c. buts_are tokens (is_out_in view) one.token ∙ same one c) (left.each i server e);
    }
