-- What a server holds behind each step of a serving.
use Rattle.std.proofs.Common.{◌≡◌, ◌≢◌, ℕ, ◌+◌, ◌<◌, ◌==◌, ◌&&◌, Bool, true, false, not, cond, if◌then◌else◌, List, [], ◌∷◌, ◌++◌, length, map, filter, find, count_by, All, AllPairs, Option, Some, None, append-nil, refl, sym, ap, ◌∙◌, subst, arith}
use Rattle.std.specs.FinMap as finite
use Rattle.std.specs.Option.{option_map, option_map_or, option_or}
use Rattle.std.specs.Ordering.{nat_cmp}
use Rattle.std.proofs.lemmas.Bool.{eqb-true, eq-eqb, ne_eqb, true≢false}
use Rattle.std.proofs.lemmas.List.{get_or-set_same, get_or-set_other, length-append, map-append}
use Rattle.std.proofs.lemmas.List.Elements.{All-head, All-tail, filter-append}
use Rattle.std.proofs.lemmas.List.Folds.{find-append}
use Rattle.std.proofs.lemmas.Grind.{common_steps}
use Rattle.std.proofs.lemmas.List.Sums.{length-filter}
use Rattle.std.proofs.lemmas.Option.{same_Some}
use Rattle.node_graph.specs.declared.nodes.NodeRef.{NodeRef}
use Rattle.node_graph.specs.Graph.{Kept, StandsFor, holds_at, number_of}
use Rattle.node_graph.specs.Tree.{after, bare_tree}
use Rattle.conn_rules.specs.Births.{Position, fresh}
use Rattle.vfs_journal.specs.History.{changed, is_watcher, tree_at}
use Rattle.vfs_journal.specs.Outcomes.{Outcome}
use Rattle.vfs_journal.specs.Starts.{Bound}
use Rattle.vfs_journal.specs.View.{View, at_in, moved}
use Rattle.journal_laws.proofs.Lists.{pairs-head, pairs-tail, eqb_sym}
use Rattle.vfs_server.specs.Binding.{watching_behind}
use Rattle.vfs_server.specs.Holding.{HoldsAt, bound_to, if_at, living_at, named_by, named_in}
use Rattle.vfs_server.specs.Servers.{Server, in_use, named, seen}
use Rattle.vfs_world.proofs.Between.{answered_in, bound_in}

abbrev pub Living : Type 0
Living = List (Bound × Position)

abbrev pub bounds : Living → List Bound
bounds living = map (λ pair. pair.0) living

abbrev pub one_if : Bool → ℕ
one_if true = 1
one_if false = 0

pub counted_by : (p : Bound → Bool) (x : Bound) (b : Bool) → p x ≡ b → count_by p (x ∷ []) ≡ one_if b
counted_by p x true e = ap (λ (n : ℕ). n) (grind (arith, common_steps))
counted_by p x false e = ap (λ (n : ℕ). n) (grind (arith, common_steps))

pub count_append : (p : Bound → Bool) (xs ys : List Bound) → count_by p (xs ++ ys) ≡ count_by p xs + count_by p ys
count_append p xs ys =
    sym (length-filter p (xs ++ ys))
    ∙ ap length (filter-append p xs ys)
    ∙ length-append (filter p xs) (filter p ys)
    ∙ ap (λ (n : ℕ). n + length (filter p ys)) (length-filter p xs)
    ∙ ap (λ (n : ℕ). count_by p xs + n) (length-filter p ys)

counted : (p : Bound → Bool) (xs : List Bound) (x : Bound) → count_by p (xs ++ x ∷ []) ≡ count_by p xs + one_if (p x)
counted p xs x = let a : count_by p (xs ++ x ∷ []) ≡ count_by p xs + count_by p (x ∷ []) = count_append p xs (x ∷ []) in let b = counted_by p x (p x) refl in omega arith

-- ---- by the server's index

-- the same as HoldsAt, with the index written out
pub record HoldsNumber (view : View) (index : ℕ) (server : Server) : Type 0 where
  pub bound : (endpoint : ℕ) → seen server endpoint ≡ if_at index (at_in view endpoint)
  pub count : in_use server ≡ length (living_at view index)
  pub watchers : server.watchers ≡ filter (λ bound. is_watcher bound.birth.protocol) (living_at view index)
  pub tokens : (token : ℕ) → named server token ≡ named_in view index token
  pub tree : StandsFor server.graph (tree_at view.trees index)
  pub holds : (number : ℕ) → holds_at server.graph number ≡ bound_to view index number + named_by view index number

pub by_number : (view : View) (server : Server) (index : ℕ) → server.index ≡ index → HoldsAt view server → HoldsNumber view index server
by_number view server index e h =
    subst (λ (n : ℕ). HoldsNumber view n server) e (record { bound = h.bound; count = h.count; watchers = h.watchers; tokens = h.tokens; tree = h.tree; holds = h.holds })

pub by_index : (view : View) (server : Server) (index : ℕ) → server.index ≡ index → HoldsNumber view index server → HoldsAt view server
by_index view server index e h =
    let same : HoldsNumber view server.index server = subst (λ (n : ℕ). HoldsNumber view n server) (sym e) h in
    record { bound = same.bound; count = same.count; watchers = same.watchers; tokens = same.tokens; tree = same.tree; holds = same.holds }

-- ---- what is looked up of a server, but for its tree

pub record Looks : Type 0 where
  pub bound : ℕ → Option (Bound × Position)
  pub count : ℕ
  pub watchers : List Bound
  pub tokens : ℕ → Option ℕ
  pub holds : ℕ → ℕ

abbrev pub looks_of : Server → Looks
looks_of server = record { bound = seen server; count = in_use server; watchers = server.watchers; tokens = named server; holds = holds_at server.graph }

-- it is what a view says
pub record HoldsLooks (view : View) (index : ℕ) (looks : Looks) : Type 0 where
  pub bound : (endpoint : ℕ) → looks.bound endpoint ≡ if_at index (at_in view endpoint)
  pub count : looks.count ≡ length (living_at view index)
  pub watchers : looks.watchers ≡ filter (λ bound. is_watcher bound.birth.protocol) (living_at view index)
  pub tokens : (token : ℕ) → looks.tokens token ≡ named_in view index token
  pub holds : (number : ℕ) → looks.holds number ≡ bound_to view index number + named_by view index number

pub looked : (view : View) (index : ℕ) (server : Server) → HoldsNumber view index server → HoldsLooks view index (looks_of server)
looked view index server h = record { bound = h.bound; count = h.count; watchers = h.watchers; tokens = h.tokens; holds = h.holds }

-- the same tokens name the same directories
pub same_named : (one now : Server) → now.tokens ≡ one.tokens → (token : ℕ) → named now token ≡ named one token
same_named one now e token = ap (λ (m : finite.FinMap nat_cmp NodeRef). option_map number_of (finite.get m token)) e

-- ---- positions that move

moved_name : (k : ℕ) (at : Position) (pair : Bound × Position) → (moved k at pair).0 ≡ pair.0
moved_name k at pair = by_test (pair.0.endpoint == k) where
  by_test : (b : Bool) → (if b then (let one : Bound × Position = (pair.0, at) in one) else pair).0 ≡ pair.0
  by_test true = refl
  by_test false = refl

pub moved_bounds : (k : ℕ) (at : Position) (living : Living) → bounds (map (moved k at) living) ≡ bounds living
moved_bounds k at [] = refl
moved_bounds k at (pair ∷ living) =
    ap (λ (b : Bound). b ∷ bounds (map (moved k at) living)) (moved_name k at pair) ∙ ap (λ (bs : List Bound). pair.0 ∷ bs) (moved_bounds k at living)

moved_found_by : (k : ℕ) (at : Position) (n : ℕ) (pair : Bound × Position) (living : Living) → (b : Bool) → (pair.0.endpoint == n) ≡ b →
    find (λ p. p.0.endpoint == n) (map (moved k at) living) ≡ option_map (moved k at) (find (λ p. p.0.endpoint == n) living) →
    cond b (Some (moved k at pair)) (find (λ p. p.0.endpoint == n) (map (moved k at) living)) ≡ option_map (moved k at) (cond b (Some pair) (find (λ p. p.0.endpoint == n) living))
moved_found_by k at n pair living true e rest = refl
moved_found_by k at n pair living false e rest = rest

pub moved_found : (k : ℕ) (at : Position) (n : ℕ) (living : Living) → find (λ p. p.0.endpoint == n) (map (moved k at) living) ≡ option_map (moved k at) (find (λ p. p.0.endpoint == n) living)
moved_found k at n [] = refl
moved_found k at n (pair ∷ living) =
    ap (λ (b : Bound). cond (b.endpoint == n) (Some (moved k at pair)) (find (λ p. p.0.endpoint == n) (map (moved k at) living))) (moved_name k at pair)
    ∙ moved_found_by k at n pair living (pair.0.endpoint == n) refl (moved_found k at n living)

if_at_moved : (k : ℕ) (at : Position) (index : ℕ) (o : Option (Bound × Position)) → if_at index (option_map (moved k at) o) ≡ option_map (moved k at) (if_at index o)
if_at_moved k at index None = refl
if_at_moved k at index (Some pair) =
    ap (λ (b : Bound). if b.server == index then Some (moved k at pair) else None) (moved_name k at pair) ∙ by_test (pair.0.server == index) where
      by_test : (b : Bool) → (if b then Some (moved k at pair) else None) ≡ option_map (moved k at) (if b then Some pair else None)
      by_test true = refl
      by_test false = refl

-- ---- what is found

pub found_name : (n : ℕ) (living : Living) (pair : Bound × Position) → find (λ p. p.0.endpoint == n) living ≡ Some pair → pair.0.endpoint ≡ n
found_name n [] pair h = absurd (cc)
found_name n (one ∷ living) pair h = by_test (one.0.endpoint == n) refl h (found_name n living pair) where
  by_test : (b : Bool) → (one.0.endpoint == n) ≡ b → cond b (Some one) (find (λ p. p.0.endpoint == n) living) ≡ Some pair → (find (λ p. p.0.endpoint == n) living ≡ Some pair → pair.0.endpoint ≡ n) → pair.0.endpoint ≡ n
  by_test true e g rest = let same : one ≡ pair = same_Some one pair g in ap (λ (p : Bound × Position). p.0.endpoint) (sym same) ∙ eqb-true one.0.endpoint n e
  by_test false e g rest = rest g

-- ---- an endpoint was served

-- at the server at which it is bound
abbrev pub looks_answered : ℕ → Position → Looks → Looks
looks_answered k at looks = record looks { bound = λ n. option_map (moved k at) (looks.bound n) }

pub answered_here : (view : View) (looks : Looks) (index k : ℕ) (outcome : Outcome) → HoldsLooks view index looks → HoldsLooks (answered_in view k outcome) index (looks_answered k outcome.position looks)
answered_here view looks index k outcome h =
    let same = moved_bounds k outcome.position view.living in
    record {
      bound = λ n. ap (option_map (moved k outcome.position)) (h.bound n) ∙ sym (if_at_moved k outcome.position index (at_in view n)) ∙ ap (if_at index) (sym (moved_found k outcome.position n view.living));
      count = h.count ∙ ap (λ (bs : List Bound). length (filter (λ b. b.server == index) bs)) (sym same);
      watchers = h.watchers ∙ ap (λ (bs : List Bound). filter (λ b. is_watcher b.birth.protocol) (filter (λ b. b.server == index) bs)) (sym same);
      tokens = h.tokens;
      holds = λ number. h.holds number ∙ ap (λ (bs : List Bound). count_by (λ b. b.birth.node == number) (filter (λ b. b.server == index) bs) + named_by view index number) (sym same);
    }

-- its tree has the change
pub changed_here : (view : View) (graph : Kept) (index : ℕ) (outcome : Outcome) → outcome.server ≡ index → index < length view.trees → StandsFor graph (after (tree_at view.trees index) outcome.change) →
    StandsFor graph (tree_at (changed view.trees outcome.server outcome.change) index)
changed_here view graph index outcome at within grown =
    subst (StandsFor graph)
    (sym (ap (λ (n : ℕ). tree_at (changed view.trees n outcome.change) index) at ∙ get_or-set_same view.trees index (after (tree_at view.trees index) outcome.change) bare_tree within)) grown

-- and at any other
pub answered_there : (view : View) (one : Server) (index : ℕ) (k : ℕ) (pair : Bound × Position) (outcome : Outcome) → HoldsNumber view index one → at_in view k ≡ Some pair → pair.0.server ≢ index → outcome.server ≢ index →
    HoldsNumber (answered_in view k outcome) index one
answered_there view one index k pair outcome h found apart else_where =
    let same = moved_bounds k outcome.position view.living in
    record {
      bound = λ n. h.bound n ∙ unmoved n (at_in view n) refl ∙ sym (if_at_moved k outcome.position index (at_in view n)) ∙ ap (if_at index) (sym (moved_found k outcome.position n view.living));
      count = h.count ∙ ap (λ (bs : List Bound). length (filter (λ b. b.server == index) bs)) (sym same);
      watchers = h.watchers ∙ ap (λ (bs : List Bound). filter (λ b. is_watcher b.birth.protocol) (filter (λ b. b.server == index) bs)) (sym same);
      tokens = h.tokens;
      tree = subst (StandsFor one.graph) (sym (get_or-set_other view.trees outcome.server index (after (tree_at view.trees outcome.server) outcome.change) bare_tree (λ e. else_where (sym e)))) h.tree;
      holds = λ number. h.holds number ∙ ap (λ (bs : List Bound). count_by (λ b. b.birth.node == number) (filter (λ b. b.server == index) bs) + named_by view index number) (sym same);
    } where
      unmoved : (n : ℕ) (o : Option (Bound × Position)) → at_in view n ≡ o → if_at index o ≡ option_map (moved k outcome.position) (if_at index o)
      unmoved n None e = refl
      unmoved n (Some other) e = by_test (other.0.server == index) refl where
        stays : (c : Bool) → (other.0.endpoint == k) ≡ c → (other.0.server == index) ≡ true → (if c then (let p : Bound × Position = (other.0, outcome.position) in p) else other) ≡ other
        stays false g f = refl
        stays true g f =
            let name : other.0.endpoint ≡ n = found_name n view.living other e in
            let also : other ≡ pair = same_Some other pair (sym e ∙ ap (at_in view) (sym name ∙ eqb-true other.0.endpoint k g) ∙ found) in
            absurd (apart (ap (λ (p : Bound × Position). p.0.server) (sym also) ∙ eqb-true other.0.server index f))

        by_test : (b : Bool) → (other.0.server == index) ≡ b → (if b then Some other else None) ≡ option_map (moved k outcome.position) (if b then Some other else None)
        by_test false f = refl
        by_test true f = ap (λ (p : Bound × Position). Some p) (sym (stays (other.0.endpoint == k) refl f))

-- ---- an endpoint is bound

living_more : (view : View) (b : Bound) (index : ℕ) → living_at (bound_in view (Some b)) index ≡ living_at view index ++ (if b.server == index then b ∷ [] else [])
living_more view b index =
    ap (filter (λ (x : Bound). x.server == index)) (map-append (λ (pair : Bound × Position). pair.0) view.living ((b, fresh) ∷ []))
    ∙ filter-append (λ (x : Bound). x.server == index) (bounds view.living) (b ∷ [])

at_more : (view : View) (b : Bound) (n : ℕ) → at_in (bound_in view (Some b)) n ≡ option_or (at_in view n) (cond (b.endpoint == n) (Some (b, fresh)) None)
at_more view b n = find-append (λ (pair : Bound × Position). pair.0.endpoint == n) view.living ((b, fresh) ∷ [])

or_none : (o : Option (Bound × Position)) → option_or o None ≡ o
or_none None = refl
or_none (Some x) = refl

abbrev pub looks_bound : Option Bound → Looks → Looks
looks_bound None looks = looks
looks_bound (Some b) looks =
    record looks {
      bound = λ n. if n == b.endpoint then Some (b, fresh) else looks.bound n;
      count = looks.count + 1;
      watchers = watching_behind looks.watchers b;
      holds = λ number. looks.holds number + one_if (b.birth.node == number);
    }

one_bound : (view : View) (looks : Looks) (index : ℕ) (b : Bound) → HoldsLooks view index looks → b.server ≡ index → at_in view b.endpoint ≡ None → HoldsLooks (bound_in view (Some b)) index (looks_bound (Some b) looks)
one_bound view looks index b h at free =
    let here : (b.server == index) ≡ true = eq-eqb b.server index at in
    let one_more : living_at (bound_in view (Some b)) index ≡ living_at view index ++ b ∷ [] = living_more view b index ∙ ap (λ (t : Bool). living_at view index ++ (if t then b ∷ [] else [])) here in
    record {
      bound = λ n. by_test n (n == b.endpoint) refl ∙ sym (ap (if_at index) (at_more view b n));
      count = let c = h.count in let l = ap length one_more in let m = length-append (living_at view index) (b ∷ []) in omega (arith, c, l, m);
      -- a watcher is the newest of those who live
      watchers =
          ap (λ (ws : List Bound). watching_behind ws b) h.watchers
          ∙ sym (ap (filter (λ (x : Bound). is_watcher x.birth.protocol)) one_more
          ∙ filter-append (λ (x : Bound). is_watcher x.birth.protocol) (living_at view index) (b ∷ []));
      tokens = h.tokens;
      holds = λ number.
          let c = h.holds number in
          let l : bound_to (bound_in view (Some b)) index number ≡ bound_to view index number + one_if (b.birth.node == number) =
          ap (count_by (λ (x : Bound). x.birth.node == number)) one_more ∙ counted (λ (x : Bound). x.birth.node == number) (living_at view index) b in
          omega (arith, c, l);
    } where
      by_test : (n : ℕ) (t : Bool) → (n == b.endpoint) ≡ t → (if t then Some (b, fresh) else looks.bound n) ≡ if_at index (option_or (at_in view n) (cond (b.endpoint == n) (Some (b, fresh)) None))
      by_test n true e =
          let same : n ≡ b.endpoint = eqb-true n b.endpoint e in
          let none : at_in view n ≡ None = ap (at_in view) same ∙ free in
          sym (ap (λ (o : Option (Bound × Position)). if_at index (option_or o (cond (b.endpoint == n) (Some (b, fresh)) None))) none
          ∙ ap (λ (t : Bool). if_at index (cond t (Some (b, fresh)) None)) (eq-eqb b.endpoint n (sym same))
          ∙ ap (λ (t : Bool). if t then (let o : Option (Bound × Position) = Some (b, fresh) in o) else None) (eq-eqb b.server index at))
      by_test n false e =
          h.bound n
          ∙ sym (ap (λ (t : Bool). if_at index (option_or (at_in view n) (cond t (Some (b, fresh)) None))) (eqb_sym b.endpoint n ∙ e)
          ∙ ap (if_at index) (or_none (at_in view n)))

pub bound_here : (view : View) (looks : Looks) (index : ℕ) (o : Option Bound) → HoldsLooks view index looks → ((b : Bound) → o ≡ Some b → b.server ≡ index) → ((b : Bound) → o ≡ Some b → at_in view b.endpoint ≡ None) →
    HoldsLooks (bound_in view o) index (looks_bound o looks)
bound_here view looks index None h at free = subst (λ (l : Living). HoldsLooks (record view { living = l }) index looks) (sym (append-nil view.living)) h
bound_here view looks index (Some b) h at free = one_bound view looks index b h (at b refl) (free b refl)

-- and at any other server
some_there : (view : View) (one : Server) (index : ℕ) (b : Bound) → HoldsNumber view index one → b.server ≢ index → HoldsNumber (bound_in view (Some b)) index one
some_there view one index b h apart =
    let away : (b.server == index) ≡ false = ne_eqb b.server index apart in
    let none_more : living_at (bound_in view (Some b)) index ≡ living_at view index =
    living_more view b index ∙ ap (λ (t : Bool). living_at view index ++ (if t then b ∷ [] else [])) away ∙ append-nil (living_at view index) in
    record {
      bound = λ n. h.bound n ∙ by_found n (at_in view n) (b.endpoint == n) ∙ sym (ap (if_at index) (at_more view b n));
      count = h.count ∙ ap length (sym none_more);
      watchers = h.watchers ∙ ap (filter (λ (x : Bound). is_watcher x.birth.protocol)) (sym none_more);
      tokens = h.tokens;
      tree = h.tree;
      holds = λ number. h.holds number ∙ ap (λ (bs : List Bound). count_by (λ (x : Bound). x.birth.node == number) bs + named_by view index number) (sym none_more);
    } where
      by_found : (n : ℕ) (o : Option (Bound × Position)) (t : Bool) → if_at index o ≡ if_at index (option_or o (cond t (Some (b, fresh)) None))
      by_found n (Some pair) t = refl
      by_found n None false = refl
      by_found n None true = sym (ap (λ (t : Bool). if t then (let o : Option (Bound × Position) = Some (b, fresh) in o) else None) (ne_eqb b.server index apart))

pub bound_there : (view : View) (one : Server) (index : ℕ) (o : Option Bound) → HoldsNumber view index one → ((b : Bound) → o ≡ Some b → b.server ≢ index) → HoldsNumber (bound_in view o) index one
bound_there view one index None h apart = subst (λ (l : Living). HoldsNumber (record view { living = l }) index one) (sym (append-nil view.living)) h
bound_there view one index (Some b) h apart = some_there view one index b h (apart b refl)

-- ---- an endpoint is let go

abbrev pub Apart : Living → Type 0
Apart living = AllPairs (λ one other. one.0.endpoint ≢ other.0.endpoint) living

-- without one endpoint
abbrev pub without_one : View → ℕ → View
without_one view d = record view { living = filter (λ pair. not (pair.0.endpoint == d)) view.living }

abbrev pub others : ℕ → Living → Living
others d living = filter (λ pair. not (pair.0.endpoint == d)) living

-- where none is that one, all stay
all_others : (d : ℕ) (living : Living) → All (λ pair. d ≢ pair.0.endpoint) living → others d living ≡ living
all_others d [] all = refl
all_others d (pair ∷ living) all =
    ap (λ (t : Bool). cond (not t) (pair ∷ others d living) (others d living)) (ne_eqb pair.0.endpoint d (λ e. All-head (λ p. d ≢ p.0.endpoint) pair living all (sym e)))
    ∙ ap (λ (l : Living). pair ∷ l) (all_others d living (All-tail (λ p. d ≢ p.0.endpoint) pair living all))

others_behind : (d : ℕ) (pair : Bound × Position) (living : Living) → pair.0.endpoint ≡ d → Apart (pair ∷ living) → others d living ≡ living
others_behind d pair living e apart =
    all_others d living (subst (λ (n : ℕ). All (λ (p : Bound × Position). n ≢ p.0.endpoint) living) e (pairs-head (λ one other. one.0.endpoint ≢ other.0.endpoint) pair living apart))

-- what else is found
pub found_others : (d n : ℕ) (living : Living) → find (λ p. p.0.endpoint == n) (others d living) ≡ (if n == d then None else find (λ p. p.0.endpoint == n) living)
found_others d n [] = by_test (n == d) where
  by_test : (t : Bool) → (let o : Option (Bound × Position) = None in o) ≡ (if t then None else None)
  by_test true = refl
  by_test false = refl
found_others d n (pair ∷ living) = by_tests (pair.0.endpoint == d) (pair.0.endpoint == n) (n == d) refl refl refl (found_others d n living) where
  by_tests : (a b c : Bool) → (pair.0.endpoint == d) ≡ a → (pair.0.endpoint == n) ≡ b → (n == d) ≡ c →
      find (λ p. p.0.endpoint == n) (others d living) ≡ (if c then None else find (λ p. p.0.endpoint == n) living) →
      find (λ p. p.0.endpoint == n) (cond (not a) (pair ∷ others d living) (others d living)) ≡ (if c then None else cond b (Some pair) (find (λ p. p.0.endpoint == n) living))
  by_tests true true true e f g rest = rest
  by_tests true true false e f g rest = absurd (true≢false (sym (eq-eqb n d (sym (eqb-true pair.0.endpoint n f) ∙ eqb-true pair.0.endpoint d e)) ∙ g))
  by_tests true false true e f g rest = rest
  by_tests true false false e f g rest = rest
  by_tests false true true e f g rest = absurd (true≢false (sym (eq-eqb pair.0.endpoint d (eqb-true pair.0.endpoint n f ∙ eqb-true n d g)) ∙ e))
  by_tests false true false e f g rest = ap (λ (t : Bool). cond t (Some pair) (find (λ p. p.0.endpoint == n) (others d living))) f
  by_tests false false true e f g rest = ap (λ (t : Bool). cond t (Some pair) (find (λ p. p.0.endpoint == n) (others d living))) f ∙ rest
  by_tests false false false e f g rest = ap (λ (t : Bool). cond t (Some pair) (find (λ p. p.0.endpoint == n) (others d living))) f ∙ rest

-- how many pass a test, without the one that is found
pub count_without : (p : Bound → Bool) (d : ℕ) (living : Living) → Apart living →
    count_by p (bounds (others d living)) + option_map_or (λ (pair : Bound × Position). one_if (p pair.0)) (find (λ pair. pair.0.endpoint == d) living) 0 ≡ count_by p (bounds living)
count_without p d [] apart = refl
count_without p d (pair ∷ living) apart = by_tests (pair.0.endpoint == d) refl (count_without p d living (pairs-tail (λ one other. one.0.endpoint ≢ other.0.endpoint) pair living apart)) where
  front : (l : Living) → count_by p (bounds (pair ∷ l)) ≡ one_if (p pair.0) + count_by p (bounds l)
  front l = let a = count_append p (pair.0 ∷ []) (bounds l) in let b = counted_by p pair.0 (p pair.0) refl in omega arith

  by_tests : (a : Bool) → (pair.0.endpoint == d) ≡ a →
      count_by p (bounds (others d living)) + option_map_or (λ (pair : Bound × Position). one_if (p pair.0)) (find (λ pair. pair.0.endpoint == d) living) 0 ≡ count_by p (bounds living) →
      count_by p (bounds (cond (not a) (pair ∷ others d living) (others d living))) + option_map_or (λ (one : Bound × Position). one_if (p one.0)) (cond a (Some pair) (find (λ pair. pair.0.endpoint == d) living)) 0
      ≡ count_by p (bounds (pair ∷ living))
  by_tests true e rest =
      let same : count_by p (bounds (others d living)) ≡ count_by p (bounds living) = ap (λ (l : Living). count_by p (bounds l)) (others_behind d pair living (eqb-true pair.0.endpoint d e) apart) in
      let f = front living in
      omega arith
  by_tests false e rest =
      let f = front living in
      let g = front (others d living) in
      omega arith

-- what passes a test that the one that is found doesn't
pub passes_without : (p : Bound → Bool) (d : ℕ) (living : Living) → Apart living → ((pair : Bound × Position) → find (λ one. one.0.endpoint == d) living ≡ Some pair → p pair.0 ≡ false) →
    filter p (bounds (others d living)) ≡ filter p (bounds living)
passes_without p d [] apart fails = refl
passes_without p d (pair ∷ living) apart fails =
    by_tests (pair.0.endpoint == d) refl fails (passes_without p d living (pairs-tail (λ one other. one.0.endpoint ≢ other.0.endpoint) pair living apart)) where
      by_tests : (a : Bool) → (pair.0.endpoint == d) ≡ a → ((one : Bound × Position) → cond a (Some pair) (find (λ one. one.0.endpoint == d) living) ≡ Some one → p one.0 ≡ false) →
          (((one : Bound × Position) → find (λ one. one.0.endpoint == d) living ≡ Some one → p one.0 ≡ false) → filter p (bounds (others d living)) ≡ filter p (bounds living)) →
          filter p (bounds (cond (not a) (pair ∷ others d living) (others d living))) ≡ filter p (bounds (pair ∷ living))
      by_tests true e f rest =
          ap (λ (l : Living). filter p (bounds l)) (others_behind d pair living (eqb-true pair.0.endpoint d e) apart)
          ∙ sym (ap (λ (t : Bool). cond t (pair.0 ∷ filter p (bounds living)) (filter p (bounds living))) (f pair refl))
      by_tests false e f rest = ap (λ (bs : List Bound). cond (p pair.0) (pair.0 ∷ bs) bs) (rest f)

-- ---- filters of bounds

filter_cond : (p : Bound → Bool) (x : Bound) (c : Bool) (r : List Bound) → filter p (cond c (x ∷ r) r) ≡ cond c (cond (p x) (x ∷ filter p r) (filter p r)) (filter p r)
filter_cond p x true r = refl
filter_cond p x false r = refl

swapped : (b c : Bool) (x : Bound) (r s : List Bound) → r ≡ s → cond c (cond b (x ∷ r) r) r ≡ cond b (cond c (x ∷ s) s) s
swapped true true x r s e = ap (λ (bs : List Bound). x ∷ bs) e
swapped true false x r s e = e
swapped false true x r s e = e
swapped false false x r s e = e

pub filter_swap : (p q : Bound → Bool) (xs : List Bound) → filter p (filter q xs) ≡ filter q (filter p xs)
filter_swap p q [] = refl
filter_swap p q (x ∷ xs) =
    filter_cond p x (q x) (filter q xs) ∙ swapped (p x) (q x) x (filter p (filter q xs)) (filter q (filter p xs)) (filter_swap p q xs) ∙ sym (filter_cond q x (p x) (filter p xs))

bounds_cond : (q : Bound → Bool) (pair : Bound × Position) (c : Bool) (l : Living) (bs : List Bound) → bounds l ≡ bs → bounds (cond c (pair ∷ l) l) ≡ cond c (pair.0 ∷ bs) bs
bounds_cond q pair true l bs e = ap (λ (xs : List Bound). pair.0 ∷ xs) e
bounds_cond q pair false l bs e = e

pub bounds_filter : (q : Bound → Bool) (living : Living) → bounds (filter (λ pair. q pair.0) living) ≡ filter q (bounds living)
bounds_filter q [] = refl
bounds_filter q (pair ∷ living) = bounds_cond q pair (q pair.0) (filter (λ one. q one.0) living) (filter q (bounds living)) (bounds_filter q living)

both_count : (p q : Bound → Bool) (x : Bound) (a b : Bool) (m n : ℕ) (xs : List Bound) → p x ≡ a → q x ≡ b → count_by p xs ≡ m → m ≡ n → count_by p (cond b (x ∷ xs) xs) ≡ one_if (b && a) + n
both_count p q x true true m n xs e f g h = let c = count_append p (x ∷ []) xs in let d = counted_by p x true e in omega arith
both_count p q x false true m n xs e f g h = let c = count_append p (x ∷ []) xs in let d = counted_by p x false e in omega arith
both_count p q x a false m n xs e f g h = omega arith

pub count_filter : (p q : Bound → Bool) (xs : List Bound) → count_by p (filter q xs) ≡ count_by (λ x. q x && p x) xs
count_filter p q [] = refl
count_filter p q (x ∷ xs) =
    both_count p q x (p x) (q x) (count_by p (filter q xs)) (count_by (λ y. q y && p y) xs) (filter q xs) refl refl refl (count_filter p q xs)
    ∙ sym (let c = count_append (λ y. q y && p y) (x ∷ []) xs in let d = counted_by (λ y. q y && p y) x (q x && p x) refl in omega arith)
