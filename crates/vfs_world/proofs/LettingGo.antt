-- What a server holds behind deaths.
use Rattle.std.proofs.Common.{◌≡◌, ◌≢◌, ℕ, ◌+◌, ◌-◌, ◌<◌, ◌≤◌, ◌==◌, ◌&&◌, ◌||◌, Bool, true, false, not, cond, if◌then◌else◌, List, [], ◌∷◌, ◌++◌, length, filter, count_by, take, Option, Some, None, get_or, refl, sym, ap, ◌∙◌, subst, arith}
use Rattle.std.specs.Prelude.{slice_get}
use Rattle.std.specs.Option.{option_map_or}
use Rattle.std.proofs.lemmas.Bool.{eqb-true, eq-eqb, ne_eqb, true≢false}
use Rattle.std.proofs.lemmas.Bool.Decides.{nat_tests}
use Rattle.std.proofs.lemmas.List.{take_all, take_more}
use Rattle.std.proofs.lemmas.List.Kept.{AllPairs-filter}
use Rattle.std.proofs.lemmas.List.Sums.{length-filter}
use Rattle.std.proofs.lemmas.Option.{none-some, same_Some}
use Rattle.link_admission.specs.Numbering.{among}
use Rattle.node_graph.specs.Graph.{holds_at}
use Rattle.conn_rules.specs.Births.{Position}
use Rattle.vfs_journal.specs.History.{is_watcher, tree_at}
use Rattle.vfs_journal.specs.Starts.{Bound}
use Rattle.vfs_journal.specs.View.{View, at_in}
use Rattle.journal_laws.proofs.Lists.{filter-filter}
use Rattle.journal_laws.proofs.Spreading.{among-append}
use Rattle.vfs_server.specs.Binding.{Unbinds}
use Rattle.vfs_server.specs.Holding.{HoldsAt, bound_to, if_at, living_at, named_by}
use Rattle.vfs_server.specs.Servers.{Server, seen}
use Rattle.vfs_world.specs.Holding.{HoldsEach}
use Rattle.vfs_world.specs.ServingSteps.{without_in}
use Rattle.vfs_world.proofs.ServerSteps.{Apart, HoldsNumber, by_index, by_number, Living, bounds, bounds_filter, count_filter, count_without, filter_swap, found_others, one_if, others, passes_without, same_named, without_one}

-- ---- one endpoint

if_at_none : (index : ℕ) (t : Bool) (o : Option (Bound × Position)) → (if t then None else if_at index o) ≡ if_at index (if t then None else o)
if_at_none index true o = refl
if_at_none index false o = refl

-- who is found here is at this server
at_here : (index : ℕ) (o : Option (Bound × Position)) (pair : Bound × Position) → if_at index o ≡ Some pair → (o ≡ Some pair) × (pair.0.server ≡ index)
at_here index None pair e = absurd (cc)
at_here index (Some one) pair e = by_test (one.0.server == index) refl e where
  by_test : (t : Bool) → (one.0.server == index) ≡ t → (if t then Some one else None) ≡ Some pair → (Some one ≡ Some pair) × (pair.0.server ≡ index)
  by_test true f g = (g, ap (λ (p : Bound × Position). p.0.server) (sym (same_Some one pair g)) ∙ eqb-true one.0.server index f)
  by_test false f g = absurd (cc)

-- and who isn't seen here is elsewhere
away : (index : ℕ) (o : Option (Bound × Position)) (pair : Bound × Position) → if_at index o ≡ None → o ≡ Some pair → (pair.0.server == index) ≡ false
away index None pair e f = absurd (cc)
away index (Some one) pair e f = by_test (one.0.server == index) refl e where
  same : one ≡ pair
  same = same_Some one pair f

  by_test : (t : Bool) → (one.0.server == index) ≡ t → (if t then Some one else None) ≡ None → (pair.0.server == index) ≡ false
  by_test true g h = absurd (none-some one (sym h))
  by_test false g h = ap (λ (p : Bound × Position). p.0.server == index) (sym same) ∙ g

pub unbound_here : (view : View) (one now : Server) (index d : ℕ) (pair : Bound × Position) → Apart view.living → HoldsNumber view index one → seen one d ≡ Some pair → Unbinds one d now → HoldsNumber (without_one view d) index now
unbound_here view one now index d pair apart h there s =
    let found = at_here index (at_in view d) pair (sym (h.bound d) ∙ there) in
    let at = λ (b : Bound). b.server == index in
    let here : at pair.0 ≡ true = eq-eqb pair.0.server index found.1 in
    record {
      bound = λ n.
          s.bound n
          ∙ ap (λ (o : Option (Bound × Position)). if n == d then None else o) (h.bound n)
          ∙ if_at_none index (n == d) (at_in view n)
          ∙ ap (if_at index) (sym (found_others d n view.living));
      count =
          let c = s.count pair there in
          let k = h.count in
          let a = length-filter at (bounds (others d view.living)) in
          let b = length-filter at (bounds view.living) in
          let w = count_without at d view.living apart in
          let o : option_map_or (λ (one : Bound × Position). one_if (at one.0)) (at_in view d) 0 ≡ 1 =
          ap (λ (o : Option (Bound × Position)). option_map_or (λ (one : Bound × Position). one_if (at one.0)) o 0) found.0 ∙ ap one_if here in
          omega arith;
      watchers =
          s.watchers
          ∙ ap (filter (λ (b : Bound). not (b.endpoint == d))) h.watchers
          ∙ filter_swap (λ b. not (b.endpoint == d)) (λ b. is_watcher b.birth.protocol) (living_at view index)
          ∙ ap (filter (λ (b : Bound). is_watcher b.birth.protocol)) (filter_swap (λ b. not (b.endpoint == d)) at (bounds view.living))
          ∙ ap (λ (bs : List Bound). filter (λ (b : Bound). is_watcher b.birth.protocol) (filter at bs)) (sym (bounds_filter (λ b. not (b.endpoint == d)) view.living));
      tokens = λ token. same_named one now s.tokens token ∙ h.tokens token;
      tree = s.tree (tree_at view.trees index) h.tree;
      holds = λ number.
          let a = s.holds pair there number in
          let c = h.holds number in
          let both = λ (b : Bound). at b && (b.birth.node == number) in
          let w = count_without both d view.living apart in
          let p = count_filter (λ b. b.birth.node == number) at (bounds (others d view.living)) in
          let q = count_filter (λ b. b.birth.node == number) at (bounds view.living) in
          let o : option_map_or (λ (one : Bound × Position). one_if (both one.0)) (at_in view d) 0 ≡ one_if (pair.0.birth.node == number) =
          ap (λ (o : Option (Bound × Position)). option_map_or (λ (one : Bound × Position). one_if (both one.0)) o 0) found.0 ∙ ap (λ (t : Bool). one_if (t && (pair.0.birth.node == number))) here in
          a ∙ by_node number (number == pair.0.birth.node) refl (bound_to (without_one view d) index number) c (let e : bound_to (without_one view d) index number + one_if (pair.0.birth.node == number) ≡ bound_to view index number = omega arith in e);
    } where
      by_node : (number : ℕ) (t : Bool) → (number == pair.0.birth.node) ≡ t → (m : ℕ) → holds_at one.graph number ≡ bound_to view index number + named_by view index number →
          m + one_if (pair.0.birth.node == number) ≡ bound_to view index number → (if t then holds_at one.graph pair.0.birth.node - 1 else holds_at one.graph number) ≡ m + named_by view index number
      by_node number true e m c l =
          let same = eqb-true number pair.0.birth.node e in
          let at_node : holds_at one.graph pair.0.birth.node ≡ holds_at one.graph number = ap (holds_at one.graph) (sym same) in
          let test : one_if (pair.0.birth.node == number) ≡ 1 = ap one_if (eq-eqb pair.0.birth.node number (sym same)) in
          omega (arith, at_node, test, c, l)
      by_node number false e m c l =
          let test : one_if (pair.0.birth.node == number) ≡ 0 = ap one_if (ne_eqb pair.0.birth.node number (λ f. true≢false (sym (eq-eqb number pair.0.birth.node (sym f)) ∙ e))) in
          omega (arith, test, c, l)

-- an endpoint that isn't bound here
pub unbound_there : (view : View) (one : Server) (index d : ℕ) → Apart view.living → HoldsNumber view index one → seen one d ≡ None → HoldsNumber (without_one view d) index one
unbound_there view one index d apart h none =
    let same : living_at (without_one view d) index ≡ living_at view index =
    passes_without (λ b. b.server == index) d view.living apart (λ pair e. away index (at_in view d) pair (sym (h.bound d) ∙ none) e) in
    record {
      bound = λ n.
          by_test n (n == d) refl
          ∙ if_at_none index (n == d) (at_in view n)
          ∙ ap (if_at index) (sym (found_others d n view.living));
      count = h.count ∙ ap length (sym same);
      watchers = h.watchers ∙ ap (filter (λ (b : Bound). is_watcher b.birth.protocol)) (sym same);
      tokens = h.tokens;
      tree = h.tree;
      holds = λ number. h.holds number ∙ ap (λ (bs : List Bound). count_by (λ (b : Bound). b.birth.node == number) bs + named_by view index number) (sym same);
    } where
      by_test : (n : ℕ) (t : Bool) → (n == d) ≡ t → seen one n ≡ (if t then None else if_at index (at_in view n))
      by_test n true e = ap (seen one) (eqb-true n d e) ∙ none
      by_test n false e = h.bound n

-- and any endpoint
unbound : (view : View) (one now : Server) (index d : ℕ) → Apart view.living → HoldsNumber view index one → Unbinds one d now → HoldsNumber (without_one view d) index now
unbound view one now index d apart h s = by_seen (seen one d) refl where
  by_seen : (o : Option (Bound × Position)) → seen one d ≡ o → HoldsNumber (without_one view d) index now
  by_seen (Some pair) there = unbound_here view one now index d pair apart h there s
  by_seen None none = subst (HoldsNumber (without_one view d) index) (sym (s.idle none)) (unbound_there view one index d apart h none)

-- ---- many endpoints

pub filter_true : (l : Living) → filter (λ (_ : Bound × Position). true) l ≡ l
filter_true [] = refl
filter_true (pair ∷ l) = ap (λ (ps : Living). pair ∷ ps) (filter_true l)

pub none_without : (view : View) (one : Server) (index : ℕ) → HoldsNumber view index one → HoldsNumber (without_in view []) index one
none_without view one index h = subst (λ (l : Living). HoldsNumber (record view { living = l }) index one) (sym (filter_true view.living)) h

not_either : (a b : Bool) → not (a || b) ≡ (not a && not b)
not_either true b = refl
not_either false b = refl

or_false : (b : Bool) → (b || false) ≡ b
or_false true = refl
or_false false = refl

filter_same : (p q : Bound × Position → Bool) → ((x : Bound × Position) → p x ≡ q x) → (xs : Living) → filter p xs ≡ filter q xs
filter_same p q same [] = refl
filter_same p q same (x ∷ xs) = ap (λ (b : Bool). cond b (x ∷ filter p xs) (filter p xs)) (same x) ∙ ap (λ (l : Living). cond (q x) (x ∷ l) l) (filter_same p q same xs)

eqb_swap : (a b : ℕ) → (a == b) ≡ (b == a)
eqb_swap a b = grind (arith, nat_tests)

-- one more
pub without_more : (view : View) (dead : List ℕ) (d : ℕ) → without_one (without_in view dead) d ≡ without_in view (dead ++ d ∷ [])
without_more view dead d =
    ap (λ (l : Living). let v : View = record view { living = l } in v)
    (filter-filter (λ (pair : Bound × Position). not (pair.0.endpoint == d)) (λ pair. not (among pair.0.endpoint dead)) view.living
    ∙ filter_same (λ pair. not (among pair.0.endpoint dead) && not (pair.0.endpoint == d)) (λ pair. not (among pair.0.endpoint (dead ++ d ∷ [])))
    (λ pair.
    sym (ap not (among-append pair.0.endpoint dead (d ∷ []))
    ∙ ap (λ (b : Bool). not (among pair.0.endpoint dead || b)) (or_false (d == pair.0.endpoint) ∙ eqb_swap d pair.0.endpoint)
    ∙ not_either (among pair.0.endpoint dead) (pair.0.endpoint == d)))
    view.living)

pub apart_without : (view : View) (dead : List ℕ) → Apart view.living → Apart (without_in view dead).living
apart_without view dead apart = AllPairs-filter (λ (one other : Bound × Position). one.0.endpoint ≢ other.0.endpoint) (λ pair. not (among pair.0.endpoint dead)) view.living apart

-- ---- as the call tells it

pub go_first : (view : View) (one : Server) → HoldsAt view one → HoldsAt (without_in view []) one
go_first view one h = by_index (without_in view []) one one.index refl (none_without view one one.index (by_number view one one.index refl h))

same_next : (view : View) (dead : List ℕ) (i : ℕ) → i < length dead → without_one (without_in view (take i dead)) (get_or dead i 0) ≡ without_in view (take (i + 1) dead)
same_next view dead i within = without_more view (take i dead) (get_or dead i 0) ∙ ap (without_in view) (sym (take_more dead i 0 within))

pub go_on : (view : View) (one now : Server) (dead : List ℕ) (i : ℕ) → i < length dead → Apart view.living → Unbinds one (get_or dead i 0) now →
    HoldsAt (without_in view (take i dead)) one → HoldsAt (without_in view (take (i + 1) dead)) now
go_on view one now dead i within apart s h =
    let v = without_in view (take i dead) in
    subst (λ (w : View). HoldsAt w now) (same_next view dead i within)
    (by_index (without_one v (get_or dead i 0)) now one.index s.index
    (unbound v one now one.index (get_or dead i 0) (apart_without view (take i dead) apart) (by_number v one one.index refl h) s))

pub go_last : (view : View) (one : Server) (dead : List ℕ) (i : ℕ) → length dead ≤ i → HoldsAt (without_in view (take i dead)) one → HoldsAt (without_in view dead) one
go_last view one dead i over h = subst (λ (ds : List ℕ). HoldsAt (without_in view ds) one) (take_all i dead over) h

-- ---- an endpoint that is bound nowhere

stays : (view : View) (one : Server) (d : ℕ) → Apart view.living → seen one d ≡ None → HoldsAt view one → HoldsAt (without_in view (d ∷ [])) one
stays view one d apart none h =
    let v = without_in view [] in
    subst (λ (w : View). HoldsAt w one) (without_more view [] d)
    (by_index (without_one v d) one one.index refl (unbound_there v one one.index d (apart_without view [] apart) (by_number v one one.index refl (go_first view one h)) none))

pub all_stay : (view : View) (servers : List Server) (d : ℕ) → Apart view.living → ((index : ℕ) (one : Server) → slice_get servers index ≡ Some one → seen one d ≡ None) → HoldsEach view servers → HoldsEach (without_in view (d ∷ [])) servers
all_stay view servers d apart nowhere h = record {
  many = h.many;
  index = h.index;
  each = λ index one e. stays view one d apart (nowhere index one e) (h.each index one e);
}
