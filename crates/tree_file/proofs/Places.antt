-- The look-up of what stands at a path, and lists tried item by item.
use Rattle.std.proofs.Common.{◌≡◌, ℕ, zero, suc, ◌+◌, ◌<◌, ◌≤◌, Bool, true, false, ◌&&◌, ◌==◌, cond, List, [], ◌∷◌, ◌++◌, length, map, get_or, take, drop, Option, Some, None, Result, Ok, Err, IfOk, refl, ap, ◌∙◌, sym, arith, Bor}
use Rattle.std.proofs.lemmas.List.{drop_more, drop_all, take_more, length-take-le, get_or_default}
use Rattle.std.proofs.lemmas.Map.Text.{is_eq-slice_cmp}
use Rattle.std.proofs.lemmas.Slice.Eq.{bytes_eq-Decides}
use Rattle.std.specs.BTreeMap.{BTreeMap, get, is_at}
use Rattle.std.specs.Cmp.{unsigned_tied, unsigned_Decides}
use Rattle.std.specs.Cmp.Lexicographic.{slice_cmp}
use Rattle.std.specs.Option.{option_or, is_none}
use Rattle.std.specs.Ordering.{nat_cmp, is_eq, ordering_then}
use Rattle.std.specs.Str.{bytes_eq}
use Rattle.std.specs.declared.cmp.Ordering.{Ordering}
use Rattle.std.specs.declared.cmp.Ordering.TheVariants.{Less, Equal, Greater}
use Rattle.node_graph.specs.Refusals as graph
use Rattle.node_graph.specs.declared.nodes.NodeKind.{NodeKind}
use Rattle.node_graph.specs.declared.nodes.NodeKind.TheVariants.{Directory, File, Service, Mount}
use Rattle.session_start.specs.RulesOnLists.{Place, is_at_place, found_among, first_failing, is_directory, fits_in}
use Rattle.tree_file.specs.declared.faults.TreeFault.{TreeFault}
use Rattle.tree_file.specs.declared.faults.TreeFault.TheVariants.{Rule}
use Rattle.tree_file.specs.Faults.{Breaks}
use Rattle.tree_file.specs.Kept.{Stands, place_cmp}
use Rattle.path_walk.specs.Parts.{parent_of}
use Rattle.session_start.proofs.OnePlaceMore.{found_push, or_none}

is_eq-then : (a b : Ordering) → is_eq (ordering_then a b) ≡ (is_eq a && is_eq b)
is_eq-then Less b = refl
is_eq-then Equal b = refl
is_eq-then Greater b = refl

at_place : (place : Place) (text : Bor (List ℕ)) (key : ℕ × Bor (List ℕ)) → text.now ≡ place.path → is_at (place_cmp (place.server, text)) key ≡ is_at_place key.0 key.1.now place
at_place place text key same =
    is_eq-then (nat_cmp place.server key.0) (slice_cmp nat_cmp text.now key.1.now)
    ∙ ap (λ b. b && is_eq (slice_cmp nat_cmp text.now key.1.now)) (unsigned_tied place.server key.0)
    ∙ ap (λ b. (place.server == key.0) && b) (is_eq-slice_cmp text.now key.1.now ∙ ap (λ t. bytes_eq t key.1.now) same)

both_true : (a b : Bool) → (a && b) ≡ true → (a ≡ true) × (b ≡ true)
both_true true true h = (refl, refl)
both_true true false h = cc
both_true false b h = cc

same_place : (listed : List Place) (place : Place) (server : ℕ) (path : List ℕ) → is_at_place server path place ≡ true → found_among listed place.server place.path ≡ None → found_among listed server path ≡ None
same_place listed place server path at free =
    let parts = both_true (place.server == server) (bytes_eq place.path path) at in
    let servers : place.server ≡ server = (unsigned_Decides place.server server).0 parts.0 in
    let paths : place.path ≡ path = (bytes_eq-Decides place.path path).0 parts.1 in
    ap (λ s. found_among listed s path) (sym servers) ∙ ap (λ p. found_among listed place.server p) (sym paths) ∙ free

joined : (at kind : Bool) (old new : Option Bool) → new ≡ cond at (Some kind) old → (at ≡ true → old ≡ None) → new ≡ option_or old (cond at (Some kind) None)
joined true kind old new is free = is ∙ ap (λ o. option_or o (Some kind)) (sym (free refl))
joined false kind old new is free = is ∙ or_none old

-- a free place is put
pub stands-more : (old new : BTreeMap (ℕ × Bor (List ℕ)) Bool) (listed : List Place) (place : Place) (text : Bor (List ℕ)) → text.now ≡ place.path → Stands old listed → found_among listed place.server place.path ≡ None
    → ((q : ℕ × Bor (List ℕ)) → get place_cmp new q ≡ cond (is_at (place_cmp (place.server, text)) q) (Some place.directory) (get place_cmp old q))
    → Stands new (listed ++ place ∷ [])
stands-more old new listed place text same stands free adds key =
    joined (is_at_place key.0 key.1.now place) place.directory (found_among listed key.0 key.1.now) (get place_cmp new key)
    (adds key ∙ ap (λ b. cond b (Some place.directory) (get place_cmp old key)) (at_place place text key same) ∙ ap (λ o. cond (is_at_place key.0 key.1.now place) (Some place.directory) o) (stands key))
    (λ at. same_place listed place key.0 key.1.now at free)
    ∙ sym (found_push listed place key.0 key.1.now)

-- an item that passes, one that fails, and the end
pub fail-on : {X : Type 0} (passes : List X → X → Bool) (xs : List X) (i : ℕ) (x : X) → i < length xs → x ≡ get_or xs i x → passes (take i xs) x ≡ true
    → first_failing passes (take i xs) (drop i xs) ≡ first_failing passes (take (i + 1) xs) (drop (i + 1) xs)
unfolding first_failing
fail-on passes xs i x within is good = rw (drop_more xs i x within, take_more xs i x within, ← is, good)

pub fail-stop : {X : Type 0} (passes : List X → X → Bool) (xs : List X) (i : ℕ) (x : X) → i < length xs → x ≡ get_or xs i x → passes (take i xs) x ≡ false
    → first_failing passes (take i xs) (drop i xs) ≡ Some i
unfolding first_failing
fail-stop passes xs i x within is bad = rw (drop_more xs i x within, ← is, bad) (ap Some (length-take-le i xs (omega arith)))

pub fail-end : {X : Type 0} (passes : List X → X → Bool) (xs : List X) (i : ℕ) → length xs ≤ i
    → first_failing passes (take i xs) (drop i xs) ≡ None
unfolding first_failing
fail-end passes xs i past = rw (drop_all i xs past)

-- the same for a test that asks for the number of those before an item alone
pub count-on : {X : Type 0} (few : ℕ → Bool) (xs : List X) (i : ℕ) (d : X) → i < length xs → few i ≡ true
    → first_failing (λ earlier _. few (length earlier)) (take i xs) (drop i xs) ≡ first_failing (λ earlier _. few (length earlier)) (take (i + 1) xs) (drop (i + 1) xs)
count-on few xs i d within good =
    fail-on (λ earlier _. few (length earlier)) xs i (get_or xs i d) within (get_or_default xs i d (get_or xs i d) within) (ap few (length-take-le i xs (omega arith)) ∙ good)

pub count-stop : {X : Type 0} (few : ℕ → Bool) (xs : List X) (i : ℕ) (d : X) → i < length xs → few i ≡ false
    → first_failing (λ earlier _. few (length earlier)) (take i xs) (drop i xs) ≡ Some i
count-stop few xs i d within bad =
    fail-stop (λ earlier _. few (length earlier)) xs i (get_or xs i d) within (get_or_default xs i d (get_or xs i d) within) (ap few (length-take-le i xs (omega arith)) ∙ bad)

map_push : {X Y : Type 0} (f : X → Y) (xs : List X) (x : X) → map f xs ++ f x ∷ [] ≡ map f (xs ++ x ∷ [])
map_push f [] x = refl
map_push f (y ∷ ys) x = ap (λ more. f y ∷ more) (map_push f ys x)

-- the places of the first items and one more
pub more_mapped : {X Y : Type 0} (f : X → Y) (xs : List X) (i : ℕ) (x : X) → i < length xs → x ≡ get_or xs i x
    → map f (take i xs) ++ f x ∷ [] ≡ map f (take (i + 1) xs)
more_mapped f xs i x within is = rw (take_more xs i x within, ← is) (map_push f (take i xs) x)

none_of : (o : Option Bool) → is_none o ≡ true → o ≡ None
none_of None h = refl
none_of (Some kind) h = cc

-- what fits in stands where nothing did
pub free_where_fit : (listed : List Place) (server : ℕ) (path : List ℕ) → fits_in listed server path ≡ true → found_among listed server path ≡ None
free_where_fit listed server path fits =
    none_of (found_among listed server path) (both_true (is_directory listed server (parent_of path)) (is_none (found_among listed server path)) fits).1

pub fits-part : (a b : Bool) → (a && b) ≡ true → a ≡ true
fits-part a b h = (both_true a b h).0

pub stands-empty : (map : BTreeMap (ℕ × Bor (List ℕ)) Bool) → map.entries ≡ [] → Stands map []
unfolding found_among
stands-empty map none key = rw none

pub push_behind : {X : Type 0} (front back : List X) (x : X) → (front ++ back) ++ x ∷ [] ≡ front ++ (back ++ x ∷ [])
push_behind [] back x = refl
push_behind (y ∷ front) back x = ap (λ more. y ∷ more) (push_behind front back x)

pub take_past : {X : Type 0} (xs : List X) (i : ℕ) → length xs ≤ i → take i xs ≡ xs
take_past [] zero past = refl
take_past [] (suc i) past = refl
take_past (x ∷ xs) zero past = absurd (omega arith)
take_past (x ∷ xs) (suc i) past = ap (λ more. x ∷ more) (take_past xs i (omega arith))

-- what is told where an item fails
pub fail-breaks : (rule : ℕ) (found : Option ℕ) (item : ℕ) (fault : TreeFault) → found ≡ Some item → fault ≡ Rule rule item → Breaks rule found fault
fail-breaks rule found item fault is told = rw told (refl, is)

-- ---- what is placed where it fits

abbrev pub IsPlacing : BTreeMap (ℕ × Bor (List ℕ)) Bool → BTreeMap (ℕ × Bor (List ℕ)) Bool → Place → Bool → Type 0
IsPlacing old new place fits = (listed : List Place) → Stands old listed → (fits ≡ fits_in listed place.server place.path) × (fits ≡ true → Stands new (listed ++ place ∷ []))

pub not_directory : (kind : NodeKind) → (kind ≡ Directory → ⊥) → graph.is_directory kind ≡ false
not_directory Directory other = absurd (other refl)
not_directory File other = refl
not_directory Service other = refl
not_directory (Mount index) other = refl

and_true : (a b : Bool) → b ≡ true → a ≡ (a && b)
and_true true b is = sym is
and_true false b is = refl

-- a mount whose target is a directory
pub mount-placing : {E : Type 0} (result : Result Bool E) (old new : BTreeMap (ℕ × Bor (List ℕ)) Bool) (place : Place) (target : ℕ) (at : List ℕ)
    → ((listed : List Place) → Stands old listed → is_directory listed target at ≡ true) → IfOk result (IsPlacing old new place)
    → IfOk result (λ fits. (listed : List Place) → Stands old listed → (fits ≡ (fits_in listed place.server place.path && is_directory listed target at)) × (fits ≡ true → Stands new (listed ++ place ∷ [])))
mount-placing (Ok fits) old new place target at goes placing = λ listed stands. (
  (placing listed stands).0 ∙ and_true (fits_in listed place.server place.path) (is_directory listed target at) (goes listed stands),
  (placing listed stands).1,
)
mount-placing (Err e) old new place target at goes placing = tt
