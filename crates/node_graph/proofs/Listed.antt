-- The names of a directory behind a place are those between two keys.
use Rattle.std.proofs.Common.{◌≡◌, ℕ, zero, suc, ◌+◌, ◌<◌, ◌≤◌, List, [], ◌∷◌, length, map, Option, Some, None, refl, ap, sym, subst, ◌∙◌, arith, cond, Bool, true, false, not, eqb-true, nat_lt, T}
use Rattle.std.specs.Prelude.{◌==◌, filter, take, ◌&&◌, ◌||◌, All, is_some}
use Rattle.std.specs.List.{list_any}
use Rattle.std.specs.Map.Iter.{TakesFirst}
use Rattle.std.specs.declared.cmp.Ordering.TheVariants.{Less, Equal, Greater}
use Rattle.std.specs.declared.ops.Bound.TheVariants.{Excluded}
use Rattle.std.specs.Ordering.{nat_cmp, is_lt, is_le, is_eq, ordering_then}
use Rattle.std.specs.Cmp.Lexicographic.{slice_cmp}
use Rattle.std.specs.BTreeMap.Range.{range_contains, entries_between}
use Rattle.std.specs.FinMap as finite
use Rattle.std.specs.FinMap.Entries as entry
use Rattle.std.proofs.lemmas.Bool.Decides.{nat_tests}
use Rattle.fidl_names.specs.declared.limits.TheConstants as limit
use Rattle.node_graph.specs.declared.nodes.Entry.{Entry}
use Rattle.node_graph.specs.Tree.{EdgeKey, EdgeTo, edge_cmp}
use Rattle.node_graph.specs.Graph.{Listed, comes_after, listed_after}
use Rattle.node_graph.specs.Refusals.{has_names}
use Rattle.node_graph.specs.Ends.{Ends, HasName, IsNamed, edge_of, edges_of, ends_after, listed_of, name_in, start_of}
use Rattle.node_graph.proofs.Ordered.{both_true, map_of, entries-map_of, same_or_other, same, other}
use Rattle.node_graph.proofs.Linked.{below_found, entries-edges_of}

-- how numbers compare
nat_less : (x y : ℕ) → x < y → nat_cmp x y ≡ Less
nat_less x y h = grind (arith, nat_tests)

nat_same : (x y : ℕ) → x ≡ y → nat_cmp x y ≡ Equal
nat_same x y h = grind (arith, nat_tests)

nat_more : (x y : ℕ) → y < x → nat_cmp x y ≡ Greater
nat_more x y h = grind (arith, nat_tests)

data Way (x y : ℕ) : Type 0 where
  below : x < y → x == y ≡ false → Way x y
  level : x ≡ y → x == y ≡ true → Way x y
  above : y < x → x == y ≡ false → Way x y

way : (x y : ℕ) → Way x y
way x y =
    elim (x == y) as (λ b. x == y ≡ b → Way x y) [
      | true ↦ λ e. level (eqb-true x y e) e
      | false ↦ λ e. elim (nat_lt x y) as (λ b. nat_lt x y ≡ b → Way x y) [
        | true ↦ λ l. below (grind (arith, nat_tests)) e
        | false ↦ λ l. above (grind (arith, nat_tests)) e
      ] refl
    ] refl

empty_first : (name : List ℕ) → is_le (slice_cmp nat_cmp [] name) ≡ true
empty_first [] = refl
empty_first (x ∷ name) = refl

-- a longer place stands to a name as its front does
front_alike : (most : ℕ) (place name : List ℕ) → length name ≤ most → is_lt (slice_cmp nat_cmp (take most place) name) ≡ is_lt (slice_cmp nat_cmp place name)
front_alike zero [] name short = refl
front_alike zero (x ∷ place) [] short = refl
front_alike zero (x ∷ place) (y ∷ name) short = absurd (omega (arith, short))
front_alike (suc most) [] name short = refl
front_alike (suc most) (x ∷ place) [] short = refl
front_alike (suc most) (x ∷ place) (y ∷ name) short =
    let rest = front_alike most place name (omega (arith, short)) in
    elim (nat_cmp x y) as (λ o. is_lt (ordering_then o (slice_cmp nat_cmp (take most place) name)) ≡ is_lt (ordering_then o (slice_cmp nat_cmp place name))) [
      | Less ↦ refl
      | Equal ↦ rest
      | Greater ↦ refl
    ]

abbrev between : ℕ → Option (List ℕ) → EdgeKey → Bool
between directory place = range_contains edge_cmp (start_of directory place) (Excluded (name_in (directory + 1) []))

-- the next directory's start is past a key exactly where the key's directory is a later one
past_end : (directory : ℕ) (key : EdgeKey) → directory < key.directory → is_le (edge_cmp (name_in (directory + 1) []) key) ≡ true
past_end directory key later = elim (way (directory + 1) key.directory) [
  | below l e ↦ ap (λ o. is_le (ordering_then o (slice_cmp nat_cmp [] key.name))) (nat_less (directory + 1) key.directory l)
  | level l e ↦ ap (λ o. is_le (ordering_then o (slice_cmp nat_cmp [] key.name))) (nat_same (directory + 1) key.directory l) ∙ empty_first key.name
  | above l e ↦ absurd (omega (arith, later, l))
]

within_end : (directory : ℕ) (key : EdgeKey) → key.directory ≤ directory → is_le (edge_cmp (name_in (directory + 1) []) key) ≡ false
within_end directory key upto = ap (λ o. is_le (ordering_then o (slice_cmp nat_cmp [] key.name))) (nat_more (directory + 1) key.directory (omega (arith, upto)))

and_false : (a : Bool) → a && false ≡ false
and_false true = refl
and_false false = refl

and_true : (a : Bool) → a && true ≡ a
and_true true = refl
and_true false = refl

between_is : (directory : ℕ) (place : Option (List ℕ)) (key : EdgeKey) → length key.name ≤ limit.MAX_NAME → between directory place key ≡ ((key.directory == directory) && comes_after place key.name)
between_is directory None key short = elim (way key.directory directory) [
  | below l e ↦ ap (λ o. is_le (ordering_then o (slice_cmp nat_cmp [] key.name)) && not (is_le (edge_cmp (name_in (directory + 1) []) key))) (nat_more directory key.directory l) ∙ sym (ap (λ b. b && true) e)
  | level l e ↦
      ap (λ o. is_le (ordering_then o (slice_cmp nat_cmp [] key.name)) && not (is_le (edge_cmp (name_in (directory + 1) []) key))) (nat_same directory key.directory (sym l))
      ∙ ap (λ b. b && not (is_le (edge_cmp (name_in (directory + 1) []) key))) (empty_first key.name) ∙ ap not (within_end directory key (omega (arith, l))) ∙ sym (ap (λ b. b && true) e)
  | above l e ↦ ap (λ b. is_le (edge_cmp (name_in directory []) key) && not b) (past_end directory key l) ∙ and_false _ ∙ sym (ap (λ b. b && true) e)
]
between_is directory (Some place) key short = elim (way key.directory directory) [
  | below l e ↦ ap (λ o. is_lt (ordering_then o (slice_cmp nat_cmp (take limit.MAX_NAME place) key.name)) && not (is_le (edge_cmp (name_in (directory + 1) []) key))) (nat_more directory key.directory l) ∙ sym (ap (λ b. b && is_lt (slice_cmp nat_cmp place key.name)) e)
  | level l e ↦
      ap (λ o. is_lt (ordering_then o (slice_cmp nat_cmp (take limit.MAX_NAME place) key.name)) && not (is_le (edge_cmp (name_in (directory + 1) []) key))) (nat_same directory key.directory (sym l))
      ∙ ap (λ b. b && not (is_le (edge_cmp (name_in (directory + 1) []) key))) (front_alike limit.MAX_NAME place key.name short)
      ∙ ap (λ b. is_lt (slice_cmp nat_cmp place key.name) && not b) (within_end directory key (omega (arith, l))) ∙ and_true _ ∙ sym (ap (λ b. b && is_lt (slice_cmp nat_cmp place key.name)) e)
  | above l e ↦ ap (λ b. is_lt (edge_cmp (name_in directory (take limit.MAX_NAME place)) key) && not b) (past_end directory key l) ∙ and_false _ ∙ sym (ap (λ b. b && is_lt (slice_cmp nat_cmp place key.name)) e)
]

-- something holds of each entry
pub data Each (P : EdgeKey × Entry → Type 0) : List (EdgeKey × Entry) → Type 0 where
  done : Each P []
  more : (e : EdgeKey × Entry) (es : List (EdgeKey × Entry)) → P e → Each P es → Each P (e ∷ es)

find_here : (e : EdgeKey × Entry) (es : List (EdgeKey × Entry)) → entry.find edge_cmp e.0 (e ∷ es) ≡ Some e.1
find_here e es = elim (same_or_other e.0 e.0) [
  | same eq b ↦ ap (λ c. cond c (Some e.1) (entry.find edge_cmp e.0 es)) b
  | other apart b ↦ absurd (apart refl)
]

-- what holds of each that is found holds of each entry
pub each : (P : EdgeKey × Entry → Type 0) (es : List (EdgeKey × Entry)) → finite.is_sorted edge_cmp es ≡ true → ((k : EdgeKey) (t : Entry) → entry.find edge_cmp k es ≡ Some t → P (k, t)) → Each P es
each P [] sorted holds = done
each P (e ∷ es) sorted holds =
    more e es (holds e.0 e.1 (find_here e es)) (each P es (both_true _ _ sorted).1 (λ k t found. holds k t (later k t found)))
  where
    later : (k : EdgeKey) (t : Entry) → entry.find edge_cmp k es ≡ Some t → entry.find edge_cmp k (e ∷ es) ≡ Some t
    later k t found = elim (same_or_other k e.0) [
      | same eq b ↦ absurd (
          let lower : edge_cmp e.0 k ≡ Less = below_found e.0 k es t (both_true _ _ sorted).0 found in
          let apart : is_eq (edge_cmp k k) ≡ false = ap (λ (x : EdgeKey). is_eq (edge_cmp x k)) eq ∙ ap is_eq lower in
          let tied : is_eq (edge_cmp k k) ≡ true = ap (λ (x : EdgeKey). is_eq (edge_cmp k x)) eq ∙ b in
          cc
          )
      | other apart b ↦ ap (λ c. cond c (Some e.1) (entry.find edge_cmp k es)) b ∙ found
    ]

abbrev IsShort : EdgeKey × Entry → Type 0
IsShort e = length e.0.name ≤ limit.MAX_NAME

filter_short : (directory : ℕ) (place : Option (List ℕ)) (es : List (EdgeKey × Entry)) → Each IsShort es
    → entries_between edge_cmp (start_of directory place) (Excluded (name_in (directory + 1) [])) es ≡ filter (λ (e : EdgeKey × Entry). (e.0.directory == directory) && comes_after place e.0.name) es
filter_short directory place [] done = refl
filter_short directory place (e ∷ es) (more _ _ short rest) =
    ap (λ b. cond b (e ∷ entries_between edge_cmp (start_of directory place) (Excluded (name_in (directory + 1) [])) es) (entries_between edge_cmp (start_of directory place) (Excluded (name_in (directory + 1) [])) es)) (between_is directory place e.0 short)
    ∙ ap (λ rest. cond ((e.0.directory == directory) && comes_after place e.0.name) (e ∷ rest) rest) (filter_short directory place es rest)

pub listed_between : (es : List (EdgeKey × Entry)) (directory : ℕ) (place : Option (List ℕ)) → IsNamed es
    → entries_between edge_cmp (start_of directory place) (Excluded (name_in (directory + 1) [])) es ≡ ends_after (map_of es) directory place
listed_between es directory place named =
    filter_short directory place es (each IsShort es named.in_order (λ k t found. (named.named k t (finite.get-entries (map_of es) k ∙ ap (entry.find edge_cmp k) (entries-map_of es named.in_order) ∙ found)).1))
    ∙ ap (filter (λ (e : EdgeKey × Entry). (e.0.directory == directory) && comes_after place e.0.name)) (sym (entries-map_of es named.in_order))

-- ---- what a listing shows

listed_mapped : (directory : ℕ) (place : Option (List ℕ)) (es : List (EdgeKey × Entry))
    → map {B = List ℕ × ℕ} (λ (l : Listed). (l.name, l.number)) (map listed_of (filter (λ (e : EdgeKey × Entry). (e.0.directory == directory) && comes_after place e.0.name) es))
    ≡ map {B = List ℕ × ℕ} (λ (e : EdgeKey × EdgeTo). (e.0.name, e.1.child)) (filter (λ (e : EdgeKey × EdgeTo). (e.0.directory == directory) && comes_after place e.0.name) (map edge_of es))
listed_mapped directory place [] = refl
listed_mapped directory place (e ∷ es) =
    elim ((e.0.directory == directory) && comes_after place e.0.name) as (λ b.
    map {B = List ℕ × ℕ} (λ (l : Listed). (l.name, l.number)) (map listed_of (cond b (e ∷ filter (λ (e : EdgeKey × Entry). (e.0.directory == directory) && comes_after place e.0.name) es) (filter (λ (e : EdgeKey × Entry). (e.0.directory == directory) && comes_after place e.0.name) es)))
    ≡ map {B = List ℕ × ℕ} (λ (e : EdgeKey × EdgeTo). (e.0.name, e.1.child)) (cond b (edge_of e ∷ filter (λ (e : EdgeKey × EdgeTo). (e.0.directory == directory) && comes_after place e.0.name) (map edge_of es)) (filter (λ (e : EdgeKey × EdgeTo). (e.0.directory == directory) && comes_after place e.0.name) (map edge_of es)))) [
      | true ↦ ap (λ rest. (e.0.name, e.1.node.number) ∷ rest) (listed_mapped directory place es)
      | false ↦ listed_mapped directory place es
    ]

pub listed_names : (ends : Ends) (directory : ℕ) (place : Option (List ℕ)) → map {B = List ℕ × ℕ} (λ (l : Listed). (l.name, l.number)) (map listed_of (ends_after ends directory place)) ≡ listed_after (edges_of ends) directory place
listed_names ends directory place =
    listed_mapped directory place (finite.entries ends)
    ∙ ap (λ (es : List (EdgeKey × EdgeTo)). map {B = List ℕ × ℕ} (λ (e : EdgeKey × EdgeTo). (e.0.name, e.1.child)) (filter (λ (e : EdgeKey × EdgeTo). (e.0.directory == directory) && comes_after place e.0.name) es)) (sym (entries-edges_of ends))

each_filtered : (P : EdgeKey × Entry → Type 0) (test : EdgeKey × Entry → Bool) (es : List (EdgeKey × Entry)) → Each P es → Each P (filter test es)
each_filtered P test [] done = done
each_filtered P test (e ∷ es) (more _ _ here rest) =
    let later = each_filtered P test es rest in
    elim (test e) as (λ b. Each P (cond b (e ∷ filter test es) (filter test es))) [
      | true ↦ more e (filter test es) here later
      | false ↦ later
    ]

all_shown : (Q : Listed → Type 0) (es : List (EdgeKey × Entry)) → Each (λ e. Q (listed_of e)) es → All Q (map listed_of es)
all_shown Q [] done k d within = absurd (omega (arith, within))
all_shown Q (e ∷ es) (more _ _ here rest) zero d within = here
all_shown Q (e ∷ es) (more _ _ here rest) (suc k) d within = all_shown Q es rest k d (omega (arith, within))

is_true : (b : Bool) → T b → b ≡ true
is_true true t = refl
is_true false t = absurd t

pub listed_all : (Q : Listed → Type 0) (ends : Ends) (directory : ℕ) (place : Option (List ℕ)) → ((k : EdgeKey) (t : Entry) → finite.get ends k ≡ Some t → Q (listed_of (k, t))) → All Q (map listed_of (ends_after ends directory place))
listed_all Q ends directory place holds =
    all_shown Q _ (each_filtered (λ e. Q (listed_of e)) (λ e. (e.0.directory == directory) && comes_after place e.0.name) (finite.entries ends)
    (each (λ e. Q (listed_of e)) (finite.entries ends) (is_true _ (finite.entries_sorted ends)) (λ k t found. holds k t (finite.get-entries ends k ∙ found))))

fewer_filtered : (test : EdgeKey × Entry → Bool) (es : List (EdgeKey × Entry)) → length (map listed_of (filter test es)) ≤ length es
fewer_filtered test [] = omega arith
fewer_filtered test (e ∷ es) =
    let rest = fewer_filtered test es in
    elim (test e) as (λ b. length (map listed_of (cond b (e ∷ filter test es) (filter test es))) ≤ suc (length es)) [
      | true ↦ omega (arith, rest)
      | false ↦ omega (arith, rest)
    ]

pub listed_few : (ends : Ends) (directory : ℕ) (place : Option (List ℕ)) → finite.len ends ≤ limit.MAX_NAMES → length (map listed_of (ends_after ends directory place)) ≤ limit.MAX_NAMES
listed_few ends directory place few =
    let fewer = fewer_filtered (λ e. (e.0.directory == directory) && comes_after place e.0.name) (finite.entries ends) in
    let len = finite.len-entries ends in
    omega (arith, few, fewer, len)

-- ---- the sizes of names

all_of : (P : EdgeKey × Entry → Type 0) (es : List (EdgeKey × Entry)) → Each P es → All P es
all_of P [] done k d within = absurd (omega (arith, within))
all_of P (e ∷ es) (more _ _ here rest) zero d within = here
all_of P (e ∷ es) (more _ _ here rest) (suc k) d within = all_of P es rest k d (omega (arith, within))

pub listed_named : (es : List (EdgeKey × Entry)) (directory : ℕ) (place : Option (List ℕ)) → IsNamed es → All HasName (ends_after (map_of es) directory place)
listed_named es directory place named =
    all_of HasName _ (each_filtered HasName (λ e. (e.0.directory == directory) && comes_after place e.0.name) (finite.entries (map_of es))
    (subst (Each HasName) (sym (entries-map_of es named.in_order))
    (each HasName es named.in_order (λ k t found. named.named k t (finite.get-entries (map_of es) k ∙ ap (entry.find edge_cmp k) (entries-map_of es named.in_order) ∙ found)))))

pub all_listed : (es : List (EdgeKey × Entry)) → All HasName es → All (λ (l : Listed). (1 ≤ length l.name) × (length l.name ≤ limit.MAX_NAME)) (map listed_of es)
all_listed [] named k d within = absurd (omega (arith, within))
all_listed (e ∷ es) named zero d within = named zero e (omega arith)
all_listed (e ∷ es) named (suc k) d within = all_listed es (λ k d within. named (suc k) d (omega (arith, within))) k d (omega (arith, within))

-- ---- whether there are names

-- some name is left
abbrev pub is_any : List (EdgeKey × Entry) → Bool
is_any [] = false
is_any (e ∷ es) = true

pub first_is_any : {A : Type 0} (shows : A → EdgeKey × Entry) (s : List (EdgeKey × Entry)) (r : Option A) (t : List (EdgeKey × Entry)) → TakesFirst shows s r t → is_some r ≡ is_any s
first_is_any shows s None t gives = sym (ap is_any gives.0)
first_is_any shows s (Some x) t gives = sym (ap is_any gives)

any_mapped : (directory : ℕ) (es : List (EdgeKey × Entry))
    → is_any (filter (λ (e : EdgeKey × Entry). (e.0.directory == directory) && comes_after None e.0.name) es) ≡ list_any (λ (k : EdgeKey). k.directory == directory) (map (λ (e : EdgeKey × EdgeTo). e.0) (map edge_of es))
any_mapped directory [] = refl
any_mapped directory (e ∷ es) =
    elim (e.0.directory == directory) as (λ b.
    is_any (cond (b && true) (e ∷ filter (λ (e : EdgeKey × Entry). (e.0.directory == directory) && comes_after None e.0.name) es) (filter (λ (e : EdgeKey × Entry). (e.0.directory == directory) && comes_after None e.0.name) es))
    ≡ (b || list_any (λ (k : EdgeKey). k.directory == directory) (map (λ (e : EdgeKey × EdgeTo). e.0) (map edge_of es)))) [
      | true ↦ refl
      | false ↦ any_mapped directory es
    ]

pub some_listed : (ends : Ends) (directory : ℕ) → is_any (ends_after ends directory None) ≡ has_names (edges_of ends) directory
some_listed ends directory =
    any_mapped directory (finite.entries ends) ∙ ap (λ (es : List (EdgeKey × EdgeTo)). list_any (λ (k : EdgeKey). k.directory == directory) (map (λ (e : EdgeKey × EdgeTo). e.0) es)) (sym (entries-edges_of ends))
