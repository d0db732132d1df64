-- The longest prefix that has an entry, found step by step.
use Rattle.std.proofs.Common.{◌≡◌, ℕ, ◌+◌, ◌<◌, ◌≤◌, List, [], ◌∷◌, length, map, take, drop, get_or, Option, Some, None, refl, sym, ap, ◌∙◌, subst, arith}
use Rattle.std.specs.Prelude.{IfSome}
use Rattle.std.specs.FinMap as finite
use Rattle.std.specs.Option.{option_or, option_map}
use Rattle.std.proofs.lemmas.List.{drop_more, drop_all, drop-map, take_all, length-map, get_or-map}
use Rattle.path_walk.specs.Paths.{text_of}
use Rattle.io_namespace.specs.Entries.{Table, reached, resolved}
use Rattle.io_namespace.specs.Kept.{EdgeMap, Kept, and_then, node_behind, end_of, table_below, table_of}

abbrev pub Path : Type 0
Path = List (List ℕ)

-- what was found so far: an endpoint, and how many steps lead to it
abbrev pub found_in : Path → Option (ℕ × ℕ) → Option (ℕ × Path)
found_in path found = option_map (λ f. (f.0, drop f.1 path)) found

-- the endpoint of a node, with the steps that are left there
abbrev pub here : Kept → ℕ → Path → Option (ℕ × Path)
here kept node rest = option_map (λ endpoint. (endpoint, rest)) (end_of kept.ends node)

-- so many steps led to a node: what is to be found is below it, or was found, and at the node itself no more
pub record Ahead (kept : Kept) (path : Path) (node i : ℕ) (found : Option (ℕ × ℕ)) : Type 0 where
  pub rest : option_or (reached (table_below kept node) (drop i path)) (found_in path found) ≡ reached (table_of kept) path
  pub kept_here : option_or (here kept node (drop i path)) (found_in path found) ≡ found_in path found
  pub within : IfSome found (λ f. f.1 ≤ length path)

or_assoc : {A : Type 0} (a b c : Option A) → option_or (option_or a b) c ≡ option_or a (option_or b c)
or_assoc None b c = refl
or_assoc (Some a) b c = refl

or_none : {A : Type 0} (a : Option A) → option_or a None ≡ a
or_none None = refl
or_none (Some a) = refl

or_twice : {A : Type 0} (a b : Option A) → option_or a (option_or a b) ≡ option_or a b
or_twice None b = refl
or_twice (Some a) b = refl

-- a table without entries
nothing : (path : Path) → reached (λ prefix. None) path ≡ None
nothing [] = refl
nothing (step ∷ path) = ap (λ o. option_or o None) (nothing path)

-- the entry of no step is there where none goes on
last_or : (table : Table) (path : Path) → option_or (reached table path) (option_map (λ endpoint. (endpoint, path)) (table [])) ≡ reached table path
last_or table [] = or_same (option_map (λ endpoint. (endpoint, [])) (table [])) where
  or_same : {A : Type 0} (a : Option A) → option_or a a ≡ a
  or_same None = refl
  or_same (Some a) = refl
last_or table (step ∷ path) =
    or_assoc (reached (λ prefix. table (step ∷ prefix)) path) (option_map (λ endpoint. (endpoint, step ∷ path)) (table [])) (option_map (λ endpoint. (endpoint, step ∷ path)) (table []))
    ∙ ap (option_or (reached (λ prefix. table (step ∷ prefix)) path)) (or_same (option_map (λ endpoint. (endpoint, step ∷ path)) (table []))) where
      or_same : {A : Type 0} (a : Option A) → option_or a a ≡ a
      or_same None = refl
      or_same (Some a) = refl

found_here : (kept : Kept) (path : Path) (node i : ℕ) → found_in path (option_map (λ e. (e, i)) (end_of kept.ends node)) ≡ here kept node (drop i path)
found_here kept path node i = by_end (end_of kept.ends node) where
  by_end : (o : Option ℕ) → found_in path (option_map (λ e. (e, i)) o) ≡ option_map (λ endpoint. (endpoint, drop i path)) o
  by_end None = refl
  by_end (Some endpoint) = refl

found_or : (path : Path) (a b : Option (ℕ × ℕ)) → found_in path (option_or a b) ≡ option_or (found_in path a) (found_in path b)
found_or path None b = refl
found_or path (Some a) b = refl

within_or : (path : Path) (endpoint : Option ℕ) (i : ℕ) (found : Option (ℕ × ℕ)) → i ≤ length path → IfSome found (λ f. f.1 ≤ length path) →
    IfSome (option_or (option_map (λ e. (e, i)) endpoint) found) (λ f. f.1 ≤ length path)
within_or path None i found few h = h
within_or path (Some endpoint) i found few h = few

pub ahead_first : (kept : Kept) (path : Path) (found : Option (ℕ × ℕ)) → found ≡ option_map (λ e. (e, 0)) (end_of kept.ends 0) → Ahead kept path 0 0 found
ahead_first kept path found is = record {
  rest = ap (λ f. option_or (reached (table_of kept) path) (found_in path f)) is ∙ ap (option_or (reached (table_of kept) path)) (found_here kept path 0 0) ∙ last_or (table_of kept) path;
  kept_here = ap (λ f. option_or (here kept 0 path) (found_in path f)) is ∙ ap (option_or (here kept 0 path)) (found_here kept path 0 0)
      ∙ or_same (here kept 0 path) ∙ sym (ap (found_in path) is ∙ found_here kept path 0 0);
  within = subst (λ f. IfSome f (λ f. f.1 ≤ length path)) (sym is) (first_within (end_of kept.ends 0));
} where
  or_same : {A : Type 0} (a : Option A) → option_or a a ≡ a
  or_same None = refl
  or_same (Some a) = refl

  first_within : (o : Option ℕ) → IfSome {T = ℕ × ℕ} (option_map (λ e. (e, 0)) o) (λ f. f.1 ≤ length path)
  first_within None = tt
  first_within (Some e) = omega arith

-- a step that leads on
pub ahead_on : (kept : Kept) (path : Path) (node next i : ℕ) (step : List ℕ) (found found' : Option (ℕ × ℕ)) → Ahead kept path node i found → drop i path ≡ step ∷ drop (i + 1) path → i < length path →
    finite.get kept.edges (node, step) ≡ Some next → found' ≡ option_or (option_map (λ e. (e, i + 1)) (end_of kept.ends next)) found → Ahead kept path next (i + 1) found'
ahead_on kept path node next i step found found' ahead parts few there is = record {
  rest = ap (option_or (reached (table_below kept next) behind)) found_is ∙ sym step_below ∙ ahead.rest;
  kept_here = ap (option_or (here kept next behind)) found_is ∙ or_twice (here kept next behind) (found_in path found) ∙ sym found_is;
  within = subst (λ f. IfSome f (λ f. f.1 ≤ length path)) (sym is) (within_or path (end_of kept.ends next) (i + 1) found (omega (arith, few)) ahead.within);
} where
  behind : Path
  behind = drop (i + 1) path

  found_is : found_in path found' ≡ option_or (here kept next (drop (i + 1) path)) (found_in path found)
  found_is = ap (found_in path) is ∙ found_or path (option_map (λ e. (e, i + 1)) (end_of kept.ends next)) found
      ∙ ap (λ o. option_or o (found_in path found)) (found_here kept path next (i + 1))

  below : reached (table_below kept node) (step ∷ drop (i + 1) path) ≡ option_or (reached (table_below kept next) (drop (i + 1) path)) (here kept node (step ∷ drop (i + 1) path))
  below = ap (λ o. option_or (reached (λ prefix. and_then (and_then o (λ n. node_behind kept.edges n prefix)) (end_of kept.ends)) (drop (i + 1) path)) (here kept node (step ∷ drop (i + 1) path))) there

  step_below : option_or (reached (table_below kept node) (drop i path)) (found_in path found) ≡ option_or (reached (table_below kept next) (drop (i + 1) path)) (option_or (here kept next (drop (i + 1) path)) (found_in path found))
  step_below =
      ap (λ l. option_or (reached (table_below kept node) l) (found_in path found)) parts
      ∙ ap (λ o. option_or o (found_in path found)) below
      ∙ or_assoc (reached (table_below kept next) (drop (i + 1) path)) (here kept node (step ∷ drop (i + 1) path)) (found_in path found)
      ∙ ap (option_or (reached (table_below kept next) (drop (i + 1) path))) (ap (λ l. option_or (here kept node l) (found_in path found)) (sym parts) ∙ ahead.kept_here)
      ∙ sym (ap (λ o. option_or o (option_or (here kept next (drop (i + 1) path)) (found_in path found))) (sym (last_or (table_below kept next) (drop (i + 1) path)))
      ∙ or_assoc (reached (table_below kept next) (drop (i + 1) path)) (here kept next (drop (i + 1) path)) (option_or (here kept next (drop (i + 1) path)) (found_in path found))
      ∙ ap (option_or (reached (table_below kept next) (drop (i + 1) path))) (or_twice (here kept next (drop (i + 1) path)) (found_in path found))
      ∙ sym (or_assoc (reached (table_below kept next) (drop (i + 1) path)) (here kept next (drop (i + 1) path)) (found_in path found))
      ∙ ap (λ o. option_or o (found_in path found)) (last_or (table_below kept next) (drop (i + 1) path)))

-- a step that leads nowhere, and no step left
pub ahead_nowhere : (kept : Kept) (path : Path) (node i : ℕ) (step : List ℕ) (found : Option (ℕ × ℕ)) → Ahead kept path node i found → drop i path ≡ step ∷ drop (i + 1) path →
    finite.get kept.edges (node, step) ≡ None → reached (table_of kept) path ≡ found_in path found
ahead_nowhere kept path node i step found ahead parts there =
    sym ahead.rest
    ∙ ap (λ l. option_or (reached (table_below kept node) l) (found_in path found)) parts
    ∙ ap (λ o. option_or (option_or (reached (λ prefix. and_then (and_then o (λ n. node_behind kept.edges n prefix)) (end_of kept.ends)) (drop (i + 1) path)) (here kept node (step ∷ drop (i + 1) path))) (found_in path found)) there
    ∙ ap (λ o. option_or (option_or o (here kept node (step ∷ drop (i + 1) path))) (found_in path found)) (nothing (drop (i + 1) path))
    ∙ ap (λ l. option_or (here kept node l) (found_in path found)) (sym parts) ∙ ahead.kept_here

pub ahead_end : (kept : Kept) (path : Path) (node i : ℕ) (found : Option (ℕ × ℕ)) → Ahead kept path node i found → length path ≤ i → reached (table_of kept) path ≡ found_in path found
ahead_end kept path node i found ahead past =
    sym ahead.rest
    ∙ ap (λ l. option_or (reached (table_below kept node) l) (found_in path found)) none
    ∙ ap (λ l. option_or (here kept node l) (found_in path found)) (sym none) ∙ ahead.kept_here where
      none : drop i path ≡ []
      none = drop_all i path past

-- the step at a place of a path, and those behind it
pub parts_at : {X : Type 0} (f : X → List ℕ) (steps : List X) (i : ℕ) (d : X) → i < length steps → drop i (map f steps) ≡ f (get_or steps i d) ∷ drop (i + 1) (map f steps)
parts_at f steps i d few =
    let n = length-map steps f in
    let within : i < length (map f steps) = omega (arith, few, n) in
    drop_more (map f steps) i (f d) within ∙ ap (λ step. step ∷ drop (i + 1) (map f steps)) (get_or-map f steps i d (f d) few)

-- the same of steps that are had in another form, with an edge that was looked up
pub step_on : {X : Type 0} (f : X → List ℕ) (steps : List X) (kept : Kept) (edges : EdgeMap) (node next i : ℕ) (d : X) (answer : Option ℕ) (found found' : Option (ℕ × ℕ)) →
    edges ≡ kept.edges → Ahead kept (map f steps) node i found → i < length steps → answer ≡ finite.get edges (node, f (get_or steps i d)) → answer ≡ Some next →
    found' ≡ option_or (option_map (λ e. (e, i + 1)) (end_of kept.ends next)) found → Ahead kept (map f steps) next (i + 1) found'
step_on f steps kept edges node next i d answer found found' are ahead low got is after =
    let n = length-map steps f in
    ahead_on kept (map f steps) node next i (f (get_or steps i d)) found found' ahead (parts_at f steps i d low) (omega (arith, low, n))
    (ap (λ (e : EdgeMap). finite.get e (node, f (get_or steps i d))) (sym are) ∙ sym got ∙ is) after

pub step_nowhere : {X : Type 0} (f : X → List ℕ) (steps : List X) (kept : Kept) (edges : EdgeMap) (node i : ℕ) (d : X) (answer : Option ℕ) (found : Option (ℕ × ℕ)) →
    edges ≡ kept.edges → Ahead kept (map f steps) node i found → i < length steps → answer ≡ finite.get edges (node, f (get_or steps i d)) → answer ≡ None →
    reached (table_of kept) (map f steps) ≡ found_in (map f steps) found
step_nowhere f steps kept edges node i d answer found are ahead low got is =
    ahead_nowhere kept (map f steps) node i (f (get_or steps i d)) found ahead (parts_at f steps i d low)
    (ap (λ (e : EdgeMap). finite.get e (node, f (get_or steps i d))) (sym are) ∙ sym got ∙ is)

pub resolved_by : {X : Type 0} (f : X → List ℕ) (table : Table) (path : Path) (steps : List X) (found : Option (ℕ × ℕ)) (endpoint used n : ℕ) (rest : List ℕ) → map f steps ≡ path →
    reached table (map f steps) ≡ found_in (map f steps) found → found ≡ Some (endpoint, used) → rest ≡ text_of (map f (take n (drop used steps))) → length (drop used steps) ≤ n →
    resolved table path ≡ Some (endpoint, rest)
resolved_by f table path steps found endpoint used n rest same got is text few =
    ap (resolved table) (sym same)
    ∙ ap (option_map (λ r. (r.0, text_of r.1))) (got ∙ ap (found_in (map f steps)) is)
    ∙ ap (λ (t : List ℕ). Some (endpoint, t)) (ap text_of (drop-map f used steps ∙ ap (map f) (sym (take_all n (drop used steps) few))) ∙ sym text)
