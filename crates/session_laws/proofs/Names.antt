-- Names that come and go in a tree, as they are told.
use Rattle.std.proofs.Common.{◌≡◌, ℕ, ◌⊎◌, Bool, true, false, cond, is_some, List, [], ◌∷◌, Option, Some, None, All, refl, sym, ap, ◌∙◌, subst, inl, inr}
use Rattle.std.proofs.lemmas.List.Elements.{All-head, All-tail}
use Rattle.std.specs.Prelude.{if◌then◌else◌}
use Rattle.std.specs.FinMap as finite
use Rattle.node_graph.specs.Keys.{edges_total}
use Rattle.node_graph.specs.Refusals.{is_same_name}
use Rattle.node_graph.specs.Tree.{Change, EdgeKey, EdgeTo, Edges, Tree, after}
use Rattle.node_graph.proofs.Ordered.{Same, same, other, same_or_other}
use Rattle.path_walk.specs.Names.{IsName}
use Rattle.conn_rules.specs.Answers.{Happening, gone}
use Rattle.conn_rules.specs.Answers as news
use Rattle.journal_laws.specs.Contents.{HasNames}

-- ---- what is told

abbrev pub is_there : Edges → EdgeKey → Bool
is_there edges key = is_some (finite.get edges key)

-- whether a name is there behind something that happened
abbrev pub left_by : EdgeKey → Bool → Happening → Bool
left_by key was (news.removed name) = if is_same_name key name then false else was
left_by key was (news.added name) = if is_same_name key name then true else was
left_by key was (news.deleted directory) = was

abbrev pub left_behind : EdgeKey → Bool → List Happening → Bool
left_behind key was [] = was
left_behind key was (happening ∷ later) = left_behind key (left_by key was happening) later

-- names come and go with a change as it is told
abbrev pub AreTold : Tree → Change → List Happening → Type 0
AreTold tree change told = (key : EdgeKey) → is_there (after tree change).edges key ≡ left_behind key (is_there tree.edges key) told

-- what happens to a name happens to one that breaks no rule
abbrev pub IsOfName : Happening → Type 0
IsOfName (news.removed name) = IsName name.name
IsOfName (news.added name) = IsName name.name
IsOfName (news.deleted directory) = Unit {0}

-- ---- edges

pub put_there : (edges : Edges) (name : EdgeKey) (to : EdgeTo) (key : EdgeKey) → is_there (finite.insert edges name to) key ≡ (if is_same_name key name then true else is_there edges key)
put_there edges name to key = ap is_some (finite.get-insert edges_total edges name to key) ∙ by_test (is_same_name key name) where
  by_test : (b : Bool) → is_some (cond b (Some to) (finite.get edges key)) ≡ cond b true (is_some (finite.get edges key))
  by_test true = refl
  by_test false = refl

pub cut_there : (edges : Edges) (name key : EdgeKey) → is_there (finite.remove edges name) key ≡ (if is_same_name key name then false else is_there edges key)
cut_there edges name key = ap is_some (finite.get-remove edges_total edges name key) ∙ by_test (is_same_name key name) where
  by_test : (b : Bool) → is_some (cond b None (finite.get edges key)) ≡ cond b false (is_some (finite.get edges key))
  by_test true = refl
  by_test false = refl

-- that a directory is gone changes no name
pub gone_leaves : (key : EdgeKey) (was : Bool) (o : Option ℕ) → was ≡ left_behind key was (gone o)
gone_leaves key was None = refl
gone_leaves key was (Some directory) = refl

-- ---- names are names

-- a name that is there was there or is told
left_is_name : (key : EdgeKey) (was : Bool) (happening : Happening) → IsOfName happening → left_by key was happening ≡ true → (was ≡ true) ⊎ IsName key.name
left_is_name key was (news.removed name) is e = by_test (is_same_name key name) e where
  by_test : (b : Bool) → cond b false was ≡ true → (was ≡ true) ⊎ IsName key.name
  by_test true h = absurd (cc)
  by_test false h = inl h
left_is_name key was (news.added name) is e = by_key (same_or_other key name) where
  by_key : Same key name → (was ≡ true) ⊎ IsName key.name
  by_key (same e b) = inr (subst (λ (k : EdgeKey). IsName k.name) (sym e) is)
  by_key (other apart b) = inl (sym (ap (λ (c : Bool). cond c true was) b) ∙ e)
left_is_name key was (news.deleted directory) is e = inl e

pub told_is_name : (key : EdgeKey) (was : Bool) (told : List Happening) → All IsOfName told → left_behind key was told ≡ true → (was ≡ true) ⊎ IsName key.name
told_is_name key was [] named e = inl e
told_is_name key was (happening ∷ later) named e =
    by_later (told_is_name key (left_by key was happening) later (All-tail IsOfName happening later named) e) where
      by_later : (left_by key was happening ≡ true) ⊎ IsName key.name → (was ≡ true) ⊎ IsName key.name
      by_later (inl h) = left_is_name key was happening (All-head IsOfName happening later named) h
      by_later (inr h) = inr h

pub found_by : {X : Type 0} (o : Option X) → is_some o ≡ true → (x : X) × (o ≡ Some x)
found_by None e = absurd (cc)
found_by (Some x) e = (x, refl)

-- what is told of names leaves names
pub names_stay : (tree : Tree) (change : Change) (told : List Happening) → AreTold tree change told → All IsOfName told → HasNames tree → HasNames (after tree change)
names_stay tree change told tells named names from to there =
    by_side (told_is_name from (is_there tree.edges from) told named (sym (tells from) ∙ ap is_some there)) where
      by_side : (is_there tree.edges from ≡ true) ⊎ IsName from.name → IsName from.name
      by_side (inl was) = let old = found_by (finite.get tree.edges from) was in names from old.0 old.1
      by_side (inr is) = is
