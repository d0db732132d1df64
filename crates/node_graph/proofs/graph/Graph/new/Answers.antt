use Rattle.std.proofs.Common.{ap, ◌∙◌, ◌≡◌, subst, sym, ℕ, List, Option, None, Some}
use Rattle.std.specs.Prelude.{slice_index_or}
use Rattle.slab.specs.Slab.{Slab, get, Updates}
use Rattle.node_graph.specs.declared.nodes.NodeKind.TheVariants.{Directory}
use Rattle.node_graph.specs.Cell.{Cell}
use Rattle.node_graph.specs.Tree.{bare_tree}
use Rattle.node_graph.specs.Graph.{StandsFor, holds_at}
use Rattle.node_graph.specs.Ends.{Ends, edges_of}
use Rattle.node_graph.specs.Rows.{kept_of, AreRows}
use Rattle.node_graph.proofs.Linked.{edges_of-empty}
use Rattle.node_graph.proofs.Begin.{bare_rows, bare_stands, bare_holds}
use Rattle.node_graph.proofs.graph.Graph.new.Goals as goal

-- the root's row with these bytes
abbrev root_with : List ℕ → Cell
root_with bytes = record { number = 1; kind = Directory; bytes = bytes; holds = 0; links = 0; parent = record { place = 0; number = 1 } }

pub invariant_of-result : goal.invariant_of-result
invariant_of-result c =
    let slots = ap (λ (s : Slab Cell). s.slots) c.reserve.ensures.rest_kept ∙ c.new-nodes.ensures.empty in
    let none : (p : ℕ) → get c.reserve.new.self p ≡ None = λ p. ap (λ (xs : List (Option Cell)). slice_index_or xs p None) slots in
    let first = c.insert_reserved.ensures.key ∙ ap (λ (s : Slab Cell). s.vacant_key) c.reserve.ensures.rest_kept ∙ c.new-nodes.ensures.first_key in
    let P : Cell → Type 0 = λ cell. Updates c.reserve.new.self c.insert_reserved.new.self c.insert_reserved.result (Some cell) in
    let Q : Ends → Type 0 = λ ends. AreRows c.insert_reserved.new.self ends 1 in
    subst Q (sym c.new-2.ensures) (bare_rows c.reserve.new.self c.insert_reserved.new.self c.insert_reserved.result none first (subst P (c.new-root.ensures ∙ ap root_with c.new.ensures.items) c.insert_reserved.ensures.updates))

pub returns-clause-stands : goal.returns-clause-stands
returns-clause-stands c =
    let slots = ap (λ (s : Slab Cell). s.slots) c.reserve.ensures.rest_kept ∙ c.new-nodes.ensures.empty in
    let none : (p : ℕ) → get c.reserve.new.self p ≡ None = λ p. ap (λ (xs : List (Option Cell)). slice_index_or xs p None) slots in
    let first = c.insert_reserved.ensures.key ∙ ap (λ (s : Slab Cell). s.vacant_key) c.reserve.ensures.rest_kept ∙ c.new-nodes.ensures.first_key in
    let P : Cell → Type 0 = λ cell. Updates c.reserve.new.self c.insert_reserved.new.self c.insert_reserved.result (Some cell) in
    let Q : Ends → Type 0 = λ ends. StandsFor (kept_of c.insert_reserved.new.self ends 1) bare_tree in
    subst Q (sym c.new-2.ensures) (bare_stands c.reserve.new.self c.insert_reserved.new.self c.insert_reserved.result none first (subst P (c.new-root.ensures ∙ ap root_with c.new.ensures.items) c.insert_reserved.ensures.updates))

pub returns-clause-edges : goal.returns-clause-edges
returns-clause-edges c = ap edges_of c.new-2.ensures ∙ edges_of-empty

pub returns-clause-holds : goal.returns-clause-holds
returns-clause-holds c =
    let slots = ap (λ (s : Slab Cell). s.slots) c.reserve.ensures.rest_kept ∙ c.new-nodes.ensures.empty in
    let none : (p : ℕ) → get c.reserve.new.self p ≡ None = λ p. ap (λ (xs : List (Option Cell)). slice_index_or xs p None) slots in
    let first = c.insert_reserved.ensures.key ∙ ap (λ (s : Slab Cell). s.vacant_key) c.reserve.ensures.rest_kept ∙ c.new-nodes.ensures.first_key in
    let P : Cell → Type 0 = λ cell. Updates c.reserve.new.self c.insert_reserved.new.self c.insert_reserved.result (Some cell) in
    let Q : Ends → Type 0 = λ ends. (n : ℕ) → holds_at (kept_of c.insert_reserved.new.self ends 1) n ≡ 0 in
    subst Q (sym c.new-2.ensures) (bare_holds c.reserve.new.self c.insert_reserved.new.self c.insert_reserved.result none first (subst P (c.new-root.ensures ∙ ap root_with c.new.ensures.items) c.insert_reserved.ensures.updates))
