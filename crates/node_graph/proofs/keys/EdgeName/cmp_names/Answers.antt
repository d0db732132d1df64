use Rattle.std.proofs.Common.{◌≡◌, ◌∙◌, ap, sym, List, ℕ, length, arith}
use Rattle.std.specs.Prelude.{take}
use Rattle.std.proofs.lemmas.List.{length-take-le}
use Rattle.std.specs.declared.cmp.Ordering.{Ordering}
use Rattle.std.specs.Ordering.{nat_cmp}
use Rattle.std.specs.Cmp.Lexicographic.{slice_cmp}
use Rattle.node_graph.specs.Tree.{EdgeKey}
use Rattle.node_graph.proofs.Heads.{earlier, later, as_lengths}
use Rattle.node_graph.proofs.keys.EdgeName.cmp_names.Goals as goal

-- how the names as they are kept stand to each other is how the keys' names do
viewed : (a b : List ℕ) (x y : EdgeKey) → a ≡ x.name → b ≡ y.name → (o : Ordering) → slice_cmp nat_cmp a b ≡ o → o ≡ slice_cmp nat_cmp x.name y.name
viewed a b x y p q o e = sym e ∙ ap (λ n. slice_cmp nat_cmp n b) p ∙ ap (slice_cmp nat_cmp x.name) q

-- src/keys.rt:84:13
pub returns-then-self-other : goal.returns-then-self-other
returns-then-self-other c =
    viewed _ _ c.args.self.now c.args.other.now (ap (λ (k : EdgeKey). k.name) c.self.view_is) (ap (λ (k : EdgeKey). k.name) c.other.view_is) _
    (earlier c.self.inside.head c.other.inside.head _ _ c.self.invariant.1 c.other.invariant.1 c.if-self-other.true)

-- src/keys.rt:87:13
pub returns-then-self-other-2 : goal.returns-then-self-other-2
returns-then-self-other-2 c =
    viewed _ _ c.args.self.now c.args.other.now (ap (λ (k : EdgeKey). k.name) c.self.view_is) (ap (λ (k : EdgeKey). k.name) c.other.view_is) _
    (later c.self.inside.head c.other.inside.head _ _ c.self.invariant.1 c.other.invariant.1 c.if-self-other-2.true)

-- names of one head, whose lengths are within it
pub returns-then-other-le-HEAD : goal.returns-then-other-le-HEAD
returns-then-other-le-HEAD c =
    let size : length (take c.self.inside.length c.self.inside.bytes) ≡ c.self.inside.length = length-take-le c.self.inside.length c.self.inside.bytes (let few = c.self.invariant.0 in omega (arith, few, c.self.told)) in
    let other_size : length (take c.other.inside.length c.other.inside.bytes) ≡ c.other.inside.length = length-take-le c.other.inside.length c.other.inside.bytes (let few = c.other.invariant.0 in omega (arith, few, c.other.told)) in
    viewed _ _ c.args.self.now c.args.other.now (ap (λ (k : EdgeKey). k.name) c.self.view_is) (ap (λ (k : EdgeKey). k.name) c.other.view_is) _
    (as_lengths c.self.inside.head c.other.inside.head _ _ c.self.invariant.1 c.other.invariant.1 (omega (arith, c.if-self-other.false, c.if-self-other-2.false)) (omega (arith, size, c.if-self-le-HEAD.true)) (omega (arith, other_size, c.if-other-le-HEAD.true))
    ∙ ap (λ n. nat_cmp n (length (take c.other.inside.length c.other.inside.bytes))) size
    ∙ ap (nat_cmp c.self.inside.length) other_size
    ∙ sym c.cmp.ensures)
