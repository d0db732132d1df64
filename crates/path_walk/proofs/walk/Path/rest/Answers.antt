-- What follows the first slash is the path of the other names.
use Rattle.std.proofs.Common.{◌≡◌, ap, sym, ◌∙◌, drop, subst, ◌<◌, ◌≤◌, ◌+◌, length, arith, ℕ, List, None}
use Rattle.std.specs.List.{position_or_len}
use Rattle.path_walk.specs.Paths.{path_fault, names_of}
use Rattle.path_walk.proofs.PathLemmas.{path_fault-dot, rest_at_end, after_slash, names_of-dot, is_slash}
use Rattle.path_walk.proofs.walk.Path.rest.Goals as goal

pub of_one-requires-clause-path : goal.of_one-requires-clause-path
of_one-requires-clause-path c = path_fault-dot

pub returns-then-self : goal.returns-then-self
returns-then-self c =
    c.of_one.ensures ∙ names_of-dot
    ∙ sym
    (ap (drop 1) (sym c.self.view_is)
    ∙ rest_at_end c.self.inside.text.now (sym c.self.invariant.1.0 ∙ c.if-self.true))

below_end : (end size : ℕ) → end ≤ size → (end ≡ size → ⊥) → end < size
below_end end size h other = omega arith

-- what `behind` lends is what follows the first slash
tail : (text after : List ℕ) (end : ℕ) → path_fault text ≡ None → end ≡ position_or_len is_slash text → end < length text → after ≡ drop (end + 1) text → (path_fault after ≡ None) × (names_of after ≡ drop 1 (names_of text))
tail text after end sound e within same =
    rw (same, e) (after_slash text sound (subst (λ k. k < length text) e within))

pub behind-requires : goal.behind-requires
behind-requires c = below_end c.self.inside.end _ c.self.invariant.1.1 c.if-self.false

pub of_checked-requires : goal.of_checked-requires
of_checked-requires c =
    (tail c.self.inside.text.now c.behind.result.now c.self.inside.end c.self.invariant.0 c.self.invariant.1.0
    (below_end c.self.inside.end _ c.self.invariant.1.1 c.if-self.false)
    c.behind.ensures).0

pub returns : goal.returns
returns c =
    c.of_checked.ensures
    ∙ (tail c.self.inside.text.now c.behind.result.now c.self.inside.end c.self.invariant.0 c.self.invariant.1.0
    (below_end c.self.inside.end _ c.self.invariant.1.1 c.if-self.false)
    c.behind.ensures).1
    ∙ ap (drop 1) c.self.view_is
