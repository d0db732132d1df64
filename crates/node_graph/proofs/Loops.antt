-- Names that come and go and make no loop.
use Rattle.std.proofs.Common.{◌≡◌, ◌≢◌, ℕ, Some, None, ap, sym, ◌∙◌, ◌⊎◌, inl, inr}
use Rattle.std.specs.FinMap as finite
use Rattle.node_graph.specs.Tree.{EdgeKey, EdgeTo, Edges, edge_cmp, Below, child, deeper}
use Rattle.node_graph.proofs.Ordered.{comes, fresh, known, stays}

abbrev pub NoLoop : Edges → Type 0
NoLoop edges = (number : ℕ) → ¬ (Below edges number number)

pub no_loop_bare : NoLoop finite.empty
no_loop_bare number below = nothing number number below
  where
    nothing : (x d : ℕ) → Below finite.empty x d → ⊥
    nothing _ _ (child from to there) = let wrong : None ≡ Some to = sym (finite.get-empty edge_cmp from) ∙ there in cc
    nothing _ _ (deeper from to d there below) = let wrong : None ≡ Some to = sym (finite.get-empty edge_cmp from) ∙ there in cc

below_cut : (edges : Edges) (key : EdgeKey) (x d : ℕ) → Below (finite.remove edges key) x d → Below edges x d
below_cut edges key _ _ (child from to there) = child from to (stays edges key from to there).1
below_cut edges key _ _ (deeper from to d there below) = deeper from to d (stays edges key from to there).1 (below_cut edges key from.directory d below)

pub no_loop_cut : (edges : Edges) (key : EdgeKey) → NoLoop edges → NoLoop (finite.remove edges key)
no_loop_cut edges key loop_free n below = loop_free n (below_cut edges key n n below)

-- a name of a node in which no name stands
module _ (edges : Edges) (key : EdgeKey) (to : EdgeTo) (bare : (k : EdgeKey) (t : EdgeTo) → finite.get edges k ≡ Some t → k.directory ≢ to.child) (elsewhere : key.directory ≢ to.child) where
  below_put : (x d : ℕ) → Below (finite.insert edges key to) x d → (x ≡ to.child) ⊎ Below edges x d
  below_put _ _ (child k t there) = elim (comes edges key to k t there) [
    | fresh same_key new ↦ inl (ap (λ (t : EdgeTo). t.child) (sym new))
    | known apart old ↦ inr (child k t old)
  ]
  below_put _ _ (deeper k t d there below) = elim (comes edges key to k t there) [
    | fresh same_key new ↦ inl (ap (λ (t : EdgeTo). t.child) (sym new))
    | known apart old ↦ elim (below_put k.directory d below) [
      | inl past ↦ absurd (bare k t old past)
      | inr deep ↦ inr (deeper k t d old deep)
    ]
  ]

  above_put : (x d : ℕ) → Below (finite.insert edges key to) x d → d ≢ to.child
  above_put _ _ (child k t there) e = elim (comes edges key to k t there) [
    | fresh same_key new ↦ elsewhere (ap (λ (k : EdgeKey). k.directory) (sym same_key) ∙ e)
    | known apart old ↦ bare k t old e
  ]
  above_put _ _ (deeper k t d there below) e = above_put k.directory d below e

  pub no_loop_put : NoLoop edges → NoLoop (finite.insert edges key to)
  no_loop_put loop_free n below = elim (below_put n n below) [
    | inl past ↦ above_put n n below past
    | inr old ↦ loop_free n old
  ]
