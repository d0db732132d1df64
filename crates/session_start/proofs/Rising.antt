-- That the tree of a list that grows is sound.
use Rattle.std.proofs.Common.{◌≡◌, ◌≤◌, ◌⊎◌, List, [], ◌∷◌, ◌++◌, length, All, Contains, sym, subst, arith}
use Rattle.std.proofs.lemmas.List.{length_push}
use Rattle.std.proofs.lemmas.List.Elements.{All-contains, All-contains_itself, All-weaker, Contains-append_left, Contains-push}
use Rattle.fidl_names.specs.declared.limits.TheConstants as limit
use Rattle.node_graph.specs.declared.nodes.NodeKind.TheVariants.{File}
use Rattle.node_graph.specs.Tree.{IsSound}
use Rattle.node_graph.proofs.Soundness.{bare_sound, row_sound}
use Rattle.path_walk.specs.Parts.{last_name, parent_of}
use Rattle.path_walk.proofs.PartLemmas.{last_valid, name_short}
use Rattle.session_start.specs.Numbering.{Named, number_at, tree_from}
use Rattle.session_start.proofs.Standing.{free_in}
use Rattle.session_start.proofs.Trees.{Grows, bare, more, placed, tree_push}

-- only a file has bytes, and not too many
pub record IsFilled (one : Named) : Type 0 where
  pub bytes : (one.kind ≡ File) ⊎ (one.bytes ≡ [])
  pub short : length one.bytes ≤ limit.MAX_FILE

pub sound_from : (named : List Named) → Grows named → All IsFilled named → length named ≤ limit.MAX_NAMES → IsSound (tree_from named)
sound_from _ bare all few = bare_sound
sound_from _ (more named one grows fits) all few =
    let size = length_push named one in
    let before : All IsFilled named =
    All-weaker (Contains named) IsFilled (λ x h. All-contains IsFilled (named ++ one ∷ []) x all (Contains-append_left named (one ∷ []) x h)) named (All-contains_itself named) in
    let last : IsFilled one = All-contains IsFilled (named ++ one ∷ []) one all (Contains-push named one) in
    let short = name_short (last_name one.path) (last_valid one.path fits.new.below fits.valid) in
    subst IsSound (sym (tree_push named one fits (placed named grows)))
    (row_sound (tree_from named) (record { directory = number_at named (parent_of one.path); name = last_name one.path }) (record { kind = one.kind; bytes = one.bytes }) one.mask
    (sound_from named grows before (omega (arith, size, few)))
    (free_in named one grows fits (omega (arith, size, few))) fits.parent short.0 short.1 last.short)
