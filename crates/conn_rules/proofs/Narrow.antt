-- What an Open binds gets what its flags grant, and lies within the rights of its connection and the masks on its way.
use Rattle.std.proofs.Common.{◌≡◌, ℕ, Bool, true, false, not, List, [], ◌∷◌, Option, Some, None, refl, ap, ◌∙◌, rules}
use Rattle.std.proofs.lemmas.List.Elements.{All-nil, All-cons, All-head, All-tail}
use Rattle.std.specs.Prelude.{All, IsTrue, ◌&&◌, is_some}
use Rattle.std.specs.Option.{option_map}
use Rattle.std.specs.Str.{bytes_eq}
use Rattle.fidl_names.specs.First.{cause_if, first_of}
use Rattle.fidl_names.specs.declared.methods.Method.TheVariants as method
use Rattle.fidl_names.specs.declared.statuses.Status.{Status}
use Rattle.fidl_names.specs.declared.statuses.Status.TheVariants as status
use Rattle.io_flags.specs.Faults.{flag_fault, status_of}
use Rattle.io_flags.specs.Grants.{explicit_rights, asked_rights, granted, granted_kind}
use Rattle.io_flags.proofs.GrantLemmas.{grant-some, granted-law}
use Rattle.io_rights.specs.declared.operations.Operation.TheVariants as op
use Rattle.io_rights.specs.Operations.{OperationSet, none, single, meet, is_within}
use Rattle.io_rights.proofs.OperationSets.{within_trans, within_meet, meet_within_left, meet_within_right}
use Rattle.node_graph.specs.Tree.{Tree, name_in}
use Rattle.path_walk.specs.Names.{dot}
use Rattle.path_walk.specs.Paths.{names_of, path_fault}
use Rattle.conn_rules.specs.Answers.{Answer, Act, binds}
use Rattle.conn_rules.specs.Births.{Birth, Position}
use Rattle.conn_rules.specs.Contexts.{Context}
use Rattle.conn_rules.specs.Laws.{IsWithinAll, OpensGrant, OpensOnlyNarrow}
use Rattle.conn_rules.specs.Nodes.{kind_here}
use Rattle.conn_rules.specs.Opens.{arrival_refusals, arrival, by_walk, entry_refusals, making, making_refusals}
use Rattle.conn_rules.specs.Refusals.{lacks, unless}
use Rattle.conn_rules.specs.Walks.{Walk, arrives, missing, crosses, stops, walk, behind, inner_rights, limit_of, masks_of}
use Rattle.conn_rules.proofs.EveryWalk.{HoldsAlong, every_walk, named_in_asked, named_in_inner}

-- ---- masks

abbrev Has : OperationSet → OperationSet → Type 0
Has e mask = IsTrue (is_within e mask)

-- each mask of the walk has these rights
abbrev Masks : OperationSet → Walk → Type 0
Masks e w = All (λ mask. IsTrue (is_within e mask)) (masks_of w)

behind_masks : (e mask : OperationSet) (w : Walk) → IsTrue (is_within e mask) → Masks e w → Masks e (behind mask w)
behind_masks e mask (arrives node masks) h hs = All-cons (Has e) mask masks h hs
behind_masks e mask (missing directory name masks) h hs = All-cons (Has e) mask masks h hs
behind_masks e mask (crosses mount rest masks) h hs = All-cons (Has e) mask masks h hs
behind_masks e mask (stops status) h hs = hs

masks_along : (tree : Tree) (word : ℕ) → HoldsAlong tree word (λ directory names w. Masks (explicit_rights word) w)
masks_along tree word =
    let e = explicit_rights word in
    record {
      here = λ directory. All-nil (Has e);
      absent = λ directory name none. All-nil (Has e);
      node = λ directory name edge there none has. All-cons (Has e) edge.mask [] has (All-nil (Has e));
      mount = λ directory name rest edge index there is has.
          All-cons (Has e) edge.mask [] (within_trans e (asked_rights word) edge.mask (named_in_asked word) has) (All-nil (Has e));
      nowhere = λ directory name rest status. All-nil (Has e);
      further = λ directory name next rest edge there is has onward h.
          behind_masks e edge.mask onward (within_trans e (inner_rights word) edge.mask (named_in_inner word) has) h;
    }

walk_masks : (tree : Tree) (word : ℕ) (names : List (List ℕ)) (directory : ℕ) → Masks (explicit_rights word) (walk tree word names directory)
walk_masks tree word names directory =
    every_walk tree word (λ directory names w. Masks (explicit_rights word) w) (masks_along tree word) names directory

-- ---- limits

into_limit : (e rights : OperationSet) (masks : List OperationSet) → IsWithinAll e rights masks → IsTrue (is_within e (limit_of rights masks))
into_limit e rights [] h = h.0
into_limit e rights (mask ∷ masks) h = into_limit e (meet rights mask) masks
    (within_meet rights mask e h.0 (All-head (Has e) mask masks h.1), All-tail (Has e) mask masks h.1)

from_limit : (e rights : OperationSet) (masks : List OperationSet) → IsTrue (is_within e (limit_of rights masks)) → IsWithinAll e rights masks
from_limit e rights [] h = (h, All-nil (Has e))
from_limit e rights (mask ∷ masks) h =
    let below = from_limit e (meet rights mask) masks h in (
      within_trans e (meet rights mask) rights below.0 (meet_within_left rights mask),
      All-cons (Has e) mask masks (within_trans e (meet rights mask) mask below.0 (meet_within_right rights mask)) below.1,
    )

-- ---- answers

abbrev rights_in : Answer → OperationSet
rights_in (binds birth announced) = birth.rights
rights_in _ = none

unless_binds : (position : Position) (o : Option Status) (act : Act) (found : Birth) (announced : Bool) →
    (unless o position method.OpenPath act).answer ≡ binds found announced → (o ≡ None) × (act.answer ≡ binds found announced)
unless_binds position (Some status) act found announced e = search rules
unless_binds position None act found announced e = (refl, e)

fourth_passes : (a b c : Option Status) (x : Bool) (status : Status) → first_of (a ∷ b ∷ c ∷ cause_if (not x) status ∷ []) ≡ None → x ≡ true
fourth_passes (Some s) b c x status e = search rules
fourth_passes None (Some s) c x status e = search rules
fourth_passes None None (Some s) x status e = search rules
fourth_passes None None None true status e = refl
fourth_passes None None None false status e = search rules

-- the rights that are bound, as the definition puts them
walk_grants : (context : Context) (word : ℕ) (w : Walk) (found : Birth) (announced : Bool) →
    (by_walk context word w).answer ≡ binds found announced →
    granted_kind word (granted word (limit_of context.birth.rights (masks_of w))) ≡ found.rights
walk_grants context word (arrives node masks) found announced e =
    ap rights_in
    (unless_binds context.position (first_of (arrival_refusals context.room word (kind_here context.tree node)))
    (arrival context.position word (limit_of context.birth.rights masks) node (kind_here context.tree node)) found announced e).1
walk_grants context word (missing directory name masks) found announced e =
    let key = name_in directory name in
    ap rights_in
    (unless_binds context.position (first_of (making_refusals context.tree context.room word key))
    (making context.position context.tree word (limit_of context.birth.rights masks) key) found announced e).1
walk_grants context word (crosses mount rest masks) found announced e = search rules
walk_grants context word (stops status) found announced e = search rules

pub opens_grant : OpensGrant
opens_grant context path word found announced e =
    let w = walk context.tree word (names_of path) context.birth.node in
    let limit = limit_of context.birth.rights (masks_of w) in
    let h = unless_binds context.position (first_of (entry_refusals context.birth word path)) (by_walk context word w) found announced e in
    let asked =
    fourth_passes (option_map status_of (flag_fault word)) (cause_if (is_some (path_fault path)) status.InvalidArgs)
    (cause_if (not (bytes_eq path dot) && lacks context.birth.rights (single op.Traverse)) status.AccessDenied)
    (is_within (asked_rights word) context.birth.rights) status.AccessDenied h.0 in
    let named : is_within (explicit_rights word) limit ≡ true =
    into_limit (explicit_rights word) context.birth.rights (masks_of w) (
      within_trans (explicit_rights word) (asked_rights word) context.birth.rights (named_in_asked word) asked,
      walk_masks context.tree word (names_of path) context.birth.node,
    ) in
    grant-some word limit named ∙ ap Some (walk_grants context word w found announced h.1)

pub opens_narrow : OpensOnlyNarrow
opens_narrow context path word found announced e =
    let w = walk context.tree word (names_of path) context.birth.node in
    from_limit found.rights context.birth.rights (masks_of w)
    (granted-law word (limit_of context.birth.rights (masks_of w)) found.rights (opens_grant context path word found announced e))
