-- One request, on a connection whose rights lie within its lineage: what it binds lies within the lineage that it gives, and what flags can
-- get that go on within the trail that it gives.
use Rattle.std.proofs.Common.{◌≡◌, ℕ, Bool, true, false, List, [], ◌∷◌, ◌++◌, unwrap_or, slice_get, Option, Some, None, Contains, refl, sym, ap, ◌∙◌, subst}
use Rattle.std.specs.Option.{option_map_or}
use Rattle.std.specs.Prelude.{All, IsTrue}
use Rattle.std.proofs.lemmas.List.Elements.{All-nil, All-cons, All-append, All-contains, All-weaker}
use Rattle.fidl_names.specs.First.{cause_if, first_of}
use Rattle.fidl_names.specs.declared.statuses.Status.TheVariants as status
use Rattle.io_flags.specs.Grants.{asked_rights, onward}
use Rattle.io_messages.specs.Asked.{Asked, method_of}
use Rattle.io_messages.specs.Asked as asks
use Rattle.io_rights.specs.Operations.{OperationSet, all, is_within}
use Rattle.io_rights.proofs.OperationSets.{within_trans}
use Rattle.node_graph.specs.declared.nodes.NodeKind.{NodeKind}
use Rattle.node_graph.specs.declared.nodes.NodeKind.TheVariants.{Directory, Mount}
use Rattle.node_graph.specs.Tree.{EdgeTo, Tree, kind_of}
use Rattle.path_walk.specs.Paths.{names_of}
use Rattle.session_start.specs.Sound.{HasOneEdge}
use Rattle.conn_rules.specs.Acts.{act_of, method_refusals}
use Rattle.conn_rules.specs.Answers.{Act, Answer, only, binds, forwards}
use Rattle.conn_rules.specs.Births.{Birth}
use Rattle.conn_rules.specs.Contexts.{Context}
use Rattle.conn_rules.specs.Nodes.{edge_at}
use Rattle.conn_rules.specs.Opens.{is_full, open_act}
use Rattle.conn_rules.specs.Walks.{Walk, arrives, missing, crosses, stops, limit_of, masks_of}
use Rattle.conn_rules.proofs.Narrow.{opens_narrow}
use Rattle.vfs_journal.specs.Entries.{Sent}
use Rattle.vfs_journal.specs.History.{tree_at}
use Rattle.vfs_journal.specs.Serving.{Moment, context_at}
use Rattle.vfs_journal.specs.Starts.{Bound, Start}
use Rattle.journal_laws.specs.Soundness.{AreMountedOnce}
use Rattle.journal_laws.proofs.Acts.{IsAnswer, act_answers, unless_holds}
use Rattle.session_laws.specs.Lineage.{Lines, end_rights, lineage_given, masks_along, trail_by, trail_in, walk_at}
use Rattle.session_laws.specs.Rights.{AreWithinEach, HasAllAsked}
use Rattle.session_laws.proofs.Crossings.{Passes, crossing_passes}
use Rattle.session_laws.proofs.Opens.{Crosses, open_grants}
use Rattle.session_laws.proofs.Sets.{granted_within, has_onward, limit_has_onward, limit_within, within_all}

-- ---- a request that isn't refused for its method

-- an Open's own row says what it binds or sends on
open_row : (context : Context) (path : List ℕ) (word : ℕ) (attributes : Option ℕ) (object : ℕ) (birth : Birth) (announced : Bool) → (act_of context (asks.open_path path word attributes object)).answer ≡ binds birth announced → (open_act context path word).answer ≡ binds birth announced
unfolding act_of
open_row context path word attributes object birth announced =
    unless_holds (λ act. act.answer ≡ binds birth announced → (open_act context path word).answer ≡ binds birth announced) (first_of (method_refusals context.birth (method_of (asks.open_path path word attributes object)))) context.position (method_of (asks.open_path path word attributes object)) (open_act context path word)
    (λ s e. absurd (cc)) (λ passes e. e)

pub open_row_on : (context : Context) (path : List ℕ) (word : ℕ) (attributes : Option ℕ) (object mount flags : ℕ) (rest : List (List ℕ)) → (act_of context (asks.open_path path word attributes object)).answer ≡ forwards mount flags rest → (open_act context path word).answer ≡ forwards mount flags rest
unfolding act_of
open_row_on context path word attributes object mount flags rest =
    unless_holds (λ act. act.answer ≡ forwards mount flags rest → (open_act context path word).answer ≡ forwards mount flags rest) (first_of (method_refusals context.birth (method_of (asks.open_path path word attributes object)))) context.position (method_of (asks.open_path path word attributes object)) (open_act context path word)
    (λ s e. absurd (cc)) (λ passes e. e)

rights_of : OperationSet → Answer → OperationSet
rights_of other (binds birth announced) = birth.rights
rights_of other _ = other

-- a Clone binds the connection's own rights
clone_row : (context : Context) (endpoint : ℕ) (birth : Birth) (announced : Bool) → (act_of context (asks.clone endpoint)).answer ≡ binds birth announced → birth.rights ≡ context.birth.rights
unfolding act_of rights_of
clone_row context endpoint birth announced =
    unless_holds Clones (first_of (method_refusals context.birth (method_of (asks.clone endpoint)))) context.position (method_of (asks.clone endpoint)) _ (λ s e. absurd (cc))
    (λ passes.
    unless_holds Clones (first_of (cause_if (is_full context.room) status.NoResources ∷ [])) context.position (method_of (asks.clone endpoint)) (only context.position (binds context.birth false)) (λ s e. absurd (cc))
    (λ room e. sym (ap (rights_of birth.rights) e))) where
      Clones : Act → Type 0
      Clones act = act.answer ≡ binds birth announced → birth.rights ≡ context.birth.rights

-- ---- trails

-- what holds of each member of the lineage, and of each set that has what the word can get, holds of each member of the trail
pub trail_each : (Q : OperationSet → Type 0) (lines : Lines) (word endpoint : ℕ) (rights : OperationSet) (o : Option ℕ) → AreWithinEach rights (lines.lineage endpoint) → ((origin : ℕ) → o ≡ Some origin → All (HasAllAsked word) (lines.onward origin)) →
    ((member : OperationSet) → is_within rights member ≡ true → Q member) → ((member : OperationSet) → HasAllAsked word member → Q member) → All Q (trail_by lines endpoint o)
trail_each Q lines word endpoint rights None within asked own over = All-weaker (λ member. IsTrue (is_within rights member)) Q own (lines.lineage endpoint) within
trail_each Q lines word endpoint rights (Some origin) within asked own over = All-weaker (HasAllAsked word) Q over (lines.onward origin) (asked origin refl)

-- ---- what is bound

along : (some : OperationSet) (w : Walk) → AreWithinEach some (masks_of w) → AreWithinEach some (masks_along w)
along some (arrives node masks) h = h
along some (missing directory name masks) h =
    All-append (λ member. IsTrue (is_within some member)) masks (all ∷ []) h
    (All-cons (λ member. IsTrue (is_within some member)) all [] (within_all some) (All-nil (λ member. IsTrue (is_within some member))))
along some (crosses mount rest masks) h = h
along some (stops status) h = h

-- a serving's moment, the lines of its past, and that the connection's rights lie within its lineage
module _ (moment : Moment) (lines : Lines) (sent : Sent) (within : AreWithinEach moment.bound.birth.rights (lines.lineage sent.endpoint)) where
  abbrev context : Context
  context = context_at moment

  -- what a word can get lies within the trail of what came over a mount
  abbrev IsAsked : ℕ → Type 0
  IsAsked word = (origin : ℕ) → sent.origin ≡ Some origin → All (HasAllAsked word) (lines.onward origin)

  open_within : (path : List ℕ) (word : ℕ) (attributes : Option ℕ) (object : ℕ) (birth : Birth) (announced : Bool) → IsAsked word →
      (act_of (context_at moment) (asks.open_path path word attributes object)).answer ≡ binds birth announced →
      AreWithinEach birth.rights (trail_in lines sent ++ masks_along (walk_at moment path word))
  open_within path word attributes object birth announced asked e =
      let row = open_row (context_at moment) path word attributes object birth announced e in
      let narrowed = opens_narrow (context_at moment) path word birth announced row in
      let got = open_grants (context_at moment) path word birth announced row in
      All-append (λ member. IsTrue (is_within birth.rights member)) (trail_in lines sent) (masks_along (walk_at moment path word))
      (trail_each (λ member. IsTrue (is_within birth.rights member)) lines word sent.endpoint moment.bound.birth.rights sent.origin within asked
      (λ member own. within_trans birth.rights moment.bound.birth.rights member narrowed.0 own)
      (λ member has. ap (λ (some : OperationSet). is_within some member) got.rights ∙ granted_within word got.limit member has))
      (along birth.rights (walk_at moment path word) narrowed.1)

  abbrev IsAskedIn : Asked → Type 0
  IsAskedIn (asks.open_path path word attributes object) = (origin : ℕ) → sent.origin ≡ Some origin → All (HasAllAsked word) (lines.onward origin)
  IsAskedIn _ = Unit {0}

  pub request_within : (request : Asked) (birth : Birth) (announced : Bool) → IsAskedIn request → (act_of (context_at moment) request).answer ≡ binds birth announced → AreWithinEach birth.rights (lineage_given lines sent moment request)
  request_within (asks.clone endpoint) birth announced asked e =
      subst (λ (some : OperationSet). AreWithinEach some (lines.lineage sent.endpoint)) (sym (clone_row (context_at moment) endpoint birth announced e)) within
  request_within (asks.open_path path word attributes object) birth announced asked e = open_within path word attributes object birth announced asked e
  request_within request birth announced asked e =
      absurd (subst (IsAnswer moment.room moment.tree request) e (act_answers (context_at moment) request).0)

  -- ---- what goes on

  pub crossed_within : (start : Start) (path : List ℕ) (word mount flags : ℕ) (rest : List (List ℕ)) → IsAsked word → Crosses (context_at moment) path word mount flags rest →
      ((masks : List OperationSet) → Passes moment.tree word mount masks → (end : Bound) → slice_get start.mounts mount ≡ Some end → Contains masks end.birth.rights) →
      All (HasAllAsked flags) (trail_in lines sent ++ masks_of (walk_at moment path word) ++ end_rights start (walk_at moment path word))
  crossed_within start path word mount flags rest asked crossed mounted =
      let limit = limit_of moment.bound.birth.rights crossed.masks in
      let low = limit_within moment.bound.birth.rights crossed.masks in
      let passes = crossing_passes moment.tree word (names_of path) moment.bound.birth.node mount rest crossed.masks crossed.walked in
      let each : All (HasAllAsked (onward word limit)) crossed.masks = in_masks limit word crossed.masks passes.asked low.1 in
      subst (λ (n : ℕ). All (HasAllAsked n) (trail_in lines sent ++ masks_of (walk_at moment path word) ++ end_rights start (walk_at moment path word))) (sym crossed.left)
      (All-append (HasAllAsked (onward word limit)) (trail_in lines sent ++ masks_of (walk_at moment path word)) (end_rights start (walk_at moment path word))
      (All-append (HasAllAsked (onward word limit)) (trail_in lines sent) (masks_of (walk_at moment path word))
      (trail_each (HasAllAsked (onward word limit)) lines word sent.endpoint moment.bound.birth.rights sent.origin within asked
      (λ member own. limit_has_onward word limit member (within_trans (asked_rights word) moment.bound.birth.rights member crossed.asked own) (within_trans limit moment.bound.birth.rights member low.0 own))
      (λ member has. has_onward word limit member has))
      (subst (λ (w : Walk). All (HasAllAsked (onward word limit)) (masks_of w)) (sym crossed.walked) each))
      (subst (λ (w : Walk). All (HasAllAsked (onward word limit)) (end_rights start w)) (sym crossed.walked) (at_end limit each (slice_get start.mounts mount) (mounted crossed.masks passes)))) where
        in_masks : (limit : OperationSet) (word : ℕ) (masks : List OperationSet) → AreWithinEach (asked_rights word) masks → AreWithinEach limit masks → All (HasAllAsked (onward word limit)) masks
        in_masks limit word masks a b k d l = limit_has_onward word limit _ (a k d l) (b k d l)

        at_end : (limit : OperationSet) → All (HasAllAsked (onward word limit)) crossed.masks → (o : Option Bound) → ((end : Bound) → o ≡ Some end → Contains crossed.masks end.birth.rights) →
            All (HasAllAsked (onward word limit)) (option_map_or (λ end. end.birth.rights ∷ []) o [])
        at_end limit each None there = All-nil (HasAllAsked (onward word limit))
        at_end limit each (Some end) there =
            All-cons (HasAllAsked (onward word limit)) end.birth.rights [] (All-contains (HasAllAsked (onward word limit)) crossed.masks end.birth.rights each (there end refl)) (All-nil (HasAllAsked (onward word limit)))

-- ---- the mask of the mount

some_kind : (o : Option NodeKind) (index : ℕ) → unwrap_or o Directory ≡ Mount index → o ≡ Some (Mount index)
some_kind None index e = absurd (cc)
some_kind (Some kind) index e = ap Some e

same_edge : {a b : EdgeTo} → Some a ≡ Some b → a ≡ b
same_edge e = cc

-- the one edge to a mount has the rights of its end
pub end_is_passed : (start : Start) (trees : List Tree) (server word mount : ℕ) (masks : List OperationSet) → AreMountedOnce start trees → Passes (tree_at trees server) word mount masks → (end : Bound) → slice_get start.mounts mount ≡ Some end → Contains masks end.birth.rights
end_is_passed start trees server word mount masks mounts passes end there =
    let one = mounts mount end there in
    let kind : kind_of (tree_at trees server) passes.edge.child ≡ Some (Mount mount) = some_kind (kind_of (tree_at trees server) passes.edge.child) mount passes.leads in
    let at : server ≡ one.host = one.alone server passes.edge.child kind in
    let here = subst (λ (s : ℕ). HasOneEdge (tree_at trees s) mount end.birth.rights) (sym at) one.edge in
    let key : passes.key ≡ here.key = here.alone passes.key passes.edge passes.there kind in
    let same : passes.edge ≡ here.to = same_edge (sym passes.there ∙ ap (edge_at (tree_at trees server)) key ∙ here.there) in
    subst (Contains masks) (ap (λ (edge : EdgeTo). edge.mask) same ∙ here.masked) passes.masked
