-- Whoever is or was bound stands on a node of its tree at each time of a lawful journal.
use Rattle.std.proofs.Common.{◌≡◌, ℕ, zero, suc, ◌<◌, ◌==◌, ◌⊎◌, not, List, [], ◌∷◌, ◌++◌, length, option_to_list, Option, Some, None, All, refl, sym, ap, ◌∙◌, subst, inl, inr, append-nil, arith}
use Rattle.std.specs.Prelude.{IsSome}
use Rattle.std.specs.FinMap.{get-empty}
use Rattle.std.specs.Option.{option_map}
use Rattle.std.proofs.lemmas.Bool.{cases_order}
use Rattle.std.proofs.lemmas.List.{get_or-set_same, get_or-set_other, length-set}
use Rattle.std.proofs.lemmas.List.Elements.{All-nil, All-cons, All-head, All-tail, All-append, All-contains, All-filter, All-weaker}
use Rattle.io_messages.specs.declared.protocols.Protocol.{Protocol}
use Rattle.io_rights.specs.Operations.{OperationSet}
use Rattle.node_graph.specs.Tree.{IsSound, NodeRow, Tree, Change, after, bare_tree, edge_cmp, kind_of, row_of}
use Rattle.node_graph.specs.declared.nodes.NodeKind.{NodeKind}
use Rattle.node_graph.specs.declared.nodes.NodeKind.TheVariants.{Directory, Mount}
use Rattle.session_start.specs.Sound.{HasOneEdge}
use Rattle.vfs_journal.specs.Entries.{Journal, Sent, serves}
use Rattle.vfs_journal.specs.History.{History, births, changed, is_dead, living, tree_at, trees_of}
use Rattle.vfs_journal.specs.Lawful.{Lawful}
use Rattle.vfs_journal.specs.Outcomes.{Given, Outcome}
use Rattle.vfs_journal.specs.Past.{behind, event_of, history_of}
use Rattle.vfs_journal.specs.Serving.{moment_of, outcome_at, outcome_of}
use Rattle.vfs_journal.specs.Session.{head}
use Rattle.vfs_journal.specs.Starts.{Bound, Start}
use Rattle.vfs_journal.specs.Tokens.{all_given}
use Rattle.journal_laws.specs.Laws.{HasSameEndpoints}
use Rattle.journal_laws.specs.Soundness.{AreMountedOnce, IsOnDirectory, IsStart}
use Rattle.journal_laws.specs.Trees.{IsOnNode, NamesDirectory, StandOnTrees, suits}
use Rattle.journal_laws.proofs.Below.{Below}
use Rattle.journal_laws.proofs.Kept.{is_serving, lawful_kept}
use Rattle.journal_laws.proofs.Members.{found, kept_of}
use Rattle.journal_laws.proofs.Orderly.{HasChildren, IsOrderly, children_stay, edge_stays, kind_stays, mount_back}
use Rattle.journal_laws.proofs.Placed.{IsPlacedOutcome, sending_placed}
use Rattle.journal_laws.proofs.Stepping.{GoesOn, Stepped, at_each, onward_of, stepped}
use Rattle.journal_laws.proofs.Steps.{refusals_change_nothing, sendings_wait_last, servings_take_effect}

-- names lead to nodes beside that
pub record Stand (start : Start) (trees : List Tree) (born : List Bound) (tokens : List Given) : Type 0 where
  pub many : length trees ≡ length start.trees
  pub children : (server : ℕ) → HasChildren (tree_at trees server)
  pub mounts : AreMountedOnce start trees
  pub placed : All (IsOnNode trees) born
  pub given : All (NamesDirectory trees) tokens

abbrev pub StandAt : Start → History → Type 0
StandAt start history = Stand start (trees_of start history) (births start history) (all_given history)

-- ---- the trees with a change of one

module _ (trees : List Tree) (server : ℕ) (change : Change) (within : server < length trees) where
  abbrev new_trees : List Tree
  new_trees = changed trees server change

  -- the tree of a server then
  data TreeThen (other : ℕ) : Type 0 where
    here : other ≡ server → tree_at (changed trees server change) other ≡ after (tree_at trees server) change → TreeThen other
    elsewhere : tree_at (changed trees server change) other ≡ tree_at trees other → TreeThen other

  tree_then : (other : ℕ) → TreeThen other
  tree_then other = by_order (cases_order other server) where
    by_order : (other ≡ server) ⊎ ((other < server) ⊎ (server < other)) → TreeThen other
    by_order (inl e) = here e (ap (tree_at (changed trees server change)) e ∙ get_or-set_same trees server (after (tree_at trees server) change) bare_tree within)
    by_order (inr (inl l)) = elsewhere (get_or-set_other trees server other (after (tree_at trees server) change) bare_tree (λ e. omega (arith, e, l)))
    by_order (inr (inr l)) = elsewhere (get_or-set_other trees server other (after (tree_at trees server) change) bare_tree (λ e. omega (arith, e, l)))

  many_then : length (changed trees server change) ≡ length trees
  many_then = length-set trees server (after (tree_at trees server) change)

  kind_then : (other n : ℕ) (kind : NodeKind) → kind_of (tree_at trees other) n ≡ Some kind → kind_of (tree_at (changed trees server change) other) n ≡ Some kind
  kind_then other n kind e =
      elim (tree_then other) [
        | here at is ↦ ap (λ (tree : Tree). kind_of tree n) is ∙ kind_stays (tree_at trees server) change n kind (ap (λ (s : ℕ). kind_of (tree_at trees s) n) (sym at) ∙ e)
        | elsewhere is ↦ ap (λ (tree : Tree). kind_of tree n) is ∙ e
      ]

  children_then : IsOrderly (tree_at trees server) change → ((s : ℕ) → HasChildren (tree_at trees s)) → (other : ℕ) → HasChildren (tree_at (changed trees server change) other)
  children_then orderly children other =
      elim (tree_then other) [
        | here at is ↦ subst HasChildren (sym is) (children_stay (tree_at trees server) change orderly (children server))
        | elsewhere is ↦ subst HasChildren (sym is) (children other)
      ]

  mounts_then : (start : Start) → IsOrderly (tree_at trees server) change → AreMountedOnce start trees → AreMountedOnce start (changed trees server change)
  mounts_then start orderly mounts index end there =
      let one = mounts index end there in
      record {
        host = one.host;
        edge = edge_then one.host end.birth.rights index one.edge;
        alone = λ other n e. one.alone other n (mount_then other n index e);
      } where
        edge_then : (host : ℕ) (mask : OperationSet) (index : ℕ) → HasOneEdge (tree_at trees host) index mask → HasOneEdge (tree_at (changed trees server change) host) index mask
        edge_then host mask index one =
            elim (tree_then host) [
              | here at is ↦ subst (λ (tree : Tree). HasOneEdge tree index mask) (sym is) (edge_stays (tree_at trees server) change index mask orderly (subst (λ (s : ℕ). HasOneEdge (tree_at trees s) index mask) at one))
              | elsewhere is ↦ subst (λ (tree : Tree). HasOneEdge tree index mask) (sym is) one
            ]

        mount_then : (other n index : ℕ) → kind_of (tree_at (changed trees server change) other) n ≡ Some (Mount index) → kind_of (tree_at trees other) n ≡ Some (Mount index)
        mount_then other n index e =
            elim (tree_then other) [
              | here at is ↦ ap (λ (s : ℕ). kind_of (tree_at trees s) n) at ∙ mount_back (tree_at trees server) change n index orderly (sym (ap (λ (tree : Tree). kind_of tree n) is) ∙ e)
              | elsewhere is ↦ sym (ap (λ (tree : Tree). kind_of tree n) is) ∙ e
            ]

  node_then : (bound : Bound) → IsOnNode trees bound → IsOnNode (changed trees server change) bound
  node_then bound on = record {
    server = let many = many_then in let low = on.server in omega (arith, many, low);
    kind = on.kind;
    node = kind_then bound.server bound.birth.node on.kind on.node;
    suited = on.suited;
  }

  given_then : (given : Given) → NamesDirectory trees given → NamesDirectory (changed trees server change) given
  given_then given names = record {
    server = let many = many_then in let low = names.server in omega (arith, many, low);
    node = kind_then given.server given.node Directory names.node;
  }

-- ---- behind a serving

from_option : {X : Type 0} (P : X → Type 0) (o : Option X) → ((x : X) → o ≡ Some x → P x) → All P (option_to_list o)
from_option P None h = All-nil P
from_option P (Some x) h = All-cons P x [] (h x refl) (All-nil P)

-- what is new on the trees then
new_stands : (trees : List Tree) (bound : Bound) (outcome : Outcome) (change : Change) → outcome.change ≡ change → bound.server < length trees → IsPlacedOutcome (tree_at trees bound.server) bound outcome →
    (b : Bound) → outcome.bound ≡ Some b → IsOnNode (changed trees bound.server change) b
new_stands trees bound outcome change is within h b e =
    let new = h.new b e in
    record {
      server = (let many = many_then trees bound.server change within in let at = new.0 in omega (arith, many, at, within));
      kind = new.1.0;
      node = ap (λ (s : ℕ). kind_of (tree_at (changed trees bound.server change) s) b.birth.node) new.0
          ∙ ap (λ (tree : Tree). kind_of tree b.birth.node) (get_or-set_same trees bound.server (after (tree_at trees bound.server) change) bare_tree within)
          ∙ ap (λ (c : Change). kind_of (after (tree_at trees bound.server) c) b.birth.node) (sym is)
          ∙ new.1.1;
      suited = new.1.2;
    }

new_names : (trees : List Tree) (bound : Bound) (outcome : Outcome) (change : Change) → bound.server < length trees → IsPlacedOutcome (tree_at trees bound.server) bound outcome →
    (g : Given) → outcome.token ≡ Some g → NamesDirectory (changed trees bound.server change) g
new_names trees bound outcome change within h g e =
    let token = h.token g e in
    given_then trees bound.server change within g
    (record {
      server = (let at = token.0 in omega (arith, at, within));
      node = ap (λ (s : ℕ). kind_of (tree_at trees s) g.node) token.0 ∙ token.1;
    })

served_by : (start : Start) (trees : List Tree) (born : List Bound) (tokens : List Given) (bound : Bound) (outcome : Outcome) → Stand start trees born tokens → bound.server < length trees → IsPlacedOutcome (tree_at trees bound.server) bound outcome →
    (server : ℕ) → outcome.server ≡ server → server ≡ bound.server →
    Stand start (changed trees server outcome.change) (born ++ option_to_list outcome.bound) (tokens ++ option_to_list outcome.token)
served_by start trees born tokens bound outcome stand within h server is at =
    subst (λ (s : ℕ). Stand start (changed trees s outcome.change) (born ++ option_to_list outcome.bound) (tokens ++ option_to_list outcome.token)) (sym at)
    (record {
      many = many_then trees bound.server outcome.change within ∙ stand.many;
      children = children_then trees bound.server outcome.change within h.orderly stand.children;
      mounts = mounts_then trees bound.server outcome.change within start h.orderly stand.mounts;
      placed = All-append (IsOnNode (changed trees bound.server outcome.change)) born (option_to_list outcome.bound)
          (All-weaker (IsOnNode trees) (IsOnNode (changed trees bound.server outcome.change)) (node_then trees bound.server outcome.change within) born stand.placed)
          (from_option (IsOnNode (changed trees bound.server outcome.change)) outcome.bound (new_stands trees bound outcome outcome.change refl within h));
      given = All-append (NamesDirectory (changed trees bound.server outcome.change)) tokens (option_to_list outcome.token)
          (All-weaker (NamesDirectory trees) (NamesDirectory (changed trees bound.server outcome.change)) (given_then trees bound.server outcome.change within) tokens stand.given)
          (from_option (NamesDirectory (changed trees bound.server outcome.change)) outcome.token (new_names trees bound outcome outcome.change within h));
    })

-- ---- lawful journals

same_stand : (start : Start) (now past : History) → HasSameEndpoints start now past → StandAt start past → StandAt start now
same_stand start now past same h =
    subst (λ (tokens : List Given). Stand start (trees_of start now) (births start now) tokens) (sym same.tokens)
    (subst (λ (born : List Bound). Stand start (trees_of start now) born (all_given past)) (sym same.born)
    (subst (λ (trees : List Tree). Stand start trees (births start past) (all_given past)) (sym same.trees) h))

served_stand : Below → (start : Start) (journal : Journal) (sent : Sent) → IsStart start → Lawful start journal → head start (history_of start journal) sent.endpoint ≡ Some sent → StandAt start (history_of start journal) →
    StandAt start (behind start (serves sent) (history_of start journal))
unfolding event_of
served_stand below start journal sent s lawful' first h =
    let past = history_of start journal in
    let now = behind start (serves sent) past in
    let event = event_of start past (serves sent) in
    let effect = servings_take_effect start past sent in
    let serving' = is_serving below start journal sent s (stepped start journal lawful') (lawful_kept below start s journal lawful').sound first in
    let bound = serving'.at in
    let lives = (found (λ (b : Bound). b.endpoint == sent.endpoint) (living start past) bound serving'.bound).0 in
    let born = (kept_of (λ (b : Bound). not (is_dead past b.endpoint)) (births start past) bound lives).0 in
    let on = All-contains (IsOnNode (trees_of start past)) (births start past) bound h.placed born in
    let whole : outcome_of start past sent ≡ outcome_at start past sent (Some bound) = ap (outcome_at start past sent) serving'.bound in
    let placed' = subst (IsPlacedOutcome (tree_at (trees_of start past) bound.server) bound) (sym whole)
    (sending_placed below.spelled (moment_of start past bound) sent.sending (record { children = h.children bound.server; kind = on.kind; node = on.node; suited = on.suited })) in
    subst (λ (tokens : List Given). Stand start (trees_of start now) (births start now) tokens) (sym effect.tokens)
    (subst (λ (born : List Bound). Stand start (trees_of start now) born (all_given past ++ option_to_list event.outcome.token)) (sym effect.born)
    (subst (λ (trees : List Tree). Stand start trees (births start past ++ option_to_list event.outcome.bound) (all_given past ++ option_to_list event.outcome.token)) (sym effect.trees)
    (served_by start (trees_of start past) (births start past) (all_given past) bound event.outcome h on.server placed' event.outcome.server refl placed'.server)))

-- ---- the start

pub some_kind : (tree : Tree) (n : ℕ) → IsSome (row_of tree.nodes n) → (kind : NodeKind) × (kind_of tree n ≡ Some kind)
some_kind tree n some = by_row (row_of tree.nodes n) refl some where
  by_row : (o : Option NodeRow) → row_of tree.nodes n ≡ o → IsSome o → (kind : NodeKind) × (kind_of tree n ≡ Some kind)
  by_row None e some = absurd (cc)
  by_row (Some row) e some = (row.kind, ap (option_map (λ (r : NodeRow). r.kind)) e)

pub sound_children : (tree : Tree) → IsSound tree → HasChildren tree
sound_children tree sound key to there = some_kind tree to.child (sound.children key to there)

bare_children : HasChildren bare_tree
bare_children key to there = absurd (let wrong : None ≡ Some to = sym (get-empty edge_cmp key) ∙ there in cc)

at_start : (start : Start) → IsStart start → (server : ℕ) → HasChildren (tree_at start.trees server)
at_start start s server = by_place start.trees server s.trees where
  by_place : (trees : List Tree) (k : ℕ) → All IsSound trees → HasChildren (tree_at trees k)
  by_place [] k h = bare_children
  by_place (tree ∷ trees) zero h = sound_children tree (All-head IsSound tree trees h)
  by_place (tree ∷ trees) (suc k) h = by_place trees k (All-tail IsSound tree trees h)

on_directory : (trees : List Tree) (bound : Bound) → IsOnDirectory trees bound → IsOnNode trees bound
on_directory trees bound h = record {
  server = h.server;
  kind = Directory;
  node = h.node;
  suited = ap (λ (p : Protocol). suits p Directory) h.protocol;
}

first_stand : (start : Start) → IsStart start → StandAt start []
first_stand start s = record {
  many = refl;
  children = at_start start s;
  mounts = s.edges;
  placed = subst (All (IsOnNode start.trees)) (sym (append-nil (start.firsts ++ start.mounts)))
      (All-weaker (IsOnDirectory start.trees) (IsOnNode start.trees) (on_directory start.trees) (start.firsts ++ start.mounts) s.placed);
  given = All-nil (NamesDirectory start.trees);
}

stand_goes_on : Below → (start : Start) → IsStart start → GoesOn start (λ journal. StandAt start (history_of start journal))
unfolding history_of
stand_goes_on below start s = record {
  begins = first_stand start s;
  refuses_on = λ earlier endpoint why h. same_stand start _ (history_of start earlier) (refusals_change_nothing start (history_of start earlier) endpoint why).same h;
  sends_on = λ earlier one is alone h. same_stand start _ (history_of start earlier) (sendings_wait_last start (history_of start earlier) one).same h;
  serves_on = λ earlier one all first h. served_stand below start earlier one s all first h;
  forwards_on = λ earlier one forward all first e old h.
      same_stand start _ (history_of start (serves one ∷ earlier)) (sendings_wait_last start (history_of start (serves one ∷ earlier)) (onward_of earlier one forward)).same h;
}

-- at each time
pub stand_at : Below → (start : Start) (past : Journal) → IsStart start → Stepped start past → StandAt start (history_of start past)
stand_at below start past s h = at_each start (λ journal. StandAt start (history_of start journal)) (stand_goes_on below start s) past h

pub lawful_stand : Below → (start : Start) (journal : Journal) → IsStart start → Lawful start journal → StandAt start (history_of start journal)
lawful_stand below start journal s h = stand_at below start journal s (stepped start journal h)

pub stand_at_time : Below → (start : Start) (past : Journal) → IsStart start → Stepped start past → StandOnTrees start (history_of start past)
stand_at_time below start past s h =
    let stand = stand_at below start past s h in
    record { many = stand.many; mounts = stand.mounts; placed = stand.placed; tokens = stand.given }

-- and so who lives
pub record LiveOnTrees (start : Start) (history : History) : Type 0 where
  pub many : length (trees_of start history) ≡ length start.trees
  pub mounts : AreMountedOnce start (trees_of start history)
  pub placed : All (IsOnNode (trees_of start history)) (living start history)
  pub tokens : All (NamesDirectory (trees_of start history)) (all_given history)

pub stand_on_trees : Below → (start : Start) (journal : Journal) → IsStart start → Lawful start journal → LiveOnTrees start (history_of start journal)
stand_on_trees below start journal s h =
    let past = history_of start journal in
    let stand = lawful_stand below start journal s h in
    record {
      many = stand.many;
      mounts = stand.mounts;
      placed = All-filter (λ bound. not (is_dead past bound.endpoint)) (IsOnNode (trees_of start past)) (births start past) stand.placed;
      tokens = stand.given;
    }
