-- The graph of the one file, and the connection to it.
use Rattle.std.proofs.Common.{◌≡◌, ℕ, ◌+◌, ◌||◌, true, false, List, nat_lt, Some, None, refl, sym, ap, ◌∙◌, subst}
use Rattle.std.proofs.Math.Bool.{or-true}
use Rattle.std.specs.FinMap as finite
use Rattle.std.specs.Option.{option_map_or}
use Rattle.node_graph.specs.declared.nodes.NodeKind.TheVariants.{File}
use Rattle.node_graph.specs.declared.nodes.NodeRef.{NodeRef}
use Rattle.node_graph.specs.Graph.{Kept, HoldsNow, KeepsNames, Leads, Names, SameHolds, StandsFor, create_refusal, holds_at, is_kept, kind_at, number_of}
use Rattle.node_graph.specs.Tree.{EdgeTo, edge_cmp, bare_tree, make, stay, is_linked}
use Rattle.conn_rules.specs.Births.{Connection, born}
use Rattle.conn_rules.specs.declared.births.Birth as code
use Rattle.conn_rules.specs.Served.{KeepsHolds}
use Rattle.conn_rules.specs.Shared.{CanBeBound, is_spoken_at}
use Rattle.file_session.specs.Bound.{HasFile, IsBoundTo}
use Rattle.file_session.specs.OneFile.{birth, file_name, reading, tree_of}

-- what is held is kept
held_is_kept : (graph : Kept) → holds_at graph 2 ≡ 1 → is_kept graph 2 ≡ true
held_is_kept graph held = ap (λ holds. is_linked graph.edges 2 || nat_lt 0 holds) held ∙ or-true (is_linked graph.edges 2)

-- a node stays where names are kept
module _ (old new : Kept) (node : NodeRef) (is : number_of node ≡ 2) (keeps : KeepsNames old new) (named : Names old node) (held : holds_at new 2 ≡ 1) where
  stays : Names new node × (kind_at new (number_of node) ≡ kind_at old (number_of node))
  stays = keeps node named (ap (is_kept new) is ∙ held_is_kept new held)

-- the node of a birth
node_is : (found : code.Birth) → born found ≡ birth → number_of found.node ≡ 2
node_is found is = ap (λ b. b.node) is

-- a connection stays bound where nothing changes
pub stays_bound : (file : List ℕ) (old new : Connection) (before after' : Kept) → IsBoundTo file before old → KeepsHolds old new before after' → Leads before after' stay →
    IsBoundTo file after' new
stays_bound file old new before after' bound keeps leads =
    let held : holds_at after' 2 ≡ 1 = keeps.holds 2 ∙ bound.held in
    let both = stays before after' old.birth.node (node_is old.birth bound.birth_is) keeps.names bound.bound.named held in
    record {
      tree = leads (tree_of file) bound.tree;
      bound =
          subst (λ b. CanBeBound after' b) (sym keeps.birth)
          (record {
            named = both.0;
            spoken = ap (λ kind. option_map_or (is_spoken_at old.birth.protocol) kind false) both.1 ∙ bound.bound.spoken;
            connects = bound.bound.connects;
          });
      birth_is = ap born keeps.birth ∙ bound.birth_is;
      held = held;
    }

-- ---- making it

-- nothing refuses a name where there is none
pub free_at_first : create_refusal finite.empty file_name ≡ None
free_at_first = rw (finite.get-empty edge_cmp file_name) (rw (finite.len-empty edge_cmp EdgeTo) refl)

-- the first node that is made behind the root is the file
pub file_is_made : (file : List ℕ) (graph graph' : Kept) (node : NodeRef) → StandsFor graph bare_tree → graph.made ≡ 1 → ((number : ℕ) → holds_at graph number ≡ 0) →
    Leads graph graph' (make file_name (record { kind = File; bytes = file }) reading) → number_of node ≡ graph.made + 1 → Names graph' node → kind_at graph' (graph.made + 1) ≡ Some File → SameHolds graph graph' →
    HasFile file 0 graph' node
file_is_made file graph graph' node stands made none leads number named kind holds =
    let two : graph.made + 1 ≡ 2 = ap (λ n. n + 1) made in
    record {
      tree = leads bare_tree stands;
      number = number ∙ two;
      named = named;
      kind = ap (kind_at graph') (sym two) ∙ kind;
      held = holds 2 ∙ none 2;
    }

pub file_is_held : (file : List ℕ) (graph graph' : Kept) (node : NodeRef) → HasFile file 0 graph node → HoldsNow graph graph' (number_of node) (holds_at graph (number_of node) + 1) → Leads graph graph' stay → KeepsNames graph graph' → HasFile file 1 graph' node
file_is_held file graph graph' node has holds leads keeps =
    let now : HoldsNow graph graph' 2 (holds_at graph 2 + 1) = subst (λ n. HoldsNow graph graph' n (holds_at graph n + 1)) has.number holds in
    let held : holds_at graph' 2 ≡ 1 = now 2 ∙ ap (λ n. n + 1) has.held in
    let both = stays graph graph' node has.number keeps has.named held in
    record {
      tree = leads (tree_of file) has.tree;
      number = has.number;
      named = both.0;
      kind = ap (kind_at graph') (sym has.number) ∙ both.1 ∙ ap (kind_at graph) has.number ∙ has.kind;
      held = held;
    }
