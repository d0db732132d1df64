-- What a walk passes that crosses a mount.
use Rattle.std.proofs.Common.{◌≡◌, ℕ, List, [], ◌∷◌, Some, Contains, ap, ◌∙◌, subst}
use Rattle.std.specs.Prelude.{IsTrue}
use Rattle.std.proofs.lemmas.List.Elements.{All-nil, All-cons}
use Rattle.io_flags.specs.Grants.{asked_rights}
use Rattle.io_rights.specs.Operations.{OperationSet, is_within}
use Rattle.io_rights.proofs.OperationSets.{within_trans}
use Rattle.node_graph.specs.declared.nodes.NodeKind.TheVariants.{Mount}
use Rattle.node_graph.specs.Tree.{Tree, EdgeKey, EdgeTo}
use Rattle.conn_rules.specs.Nodes.{edge_at, kind_behind}
use Rattle.conn_rules.proofs.EveryWalk.{HoldsAlong, every_walk, asked_in_inner}
use Rattle.conn_rules.specs.Walks.{Walk, arrives, missing, crosses, stops, behind, inner_rights, walk}
use Rattle.journal_laws.proofs.Members.{contains_here, contains_later}
use Rattle.session_laws.specs.Rights.{AreWithinEach}

-- each mask has what the word asks for, and the mask of an edge to the mount is among them
pub record Passes (tree : Tree) (word mount : ℕ) (masks : List OperationSet) : Type 0 where
  pub asked : AreWithinEach (asked_rights word) masks
  pub key : EdgeKey
  pub edge : EdgeTo
  pub there : edge_at tree key ≡ Some edge
  pub leads : kind_behind tree edge ≡ Mount mount
  pub masked : Contains masks edge.mask

abbrev Has : ℕ → OperationSet → Type 0
Has word mask = IsTrue (is_within (asked_rights word) mask)

-- the mask of a name is the first of the masks behind it
record Behind (mask : OperationSet) (w : Walk) (mount : ℕ) (rest : List (List ℕ)) (masks : List OperationSet) : Type 0 where
  more : List OperationSet
  walked : w ≡ crosses mount rest more
  masks_are : mask ∷ more ≡ masks

passed_behind : (mask : OperationSet) (w : Walk) (mount : ℕ) (rest : List (List ℕ)) (masks : List OperationSet) → behind mask w ≡ crosses mount rest masks → Behind mask w mount rest masks
passed_behind mask (arrives node more) mount rest masks e = absurd (cc)
passed_behind mask (missing directory name more) mount rest masks e = absurd (cc)
passed_behind mask (crosses index names more) mount rest masks e = record { more = more; walked = cc; masks_are = cc }
passed_behind mask (stops status) mount rest masks e = absurd (cc)

abbrev PassesThere : Tree → ℕ → ℕ → List (List ℕ) → Walk → Type 0
PassesThere tree word directory names w = (mount : ℕ) (rest : List (List ℕ)) (masks : List OperationSet) → w ≡ crosses mount rest masks → Passes tree word mount masks

passes_there : (tree : Tree) (word : ℕ) → HoldsAlong tree word (PassesThere tree word)
passes_there tree word = record {
  here = λ directory mount rest masks e. absurd (cc);
  absent = λ directory name none mount rest masks e. absurd (cc);
  node = λ directory name edge there other has mount rest masks e. absurd (cc);
  mount = λ directory name names edge index there leads has mount rest masks e.
      let same : index ≡ mount = cc in
      let alone : edge.mask ∷ [] ≡ masks = cc in
      subst (Passes tree word mount) alone
      (record {
        asked = All-cons (Has word) edge.mask [] has (All-nil (Has word));
        key = record { directory = directory; name = name };
        edge = edge;
        there = there;
        leads = leads ∙ ap (λ (n : ℕ). Mount n) same;
        masked = contains_here edge.mask [];
      });
  nowhere = λ directory name rest why mount left masks e. absurd (cc);
  further = λ directory name next rest edge there leads has onward later mount left masks e.
      let at = passed_behind edge.mask onward mount left masks e in
      let past = later mount left at.more at.walked in
      subst (Passes tree word mount) at.masks_are
      (record {
        asked = All-cons (Has word) edge.mask at.more (within_trans (asked_rights word) (inner_rights word) edge.mask (asked_in_inner word) has) past.asked;
        key = past.key;
        edge = past.edge;
        there = past.there;
        leads = past.leads;
        masked = contains_later past.edge.mask edge.mask at.more past.masked;
      });
}

pub crossing_passes : (tree : Tree) (word : ℕ) (names : List (List ℕ)) (directory mount : ℕ) (rest : List (List ℕ)) (masks : List OperationSet) → walk tree word names directory ≡ crosses mount rest masks → Passes tree word mount masks
crossing_passes tree word names directory = every_walk tree word (PassesThere tree word) (passes_there tree word) names directory
