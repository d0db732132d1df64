-- What each mask has that a walk passes: the rights that are named, and where the walk doesn't arrive all that is asked for.
use Rattle.std.proofs.Common.{◌≡◌, ℕ, true, List, []}
use Rattle.std.specs.Prelude.{IsTrue}
use Rattle.std.proofs.lemmas.List.Elements.{All-nil, All-cons}
use Rattle.io_flags.specs.Grants.{asked_rights, explicit_rights}
use Rattle.io_rights.specs.Operations.{OperationSet, is_within}
use Rattle.io_rights.proofs.OperationSets.{within_trans}
use Rattle.node_graph.specs.Tree.{Tree}
use Rattle.conn_rules.proofs.EveryWalk.{HoldsAlong, every_walk, asked_in_inner, named_in_asked}
use Rattle.conn_rules.specs.Walks.{Walk, arrives, missing, crosses, stops, behind, inner_rights, walk, masks_of}
use Rattle.session_laws.specs.Rights.{AreWithinEach}

abbrev pub wanted_by : ℕ → Walk → OperationSet
wanted_by word (arrives node masks) = explicit_rights word
wanted_by word (missing directory name masks) = asked_rights word
wanted_by word (crosses mount rest masks) = asked_rights word
wanted_by word (stops status) = asked_rights word

abbrev pub HasWanted : ℕ → Walk → Type 0
HasWanted word w = AreWithinEach (wanted_by word w) (masks_of w)

abbrev Has : OperationSet → OperationSet → Type 0
Has some mask = IsTrue (is_within some mask)

wanted_behind : (word : ℕ) (mask : OperationSet) (w : Walk) → is_within (wanted_by word w) mask ≡ true → HasWanted word w → HasWanted word (behind mask w)
wanted_behind word mask (arrives node masks) h hs = All-cons (Has (explicit_rights word)) mask masks h hs
wanted_behind word mask (missing directory name masks) h hs = All-cons (Has (asked_rights word)) mask masks h hs
wanted_behind word mask (crosses mount rest masks) h hs = All-cons (Has (asked_rights word)) mask masks h hs
wanted_behind word mask (stops status) h hs = hs

-- a name before the last wants both
wanted_in_inner : (word : ℕ) (w : Walk) → is_within (wanted_by word w) (inner_rights word) ≡ true
wanted_in_inner word (arrives node masks) = within_trans (explicit_rights word) (asked_rights word) (inner_rights word) (named_in_asked word) (asked_in_inner word)
wanted_in_inner word (missing directory name masks) = asked_in_inner word
wanted_in_inner word (crosses mount rest masks) = asked_in_inner word
wanted_in_inner word (stops status) = asked_in_inner word

wanted_along : (tree : Tree) (word : ℕ) → HoldsAlong tree word (λ directory names w. HasWanted word w)
wanted_along tree word = record {
  here = λ directory. All-nil (Has (explicit_rights word));
  absent = λ directory name none. All-nil (Has (asked_rights word));
  node = λ directory name edge there other has. All-cons (Has (explicit_rights word)) edge.mask [] has (All-nil (Has (explicit_rights word)));
  mount = λ directory name rest edge index there leads has. All-cons (Has (asked_rights word)) edge.mask [] has (All-nil (Has (asked_rights word)));
  nowhere = λ directory name rest why. All-nil (Has (asked_rights word));
  further = λ directory name next rest edge there leads has onward later.
      wanted_behind word edge.mask onward (within_trans (wanted_by word onward) (inner_rights word) edge.mask (wanted_in_inner word onward) has) later;
}

pub walk_wanted : (tree : Tree) (word : ℕ) (names : List (List ℕ)) (directory : ℕ) → HasWanted word (walk tree word names directory)
walk_wanted tree word names directory = every_walk tree word (λ directory names w. HasWanted word w) (wanted_along tree word) names directory
