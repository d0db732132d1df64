-- Laws of the definitions: of the rows of every tree that a graph stands for, of tokens, and of
-- what an Open binds.
use Rattle.std.specs.Prelude.{◌≡◌, ℕ, Bool, List, [], ◌∷◌, Some, All, IsTrue}
use Rattle.fidl_names.specs.declared.methods.Handle.{Handle}
use Rattle.fidl_names.specs.declared.methods.Handle.TheVariants.{Token}
use Rattle.fidl_wire.specs.Written.{Written}
use Rattle.io_flags.specs.Grants.{grant_of}
use Rattle.io_messages.specs.Replies.{Answered}
use Rattle.io_messages.specs.Replies as answers
use Rattle.io_rights.specs.Operations.{OperationSet, is_within}
use Rattle.node_graph.specs.declared.nodes.NodeRef.{NodeRef}
use Rattle.node_graph.specs.Graph.{Kept, Names, StandsFor, number_of, kind_at, bytes_at}
use Rattle.node_graph.specs.Tree.{Tree, kind_of}
use Rattle.path_walk.specs.Paths.{names_of}
use Rattle.conn_rules.specs.Answers.{binds}
use Rattle.conn_rules.specs.Births.{Birth}
use Rattle.conn_rules.specs.Contexts.{Context}
use Rattle.conn_rules.specs.Nodes.{bytes_of}
use Rattle.conn_rules.specs.Opens.{open_act}
use Rattle.conn_rules.specs.Served.{HasReply}
use Rattle.conn_rules.specs.Walks.{limit_of, masks_of, walk}

-- what a graph keeps of a node that a reference names is what the tree has of it
pub record IsRowOf (graph : Kept) (tree : Tree) (node : NodeRef) : Type 0 where
  pub kind : kind_of tree (number_of node) ≡ kind_at graph (number_of node)
  pub bytes : bytes_of tree (number_of node) ≡ bytes_at graph (number_of node)

abbrev pub KeptNodesAreRows : Type 0
KeptNodesAreRows = (graph : Kept) (tree : Tree) (node : NodeRef) → StandsFor graph tree →
    Names graph node → IsRowOf graph tree node

-- ---- tokens

-- the handles that a reply gives: its token, and no other
abbrev pub tokens_in : Answered → List Handle
tokens_in (answers.token number) = Token number ∷ []
tokens_in _ = []

-- a token was given exactly where the output has a handle: that of the token
abbrev pub HandlesAreTokens : Type 0
HandlesAreTokens =
    (txid : ℕ) (a : Answered) (out : Written) → HasReply txid a out → out.handles ≡ tokens_in a

-- ---- what an Open binds

-- some rights lie within these, and within each of these masks
abbrev pub IsWithinAll : OperationSet → OperationSet → List OperationSet → Type 0
IsWithinAll some rights masks =
    IsTrue (is_within some rights) × All (λ mask. IsTrue (is_within some mask)) masks

-- what an Open binds has the rights that its flags get under what its connection and the masks on
-- its way leave
abbrev pub OpensGrant : Type 0
OpensGrant =
    (context : Context) (path : List ℕ) (word : ℕ) (found : Birth) (announced : Bool) →
    (open_act context path word).answer ≡ binds found announced →
    grant_of word
    (limit_of context.birth.rights
    (masks_of (walk context.tree word (names_of path) context.birth.node)))
    ≡ Some found.rights

-- what an Open binds has no right that its connection lacks, and none that the mask of a name on
-- its way lacks
abbrev pub OpensOnlyNarrow : Type 0
OpensOnlyNarrow =
    (context : Context) (path : List ℕ) (word : ℕ) (found : Birth) (announced : Bool) →
    (open_act context path word).answer ≡ binds found announced →
    IsWithinAll found.rights context.birth.rights
    (masks_of (walk context.tree word (names_of path) context.birth.node))
