-- What a node at the end of a walk is, and what is granted there.
use Rattle.std.proofs.Common.{◌≡◌, ℕ, Bool, true, false, not, ◌&&◌, Option, Some, None, refl, ap}
use Rattle.std.specs.Prelude.{IsTrue, if◌then◌else◌, unwrap_or}
use Rattle.std.specs.Option.{option_map}
use Rattle.io_flags.specs.declared.names.Flag.TheVariants as flag
use Rattle.io_flags.specs.Grants.{explicit_rights, granted, granted_kind}
use Rattle.io_flags.specs.Words.{has}
use Rattle.io_flags.proofs.GrantLemmas.{within_join_left}
use Rattle.io_messages.specs.declared.protocols.Protocol.TheVariants as protocol
use Rattle.io_rights.specs.declared.operations.Operation.TheVariants as op
use Rattle.io_rights.specs.Operations.{OperationSet, single, is_within}
use Rattle.io_rights.proofs.OperationSets.{within_trans}
use Rattle.node_graph.specs.declared.nodes.NodeKind.{NodeKind}
use Rattle.node_graph.specs.declared.nodes.NodeKind.TheVariants.{Directory, File, Service, Mount}
use Rattle.node_graph.specs.Graph.{Kept, Seat, StandsFor, kind_at, seat_of}
use Rattle.node_graph.specs.Tree.{Tree}
use Rattle.conn_rules.specs.Nodes.{kind_here}
use Rattle.conn_rules.specs.Opens.{connects_without_right, protocol_of}

-- what the graph keeps of a node's kind is what the tree has
pub kind_kept : (graph : Kept) (tree : Tree) (number : ℕ) (kind : NodeKind) → StandsFor graph tree → kind_at graph number ≡ Some kind → kind_here tree number ≡ kind
kind_kept graph tree number kind stands is = by_seat (seat_of graph number) refl is
  where
    by_seat : (seat : Option Seat) → seat_of graph number ≡ seat → option_map (λ found. found.kind) seat ≡ Some kind → kind_here tree number ≡ kind
    by_seat None there is = absurd (cc)
    by_seat (Some seat) there is = rw (stands.rows number seat there) (ap (λ found. unwrap_or found seat.kind) is)

within_granted : (word : ℕ) (limit : OperationSet) → is_within (explicit_rights word) (granted word limit) ≡ true
unfolding explicit_rights granted
within_granted word limit = within_join_left _ _

no_reference : (word : ℕ) (rights : OperationSet) → has word flag.ProtocolNode ≡ false → granted_kind word rights ≡ rights
unfolding granted_kind
no_reference word rights e = rw e refl

-- a service is connected to with the right to it
pub connects : (word : ℕ) (limit : OperationSet) (kind : NodeKind) → connects_without_right word kind ≡ false → protocol_of word kind ≡ protocol.Echo →
    IsTrue (is_within (single op.Connect) (granted_kind word (granted word limit)))
connects word limit Directory passed is = by_flag (has word flag.ProtocolNode) is
  where
    by_flag : (node : Bool) → (if node then protocol.Node else protocol.Directory) ≡ protocol.Echo → IsTrue (is_within (single op.Connect) (granted_kind word (granted word limit)))
    by_flag true e = absurd (cc)
    by_flag false e = absurd (cc)
connects word limit File passed is = by_flag (has word flag.ProtocolNode) is
  where
    by_flag : (node : Bool) → (if node then protocol.Node else protocol.File) ≡ protocol.Echo → IsTrue (is_within (single op.Connect) (granted_kind word (granted word limit)))
    by_flag true e = absurd (cc)
    by_flag false e = absurd (cc)
connects word limit Service passed is = by_flag (has word flag.ProtocolNode) refl is passed
  where
    by_flag : (node : Bool) → has word flag.ProtocolNode ≡ node → (if node then protocol.Node else protocol.Echo) ≡ protocol.Echo →
        (not node && not (is_within (single op.Connect) (explicit_rights word))) ≡ false →
        IsTrue (is_within (single op.Connect) (granted_kind word (granted word limit)))
    by_flag true flagged e free = absurd (cc)
    by_flag false flagged e free =
        rw (no_reference word (granted word limit) flagged)
        (within_trans _ (explicit_rights word) _ (not_false _ free) (within_granted word limit))
      where
        not_false : (b : Bool) → not b ≡ false → b ≡ true
        not_false true e = refl
        not_false false e = absurd (cc)
connects word limit (Mount index) passed is = absurd (cc)
