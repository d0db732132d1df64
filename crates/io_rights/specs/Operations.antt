-- Sets of the nine operations, and the bits that stand for them.
use Rattle.std.specs.Prelude.{ℕ, ◌^◌, ◌==◌, Bool, true, false, not, ◌&&◌, ◌||◌, if◌then◌else◌, List, [], ◌∷◌, sum_by}
use Rattle.std.specs.List.{list_all}
use Rattle.std.specs.Int.{bit_at}
use Rattle.io_rights.specs.declared.operations.Operation.{Operation}
use Rattle.io_rights.specs.declared.operations.Operation.TheVariants as op

-- a set of operations: for each of the nine, whether it is in
pub record OperationSet : Type 0 where
  pub connect : Bool
  pub read_bytes : Bool
  pub write_bytes : Bool
  pub execute : Bool
  pub get_attributes : Bool
  pub update_attributes : Bool
  pub enumerate : Bool
  pub traverse : Bool
  pub modify_directory : Bool

-- whether the operation is in the set
abbrev pub has : OperationSet → Operation → Bool
has set op.Connect = set.connect
has set op.ReadBytes = set.read_bytes
has set op.WriteBytes = set.write_bytes
has set op.Execute = set.execute
has set op.GetAttributes = set.get_attributes
has set op.UpdateAttributes = set.update_attributes
has set op.Enumerate = set.enumerate
has set op.Traverse = set.traverse
has set op.ModifyDirectory = set.modify_directory

-- the set of the operations that pass a test
abbrev pub set_of : (Operation → Bool) → OperationSet
set_of test =
    record {
      connect = test op.Connect;
      read_bytes = test op.ReadBytes;
      write_bytes = test op.WriteBytes;
      execute = test op.Execute;
      get_attributes = test op.GetAttributes;
      update_attributes = test op.UpdateAttributes;
      enumerate = test op.Enumerate;
      traverse = test op.Traverse;
      modify_directory = test op.ModifyDirectory;
    }

-- all nine, in their order
abbrev pub operations : List Operation
operations =
    op.Connect ∷ op.ReadBytes ∷ op.WriteBytes ∷ op.Execute ∷ op.GetAttributes ∷ op.UpdateAttributes ∷ op.Enumerate ∷ op.Traverse ∷ op.ModifyDirectory ∷ []

-- the bit of each
abbrev pub bit_of : Operation → ℕ
bit_of op.Connect = 0
bit_of op.ReadBytes = 1
bit_of op.WriteBytes = 2
bit_of op.Execute = 3
bit_of op.GetAttributes = 4
bit_of op.UpdateAttributes = 5
bit_of op.Enumerate = 6
bit_of op.Traverse = 7
bit_of op.ModifyDirectory = 8

-- no operation, and all nine
abbrev pub none : OperationSet
none = set_of (λ _. false)

abbrev pub all : OperationSet
all = set_of (λ _. true)

-- the set of this operation alone
abbrev pub single : Operation → OperationSet
single one = set_of (λ operation. bit_of operation == bit_of one)

-- the operations that are in both
unfoldable pub meet : OperationSet → OperationSet → OperationSet
meet a b = set_of (λ operation. has a operation && has b operation)

-- the operations that are in one or the other
unfoldable pub join : OperationSet → OperationSet → OperationSet
join a b = set_of (λ operation. has a operation || has b operation)

-- whether each operation of the first set is in the second
unfoldable pub is_within : OperationSet → OperationSet → Bool
is_within a b = list_all (λ operation. not (has a operation) || has b operation) operations

-- the operations whose bit is set in the number
unfoldable pub set_of_bits : ℕ → OperationSet
set_of_bits bits = set_of (λ operation. bit_at bits (bit_of operation) == 1)

-- the number in which the bit of each operation of the set is set, and no other
unfoldable pub bits_of : OperationSet → ℕ
bits_of set = sum_by (λ operation. if has set operation then 2 ^ bit_of operation else 0) operations
