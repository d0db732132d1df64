-- The rights that flags ask for, those that they get under a limit, and the flags that go on to another server.
use Rattle.std.specs.Prelude.{ℕ, Bool, true, ◌&&◌, if◌then◌else◌, Option, Some, None}
use Rattle.io_rights.specs.declared.operations.Operation.TheVariants as op
use Rattle.io_rights.specs.Operations.{OperationSet, none, single, meet, join, is_within}
use Rattle.io_flags.specs.declared.names.Flag.{Flag}
use Rattle.io_flags.specs.declared.names.Flag.TheVariants as flag
use Rattle.io_flags.specs.Words.{FlagSet, makes, flags_of, word_of}

-- ---- over sets of flags

-- the rights that are named, and the right to change the directory where something is to be created
abbrev pub asked_by : FlagSet → OperationSet
asked_by set = if makes set then join set.rights (single op.ModifyDirectory) else set.rights

-- what each inherit flag adds
unfoldable pub write_set : OperationSet
write_set = join (single op.WriteBytes) (join (single op.UpdateAttributes) (single op.ModifyDirectory))

unfoldable pub execute_set : OperationSet
execute_set = single op.Execute

-- rights are added where their flag is set and the limit has all of them
abbrev pub added : Bool → OperationSet → OperationSet → OperationSet
added flagged limit rights = if flagged && is_within rights limit then rights else none

-- the rights that the flags get under a limit which has those that are named
abbrev pub granted_to : FlagSet → OperationSet → OperationSet
granted_to set limit =
    join set.rights (join (added set.inherit_write limit write_set) (added set.inherit_execute limit execute_set))

-- a node reference is left with GET_ATTRIBUTES at most
abbrev pub left_by_kind : FlagSet → OperationSet → OperationSet
left_by_kind set rights = if set.protocol_node then meet rights (single op.GetAttributes) else rights

-- nothing is granted where the limit lacks a right that is named
abbrev pub grant_to : FlagSet → OperationSet → Option OperationSet
grant_to set limit = if is_within set.rights limit then Some (left_by_kind set (granted_to set limit)) else None

-- the flags that go on to another server: each inherit flag only where the limit has all that it adds
abbrev pub going_on : FlagSet → OperationSet → FlagSet
going_on set limit =
    record set {
      inherit_write = set.inherit_write && is_within write_set limit;
      inherit_execute = set.inherit_execute && is_within execute_set limit;
    }

-- whether a flag that is set goes on
abbrev pub passes : OperationSet → Flag → Bool
passes limit flag.InheritWrite = is_within write_set limit
passes limit flag.InheritExecute = is_within execute_set limit
passes _ _ = true

-- ---- the same of the flags of a word

unfoldable pub explicit_rights : ℕ → OperationSet
explicit_rights word = (flags_of word).rights

unfoldable pub asked_rights : ℕ → OperationSet
asked_rights word = asked_by (flags_of word)

unfoldable pub granted : ℕ → OperationSet → OperationSet
granted word limit = granted_to (flags_of word) limit

unfoldable pub granted_kind : ℕ → OperationSet → OperationSet
granted_kind word rights = left_by_kind (flags_of word) rights

unfoldable pub grant_of : ℕ → OperationSet → Option OperationSet
grant_of word limit = grant_to (flags_of word) limit

-- the word of the flags that go on
unfoldable pub onward : ℕ → OperationSet → ℕ
onward word limit = word_of (going_on (flags_of word) limit)
