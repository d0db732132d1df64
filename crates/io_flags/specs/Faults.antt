-- The faults of a flag word, in their order.
use Rattle.std.specs.Prelude.{ℕ, Bool, not, ◌&&◌, ◌||◌, List, [], ◌∷◌, Option}
use Rattle.fidl_names.specs.First.{cause_if, first_of}
use Rattle.fidl_names.specs.declared.statuses.Status.{Status}
use Rattle.fidl_names.specs.declared.statuses.Status.TheVariants as status
use Rattle.io_flags.specs.declared.names.Flag.TheVariants as flag
use Rattle.io_flags.specs.declared.faults.FlagFault.{FlagFault}
use Rattle.io_flags.specs.declared.faults.FlagFault.TheVariants as fault
use Rattle.io_flags.specs.Words.{FlagSet, names_protocol, names_alone, makes, flags_of, has_unnamed_bit}

-- what is missing may be there and may not
abbrev pub makes_twice : FlagSet → Bool
makes_twice set = set.maybe_create && set.must_create

-- what no server of this protocol has
abbrev pub is_unsupported : FlagSet → Bool
is_unsupported set = set.protocol_symlink || set.unnamed_temporary

-- something is to be created, and it isn't asked for a directory alone or a file alone
abbrev pub makes_no_kind : FlagSet → Bool
makes_no_kind set = makes set && not (names_alone set flag.ProtocolDirectory || names_alone set flag.ProtocolFile)

-- a flag for files alone, beside protocol flags without FILE
abbrev pub marks_no_file : FlagSet → Bool
marks_no_file set = (set.file_append || set.file_truncate) && (names_protocol set && not set.protocol_file)

-- a file is to be cut without the right to write
abbrev pub truncates_without_right : FlagSet → Bool
truncates_without_right set = set.file_truncate && not set.rights.write_bytes

-- a node reference beside another protocol
abbrev pub mixes_node : FlagSet → Bool
mixes_node set = set.protocol_node && not (names_alone set flag.ProtocolNode)

-- what is wrong with a set of flags, in order
abbrev pub set_faults : FlagSet → List (Option FlagFault)
set_faults set =
    cause_if (makes_twice set) fault.BothCreate
    ∷ cause_if (is_unsupported set) fault.Unsupported
    ∷ cause_if (makes_no_kind set) fault.CreateKind
    ∷ cause_if (marks_no_file set) fault.FileFlags
    ∷ cause_if (truncates_without_right set) fault.TruncateRight
    ∷ cause_if (mixes_node set) fault.NodeAlone
    ∷ []

-- what is wrong with a word first: a bit without a name, or its flags
unfoldable pub flag_fault : ℕ → Option FlagFault
flag_fault word = first_of (cause_if (has_unnamed_bit word) fault.UnknownBit ∷ set_faults (flags_of word))

-- the status that each fault answers
abbrev pub status_of : FlagFault → Status
status_of fault.Unsupported = status.NotSupported
status_of _ = status.InvalidArgs
