-- Words of flags: a word without a nameless bit is a set of named flags.
use Rattle.std.specs.Prelude.{ℕ, ◌==◌, ◌^◌, Bool, not, ◌&&◌, ◌||◌, if◌then◌else◌, List, [], ◌∷◌, ◌++◌, map, sum_by}
use Rattle.std.specs.List.{list_any, list_all, count_by, range_with_len}
use Rattle.std.specs.Int.{bit_at}
use Rattle.io_rights.specs.Operations.{OperationSet, has as allows, set_of, bit_of, operations}
use Rattle.io_flags.specs.declared.names.Flag.{Flag}
use Rattle.io_flags.specs.declared.names.Flag.TheVariants as flag

-- ---- sets of flags

-- a set of flags: the rights that PERM flags name, and for each of the thirteen others whether it is in
pub record FlagSet : Type 0 where
  pub rights : OperationSet
  pub inherit_write : Bool
  pub inherit_execute : Bool
  pub protocol_service : Bool
  pub protocol_node : Bool
  pub protocol_directory : Bool
  pub protocol_file : Bool
  pub protocol_symlink : Bool
  pub maybe_create : Bool
  pub must_create : Bool
  pub unnamed_temporary : Bool
  pub file_append : Bool
  pub file_truncate : Bool
  pub send_representation : Bool

-- whether the flag is in the set
abbrev pub holds : FlagSet → Flag → Bool
holds set (flag.Perm operation) = allows set.rights operation
holds set flag.InheritWrite = set.inherit_write
holds set flag.InheritExecute = set.inherit_execute
holds set flag.ProtocolService = set.protocol_service
holds set flag.ProtocolNode = set.protocol_node
holds set flag.ProtocolDirectory = set.protocol_directory
holds set flag.ProtocolFile = set.protocol_file
holds set flag.ProtocolSymlink = set.protocol_symlink
holds set flag.MaybeCreate = set.maybe_create
holds set flag.MustCreate = set.must_create
holds set flag.UnnamedTemporary = set.unnamed_temporary
holds set flag.FileAppend = set.file_append
holds set flag.FileTruncate = set.file_truncate
holds set flag.SendRepresentation = set.send_representation

-- the set of the flags that pass a test
abbrev pub set_with : (Flag → Bool) → FlagSet
set_with test =
    record {
      rights = set_of (λ operation. test (flag.Perm operation));
      inherit_write = test flag.InheritWrite;
      inherit_execute = test flag.InheritExecute;
      protocol_service = test flag.ProtocolService;
      protocol_node = test flag.ProtocolNode;
      protocol_directory = test flag.ProtocolDirectory;
      protocol_file = test flag.ProtocolFile;
      protocol_symlink = test flag.ProtocolSymlink;
      maybe_create = test flag.MaybeCreate;
      must_create = test flag.MustCreate;
      unnamed_temporary = test flag.UnnamedTemporary;
      file_append = test flag.FileAppend;
      file_truncate = test flag.FileTruncate;
      send_representation = test flag.SendRepresentation;
    }

-- all flags
abbrev pub flags : List Flag
flags =
    map flag.Perm operations
    ++ flag.InheritWrite
    ∷ flag.InheritExecute
    ∷ flag.ProtocolService
    ∷ flag.ProtocolNode
    ∷ flag.ProtocolDirectory
    ∷ flag.ProtocolFile
    ∷ flag.ProtocolSymlink
    ∷ flag.MaybeCreate
    ∷ flag.MustCreate
    ∷ flag.UnnamedTemporary
    ∷ flag.FileAppend
    ∷ flag.FileTruncate
    ∷ flag.SendRepresentation
    ∷ []

-- the flags that name a protocol
abbrev pub protocols : List Flag
protocols =
    flag.ProtocolService ∷ flag.ProtocolNode ∷ flag.ProtocolDirectory ∷ flag.ProtocolFile ∷ flag.ProtocolSymlink ∷ []

-- some protocol is named
abbrev pub names_protocol : FlagSet → Bool
names_protocol set = list_any (holds set) protocols

-- this protocol is named, and no other
abbrev pub names_alone : FlagSet → Flag → Bool
names_alone set one = holds set one && (count_by (holds set) protocols == 1)

-- what is missing is to be created
abbrev pub makes : FlagSet → Bool
makes set = set.maybe_create || set.must_create

-- ---- the words that stand for them

-- the place of each flag's bit
abbrev pub place : Flag → ℕ
place (flag.Perm operation) = bit_of operation
place flag.InheritWrite = 13
place flag.InheritExecute = 14
place flag.ProtocolService = 32
place flag.ProtocolNode = 33
place flag.ProtocolDirectory = 34
place flag.ProtocolFile = 35
place flag.ProtocolSymlink = 36
place flag.MaybeCreate = 40
place flag.MustCreate = 41
place flag.UnnamedTemporary = 42
place flag.FileAppend = 44
place flag.FileTruncate = 45
place flag.SendRepresentation = 48

-- the flags whose bit is set in the word
unfoldable pub flags_of : ℕ → FlagSet
flags_of word = set_with (λ one. bit_at word (place one) == 1)

-- the word in which the bit of each flag of the set is set, and no other
unfoldable pub word_of : FlagSet → ℕ
word_of set = sum_by (λ one. if holds set one then 2 ^ place one else 0) flags

-- a bit of the word is set that is no flag's
unfoldable pub has_unnamed_bit : ℕ → Bool
has_unnamed_bit word =
    list_any (λ k. bit_at word k == 1 && list_all (λ one. not (place one == k)) flags) (range_with_len 0 64)

-- ---- the same of the flags of a word

abbrev pub has : ℕ → Flag → Bool
has word one = holds (flags_of word) one

abbrev pub has_protocol : ℕ → Bool
has_protocol word = names_protocol (flags_of word)

abbrev pub is_alone : ℕ → Flag → Bool
is_alone word one = names_alone (flags_of word) one

abbrev pub creates : ℕ → Bool
creates word = makes (flags_of word)
