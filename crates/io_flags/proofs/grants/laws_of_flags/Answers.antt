-- The laws, from the lemmas on words and limits.
use Rattle.std.proofs.Common.{refl}
use Rattle.io_flags.proofs.FlagWords.{same_flags}
use Rattle.io_flags.proofs.GrantLemmas.{granted-law, onward-set, onward-fault, onward-explicit, onward-asked}
use Rattle.io_flags.proofs.grants.laws_of_flags.Goals as goal

pub returns : goal.returns
returns c =
    record {
      same_flags = same_flags;
      granted = granted-law;
      onward_set = onward-set;
      onward_faults = λ set limit. refl;
      onward_fault = onward-fault;
      onward_explicit = onward-explicit;
      onward_asked = onward-asked;
    }
