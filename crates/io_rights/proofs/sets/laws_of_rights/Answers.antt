-- The laws, from the lemmas on sets.
use Rattle.io_rights.specs.Operations.{meet}
use Rattle.io_rights.proofs.OperationSets.{same_sets, within_each, within_from_each, within_trans, within_meet, meet_within_left, meet_within_right, set_of_bits-bits_of}
use Rattle.io_rights.proofs.LetterTexts.{same_letters}
use Rattle.io_rights.proofs.sets.laws_of_rights.Goals as goal

pub returns : goal.returns
returns c =
    record {
      extensional = same_sets;
      inclusion = λ a b. (within_each a b, within_from_each a b);
      greatest =
          λ a b c. (
            λ h.
                (within_trans c (meet a b) a h (meet_within_left a b), within_trans c (meet a b) b h (meet_within_right a b)),
            λ h. within_meet a b c h.0 h.1,
          );
      numbers = set_of_bits-bits_of;
      letters = same_letters;
    }
