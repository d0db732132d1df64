-- The laws, from the lemmas on words and sets.
use Rattle.io_flags.proofs.SetWords.{flags_of-word_of, word_of-small, word_of-named, word_of-flags_of}
use Rattle.io_flags.proofs.grants.words_are_sets.Goals as goal

pub returns : goal.returns
returns c =
    record {
      back = flags_of-word_of;
      named = λ set. (word_of-small set, word_of-named set);
      whole = word_of-flags_of;
    }
