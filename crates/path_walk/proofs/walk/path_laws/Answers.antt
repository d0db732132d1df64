-- The laws, from the lemmas on texts.
use Rattle.path_walk.proofs.PathLemmas.{path_unique, path_sound, path_complete}
use Rattle.path_walk.proofs.walk.path_laws.Goals as goal

pub returns : goal.returns
returns c = record { unique = path_unique; sound = path_sound; complete = path_complete }
