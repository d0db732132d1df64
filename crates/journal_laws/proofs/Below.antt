-- What the laws of journals stand on: the laws of the layers below, where no two names have equal ordinals.
use Rattle.std.specs.Prelude.{◌≡◌, ℕ, List, None}
use Rattle.wire_laws.specs.Laws.{ReadsWhatIsSpelled, SpelledWhereRead}
use Rattle.fidl_wire.specs.Names.{AreDistinct}
use Rattle.request_reader.specs.Laws.{WrittenRequestsAreRead}
use Rattle.path_walk.specs.Paths.{IsPath, names_of, path_fault}
use Rattle.wire_laws.proofs.Bodies.{spelled_read, read_spelled}
use Rattle.wire_laws.proofs.ReadHeaders.{header_again}
use Rattle.wire_laws.proofs.Spelled.{message_spelled}
use Rattle.request_reader.proofs.WrittenRequests.{written_request}
use Rattle.path_walk.proofs.PathLemmas.{path_sound, path_complete}

pub record Below : Type 0 where
  pub spelled : SpelledWhereRead
  pub reads : ReadsWhatIsSpelled
  pub written : WrittenRequestsAreRead
  pub apart : AreDistinct
  pub sound : (text : List ℕ) → path_fault text ≡ None → IsPath text (names_of text)
  pub complete : (text : List ℕ) (names : List (List ℕ)) → IsPath text names → (path_fault text ≡ None) × (names_of text ≡ names)

pub below : AreDistinct → Below
below apart = record {
  spelled = read_spelled;
  reads = spelled_read;
  written = written_request message_spelled header_again;
  apart = apart;
  sound = path_sound;
  complete = path_complete;
}
