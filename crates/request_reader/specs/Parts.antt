-- The requests for a part of a file's bytes.
use Rattle.io_messages.specs.Asked.{Asked}
use Rattle.io_messages.specs.Asked as asks

-- a request for a part of a file's bytes: a Read for the next ones, and a ReadAt for those at an
-- offset
abbrev pub AsksPart : Asked → Type 0
AsksPart (asks.read count) = Unit {0}
AsksPart (asks.read_at count offset) = Unit {0}
AsksPart _ = ⊥
