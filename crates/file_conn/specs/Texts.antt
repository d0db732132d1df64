-- The text of a request.
use Rattle.std.specs.Prelude.{ℕ, List, []}
use Rattle.io_messages.specs.Asked.{Asked}
use Rattle.io_messages.specs.Asked as asks

-- what a request to echo a text has as its text
abbrev pub text_of : Asked → List ℕ
text_of (asks.echo_string value) = value
text_of _ = []
