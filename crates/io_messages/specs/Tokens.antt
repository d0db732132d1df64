-- The token that a request carries.
use Rattle.std.specs.Prelude.{ℕ, Option, Some, None}
use Rattle.io_messages.specs.Asked.{Asked}
use Rattle.io_messages.specs.Asked as asks

-- that of the directory which its second name is in
abbrev pub token_of : Asked → Option ℕ
token_of (asks.rename src token dst) = Some token
token_of (asks.link src token dst) = Some token
token_of _ = None
