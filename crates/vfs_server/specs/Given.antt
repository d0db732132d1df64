-- What a connection of any kind gives to a request. No public clause needs this.
use Rattle.std.specs.Prelude.{ℕ, List}
use Rattle.fidl_names.specs.declared.statuses.Status.{Status}
use Rattle.conn_rules.specs.declared.births.Birth as code

-- a reply in the output, or the reply to Close, behind which the endpoint ends; an endpoint to bind; the reply to Watch, and a mask to watch by;
-- an Open that goes on; the end of the endpoint that the request carries, or of the connection's own; or memory is wanting
pub data Given : Type 0 where
  Reply : Given
  ReplyEnd : Given
  Bind : code.Birth → Given
  WatchBy : (mask : ℕ) → Given
  Forward : (mount flags : ℕ) (rest : List (List ℕ)) → Given
  Refused : Status → Given
  End : Status → Given
  NoMemory : Given
