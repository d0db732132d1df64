use Rattle.turn_rows.proofs.Tables.{each_message}
use Rattle.turn_rows.proofs.rows.each_message_is_told.Goals as goal

pub returns : goal.returns
returns c = each_message
