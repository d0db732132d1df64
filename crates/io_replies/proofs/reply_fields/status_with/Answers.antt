use Rattle.std.proofs.Common.{ap, ◌∙◌}
use Rattle.std.specs.Int.{w32}
use Rattle.std.proofs.lemmas.Int.{to_z-of_z}
use Rattle.io_replies.specs.Reading.{status_with}
use Rattle.io_replies.proofs.Numbered.{status_with-is}
use Rattle.io_replies.proofs.reply_fields.status_with.Goals as goal

pub returns : goal.returns
returns c =
    status_with-is c.from_number.result _ c.from_number.ensures.found c.from_number.ensures.none ∙ ap status_with (to_z-of_z w32 c.args.number c.ranges.number)
