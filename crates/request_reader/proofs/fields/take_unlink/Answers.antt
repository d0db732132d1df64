use Rattle.request_reader.proofs.Taking.{first_part}
use Rattle.request_reader.proofs.fields.take_unlink.Goals as goal

pub returns-clause-parts : goal.returns-clause-parts
returns-clause-parts c = first_part 48 _ _ c.requires c.in_ok-name.ensures.part
