use Rattle.request_reader.proofs.Taking.{first_part}
use Rattle.request_reader.proofs.fields.take_write_at.Goals as goal

pub returns-clause-parts : goal.returns-clause-parts
returns-clause-parts c = first_part 40 _ _ c.requires c.in_ok-bytes.ensures.part
