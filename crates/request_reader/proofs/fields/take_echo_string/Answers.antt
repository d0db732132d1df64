use Rattle.request_reader.proofs.Taking.{first_part}
use Rattle.request_reader.proofs.fields.take_echo_string.Goals as goal

pub returns-clause-parts : goal.returns-clause-parts
returns-clause-parts c = first_part 32 _ _ c.requires c.in_ok-value.ensures.part
