use Rattle.message_queues.proofs.Least.{least_in, none_in, zero_if}
use Rattle.message_queues.proofs.heads.least_of.Goals as goal

pub returns-in-Some : goal.returns-in-Some
returns-in-Some c = least_in c.args.others.now (c.in-Some.place.now, c.in-Some.endpoint.now) c.in-Some.ensures.value c.in-Some.ensures.least

pub returns-in-None : goal.returns-in-None
returns-in-None c = none_in c.args.others.now (zero_if _ (λ some. absurd (let wrong = c.in-None.ensures.variant.1 some in cc)))
