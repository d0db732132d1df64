use Rattle.std.proofs.Common.{◌≡◌, true, false, Ok, [], subst}
use Rattle.io_messages.specs.Requests.{fields_of}
use Rattle.request_reader.proofs.AskedParts.{at_alone, next_alone, no_other}
use Rattle.request_reader.proofs.parts.part_behind.Goals as goal

pub returns-in_err-count-in-Read-clause-each : goal.returns-in_err-count-in-Read-clause-each
returns-in_err-count-in-Read-clause-each c a part asked =
    let bytes = c.args.bytes.now in
    let has = next_alone bytes a part (subst (λ m. fields_of m bytes [] ≡ Ok a) c.in-Read.is asked) in
    absurd (let wrong : false ≡ true = c.in_err-count-in-Read.ensures.each has.0 has.1 in cc)

pub returns-in_err-count-in-ReadAt-clause-each : goal.returns-in_err-count-in-ReadAt-clause-each
returns-in_err-count-in-ReadAt-clause-each c a part asked =
    let bytes = c.args.bytes.now in
    let has = at_alone bytes a part (subst (λ m. fields_of m bytes [] ≡ Ok a) c.in-ReadAt.is asked) in
    absurd (let wrong : false ≡ true = c.in_err-count-in-ReadAt.ensures.each has.0 has.1.0 has.1.1 in cc)

pub returns-in_default : goal.returns-in_default
returns-in_default c = record {
  fields = tt;
  part = tt;
  each = λ a part asked. absurd (no_other c.args.method c.args.bytes.now a part asked c.in_default.not-Read c.in_default.not-ReadAt);
}
