use Rattle.std.proofs.Common.{refl, sym, ◌∙◌}
use Rattle.io_messages.proofs.Known.{method_in-has, method_in-lacks, method_in-none}
use Rattle.request_reader.proofs.reader.known.Goals as goal

pub returns-in_err-method : goal.returns-in_err-method
returns-in_err-method c = c.from_residual.ensures ∙ sym (method_in-none c.args.protocol c.args.ordinal (c.in_err-method.ensures.none refl))

pub returns-then-has_method : goal.returns-then-has_method
returns-then-has_method c = sym (method_in-has c.args.protocol c.args.ordinal c.in_ok-method.method (sym c.if-has_method.ensures) c.in_ok-method.ensures.found c.in_ok-method.ensures.only)

pub returns-else-has_method : goal.returns-else-has_method
returns-else-has_method c = sym (method_in-lacks c.args.protocol c.args.ordinal c.in_ok-method.method (sym c.if-has_method.ensures) c.in_ok-method.ensures.only)
