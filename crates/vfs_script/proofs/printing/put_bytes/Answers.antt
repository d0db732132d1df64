use Rattle.std.proofs.Common.{◌++◌, sym, ap, ◌∙◌}
use Rattle.std.proofs.lemmas.Result.{on_ok_weaker}
use Rattle.vfs_script.proofs.PrintLemmas.{bytes_text-empty, bytes_text-other}
use Rattle.vfs_script.proofs.printing.put_bytes.Goals as goal

pub returns-clause-put : goal.returns-clause-put
returns-clause-put c =
    on_ok_weaker c.put_digits.result
    (λ put. put ∙ ap (λ t. c.args.to.now ++ t) (sym (bytes_text-other c.args.bytes.now (sym c.is_empty.ensures ∙ c.if-is_empty.false))))
    c.put_digits.ensures.put

pub returns-then-is_empty-clause-put : goal.returns-then-is_empty-clause-put
returns-then-is_empty-clause-put c =
    on_ok_weaker c.put_byte.result
    (λ put. put ∙ ap (λ t. c.args.to.now ++ t) (sym (bytes_text-empty c.args.bytes.now (sym c.is_empty.ensures ∙ c.if-is_empty.true))))
    c.put_byte.ensures.put
