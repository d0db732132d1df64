use Rattle.std.proofs.Common.{◌≡◌, ◌++◌, ap, ◌∙◌, arith}
use Rattle.std.proofs.lemmas.Grind.{common_steps}
use Rattle.run_status.proofs.texts.put_number.Goals as goal

pub returns-clause-put : goal.returns-clause-put
returns-clause-put c =
    let text_there : c.extend_from_slice.new.self.items ≡ c.args.line.now.items ++ c.args.text.now =
    c.in_ok-extend_from_slice.ensures.items ∙ ap (λ t. c.args.line.now.items ++ t) c.as_bytes.ensures.value in
    grind (arith, common_steps)
