use Rattle.std.proofs.Common.{ℕ, List, ◌++◌, ◌∙◌, Some, None, sym, ap, refl}
use Rattle.std.specs.Prelude.{codes}
use Rattle.std.proofs.lemmas.Option.{same_Some}
use Rattle.vfs_script.proofs.PrintLemmas.{label_with-other, method_with-found, method_with-none}
use Rattle.vfs_script.proofs.printing.front_with.Goals as goal

pub returns-in-Some : goal.returns-in-Some
returns-in-Some c =
    c.front_by.ensures
    ∙ ap (λ (label : List ℕ). codes " message " ++ label ++ codes " ")
    (sym
    (label_with-other c.args.ordinal c.event.result (Some c.in-Some.method) c.if-ordinal-eq-EPITAPH_ORDINAL.false c.event.ensures.value c.if-ordinal-event.false
    (method_with-found c.args.ordinal c.in-Some.method c.in-Some.ensures.found (λ n e. sym (same_Some c.in-Some.method n (c.in-Some.ensures.only n e))))))

pub returns-in-None : goal.returns-in-None
returns-in-None c =
    ap (λ (label : List ℕ). codes " message " ++ label ++ codes " ")
    (sym
    (label_with-other c.args.ordinal c.event.result None c.if-ordinal-eq-EPITAPH_ORDINAL.false c.event.ensures.value c.if-ordinal-event.false
    (method_with-none c.args.ordinal (c.in-None.ensures.none refl))))
