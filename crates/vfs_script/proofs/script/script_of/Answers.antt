use Rattle.std.proofs.Common.{refl, sym, ◌∙◌, subst, arith}
use Rattle.std.proofs.lemmas.Result.{err_from_is_err_and}
use Rattle.vfs_script.specs.Scripts.{AreCalls, IsFirstBad}
use Rattle.vfs_script.proofs.ScriptLemmas.{all_bytes, all_calls, bad_line-behind, bad_line-is, calls_are, calls_few, mode-is}
use Rattle.vfs_script.proofs.script.script_of.Goals as goal

pub returns-in_err-mode-clause-refused : goal.returns-in_err-mode-clause-refused
returns-in_err-mode-clause-refused c =
    let p = err_from_is_err_and c.from_residual.result c.from_residual.ensures.1 in
    rw (p.1, p.2)
    (subst (λ bad. IsFirstBad bad c.in_err-mode.field-0.0) (bad_line-is c.args.text.now c.new-lines.result c.new-lines.ensures.lines) c.in_err-mode.ensures.refused)

pub returns-in_err-kept-clause-refused : goal.returns-in_err-kept-clause-refused
returns-in_err-kept-clause-refused c =
    let p = err_from_is_err_and c.from_residual-in_err-kept.result c.from_residual-in_err-kept.ensures.1 in
    rw (p.1, p.2)
    (subst (λ bad. IsFirstBad bad c.in_err-kept.field-0.0)
    (sym (bad_line-behind c.args.text.now c.new-lines.result c.read_mode.new.lines c.in_ok-mode.mode c.new-lines.ensures.lines c.in_ok-mode.ensures.left c.in_ok-mode.ensures.mode c.in_ok-mode.ensures.heads))
    c.in_err-kept.ensures.refused)

pub invariant_of-result : goal.invariant_of-result
invariant_of-result c =
    let calls = c.into_parts-frames.ensures.calls
    ∙ all_calls c.args.text.now c.new-lines.result c.read_mode.new.lines _ _ c.new-lines.ensures.lines c.in_ok-mode.ensures.left refl c.in_ok-kept.ensures.kept in
    let few = calls_few c.args.text.now c.new-lines.result c.read_mode.new.lines c.into_parts-frames.result.1.items c.new-lines.ensures.lines c.in_ok-mode.ensures.left calls in (
      subst (AreCalls 0) (sym calls) (calls_are c.args.text.now),
      omega (arith, few, c.new-lines.ensures.few),
    )

pub returns-clause-mode : goal.returns-clause-mode
returns-clause-mode c = sym (mode-is c.args.text.now c.new-lines.result c.new-lines.ensures.lines) ∙ c.in_ok-mode.ensures.mode

pub returns-clause-frames : goal.returns-clause-frames
returns-clause-frames c =
    c.into_parts-frames.ensures.frames
    ∙ all_bytes c.args.text.now c.new-lines.result c.read_mode.new.lines _ _ c.new-lines.ensures.lines c.in_ok-mode.ensures.left refl c.in_ok-kept.ensures.kept

pub returns-clause-calls : goal.returns-clause-calls
returns-clause-calls c =
    c.into_parts-frames.ensures.calls
    ∙ all_calls c.args.text.now c.new-lines.result c.read_mode.new.lines _ _ c.new-lines.ensures.lines c.in_ok-mode.ensures.left refl c.in_ok-kept.ensures.kept

pub returns-clause-good : goal.returns-clause-good
returns-clause-good c =
    bad_line-behind c.args.text.now c.new-lines.result c.read_mode.new.lines c.in_ok-mode.mode c.new-lines.ensures.lines c.in_ok-mode.ensures.left c.in_ok-mode.ensures.mode c.in_ok-mode.ensures.heads
    ∙ c.in_ok-kept.ensures.good
