-- Each rule is reached where those before it hold.
use Rattle.std.proofs.Common.{sym, ◌∙◌, true, false, refl}
use Rattle.std.proofs.lemmas.Bool.{le-ltb}
use Rattle.fidl_names.specs.declared.limits.TheConstants as limit
use Rattle.path_walk.proofs.PathLemmas.{utf8_at_ok, utf8_at_err}
use Rattle.io_namespace.proofs.FaultLemmas.{found_by}
use Rattle.io_namespace.proofs.checks.check_text.Goals as goal

pub returns-then-is_err : goal.returns-then-is_err
returns-then-is_err c =
    sym (found_by c.args.text.now true false false _ (sym c.is_absolute.ensures ∙ c.if-not-is_absolute.false)
    (le-ltb limit.MAX_PATH _ c.if-text-gt-MAX_PATH.false)
    (utf8_at_err c.from_utf8.result c.args.text.now _ _ c.from_utf8.ensures.cases (sym c.is_err.ensures.value ∙ c.if-is_err.true)) refl)

pub returns-then-has_bad_part : goal.returns-then-has_bad_part
returns-then-has_bad_part c =
    sym (found_by c.args.text.now true false true true (sym c.is_absolute.ensures ∙ c.if-not-is_absolute.false)
    (le-ltb limit.MAX_PATH _ c.if-text-gt-MAX_PATH.false)
    (utf8_at_ok c.from_utf8.result c.args.text.now _ _ c.from_utf8.ensures.cases (sym c.is_err.ensures.value ∙ c.if-is_err.false))
    (sym c.has_bad_part.ensures ∙ c.if-has_bad_part.true))

pub returns : goal.returns
returns c =
    sym (found_by c.args.text.now true false true false (sym c.is_absolute.ensures ∙ c.if-not-is_absolute.false)
    (le-ltb limit.MAX_PATH _ c.if-text-gt-MAX_PATH.false)
    (utf8_at_ok c.from_utf8.result c.args.text.now _ _ c.from_utf8.ensures.cases (sym c.is_err.ensures.value ∙ c.if-is_err.false))
    (sym c.has_bad_part.ensures ∙ c.if-has_bad_part.false))
