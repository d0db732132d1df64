-- Each rule is reached where those before it hold.
use Rattle.std.proofs.Common.{sym, ◌∙◌}
use Rattle.std.proofs.lemmas.Bool.{le-ltb}
use Rattle.fidl_names.specs.declared.limits.TheConstants as limit
use Rattle.path_walk.proofs.PathLemmas.{text-not_utf8, text-zero, text-none, utf8_at_ok, utf8_at_err}
use Rattle.path_walk.proofs.walk.check_text.Goals as goal

pub returns-then-is_err : goal.returns-then-is_err
returns-then-is_err c =
    sym
    (text-not_utf8 c.args.text.now
    (sym c.is_empty.ensures ∙ c.if-is_empty.false)
    (le-ltb limit.MAX_PATH _ c.if-text-gt-MAX_PATH.false)
    (utf8_at_err c.from_utf8.result c.args.text.now _ _ c.from_utf8.ensures.cases (sym c.is_err.ensures.value ∙ c.if-is_err.true)))

pub returns-then-contains : goal.returns-then-contains
returns-then-contains c =
    sym
    (text-zero c.args.text.now
    (sym c.is_empty.ensures ∙ c.if-is_empty.false)
    (le-ltb limit.MAX_PATH _ c.if-text-gt-MAX_PATH.false)
    (utf8_at_ok c.from_utf8.result c.args.text.now _ _ c.from_utf8.ensures.cases (sym c.is_err.ensures.value ∙ c.if-is_err.false))
    (sym c.contains.ensures.value ∙ c.if-contains.true))

pub returns : goal.returns
returns c =
    sym
    (text-none c.args.text.now
    (sym c.is_empty.ensures ∙ c.if-is_empty.false)
    (le-ltb limit.MAX_PATH _ c.if-text-gt-MAX_PATH.false)
    (utf8_at_ok c.from_utf8.result c.args.text.now _ _ c.from_utf8.ensures.cases (sym c.is_err.ensures.value ∙ c.if-is_err.false))
    (sym c.contains.ensures.value ∙ c.if-contains.false))
