use Rattle.std.proofs.Common.{◌∙◌, sym}
use Rattle.std.proofs.lemmas.Str.{is_utf8-from_IsUtf8}
use Rattle.fidl_wire.proofs.Utf8.{low_is_text, text_test}
use Rattle.fidl_wire.proofs.texts.is_utf8.Goals as goal

pub returns-clause-value : goal.returns-clause-value
returns-clause-value c = c.is_ok.ensures.value ∙ text_test c.from_utf8.result c.args.bytes.now _ _ c.from_utf8.ensures.cases

pub returns-then-greatest-lt128-clause-value : goal.returns-then-greatest-lt128-clause-value
returns-then-greatest-lt128-clause-value c = sym (is_utf8-from_IsUtf8 c.args.bytes.now (low_is_text c.args.bytes.now c.greatest.result c.greatest.ensures c.if-greatest-lt128.true))

pub returns-then-greatest-lt128-clause-text : goal.returns-then-greatest-lt128-clause-text
returns-then-greatest-lt128-clause-text c = λ _. low_is_text c.args.bytes.now c.greatest.result c.greatest.ensures c.if-greatest-lt128.true
