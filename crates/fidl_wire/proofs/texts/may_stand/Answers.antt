use Rattle.std.proofs.Common.{◌∙◌, ◌||◌, Bool, ap, not, sym}
use Rattle.std.specs.Str.{is_utf8}
use Rattle.fidl_wire.proofs.texts.may_stand.Goals as goal

pub returns-then-is_text : goal.returns-then-is_text
returns-then-is_text c = c.is_utf8.ensures.value ∙ sym (ap (λ (text : Bool). not text || is_utf8 c.args.bytes.now) c.if-is_text.true)
