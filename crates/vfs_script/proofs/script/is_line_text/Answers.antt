use Rattle.std.proofs.Common.{◌∙◌, sym}
use Rattle.std.proofs.lemmas.Str.{is_utf8-from_IsUtf8}
use Rattle.vfs_script.proofs.script.is_line_text.Goals as goal

pub returns-then-is_known-clause-utf8 : goal.returns-then-is_known-clause-utf8
returns-then-is_known-clause-utf8 c = c.if-is_known.true ∙ sym (is_utf8-from_IsUtf8 c.args.line.now (c.requires c.if-is_known.true))
