use Rattle.std.proofs.Common.{sym, ◌∙◌}
use Rattle.vfs_script.specs.Words.{is_led}
use Rattle.vfs_script.proofs.NumberLemmas.{led_by_first}
use Rattle.vfs_script.proofs.numbers.is_led.Goals as goal

pub returns : goal.returns
unfolding is_led
returns c = led_by_first c.args.word.now c.if-word-eq1.false (sym c.is_empty.ensures ∙ c.if-is_empty.false)
