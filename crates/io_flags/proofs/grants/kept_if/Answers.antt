-- The bit of the flag is cleared, or nothing is.
use Rattle.std.proofs.Common.{◌∙◌, ap, sym, ◌&&◌}
use Rattle.io_flags.specs.Words.{has, has_unnamed_bit}
use Rattle.io_flags.proofs.FlagWords.{places_apart}
use Rattle.io_flags.proofs.GrantLemmas.{cleared, has-without_other, has-without_same, still_unnamed, and_false}
use Rattle.io_flags.proofs.grants.kept_if.Goals as goal

pub returns-else-kept-clause-flag : goal.returns-else-kept-clause-flag
returns-else-kept-clause-flag c =
    ap (λ word. has word c.args.flag) (cleared c.args.word c.place.result c.args.flag c.place.ensures.place)
    ∙ has-without_same c.args.word c.args.flag
    ∙ and_false (has c.args.word c.args.flag)
    ∙ ap (λ kept. has c.args.word c.args.flag && kept) (sym c.if-kept.false)

pub returns-else-kept-clause-others : goal.returns-else-kept-clause-others
returns-else-kept-clause-others c =
    λ other apart.
    ap (λ word. has word other) (cleared c.args.word c.place.result c.args.flag c.place.ensures.place)
    ∙ has-without_other c.args.word c.args.flag other (places_apart c.args.flag other apart)

pub returns-else-kept-clause-unnamed : goal.returns-else-kept-clause-unnamed
returns-else-kept-clause-unnamed c =
    ap has_unnamed_bit (cleared c.args.word c.place.result c.args.flag c.place.ensures.place)
    ∙ still_unnamed c.args.word c.args.flag
