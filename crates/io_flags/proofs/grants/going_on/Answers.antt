-- Each of the two flags is kept where the limit has all that it adds.
use Rattle.std.proofs.Common.{◌≡◌, ◌∙◌, ap, ℕ, Bool, ◌&&◌}
use Rattle.io_rights.specs.Operations.{is_within, OperationSet}
use Rattle.io_flags.specs.declared.names.Flag.{Flag}
use Rattle.io_flags.specs.declared.names.Flag.TheVariants as flag
use Rattle.io_flags.specs.Words.{has}
use Rattle.io_flags.specs.Grants.{write_set, execute_set}
use Rattle.io_flags.proofs.GrantLemmas.{Keeps, both_kept}
use Rattle.io_flags.proofs.grants.going_on.Goals as goal

keeps : (one : Flag) (word after : ℕ) (kept : Bool) (rights limit added : OperationSet) → rights ≡ added → kept ≡ is_within rights limit → has after one ≡ (has word one && kept) → ((other : Flag) → (other ≡ one → ⊥) → has after other ≡ has word other) → Keeps (is_within added limit) one word after
keeps one word after kept rights limit added same test here others =
    record { here = here ∙ ap (λ b. has word one && b) (test ∙ ap (λ set. is_within set limit) same); others = others }

pub returns-clause-set : goal.returns-clause-set
returns-clause-set c =
    both_kept c.args.word c.kept_if-changed.result c.kept_if.result c.args.limit
    (keeps flag.InheritWrite c.args.word c.kept_if-changed.result c.within-write.result c.write_set.result c.args.limit write_set c.write_set.ensures c.within-write.ensures.value c.kept_if-changed.ensures.flag c.kept_if-changed.ensures.others)
    (keeps flag.InheritExecute c.kept_if-changed.result c.kept_if.result c.within-execute.result c.execute_set.result c.args.limit execute_set c.execute_set.ensures c.within-execute.ensures.value c.kept_if.ensures.flag c.kept_if.ensures.others)

pub returns-clause-unnamed : goal.returns-clause-unnamed
returns-clause-unnamed c = c.kept_if.ensures.unnamed ∙ c.kept_if-changed.ensures.unnamed
