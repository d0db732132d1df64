use Rattle.std.proofs.Common.{List, ℕ, ◌++◌, ap, ◌∙◌}
use Rattle.std.specs.Prelude.{codes}
use Rattle.fidl_names.specs.Numbers.{number_at}
use Rattle.text_pieces.proofs.PieceLemmas.{tail_is}
use Rattle.vfs_script.proofs.PrintLemmas.{label_read}
use Rattle.vfs_script.proofs.printing.front_of.Goals as goal

pub returns : goal.returns
unfolding number_at
returns c =
    c.front_with.ensures
    ∙ ap (λ (label : List ℕ). codes " message " ++ label ++ codes " ")
    (label_read c.args.bytes.now c.read_u64.result c.if-bytes-lt-HEADER_SIZE.false c.if-bytes-ne-MAGIC.false (rw (tail_is 8 c.args.bytes.now) at c.read_u64.ensures))
