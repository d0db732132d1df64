use Rattle.std.proofs.Common.{sym, ◌∙◌, lit<}
use Rattle.vfs_script.proofs.PieceLemmas.{pieces_are_texts, texts_behind}
use Rattle.vfs_script.proofs.forms.line_of.Goals as goal

pub form_of-requires : goal.form_of-requires
form_of-requires c =
    texts_behind _ _ c.next_short-2.new.self c.in_ok-next_short-2.ensures.piece
    (texts_behind _ _ c.next_short.new.self (sym c.new-words.ensures.pieces ∙ c.in_ok-next_short.ensures.piece) (pieces_are_texts 32 c.args.line.now (lit< tt) c.requires))
