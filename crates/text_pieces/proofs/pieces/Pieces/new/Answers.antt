use Rattle.text_pieces.proofs.PieceLemmas.{pieces_few}
use Rattle.text_pieces.proofs.pieces.Pieces.new.Goals as goal

pub returns-clause-few : goal.returns-clause-few
returns-clause-few c = pieces_few c.args.by c.args.text.now
