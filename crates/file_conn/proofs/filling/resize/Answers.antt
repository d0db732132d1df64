use Rattle.file_conn.proofs.Coming.{comes_of_resize}
use Rattle.file_conn.proofs.filling.resize.Goals as goal

pub returns-clause-comes : goal.returns-clause-comes
returns-clause-comes c =
    rw c.come_of.ensures
    (comes_of_resize c.resize.result _ c.args.size _ c.args.graph.now c.resize.new.self c.resize.ensures.answer c.resize.ensures.unchanged c.resize.ensures.resized c.resize.ensures.shorter)
