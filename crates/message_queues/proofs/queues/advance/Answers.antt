use Rattle.std.proofs.Common.{ap, sym}
use Rattle.vfs_journal.specs.Entries.{Sent}
use Rattle.message_queues.proofs.Placed.{cut_last, set_moved, set_same}
use Rattle.message_queues.proofs.Served.{on_err_more}
use Rattle.message_queues.proofs.Spread.{on_ok_more}
use Rattle.message_queues.proofs.queues.advance.Goals as goal

pub returns-in-Some-second-clause-put : goal.returns-in-Some-second-clause-put
returns-in-Some-second-clause-put c =
    on_ok_more c.advance.result
    (set_moved c.args.heads.now.items c.args.server c.first.inside.place c.second-in-Some-second.inside.place c.args.endpoint c.index_mut.result.now c.advance.new.self c.in-Some.first.now c.in-Some-second.second.now _ _
    c.index_mut.ensures.value c.requires.known (sym c.in-Some.ensures) (sym c.in-Some-second.ensures) (ap (λ (sent : Sent). sent.place) (sym c.first.view_is))
    (ap (λ (sent : Sent). sent.place) (sym c.second-in-Some-second.view_is)))
    c.advance.ensures.put

pub returns-in-Some-second-clause-err : goal.returns-in-Some-second-clause-err
returns-in-Some-second-clause-err c =
    on_err_more c.advance.result (set_same c.args.heads.now.items c.args.server c.index_mut.result.now c.advance.new.self c.index_mut.ensures.value) c.advance.ensures.err

pub returns-in-None-clause-put : goal.returns-in-None-clause-put
returns-in-None-clause-put c =
    cut_last c.args.heads.now.items c.drop_turn.new.heads.items c.args.server c.first.inside.place c.args.endpoint c.in-Some.first.now _ _ (sym c.in-Some.ensures) (sym c.in-None.ensures)
    (ap (λ (sent : Sent). sent.place) (sym c.first.view_is)) c.drop_turn.ensures
