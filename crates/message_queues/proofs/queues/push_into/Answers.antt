use Rattle.std.proofs.Common.{Global, Vec, sym, ap, ◌∙◌}
use Rattle.std.specs.Option.{option_copied}
use Rattle.message_queues.specs.Steps.{Heads}
use Rattle.message_queues.proofs.Served.{empty_queue, ok_no_err, on_err_more}
use Rattle.message_queues.proofs.queues.push_into.Goals as goal
use Rattle.message_queues.proofs.queues.push_into.Goals.{in-Some-None+in_ok-put_turn, in-Some+in-Some-head, in-None-1}

-- what is put in order is pushed into an empty queue, which takes no memory
pub returns-clause-err : goal.returns-clause-err
returns-clause-err c = elim c.match-server.branch [
  | in-Some-None+in_ok-put_turn w ↦ ok_no_err _ c.push.result (c.push.ensures.empty (empty_queue c.args.mailbox.now.queue (sym c.head.ensures ∙ ap option_copied w.in-Some-None.is-1)))
  | in-Some+in-Some-head w ↦ on_err_more c.push.result (λ same. (same, ap (λ (heads : Vec Heads Global). heads.items) w.heads-is)) c.push.ensures.err
  | in-None-1 w ↦ on_err_more c.push.result (λ same. (same, ap (λ (heads : Vec Heads Global). heads.items) w.heads-is)) c.push.ensures.err
]
