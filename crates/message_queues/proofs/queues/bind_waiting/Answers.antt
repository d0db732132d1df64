use Rattle.std.proofs.Common.{◌∙◌, ℕ, Global, Some, Vec, ap}
use Rattle.std.specs.Prelude.{Option}
use Rattle.vfs_journal.specs.Entries.{Sent}
use Rattle.message_queues.specs.Steps.{put_turn, turn_by}
use Rattle.message_queues.specs.declared.heads.Heads.{Heads}
use Rattle.message_queues.proofs.queues.bind_waiting.Goals as goal
use Rattle.message_queues.proofs.queues.bind_waiting.Goals.{in-Some+in_ok-put_turn, in_default}

pub returns-clause-put : goal.returns-clause-put
returns-clause-put c =
    let by_turn : Option (ℕ × ℕ) → _ = λ turn. put_turn c.args.heads.now.items turn c.args.endpoint in
    elim c.match-head.branch [
      | in-Some+in_ok-put_turn w ↦ ap (λ (heads : Vec Heads Global). heads.items) w.heads-is
          ∙ (w.in_ok-put_turn.ensures.put
          ∙ ap by_turn (ap (λ (sent : Sent). turn_by (Some c.args.server) (Some sent)) w.head-in-Some.view_is ∙ ap (turn_by (Some c.args.server)) w.in-Some.ensures))
      | in_default w ↦ ap (λ (heads : Vec Heads Global). heads.items) w.heads-is ∙ ap (λ (first : Option Sent). by_turn (turn_by (Some c.args.server) first)) w.in_default.ensures
    ]
