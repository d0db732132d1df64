use Rattle.std.proofs.Common.{◌++◌, ap, not, sym, ◌∙◌, arith}
use Rattle.std.proofs.lemmas.List.{take_all}
use Rattle.fidl_names.specs.HandleNumber.{is_client}
use Rattle.vfs_journal.specs.Handles.{numbers_of}
use Rattle.vfs_world.specs.ServingSteps.{is_it}
use Rattle.vfs_world.proofs.Carried.{carried_all, carried_of, carried_with, carried_without, not_both, not_one}
use Rattle.vfs_world.proofs.deaths.add_carried.Goals.{then-is_client+then-not-is_it+in_ok-push, else-is_client, else-is_client-via-then-is_client+else-not-is_it, else-is_client-via-else-is_client}
use Rattle.vfs_world.proofs.deaths.add_carried.Goals as goal

pub loop-handle-preserved : goal.loop-handle-preserved
loop-handle-preserved c =
    let n = c.number-number.result in
    let handles = c.handles-handle-items.result.now in
    elim c.if-is_client.branch [
      | then-is_client+then-not-is_it+in_ok-push w ↦
          carried_with c.args.but handles c.loop-handle.handle-index n _ c.args.dying.now.items c.loop-handle.dying.items c.if-is_client.dying.items c.loop-handle-test.true c.number-number.ensures
          (sym c.is_client.ensures ∙ w.if-is_client.true) (sym w.is_it.ensures ∙ w.if-not-is_it.true) c.loop-handle.invariant
          (ap (λ dying. dying.items) w.dying-is ∙ w.in_ok-push.ensures.items)
      | else-is_client w ↦
          carried_without c.args.but handles c.loop-handle.handle-index n _ c.args.dying.now.items c.loop-handle.dying.items c.if-is_client.dying.items c.loop-handle-test.true c.number-number.ensures
          (elim w.else-is_client.branch [
            | else-is_client-via-then-is_client+else-not-is_it v ↦ not_both (is_client n) (is_it c.args.but n) (sym c.is_client.ensures ∙ v.if-is_client.true) (sym v.is_it.ensures ∙ v.if-not-is_it.false)
            | else-is_client-via-else-is_client v ↦ not_one (is_client n) (not (is_it c.args.but n)) (sym c.is_client.ensures ∙ v.if-is_client.false)
          ])
          c.loop-handle.invariant (ap (λ dying. dying.items) w.dying-is)
    ]

pub returns : goal.returns
returns c =
    let handles = c.handles-handle-items.result.now in
    let whole = take_all c.loop-handle.handle-index handles (omega arith) in
    c.loop-handle.invariant
    ∙ ap (λ numbers. c.args.dying.now.items ++ carried_of c.args.but numbers) (ap numbers_of whole ∙ c.handles-handle-items.ensures)
    ∙ ap (λ numbers. c.args.dying.now.items ++ numbers) (sym (carried_all c.args.but c.args.sent.now))
