use Rattle.std.proofs.Common.{◌≡◌, ◌∙◌, ℕ, Global, List, Vec, filter, fold, not, sym, ap, subst}
use Rattle.std.proofs.lemmas.List.{take_all}
use Rattle.fidl_names.specs.HandleNumber.{is_client}
use Rattle.link_admission.specs.Standings.{gone}
use Rattle.vfs_journal.specs.Entries.{tokens_in}
use Rattle.vfs_server.specs.declared.server.Server.{Server}
use Rattle.vfs_world.specs.ServingSteps.{CanGo, ForgetsAll}
use Rattle.vfs_world.proofs.Forgotten.{handle_goes, handle_out, handle_stays, none_gone, still_going, tokens_of}
use Rattle.vfs_world.proofs.forgetting.forget_carried.Goals as goal
use Rattle.vfs_world.proofs.forgetting.forget_carried.Goals.{then-not-is_client, else-not-is_client}

pub loop-handle-preserved : goal.loop-handle-preserved
loop-handle-preserved c =
    let handles = c.handles-handle-items.result.now in
    elim c.if-not-is_client.branch [
      | then-not-is_client w ↦
          still_going _ _ _ _ _ _ _ _ (ap (λ (s : Vec Server Global). s.items) w.servers-is) w.endpoints-is
          (handle_goes handles c.loop-handle.handle-index _ c.number-number.result c.loop-handle-test.true c.number-number.ensures c.args.servers.now.items c.args.endpoints.now c.loop-handle.servers.items c.loop-handle.endpoints
          c.loop-handle.invariant w.forget.new.servers.items w.forget.new.endpoints (sym c.is_client.ensures ∙ w.if-not-is_client.true) w.forget.ensures.forgets w.forget.ensures.known)
      | else-not-is_client w ↦
          still_going _ _ _ _ _ _ _ _ (ap (λ (s : Vec Server Global). s.items) w.servers-is) w.endpoints-is
          (handle_stays handles c.loop-handle.handle-index _ c.number-number.result c.loop-handle-test.true c.number-number.ensures c.args.servers.now.items c.args.endpoints.now c.loop-handle.servers.items c.loop-handle.endpoints
          c.loop-handle.invariant (sym c.is_client.ensures ∙ w.if-not-is_client.false))
    ]

pub loop-handle-init : goal.loop-handle-init
loop-handle-init c =
    let handles = c.handles-handle-items.result.now in
    let same : tokens_of handles ≡ tokens_in c.args.sent.now = ap (filter (λ (number : ℕ). not (is_client number))) c.handles-handle-items.ensures in
    none_gone c.args.servers.now.items c.args.endpoints.now (tokens_of handles) (subst (CanGo c.args.endpoints.now) (sym same) c.requires.out)

pub forget-requires : goal.forget-requires
forget-requires c = record {
  out =
      handle_out c.handles-handle-items.result.now c.loop-handle.handle-index _ c.number-number.result c.loop-handle-test.true c.number-number.ensures c.args.servers.now.items c.args.endpoints.now c.loop-handle.servers.items
      c.loop-handle.endpoints c.loop-handle.invariant (sym c.is_client.ensures ∙ c.if-not-is_client.true);
}

pub returns-clause-forgets : goal.returns-clause-forgets
returns-clause-forgets c =
    let handles = c.handles-handle-items.result.now in
    subst (λ (tokens : List ℕ). ForgetsAll c.args.servers.now.items tokens c.loop-handle.servers.items)
    (ap tokens_of (take_all c.loop-handle.handle-index handles c.loop-handle-test.false) ∙ ap (filter (λ (number : ℕ). not (is_client number))) c.handles-handle-items.ensures) c.loop-handle.invariant.forgets

pub returns-clause-known : goal.returns-clause-known
returns-clause-known c =
    let handles = c.handles-handle-items.result.now in
    c.loop-handle.invariant.known
    ∙ ap (fold gone c.args.endpoints.now)
    (ap tokens_of (take_all c.loop-handle.handle-index handles c.loop-handle-test.false) ∙ ap (filter (λ (number : ℕ). not (is_client number))) c.handles-handle-items.ensures)
