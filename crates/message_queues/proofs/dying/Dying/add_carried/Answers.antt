use Rattle.std.proofs.Common.{◌≡◌, ◌∙◌, ◌+◌, ◌++◌, [], ◌∷◌, ◌≤◌, Bool, List, ℕ, ap, arith, length, subst, sym, take}
use Rattle.std.specs.Prelude.{filter, not}
use Rattle.std.proofs.Math.ListN.{length-map}
use Rattle.std.proofs.lemmas.List.{take_all}
use Rattle.fidl_names.specs.HandleNumber.{is_client, number_of_handle}
use Rattle.vfs_journal.specs.Entries.{Sent, endpoints_in, tokens_in}
use Rattle.vfs_journal.specs.Handles.{numbers_of}
use Rattle.message_queues.specs.Steps.{Adds, Doomed}
use Rattle.message_queues.proofs.Gathered.{gathers_one}
use Rattle.message_queues.proofs.PutBehind.{put_none, put_passed, put_failed}
use Rattle.message_queues.proofs.Spread.{adds_none, adds_passed, adds_failed}
use Rattle.message_queues.proofs.dying.Dying.add_carried.Goals as goal
use Rattle.message_queues.proofs.dying.Dying.add_carried.Goals.{then-is_client+in_ok-add, else-is_client+in_ok-push}

abbrev is_token : ℕ → Bool
is_token number = not (is_client number)

pub loop-handle-init : goal.loop-handle-init
loop-handle-init c = record { found = adds_none c.args.self.now.found; tokens = put_none c.args.self.now.tokens }

pub loop-handle-preserved : goal.loop-handle-preserved
loop-handle-preserved c =
    let handles = c.handles-handle-items.result.now in
    elim c.if-is_client.branch [
      | then-is_client+in_ok-add w ↦ record {
        found = adds_passed is_client handles c.loop-handle.handle-index c.number-number.result _ c.loop-handle-test.true c.number-number.ensures c.args.self.now.found c.loop-handle.self.found c.if-is_client.self.found (sym w.if-is_client.ensures)
            c.loop-handle.invariant.found (ap (λ (doomed : Doomed). doomed.found) (w.self-is ∙ w.in_ok-add.ensures));
        tokens = ap (λ (doomed : Doomed). doomed.tokens) (w.self-is ∙ w.in_ok-add.ensures)
            ∙ put_failed is_token handles c.loop-handle.handle-index c.number-number.result _ c.loop-handle-test.true c.number-number.ensures c.args.self.now.tokens c.loop-handle.self.tokens (ap not (sym w.if-is_client.ensures)) c.loop-handle.invariant.tokens;
      }
      | else-is_client+in_ok-push w ↦ record {
        found = subst (λ (now : List ℕ). Adds (filter is_client (take (c.loop-handle.handle-index + 1) (numbers_of handles))) c.args.self.now.found now)
            (sym (ap (λ (doomed : Doomed). doomed.found) w.self-is ∙ ap (λ (doomed : Doomed). doomed.found) w.self.view_is))
            (adds_failed is_client handles c.loop-handle.handle-index c.number-number.result _ c.loop-handle-test.true c.number-number.ensures c.args.self.now.found c.loop-handle.self.found (sym w.if-is_client.ensures) c.loop-handle.invariant.found);
        tokens = put_passed is_token handles c.loop-handle.handle-index c.number-number.result _ c.loop-handle-test.true c.number-number.ensures c.args.self.now.tokens c.loop-handle.self.tokens c.if-is_client.self.tokens (ap not (sym w.if-is_client.ensures))
            c.loop-handle.invariant.tokens
            (ap (λ (doomed : Doomed). doomed.tokens) w.self-is ∙ w.in_ok-push.ensures.items ∙ ap (λ (doomed : Doomed). doomed.tokens ++ c.number-number.result ∷ []) w.self.view_is);
      }
    ]

pub returns : goal.returns
returns c =
    let handles = c.handles-handle-items.result.now in
    let end : length (numbers_of handles) ≤ c.loop-handle.handle-index = omega (arith, c.loop-handle-test.false, length-map handles number_of_handle) in
    let all : take c.loop-handle.handle-index (numbers_of handles) ≡ numbers_of handles = take_all c.loop-handle.handle-index (numbers_of handles) end in
    let endpoints : filter is_client (take c.loop-handle.handle-index (numbers_of handles)) ≡ endpoints_in c.args.sent.now =
    ap (filter is_client) (all ∙ c.handles-handle-items.ensures) ∙ ap (λ (sent : Sent). endpoints_in sent) c.sent.view_is in
    let tokens : filter (λ number. not (is_client number)) (take c.loop-handle.handle-index (numbers_of handles)) ≡ tokens_in c.args.sent.now =
    ap (filter (λ number. not (is_client number))) (all ∙ c.handles-handle-items.ensures) ∙ ap (λ (sent : Sent). tokens_in sent) c.sent.view_is in
    gathers_one c.args.sent.now c.args.self.now c.loop-handle.self
    (subst (λ (ns : List ℕ). Adds ns c.args.self.now.found c.loop-handle.self.found) endpoints c.loop-handle.invariant.found)
    (c.loop-handle.invariant.tokens ∙ ap (λ (ns : List ℕ). c.args.self.now.tokens ++ ns) tokens)
