use Rattle.std.proofs.Common.{◌≡◌, ◌≤◌, ◌-◌, ◌∙◌, ap, arith, drop, length, length-drop}
use Rattle.link_audit.specs.Auditing.{Auditing}
use Rattle.link_audit.proofs.Stepping.{held_as, less_left}
use Rattle.link_audit.proofs.auditor.Auditor.let_go.Goals as goal

pub returns : goal.returns
returns c =
    let old = c.self.inside in
    let left : drop (length old.outbox - old.left) old.outbox ≡ c.args.self.now.owed = ap (λ (a : Auditing). a.owed) c.self.view_is in
    let within : old.left ≤ length old.outbox = c.self.invariant in
    let fewer : c.args.count ≤ old.left = omega (arith, c.requires, within, ap length left, length-drop (length old.outbox - old.left) old.outbox) in
    let less = less_left old.outbox old.left c.args.count within fewer ∙ ap (drop c.args.count) left in
    ap (held_as old.world) less ∙ ap (λ (a : Auditing). held_as a.world (drop c.args.count c.args.self.now.owed)) c.self.view_is
