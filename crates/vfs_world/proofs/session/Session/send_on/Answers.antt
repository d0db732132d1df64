-- What goes on waits last on its mount's end.
use Rattle.std.proofs.Common.{[], ◌∷◌, ◌++◌, ◌∙◌, ℕ, List, Some, ap, subst, sym}
use Rattle.vfs_journal.specs.Entries.{Sending, Sent, message}
use Rattle.message_queues.specs.Queues.{Queues, Requeues, queue_of}
use Rattle.fidl_wire.specs.Written.{Written}
use Rattle.conn_rules.specs.Onward.{onward_bytes}
use Rattle.vfs_server.specs.declared.fate.Fate.{Fate}
use Rattle.vfs_world.specs.ServingSteps.{SendsOn}
use Rattle.vfs_world.proofs.session.Session.send_on.Goals as goal

-- an entry at a place, put last on an endpoint
abbrev sent_to : ℕ → ℕ → Sending → ℕ → Sent
sent_to place origin sending endpoint = record { place = place; endpoint = endpoint; sending = sending; origin = Some origin }

abbrev waits : Queues → ℕ → ℕ → Queues → Sending → ℕ → Type 0
waits old place origin new sending endpoint = Requeues old endpoint (queue_of old endpoint ++ sent_to place origin sending endpoint ∷ []) new

pub returns-clause-sent : goal.returns-clause-sent
returns-clause-sent c =
    let old = c.args.self.now.queues in
    let new = c.push.new.self in
    let bytes = c.as_bytes.ensures.bytes ∙ c.forward.ensures.bytes ∙ ap (λ (out : Written). out.bytes ++ onward_bytes c.in-Forwards.flags c.in-Forwards.rest c.in-Forwards.object) c.clear.ensures.empty in
    subst (λ (fate : Fate). SendsOn c.args.place c.args.origin fate old new) (sym c.in-Forwards.is)
    (subst (waits old c.args.place c.args.origin new (message (onward_bytes c.in-Forwards.flags c.in-Forwards.rest c.in-Forwards.object) (c.in-Forwards.object ∷ []))) c.end_of_mount.ensures
    (subst (λ (sending : Sending). waits old c.args.place c.args.origin new sending c.end_of_mount.result)
    (c.in_ok-parcel.ensures.message ∙ ap (λ (bytes : List ℕ). message bytes (c.in-Forwards.object ∷ [])) bytes)
    c.in_ok-push.ensures.pushed))
