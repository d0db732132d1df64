-- What the answer to an entry that was taken counts on, and that taking and answering are the first half of a serving.
use Rattle.std.proofs.Common.{◌≡◌, ℕ, ◌+◌, ◌-◌, ◌<◌, List, None, Some, ap, ◌∙◌, subst, sym, arith}
use Rattle.std.specs.Prelude.{slice_get}
use Rattle.fidl_names.specs.declared.limits.TheConstants as limit
use Rattle.link_admission.specs.Standings.{next_token_of}
use Rattle.vfs_journal.specs.Entries.{Sent, handles_of}
use Rattle.message_queues.specs.Queues.{count, server_of}
use Rattle.vfs_server.specs.declared.fate.Fate.{Fate}
use Rattle.vfs_server.specs.Servers.{Server}
use Rattle.vfs_server.specs.Serving.{CanTake}
use Rattle.vfs_world.specs.Heads.{Takes, TakesHead}
use Rattle.vfs_world.specs.Running.{IsRunning}
use Rattle.vfs_world.specs.ServingSteps.{Answers, BindsThere, bound_told}
use Rattle.vfs_world.specs.World.{World}
use Rattle.vfs_world.proofs.Ready.{can_answer_head}

-- what the answer and the binding count on, where the entry was taken
pub record CanAnswer (world : World) (endpoint server : ℕ) (sent : Sent) : Type 0 where
  pub one : Server
  pub there : slice_get world.servers server ≡ Some one
  pub can : CanTake one endpoint (next_token_of world.known) (handles_of sent.sending)
  pub counted : count world.queues + 1 ≡ world.known.waiting
  pub one_of : server < world.queues.servers
  pub free : (fate : Fate) (new : List Server) (before after : List ℕ) → Answers world.servers server endpoint (next_token_of world.known) sent fate new before after →
      (object : ℕ) → bound_told fate ≡ Some object → server_of world.queues object ≡ None

pub can_answer : (old now : World) (endpoint server : ℕ) (sent : Sent) → IsRunning limit.MAX_PLACES old → Takes old endpoint server sent now → CanAnswer now endpoint server sent
can_answer old now endpoint server sent run t =
    let can = can_answer_head old run endpoint server sent t.bound t.first in
    subst (λ (w : World). CanAnswer w endpoint server sent) (sym t.same)
    (record {
      one = can.one;
      there = can.there;
      can = can.can;
      counted = let a = can.counted in let b = t.count in omega (arith, a, b);
      one_of = let a = can.one_of in let b = t.taken.those in omega (arith, a, b);
      free = λ fate new before after answers object e. t.taken.bound object ∙ can.free fate new before after answers object e;
    })

pub takes_head : (old now new : World) (endpoint server : ℕ) (sent : Sent) (fate : Fate) (before after : List ℕ) → Takes old endpoint server sent now →
    Answers now.servers server endpoint (next_token_of now.known) sent fate new.servers before after → BindsThere server (bound_told fate) now.queues new.queues → count new.queues ≡ count now.queues →
    new.known ≡ record now.known { waiting = now.known.waiting - 1 } → new.places ≡ now.places → TakesHead old endpoint server sent fate new before after
takes_head old now new endpoint server sent fate before after t answers binds as_many known places = record {
  left = now.queues;
  bound = t.bound;
  first = t.first;
  answers = subst (λ (w : World). Answers w.servers server endpoint (next_token_of w.known) sent fate new.servers before after) t.same answers;
  taken = t.taken;
  binds = binds;
  count = let a = as_many in let b = t.count in omega (arith, a, b);
  known = known ∙ ap (λ (w : World). record w.known { waiting = w.known.waiting - 1 }) t.same;
  places = places ∙ ap (λ (w : World). w.places) t.same;
}
