-- What waits behind a serving, endpoint by endpoint, and where each endpoint is bound.
use Rattle.std.proofs.Common.{◌≡◌, ℕ, ◌+◌, ◌==◌, Bool, true, false, if◌then◌else◌, List, [], ◌∷◌, ◌++◌, length, drop, Option, Some, None, refl, sym, ap, ◌∙◌, length-set}
use Rattle.std.specs.Option.{option_map, option_map_or}
use Rattle.std.proofs.lemmas.Bool.{eqb-true}
use Rattle.link_admission.specs.Numbering.{among}
use Rattle.node_graph.specs.Tree.{after}
use Rattle.conn_rules.specs.Births.{Position, fresh}
use Rattle.vfs_journal.specs.Entries.{Sent}
use Rattle.vfs_journal.specs.Fit.{IsFit}
use Rattle.vfs_journal.specs.History.{tree_at}
use Rattle.vfs_journal.specs.Outcomes.{Forwarded}
use Rattle.vfs_journal.specs.Starts.{Bound}
use Rattle.vfs_journal.specs.View.{View, at_in, deaths_in, event_in, head_in, moved, onward_in, onward_sent, outcome_in, queue_in, serving_in, then_in}
use Rattle.journal_laws.specs.Choosing.{queue_beside}
use Rattle.journal_laws.proofs.Lists.{eqb_sym}
use Rattle.journal_laws.proofs.LookedUp.{is_behind}
use Rattle.message_queues.specs.Dying.{Buries}
use Rattle.message_queues.specs.Queues.{Queues, Requeues, queue_of, server_of}
use Rattle.vfs_world.specs.Holding.{HoldsQueues}

-- what is bound, if anything
pub record BindsOne (old : Queues) (one : Option Bound) (new : Queues) : Type 0 where
  pub waiting : (endpoint : ℕ) → queue_of new endpoint ≡ queue_of old endpoint
  pub bound : (endpoint : ℕ) → server_of new endpoint ≡ (if option_map_or (λ b. b.endpoint == endpoint) one false then option_map (λ b. b.server) one else server_of old endpoint)
  pub those : new.servers ≡ old.servers

-- what goes on, if anything
pub record SendsOne (view : View) (sent : Sent) (old : Queues) (forward : Option Forwarded) (new : Queues) : Type 0 where
  pub waiting : (endpoint : ℕ) → queue_of new endpoint ≡ queue_of old endpoint ++ option_map_or (λ f. if f.endpoint == endpoint then onward_sent (view.places + 1) sent f ∷ [] else []) forward []
  pub bound : (endpoint : ℕ) → server_of new endpoint ≡ server_of old endpoint
  pub those : new.servers ≡ old.servers

onward_trees : (view : View) (sent : Sent) (o : Option Forwarded) → (onward_in view sent o).trees ≡ view.trees
onward_trees view sent None = refl
onward_trees view sent (Some f) = refl

pub then_trees : (view : View) (sent : Sent) → length (then_in view sent).trees ≡ length view.trees
then_trees view sent =
    ap length (onward_trees (serving_in view sent (event_in view sent)) sent (outcome_in view sent).forward)
    ∙ length-set view.trees (outcome_in view sent).server (after (tree_at view.trees (outcome_in view sent).server) (outcome_in view sent).change)

server_kept : (k : ℕ) (at : Position) (o : Option (Bound × Position)) → option_map (λ pair. pair.0.server) (option_map (moved k at) o) ≡ option_map (λ pair. pair.0.server) o
server_kept k at None = refl
server_kept k at (Some pair) = by_test (pair.0.endpoint == k) where
  by_test : (b : Bool) → Some (if b then (let one : Bound × Position = (pair.0, at) in one) else pair).0.server ≡ Some pair.0.server
  by_test true = refl
  by_test false = refl

new_server : (o : Option Bound) → option_map (λ (pair : Bound × Position). pair.0.server) (option_map (λ (b : Bound). (b, fresh)) o) ≡ option_map (λ b. b.server) o
new_server None = refl
new_server (Some b) = refl

if_mapped : {X Y : Type 0} (f : X → Y) (b : Bool) (x y : X) → f (if b then x else y) ≡ (if b then f x else f y)
if_mapped f true x y = refl
if_mapped f false x y = refl

-- the served endpoint's queue has lost its first entry
pub queue_taken : (view : View) (sent : Sent) (q0 q1 : Queues) → HoldsQueues view q0 → Requeues q0 sent.endpoint (drop 1 (queue_of q0 sent.endpoint)) q1 → (n : ℕ) → queue_of q1 n ≡ queue_beside view sent n
queue_taken view sent q0 q1 h taken n = taken.waiting n ∙ by_test (n == sent.endpoint) (sent.endpoint == n) refl (eqb_sym sent.endpoint n) where
  by_test : (b c : Bool) → (n == sent.endpoint) ≡ b → (sent.endpoint == n) ≡ (n == sent.endpoint) →
      (if b then drop 1 (queue_of q0 sent.endpoint) else queue_of q0 n) ≡ (if sent.endpoint == n then drop 1 (queue_in view n) else queue_in view n)
  by_test true c e s =
      ap (λ (m : ℕ). drop 1 (queue_of q0 m)) (sym (eqb-true n sent.endpoint e))
      ∙ ap (drop 1) (h.queue n)
      ∙ sym (ap (λ (b : Bool). if b then drop 1 (queue_in view n) else queue_in view n) (s ∙ e))
  by_test false c e s =
      h.queue n
      ∙ sym (ap (λ (b : Bool). if b then drop 1 (queue_in view n) else queue_in view n) (s ∙ e))

pub queues_then : (view : View) (sent : Sent) (dead : List ℕ) (q0 q1 q2 q3 q4 : Queues) → IsFit view → head_in view sent.endpoint ≡ Some sent → HoldsQueues view q0 →
    Requeues q0 sent.endpoint (drop 1 (queue_of q0 sent.endpoint)) q1 → BindsOne q1 (outcome_in view sent).bound q2 → Buries q2 dead q3 → SendsOne view sent q3 (outcome_in view sent).forward q4 →
    ((endpoint : ℕ) → among endpoint dead ≡ among endpoint (deaths_in view sent)) → HoldsQueues (then_in view sent) q4
queues_then view sent dead q0 q1 q2 q3 q4 fit first h taken bound buried onward same =
    let behind = is_behind view sent fit first in
    let o = outcome_in view sent in
    record {
      queue = λ n.
          onward.waiting n
          ∙ ap (λ (xs : List Sent). xs ++ option_map_or (λ f. if f.endpoint == n then onward_sent (view.places + 1) sent f ∷ [] else []) o.forward [])
          (buried.waiting n
          ∙ ap (λ (b : Bool). if b then [] else queue_of q2 n) (same n)
          ∙ ap (λ (xs : List Sent). if among n (deaths_in view sent) then [] else xs) (bound.waiting n ∙ queue_taken view sent q0 q1 h taken n))
          ∙ sym (behind.queue n);
      bound = λ n.
          onward.bound n
          ∙ buried.bound n
          ∙ ap (λ (b : Bool). if b then None else server_of q2 n) (same n)
          ∙ ap (λ (s : Option ℕ). if among n (deaths_in view sent) then None else s)
          (bound.bound n
          ∙ ap (λ (s : Option ℕ). if option_map_or (λ b. b.endpoint == n) o.bound false then option_map (λ b. b.server) o.bound else s) (taken.bound n ∙ h.bound n ∙ sym (server_kept sent.endpoint o.position (at_in view n)))
          ∙ ap (λ (s : Option ℕ). if option_map_or (λ b. b.endpoint == n) o.bound false then s else option_map (λ pair. pair.0.server) (option_map (moved sent.endpoint o.position) (at_in view n))) (sym (new_server o.bound))
          ∙ sym (if_mapped (option_map (λ (pair : Bound × Position). pair.0.server)) (option_map_or (λ b. b.endpoint == n) o.bound false) (option_map (λ b. (b, fresh)) o.bound) (option_map (moved sent.endpoint o.position) (at_in view n))))
          ∙ sym (if_mapped (option_map (λ (pair : Bound × Position). pair.0.server)) (among n (deaths_in view sent)) None _)
          ∙ sym (ap (option_map (λ (pair : Bound × Position). pair.0.server)) (behind.at n));
      those = onward.those ∙ buried.those ∙ bound.those ∙ taken.those ∙ h.those ∙ sym (then_trees view sent);
    }
