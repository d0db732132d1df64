-- A place above all that wait stays so.
use Rattle.std.proofs.Common.{◌≡◌, ℕ, ◌+◌, ◌<◌, ◌≤◌, Bool, true, false, List, [], ◌∷◌, ◌++◌, drop, arith}
use Rattle.std.specs.Prelude.{◌==◌, All, if◌then◌else◌}
use Rattle.std.proofs.lemmas.List.Elements.{All-drop, All-nil, All-push, All-same, All-weaker}
use Rattle.vfs_journal.specs.Entries.{Sent}
use Rattle.message_queues.specs.Queues.{Binds, IsAbove, IsNew, Queues, Requeues, queue_of}

abbrev IsBelow : ℕ → Sent → Type 0
IsBelow place sent = sent.place < place

higher : (queue : List Sent) (low high : ℕ) → low ≤ high → All (λ sent. sent.place < low) queue → All (λ sent. sent.place < high) queue
higher queue low high le all = All-weaker (IsBelow low) (IsBelow high) (λ sent below. omega arith) queue all

pub above_higher : (q : Queues) (low high : ℕ) → low ≤ high → IsAbove q low → IsAbove q high
above_higher q low high le above = λ endpoint. higher (queue_of q endpoint) low high le (above endpoint)

pub above_new : (q : Queues) (servers place : ℕ) → IsNew q servers → IsAbove q place
above_new q servers place new = λ endpoint. All-same (IsBelow place) (queue_of q endpoint) [] (new.waiting endpoint) (All-nil (IsBelow place))

-- a queue that is put in the place of one
pub above_requeued : (q now : Queues) (endpoint place : ℕ) (queue : List Sent) → Requeues q endpoint queue now → IsAbove q place → All (λ sent. sent.place < place) queue → IsAbove now place
above_requeued q now endpoint place queue requeues above all = λ other.
    All-same (IsBelow place) (queue_of now other) _ (requeues.waiting other) (by_test (other == endpoint) queue (queue_of q other) all (above other))
  where
    by_test : (b : Bool) (one two : List Sent) → All (λ sent. sent.place < place) one → All (λ sent. sent.place < place) two → All (λ sent. sent.place < place) (if b then one else two)
    by_test true one two a b = a
    by_test false one two a b = b

pub above_pushed : (q now : Queues) (endpoint place : ℕ) (sent : Sent) → sent.place ≡ place → Requeues q endpoint (queue_of q endpoint ++ sent ∷ []) now → IsAbove q place → IsAbove now (place + 1)
above_pushed q now endpoint place sent is requeues above =
    above_requeued q now endpoint (place + 1) (queue_of q endpoint ++ sent ∷ []) requeues (above_higher q place (place + 1) (omega arith) above)
    (All-push (IsBelow (place + 1)) (queue_of q endpoint) sent (higher (queue_of q endpoint) place (place + 1) (omega arith) (above endpoint)) (omega arith))

pub above_taken : (q now : Queues) (endpoint place : ℕ) → Requeues q endpoint (drop 1 (queue_of q endpoint)) now → IsAbove q place → IsAbove now place
above_taken q now endpoint place requeues above =
    above_requeued q now endpoint place (drop 1 (queue_of q endpoint)) requeues above (All-drop (IsBelow place) 1 (queue_of q endpoint) (above endpoint))

pub above_bound : (q now : Queues) (endpoint server place : ℕ) → Binds q endpoint server now → IsAbove q place → IsAbove now place
above_bound q now endpoint server place binds above = λ other. All-same (IsBelow place) (queue_of now other) (queue_of q other) (binds.waiting other) (above other)
