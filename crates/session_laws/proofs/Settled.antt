-- The laws: in order, once, and where nothing waits.
use Rattle.std.proofs.Common.{◌≡◌, ℕ, ◌⊎◌, ◌∙◌, true, false, not, [], ◌++◌, Contains, sym, ap, inl, inr}
use Rattle.vfs_journal.specs.Lawful.{Lawful}
use Rattle.std.proofs.lemmas.Bool.{eqb-true}
use Rattle.std.proofs.lemmas.List.{append-nil}
use Rattle.vfs_journal.specs.Entries.{Journal, Sent}
use Rattle.vfs_journal.specs.History.{History, all_sent, is_dead, waiting, was_served}
use Rattle.vfs_journal.specs.Past.{history_of}
use Rattle.vfs_journal.specs.Starts.{Start}
use Rattle.journal_laws.proofs.Members.{kept_of}
use Rattle.journal_laws.specs.Soundness.{IsDrained}
use Rattle.journal_laws.proofs.Draining.{served_or_dead}
use Rattle.session_laws.proofs.Front.{front, not_served}
use Rattle.journal_laws.proofs.Stepping.{Stepped, time_of}
use Rattle.journal_laws.proofs.Filters.{all_of, none_kept}
use Rattle.session_laws.proofs.Once.{answered, last_served}
use Rattle.session_laws.proofs.Ordered.{ordered}
use Rattle.session_laws.specs.Replies.{AreAnswered, ArePipelined, IsSettled}
use Rattle.session_laws.specs.Pipelined.{is_on, sent_on, served_on}

pipelined : (start : Start) (journal : Journal) (endpoint : ℕ) → Stepped start journal → ArePipelined start (history_of start journal) endpoint
pipelined start journal endpoint h = record {
  front = front start journal endpoint h;
  last = last_served start journal endpoint h;
  replies = ordered start journal endpoint h;
}

pub replies_are_in_order : (start : Start) (newer journal : Journal) (endpoint : ℕ) → Lawful start (newer ++ journal) → ArePipelined start (history_of start journal) endpoint
replies_are_in_order start newer journal endpoint h = pipelined start journal endpoint (time_of start newer journal h)

pub served_is_answered : (start : Start) (newer journal : Journal) → Lawful start (newer ++ journal) → AreAnswered start (history_of start journal)
served_is_answered start newer journal h sent there = answered start journal sent (time_of start newer journal h) there

-- ---- where nothing waits

-- on an endpoint that lives all was served
served_alive : (history : History) (endpoint : ℕ) → IsDrained history → is_dead history endpoint ≡ false → (one : Sent) → Contains (sent_on history endpoint) one → not_served history one ≡ false
served_alive history endpoint h alive one there = by_end (h.each one of.0) where
  of : Contains (all_sent history) one × (is_on endpoint one ≡ true)
  of = kept_of (is_on endpoint) (all_sent history) one there

  by_end : (was_served history one ≡ true) ⊎ (is_dead history one.endpoint ≡ true) → not_served history one ≡ false
  by_end (inl served) = ap not served
  by_end (inr dead) =
      let wrong : true ≡ false = sym dead ∙ ap (is_dead history) (eqb-true one.endpoint endpoint of.1) ∙ alive in
      absurd (cc)

dead_by : (history : History) (endpoint : ℕ) (one : Sent) → (is_on endpoint one ≡ true) → was_served history one ≡ false → (was_served history one ≡ true) ⊎ (is_dead history one.endpoint ≡ true) → is_dead history endpoint ≡ true
dead_by history endpoint one on unserved (inl served) = let wrong : true ≡ false = sym served ∙ unserved in absurd (cc)
dead_by history endpoint one on unserved (inr dead) = ap (is_dead history) (sym (eqb-true one.endpoint endpoint on)) ∙ dead

settled : (start : Start) (journal : Journal) (endpoint : ℕ) → Stepped start journal → IsDrained (history_of start journal) → IsSettled start (history_of start journal) endpoint
settled start journal endpoint h drained =
    let history = history_of start journal in
    let order = pipelined start journal endpoint h in
    record {
      pipelined = order;
      lives = λ alive.
          sym
          (order.front
          ∙ ap (λ ones. served_on history endpoint ++ ones)
          (none_kept (not_served history) (sent_on history endpoint) (all_of (λ one. not_served history one ≡ false) (sent_on history endpoint) (served_alive history endpoint drained alive)))
          ∙ append-nil (served_on history endpoint));
      dropped = λ one there unserved.
          let of = kept_of (is_on endpoint) (all_sent history) one there in
          dead_by history endpoint one of.1 unserved (drained.each one of.0);
    }

pub rests_are_settled : (start : Start) (newer journal : Journal) (endpoint : ℕ) → Lawful start (newer ++ journal) → waiting (history_of start journal) ≡ [] → IsSettled start (history_of start journal) endpoint
rests_are_settled start newer journal endpoint h none =
    settled start journal endpoint (time_of start newer journal h)
    (record { none = none; each = λ sent there. served_or_dead (history_of start journal) none sent there })
