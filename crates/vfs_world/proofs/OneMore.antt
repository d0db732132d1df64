-- Servings with one more behind them are servings.
use Rattle.std.proofs.Common.{◌≡◌, ℕ, zero, suc, ◌+◌, ◌-◌, ◌<◌, List, [], append-nil, refl, sym, ap, ◌∙◌, subst, arith}
use Rattle.std.specs.Prelude.{slice_get}
use Rattle.std.proofs.lemmas.Option.{none-some}
use Rattle.std.proofs.Math.Numerals.{add-one}
use Rattle.vfs_journal.specs.Entries.{Sent}
use Rattle.vfs_journal.specs.Output.{Begins}
use Rattle.message_queues.specs.Oldest.{IsBoundAt, IsOldest, NothingWaits}
use Rattle.message_queues.specs.Queues.{IsReady, Queues}
use Rattle.vfs_world.specs.Running.{IsRunning}
use Rattle.vfs_world.specs.Servings.{ServesOne, ServesTimes}
use Rattle.vfs_world.specs.World.{World}
use Rattle.vfs_world.proofs.Answered.{some_is}
use Rattle.vfs_world.proofs.Halves.{begins_on}

-- ---- one serving

-- the serving of this endpoint is one of any of which it is
pub one_of_these : (These : ℕ → Type 0) (endpoint : ℕ) (old new : World) (before after : List ℕ) → These endpoint → ServesOne (λ one. one ≡ endpoint) old new before after → ServesOne These old new before after
one_of_these These endpoint old new before after is one = record {
  endpoint = one.endpoint;
  server = one.server;
  sent = one.sent;
  one_of = subst These (sym one.one_of) is;
  bound = one.bound;
  waits = one.waits;
  served = one.served;
}

-- it takes a place, and there are no more than so many
pub fewer_left : (These : ℕ → Type 0) (most : ℕ) (old new : World) (before after : List ℕ) → ServesOne These old new before after → IsRunning most new → most - new.places < most - old.places
fewer_left These most old new before after one running =
    let taken = one.served.places in
    let here = running.stands.holds.places in
    let few = running.few in
    omega arith

-- ---- what is chosen

oldest_waits : (queues : Queues) (These : ℕ → Type 0) (endpoint : ℕ) → NothingWaits queues These → IsOldest queues These endpoint → ⊥
oldest_waits queues These endpoint none oldest = none-some oldest.sent (sym (ap (λ (sents : List Sent). slice_get sents 0) (none endpoint oldest.one_of)) ∙ oldest.waits)

-- what is oldest can be served
pub oldest_is_ready : (queues : Queues) (server endpoint : ℕ) → IsOldest queues (IsBoundAt queues server) endpoint → IsReady queues endpoint
oldest_is_ready queues server endpoint oldest = (some_is _ _ oldest.one_of, some_is _ _ oldest.waits)

-- ---- servings

serves_more : (Chosen : Queues → ℕ → Type 0) (done : ℕ) (old k new : World) (before between after : List ℕ) → ServesTimes Chosen done old k before between → ServesOne (Chosen k.queues) k new between after →
    ServesTimes Chosen (suc done) old new before after
serves_more Chosen zero old k new before between after same one =
    (new, (after, (subst (λ (w : World). ServesOne (Chosen w.queues) w new before after) same.0 (subst (λ (bytes : List ℕ). ServesOne (Chosen k.queues) k new bytes after) same.1 one), (refl, refl))))
serves_more Chosen (suc more) old k new before between after serves one =
    (serves.0, (serves.1.0, (serves.1.1.0, serves_more Chosen more serves.0 k new serves.1.0 between after serves.1.1.1 one)))

-- so many were done: what ran still runs, and more is written behind what was
pub record AreDone (Chosen : Queues → ℕ → Type 0) (done : ℕ) (old new : World) (before after : List ℕ) : Type 0 where
  pub serves : ServesTimes Chosen done old new before after
  pub running : (most : ℕ) → IsRunning most old → IsRunning most new
  pub begins : Begins before after

pub none_done : (Chosen : Queues → ℕ → Type 0) (world : World) (bytes : List ℕ) → AreDone Chosen 0 world world bytes bytes
none_done Chosen world bytes = record { serves = (refl, refl); running = λ most was. was; begins = ([], sym (append-nil bytes)) }

pub one_more_done : (Chosen : Queues → ℕ → Type 0) (done endpoint : ℕ) (old k new : World) (before between after : List ℕ) → AreDone Chosen done old k before between → Chosen k.queues endpoint →
    ServesOne (λ one. one ≡ endpoint) k new between after → ((most : ℕ) → IsRunning most k → IsRunning most new) → Begins between after → AreDone Chosen (done + 1) old new before after
one_more_done Chosen done endpoint old k new before between after so_far chosen one running begins = record {
  serves =
      subst (λ (n : ℕ). ServesTimes Chosen n old new before after) (sym (add-one done))
      (serves_more Chosen done old k new before between after so_far.serves (one_of_these (Chosen k.queues) endpoint k new between after chosen one));
  running = λ most was. running most (so_far.running most was);
  begins = begins_on before between after so_far.begins begins;
}

-- where nothing waited at first, nothing is chosen later
pub never_idle : (These : Queues → ℕ → Type 0) (done endpoint : ℕ) (old new : World) (before after : List ℕ) → ServesTimes (λ queues one. IsOldest queues (These queues) one) done old new before after →
    NothingWaits old.queues (These old.queues) → IsOldest new.queues (These new.queues) endpoint → ⊥
never_idle These zero endpoint old new before after same none oldest = oldest_waits old.queues (These old.queues) endpoint none (subst (λ (w : World). IsOldest w.queues (These w.queues) endpoint) same.0 oldest)
never_idle These (suc more) endpoint old new before after serves none oldest = oldest_waits old.queues (These old.queues) serves.1.1.0.endpoint none serves.1.1.0.one_of
