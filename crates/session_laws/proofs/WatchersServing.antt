-- What is so of each serving of a session: the endpoints that it binds or ends, but its own, are none that were born.
use Rattle.std.proofs.Common.{◌≡◌, ℕ, ◌==◌, ◌⊎◌, Bool, true, false, Some, AllPairs, Contains, refl, sym, ap, ◌∙◌, inl, inr, eq-eqb}
use Rattle.std.proofs.lemmas.Bool.{eqb-true, ne_eqb, true≢false}
use Rattle.fidl_names.specs.HandleNumber.{is_client}
use Rattle.link_admission.specs.Numbering.{among}
use Rattle.vfs_journal.specs.Deaths.{deaths_of}
use Rattle.vfs_journal.specs.Entries.{Journal, Sent, endpoints_in}
use Rattle.vfs_journal.specs.History.{History, births, is_dead, living, waiting}
use Rattle.vfs_journal.specs.Lawful.{Lawful}
use Rattle.vfs_journal.specs.Past.{history_of}
use Rattle.vfs_journal.specs.Serving.{moment_of, outcome_at, outcome_of, outcome_of_sending}
use Rattle.vfs_journal.specs.Session.{head}
use Rattle.vfs_journal.specs.Starts.{Bound, Start}
use Rattle.journal_laws.specs.Soundness.{IsStart, OtherEndpoint}
use Rattle.journal_laws.proofs.Among.{is_found}
use Rattle.journal_laws.proofs.Apart.{births_apart}
use Rattle.journal_laws.proofs.Below.{Below}
use Rattle.journal_laws.proofs.Kept.{IsServing, is_serving, lawful_kept}
use Rattle.journal_laws.proofs.Members.{found}
use Rattle.journal_laws.proofs.Served.{Dies, carried, dropped, ended, how_it_dies}
use Rattle.journal_laws.proofs.Sound.{IsView, Transit, nothing_left, view}
use Rattle.journal_laws.proofs.Stepping.{stepped}
use Rattle.journal_laws.proofs.Views.{is_view}
use Rattle.session_laws.proofs.Messages.{BindsOther, IsOther}

pub record IsServedOn (start : Start) (past : History) (k : Sent) : Type 0 where
  -- the connection that serves it
  pub at : Bound
  pub lives : Contains (living start past) at
  pub whole : outcome_of start past k ≡ outcome_of_sending (moment_of start past at) k.sending
  -- no endpoint is born twice
  pub apart : AllPairs OtherEndpoint (births start past)
  pub ends_other : (b : Bound) → Contains (births start past) b → IsOther b.endpoint at.endpoint → among b.endpoint (outcome_of start past k).ends ≡ false
  pub binds_other : (b : Bound) → Contains (births start past) b → BindsOther b.endpoint (outcome_of start past k).bound
  pub binds_alive : (new : Bound) → (outcome_of start past k).bound ≡ Some new → is_dead past new.endpoint ≡ false
  -- of those that were born it ends its own alone
  pub dies_own : (b : Bound) → Contains (births start past) b → among b.endpoint (deaths_of past k (outcome_of start past k)) ≡ true → b.endpoint ≡ at.endpoint

-- what a waiting entry carries wasn't born
carried_unborn : (start : Start) (past : History) (one : Sent) (b : Bound) → IsView (view start past) → Transit start (view start past) nothing_left → Contains (waiting past) one →
    Contains (births start past) b → among b.endpoint (endpoints_in one) ≡ true → ⊥
carried_unborn start past one b is transit waits born c =
    let lives = is.born_living b born (transit.alive one b.endpoint waits c) in
    true≢false (sym (is_found (λ (x : Bound). x.endpoint == b.endpoint) (living start past) b lives (eq-eqb b.endpoint b.endpoint refl)) ∙ transit.unbound one b.endpoint waits c)

module _ (start : Start) (past : History) (k : Sent) (serving' : IsServing start past k) (is : IsView (view start past)) (transit : Transit start (view start past) nothing_left)
    (own : serving'.at.endpoint ≡ k.endpoint) where
  ends_none : (b : Bound) → Contains (births start past) b → IsOther b.endpoint serving'.at.endpoint → among b.endpoint (outcome_of start past k).ends ≡ false
  ends_none b born other = by_test (among b.endpoint (outcome_of start past k).ends) refl where
    by_side : ((b.endpoint ≡ k.endpoint) × (is_client b.endpoint ≡ true)) ⊎ (among b.endpoint (endpoints_in k) ≡ true) → ⊥
    by_side (inl h) = true≢false (sym (eq-eqb serving'.at.endpoint b.endpoint (own ∙ sym h.0)) ∙ other)
    by_side (inr c) = carried_unborn start past k b is transit serving'.answered.waits born c

    by_test : (x : Bool) → among b.endpoint (outcome_of start past k).ends ≡ x → x ≡ false
    by_test false e = refl
    by_test true e = absurd (by_side (serving'.answered.ends_in b.endpoint e))

  own_dies : (b : Bound) → Contains (births start past) b → Dies (view start past) k (outcome_of start past k) b.endpoint → b.endpoint ≡ serving'.at.endpoint
  own_dies b born (ended e) = by_side (serving'.answered.ends_in b.endpoint e) where
    by_side : ((b.endpoint ≡ k.endpoint) × (is_client b.endpoint ≡ true)) ⊎ (among b.endpoint (endpoints_in k) ≡ true) → b.endpoint ≡ serving'.at.endpoint
    by_side (inl h) = h.0 ∙ sym own
    by_side (inr c) = absurd (carried_unborn start past k b is transit serving'.answered.waits born c)
  own_dies b born (carried c left) = absurd (carried_unborn start past k b is transit serving'.answered.waits born c)
  own_dies b born (dropped one waits apart on c) = absurd (carried_unborn start past one b is transit waits born c)

pub served_on : Below → (start : Start) (earlier : Journal) (k : Sent) → IsStart start → Lawful start earlier → head start (history_of start earlier) k.endpoint ≡ Some k → IsServedOn start (history_of start earlier) k
served_on below start earlier k s h first =
    let past = history_of start earlier in
    let steps = stepped start earlier h in
    let kept = lawful_kept below start s earlier h in
    let is = is_view start earlier steps in
    let serving' = is_serving below start earlier k s steps kept.sound first in
    let here = found (λ (b : Bound). b.endpoint == k.endpoint) (living start past) serving'.at serving'.bound in
    let own = eqb-true serving'.at.endpoint k.endpoint here.1 in
    record {
      at = serving'.at;
      lives = here.0;
      whole = ap (outcome_at start past k) serving'.bound;
      apart = births_apart below start s earlier h;
      ends_other = ends_none start past k serving' is kept.transit own;
      binds_other = λ b born new e.
          ne_eqb new.endpoint b.endpoint
          (λ same. carried_unborn start past k b is kept.transit serving'.answered.waits born (ap (λ (n : ℕ). among n (endpoints_in k)) (sym same) ∙ serving'.answered.bound_in new e));
      binds_alive = λ new e. kept.transit.alive k new.endpoint serving'.answered.waits (serving'.answered.bound_in new e);
      dies_own = λ b born dead. own_dies start past k serving' is kept.transit own b born (how_it_dies (view start past) k (outcome_of start past k) b.endpoint dead);
    }
