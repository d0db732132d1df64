-- What goes on over the ends of mounts: more answers than it weighs change nothing, and it says the same in tables that say the same.
use Rattle.std.proofs.Common.{◌≡◌, ℕ, zero, suc, ◌<◌, ◌≤◌, ◌==◌, false, true, List, [], ◌∷◌, ◌++◌, Option, Some, None, if◌then◌else◌, refl, sym, ap, ◌∙◌, subst, arith}
use Rattle.std.specs.Option.{option_map, option_map_or}
use Rattle.fidl_names.specs.HandleNumber.{is_client}
use Rattle.link_frames.specs.Frames.{Frame}
use Rattle.link_admission.specs.Numbering.{among}
use Rattle.conn_rules.specs.Births.{Position}
use Rattle.vfs_journal.specs.Entries.{Sending, message}
use Rattle.vfs_journal.specs.Outcomes.{Forwarded, Outcome}
use Rattle.vfs_journal.specs.Serving.{outcome_of_sending}
use Rattle.vfs_journal.specs.Session.{weight_of}
use Rattle.vfs_journal.specs.Starts.{Bound, Start}
use Rattle.vfs_journal.specs.View.{moved}
use Rattle.journal_laws.specs.Soundness.{IsStart}
use Rattle.journal_laws.proofs.Below.{Below}
use Rattle.turn_law.specs.Tables.{SaySame}
use Rattle.turn_law.specs.Told.{Table, answered, answers, by_answer, messages_on, newborn, onward, still}
use Rattle.turn_law.proofs.Forwards.{IsOnward, sending_goes}
use Rattle.turn_law.proofs.MountEnds.{EndsStay, among_one, onward_stays}
use Rattle.turn_law.proofs.ServedLines.{some_weight}
use Rattle.turn_law.proofs.Touching.{AreNamed, answered_named}
use Rattle.turn_law.proofs.Within.{sending_within}

-- ---- more answers

pub something_weighs : (sending : Sending) → 0 < weight_of sending
something_weighs sending =
    let some = some_weight (record { place = 0; endpoint = 0; sending = sending; origin = None }) in
    let same = some.1 in
    omega (arith, same)

no_weight : Below → (start : Start) (pair : Bound × Position) (sending : Sending) (forward : Forwarded) → weight_of sending ≤ 0 → (outcome_of_sending (still start pair) sending).forward ≡ Some forward → ⊥
no_weight below start pair sending forward none e = let less = (sending_goes below (still start pair) sending forward e).less in omega (arith, less, none)

-- where it weighs nothing more nothing goes on
pub answers_over : Below → (more other : ℕ) (start : Start) (endpoint : ℕ) (sending : Sending) (table : Table) → 0 < weight_of sending → weight_of sending ≤ more → weight_of sending ≤ other →
    answers more start endpoint sending table ≡ answers other start endpoint sending table
unfolding answers
answers_over below zero other start endpoint sending table some less less' = absurd (omega (arith, some, less))
answers_over below (suc more) zero start endpoint sending table some less less' = absurd (omega (arith, some, less'))
answers_over below (suc more) (suc other) start endpoint sending table some less less' =
    by_life (λ e s t a b c. answers_over below more other start e s t a b c) (table.life endpoint) where
      by_life : ((e : ℕ) (s : Sending) (t : Table) → 0 < weight_of s → weight_of s ≤ more → weight_of s ≤ other → answers more start e s t ≡ answers other start e s t) → (x : Option (Bound × Position)) →
          by_answer (answers more start) endpoint table (option_map (λ pair. outcome_of_sending (still start pair) sending) x) ≡ by_answer (answers other start) endpoint table (option_map (λ pair. outcome_of_sending (still start pair) sending) x)
      by_life rest None = refl
      by_life rest (Some pair) = by_forward o.forward refl where
        o : Outcome
        o = outcome_of_sending (still start pair) sending

        by_forward : (x : Option Forwarded) → o.forward ≡ x → onward (answers more start) x (answered table endpoint o) ≡ onward (answers other start) x (answered table endpoint o)
        by_forward None e = refl
        by_forward (Some f) e =
            let lighter = sending_goes below (still start pair) sending f e in
            let lighter' = lighter.less in
            rest f.endpoint (message f.bytes (f.object ∷ [])) (answered table endpoint o) (something_weighs (message f.bytes (f.object ∷ []))) (omega (arith, lighter', less)) (omega (arith, lighter', less'))

-- ---- tables that say the same

-- what an answer on one endpoint makes of another
pub answered_alike : (n endpoint : ℕ) (o : Outcome) (one other : Table) → SaySame n one other → SaySame n (answered one endpoint o) (answered other endpoint o)
answered_alike n endpoint o one other h = record {
  life =
      ap
      (λ (x : Option (Bound × Position)). if among n o.ends then None else if option_map_or (λ bound. bound.endpoint == n) o.bound false then option_map newborn o.bound else option_map (moved endpoint o.position) x)
      h.life;
  told = ap (λ (fs : List Frame). fs ++ messages_on n o.frames) h.told;
}

-- what goes on over the end of a mount makes the same of an endpoint of which they say the same
pub onwards_alike : Below → (more : ℕ) (start : Start) (forward : Forwarded) (n : ℕ) (one other : Table) → IsStart start → AreNamed one → AreNamed other → EndsStay start one → EndsStay start other → is_client forward.endpoint ≡ false →
    is_client forward.object ≡ true → IsOnward forward → SaySame n one other → SaySame n (answers more start forward.endpoint (message forward.bytes (forward.object ∷ [])) one) (answers more start forward.endpoint (message forward.bytes (forward.object ∷ [])) other)
unfolding answers
onwards_alike below zero start forward n one other s named named' stays stays' end client is same = same
onwards_alike below (suc more) start forward n one other s named named' stays stays' end client is same =
    by_life (λ f t u a b c d e g h i. onwards_alike below more start f n t u s a b c d e g h i) (one.life forward.endpoint) refl (other.life forward.endpoint) refl where
      sending : Sending
      sending = message forward.bytes (forward.object ∷ [])

      lives_same : one.life forward.endpoint ≡ other.life forward.endpoint
      lives_same = stays.life forward.endpoint end ∙ sym (stays'.life forward.endpoint end)

      by_pair : ((f : Forwarded) (t u : Table) → AreNamed t → AreNamed u → EndsStay start t → EndsStay start u → is_client f.endpoint ≡ false → is_client f.object ≡ true → IsOnward f → SaySame n t u →
          SaySame n (answers more start f.endpoint (message f.bytes (f.object ∷ [])) t) (answers more start f.endpoint (message f.bytes (f.object ∷ [])) u)) → (pair : Bound × Position) → one.life forward.endpoint ≡ Some pair →
          SaySame n (by_answer (answers more start) forward.endpoint one (Some (outcome_of_sending (still start pair) sending))) (by_answer (answers more start) forward.endpoint other (Some (outcome_of_sending (still start pair) sending)))
      by_pair rest pair lives = by_forward o.forward refl where
        o : Outcome
        o = outcome_of_sending (still start pair) sending

        one' : Table
        one' = answered one forward.endpoint o

        other' : Table
        other' = answered other forward.endpoint o

        same' : SaySame n one' other'
        same' = answered_alike n forward.endpoint o one other same

        by_forward : (x : Option Forwarded) → o.forward ≡ x → SaySame n (onward (answers more start) x one') (onward (answers more start) x other')
        by_forward None e = same'
        by_forward (Some f) e =
            let on = (sending_within below.spelled (still start pair) sending).forward f e in
            rest f one' other' (answered_named one forward.endpoint o named) (answered_named other forward.endpoint o named')
            (onward_stays below start one forward pair s named stays end client is lives)
            (onward_stays below start other forward pair s named' stays' end client is (sym lives_same ∙ lives))
            on.1 (ap is_client (among_one f.object forward.object on.0) ∙ client) (sending_goes below (still start pair) sending f e).on same'

      by_life : ((f : Forwarded) (t u : Table) → AreNamed t → AreNamed u → EndsStay start t → EndsStay start u → is_client f.endpoint ≡ false → is_client f.object ≡ true → IsOnward f → SaySame n t u →
          SaySame n (answers more start f.endpoint (message f.bytes (f.object ∷ [])) t) (answers more start f.endpoint (message f.bytes (f.object ∷ [])) u)) →
          (x : Option (Bound × Position)) → one.life forward.endpoint ≡ x → (y : Option (Bound × Position)) → other.life forward.endpoint ≡ y →
          SaySame n (by_answer (answers more start) forward.endpoint one (option_map (λ pair. outcome_of_sending (still start pair) sending) x))
          (by_answer (answers more start) forward.endpoint other (option_map (λ pair. outcome_of_sending (still start pair) sending) y))
      by_life rest None e None f = same
      by_life rest None e (Some pair) f = absurd (let wrong : None ≡ Some pair = sym e ∙ lives_same ∙ f in cc)
      by_life rest (Some pair) e None f = absurd (let wrong : Some pair ≡ None = sym e ∙ lives_same ∙ f in cc)
      by_life rest (Some pair) e (Some pair') f =
          let both : Some pair ≡ Some pair' = sym e ∙ lives_same ∙ f in
          subst
          (λ (o : Option (Bound × Position)). SaySame n (by_answer (answers more start) forward.endpoint one (Some (outcome_of_sending (still start pair) sending)))
          (by_answer (answers more start) forward.endpoint other (option_map (λ p. outcome_of_sending (still start p) sending) o)))
          both (by_pair rest pair e)
