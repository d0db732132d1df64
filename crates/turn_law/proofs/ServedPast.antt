-- What a serving leaves of each client's endpoint, in the journal's words: who is bound, where it stands, and what waits.
use Rattle.std.proofs.Common.{◌≡◌, ℕ, ◌+◌, ◌==◌, ◌⊎◌, Bool, true, false, not, List, [], ◌∷◌, ◌++◌, filter, drop, Option, Some, None, Contains, if◌then◌else◌, refl, sym, ap, ◌∙◌, subst, inl, inr, append-nil}
use Rattle.std.specs.Option.{option_map, option_map_or}
use Rattle.std.proofs.lemmas.Bool.{true≢false}
use Rattle.std.proofs.lemmas.List.Elements.{Contains-append_cases}
use Rattle.fidl_names.specs.HandleNumber.{is_client}
use Rattle.link_admission.specs.Numbering.{among}
use Rattle.conn_rules.specs.Births.{Position}
use Rattle.vfs_journal.specs.Deaths.{deaths_of, first_deaths, others, spread}
use Rattle.vfs_journal.specs.Entries.{Journal, Sent, message}
use Rattle.vfs_journal.specs.History.{History, waiting}
use Rattle.vfs_journal.specs.Lawful.{Lawful}
use Rattle.vfs_journal.specs.Outcomes.{Forwarded, Outcome}
use Rattle.vfs_journal.specs.Past.{history_of}
use Rattle.vfs_journal.specs.Serving.{outcome_of}
use Rattle.vfs_journal.specs.Session.{after_serving, head}
use Rattle.vfs_journal.specs.Starts.{Bound, Start}
use Rattle.vfs_journal.specs.View.{View, at_in, event_in, moved, onward_in, onward_sent, outcome_in, serving_in, then_in}
use Rattle.journal_laws.specs.Behind.{IsBehind}
use Rattle.journal_laws.specs.Soundness.{IsStart}
use Rattle.journal_laws.specs.Viewing.{view_behind}
use Rattle.journal_laws.proofs.Below.{Below}
use Rattle.journal_laws.proofs.Fits.{views_fit}
use Rattle.journal_laws.proofs.LookedUp.{is_behind}
use Rattle.journal_laws.proofs.Members.{contains_cases, contains_none, kept_of}
use Rattle.journal_laws.proofs.ViewLaws.{served_behind_viewed}
use Rattle.journal_laws.proofs.ViewParts.{head_is_in, outcome_is_in}
use Rattle.turn_law.specs.Invariant.{queue_on}
use Rattle.turn_law.specs.Told.{newborn}

-- who dies of an outcome
abbrev pub dying_of : History → Sent → Outcome → List ℕ
dying_of past one o = spread (first_deaths one o) (others past one)

-- the dead are bound no more, whoever is bound is newborn, and the served endpoint stands where the outcome left it
abbrev pub at_by : History → Sent → (ℕ → Option (Bound × Position)) → Outcome → ℕ → Option (Bound × Position)
at_by past one was o n =
    if among n (dying_of past one o) then None
    else if option_map_or (λ bound. bound.endpoint == n) o.bound false then option_map newborn o.bound
    else option_map (moved one.endpoint o.position) (was n)

-- nothing waits on the dead, and on the served endpoint all but the first
abbrev pub queue_by : History → Sent → Outcome → ℕ → List Sent
queue_by past one o n =
    if among n (dying_of past one o) then []
    else if one.endpoint == n then drop 1 (queue_on past n) else queue_on past n

-- what went on behind the mount
pub record IsGoneOn (o : Outcome) (one x : Sent) : Type 0 where
  pub forward : Forwarded
  pub goes : o.forward ≡ Some forward
  pub on : x.endpoint ≡ forward.endpoint
  pub sends : x.sending ≡ message forward.bytes (forward.object ∷ [])
  pub origin : x.origin ≡ Some one.place

-- another entry that waited, and lives
pub record IsLeft (past : History) (one : Sent) (o : Outcome) (x : Sent) : Type 0 where
  pub there : Contains (others past one) x
  pub lives : among x.endpoint (dying_of past one o) ≡ false

pub record IsServedPast (start : Start) (journal : Journal) (one : Sent) : Type 0 where
  pub at : (n : ℕ) → at_in (view_behind start (after_serving start journal one)) n
      ≡ at_by (history_of start journal) one (at_in (view_behind start journal)) (outcome_of start (history_of start journal) one) n
  pub queue : (n : ℕ) → ((forward : Forwarded) → (outcome_of start (history_of start journal) one).forward ≡ Some forward → (forward.endpoint == n) ≡ false) →
      queue_on (history_of start (after_serving start journal one)) n ≡ queue_by (history_of start journal) one (outcome_of start (history_of start journal) one) n
  pub waits : (x : Sent) → Contains (waiting (history_of start (after_serving start journal one))) x →
      IsLeft (history_of start journal) one (outcome_of start (history_of start journal) one) x ⊎ IsGoneOn (outcome_of start (history_of start journal) one) one x

onward_none : (view : View) (one : Sent) (n : ℕ) (o : Option Forwarded) → ((forward : Forwarded) → o ≡ Some forward → (forward.endpoint == n) ≡ false) →
    option_map_or (λ forward. if forward.endpoint == n then onward_sent (view.places + 1) one forward ∷ [] else []) o [] ≡ []
onward_none view one n None h = refl
onward_none view one n (Some forward) h = ap (λ (b : Bool). if b then onward_sent (view.places + 1) one forward ∷ [] else []) (h forward refl)

not_false : (b : Bool) → not b ≡ true → b ≡ false
not_false true h = sym h
not_false false h = refl

left_in : (start : Start) (past : History) (one x : Sent) (o : Outcome) → Contains (filter (λ other. not (among other.endpoint (dying_of past one o))) (others past one)) x → IsLeft past one o x
left_in start past one x o h =
    let k = kept_of (λ (other : Sent). not (among other.endpoint (dying_of past one o))) (others past one) x h in
    record { there = k.0; lives = not_false (among x.endpoint (dying_of past one o)) k.1 }

waits_by : (start : Start) (past : History) (one x : Sent) (places : ℕ) (o : Outcome) (left : List Sent) → (Contains left x → IsLeft past one o x) → (f : Option Forwarded) → o.forward ≡ f →
    Contains (left ++ option_map_or (λ forward. onward_sent places one forward ∷ []) f []) x → IsLeft past one o x ⊎ IsGoneOn o one x
waits_by start past one x places o left is None e h = inl (is (subst (λ (ones : List Sent). Contains ones x) (append-nil left) h))
waits_by start past one x places o left is (Some forward) e h = by_place (Contains-append_cases left (onward_sent places one forward ∷ []) x h) where
  by_one : (onward_sent places one forward ≡ x) ⊎ Contains [] x → IsLeft past one o x ⊎ IsGoneOn o one x
  by_one (inl same) = inr (record {
    forward = forward;
    goes = e;
    on = ap (λ (y : Sent). y.endpoint) (sym same);
    sends = ap (λ (y : Sent). y.sending) (sym same);
    origin = ap (λ (y : Sent). y.origin) (sym same);
  })
  by_one (inr none) = absurd (contains_none x none)

  by_place : Contains left x ⊎ Contains (onward_sent places one forward ∷ []) x → IsLeft past one o x ⊎ IsGoneOn o one x
  by_place (inl g) = inl (is g)
  by_place (inr g) = by_one (contains_cases x (onward_sent places one forward) [] g)

onward_waiting : (view : View) (one : Sent) (f : Option Forwarded) → (onward_in view one f).waiting ≡ view.waiting ++ option_map_or (λ forward. onward_sent view.places one forward ∷ []) f []
onward_waiting view one None = sym (append-nil view.waiting)
onward_waiting view one (Some forward) = refl

pub served_past : Below → (start : Start) (journal : Journal) (one : Sent) → IsStart start → Lawful start journal → head start (history_of start journal) one.endpoint ≡ Some one → IsServedPast start journal one
served_past below start journal one s lawful first = record {
  at = λ n.
      ap (λ (v : View). at_in v n) viewed
      ∙ behind.at n
      ∙ ap (λ (o : Outcome). at_by past one (at_in view) o n) (sym outcome);
  queue = λ n none.
      ap (λ (v : View). filter (λ (x : Sent). x.endpoint == n) v.waiting) viewed
      ∙ behind.queue n
      ∙ ap (λ (x : List Sent). queue_by past one (outcome_in') n ++ x) (onward_none view one n outcome_in'.forward (λ f e. none f (ap (λ (o : Outcome). o.forward) outcome ∙ e)))
      ∙ append-nil (queue_by past one outcome_in' n)
      ∙ ap (λ (o : Outcome). queue_by past one o n) (sym outcome);
  waits = λ x there.
      waits_by start past one x (serving_in view one (event_in view one)).places (outcome_of start past one) (serving_in view one (event_in view one)).waiting
      (λ g. left_in start past one x (outcome_of start past one) (subst (λ (o : Outcome). Contains (filter (λ other. not (among other.endpoint (dying_of past one o))) (others past one)) x) (sym outcome) g))
      outcome_in'.forward (ap (λ (o : Outcome). o.forward) outcome)
      (subst (λ (ones : List Sent). Contains ones x)
      (ap (λ (v : View). v.waiting) viewed ∙ onward_waiting (serving_in view one (event_in view one)) one outcome_in'.forward) there);
} where
  past : History
  past = history_of start journal

  view : View
  view = view_behind start journal

  outcome_in' : Outcome
  outcome_in' = outcome_in view one

  outcome : outcome_of start past one ≡ outcome_in view one
  outcome = outcome_is_in start past one

  viewed : view_behind start (after_serving start journal one) ≡ then_in view one
  viewed = served_behind_viewed below start journal one s lawful first

  behind : IsBehind view one
  behind = is_behind view one (views_fit below start journal s lawful) (sym (head_is_in start past one.endpoint) ∙ first)
