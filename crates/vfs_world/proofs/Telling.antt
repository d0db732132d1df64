-- What a fate tells is what the outcome says.
use Rattle.std.proofs.Common.{◌≡◌, ℕ, ◌==◌, ◌||◌, Bool, true, false, not, List, ◌++◌, filter, Option, Some, None, option_to_list, refl, ap, ◌∙◌}
use Rattle.std.specs.Option.{option_map, option_map_or}
use Rattle.std.proofs.lemmas.List.Elements.{filter_agree}
use Rattle.link_admission.specs.Numbering.{among}
use Rattle.fidl_names.specs.HandleNumber.{end_of_mount}
use Rattle.conn_rules.specs.Onward.{onward_bytes}
use Rattle.vfs_journal.specs.Deaths.{first_deaths, is_settled}
use Rattle.vfs_journal.specs.Entries.{Sent, endpoints_in}
use Rattle.vfs_journal.specs.Outcomes.{Forwarded, Outcome}
use Rattle.vfs_journal.specs.Starts.{Bound}
use Rattle.vfs_server.specs.Fates.{numbers_in, numbers_told}
use Rattle.vfs_server.specs.declared.fate.Fate.{Fate}
use Rattle.vfs_server.specs.declared.fate.Fate.TheVariants as fates
use Rattle.vfs_world.specs.ServingSteps.{bound_told, end_told, first_told, is_it, settled_told}

-- what goes on, and the token that is given
abbrev pub forward_told : Fate → Option Forwarded
forward_told (fates.Forwards mount object flags rest) = Some (record { endpoint = end_of_mount mount; bytes = onward_bytes flags rest object; object = object })
forward_told _ = None

abbrev pub token_told : Fate → Option ℕ
token_told (fates.Gives token) = Some token
token_told _ = None

-- the outcome of a serving on this endpoint has the parts that the fate tells
pub record Tells (outcome : Outcome) (endpoint : ℕ) (fate : Fate) : Type 0 where
  pub ends : outcome.ends ≡ option_to_list (end_told endpoint fate)
  pub settled : (n : ℕ) → is_settled outcome n ≡ is_it (settled_told endpoint fate) n
  pub bound : option_map (λ bound. bound.endpoint) outcome.bound ≡ bound_told fate
  pub forward : outcome.forward ≡ forward_told fate
  pub token : option_map (λ given. given.token) outcome.token ≡ token_told fate

or_none : (b : Bool) → (b || false) ≡ b
or_none true = refl
or_none false = refl

-- whether it is the one that is bound is told by its number
bound_is : (o : Option Bound) (n : ℕ) → option_map_or (λ bound. bound.endpoint == n) o false ≡ is_it (option_map (λ bound. bound.endpoint) o) n
bound_is None n = refl
bound_is (Some bound) n = refl

by_parts : (outcome : Outcome) (bound : Option ℕ) (ends : List ℕ) (forward : Option Forwarded) → option_map (λ bound. bound.endpoint) outcome.bound ≡ bound → outcome.ends ≡ ends → outcome.forward ≡ forward → (n : ℕ) →
    is_settled outcome n ≡ (is_it bound n || (among n ends || option_map_or (λ f. f.object == n) forward false))
by_parts outcome bound ends forward p q r n =
    ap (λ (b : Bool). b || (among n outcome.ends || option_map_or (λ f. f.object == n) outcome.forward false)) (bound_is outcome.bound n)
    ∙ (λ i. is_it (p i) n || (among n (q i) || option_map_or (λ f. f.object == n) (r i) false))

pub tells : (outcome : Outcome) (endpoint : ℕ) (fate : Fate) → numbers_in outcome ≡ numbers_told endpoint fate → Tells outcome endpoint fate
tells outcome endpoint fate e = record {
  ends = ap (λ f. f.ends) e ∙ ends_told fate;
  settled = λ n. by_parts outcome (numbers_told endpoint fate).bound (numbers_told endpoint fate).ends (numbers_told endpoint fate).forward (ap (λ f. f.bound) e) (ap (λ f. f.ends) e) (ap (λ f. f.forward) e) n ∙ is_told fate n;
  bound = ap (λ f. f.bound) e ∙ is_bound fate;
  forward = ap (λ f. f.forward) e ∙ goes_on fate;
  token = ap (λ f. f.token) e ∙ is_given fate;
} where
  ends_told : (fate : Fate) → (numbers_told endpoint fate).ends ≡ option_to_list (end_told endpoint fate)
  ends_told fates.Stays = refl
  ends_told fates.Ends = refl
  ends_told (fates.Binds object) = refl
  ends_told (fates.Refuses object) = refl
  ends_told (fates.Forwards mount object flags rest) = refl
  ends_told (fates.Gives token) = refl

  is_told : (fate : Fate) (n : ℕ) →
      (is_it (numbers_told endpoint fate).bound n || (among n (numbers_told endpoint fate).ends || option_map_or (λ f. f.object == n) (numbers_told endpoint fate).forward false)) ≡ is_it (settled_told endpoint fate) n
  is_told fates.Stays n = refl
  is_told fates.Ends n = or_none ((endpoint == n) || false) ∙ or_none (endpoint == n)
  is_told (fates.Binds object) n = or_none (object == n)
  is_told (fates.Refuses object) n = or_none ((object == n) || false) ∙ or_none (object == n)
  is_told (fates.Forwards mount object flags rest) n = refl
  is_told (fates.Gives token) n = refl

  is_bound : (fate : Fate) → (numbers_told endpoint fate).bound ≡ bound_told fate
  is_bound fates.Stays = refl
  is_bound fates.Ends = refl
  is_bound (fates.Binds object) = refl
  is_bound (fates.Refuses object) = refl
  is_bound (fates.Forwards mount object flags rest) = refl
  is_bound (fates.Gives token) = refl

  goes_on : (fate : Fate) → (numbers_told endpoint fate).forward ≡ forward_told fate
  goes_on fates.Stays = refl
  goes_on fates.Ends = refl
  goes_on (fates.Binds object) = refl
  goes_on (fates.Refuses object) = refl
  goes_on (fates.Forwards mount object flags rest) = refl
  goes_on (fates.Gives token) = refl

  is_given : (fate : Fate) → (numbers_told endpoint fate).token ≡ token_told fate
  is_given fates.Stays = refl
  is_given fates.Ends = refl
  is_given (fates.Binds object) = refl
  is_given (fates.Refuses object) = refl
  is_given (fates.Forwards mount object flags rest) = refl
  is_given (fates.Gives token) = refl

-- the first deaths are those that are told
pub first_are_told : (sent : Sent) (outcome : Outcome) (fate : Fate) → Tells outcome sent.endpoint fate → first_deaths sent outcome ≡ first_told sent fate
first_are_told sent outcome fate told =
    ap (λ (ends : List ℕ). ends ++ filter (λ n. not (is_settled outcome n)) (endpoints_in sent)) told.ends
    ∙ ap (λ (left : List ℕ). option_to_list (end_told sent.endpoint fate) ++ left)
    (filter_agree (λ n. not (is_settled outcome n)) (λ n. not (is_it (settled_told sent.endpoint fate) n)) (λ n. ap not (told.settled n)) (endpoints_in sent))

among_one : (one : Option ℕ) (n : ℕ) → among n (option_to_list one) ≡ is_it one n
among_one None n = refl
among_one (Some it) n = or_none (it == n)

-- what the answer didn't end is what was not told to end
pub others_are_told : (outcome : Outcome) (endpoint : ℕ) (fate : Fate) (deaths : List ℕ) → Tells outcome endpoint fate →
    filter (λ n. not (among n outcome.ends)) deaths ≡ filter (λ n. not (is_it (end_told endpoint fate) n)) deaths
others_are_told outcome endpoint fate deaths told =
    filter_agree (λ n. not (among n outcome.ends)) (λ n. not (is_it (end_told endpoint fate) n))
    (λ n. ap (λ (ends : List ℕ). not (among n ends)) told.ends ∙ ap not (among_one (end_told endpoint fate) n)) deaths
