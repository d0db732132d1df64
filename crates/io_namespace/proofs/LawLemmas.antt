-- What a clean path has, and what is reached.
use Rattle.std.proofs.Common.{◌≡◌, ℕ, zero, suc, ◌<◌, Bool, true, false, cond, List, [], ◌∷◌, ◌++◌, length, get_or, drop, Option, Some, None, All, refl, sym, ap, ◌∙◌, subst, arith, length-append}
use Rattle.std.specs.Option.{option_or, option_map}
use Rattle.std.proofs.lemmas.List.Elements.{All-nil, All-cons, All-head, All-tail}
use Rattle.io_namespace.specs.Cleaning.{parts, is_step, steps_of, is_up, surviving, clean}
use Rattle.io_namespace.specs.Entries.{IsLongest, Table, reached}
use Rattle.io_namespace.proofs.CleanLemmas.{Step, kept, kept_on, excess, excess_on, surviving_are_kept}

-- ---- clean paths

kept_holds : (P : Step → Type 0) (up : Bool) (n : ℕ) (step : Step) (rest : List Step) → P step → All P rest → All P (kept_on up n step rest)
kept_holds P true n step rest is all = all
kept_holds P false zero step rest is all = All-cons P step rest is all
kept_holds P false (suc n) step rest is all = all

kept_all : (P : Step → Type 0) (steps : List Step) → All P steps → All P (kept 0 steps)
kept_all P [] all = All-nil P
kept_all P (step ∷ steps) all =
    kept_holds P (is_up step) (excess 0 steps) step (kept 0 steps) (All-head P step steps all) (kept_all P steps (All-tail P step steps all))

filtered_by : (b : Bool) (part : Step) (rest : List Step) → is_step part ≡ b → All (λ step. is_step step ≡ true) rest → All (λ step. is_step step ≡ true) (cond b (part ∷ rest) rest)
filtered_by true part rest is all = All-cons (λ step. is_step step ≡ true) part rest is all
filtered_by false part rest is all = all

filtered : (all : List Step) → All (λ step. is_step step ≡ true) (steps_of all)
filtered [] = All-nil (λ step. is_step step ≡ true)
filtered (part ∷ rest) = filtered_by (is_step part) part (steps_of rest) refl (filtered rest)

down_on : (up : Bool) (n : ℕ) (step : Step) (rest : List Step) → is_up step ≡ up → All (λ s. is_up s ≡ false) rest → All (λ s. is_up s ≡ false) (kept_on up n step rest)
down_on true n step rest is all = all
down_on false zero step rest is all = All-cons (λ s. is_up s ≡ false) step rest is all
down_on false (suc n) step rest is all = all

kept_down : (steps : List Step) → All (λ s. is_up s ≡ false) (kept 0 steps)
kept_down [] = All-nil (λ s. is_up s ≡ false)
kept_down (step ∷ steps) = down_on (is_up step) (excess 0 steps) step (kept 0 steps) refl (kept_down steps)

no_excess : (steps : List Step) → All (λ s. is_up s ≡ false) steps → excess 0 steps ≡ 0
no_excess [] all = refl
no_excess (step ∷ steps) all =
    ap (λ b. excess_on b (excess 0 steps)) (All-head (λ s. is_up s ≡ false) step steps all)
    ∙ ap (excess_on false) (no_excess steps (All-tail (λ s. is_up s ≡ false) step steps all))

kept_again : (steps : List Step) → All (λ s. is_up s ≡ false) steps → kept 0 steps ≡ steps
kept_again [] all = refl
kept_again (step ∷ steps) all =
    ap (λ b. kept_on b (excess 0 steps) step (kept 0 steps)) (All-head (λ s. is_up s ≡ false) step steps all)
    ∙ ap (λ n. kept_on false n step (kept 0 steps)) (no_excess steps (All-tail (λ s. is_up s ≡ false) step steps all))
    ∙ ap (λ rest. step ∷ rest) (kept_again steps (All-tail (λ s. is_up s ≡ false) step steps all))

clean_is : (text : List ℕ) → clean text ≡ kept 0 (steps_of (parts text))
unfolding clean
clean_is text = surviving_are_kept (steps_of (parts text))

pub clean_steps : (text : List ℕ) → All (λ step. is_step step ≡ true) (clean text)
clean_steps text = subst (All (λ step. is_step step ≡ true)) (sym (clean_is text)) (kept_all (λ step. is_step step ≡ true) (steps_of (parts text)) (filtered (parts text)))

pub clean_down : (text : List ℕ) → All (λ step. is_up step ≡ false) (clean text)
clean_down text = subst (All (λ step. is_up step ≡ false)) (sym (clean_is text)) (kept_down (steps_of (parts text)))

down_behind : (prefix rest : List Step) → All (λ step. is_up step ≡ false) (prefix ++ rest) → All (λ step. is_up step ≡ false) rest
down_behind [] rest all = all
down_behind (step ∷ prefix) rest all = down_behind prefix rest (All-tail (λ s. is_up s ≡ false) step (prefix ++ rest) all)

pub clean_inside : (text : List ℕ) (prefix rest : List Step) → clean text ≡ prefix ++ rest → All (λ step. is_up step ≡ false) rest
clean_inside text prefix rest is = down_behind prefix rest (subst (All (λ step. is_up step ≡ false)) is (clean_down text))

pub clean_again : (text : List ℕ) → surviving (clean text) ≡ clean text
clean_again text = surviving_are_kept (clean text) ∙ kept_again (clean text) (clean_down text)

-- ---- what is reached

abbrev Path : Type 0
Path = List (List ℕ)

or_none : {A : Type 0} (a b : Option A) → option_or a b ≡ None → (a ≡ None) × (b ≡ None)
or_none None b e = (refl, e)
or_none (Some a) b e = cc

map_none : {A B : Type 0} (f : A → B) (a : Option A) → option_map f a ≡ None → a ≡ None
map_none f None e = refl
map_none f (Some a) e = cc

heads : (a b : Step) (p q : Path) → a ∷ p ≡ b ∷ q → a ≡ b
heads a b p q e = ap (λ (l : Path). get_or l 0 a) e

tails : (a b : Step) (p q : Path) → a ∷ p ≡ b ∷ q → p ≡ q
tails a b p q e = ap (λ (l : Path). drop 1 l) e

pub none_reached : (table : Table) (path : Path) → reached table path ≡ None → (prefix behind : Path) → path ≡ prefix ++ behind → table prefix ≡ None
none_reached table [] e [] behind parts = map_none (λ endpoint. (endpoint, [])) (table []) e
none_reached table [] e (step ∷ prefix) behind parts = absurd (let n = ap length parts in omega (arith, n))
none_reached table (first ∷ path) e [] behind parts =
    map_none (λ endpoint. (endpoint, first ∷ path)) (table []) (or_none (reached (λ p. table (first ∷ p)) path) (option_map (λ endpoint. (endpoint, first ∷ path)) (table [])) e).1
none_reached table (first ∷ path) e (step ∷ prefix) behind parts =
    ap (λ s. table (s ∷ prefix)) (sym (heads first step path (prefix ++ behind) parts))
    ∙ none_reached (λ p. table (first ∷ p)) path (or_none (reached (λ p. table (first ∷ p)) path) (option_map (λ endpoint. (endpoint, first ∷ path)) (table [])) e).0 prefix behind
    (tails first step path (prefix ++ behind) parts)

ended : (table : Table) (path : Path) (o : Option ℕ) (endpoint : ℕ) (rest : Path) → table [] ≡ o → option_map {U = ℕ × Path} (λ e. (e, path)) o ≡ Some (endpoint, rest) → (table [] ≡ Some endpoint) × (path ≡ rest)
ended table path None endpoint rest is e = cc
ended table path (Some found) endpoint rest is e =
    let both : ◌≡◌ {A = ℕ × Path} (found, path) (endpoint, rest) = some_is (found, path) (endpoint, rest) e in
    (is ∙ ap (λ (p : ℕ × Path). Some p.0) both, ap (λ (p : ℕ × Path). p.1) both) where
      some_is : (a b : ℕ × Path) → Some a ≡ Some b → a ≡ b
      some_is a b e = cc

pub longest_reached : (table : Table) (path : Path) (endpoint : ℕ) (rest : Path) → reached table path ≡ Some (endpoint, rest) → IsLongest table path endpoint rest
longest_reached table [] endpoint rest e =
    let both = ended table [] (table []) endpoint rest refl e in
    record {
      prefix = [];
      parts = both.1;
      has = both.0;
      longest = λ longer behind parts more. absurd (let n = ap length parts in let m = length-append longer behind in omega (arith, n, m, more));
    }
longest_reached table (first ∷ path) endpoint rest e = by_rest (reached (λ p. table (first ∷ p)) path) refl (longest_reached (λ p. table (first ∷ p)) path endpoint rest) where
  further : IsLongest (λ p. table (first ∷ p)) path endpoint rest → IsLongest table (first ∷ path) endpoint rest
  further is = record {
    prefix = first ∷ is.prefix;
    parts = ap (λ l. first ∷ l) is.parts;
    has = is.has;
    longest = more_than is;
  } where
    more_than : (is : IsLongest (λ p. table (first ∷ p)) path endpoint rest) (longer behind : Path) → first ∷ path ≡ longer ++ behind → length (first ∷ is.prefix) < length longer → table longer ≡ None
    more_than is [] behind parts more = absurd (omega (arith, more))
    more_than is (step ∷ longer) behind parts more =
        ap (λ s. table (s ∷ longer)) (sym (heads first step path (longer ++ behind) parts)) ∙ is.longest longer behind (tails first step path (longer ++ behind) parts) (omega (arith, more))

  here : reached (λ p. table (first ∷ p)) path ≡ None → (table [] ≡ Some endpoint) × (first ∷ path ≡ rest) → IsLongest table (first ∷ path) endpoint rest
  here none both = record { prefix = []; parts = both.1; has = both.0; longest = none_longer none }
    where
      none_longer : reached (λ p. table (first ∷ p)) path ≡ None → (longer behind : Path) → first ∷ path ≡ longer ++ behind → 0 < length longer → table longer ≡ None
      none_longer none [] behind parts more = absurd (omega (arith, more))
      none_longer none (step ∷ longer) behind parts more =
          ap (λ s. table (s ∷ longer)) (sym (heads first step path (longer ++ behind) parts)) ∙ none_reached (λ p. table (first ∷ p)) path none longer behind (tails first step path (longer ++ behind) parts)

  by_rest : (o : Option (ℕ × Path)) → reached (λ p. table (first ∷ p)) path ≡ o →
      (reached (λ p. table (first ∷ p)) path ≡ Some (endpoint, rest) → IsLongest (λ p. table (first ∷ p)) path endpoint rest) → IsLongest table (first ∷ path) endpoint rest
  by_rest None none on = here none (ended table (first ∷ path) (table []) endpoint rest refl (sym (ap (λ o. option_or o (option_map (λ e. (e, first ∷ path)) (table []))) none) ∙ e))
  by_rest (Some found) is on = further (on (is ∙ sym (ap (λ o. option_or o (option_map (λ e. (e, first ∷ path)) (table []))) is) ∙ e))
