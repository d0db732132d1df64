-- A stack of steps has what survives of the steps so far.
use Rattle.std.proofs.Common.{◌≡◌, ℕ, zero, suc, ◌+◌, ◌-◌, Bool, true, false, not, ◌&&◌, if◌then◌else◌, cond, List, [], ◌∷◌, ◌++◌, length, map, take, filter, refl, sym, ap, ◌∙◌, arith, append_assoc, append-nil, length-append}
use Rattle.std.specs.Prelude.{nat_le}
use Rattle.std.specs.List.{list_all}
use Rattle.std.proofs.lemmas.Bool.Decides.{nat_tests}
use Rattle.std.proofs.lemmas.List.Folds.{list_all-map}
use Rattle.std.proofs.Math.Seq.{take-append_seam}
use Rattle.io_namespace.specs.Cleaning.{parts, is_step, steps_of, is_up, ups, downs, runs, stays, surviving, clean}
use Rattle.io_namespace.specs.Steps.{without_last, climbed, stepped, stepped_all}

abbrev pub Step : Type 0
Step = List ℕ

-- ---- counting from the right: how many steps are still to be taken back before some steps, where so many are behind them

abbrev pub excess_on : Bool → ℕ → ℕ
excess_on true n = suc n
excess_on false zero = zero
excess_on false (suc n) = n

abbrev pub excess : ℕ → List Step → ℕ
excess n [] = n
excess n (step ∷ steps) = excess_on (is_up step) (excess n steps)

abbrev pub kept_on : Bool → ℕ → Step → List Step → List Step
kept_on true n step kept = kept
kept_on false zero step kept = step ∷ kept
kept_on false (suc n) step kept = kept

abbrev pub kept : ℕ → List Step → List Step
kept n [] = []
kept n (step ∷ steps) = kept_on (is_up step) (excess n steps) step (kept n steps)

-- ---- the definition counts the same

abbrev pub within : ℕ → List Step → Bool
within n steps = list_all (λ run. nat_le (ups run) (n + downs run)) (runs steps)

all_same : {X : Type 0} (p q : X → Bool) → ((x : X) → p x ≡ q x) → (xs : List X) → list_all p xs ≡ list_all q xs
all_same p q same [] = refl
all_same p q same (x ∷ xs) = ap (λ b. b && list_all p xs) (same x) ∙ ap (λ b. q x && b) (all_same p q same xs)

none_first : (p : List Step → Bool) (steps : List Step) → p [] ≡ false → list_all p (runs steps) ≡ false
none_first p [] fails = ap (λ b. b && true) fails
none_first p (step ∷ steps) fails = ap (λ b. b && list_all p (map (λ run. step ∷ run) (runs steps))) fails

abbrev pub with_run : ℕ → Bool → List Step → Bool
with_run n up run = nat_le (if up then suc (ups run) else ups run) (n + (if up then downs run else suc (downs run)))

first_passes : (n : ℕ) (b : Bool) → (nat_le 0 (n + 0) && b) ≡ b
first_passes n b = ap (λ t. t && b) (zero_least (n + 0)) where
  zero_least : (m : ℕ) → nat_le 0 m ≡ true
  zero_least m = grind (arith, nat_tests)

run_down : (n : ℕ) (run : List Step) → with_run n false run ≡ nat_le (ups run) (suc n + downs run)
run_down n run = moved (ups run) n (downs run) where
  moved : (u n d : ℕ) → nat_le u (n + suc d) ≡ nat_le u (suc n + d)
  moved u n d = ap (nat_le u) (omega arith)

run_up : (n : ℕ) (run : List Step) → with_run (suc n) true run ≡ nat_le (ups run) (n + downs run)
run_up n run = moved (ups run) n (downs run) where
  moved : (u n d : ℕ) → nat_le (suc u) (suc n + d) ≡ nat_le u (n + d)
  moved u n d = grind (arith, nat_tests)

with_step : (n : ℕ) (step : Step) (steps : List Step) → within n (step ∷ steps) ≡ list_all (with_run n (is_up step)) (runs steps)
with_step n step steps =
    first_passes n (list_all (λ run. nat_le (ups run) (n + downs run)) (map (λ run. step ∷ run) (runs steps)))
    ∙ list_all-map (λ run. nat_le (ups run) (n + downs run)) (λ run. step ∷ run) (runs steps)

one_less : (e n : ℕ) → nat_le e (suc n) ≡ nat_le (excess_on false e) n
one_less zero n = least (suc n) ∙ sym (least n) where
  least : (m : ℕ) → nat_le 0 m ≡ true
  least m = grind (arith, nat_tests)
one_less (suc e) n = both e n where
  both : (e n : ℕ) → nat_le (suc e) (suc n) ≡ nat_le e n
  both e n = grind (arith, nat_tests)

counted_on : (n : ℕ) (up : Bool) (steps : List Step) → ((m : ℕ) → within m steps ≡ nat_le (excess 0 steps) m) → list_all (with_run n up) (runs steps) ≡ nat_le (excess_on up (excess 0 steps)) n
counted_on n false steps rest =
    all_same (with_run n false) (λ run. nat_le (ups run) (suc n + downs run)) (run_down n) (runs steps) ∙ rest (suc n) ∙ one_less (excess 0 steps) n
counted_on (suc n) true steps rest =
    all_same (with_run (suc n) true) (λ run. nat_le (ups run) (n + downs run)) (run_up n) (runs steps) ∙ rest n ∙ less (excess 0 steps) n where
      less : (e n : ℕ) → nat_le e n ≡ nat_le (suc e) (suc n)
      less e n = grind (arith, nat_tests)
counted_on zero true steps rest = none_first (with_run 0 true) steps (over 0) ∙ sym (over (excess 0 steps)) where
  over : (e : ℕ) → nat_le (suc e) 0 ≡ false
  over e = grind (arith, nat_tests)

counted : (n : ℕ) (steps : List Step) → within n steps ≡ nat_le (excess 0 steps) n
counted n [] = first_passes n true ∙ sym (zero_least n) where
  zero_least : (m : ℕ) → nat_le 0 m ≡ true
  zero_least m = grind (arith, nat_tests)
counted n (step ∷ steps) = with_step n step steps ∙ counted_on n (is_up step) steps (λ m. counted m steps)

stays_if : (steps : List Step) → stays steps ≡ nat_le (excess 0 steps) 0
stays_if steps = all_same (λ run. nat_le (ups run) (downs run)) (λ run. nat_le (ups run) (0 + downs run)) same (runs steps) ∙ counted 0 steps where
  same : (run : List Step) → nat_le (ups run) (downs run) ≡ nat_le (ups run) (0 + downs run)
  same run = ap (nat_le (ups run)) (omega arith)

kept_if : (up : Bool) (n : ℕ) (step : Step) (rest : List Step) → cond (not up && nat_le n 0) (step ∷ rest) rest ≡ kept_on up n step rest
kept_if true n step rest = refl
kept_if false zero step rest = ap (λ b. cond b (step ∷ rest) rest) (least 0) where
  least : (m : ℕ) → nat_le 0 m ≡ true
  least m = grind (arith, nat_tests)
kept_if false (suc n) step rest = ap (λ b. cond b (step ∷ rest) rest) (over n) where
  over : (m : ℕ) → nat_le (suc m) 0 ≡ false
  over m = grind (arith, nat_tests)

pub surviving_are_kept : (steps : List Step) → surviving steps ≡ kept 0 steps
surviving_are_kept [] = refl
surviving_are_kept (step ∷ steps) =
    ap (λ b. cond (not (is_up step) && b) (step ∷ surviving steps) (surviving steps)) (stays_if steps)
    ∙ ap (λ rest. cond (not (is_up step) && nat_le (excess 0 steps) 0) (step ∷ rest) rest) (surviving_are_kept steps)
    ∙ kept_if (is_up step) (excess 0 steps) step (kept 0 steps)

-- ---- one step more on the right

excess-push : (n : ℕ) (steps : List Step) (last : Step) → excess n (steps ++ last ∷ []) ≡ excess (excess_on (is_up last) n) steps
excess-push n [] last = refl
excess-push n (step ∷ steps) last = ap (excess_on (is_up step)) (excess-push n steps last)

kept_on-push : (up : Bool) (n : ℕ) (step : Step) (rest : List Step) (last : Step) → kept_on up n step (rest ++ last ∷ []) ≡ kept_on up n step rest ++ last ∷ []
kept_on-push true n step rest last = refl
kept_on-push false zero step rest last = refl
kept_on-push false (suc n) step rest last = refl

kept-push_down : (steps : List Step) (last : Step) → is_up last ≡ false → kept 0 (steps ++ last ∷ []) ≡ kept 0 steps ++ last ∷ []
kept-push_down [] last down = ap (λ b. kept_on b 0 last []) down
kept-push_down (step ∷ steps) last down =
    ap (λ n. kept_on (is_up step) n step (kept 0 (steps ++ last ∷ []))) (excess-push 0 steps last ∙ ap (λ b. excess (excess_on b 0) steps) down)
    ∙ ap (kept_on (is_up step) (excess 0 steps) step) (kept-push_down steps last down)
    ∙ kept_on-push (is_up step) (excess 0 steps) step (kept 0 steps) last

kept-push_up : (steps : List Step) (last : Step) → is_up last ≡ true → kept 0 (steps ++ last ∷ []) ≡ kept 1 steps
kept-push_up [] last up = ap (λ b. kept_on b 0 last []) up
kept-push_up (step ∷ steps) last up =
    ap (λ n. kept_on (is_up step) n step (kept 0 (steps ++ last ∷ []))) (excess-push 0 steps last ∙ ap (λ b. excess (excess_on b 0) steps) up)
    ∙ ap (kept_on (is_up step) (excess 1 steps) step) (kept-push_up steps last up)

-- one more that is taken back is the last that was kept, or goes over the front
data Taken (steps : List Step) : Type 0 where
  one : (rest : List Step) (last : Step) → kept 0 steps ≡ rest ++ last ∷ [] → kept 1 steps ≡ rest → excess 1 steps ≡ excess 0 steps → Taken steps
  none : kept 0 steps ≡ [] → kept 1 steps ≡ [] → excess 1 steps ≡ suc (excess 0 steps) → Taken steps

taken_on : (up : Bool) (step : Step) (steps : List Step) → is_up step ≡ up → Taken steps → Taken (step ∷ steps)
taken_on up step steps is (one rest last k0 k1 e) =
    one (kept_on (is_up step) (excess 0 steps) step rest) last
    (ap (kept_on (is_up step) (excess 0 steps) step) k0 ∙ kept_on-push (is_up step) (excess 0 steps) step rest last)
    (ap (λ n. kept_on (is_up step) n step (kept 1 steps)) e ∙ ap (kept_on (is_up step) (excess 0 steps) step) k1)
    (ap (excess_on (is_up step)) e)
taken_on true step steps is (none k0 k1 e) =
    none
    (ap (λ b. kept_on b (excess 0 steps) step (kept 0 steps)) is ∙ k0)
    (ap (λ b. kept_on b (excess 1 steps) step (kept 1 steps)) is ∙ k1)
    (ap (λ b. excess_on b (excess 1 steps)) is ∙ ap suc e ∙ sym (ap (λ b. suc (excess_on b (excess 0 steps))) is))
taken_on false step steps is (none k0 k1 e) = by_excess (excess 0 steps) refl where
  by_excess : (n : ℕ) → excess 0 steps ≡ n → Taken (step ∷ steps)
  by_excess zero zeroed =
      one [] step
      (ap (λ b. kept_on b (excess 0 steps) step (kept 0 steps)) is ∙ ap (λ n. kept_on false n step (kept 0 steps)) zeroed ∙ ap (λ rest. step ∷ rest) k0)
      (ap (λ b. kept_on b (excess 1 steps) step (kept 1 steps)) is ∙ ap (λ n. kept_on false n step (kept 1 steps)) (e ∙ ap suc zeroed) ∙ k1)
      (ap (λ b. excess_on b (excess 1 steps)) is ∙ ap (excess_on false) (e ∙ ap suc zeroed) ∙ sym (ap (λ b. excess_on b (excess 0 steps)) is ∙ ap (excess_on false) zeroed))
  by_excess (suc n) some =
      none
      (ap (λ b. kept_on b (excess 0 steps) step (kept 0 steps)) is ∙ ap (λ m. kept_on false m step (kept 0 steps)) some ∙ k0)
      (ap (λ b. kept_on b (excess 1 steps) step (kept 1 steps)) is ∙ ap (λ m. kept_on false m step (kept 1 steps)) (e ∙ ap suc some) ∙ k1)
      (ap (λ b. excess_on b (excess 1 steps)) is ∙ ap (excess_on false) (e ∙ ap suc some) ∙ sym (ap (λ b. suc (excess_on b (excess 0 steps))) is ∙ ap (λ m. suc (excess_on false m)) some))

taken : (steps : List Step) → Taken steps
taken [] = none refl refl refl
taken (step ∷ steps) = taken_on (is_up step) step steps refl (taken steps)

without_last-push : (rest : List Step) (last : Step) → without_last (rest ++ last ∷ []) ≡ rest
without_last-push rest last =
    let n : length (rest ++ last ∷ []) - 1 ≡ length rest = omega (arith, length-append rest (last ∷ [])) in
    ap (λ k. take k (rest ++ last ∷ [])) n ∙ take-append_seam rest (last ∷ [])

kept_less : (steps : List Step) → kept 1 steps ≡ without_last (kept 0 steps)
kept_less steps = by_taken (taken steps) where
  by_taken : Taken steps → kept 1 steps ≡ without_last (kept 0 steps)
  by_taken (one rest last k0 k1 e) = k1 ∙ sym (ap without_last k0 ∙ without_last-push rest last)
  by_taken (none k0 k1 e) = k1 ∙ sym (ap without_last k0)

climbed_on : (steps : List Step) (step : Step) (up : Bool) → is_up step ≡ up → climbed (surviving steps) step ≡ surviving (steps ++ step ∷ [])
climbed_on steps step true is =
    ap (λ b. cond b (without_last (surviving steps)) (surviving steps ++ step ∷ [])) is
    ∙ ap without_last (surviving_are_kept steps) ∙ sym (kept_less steps) ∙ sym (kept-push_up steps step is) ∙ sym (surviving_are_kept (steps ++ step ∷ []))
climbed_on steps step false is =
    ap (λ b. cond b (without_last (surviving steps)) (surviving steps ++ step ∷ [])) is
    ∙ ap (λ l. l ++ step ∷ []) (surviving_are_kept steps) ∙ sym (kept-push_down steps step is) ∙ sym (surviving_are_kept (steps ++ step ∷ []))

stepped_on : (done : List Step) (part : Step) (is : Bool) → is_step part ≡ is → (rest : List Step) →
    stepped_all (stepped (surviving done) part) rest ≡ stepped_all (surviving (done ++ filter is_step (part ∷ []))) rest
unfolding stepped
stepped_on done part true is rest =
    ap (λ b. stepped_all (cond b (climbed (surviving done) part) (surviving done)) rest) is
    ∙ ap (λ stack. stepped_all stack rest) (climbed_on done part (is_up part) refl)
    ∙ sym (ap (λ b. stepped_all (surviving (done ++ cond b (part ∷ []) [])) rest) is)
stepped_on done part false is rest =
    ap (λ b. stepped_all (cond b (climbed (surviving done) part) (surviving done)) rest) is
    ∙ ap (λ steps. stepped_all (surviving steps) rest) (sym (append-nil done))
    ∙ sym (ap (λ b. stepped_all (surviving (done ++ cond b (part ∷ []) [])) rest) is)

steps_front : (part : Step) (is : Bool) → is_step part ≡ is → (done rest : List Step) → (done ++ filter is_step (part ∷ [])) ++ steps_of rest ≡ done ++ steps_of (part ∷ rest)
steps_front part true is done rest =
    ap (λ b. (done ++ cond b (part ∷ []) []) ++ steps_of rest) is ∙ append_assoc done (part ∷ []) (steps_of rest)
    ∙ sym (ap (λ b. done ++ cond b (part ∷ steps_of rest) (steps_of rest)) is)
steps_front part false is done rest =
    ap (λ b. (done ++ cond b (part ∷ []) []) ++ steps_of rest) is ∙ append_assoc done [] (steps_of rest)
    ∙ sym (ap (λ b. done ++ cond b (part ∷ steps_of rest) (steps_of rest)) is)

stacked : (done rest : List Step) → stepped_all (surviving done) rest ≡ surviving (done ++ steps_of rest)
stacked done [] = ap surviving (sym (append-nil done))
stacked done (part ∷ rest) =
    stepped_on done part (is_step part) refl rest
    ∙ stacked (done ++ filter is_step (part ∷ [])) rest
    ∙ ap surviving (steps_front part (is_step part) refl done rest)

-- the stack behind all parts of a text is its clean path
pub stack_is_clean : (text : List ℕ) → stepped_all [] (parts text) ≡ clean text
unfolding clean
stack_is_clean text = stacked [] (parts text)

-- ---- one part more

pub stepped_skipped : (stack : List Step) (part : Step) → is_step part ≡ false → stepped stack part ≡ stack
unfolding stepped
stepped_skipped stack part other = ap (λ b. cond b (climbed stack part) stack) other

pub stepped_up : (stack : List Step) (part : Step) → is_step part ≡ true → is_up part ≡ true → stepped stack part ≡ without_last stack
unfolding stepped
stepped_up stack part is up =
    ap (λ b. cond b (climbed stack part) stack) is ∙ ap (λ b. cond b (without_last stack) (stack ++ part ∷ [])) up

pub stepped_down : (stack : List Step) (part : Step) → is_step part ≡ true → is_up part ≡ false → stepped stack part ≡ stack ++ part ∷ []
unfolding stepped
stepped_down stack part is down =
    ap (λ b. cond b (climbed stack part) stack) is ∙ ap (λ b. cond b (without_last stack) (stack ++ part ∷ [])) down
