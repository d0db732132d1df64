-- The text of some steps, one step on.
use Rattle.std.proofs.Common.{◌≡◌, ℕ, ◌+◌, ◌<◌, ◌≤◌, List, [], ◌∷◌, ◌++◌, length, map, take, get_or, refl, sym, ap, ◌∙◌, arith, append_assoc}
use Rattle.std.proofs.lemmas.List.{length-map, length-take, map_more}
use Rattle.std.specs.List.{join_with_byte}
use Rattle.path_walk.specs.Names.{slash, dot}
use Rattle.path_walk.specs.Paths.{text_of}

pub join_push : (by : ℕ) (steps : List (List ℕ)) (last : List ℕ) → 0 < length steps → join_with_byte by (steps ++ last ∷ []) ≡ join_with_byte by steps ++ by ∷ last
join_push by [] last some = absurd (omega arith)
join_push by (step ∷ []) last some = refl
join_push by (step ∷ next ∷ steps) last some =
    ap (λ rest. step ++ by ∷ rest) (join_push by (next ∷ steps) last (omega arith))
    ∙ sym (append_assoc step (by ∷ join_with_byte by (next ∷ steps)) (by ∷ last))

pub text_of_none : (steps : List (List ℕ)) → length steps ≡ 0 → text_of steps ≡ dot
unfolding text_of
text_of_none [] none = refl
text_of_none (step ∷ steps) none = absurd (omega (arith, none))

pub text_of_some : (steps : List (List ℕ)) → 0 < length steps → text_of steps ≡ join_with_byte slash steps
unfolding text_of
text_of_some [] some = absurd (omega arith)
text_of_some (step ∷ steps) some = refl

pub step_on : {X : Type 0} (f : X → List ℕ) (steps : List X) (i : ℕ) (d : X) (before pushed after : List ℕ) → before ≡ join_with_byte slash (map f (take i steps)) →
    pushed ≡ before ++ slash ∷ [] → after ≡ pushed ++ f (get_or steps i d) → 1 ≤ i → i < length steps → after ≡ join_with_byte slash (map f (take (i + 1) steps))
step_on f steps i d before pushed after is push on low high =
    let n = length-map (take i steps) f in
    let m = length-take i steps in
    let some : 0 < length (map f (take i steps)) = omega (arith, n, m, low, high) in
    on ∙ ap (λ b. b ++ f (get_or steps i d)) (push ∙ ap (λ b. b ++ slash ∷ []) is)
    ∙ append_assoc (join_with_byte slash (map f (take i steps))) (slash ∷ []) (f (get_or steps i d))
    ∙ sym (join_push slash (map f (take i steps)) (f (get_or steps i d)) some)
    ∙ ap (join_with_byte slash) (sym (map_more f steps i d high))
