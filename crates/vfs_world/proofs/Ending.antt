-- What is known while endpoints end one after another.
use Rattle.std.proofs.Common.{◌≡◌, ◌≢◌, ℕ, ◌<◌, ◌==◌, Bool, true, cond, List, [], ◌∷◌, length, get_or, take, fold, All, AllPairs, Option, Some, refl, sym, ap, ◌∙◌, subst, arith}
use Rattle.std.specs.Prelude.{unwrap_or}
use Rattle.std.specs.Ordering.{nat_cmp, eq_by_cmp}
use Rattle.std.specs.FinMap as map
use Rattle.std.specs.FinMap.{get-insert}
use Rattle.std.proofs.lemmas.Bool.{ne_eqb}
use Rattle.std.proofs.lemmas.Bool.Decides.{nat_tests}
use Rattle.std.proofs.lemmas.Cmp.{nat_cmp_total}
use Rattle.std.proofs.lemmas.List.{get_or-take, length-take-le}
use Rattle.std.proofs.lemmas.List.Elements.{All-head, All-tail, All-from_get_or}
use Rattle.link_admission.specs.Standings.{Known, ended, is_live, standing_of}
use Rattle.link_admission.specs.declared.kinds.Standing.{Standing}
use Rattle.link_admission.specs.declared.kinds.Standing.TheVariants as standing

same_number : (a b : ℕ) → eq_by_cmp nat_cmp a b ≡ (a == b)
same_number a b = grind (arith, nat_tests)

-- the others stand as they stood
stands_on : (known : Known) (endpoint n : ℕ) → endpoint ≢ n → standing_of (ended known endpoint) n ≡ standing_of known n
stands_on known endpoint n apart =
    ap (λ (o : Option Standing). unwrap_or o standing.Unused)
    (get-insert nat_cmp_total known.standings endpoint standing.Dead n
    ∙ ap (λ (b : Bool). cond b (Some standing.Dead) (map.get known.standings n)) (same_number n endpoint ∙ ne_eqb n endpoint (λ e. apart (sym e))))

all_stand : (known : Known) (n : ℕ) (dead : List ℕ) → All (λ endpoint. endpoint ≢ n) dead → standing_of (fold ended known dead) n ≡ standing_of known n
all_stand known n [] apart = refl
all_stand known n (endpoint ∷ dead) apart =
    all_stand (ended known endpoint) n dead (All-tail (λ endpoint. endpoint ≢ n) endpoint dead apart) ∙ stands_on known endpoint n (All-head (λ endpoint. endpoint ≢ n) endpoint dead apart)

-- the next one lives still
pub still_live : (known : Known) (dead : List ℕ) (i : ℕ) → i < length dead → All (λ endpoint. is_live (standing_of known endpoint) ≡ true) dead → AllPairs (λ one other. one ≢ other) dead →
    is_live (standing_of (fold ended known (take i dead)) (get_or dead i 0)) ≡ true
still_live known dead i within live once =
    ap is_live (all_stand known (get_or dead i 0) (take i dead)
    (All-from_get_or (λ endpoint. endpoint ≢ get_or dead i 0) (take i dead) 0
    (λ k inside.
    let size = length-take-le i dead (omega arith) in
    let before : k < i = omega (arith, size, inside) in
    subst (λ (n : ℕ). n ≢ get_or dead i 0) (sym (get_or-take i dead k 0 before)) (once k i 0 before within))))
    ∙ live i 0 within

-- deaths don't look at how much waits
pub ended_with : (dead : List ℕ) (known : Known) (n : ℕ) → ◌≡◌ {A = Known} (fold ended (record known { waiting = n }) dead) (record (fold ended known dead) { waiting = n })
ended_with [] known n = refl
ended_with (endpoint ∷ dead) known n = ended_with dead (ended known endpoint) n

pub with_waiting : (a b : Known) (n m : ℕ) → a ≡ b → n ≡ m → ◌≡◌ {A = Known} (record a { waiting = n }) (record b { waiting = m })
with_waiting a b n m e f = λ i. record (e i) { waiting = f i }

pub ended_known : (known mid new : Known) (dead : List ℕ) (n m : ℕ) → mid ≡ record known { waiting = n } → new ≡ fold ended mid dead → n ≡ m → ◌≡◌ {A = Known} new (record (fold ended known dead) { waiting = m })
ended_known known mid new dead n m e f same =
    f ∙ ap (λ (k : Known). fold ended k dead) e ∙ ended_with dead known n ∙ with_waiting (fold ended known dead) (fold ended known dead) n m refl same
