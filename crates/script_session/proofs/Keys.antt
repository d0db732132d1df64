-- The tables of a client: which calls wait by endpoint and transaction id, and which endpoints are watched.
use Rattle.std.proofs.Common.{◌≡◌, ℕ, ◌<◌, ◌≤◌, ◌+◌, ◌-◌, Bool, true, false, cond, Option, Some, None, refl, sym, ap, ◌∙◌, subst, arith}
use Rattle.std.specs.Prelude.{◌&&◌, ◌||◌, ◌==◌, is_some}
use Rattle.std.specs.declared.cmp.Ordering.{Ordering}
use Rattle.std.specs.declared.cmp.Ordering.TheVariants.{Less, Equal, Greater}
use Rattle.std.specs.Cmp.{IsTotalOrder, nat_cmp_total, unsigned_tied}
use Rattle.std.specs.FinMap as finite
use Rattle.std.specs.FinMap.{FinMap, empty_of_len, get-empty, get-insert, get-remove, len-insert, len-remove}
use Rattle.std.specs.FinSet as set
use Rattle.std.specs.FinSet.{contains-insert}
use Rattle.std.specs.Ordering.{eq_by_cmp, is_eq, nat_cmp, ordering_then}
use Rattle.std.proofs.lemmas.Cmp.{on_total, then_total}
use Rattle.fidl_names.specs.declared.methods.Method.{Method}
use Rattle.io_client.specs.Calls.{call_cmp}

calls_total : IsTotalOrder call_cmp
calls_total = then_total (on_total (λ k. k.0) nat_cmp_total) (on_total (λ k. k.1) nat_cmp_total)

both_equal : (a b : Ordering) → is_eq (ordering_then a b) ≡ is_eq a && is_eq b
both_equal Less b = refl
both_equal Equal b = refl
both_equal Greater b = refl

-- two keys are one where their endpoints and their transaction ids are
same_key : (e x f y : ℕ) → eq_by_cmp call_cmp (e, x) (f, y) ≡ (e == f) && (x == y)
same_key e x f y =
    both_equal (nat_cmp e f) (nat_cmp x y)
    ∙ ap (λ b. b && is_eq (nat_cmp x y)) (unsigned_tied e f) ∙ ap (λ b. (e == f) && b) (unsigned_tied x y)

found_or : (b : Bool) (m : Method) (found : Option Method) → is_some (cond b (Some m) found) ≡ b || is_some found
found_or true m found = refl
found_or false m found = refl

-- behind a call that waits
pub waits_more : (waiting : FinMap call_cmp Method) (f y e x : ℕ) (m : Method) →
    is_some (finite.get (finite.insert waiting (f, y) m) (e, x)) ≡ ((e == f) && (x == y)) || is_some (finite.get waiting (e, x))
waits_more waiting f y e x m =
    ap is_some (get-insert calls_total waiting (f, y) m (e, x))
    ∙ found_or (eq_by_cmp call_cmp (e, x) (f, y)) m (finite.get waiting (e, x))
    ∙ ap (λ b. b || is_some (finite.get waiting (e, x))) (same_key e x f y)

pub one_more : (waiting : FinMap call_cmp Method) (f y : ℕ) (m : Method) → finite.get waiting (f, y) ≡ None →
    finite.len (finite.insert waiting (f, y) m) ≡ finite.len waiting + 1
one_more waiting f y m none =
    len-insert calls_total waiting (f, y) m ∙ ap (λ (o : Option Method). cond (is_some o) (finite.len waiting) (finite.len waiting + 1)) none

-- behind a call that waits no more
gone_or : (b : Bool) (found : Option Method) → is_some (cond b None found) ≡ cond b false (is_some found)
gone_or true found = refl
gone_or false found = refl

pub waits_less : (waiting : FinMap call_cmp Method) (f y e x : ℕ) →
    is_some (finite.get (finite.remove waiting (f, y)) (e, x)) ≡ cond ((e == f) && (x == y)) false (is_some (finite.get waiting (e, x)))
waits_less waiting f y e x =
    ap is_some (get-remove calls_total waiting (f, y) (e, x))
    ∙ gone_or (eq_by_cmp call_cmp (e, x) (f, y)) (finite.get waiting (e, x))
    ∙ ap (λ b. cond b false (is_some (finite.get waiting (e, x)))) (same_key e x f y)

pub one_less : (waiting : FinMap call_cmp Method) (f y : ℕ) (m : Method) → finite.get waiting (f, y) ≡ Some m →
    finite.len (finite.remove waiting (f, y)) ≡ finite.len waiting - 1
one_less waiting f y m there =
    len-remove calls_total waiting (f, y) ∙ ap (λ (o : Option Method). cond (is_some o) (finite.len waiting - 1) (finite.len waiting)) there

-- where a call waits there are some
pub some_wait : (waiting : FinMap call_cmp Method) (f y : ℕ) (m : Method) → finite.get waiting (f, y) ≡ Some m → finite.len waiting ≡ 0 → ⊥
some_wait waiting f y m there none =
    let found : None ≡ Some m = sym (ap (λ w. finite.get w (f, y)) (empty_of_len waiting none) ∙ get-empty call_cmp (f, y)) ∙ there in
    cc

-- behind one more endpoint that is watched
pub watched_more : (watched : set.FinSet nat_cmp) (w e : ℕ) → set.contains (set.insert watched w) e ≡ (e == w) || set.contains watched e
watched_more watched w e =
    contains-insert nat_cmp_total watched w e ∙ ap (λ b. b || set.contains watched e) (unsigned_tied e w)
