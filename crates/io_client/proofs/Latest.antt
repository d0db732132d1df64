-- The call that was made last beside the map of the others.
use Rattle.std.proofs.Common.{◌≡◌, ◌+◌, ℕ, Bool, true, false, cond, refl, sym, ap, ◌∙◌}
use Rattle.std.specs.Prelude.{Option, Some, None, is_some}
use Rattle.std.specs.Cmp.{Equal-is}
use Rattle.std.specs.FinMap as finite
use Rattle.std.specs.FinMap.{FinMap, get-insert, get-remove, len-insert, same_map}
use Rattle.std.specs.Ordering.{eq_by_cmp}
use Rattle.fidl_names.specs.declared.methods.Method.{Method}
use Rattle.io_client.specs.Calls.{call_cmp}
use Rattle.io_client.specs.Latest.{IsApart, method_there, with_latest}
use Rattle.io_client.proofs.Tables.{calls_total, calls_exact, remove-insert}

abbrev Key : Type 0
Key = ℕ × ℕ

abbrev Calls : Type 0
Calls = FinMap call_cmp Method

-- two equal keys are one
one_key : (a b : Key) → eq_by_cmp call_cmp a b ≡ true → a ≡ b
one_key a b h = calls_exact a b ((Equal-is (call_cmp a b)).0 h)

-- what stands at a key
at_choice : (b : Bool) (v w : Method) (others : Option Method) → cond b (Some v) None ≡ Some w → cond b (Some v) others ≡ Some w
at_choice true v w others h = h
at_choice false v w others h = cc

other_choice : (b : Bool) (v : Method) (others : Option Method) → cond b (Some v) None ≡ None → cond b (Some v) others ≡ others
other_choice true v others h = cc
other_choice false v others h = refl

pub at_latest : (latest : Option (Key × Method)) (m : Calls) (q : Key) (w : Method) → method_there latest q ≡ Some w → finite.get (with_latest latest m) q ≡ Some w
at_latest None m q w h = cc
at_latest (Some call) m q w h =
    get-insert calls_total m call.0 call.1 q ∙ at_choice (eq_by_cmp call_cmp q call.0) call.1 w (finite.get m q) h

pub at_others : (latest : Option (Key × Method)) (m : Calls) (q : Key) → method_there latest q ≡ None → finite.get (with_latest latest m) q ≡ finite.get m q
at_others None m q h = refl
at_others (Some call) m q h =
    get-insert calls_total m call.0 call.1 q ∙ other_choice (eq_by_cmp call_cmp q call.0) call.1 (finite.get m q) h

-- how many there are
pub one_more : (m : Calls) (call : Key × Method) → IsApart (Some call) m → finite.len (with_latest (Some call) m) ≡ finite.len m + 1
one_more m call apart =
    len-insert calls_total m call.0 call.1 ∙ ap (λ (o : Option Method). cond (is_some o) (finite.len m) (finite.len m + 1)) apart

-- the last one waits no more
is_there : (b : Bool) (v w : Method) → cond b (Some v) None ≡ Some w → b ≡ true
is_there true v w h = refl
is_there false v w h = cc

isnt_there : (b : Bool) (v : Method) → cond b (Some v) None ≡ None → b ≡ false
isnt_there true v h = cc
isnt_there false v h = refl

pub without_latest : (latest : Option (Key × Method)) (m : Calls) (q : Key) (w : Method) → IsApart latest m → method_there latest q ≡ Some w →
    m ≡ finite.remove (with_latest latest m) q
without_latest None m q w apart h = cc
without_latest (Some call) m q w apart h =
    let same : q ≡ call.0 = one_key q call.0 (is_there (eq_by_cmp call_cmp q call.0) call.1 w h) in
    sym (ap (λ k. finite.remove (finite.insert m call.0 call.1) k) same ∙ remove-insert calls_total calls_exact m call.0 call.1 apart)

-- another waits no more
turned : (r k q : Key) (b c : Bool) (x z : Option Method) → eq_by_cmp call_cmp r k ≡ b → eq_by_cmp call_cmp r q ≡ c → eq_by_cmp call_cmp q k ≡ false →
    cond b x (cond c None z) ≡ cond c None (cond b x z)
turned r k q true true x z is at other =
    let wrong : true ≡ false = sym is ∙ ap (λ s. eq_by_cmp call_cmp s k) (one_key r q at) ∙ other in
    cc
turned r k q true false x z is at other = refl
turned r k q false c x z is at other = refl

pub without_other : (latest : Option (Key × Method)) (m : Calls) (q : Key) → method_there latest q ≡ None →
    with_latest latest (finite.remove m q) ≡ finite.remove (with_latest latest m) q
without_other None m q h = refl
without_other (Some call) m q h =
    let k = call.0 in
    let other = isnt_there (eq_by_cmp call_cmp q k) call.1 h in
    same_map calls_total calls_exact (finite.insert (finite.remove m q) k call.1) (finite.remove (finite.insert m k call.1) q)
    (λ r. get-insert calls_total (finite.remove m q) k call.1 r
    ∙ (ap (cond (eq_by_cmp call_cmp r k) (Some call.1)) (get-remove calls_total m q r)
    ∙ (turned r k q (eq_by_cmp call_cmp r k) (eq_by_cmp call_cmp r q) (Some call.1) (finite.get m r) refl refl other
    ∙ sym (get-remove calls_total (finite.insert m k call.1) q r ∙ ap (cond (eq_by_cmp call_cmp r q) None) (get-insert calls_total m k call.1 r)))))

none_either : (b : Bool) (o : Option Method) → o ≡ None → cond b None o ≡ None
none_either true o h = refl
none_either false o h = h

pub stays_apart : (latest : Option (Key × Method)) (m : Calls) (q : Key) → IsApart latest m → IsApart latest (finite.remove m q)
stays_apart None m q apart = tt
stays_apart (Some call) m q apart = get-remove calls_total m q call.0 ∙ none_either (eq_by_cmp call_cmp call.0 q) (finite.get m call.0) apart
