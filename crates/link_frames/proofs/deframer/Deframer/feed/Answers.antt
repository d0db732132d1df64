use Rattle.std.proofs.Common.{◌≡◌, ◌+◌, ◌-◌, ◌^◌, ◌<◌, ◌≤◌, ℕ, length, take, drop, min, sym, ap, ◌∙◌, subst, arith, refl}
use Rattle.std.proofs.lemmas.List.{take_rest}
use Rattle.std.specs.Prelude.{None, Some, Result, Ok, Err, MatchOption, vec_capacity}
use Rattle.link_frames.specs.declared.deframer.LinkFault.{LinkFault}
use Rattle.link_frames.specs.Frames.{first_reason, size_of}
use Rattle.link_frames.specs.Deframing.{Deframing, flaw, Fed}
use Rattle.link_frames.proofs.Words.{are_bytes}
use Rattle.link_frames.proofs.Feeding.{feed_bad, feed_short, feed_sound, size_of-small, fed_by, kept_after}
use Rattle.link_frames.proofs.deframer.Deframer.feed.Goals as goal

pub invariant_of-self : goal.invariant_of-self
invariant_of-self c =
    let s = c.self.inside.side in
    let k = c.self.inside.kept in
    let p = c.args.piece.now in
    let k1 = c.top_up-first.new.kept.items in
    let a : c.top_up-first.result ≡ min (12 - length k.items) (length p) = c.top_up-first.ensures.count ∙ ap (λ (n : ℕ). min (12 - n) (length p)) k.ok.0 in
    let short : length k1 < 12 = omega (arith, c.top_up-first.new.kept.ok.0, c.len.ensures) in
    let fed = feed_short s k.items p k1 c.top_up-first.result a c.top_up-first.ensures.kept short in
    let asked = subst (λ (d : Deframing). d.start + length d.kept + length p ≤ 2 ^ 63) (sym c.self.view_is) c.requires in
    kept_after s c.self.inside.start k.items p k1 (vec_capacity k) (vec_capacity c.top_up-first.new.kept) c.self.invariant c.top_up-first.ensures.room (are_bytes p c.type_inv.piece) fed.0 asked

pub returns-then-len-lt-FIXED_LEN : goal.returns-then-len-lt-FIXED_LEN
returns-then-len-lt-FIXED_LEN c =
    let s = c.self.inside.side in
    let k = c.self.inside.kept in
    let p = c.args.piece.now in
    let k1 = c.top_up-first.new.kept.items in
    let answer : Result ℕ LinkFault = Ok c.top_up-first.result in
    let a : c.top_up-first.result ≡ min (12 - length k.items) (length p) = c.top_up-first.ensures.count ∙ ap (λ (n : ℕ). min (12 - n) (length p)) k.ok.0 in
    let short : length k1 < 12 = omega (arith, c.top_up-first.new.kept.ok.0, c.len.ensures) in
    let fed = feed_short s k.items p k1 c.top_up-first.result a c.top_up-first.ensures.kept short in
    let count : c.top_up-first.result ≡ length k1 - length k.items = omega (arith, fed.2) in
    let said : MatchOption (flaw s k1) (answer ≡ Ok (length k1 - length k.items)) (λ w. answer ≡ Err (record { at = c.self.inside.start; reason = w })) = rw fed.1 (ap (λ (n : ℕ). let r : Result ℕ LinkFault = Ok n in r) count) in
    let done = fed_by s c.self.inside.start k.items p k1 answer c.self.invariant.no_further fed.0 said in
    subst (λ (d : Deframing). Fed d (take (length k1 - length d.kept) p) (drop (length k1 - length d.kept) p) answer (record { side = s; start = c.self.inside.start; kept = k1 })) c.self.view_is done

pub invariant_of-self-in-Some : goal.invariant_of-self-in-Some
invariant_of-self-in-Some c =
    let s = c.self.inside.side in
    let k = c.self.inside.kept in
    let p = c.args.piece.now in
    let k1 = c.top_up-first.new.kept.items in
    let a : c.top_up-first.result ≡ min (12 - length k.items) (length p) = c.top_up-first.ensures.count ∙ ap (λ (n : ℕ). min (12 - n) (length p)) k.ok.0 in
    let long : 12 ≤ length k1 = omega (arith, c.top_up-first.new.kept.ok.0, c.len.ensures) in
    let bad : first_reason s k1 ≡ Some c.in-Some.reason = ap (first_reason s) (sym c.deref.ensures.value) ∙ (sym c.first_reason.ensures ∙ c.in-Some.is) in
    let fed = feed_bad s k.items p k1 c.top_up-first.result c.in-Some.reason c.self.invariant.no_further a c.top_up-first.ensures.kept long bad in
    let asked = subst (λ (d : Deframing). d.start + length d.kept + length p ≤ 2 ^ 63) (sym c.self.view_is) c.requires in
    kept_after s c.self.inside.start k.items p k1 (vec_capacity k) (vec_capacity c.top_up-first.new.kept) c.self.invariant c.top_up-first.ensures.room (are_bytes p c.type_inv.piece) fed.0 asked

pub returns-in-Some : goal.returns-in-Some
returns-in-Some c =
    let s = c.self.inside.side in
    let k = c.self.inside.kept in
    let p = c.args.piece.now in
    let k1 = c.top_up-first.new.kept.items in
    let why = c.in-Some.reason in
    let answer : Result ℕ LinkFault = Err (record { at = c.self.inside.start; reason = why }) in
    let a : c.top_up-first.result ≡ min (12 - length k.items) (length p) = c.top_up-first.ensures.count ∙ ap (λ (n : ℕ). min (12 - n) (length p)) k.ok.0 in
    let long : 12 ≤ length k1 = omega (arith, c.top_up-first.new.kept.ok.0, c.len.ensures) in
    let bad : first_reason s k1 ≡ Some why = ap (first_reason s) (sym c.deref.ensures.value) ∙ (sym c.first_reason.ensures ∙ c.in-Some.is) in
    let fed = feed_bad s k.items p k1 c.top_up-first.result why c.self.invariant.no_further a c.top_up-first.ensures.kept long bad in
    let said : MatchOption (flaw s k1) (answer ≡ Ok (length k1 - length k.items)) (λ w. answer ≡ Err (record { at = c.self.inside.start; reason = w })) = rw fed.1 refl in
    let done = fed_by s c.self.inside.start k.items p k1 answer c.self.invariant.no_further fed.0 said in
    subst (λ (d : Deframing). Fed d (take (length k1 - length d.kept) p) (drop (length k1 - length d.kept) p) answer (record { side = s; start = c.self.inside.start; kept = k1 })) c.self.view_is done

pub top_up-rest-requires : goal.top_up-rest-requires
top_up-rest-requires c =
    let s = c.self.inside.side in
    let k1 = c.top_up-first.new.kept.items in
    let none : first_reason s k1 ≡ None = ap (first_reason s) (sym c.deref.ensures.value) ∙ (sym c.first_reason.ensures ∙ c.in_default.is) in
    let size = c.size_of-size.ensures ∙ ap size_of c.deref-2.ensures.value in
    omega (arith, size, size_of-small s k1 none, c.self.invariant.room, c.top_up-first.ensures.room)

-- what the two calls of `top_up` keep
pub invariant_of-self-2 : goal.invariant_of-self-2
invariant_of-self-2 c =
    let s = c.self.inside.side in
    let k = c.self.inside.kept in
    let p = c.args.piece.now in
    let k1 = c.top_up-first.new.kept.items in
    let first = c.top_up-first.result in
    let a : first ≡ min (12 - length k.items) (length p) = c.top_up-first.ensures.count ∙ ap (λ (n : ℕ). min (12 - n) (length p)) k.ok.0 in
    let long : 12 ≤ length k1 = omega (arith, c.top_up-first.new.kept.ok.0, c.len.ensures) in
    let none : first_reason s k1 ≡ None = ap (first_reason s) (sym c.deref.ensures.value) ∙ (sym c.first_reason.ensures ∙ c.in_default.is) in
    let size : c.size_of-size.result ≡ size_of k1 = c.size_of-size.ensures ∙ ap size_of c.deref-2.ensures.value in
    let q = take (length p - first) (drop first p) in
    let r : c.top_up-rest.result ≡ min (size_of k1 - length k1) (length q) =
    c.top_up-rest.ensures.count ∙ (ap (λ (n : ℕ). min (c.size_of-size.result - n) (length q)) c.top_up-first.new.kept.ok.0 ∙ ap (λ (n : ℕ). min (n - length k1) (length q)) size) in
    let fed = feed_sound s k.items p k1 q c.top_up-rest.new.kept.items first c.top_up-rest.result c.self.invariant.no_further a c.top_up-first.ensures.kept long none (take_rest p first) r c.top_up-rest.ensures.kept in
    let asked = subst (λ (d : Deframing). d.start + length d.kept + length p ≤ 2 ^ 63) (sym c.self.view_is) c.requires in
    kept_after s c.self.inside.start k.items p c.top_up-rest.new.kept.items (vec_capacity k) (vec_capacity c.top_up-rest.new.kept) c.self.invariant (omega (arith, c.top_up-first.ensures.room, c.top_up-rest.ensures.room)) (are_bytes p c.type_inv.piece) fed.0 asked

pub returns : goal.returns
returns c =
    let s = c.self.inside.side in
    let k = c.self.inside.kept in
    let p = c.args.piece.now in
    let k1 = c.top_up-first.new.kept.items in
    let all = c.top_up-rest.new.kept.items in
    let first = c.top_up-first.result in
    let answer : Result ℕ LinkFault = Ok (first + c.top_up-rest.result) in
    let a : first ≡ min (12 - length k.items) (length p) = c.top_up-first.ensures.count ∙ ap (λ (n : ℕ). min (12 - n) (length p)) k.ok.0 in
    let long : 12 ≤ length k1 = omega (arith, c.top_up-first.new.kept.ok.0, c.len.ensures) in
    let none : first_reason s k1 ≡ None = ap (first_reason s) (sym c.deref.ensures.value) ∙ (sym c.first_reason.ensures ∙ c.in_default.is) in
    let size : c.size_of-size.result ≡ size_of k1 = c.size_of-size.ensures ∙ ap size_of c.deref-2.ensures.value in
    let q = take (length p - first) (drop first p) in
    let r : c.top_up-rest.result ≡ min (size_of k1 - length k1) (length q) =
    c.top_up-rest.ensures.count ∙ (ap (λ (n : ℕ). min (c.size_of-size.result - n) (length q)) c.top_up-first.new.kept.ok.0 ∙ ap (λ (n : ℕ). min (n - length k1) (length q)) size) in
    let fed = feed_sound s k.items p k1 q all first c.top_up-rest.result c.self.invariant.no_further a c.top_up-first.ensures.kept long none (take_rest p first) r c.top_up-rest.ensures.kept in
    let count : first + c.top_up-rest.result ≡ length all - length k.items = omega (arith, fed.2) in
    let said : MatchOption (flaw s all) (answer ≡ Ok (length all - length k.items)) (λ w. answer ≡ Err (record { at = c.self.inside.start; reason = w })) = rw fed.1 (ap (λ (n : ℕ). let r : Result ℕ LinkFault = Ok n in r) count) in
    let done = fed_by s c.self.inside.start k.items p all answer c.self.invariant.no_further fed.0 said in
    subst (λ (d : Deframing). Fed d (take (length all - length d.kept) p) (drop (length all - length d.kept) p) answer (record { side = s; start = c.self.inside.start; kept = all })) c.self.view_is done
