use Rattle.std.proofs.Common.{◌≡◌, ◌∙◌, ◌<◌, ◌≤◌, ℕ, ap, ltb, sym}
use Rattle.std.specs.Prelude.{Option, Some}
use Rattle.std.proofs.lemmas.Bool.{cond-true, cond-false, lt-ltb, le-ltb}
use Rattle.message_queues.specs.Steps.{older}
use Rattle.message_queues.proofs.heads.older.Goals as goal

second_is_older : (first second : ℕ × ℕ) → second.0 < first.0 → Some second ≡ older (Some first) (Some second)
second_is_older first second before = sym (cond-true (ltb second.0 first.0) (Some second) (Some first) (lt-ltb second.0 first.0 before))

first_is_older : (first second : ℕ × ℕ) → first.0 ≤ second.0 → Some first ≡ older (Some first) (Some second)
first_is_older first second before = sym (cond-false (ltb second.0 first.0) (Some second) (Some first) (le-ltb second.0 first.0 before))

older_is : (one other : Option (ℕ × ℕ)) (first second : ℕ × ℕ) → one ≡ Some first → other ≡ Some second → older (Some first) (Some second) ≡ older one other
older_is one other first second is also = ap (λ (one : Option (ℕ × ℕ)). older one (Some second)) (sym is) ∙ ap (older one) (sym also)

pub returns-in-Some-Some : goal.returns-in-Some-Some
returns-in-Some-Some c =
    let both = c.in-Some-Some in
    both.is-1 ∙ (second_is_older both.first both.second c.if-second-first.true ∙ older_is c.args.one c.args.other both.first both.second both.is-0 both.is-1)

pub returns-in-Some-default : goal.returns-in-Some-default
returns-in-Some-default c =
    let both = c.in-Some-Some in
    both.is-0 ∙ (first_is_older both.first both.second c.if-second-first.false ∙ older_is c.args.one c.args.other both.first both.second both.is-0 both.is-1)
