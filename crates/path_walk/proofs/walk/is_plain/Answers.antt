-- Each byte was looked at.
use Rattle.std.proofs.Common.{ℕ, ◌<◌, ◌≤◌, List, length, get_or, sym, ◌∙◌, arith}
use Rattle.path_walk.proofs.PathLemmas.{IsPlain, plain_one, plain_path}
use Rattle.path_walk.proofs.walk.is_plain.Goals as goal

all_plain : (text : List ℕ) (i : ℕ) → ((k : ℕ) → k < i → IsPlain (get_or text k 0)) → length text ≤ i → (k : ℕ) → k < length text → IsPlain (get_or text k 0)
all_plain text i plain over k within = plain k (omega (arith, over, within))

pub returns-clause-path : goal.returns-clause-path
returns-clause-path c =
    λ _. plain_path c.args.text.now (sym c.is_empty.ensures ∙ c.if-is_empty.false) c.if-text-gt-MAX_NAME.false c.if-text-eq46.false
    (all_plain c.args.text.now c.loop-i.i c.loop-i.invariant c.loop-i-test.false)

pub returns-clause-one : goal.returns-clause-one
returns-clause-one c = λ _. plain_one c.args.text.now (all_plain c.args.text.now c.loop-i.i c.loop-i.invariant c.loop-i-test.false)
