-- A script, line by line.
use Rattle.std.proofs.Common.{◌≡◌, ℕ, suc, ◌+◌, Bool, true, false, if◌then◌else◌, List, [], ◌∷◌, ◌++◌, length, sym, ap, ◌∙◌, arith, append_assoc, length-append, nat_lt}
use Rattle.std.specs.List.{join_with_byte}
use Rattle.std.proofs.lemmas.Bool.Decides.{nat_tests}
use Rattle.io_namespace.specs.Entries.{Table}
use Rattle.io_namespace.proofs.JoinLemmas.{join_push}
use Rattle.ns_program.specs.Rewriting.{Become, IsLostAt}
use Rattle.ns_program.specs.Steps.{Loses}
use Rattle.ns_program.proofs.TableLemmas.{this_line}

-- the end of a line before others, if there is one
abbrev pub between : Bool → List ℕ
between behind = if behind then 10 ∷ [] else []

behind_some : (n : ℕ) → nat_lt 1 (suc n + 1) ≡ true
behind_some n = grind (arith, nat_tests)

behind_none : nat_lt 1 (0 + 1) ≡ false
behind_none = grind (arith, nat_tests)

pub joined_more : (outs : List (List ℕ)) (number : ℕ) (items after out : List ℕ) → length outs ≡ number → items ≡ join_with_byte 10 outs →
    after ≡ (items ++ between (nat_lt 1 (number + 1))) ++ out → after ≡ join_with_byte 10 (outs ++ out ∷ [])
joined_more [] number items after out size joined is =
    is ∙ ap (λ l. (l ++ between (nat_lt 1 (number + 1))) ++ out) joined
    ∙ ap (λ n. ([] ++ between (nat_lt 1 (n + 1))) ++ out) (sym size) ∙ ap (λ b. between b ++ out) behind_none
joined_more (first ∷ outs) number items after out size joined is =
    is ∙ ap (λ l. (l ++ between (nat_lt 1 (number + 1))) ++ out) joined
    ∙ ap (λ n. (join_with_byte 10 (first ∷ outs) ++ between (nat_lt 1 (n + 1))) ++ out) (sym size)
    ∙ ap (λ b. (join_with_byte 10 (first ∷ outs) ++ between b) ++ out) (behind_some (length outs))
    ∙ append_assoc (join_with_byte 10 (first ∷ outs)) (10 ∷ []) out
    ∙ sym (join_push 10 (first ∷ outs) out (omega arith))

pub lost_at : (all done now rest outs : List (List ℕ)) (line : List ℕ) (table : Table) (number : ℕ) → all ≡ done ++ now → now ≡ line ∷ rest → number ≡ length done + 1 → Become table done outs → Loses table line →
    IsLostAt table all number
lost_at all done now rest outs line table number parts is counted become loses = record {
  before = done;
  line = line;
  behind = rest;
  parts = this_line all done now rest line parts is;
  counted = counted;
  outs = outs;
  become = become;
  path = loses.path;
  flags = loses.flags;
  object = loses.object;
  opens = loses.opens;
  lost = loses.lost;
}

pub size_more : (xs : List (List ℕ)) (x : List ℕ) (n : ℕ) → length xs ≡ n → length (xs ++ x ∷ []) ≡ n + 1
size_more xs x n is = let l = length-append xs (x ∷ []) in omega (arith, l, is)
