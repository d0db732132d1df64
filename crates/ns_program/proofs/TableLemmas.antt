-- A table, line by line.
use Rattle.std.proofs.Common.{◌≡◌, ℕ, ◌+◌, ◌≤◌, List, [], ◌∷◌, ◌++◌, length, sym, ap, ◌∙◌, subst, arith, append_assoc, decimal}
use Rattle.std.specs.Str.{IsUtf8}
use Rattle.std.proofs.lemmas.Fmt.{IsAscii-decimal}
use Rattle.std.proofs.lemmas.Str.{IsUtf8-from_ascii}
use Rattle.io_namespace.specs.Entries.{Table}
use Rattle.ns_program.specs.Steps.{Reads, adds, skips, Refuses}
use Rattle.ns_program.specs.Tables.{Says, skipped, added, IsRefusedAt}

pub says_more : (lines : List (List ℕ)) (line : List ℕ) (table after : Table) → Says lines table → Reads table line after → Says (lines ++ line ∷ []) after
says_more lines line table after says (adds a) = added lines line a.prefix a.endpoint table after says a.other a.entry a.good a.change
says_more lines line table after says (skips s) = skipped lines line table after says s.is s.same

-- one line more of a text
pub one_line : (all done now rest : List (List ℕ)) (line : List ℕ) → all ≡ done ++ now → now ≡ line ∷ rest → all ≡ (done ++ line ∷ []) ++ rest
one_line all done now rest line parts is = parts ∙ ap (λ l. done ++ l) is ∙ sym (append_assoc done (line ∷ []) rest)

pub this_line : (all done now rest : List (List ℕ)) (line : List ℕ) → all ≡ done ++ now → now ≡ line ∷ rest → all ≡ done ++ line ∷ rest
this_line all done now rest line parts is = parts ∙ ap (λ l. done ++ l) is

pub refused_at : (all done now rest : List (List ℕ)) (line : List ℕ) (table : Table) (number : ℕ) → all ≡ done ++ now → now ≡ line ∷ rest → number ≡ length done + 1 → Says done table → Refuses table line → IsRefusedAt all number
refused_at all done now rest line table number parts is counted says refuses = record {
  before = done;
  line = line;
  behind = rest;
  parts = this_line all done now rest line parts is;
  counted = counted;
  table = table;
  says = says;
  other = refuses.other;
  refused = refuses.refused;
}

pub decimal_utf8 : (number : ℕ) (word : List ℕ) → word ≡ decimal number → number ≤ 4294967295 → IsUtf8 word
decimal_utf8 number word is few = subst IsUtf8 (sym is) (IsUtf8-from_ascii (decimal number) (IsAscii-decimal number (omega (arith, few))))
