-- Which tokens are out, as looking back says.
use Rattle.std.proofs.Common.{◌≡◌, ℕ, ◌+◌, ◌==◌, ◌&&◌, ◌||◌, Bool, true, false, cond, not, nat_le, List, [], ◌∷◌, length, filter, Option, Some, None, Contains, refl, sym, ap, ◌∙◌, if◌then◌else◌, arith}
use Rattle.std.specs.Prelude.{unwrap_or}
use Rattle.std.specs.List.{list_any}
use Rattle.std.specs.FinMap as map
use Rattle.std.proofs.lemmas.Bool.{eq-eqb, true≢false}
use Rattle.std.proofs.lemmas.Bool.Decides.{nat_tests}
use Rattle.fidl_names.specs.declared.limits.TheConstants as limit
use Rattle.link_admission.specs.Standings.{Known, holds, next_token_of}
use Rattle.vfs_journal.specs.History.{History, was_carried}
use Rattle.vfs_journal.specs.Outcomes.{Given}
use Rattle.vfs_journal.specs.Tokens.{all_given, is_held, next_token, tokens_out, waits_with, was_given}
use Rattle.journal_laws.specs.Knowing.{token_out}
use Rattle.journal_laws.proofs.Among.{passes_any}
use Rattle.journal_laws.proofs.Members.{contains_here, contains_later}

-- of a number: whether it was given, carried, and waits
abbrev pub out_of : Bool → Bool → Bool → Option Bool
out_of g c w = if g && not c then Some true else if g && w then Some false else None

pub token_same : (now past : History) (n : ℕ) → all_given now ≡ all_given past → was_carried now n ≡ was_carried past n → waits_with now n ≡ waits_with past n → token_out now n ≡ token_out past n
token_same now past n given carried waits =
    ap (λ (ones : List Given). out_of (list_any (λ g. g.token == n) ones) (was_carried now n) (waits_with now n)) given
    ∙ ap (λ (c : Bool). out_of (was_given past n) c (waits_with now n)) carried
    ∙ ap (λ (w : Bool). out_of (was_given past n) (was_carried past n) w) waits

-- a token that was held and is carried waits then
pub token_sent : (client m g c w : Bool) → (m ≡ true → client ≡ false → (g && not c) ≡ true) → (client ≡ true → g ≡ false) → (if not client && m then Some false else out_of g c w) ≡ out_of g (c || m) (w || m)
token_sent true m g c w held none = by_given g (none refl) where
  by_given : (g : Bool) → g ≡ false → out_of g c w ≡ out_of g (c || m) (w || m)
  by_given false e = refl
  by_given true e = absurd (true≢false e)
token_sent false false g c w held none = by_none g c w where
  by_none : (g c w : Bool) → out_of g c w ≡ out_of g (c || false) (w || false)
  by_none false c w = refl
  by_none true true true = refl
  by_none true true false = refl
  by_none true false w = refl
token_sent false true true false true held none = refl
token_sent false true true false false held none = refl
token_sent false true true true w held none = absurd (true≢false (sym (held refl refl)))
token_sent false true false c w held none = absurd (true≢false (sym (held refl refl)))

-- ---- what is looked up

held_of : (g c w : Bool) → unwrap_or (out_of g c w) false ≡ (g && not c)
held_of true false w = refl
held_of true true true = refl
held_of true true false = refl
held_of false c w = refl

pub holds_from : (history : History) (known : Known) (n : ℕ) → map.get known.tokens n ≡ token_out history n → holds known n ≡ is_held history n
holds_from history known n is = ap (λ (o : Option Bool). unwrap_or o false) is ∙ held_of (was_given history n) (was_carried history n) (waits_with history n)

abbrev token_by : ℕ → ℕ → Option ℕ
token_by out given = if nat_le limit.MAX_TOKENS out || nat_le 0x80000000 given then None else Some (limit.FIRST_TOKEN + given)

high_token : (given : ℕ) → nat_le 0x100000000 (limit.FIRST_TOKEN + given) ≡ nat_le 0x80000000 given
high_token given = grind (arith, nat_tests)

pub next_from : (history : History) (known : Known) → known.out ≡ length (tokens_out history) → known.next ≡ limit.FIRST_TOKEN + length (all_given history) → next_token_of known ≡ next_token history
next_from history known out given =
    ap (λ (n : ℕ). if nat_le limit.MAX_TOKENS n || nat_le 0x100000000 known.next then None else Some known.next) out
    ∙ ap (λ (n : ℕ). if nat_le limit.MAX_TOKENS (length (tokens_out history)) || nat_le 0x100000000 n then None else Some n) given
    ∙ ap (λ (b : Bool). if nat_le limit.MAX_TOKENS (length (tokens_out history)) || b then None else Some (limit.FIRST_TOKEN + length (all_given history))) (high_token (length (all_given history)))

-- ---- the tokens that are out

filter_on : {X : Type 0} (p q : X → Bool) (xs : List X) → ((x : X) → Contains xs x → p x ≡ q x) → filter p xs ≡ filter q xs
filter_on p q [] same = refl
filter_on p q (x ∷ xs) same =
    ap (λ b. cond b (x ∷ filter p xs) (filter p xs)) (same x (contains_here x xs))
    ∙ ap (λ ys. cond (q x) (x ∷ ys) ys) (filter_on p q xs (λ y there. same y (contains_later y x xs there)))

pub outs_same : (now past : History) → all_given now ≡ all_given past → ((n : ℕ) → was_given past n ≡ true → (is_held now n || waits_with now n) ≡ (is_held past n || waits_with past n)) → tokens_out now ≡ tokens_out past
outs_same now past given same =
    ap (filter (λ one. is_held now one.token || waits_with now one.token)) given
    ∙ filter_on (λ one. is_held now one.token || waits_with now one.token) (λ one. is_held past one.token || waits_with past one.token) (all_given past)
    (λ one there. same one.token (passes_any (λ (g : Given). g.token == one.token) (all_given past) one there (eq-eqb one.token one.token refl)))
