-- The word of a set of flags.
use Rattle.std.proofs.Common.{◌≡◌, ℕ, ◌+◌, ◌*◌, ◌^◌, ◌<◌, ◌≤◌, ◌==◌, Bool, true, false, not, ◌&&◌, ◌||◌, if◌then◌else◌, List, [], ◌∷◌, bit_and, bit_or, refl, sym, ap, ◌∙◌, arith, inl, inr, eq-eqb}
use Rattle.std.specs.List.{list_any, list_all, sum_by}
use Rattle.std.specs.Int.{bit_at}
use Rattle.std.specs.Int.Bits.{or_add_and}
use Rattle.std.proofs.lemmas.Bool.{cases_Bool, cases_eq, and_parts, ne_eqb}
use Rattle.std.proofs.lemmas.List.Sums.{sum_by-cons}
use Rattle.std.proofs.lemmas.Nat.Bits.{bit_at-lt, bit_at-zero, bit_at-pow_same, bit_at-pow_other, and_pow}
use Rattle.io_rights.specs.declared.operations.Operation.TheVariants as op
use Rattle.io_rights.proofs.OperationSets.{test-or}
use Rattle.io_flags.specs.declared.names.Flag.{Flag}
use Rattle.io_flags.specs.declared.names.Flag.TheVariants as flag
use Rattle.io_flags.specs.Words.{FlagSet, holds, place, flags, flags_of, word_of, has_unnamed_bit}
use Rattle.io_flags.proofs.FlagWords.{has-bit, same_flag_sets, same_words, unnamed, stray, unnamed-stray, none_on, no_bit, zero-add-on}

-- what a flag adds to the word of a set
abbrev added_by : FlagSet → Flag → ℕ
added_by set one = if holds set one then 2 ^ place one else 0

-- the flag has its bit at the place, and is in the set
abbrev pub stands_at : FlagSet → ℕ → Flag → Bool
stands_at set k one = (place one == k) && holds set one

-- no two flags of a list have one place
abbrev is_elsewhere : ℕ → List Flag → Bool
is_elsewhere k list = list_all (λ one. not (place one == k)) list

abbrev are_apart : List Flag → Bool
are_apart [] = true
are_apart (one ∷ rest) = is_elsewhere (place one) rest && are_apart rest

power_test : (p k : ℕ) → (bit_at (2 ^ p) k == 1) ≡ (p == k)
power_test p k =
    elim (cases_eq k p) [
      | inl same ↦ rw same (ap (λ b. b == 1) (bit_at-pow_same p) ∙ sym (eq-eqb p p refl))
      | inr apart ↦ ap (λ b. b == 1) (bit_at-pow_other p k apart) ∙ sym (ne_eqb p k (λ e. apart (sym e)))
    ]

zero_times : (n : ℕ) → 0 * n ≡ 0
zero_times n = omega arith

-- a power beside a number without its bit
joined : (p n : ℕ) → bit_at n p ≡ 0 → 2 ^ p + n ≡ bit_or n (2 ^ p)
joined p n none =
    let clear : bit_and n (2 ^ p) ≡ 0 = and_pow n p ∙ ap (λ b. b * 2 ^ p) none ∙ zero_times (2 ^ p) in
    let both = or_add_and n (2 ^ p) in
    omega arith

-- ---- bits

none_elsewhere : (set : FlagSet) (k : ℕ) (list : List Flag) → is_elsewhere k list ≡ true → list_any (stands_at set k) list ≡ false
none_elsewhere set k [] h = refl
none_elsewhere set k (one ∷ rest) h =
    let both = and_parts (not (place one == k)) (is_elsewhere k rest) h in
    rw (from_not (place one == k) both.0) (none_elsewhere set k rest both.1)
  where
    from_not : (b : Bool) → not b ≡ true → b ≡ false
    from_not true e = cc
    from_not false e = refl

swapped : (a b : Bool) → (a || b) ≡ (b || a)
swapped true true = refl
swapped true false = refl
swapped false true = refl
swapped false false = refl

always : (b : Bool) → b ≡ (b && true)
always true = refl
always false = refl

never : (b : Bool) → false ≡ (b && false)
never true = refl
never false = refl

zero_before : (n : ℕ) → 0 + n ≡ n
zero_before n = omega arith

-- a bit of a sum is that of the flag that has it
sum_test : (set : FlagSet) (k : ℕ) (list : List Flag) → are_apart list ≡ true → (bit_at (sum_by (added_by set) list) k == 1) ≡ list_any (stands_at set k) list
sum_test set k [] h = ap (λ b. b == 1) (bit_at-zero k)
sum_test set k (one ∷ rest) h =
    let both = and_parts (is_elsewhere (place one) rest) (are_apart rest) h in
    ap (λ n. bit_at n k == 1) (sum_by-cons (added_by set) one rest) ∙ by_case both.0 (sum_test set k rest both.1) (sum_test set (place one) rest both.1) (holds set one) refl
  where
    by_case : is_elsewhere (place one) rest ≡ true → (bit_at (sum_by (added_by set) rest) k == 1) ≡ list_any (stands_at set k) rest → (bit_at (sum_by (added_by set) rest) (place one) == 1) ≡ list_any (stands_at set (place one)) rest → (b : Bool) → holds set one ≡ b → (bit_at (added_by set one + sum_by (added_by set) rest) k == 1) ≡ (stands_at set k one || list_any (stands_at set k) rest)
    by_case elsewhere later here true is =
        let sum = sum_by (added_by set) rest in
        let clear : bit_at sum (place one) ≡ 0 =
        no_bit (bit_at sum (place one)) (bit_at-lt sum (place one))
        (here ∙ none_elsewhere set (place one) rest elsewhere) in
        rw is
        (ap (λ n. bit_at n k == 1) (joined (place one) sum clear)
        ∙ test-or sum (2 ^ place one) k
        ∙ ap (λ b. b || (bit_at (2 ^ place one) k == 1)) later
        ∙ ap (λ b. list_any (stands_at set k) rest || b) (power_test (place one) k ∙ always (place one == k))
        ∙ swapped (list_any (stands_at set k) rest) ((place one == k) && true))
    by_case elsewhere later here false is =
        rw is
        (ap (λ n. bit_at n k == 1) (zero_before (sum_by (added_by set) rest))
        ∙ later
        ∙ ap (λ b. b || list_any (stands_at set k) rest) (never (place one == k)))

pub word_bit : (set : FlagSet) (k : ℕ) → (bit_at (word_of set) k == 1) ≡ list_any (stands_at set k) flags
unfolding word_of
word_bit set k = sum_test set k flags refl

-- ---- the set of the word is the set

or_false : (b : Bool) → (b || false) ≡ b
or_false true = refl
or_false false = refl

stands_at_its_place : (set : FlagSet) (one : Flag) → list_any (stands_at set (place one)) flags ≡ holds set one
stands_at_its_place set (flag.Perm op.Connect) = or_false (holds set (flag.Perm op.Connect))
stands_at_its_place set (flag.Perm op.ReadBytes) = or_false (holds set (flag.Perm op.ReadBytes))
stands_at_its_place set (flag.Perm op.WriteBytes) = or_false (holds set (flag.Perm op.WriteBytes))
stands_at_its_place set (flag.Perm op.Execute) = or_false (holds set (flag.Perm op.Execute))
stands_at_its_place set (flag.Perm op.GetAttributes) = or_false (holds set (flag.Perm op.GetAttributes))
stands_at_its_place set (flag.Perm op.UpdateAttributes) = or_false (holds set (flag.Perm op.UpdateAttributes))
stands_at_its_place set (flag.Perm op.Enumerate) = or_false (holds set (flag.Perm op.Enumerate))
stands_at_its_place set (flag.Perm op.Traverse) = or_false (holds set (flag.Perm op.Traverse))
stands_at_its_place set (flag.Perm op.ModifyDirectory) = or_false (holds set (flag.Perm op.ModifyDirectory))
stands_at_its_place set flag.InheritWrite = or_false (holds set flag.InheritWrite)
stands_at_its_place set flag.InheritExecute = or_false (holds set flag.InheritExecute)
stands_at_its_place set flag.ProtocolService = or_false (holds set flag.ProtocolService)
stands_at_its_place set flag.ProtocolNode = or_false (holds set flag.ProtocolNode)
stands_at_its_place set flag.ProtocolDirectory = or_false (holds set flag.ProtocolDirectory)
stands_at_its_place set flag.ProtocolFile = or_false (holds set flag.ProtocolFile)
stands_at_its_place set flag.ProtocolSymlink = or_false (holds set flag.ProtocolSymlink)
stands_at_its_place set flag.MaybeCreate = or_false (holds set flag.MaybeCreate)
stands_at_its_place set flag.MustCreate = or_false (holds set flag.MustCreate)
stands_at_its_place set flag.UnnamedTemporary = or_false (holds set flag.UnnamedTemporary)
stands_at_its_place set flag.FileAppend = or_false (holds set flag.FileAppend)
stands_at_its_place set flag.FileTruncate = or_false (holds set flag.FileTruncate)
stands_at_its_place set flag.SendRepresentation = or_false (holds set flag.SendRepresentation)

pub flags_of-word_of : (set : FlagSet) → flags_of (word_of set) ≡ set
flags_of-word_of set =
    same_flag_sets (flags_of (word_of set)) set
    (λ one. has-bit (word_of set) one ∙ word_bit set (place one) ∙ stands_at_its_place set one)

-- ---- the word has 64 bits, and none without a name

at_most : (set : FlagSet) (list : List Flag) → sum_by (added_by set) list ≤ sum_by (λ one. 2 ^ place one) list
at_most set [] = omega arith
at_most set (one ∷ rest) =
    rw (sum_by-cons (added_by set) one rest, sum_by-cons (λ other. 2 ^ place other) one rest)
    (let below = at_most set rest in let here = at_most_one (holds set one) (2 ^ place one) in omega arith)
  where
    at_most_one : (b : Bool) (n : ℕ) → (if b then n else 0) ≤ n
    at_most_one true n = omega arith
    at_most_one false n = omega arith

pub word_of-small : (set : FlagSet) → word_of set < 2 ^ 64
unfolding word_of
word_of-small set = let h = at_most set flags in let all : sum_by (λ one. 2 ^ place one) flags ≡ 342081260249599 = refl in omega arith

named_or_none : (set : FlagSet) (k : ℕ) (list : List Flag) → (list_any (stands_at set k) list && is_elsewhere k list) ≡ false
named_or_none set k list =
    elim (cases_Bool (is_elsewhere k list)) [
      | inl elsewhere ↦ rw (elsewhere, none_elsewhere set k list elsewhere) refl
      | inr other ↦ rw other (sym (never (list_any (stands_at set k) list)))
    ]

pub word_of-named : (set : FlagSet) → has_unnamed_bit (word_of set) ≡ false
unfolding stray
word_of-named set =
    unnamed-stray (word_of set)
    ∙ none_on (stray (word_of set)) 0 64
    (λ k lt. zero-add-on (stray (word_of set)) (λ m. false) k (ap (λ b. b && unnamed k) (word_bit set k) ∙ named_or_none set k flags))

-- ---- the word of the set is the word

pub word_of-flags_of : (word : ℕ) → word < 2 ^ 64 → has_unnamed_bit word ≡ false → word_of (flags_of word) ≡ word
word_of-flags_of word small named =
    same_words (word_of (flags_of word)) word (word_of-small (flags_of word)) small (word_of-named (flags_of word)) named
    (λ one. ap (λ set. holds set one) (flags_of-word_of (flags_of word)))
