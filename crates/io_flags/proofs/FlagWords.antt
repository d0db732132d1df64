-- Words and their sets of flags, and the faults of a word.
use Rattle.std.proofs.Common.{◌≡◌, ℕ, zero, suc, ◌+◌, ◌^◌, ◌<◌, ◌≤◌, ◌==◌, Bool, true, false, not, ◌&&◌, ◌||◌, List, [], ◌∷◌, bit_and, Option, None, refl, sym, ap, ◌∙◌, subst, arith, inl, inr, ◌⊎◌, eqb-true, eq-eqb, add-zero, zero-add, unwrap_or}
use Rattle.std.specs.Int.{bit_at}
use Rattle.std.specs.List.{list_any, list_all, find, range_with_len}
use Rattle.std.proofs.lemmas.Bool.{cases_Bool, both_ways, agree_below_at, or_parts, or_from, or_cases}
use Rattle.std.proofs.lemmas.Nat.{and_le_r}
use Rattle.std.proofs.lemmas.Nat.Bits.{bit_at-lt, bit_at-zero, same_from_bits_below}
use Rattle.io_rights.specs.Operations.{OperationSet}
use Rattle.io_rights.specs.declared.operations.Operation.TheVariants as op
use Rattle.io_rights.proofs.OperationSets.{same_sets, has-set_of, test-and}
use Rattle.fidl_names.specs.First.{cause_if, first_of}
use Rattle.fidl_names.proofs.FirstLaws.{first_of-none, cause_if-none}
use Rattle.io_flags.specs.declared.names.Flag.{Flag}
use Rattle.io_flags.specs.declared.names.Flag.TheVariants as flag
use Rattle.io_flags.specs.declared.faults.FlagFault.TheVariants as fault
use Rattle.io_flags.specs.Words.{FlagSet, holds, set_with, place, has, flags, flags_of, has_unnamed_bit, is_alone, creates}
use Rattle.io_flags.specs.Faults.{flag_fault, set_faults, makes_twice, is_unsupported, makes_no_kind, marks_no_file, truncates_without_right, mixes_node}

-- ---- sets of flags

pub holds-set_with : (test : Flag → Bool) (one : Flag) → holds (set_with test) one ≡ test one
holds-set_with test (flag.Perm o) = has-set_of (λ p. test (flag.Perm p)) o
holds-set_with test flag.InheritWrite = refl
holds-set_with test flag.InheritExecute = refl
holds-set_with test flag.ProtocolService = refl
holds-set_with test flag.ProtocolNode = refl
holds-set_with test flag.ProtocolDirectory = refl
holds-set_with test flag.ProtocolFile = refl
holds-set_with test flag.ProtocolSymlink = refl
holds-set_with test flag.MaybeCreate = refl
holds-set_with test flag.MustCreate = refl
holds-set_with test flag.UnnamedTemporary = refl
holds-set_with test flag.FileAppend = refl
holds-set_with test flag.FileTruncate = refl
holds-set_with test flag.SendRepresentation = refl

-- the test of a flag is that of its bit
pub has-bit : (word : ℕ) (one : Flag) → has word one ≡ (bit_at word (place one) == 1)
unfolding flags_of
has-bit word one = holds-set_with (λ other. bit_at word (place other) == 1) one

unfoldable built : (rights : OperationSet) (a b c d e f g h i j k l m : Bool) → FlagSet
built rights a b c d e f g h i j k l m =
    record {
      rights = rights;
      inherit_write = a;
      inherit_execute = b;
      protocol_service = c;
      protocol_node = d;
      protocol_directory = e;
      protocol_file = f;
      protocol_symlink = g;
      maybe_create = h;
      must_create = i;
      unnamed_temporary = j;
      file_append = k;
      file_truncate = l;
      send_representation = m;
    }

built-same : {r r' : OperationSet} {a b c d e f g h i j k l m a' b' c' d' e' f' g' h' i' j' k' l' m' : Bool} → r ≡ r' → a ≡ a' → b ≡ b' → c ≡ c' → d ≡ d' → e ≡ e' → f ≡ f' → g ≡ g' → h ≡ h' → i ≡ i' → j ≡ j' → k ≡ k' → l ≡ l' → m ≡ m' → built r a b c d e f g h i j k l m ≡ built r' a' b' c' d' e' f' g' h' i' j' k' l' m'
built-same o p q r s t u v w x y z ä ö = cc

-- two sets with the same flags are one
pub same_flag_sets : (a b : FlagSet) → ((one : Flag) → holds a one ≡ holds b one) → a ≡ b
unfolding built
same_flag_sets a b same =
    built-same
    (same_sets a.rights b.rights (λ o. same (flag.Perm o)))
    (same flag.InheritWrite)
    (same flag.InheritExecute)
    (same flag.ProtocolService)
    (same flag.ProtocolNode)
    (same flag.ProtocolDirectory)
    (same flag.ProtocolFile)
    (same flag.ProtocolSymlink)
    (same flag.MaybeCreate)
    (same flag.MustCreate)
    (same flag.UnnamedTemporary)
    (same flag.FileAppend)
    (same flag.FileTruncate)
    (same flag.SendRepresentation)

-- ---- the numbers from a on

shifted : (a k : ℕ) → a + suc k ≡ (a + 1) + k
shifted a k = omega arith

pub same_tests_on : (p q : ℕ → Bool) (a n : ℕ) → ((k : ℕ) → k < n → p (a + k) ≡ q (a + k)) → list_any p (range_with_len a n) ≡ list_any q (range_with_len a n)
same_tests_on p q a zero h = refl
same_tests_on p q a (suc n) h =
    let head : p a ≡ q a = subst (λ k. p k ≡ q k) (add-zero a) (h 0 (omega arith)) in
    let tail : list_any p (range_with_len (a + 1) n) ≡ list_any q (range_with_len (a + 1) n) =
    same_tests_on p q (a + 1) n
    (λ k lt. subst (λ m. p m ≡ q m) (shifted a k) (h (suc k) (omega arith))) in
    ap (λ t. t || list_any p (range_with_len (a + 1) n)) head ∙ ap (λ t. q a || t) tail

pub zero-add-on : (p q : ℕ → Bool) (k : ℕ) → p k ≡ q k → p (0 + k) ≡ q (0 + k)
zero-add-on p q k h = subst (λ m. p m ≡ q m) (sym (zero-add k)) h

pub none_on : (p : ℕ → Bool) (a n : ℕ) → ((k : ℕ) → k < n → p (a + k) ≡ false) → list_any p (range_with_len a n) ≡ false
none_on p a zero h = refl
none_on p a (suc n) h =
    or_from (p a) (list_any p (range_with_len (a + 1) n))
    (subst (λ k. p k ≡ false) (add-zero a) (h 0 (omega arith)))
    (none_on p (a + 1) n (λ k lt. subst (λ m. p m ≡ false) (shifted a k) (h (suc k) (omega arith))))

each_on : (p : ℕ → Bool) (a n : ℕ) → list_any p (range_with_len a n) ≡ false → (k : ℕ) → k < n → p (a + k) ≡ false
each_on p a zero h k lt = absurd (omega arith)
each_on p a (suc n) h zero lt =
    subst (λ m. p m ≡ false) (sym (add-zero a)) (or_parts (p a) (list_any p (range_with_len (a + 1) n)) h).0
each_on p a (suc n) h (suc k) lt =
    subst (λ m. p m ≡ false) (sym (shifted a k))
    (each_on p (a + 1) n (or_parts (p a) (list_any p (range_with_len (a + 1) n)) h).1 k (omega arith))

-- ---- bits without a name

abbrev pub unnamed : ℕ → Bool
unnamed k = list_all (λ one. not (place one == k)) flags

-- the bits that have no name, as a number
abbrev pub others : ℕ
others = 18446401992449302016

others-unnamed : (k : ℕ) → k < 64 → (bit_at others k == 1) ≡ unnamed k
others-unnamed k lt = agree_below_at (λ m. bit_at others m == 1) unnamed 64 k refl lt

and_small : (word : ℕ) → bit_and word others < 2 ^ 64
and_small word = let h : bit_and word others ≤ others = and_le_r word others in omega arith

pub no_bit : (n : ℕ) → n < 2 → (n == 1) ≡ false → n ≡ 0
no_bit zero lt e = refl
no_bit (suc zero) lt e = cc
no_bit (suc (suc n)) lt e = absurd (omega arith)

-- whether bit k is set and has no name
unfoldable pub stray : ℕ → ℕ → Bool
stray word k = (bit_at word k == 1) && unnamed k

stray-and : (word k : ℕ) → k < 64 → stray word k ≡ (bit_at (bit_and word others) k == 1)
unfolding stray
stray-and word k lt =
    ap (λ t. (bit_at word k == 1) && t) (sym (others-unnamed k lt)) ∙ sym (test-and word others k)

pub unnamed-stray : (word : ℕ) → has_unnamed_bit word ≡ list_any (stray word) (range_with_len 0 64)
unfolding has_unnamed_bit stray
unnamed-stray word = refl

none_stray : (word : ℕ) → bit_and word others ≡ 0 → has_unnamed_bit word ≡ false
none_stray word e =
    unnamed-stray word
    ∙ none_on (stray word) 0 64
    (λ k lt.
    subst (λ m. stray word m ≡ false) (sym (zero-add k))
    (stray-and word k lt ∙ ap (λ n. bit_at n k == 1) e ∙ ap (λ b. b == 1) (bit_at-zero k)))

stray_none : (word : ℕ) → has_unnamed_bit word ≡ false → bit_and word others ≡ 0
stray_none word e =
    same_from_bits_below 64 (bit_and word others) 0 (and_small word) (omega arith)
    (λ k lt.
    no_bit (bit_at (bit_and word others) k) (bit_at-lt (bit_and word others) k)
    (sym (stray-and word k lt)
    ∙ subst (λ m. stray word m ≡ false) (zero-add k)
    (each_on (stray word) 0 64 (sym (unnamed-stray word) ∙ e) k lt))
    ∙ sym (bit_at-zero k))

pub unnamed-test : (word : ℕ) → not (bit_and word others == 0) ≡ has_unnamed_bit word
unnamed-test word =
    elim (cases_Bool (has_unnamed_bit word)) [
      | inl some ↦
          elim (cases_Bool (bit_and word others == 0)) [
            | inl clear ↦ absurd (both_ways (has_unnamed_bit word) (none_stray word (eqb-true (bit_and word others) 0 clear)) some)
            | inr other ↦ ap not other ∙ sym some
          ]
      | inr none ↦ ap not (eq-eqb (bit_and word others) 0 (stray_none word none)) ∙ sym none
    ]

-- ---- the first fault

pub flag_fault-causes : (word : ℕ) → first_of (cause_if (has_unnamed_bit word) fault.UnknownBit ∷ set_faults (flags_of word)) ≡ flag_fault word
unfolding flag_fault
flag_fault-causes word = refl

one_kind : (c d f : Bool) → c ≡ true → (c && not (d || f)) ≡ false → (d ≡ true) ⊎ (f ≡ true)
one_kind c true f h e = inl refl
one_kind c false true h e = inr refl
one_kind true false false h e = cc
one_kind false false false h e = cc

-- the cause behind two others
third : {A : Type 0} (a b c : Option A) (rest : List (Option A)) → first_of (a ∷ b ∷ c ∷ rest) ≡ None → c ≡ None
third a b c rest e = (first_of-none c rest (first_of-none b (c ∷ rest) (first_of-none a (b ∷ c ∷ rest) e).1).1).0

-- a word without a fault has neither a bit without a name nor a flag that is wrong
pub no_fault : (word : ℕ) → flag_fault word ≡ None → (has_unnamed_bit word ≡ false) × (first_of (set_faults (flags_of word)) ≡ None)
no_fault word e =
    let both = first_of-none (cause_if (has_unnamed_bit word) fault.UnknownBit) (set_faults (flags_of word)) (flag_fault-causes word ∙ e) in
    (cause_if-none (has_unnamed_bit word) fault.UnknownBit both.0, both.1)

pub creates-kind : (word : ℕ) → flag_fault word ≡ None → creates word ≡ true → (is_alone word flag.ProtocolDirectory ≡ true) ⊎ (is_alone word flag.ProtocolFile ≡ true)
creates-kind word e h =
    let set = flags_of word in
    let kind = third (cause_if (makes_twice set) fault.BothCreate) (cause_if (is_unsupported set) fault.Unsupported) (cause_if (makes_no_kind set) fault.CreateKind)
    (cause_if (marks_no_file set) fault.FileFlags ∷ cause_if (truncates_without_right set) fault.TruncateRight ∷ cause_if (mixes_node set) fault.NodeAlone ∷ [])
    (no_fault word e).1 in
    one_kind (creates word) (is_alone word flag.ProtocolDirectory) (is_alone word flag.ProtocolFile) h (cause_if-none (makes_no_kind set) fault.CreateKind kind)

-- ---- a word without a nameless bit is the set of its flags

-- the flag at a place that has one
flag_at : ℕ → Flag
flag_at k = unwrap_or (find (λ one. place one == k) flags) flag.SendRepresentation

at_its_place : (one : Flag) → flag_at (place one) ≡ one
unfolding flag_at
at_its_place (flag.Perm op.Connect) = refl
at_its_place (flag.Perm op.ReadBytes) = refl
at_its_place (flag.Perm op.WriteBytes) = refl
at_its_place (flag.Perm op.Execute) = refl
at_its_place (flag.Perm op.GetAttributes) = refl
at_its_place (flag.Perm op.UpdateAttributes) = refl
at_its_place (flag.Perm op.Enumerate) = refl
at_its_place (flag.Perm op.Traverse) = refl
at_its_place (flag.Perm op.ModifyDirectory) = refl
at_its_place flag.InheritWrite = refl
at_its_place flag.InheritExecute = refl
at_its_place flag.ProtocolService = refl
at_its_place flag.ProtocolNode = refl
at_its_place flag.ProtocolDirectory = refl
at_its_place flag.ProtocolFile = refl
at_its_place flag.ProtocolSymlink = refl
at_its_place flag.MaybeCreate = refl
at_its_place flag.MustCreate = refl
at_its_place flag.UnnamedTemporary = refl
at_its_place flag.FileAppend = refl
at_its_place flag.FileTruncate = refl
at_its_place flag.SendRepresentation = refl

-- no two flags have one place
pub places_apart : (one other : Flag) → (other ≡ one → ⊥) → place other ≡ place one → ⊥
places_apart one other apart same = apart (sym (at_its_place other) ∙ ap flag_at same ∙ at_its_place one)

named_or_not : (k : ℕ) → k < 64 → ((place (flag_at k) == k) || unnamed k) ≡ true
unfolding flag_at
named_or_not k small = agree_below_at (λ m. (place (flag_at m) == m) || unnamed m) (λ _. true) 64 k refl small

-- a set bit of a word without a nameless one has a name
no_stray : (word k : ℕ) → has_unnamed_bit word ≡ false → k < 64 → ((bit_at word k == 1) && unnamed k) ≡ false
unfolding stray
no_stray word k e small =
    subst (λ m. stray word m ≡ false) (zero-add k)
    (each_on (stray word) 0 64 (sym (unnamed-stray word) ∙ e) k small)

same_bit : (a b : ℕ) → a < 2 → b < 2 → (a == 1) ≡ (b == 1) → a ≡ b
same_bit zero zero p q e = refl
same_bit zero (suc zero) p q e = cc
same_bit (suc zero) zero p q e = cc
same_bit (suc zero) (suc zero) p q e = refl
same_bit zero (suc (suc b)) p q e = absurd (omega arith)
same_bit (suc zero) (suc (suc b)) p q e = absurd (omega arith)
same_bit (suc (suc a)) b p q e = absurd (omega arith)

unset : (t u : Bool) → (t && u) ≡ false → u ≡ true → t ≡ false
unset true u e f = sym f ∙ e
unset false u e f = refl

pub same_words : (a b : ℕ) → a < 2 ^ 64 → b < 2 ^ 64 → has_unnamed_bit a ≡ false → has_unnamed_bit b ≡ false → ((one : Flag) → has a one ≡ has b one) → a ≡ b
same_words a b p q r s same =
    same_from_bits_below 64 a b p q
    (λ k small.
    same_bit (bit_at a k) (bit_at b k) (bit_at-lt a k) (bit_at-lt b k)
    (elim (or_cases (place (flag_at k) == k) (unnamed k) (named_or_not k small)) [
      | inl named ↦
          let at : place (flag_at k) ≡ k = eqb-true (place (flag_at k)) k named in
          subst (λ m. (bit_at a m == 1) ≡ (bit_at b m == 1)) at
          (sym (has-bit a (flag_at k)) ∙ same (flag_at k) ∙ has-bit b (flag_at k))
      | inr other ↦
          unset (bit_at a k == 1) (unnamed k) (no_stray a k r small) other
          ∙ sym (unset (bit_at b k == 1) (unnamed k) (no_stray b k s small) other)
    ]))

pub same_flags : (a b : ℕ) → a < 2 ^ 64 → b < 2 ^ 64 → flag_fault a ≡ None → flag_fault b ≡ None → ((one : Flag) → has a one ≡ has b one) → a ≡ b
same_flags a b p q r s same = same_words a b p q (no_fault a r).0 (no_fault b s).0 same
