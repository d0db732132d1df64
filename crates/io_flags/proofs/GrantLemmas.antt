-- What is granted under a limit, and the flags that go on.
use Rattle.std.proofs.Common.{◌≡◌, ◌≢◌, ℕ, ◌-◌, ◌*◌, ◌%◌, ◌^◌, ◌<◌, ◌==◌, Bool, true, false, ◌&&◌, if◌then◌else◌, ◌∷◌, bit_and, Some, None, refl, sym, ap, ◌∙◌, subst, arith, inl, inr, w64}
use Rattle.std.proofs.Math.Nat.{mod-eq_of_lt, one-mul}
use Rattle.std.proofs.Math.Pow.{pow-lt}
use Rattle.std.specs.Int.{bit_at}
use Rattle.std.proofs.lemmas.Bool.{cases_Bool, cases_eq, both_ways, or_cases, or_left}
use Rattle.std.proofs.lemmas.Option.{same_Some}
use Rattle.std.proofs.lemmas.Nat.Bits.{bit_at_clear_same, bit_at_clear_other, bit_at_ones}
use Rattle.fidl_names.specs.First.{cause_if, first_of}
use Rattle.io_rights.specs.declared.operations.Operation.{Operation}
use Rattle.io_rights.specs.declared.operations.Operation.TheVariants as op
use Rattle.io_rights.specs.Operations.{OperationSet, none, single, meet, join, is_within, set_of_bits, bit_of, has as allows}
use Rattle.io_rights.proofs.OperationSets.{same_sets, has-set_of, has-set_of_bits, test-and, has-join, within_each, within_from_each, within_trans, meet_within_left, meet_within_right}
use Rattle.io_flags.specs.declared.names.Flag.{Flag}
use Rattle.io_flags.specs.declared.names.Flag.TheVariants as flag
use Rattle.io_flags.specs.declared.faults.FlagFault.TheVariants as fault
use Rattle.io_flags.specs.Words.{FlagSet, holds, place, has, flags_of, word_of, has_unnamed_bit}
use Rattle.io_flags.specs.Faults.{flag_fault, set_faults}
use Rattle.io_flags.specs.Grants.{explicit_rights, asked_by, asked_rights, write_set, execute_set, added, granted_to, left_by_kind, granted, granted_kind, grant_of, going_on, onward, passes}
use Rattle.io_flags.proofs.FlagWords.{has-bit, same_flag_sets, no_fault, unnamed, stray, unnamed-stray, same_tests_on, zero-add-on}
use Rattle.io_flags.proofs.SetWords.{flags_of-word_of, word_of-named, word_of-flags_of}

-- ---- what is granted lies within the limit

within_join : (a b c : OperationSet) → is_within a c ≡ true → is_within b c ≡ true → is_within (join a b) c ≡ true
within_join a b c p q =
    within_from_each (join a b) c
    (λ o h.
    elim (or_cases (allows a o) (allows b o) (sym (has-join a b o) ∙ h)) [
      | inl left ↦ within_each a c p o left
      | inr right ↦ within_each b c q o right
    ])

none_within : (c : OperationSet) → is_within none c ≡ true
none_within c = within_from_each none c (λ o h. absurd (both_ways (allows none o) (has-set_of (λ _. false) o) h))

added_within : (flagged : Bool) (limit rights : OperationSet) → is_within (added flagged limit rights) limit ≡ true
added_within false limit rights = none_within limit
added_within true limit rights = by_test (is_within rights limit) refl where
  by_test : (b : Bool) → is_within rights limit ≡ b → is_within (if b then rights else none) limit ≡ true
  by_test true all = all
  by_test false some = none_within limit

granted_within : (set : FlagSet) (limit : OperationSet) → is_within set.rights limit ≡ true → is_within (granted_to set limit) limit ≡ true
granted_within set limit h =
    within_join set.rights _ limit h
    (within_join _ _ limit (added_within set.inherit_write limit write_set) (added_within set.inherit_execute limit execute_set))

left_within : (b : Bool) (rights limit : OperationSet) → is_within rights limit ≡ true → is_within (if b then meet rights (single op.GetAttributes) else rights) limit ≡ true
left_within true rights limit h =
    within_trans (meet rights (single op.GetAttributes)) rights limit (meet_within_left rights (single op.GetAttributes)) h
left_within false rights limit h = h

set_within : (set : FlagSet) (limit : OperationSet) → is_within set.rights limit ≡ true → is_within (left_by_kind set (granted_to set limit)) limit ≡ true
set_within set limit h = left_within set.protocol_node (granted_to set limit) limit (granted_within set limit h)

pub grant_within : (word : ℕ) (limit : OperationSet) → is_within (explicit_rights word) limit ≡ true → is_within (granted_kind word (granted word limit)) limit ≡ true
unfolding explicit_rights granted granted_kind
grant_within word limit h = set_within (flags_of word) limit h

pub grant_within_both : (word : ℕ) (have masks : OperationSet) → is_within (explicit_rights word) (meet have masks) ≡ true → (is_within (granted_kind word (granted word (meet have masks))) have ≡ true) × (is_within (granted_kind word (granted word (meet have masks))) masks ≡ true)
grant_within_both word have masks h =
    let all = granted_kind word (granted word (meet have masks)) in (
      within_trans all (meet have masks) have (grant_within word (meet have masks) h) (meet_within_left have masks),
      within_trans all (meet have masks) masks (grant_within word (meet have masks) h) (meet_within_right have masks),
    )

pub grant-some : (word : ℕ) (limit : OperationSet) → is_within (explicit_rights word) limit ≡ true → grant_of word limit ≡ Some (granted_kind word (granted word limit))
unfolding grant_of explicit_rights granted granted_kind
grant-some word limit h = rw h refl

pub grant-none : (word : ℕ) (limit : OperationSet) → is_within (explicit_rights word) limit ≡ false → grant_of word limit ≡ None
unfolding grant_of explicit_rights
grant-none word limit h = rw h refl

-- ---- a word without a flag

unfoldable pub without : Flag → ℕ → ℕ
without one word = bit_and word (2 ^ 64 - 1 - 2 ^ place one)

pub place_small : (one : Flag) → place one < 64
place_small (flag.Perm op.Connect) = omega arith
place_small (flag.Perm op.ReadBytes) = omega arith
place_small (flag.Perm op.WriteBytes) = omega arith
place_small (flag.Perm op.Execute) = omega arith
place_small (flag.Perm op.GetAttributes) = omega arith
place_small (flag.Perm op.UpdateAttributes) = omega arith
place_small (flag.Perm op.Enumerate) = omega arith
place_small (flag.Perm op.Traverse) = omega arith
place_small (flag.Perm op.ModifyDirectory) = omega arith
place_small flag.InheritWrite = omega arith
place_small flag.InheritExecute = omega arith
place_small flag.ProtocolService = omega arith
place_small flag.ProtocolNode = omega arith
place_small flag.ProtocolDirectory = omega arith
place_small flag.ProtocolFile = omega arith
place_small flag.ProtocolSymlink = omega arith
place_small flag.MaybeCreate = omega arith
place_small flag.MustCreate = omega arith
place_small flag.UnnamedTemporary = omega arith
place_small flag.FileAppend = omega arith
place_small flag.FileTruncate = omega arith
place_small flag.SendRepresentation = omega arith

pub shifted_one : (k : ℕ) → k < 64 → 1 * 2 ^ k % 2 ^ 64 ≡ 2 ^ k
shifted_one k small = ap (λ m. m % 2 ^ 64) (one-mul (2 ^ k)) ∙ mod-eq_of_lt (pow-lt small)

pub has-without_other : (word : ℕ) (one other : Flag) → place other ≢ place one → has (without one word) other ≡ has word other
unfolding without
has-without_other word one other apart =
    has-bit (without one word) other
    ∙ ap (λ b. b == 1)
    (subst
    (λ m. bit_at (bit_and word (2 ^ 64 - 1 - m)) (place other) ≡ bit_at word (place other))
    (shifted_one (place one) (place_small one))
    (bit_at_clear_other w64 word (place one) (place_small one) (place other) (place_small other) apart))
    ∙ sym (has-bit word other)

pub has-without_same : (word : ℕ) (one : Flag) → has (without one word) one ≡ false
unfolding without
has-without_same word one =
    has-bit (without one word) one
    ∙ ap (λ b. b == 1)
    (subst
    (λ m. bit_at (bit_and word (2 ^ 64 - 1 - m)) (place one) ≡ 0)
    (shifted_one (place one) (place_small one))
    (bit_at_clear_same w64 word (place one) (place_small one)))

pub and_true : (b : Bool) → b ≡ (b && true)
and_true true = refl
and_true false = refl

pub and_false : (b : Bool) → false ≡ (b && false)
and_false true = refl
and_false false = refl

-- ---- the explicit rights are the low nine bits

bit_small : (operation : Operation) → bit_of operation < 9
bit_small op.Connect = omega arith
bit_small op.ReadBytes = omega arith
bit_small op.WriteBytes = omega arith
bit_small op.Execute = omega arith
bit_small op.GetAttributes = omega arith
bit_small op.UpdateAttributes = omega arith
bit_small op.Enumerate = omega arith
bit_small op.Traverse = omega arith
bit_small op.ModifyDirectory = omega arith

low_bit : (word k : ℕ) → k < 9 → (bit_at (bit_and word 511) k == 1) ≡ (bit_at word k == 1)
low_bit word k small =
    test-and word 511 k
    ∙ ap (λ b. (bit_at word k == 1) && (b == 1)) (bit_at_ones 9 k small)
    ∙ sym (and_true (bit_at word k == 1))

pub explicit-each : (word : ℕ) (operation : Operation) → allows (explicit_rights word) operation ≡ has word (flag.Perm operation)
unfolding explicit_rights
explicit-each word operation = refl

pub explicit-low : (word : ℕ) → set_of_bits (bit_and word 511) ≡ explicit_rights word
explicit-low word =
    same_sets (set_of_bits (bit_and word 511)) (explicit_rights word)
    (λ o.
    has-set_of_bits (bit_and word 511) o
    ∙ low_bit word (bit_of o) (bit_small o)
    ∙ sym (explicit-each word o ∙ has-bit word (flag.Perm o)))

-- ---- bits without a name stay as they are

both_false : (a b u : Bool) → u ≡ false → (a && u) ≡ (b && u)
both_false true true u e = refl
both_false true false u e = e
both_false false true u e = sym e
both_false false false u e = refl

stray-without : (word : ℕ) (one : Flag) → unnamed (place one) ≡ false → (k : ℕ) → k < 64 → stray (without one word) k ≡ stray word k
unfolding stray without
stray-without word one named k small =
    elim (cases_eq k (place one)) [
      | inl same ↦ both_false _ _ (unnamed k) (ap unnamed same ∙ named)
      | inr apart ↦
          ap (λ b. (b == 1) && unnamed k)
          (subst
          (λ m. bit_at (bit_and word (2 ^ 64 - 1 - m)) k ≡ bit_at word k)
          (shifted_one (place one) (place_small one))
          (bit_at_clear_other w64 word (place one) (place_small one) k small apart))
    ]

pub unnamed-without : (word : ℕ) (one : Flag) → unnamed (place one) ≡ false → has_unnamed_bit (without one word) ≡ has_unnamed_bit word
unnamed-without word one named =
    unnamed-stray (without one word)
    ∙ same_tests_on (stray (without one word)) (stray word) 0 64 (λ k lt. zero-add-on (stray (without one word)) (stray word) k (stray-without word one named k lt))
    ∙ sym (unnamed-stray word)

-- the bit that the code clears
pub cleared : (word k : ℕ) (one : Flag) → k ≡ place one → bit_and word (2 ^ 64 - 1 - 1 * 2 ^ k % 2 ^ 64) ≡ without one word
unfolding without
cleared word k one e = rw (e, shifted_one (place one) (place_small one)) refl

-- each flag's place is its own
named : (one : Flag) → unnamed (place one) ≡ false
named (flag.Perm op.Connect) = refl
named (flag.Perm op.ReadBytes) = refl
named (flag.Perm op.WriteBytes) = refl
named (flag.Perm op.Execute) = refl
named (flag.Perm op.GetAttributes) = refl
named (flag.Perm op.UpdateAttributes) = refl
named (flag.Perm op.Enumerate) = refl
named (flag.Perm op.Traverse) = refl
named (flag.Perm op.ModifyDirectory) = refl
named flag.InheritWrite = refl
named flag.InheritExecute = refl
named flag.ProtocolService = refl
named flag.ProtocolNode = refl
named flag.ProtocolDirectory = refl
named flag.ProtocolFile = refl
named flag.ProtocolSymlink = refl
named flag.MaybeCreate = refl
named flag.MustCreate = refl
named flag.UnnamedTemporary = refl
named flag.FileAppend = refl
named flag.FileTruncate = refl
named flag.SendRepresentation = refl

pub still_unnamed : (word : ℕ) (one : Flag) → has_unnamed_bit (without one word) ≡ has_unnamed_bit word
still_unnamed word one = unnamed-without word one (named one)

-- ---- the flags that go on

pub onward-set : (word : ℕ) (limit : OperationSet) → flags_of (onward word limit) ≡ going_on (flags_of word) limit
unfolding onward
onward-set word limit = flags_of-word_of (going_on (flags_of word) limit)

pub onward-explicit : (word : ℕ) (limit : OperationSet) → explicit_rights (onward word limit) ≡ explicit_rights word
unfolding explicit_rights
onward-explicit word limit = ap (λ (set : FlagSet). set.rights) (onward-set word limit)

pub onward-asked : (word : ℕ) (limit : OperationSet) → asked_rights (onward word limit) ≡ asked_rights word
unfolding asked_rights
onward-asked word limit = ap asked_by (onward-set word limit)

pub goes_on : (set : FlagSet) (limit : OperationSet) (one : Flag) → holds (going_on set limit) one ≡ (holds set one && passes limit one)
goes_on set limit (flag.Perm o) = and_true (allows set.rights o)
goes_on set limit flag.InheritWrite = refl
goes_on set limit flag.InheritExecute = refl
goes_on set limit flag.ProtocolService = and_true set.protocol_service
goes_on set limit flag.ProtocolNode = and_true set.protocol_node
goes_on set limit flag.ProtocolDirectory = and_true set.protocol_directory
goes_on set limit flag.ProtocolFile = and_true set.protocol_file
goes_on set limit flag.ProtocolSymlink = and_true set.protocol_symlink
goes_on set limit flag.MaybeCreate = and_true set.maybe_create
goes_on set limit flag.MustCreate = and_true set.must_create
goes_on set limit flag.UnnamedTemporary = and_true set.unnamed_temporary
goes_on set limit flag.FileAppend = and_true set.file_append
goes_on set limit flag.FileTruncate = and_true set.file_truncate
goes_on set limit flag.SendRepresentation = and_true set.send_representation

-- a word in which nothing but the two inherit flags was changed
pub record Keeps (kept : Bool) (one : Flag) (before after : ℕ) : Type 0 where
  pub here : has after one ≡ (has before one && kept)
  pub others : (other : Flag) → other ≢ one → has after other ≡ has before other

pub both_kept : (word first second : ℕ) (limit : OperationSet) → Keeps (is_within write_set limit) flag.InheritWrite word first → Keeps (is_within execute_set limit) flag.InheritExecute first second → flags_of second ≡ going_on (flags_of word) limit
both_kept word first second limit w e = same_flag_sets (flags_of second) (going_on (flags_of word) limit) each where
  each : (one : Flag) → holds (flags_of second) one ≡ holds (going_on (flags_of word) limit) one
  each (flag.Perm o) = e.others (flag.Perm o) (λ x. cc) ∙ w.others (flag.Perm o) (λ x. cc)
  each flag.InheritWrite = e.others flag.InheritWrite (λ x. cc) ∙ w.here
  each flag.InheritExecute = e.here ∙ ap (λ b. b && is_within execute_set limit) (w.others flag.InheritExecute (λ x. cc))
  each flag.ProtocolService = e.others flag.ProtocolService (λ x. cc) ∙ w.others flag.ProtocolService (λ x. cc)
  each flag.ProtocolNode = e.others flag.ProtocolNode (λ x. cc) ∙ w.others flag.ProtocolNode (λ x. cc)
  each flag.ProtocolDirectory = e.others flag.ProtocolDirectory (λ x. cc) ∙ w.others flag.ProtocolDirectory (λ x. cc)
  each flag.ProtocolFile = e.others flag.ProtocolFile (λ x. cc) ∙ w.others flag.ProtocolFile (λ x. cc)
  each flag.ProtocolSymlink = e.others flag.ProtocolSymlink (λ x. cc) ∙ w.others flag.ProtocolSymlink (λ x. cc)
  each flag.MaybeCreate = e.others flag.MaybeCreate (λ x. cc) ∙ w.others flag.MaybeCreate (λ x. cc)
  each flag.MustCreate = e.others flag.MustCreate (λ x. cc) ∙ w.others flag.MustCreate (λ x. cc)
  each flag.UnnamedTemporary = e.others flag.UnnamedTemporary (λ x. cc) ∙ w.others flag.UnnamedTemporary (λ x. cc)
  each flag.FileAppend = e.others flag.FileAppend (λ x. cc) ∙ w.others flag.FileAppend (λ x. cc)
  each flag.FileTruncate = e.others flag.FileTruncate (λ x. cc) ∙ w.others flag.FileTruncate (λ x. cc)
  each flag.SendRepresentation = e.others flag.SendRepresentation (λ x. cc) ∙ w.others flag.SendRepresentation (λ x. cc)

-- a word that has the flags that go on is the word that goes on
pub same_fault : (word after : ℕ) (limit : OperationSet) → has_unnamed_bit after ≡ has_unnamed_bit word → flags_of after ≡ going_on (flags_of word) limit → flag_fault after ≡ flag_fault word
unfolding flag_fault
same_fault word after limit bits set =
    ap (λ b. first_of (cause_if b fault.UnknownBit ∷ set_faults (flags_of after))) bits
    ∙ ap (λ s. first_of (cause_if (has_unnamed_bit word) fault.UnknownBit ∷ set_faults s)) set

pub went_on : (word after : ℕ) (limit : OperationSet) → after < 2 ^ 64 → flag_fault word ≡ None → has_unnamed_bit after ≡ has_unnamed_bit word → flags_of after ≡ going_on (flags_of word) limit → after ≡ onward word limit
unfolding onward
went_on word after limit small sound bits set =
    sym (word_of-flags_of after small (bits ∙ (no_fault word sound).0)) ∙ ap word_of set

pub onward-fault : (word : ℕ) (limit : OperationSet) → has_unnamed_bit word ≡ false → flag_fault (onward word limit) ≡ flag_fault word
unfolding onward
onward-fault word limit named =
    same_fault word (onward word limit) limit (word_of-named (going_on (flags_of word) limit) ∙ sym named) (onward-set word limit)

-- ---- laws

pub within_self : (a : OperationSet) → is_within a a ≡ true
within_self a = within_from_each a a (λ o h. h)

pub within_join_left : (a b : OperationSet) → is_within a (join a b) ≡ true
within_join_left a b =
    within_from_each a (join a b) (λ o h. has-join a b o ∙ or_left (allows a o) (allows b o) h)

no_grant : (rights : OperationSet) → None ≡ Some rights → ⊥
no_grant rights e = cc

pub granted-law : (word : ℕ) (limit rights : OperationSet) → grant_of word limit ≡ Some rights → is_within rights limit ≡ true
granted-law word limit rights e =
    elim (cases_Bool (is_within (explicit_rights word) limit)) [
      | inl all ↦
          let same : granted_kind word (granted word limit) ≡ rights =
          same_Some _ _ (sym (grant-some word limit all) ∙ e) in
          subst (λ set. is_within set limit ≡ true) same (grant_within word limit all)
      | inr some ↦ absurd (no_grant rights (sym (grant-none word limit some) ∙ e))
    ]
