-- Sets of operations as numbers: each number below 512 is the bits of one set.
use Rattle.std.proofs.Common.{◌≡◌, ℕ, ◌<◌, ◌==◌, Bool, true, false, not, ◌&&◌, ◌||◌, refl, sym, ap, ◌∙◌, arith, min, max, bit_and, bit_or, zero, suc, List, [], ◌∷◌}
use Rattle.std.specs.Int.{bit_at}
use Rattle.std.proofs.Math.Bool.{beq}
use Rattle.std.specs.List.{list_all}
use Rattle.std.proofs.lemmas.Bool.{and_parts, and_from}
use Rattle.std.proofs.lemmas.Nat.Bits.{bit_at_and, bit_at_or, bit_at-lt}
use Rattle.io_rights.specs.declared.operations.Operation.{Operation}
use Rattle.io_rights.specs.declared.operations.Operation.TheVariants as op
use Rattle.io_rights.specs.Operations.{OperationSet, has, set_of, operations, bit_of, single, meet, join, is_within, set_of_bits, bits_of}

-- ---- a set is what it has

unfoldable built : (a b c d e f g h i : Bool) → OperationSet
built a b c d e f g h i =
    record {
      connect = a;
      read_bytes = b;
      write_bytes = c;
      execute = d;
      get_attributes = e;
      update_attributes = f;
      enumerate = g;
      traverse = h;
      modify_directory = i;
    }

built-same : {a b c d e f g h i a' b' c' d' e' f' g' h' i' : Bool} → a ≡ a' → b ≡ b' → c ≡ c' → d ≡ d' → e ≡ e' → f ≡ f' → g ≡ g' → h ≡ h' → i ≡ i' → built a b c d e f g h i ≡ built a' b' c' d' e' f' g' h' i'
built-same p q r s t u v w x = cc

-- two sets with the same operations are one
pub same_sets : (a b : OperationSet) → ((operation : Operation) → has a operation ≡ has b operation) → a ≡ b
unfolding built
same_sets a b same =
    built-same
    (same op.Connect)
    (same op.ReadBytes)
    (same op.WriteBytes)
    (same op.Execute)
    (same op.GetAttributes)
    (same op.UpdateAttributes)
    (same op.Enumerate)
    (same op.Traverse)
    (same op.ModifyDirectory)

pub has-set_of : (test : Operation → Bool) (operation : Operation) → has (set_of test) operation ≡ test operation
has-set_of test op.Connect = refl
has-set_of test op.ReadBytes = refl
has-set_of test op.WriteBytes = refl
has-set_of test op.Execute = refl
has-set_of test op.GetAttributes = refl
has-set_of test op.UpdateAttributes = refl
has-set_of test op.Enumerate = refl
has-set_of test op.Traverse = refl
has-set_of test op.ModifyDirectory = refl

pub has-meet : (a b : OperationSet) (operation : Operation) → has (meet a b) operation ≡ (has a operation && has b operation)
unfolding meet
has-meet a b operation = has-set_of (λ o. has a o && has b o) operation

pub has-join : (a b : OperationSet) (operation : Operation) → has (join a b) operation ≡ (has a operation || has b operation)
unfolding join
has-join a b operation = has-set_of (λ o. has a o || has b o) operation

pub has-set_of_bits : (n : ℕ) (operation : Operation) → has (set_of_bits n) operation ≡ (bit_at n (bit_of operation) == 1)
unfolding set_of_bits
has-set_of_bits n operation = has-set_of (λ o. bit_at n (bit_of o) == 1) operation

pub has-single : (one operation : Operation) → has (single one) operation ≡ (bit_of operation == bit_of one)
has-single one operation = has-set_of (λ o. bit_of o == bit_of one) operation

-- ---- sets and numbers

-- a bit is 0 or 1
bit_cases : (P : ℕ → Type 0) → P 0 → P 1 → (n : ℕ) → n < 2 → P n
bit_cases P p q zero small = p
bit_cases P p q (suc zero) small = q
bit_cases P p q (suc (suc n)) small = absurd (omega arith)

two_bits : (P : ℕ → ℕ → Type 0) → P 0 0 → P 0 1 → P 1 0 → P 1 1 → (a b i : ℕ) → P (bit_at a i) (bit_at b i)
two_bits P p q r s a b i =
    bit_cases
    (λ x. P x (bit_at b i))
    (bit_cases (P 0) p q (bit_at b i) (bit_at-lt b i))
    (bit_cases (P 1) r s (bit_at b i) (bit_at-lt b i))
    (bit_at a i)
    (bit_at-lt a i)

pub test-and : (a b i : ℕ) → (bit_at (bit_and a b) i == 1) ≡ ((bit_at a i == 1) && (bit_at b i == 1))
test-and a b i =
    ap (λ n. n == 1) (bit_at_and a b i) ∙ two_bits (λ x y. (min x y == 1) ≡ ((x == 1) && (y == 1))) refl refl refl refl a b i

pub test-or : (a b i : ℕ) → (bit_at (bit_or a b) i == 1) ≡ ((bit_at a i == 1) || (bit_at b i == 1))
test-or a b i =
    ap (λ n. n == 1) (bit_at_or a b i) ∙ two_bits (λ x y. (max x y == 1) ≡ ((x == 1) || (y == 1))) refl refl refl refl a b i

pub set_of_bits-and : (a b : ℕ) → set_of_bits (bit_and a b) ≡ meet (set_of_bits a) (set_of_bits b)
set_of_bits-and a b =
    same_sets _ _
    (λ operation.
    has-set_of_bits (bit_and a b) operation
    ∙ test-and a b (bit_of operation)
    ∙ sym
    (has-meet (set_of_bits a) (set_of_bits b) operation
    ∙ ap (λ x. x && has (set_of_bits b) operation) (has-set_of_bits a operation)
    ∙ ap (λ x. (bit_at a (bit_of operation) == 1) && x) (has-set_of_bits b operation)))

pub set_of_bits-or : (a b : ℕ) → set_of_bits (bit_or a b) ≡ join (set_of_bits a) (set_of_bits b)
set_of_bits-or a b =
    same_sets _ _
    (λ operation.
    has-set_of_bits (bit_or a b) operation
    ∙ test-or a b (bit_of operation)
    ∙ sym
    (has-join (set_of_bits a) (set_of_bits b) operation
    ∙ ap (λ x. x || has (set_of_bits b) operation) (has-set_of_bits a operation)
    ∙ ap (λ x. (bit_at a (bit_of operation) == 1) || x) (has-set_of_bits b operation)))

-- a test that computes holds of each set, where it holds of the 512
abbrev either_way : (Bool → Bool) → Bool
either_way test = test false && test true

either_way_at : (test : Bool → Bool) → either_way test ≡ true → (b : Bool) → test b ≡ true
either_way_at test h false = (and_parts (test false) (test true) h).0
either_way_at test h true = (and_parts (test false) (test true) h).1

abbrev on_9 : (OperationSet → Bool) → (a b c d e f g h i : Bool) → Bool
on_9 test a b c d e f g h i =
    test
    record {
      connect = a;
      read_bytes = b;
      write_bytes = c;
      execute = d;
      get_attributes = e;
      update_attributes = f;
      enumerate = g;
      traverse = h;
      modify_directory = i;
    }

abbrev on_8 : (OperationSet → Bool) → (a b c d e f g h : Bool) → Bool
on_8 test a b c d e f g h = either_way (on_9 test a b c d e f g h)

abbrev on_7 : (OperationSet → Bool) → (a b c d e f g : Bool) → Bool
on_7 test a b c d e f g = either_way (on_8 test a b c d e f g)

abbrev on_6 : (OperationSet → Bool) → (a b c d e f : Bool) → Bool
on_6 test a b c d e f = either_way (on_7 test a b c d e f)

abbrev on_5 : (OperationSet → Bool) → (a b c d e : Bool) → Bool
on_5 test a b c d e = either_way (on_6 test a b c d e)

abbrev on_4 : (OperationSet → Bool) → (a b c d : Bool) → Bool
on_4 test a b c d = either_way (on_5 test a b c d)

abbrev on_3 : (OperationSet → Bool) → (a b c : Bool) → Bool
on_3 test a b c = either_way (on_4 test a b c)

abbrev on_2 : (OperationSet → Bool) → (a b : Bool) → Bool
on_2 test a b = either_way (on_3 test a b)

abbrev on_1 : (OperationSet → Bool) → (a : Bool) → Bool
on_1 test a = either_way (on_2 test a)

abbrev pub on_each_set : (OperationSet → Bool) → Bool
on_each_set test = either_way (on_1 test)

pub at_each_set : (test : OperationSet → Bool) → on_each_set test ≡ true → (set : OperationSet) → test set ≡ true
at_each_set test h set =
    let h1 = either_way_at (on_1 test) h set.connect in
    let h2 = either_way_at (on_2 test set.connect) h1 set.read_bytes in
    let h3 = either_way_at (on_3 test set.connect set.read_bytes) h2 set.write_bytes in
    let h4 = either_way_at (on_4 test set.connect set.read_bytes set.write_bytes) h3 set.execute in
    let h5 = either_way_at (on_5 test set.connect set.read_bytes set.write_bytes set.execute) h4 set.get_attributes in
    let h6 = either_way_at (on_6 test set.connect set.read_bytes set.write_bytes set.execute set.get_attributes) h5 set.update_attributes in
    let h7 = either_way_at (on_7 test set.connect set.read_bytes set.write_bytes set.execute set.get_attributes set.update_attributes) h6 set.enumerate in
    let h8 = either_way_at (on_8 test set.connect set.read_bytes set.write_bytes set.execute set.get_attributes set.update_attributes set.enumerate) h7 set.traverse in
    either_way_at (on_9 test set.connect set.read_bytes set.write_bytes set.execute set.get_attributes set.update_attributes set.enumerate set.traverse) h8 set.modify_directory

-- ---- inclusion

-- a test that all nine pass, test by test
abbrev AllNine : (Operation → Bool) → List Operation → Type 0
AllNine test [] = Unit {0}
AllNine test (one ∷ rest) = (test one ≡ true) × AllNine test rest

all_nine : (test : Operation → Bool) (some : List Operation) → list_all test some ≡ true → AllNine test some
all_nine test [] h = tt
all_nine test (one ∷ rest) h =
    let both = and_parts (test one) (list_all test rest) h in (both.0, all_nine test rest both.1)

from_all_nine : (test : Operation → Bool) (some : List Operation) → AllNine test some → list_all test some ≡ true
from_all_nine test [] h = refl
from_all_nine test (one ∷ rest) h = and_from (test one) (list_all test rest) h.0 (from_all_nine test rest h.1)

each_at : (test : Operation → Bool) → AllNine test operations → (operation : Operation) → test operation ≡ true
each_at test h op.Connect = h.0
each_at test h op.ReadBytes = h.1.0
each_at test h op.WriteBytes = h.1.1.0
each_at test h op.Execute = h.1.1.1.0
each_at test h op.GetAttributes = h.1.1.1.1.0
each_at test h op.UpdateAttributes = h.1.1.1.1.1.0
each_at test h op.Enumerate = h.1.1.1.1.1.1.0
each_at test h op.Traverse = h.1.1.1.1.1.1.1.0
each_at test h op.ModifyDirectory = h.1.1.1.1.1.1.1.1.0

from_each : (test : Operation → Bool) → ((operation : Operation) → test operation ≡ true) → AllNine test operations
from_each test h =
    (h op.Connect, (h op.ReadBytes, (h op.WriteBytes, (h op.Execute, (h op.GetAttributes, (h op.UpdateAttributes, (h op.Enumerate, (h op.Traverse, (h op.ModifyDirectory, tt)))))))))

implied : (x y : Bool) → (not x || y) ≡ true → x ≡ true → y ≡ true
implied true y h given = h
implied false y h given = cc

implies : (x y : Bool) → (x ≡ true → y ≡ true) → (not x || y) ≡ true
implies true y h = h refl
implies false y h = refl

pub within_each : (a b : OperationSet) → is_within a b ≡ true → (operation : Operation) → has a operation ≡ true → has b operation ≡ true
unfolding is_within
within_each a b h operation =
    implied
    (has a operation)
    (has b operation)
    (each_at (λ o. not (has a o) || has b o) (all_nine (λ o. not (has a o) || has b o) operations h) operation)

pub within_from_each : (a b : OperationSet) → ((operation : Operation) → has a operation ≡ true → has b operation ≡ true) → is_within a b ≡ true
unfolding is_within
within_from_each a b h =
    from_all_nine (λ o. not (has a o) || has b o) operations
    (from_each (λ o. not (has a o) || has b o) (λ o. implies (has a o) (has b o) (h o)))

kept : (x y : Bool) → (x ≡ true → y ≡ true) → (x && y) ≡ x
kept true y h = h refl
kept false y h = refl

given_kept : (x y : Bool) → (x && y) ≡ x → x ≡ true → y ≡ true
given_kept true y h given = h
given_kept false y h given = cc

pub meet_from_within : (a b : OperationSet) → is_within a b ≡ true → meet a b ≡ a
meet_from_within a b h =
    same_sets (meet a b) a (λ o. has-meet a b o ∙ kept (has a o) (has b o) (within_each a b h o))

pub within_from_meet : (a b : OperationSet) → meet a b ≡ a → is_within a b ≡ true
within_from_meet a b same =
    within_from_each a b
    (λ o. given_kept (has a o) (has b o) (sym (has-meet a b o) ∙ ap (λ set. has set o) same))

-- two tests that hold at the same time are one
pub same_tests : (x y : Bool) → (x ≡ true → y ≡ true) → (y ≡ true → x ≡ true) → x ≡ y
same_tests true y there back = sym (there refl)
same_tests false true there back = back refl
same_tests false false there back = refl

-- ---- the meet is the greatest set within both

pub meet_within_left : (a b : OperationSet) → is_within (meet a b) a ≡ true
meet_within_left a b =
    within_from_each (meet a b) a
    (λ o h. (and_parts (has a o) (has b o) (sym (has-meet a b o) ∙ h)).0)

pub meet_within_right : (a b : OperationSet) → is_within (meet a b) b ≡ true
meet_within_right a b =
    within_from_each (meet a b) b
    (λ o h. (and_parts (has a o) (has b o) (sym (has-meet a b o) ∙ h)).1)

pub within_trans : (a b c : OperationSet) → is_within a b ≡ true → is_within b c ≡ true → is_within a c ≡ true
within_trans a b c p q = within_from_each a c (λ o h. within_each b c q o (within_each a b p o h))

pub within_meet : (a b c : OperationSet) → is_within c a ≡ true → is_within c b ≡ true → is_within c (meet a b) ≡ true
within_meet a b c p q =
    within_from_each c (meet a b)
    (λ o h. has-meet a b o ∙ and_from (has a o) (has b o) (within_each c a p o h) (within_each c b q o h))

-- ---- a set is the set of its bits

pub same_from_beq : (a b : Bool) → beq a b ≡ true → a ≡ b
same_from_beq true true h = refl
same_from_beq true false h = cc
same_from_beq false true h = cc
same_from_beq false false h = refl

-- each operation's bit in the bits of a set, tried at all 512 sets
bit_at-bits_of : (operation : Operation) (set : OperationSet) → beq (bit_at (bits_of set) (bit_of operation) == 1) (has set operation) ≡ true
unfolding bits_of
bit_at-bits_of op.Connect set = at_each_set (λ s. beq (bit_at (bits_of s) (bit_of op.Connect) == 1) (has s op.Connect)) refl set
bit_at-bits_of op.ReadBytes set = at_each_set (λ s. beq (bit_at (bits_of s) (bit_of op.ReadBytes) == 1) (has s op.ReadBytes)) refl set
bit_at-bits_of op.WriteBytes set = at_each_set (λ s. beq (bit_at (bits_of s) (bit_of op.WriteBytes) == 1) (has s op.WriteBytes)) refl set
bit_at-bits_of op.Execute set = at_each_set (λ s. beq (bit_at (bits_of s) (bit_of op.Execute) == 1) (has s op.Execute)) refl set
bit_at-bits_of op.GetAttributes set = at_each_set (λ s. beq (bit_at (bits_of s) (bit_of op.GetAttributes) == 1) (has s op.GetAttributes)) refl set
bit_at-bits_of op.UpdateAttributes set = at_each_set (λ s. beq (bit_at (bits_of s) (bit_of op.UpdateAttributes) == 1) (has s op.UpdateAttributes)) refl set
bit_at-bits_of op.Enumerate set = at_each_set (λ s. beq (bit_at (bits_of s) (bit_of op.Enumerate) == 1) (has s op.Enumerate)) refl set
bit_at-bits_of op.Traverse set = at_each_set (λ s. beq (bit_at (bits_of s) (bit_of op.Traverse) == 1) (has s op.Traverse)) refl set
bit_at-bits_of op.ModifyDirectory set = at_each_set (λ s. beq (bit_at (bits_of s) (bit_of op.ModifyDirectory) == 1) (has s op.ModifyDirectory)) refl set

pub set_of_bits-bits_of : (set : OperationSet) → set_of_bits (bits_of set) ≡ set
set_of_bits-bits_of set =
    same_sets (set_of_bits (bits_of set)) set
    (λ o. has-set_of_bits (bits_of set) o ∙ same_from_beq _ (has set o) (bit_at-bits_of o set))
