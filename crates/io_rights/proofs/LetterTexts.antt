-- The letters of a set, operation by operation, and the set that letters name.
use Rattle.std.proofs.Common.{◌≡◌, ℕ, zero, suc, ◌+◌, ◌<◌, ◌==◌, Bool, true, false, ◌&&◌, ◌||◌, List, [], ◌∷◌, ◌++◌, get_or, take, map, filter, refl, sym, ap, ◌∙◌, arith, nat_lt, inl, inr}
use Rattle.std.proofs.Math.Bool.{beq}
use Rattle.std.specs.List.{list_any}
use Rattle.std.proofs.lemmas.Bool.{cases_order, lt-ltb, le-ltb, ne_eqb, eq-eqb}
use Rattle.std.proofs.lemmas.List.{take_more, map-append, append-nil}
use Rattle.std.proofs.lemmas.List.Elements.{filter-append}
use Rattle.io_rights.specs.declared.operations.Operation.{Operation}
use Rattle.io_rights.specs.declared.operations.Operation.TheVariants as op
use Rattle.io_rights.specs.Operations.{OperationSet, has, set_of, operations, bit_of, none, single, join}
use Rattle.io_rights.specs.Letters.{letter_of, or_dash, letters_of}
use Rattle.io_rights.proofs.OperationSets.{same_sets, has-set_of, has-join, has-single, at_each_set, same_from_beq}

-- the letters of the set's operations among the first i
unfoldable pub letters_in : OperationSet → ℕ → List ℕ
letters_in set i = map letter_of (filter (has set) (take i operations))

pub letters_in-zero : (set : OperationSet) → [] ≡ letters_in set 0
unfolding letters_in
letters_in-zero set = refl

pub letters_in-kept : (set : OperationSet) (i : ℕ) (d : Operation) → i < 9 → has set (get_or operations i d) ≡ true → letters_in set (i + 1) ≡ letters_in set i ++ letter_of (get_or operations i d) ∷ []
unfolding letters_in
letters_in-kept set i d small h =
    rw (take_more operations i d small, filter-append (has set) (take i operations) (get_or operations i d ∷ []), map-append letter_of (filter (has set) (take i operations)) (filter (has set) (get_or operations i d ∷ [])), h)

pub letters_in-left : (set : OperationSet) (i : ℕ) (d : Operation) → i < 9 → has set (get_or operations i d) ≡ false → letters_in set (i + 1) ≡ letters_in set i
unfolding letters_in
letters_in-left set i d small h =
    rw (take_more operations i d small, filter-append (has set) (take i operations) (get_or operations i d ∷ []), map-append letter_of (filter (has set) (take i operations)) (filter (has set) (get_or operations i d ∷ [])), h)
    (append-nil (map letter_of (filter (has set) (take i operations))))

letters_of-or_dash : (set : OperationSet) → or_dash (letters_in set 9) ≡ letters_of set
unfolding letters_of letters_in
letters_of-or_dash set = refl

or_dash-some : (letters : List ℕ) → (letters ≡ [] → ⊥) → letters ≡ or_dash letters
or_dash-some [] some = absurd (some refl)
or_dash-some (letter ∷ letters) some = refl

pub letters_of-some : (set : OperationSet) (letters : List ℕ) → letters ≡ letters_in set 9 → (letters ≡ [] → ⊥) → letters ≡ letters_of set
letters_of-some set letters e some = or_dash-some letters some ∙ ap or_dash e ∙ letters_of-or_dash set

pub letters_of-none : (set : OperationSet) (letters : List ℕ) → letters ≡ letters_in set 9 → letters ≡ [] → letters ++ 45 ∷ [] ≡ letters_of set
letters_of-none set letters e none = rw none (ap or_dash (sym none ∙ e) ∙ letters_of-or_dash set)

-- whether the operation's letter is in the text
abbrev pub is_named : List ℕ → Operation → Bool
is_named text operation = list_any (λ byte. byte == letter_of operation) text

-- the operations among the first i that are named
unfoldable pub named_before : List ℕ → ℕ → OperationSet
named_before text i = set_of (λ operation. nat_lt (bit_of operation) i && is_named text operation)

pub named_before-zero : (text : List ℕ) → none ≡ named_before text 0
unfolding named_before
named_before-zero text = refl

pub named_before-all : (text : List ℕ) → named_before text 9 ≡ set_of (is_named text)
unfolding named_before
named_before-all text = refl

has-named_before : (text : List ℕ) (i : ℕ) (operation : Operation) → has (named_before text i) operation ≡ (nat_lt (bit_of operation) i && is_named text operation)
unfolding named_before
has-named_before text i operation = has-set_of (λ o. nat_lt (bit_of o) i && is_named text o) operation

bit_of-at : (i : ℕ) (d : Operation) → i < 9 → bit_of (get_or operations i d) ≡ i
bit_of-at zero d small = refl
bit_of-at (suc zero) d small = refl
bit_of-at (suc (suc zero)) d small = refl
bit_of-at (suc (suc (suc zero))) d small = refl
bit_of-at (suc (suc (suc (suc zero)))) d small = refl
bit_of-at (suc (suc (suc (suc (suc zero))))) d small = refl
bit_of-at (suc (suc (suc (suc (suc (suc zero)))))) d small = refl
bit_of-at (suc (suc (suc (suc (suc (suc (suc zero))))))) d small = refl
bit_of-at (suc (suc (suc (suc (suc (suc (suc (suc zero)))))))) d small = refl
bit_of-at (suc (suc (suc (suc (suc (suc (suc (suc (suc i))))))))) d small = absurd (omega arith)

at-bit_of : (operation d : Operation) → get_or operations (bit_of operation) d ≡ operation
at-bit_of op.Connect d = refl
at-bit_of op.ReadBytes d = refl
at-bit_of op.WriteBytes d = refl
at-bit_of op.Execute d = refl
at-bit_of op.GetAttributes d = refl
at-bit_of op.UpdateAttributes d = refl
at-bit_of op.Enumerate d = refl
at-bit_of op.Traverse d = refl
at-bit_of op.ModifyDirectory d = refl

here : (l e m n : Bool) → l ≡ false → e ≡ true → m ≡ true → n ≡ true → ((l && n) || e) ≡ (m && n)
here l e m n p q r s = rw (p, q, r, s)

below : (l e m n : Bool) → l ≡ true → e ≡ false → m ≡ true → ((l && n) || e) ≡ (m && n)
below l e m true p q r = rw (p, r)
below l e m false p q r = rw (p, q, r)

above : (l e m n : Bool) → l ≡ false → e ≡ false → m ≡ false → ((l && n) || e) ≡ (m && n)
above l e m n p q r = rw (p, q, r)

none_here : (l m n : Bool) → n ≡ false → (l && n) ≡ (m && n)
none_here true true n p = refl
none_here true false n p = p
none_here false true n p = sym p
none_here false false n p = refl

joined_at : (text : List ℕ) (i : ℕ) (d o : Operation) → i < 9 → is_named text (get_or operations i d) ≡ true → ((nat_lt (bit_of o) i && is_named text o) || (bit_of o == i)) ≡ (nat_lt (bit_of o) (i + 1) && is_named text o)
joined_at text i d o small h =
    elim (cases_order (bit_of o) i) [
      | inl same ↦
          here (nat_lt (bit_of o) i) (bit_of o == i) (nat_lt (bit_of o) (i + 1)) (is_named text o)
          (le-ltb (bit_of o) i (omega arith))
          (eq-eqb (bit_of o) i same)
          (lt-ltb (bit_of o) (i + 1) (omega arith))
          (sym (ap (is_named text) (ap (λ k. get_or operations k d) (sym same) ∙ at-bit_of o d)) ∙ h)
      | inr (inl less) ↦
          below (nat_lt (bit_of o) i) (bit_of o == i) (nat_lt (bit_of o) (i + 1)) (is_named text o)
          (lt-ltb (bit_of o) i less)
          (ne_eqb (bit_of o) i (λ e. omega arith))
          (lt-ltb (bit_of o) (i + 1) (omega arith))
      | inr (inr more) ↦
          above (nat_lt (bit_of o) i) (bit_of o == i) (nat_lt (bit_of o) (i + 1)) (is_named text o)
          (le-ltb (bit_of o) i (omega arith))
          (ne_eqb (bit_of o) i (λ e. omega arith))
          (le-ltb (bit_of o) (i + 1) (omega arith))
    ]

same_at : (text : List ℕ) (i : ℕ) (d o : Operation) → i < 9 → is_named text (get_or operations i d) ≡ false → (nat_lt (bit_of o) i && is_named text o) ≡ (nat_lt (bit_of o) (i + 1) && is_named text o)
same_at text i d o small h =
    elim (cases_order (bit_of o) i) [
      | inl same ↦
          none_here (nat_lt (bit_of o) i) (nat_lt (bit_of o) (i + 1)) (is_named text o)
          (sym (ap (is_named text) (ap (λ k. get_or operations k d) (sym same) ∙ at-bit_of o d)) ∙ h)
      | inr (inl less) ↦
          ap (λ t. t && is_named text o)
          (lt-ltb (bit_of o) i less ∙ sym (lt-ltb (bit_of o) (i + 1) (omega arith)))
      | inr (inr more) ↦
          ap (λ t. t && is_named text o)
          (le-ltb (bit_of o) i (omega arith) ∙ sym (le-ltb (bit_of o) (i + 1) (omega arith)))
    ]

pub named_before-more : (text : List ℕ) (i : ℕ) (d : Operation) → i < 9 → is_named text (get_or operations i d) ≡ true → join (named_before text i) (single (get_or operations i d)) ≡ named_before text (i + 1)
named_before-more text i d small h =
    same_sets (join (named_before text i) (single (get_or operations i d))) (named_before text (i + 1))
    (λ o.
    has-join (named_before text i) (single (get_or operations i d)) o
    ∙ ap (λ t. t || has (single (get_or operations i d)) o) (has-named_before text i o)
    ∙ ap (λ t. (nat_lt (bit_of o) i && is_named text o) || t)
    (has-single (get_or operations i d) o ∙ ap (λ k. bit_of o == k) (bit_of-at i d small))
    ∙ joined_at text i d o small h
    ∙ sym (has-named_before text (i + 1) o))

pub named_before-same : (text : List ℕ) (i : ℕ) (d : Operation) → i < 9 → is_named text (get_or operations i d) ≡ false → named_before text i ≡ named_before text (i + 1)
named_before-same text i d small h =
    same_sets (named_before text i) (named_before text (i + 1))
    (λ o. has-named_before text i o ∙ same_at text i d o small h ∙ sym (has-named_before text (i + 1) o))

-- the letters of a set name its operations and no other
named_at : (operation : Operation) (set : OperationSet) → beq (is_named (letters_of set) operation) (has set operation) ≡ true
unfolding letters_of
named_at op.Connect set = at_each_set (λ s. beq (is_named (letters_of s) op.Connect) (has s op.Connect)) refl set
named_at op.ReadBytes set = at_each_set (λ s. beq (is_named (letters_of s) op.ReadBytes) (has s op.ReadBytes)) refl set
named_at op.WriteBytes set = at_each_set (λ s. beq (is_named (letters_of s) op.WriteBytes) (has s op.WriteBytes)) refl set
named_at op.Execute set = at_each_set (λ s. beq (is_named (letters_of s) op.Execute) (has s op.Execute)) refl set
named_at op.GetAttributes set = at_each_set (λ s. beq (is_named (letters_of s) op.GetAttributes) (has s op.GetAttributes)) refl set
named_at op.UpdateAttributes set = at_each_set (λ s. beq (is_named (letters_of s) op.UpdateAttributes) (has s op.UpdateAttributes)) refl set
named_at op.Enumerate set = at_each_set (λ s. beq (is_named (letters_of s) op.Enumerate) (has s op.Enumerate)) refl set
named_at op.Traverse set = at_each_set (λ s. beq (is_named (letters_of s) op.Traverse) (has s op.Traverse)) refl set
named_at op.ModifyDirectory set = at_each_set (λ s. beq (is_named (letters_of s) op.ModifyDirectory) (has s op.ModifyDirectory)) refl set

pub named-letters_of : (set : OperationSet) → set_of (is_named (letters_of set)) ≡ set
named-letters_of set =
    same_sets (set_of (is_named (letters_of set))) set
    (λ o. has-set_of (is_named (letters_of set)) o ∙ same_from_beq (is_named (letters_of set) o) (has set o) (named_at o set))

pub same_letters : (a b : OperationSet) → letters_of a ≡ letters_of b → a ≡ b
same_letters a b same = sym (named-letters_of a) ∙ ap (λ text. set_of (is_named text)) same ∙ named-letters_of b
