-- Names stand to each other as their first eight bytes do, read as numbers, where these differ.
use Rattle.std.proofs.Common.{◌≡◌, ℕ, zero, suc, List, [], ◌∷◌, refl, ap, sym, ◌∙◌, subst, arith}
use Rattle.std.specs.Prelude.{◌+◌, ◌-◌, ◌*◌, ◌^◌, ◌<◌, ◌≤◌, ◌++◌, slice_index, drop, length, replicate}
use Rattle.std.specs.declared.cmp.Ordering.TheVariants.{Less, Equal, Greater}
use Rattle.std.specs.Ordering.{nat_cmp, ordering_then, ordering_reverse}
use Rattle.std.specs.Cmp.Lexicographic.{slice_cmp}
use Rattle.std.specs.Int.{w64, from_be_bytes, sum_through, byte_worth}
use Rattle.std.proofs.Math.Nat.{pow-suc, one-le-pow, mul_comm}
use Rattle.std.proofs.lemmas.Nat.{mul-add-lt}
use Rattle.std.proofs.lemmas.Cmp.{ranked, by_ranked, nat_list_cmp_total}
use Rattle.node_graph.specs.Keys.{IsHead}

-- the first bytes of a name as a number
abbrev digits : ℕ → List ℕ → ℕ
digits zero name = 0
digits (suc k) [] = 0
digits (suc k) (x ∷ xs) = x * 256 ^ k + digits k xs

abbrev AreBytes : ℕ → List ℕ → Type 0
AreBytes k name = (place : ℕ) → place < k → slice_index name place < 256

rest : (k x : ℕ) (xs : List ℕ) → AreBytes (suc k) (x ∷ xs) → AreBytes k xs
rest k x xs bytes place h = bytes (suc place) (omega arith)

below : (k : ℕ) (name : List ℕ) → AreBytes k name → digits k name < 256 ^ k
below zero name bytes = omega arith
below (suc k) [] bytes = let p = one-le-pow (suc k) 256 (omega arith) in omega arith
below (suc k) (x ∷ xs) bytes =
    subst (λ n. digits (suc k) (x ∷ xs) < n) (sym (pow-suc 256 k)) (mul-add-lt x (256 ^ k) (digits k xs) 256 (bytes zero (omega arith)) (below k xs (rest k x xs bytes)))

-- a first digit that is lower makes the number lower
lower : (x y p a b : ℕ) → x < y → a < p → x * p + a < y * p + b
lower x y p a b h l = let q = mul-add-lt x p a y h l in let c = mul_comm p y in omega arith

first : (k : ℕ) (a b : List ℕ) → AreBytes k a → AreBytes k b → digits k a < digits k b → slice_cmp nat_cmp a b ≡ Less
first zero a b fa fb h = absurd (omega arith)
first (suc k) [] [] fa fb h = absurd (omega arith)
first (suc k) [] (y ∷ ys) fa fb h = refl
first (suc k) (x ∷ xs) [] fa fb h = absurd (omega arith)
first (suc k) (x ∷ xs) (y ∷ ys) fa fb h =
    by_ranked (x < y) (x ≡ y) (y < x) (nat_cmp x y) (ranked x y (nat_cmp x y) refl)
    (λ e less. ap (λ o. ordering_then o (slice_cmp nat_cmp xs ys)) e)
    (λ e same. ap (λ o. ordering_then o (slice_cmp nat_cmp xs ys)) e ∙ first k xs ys (rest k x xs fa) (rest k y ys fb) (let q = ap (λ n. n * 256 ^ k) same in omega arith))
    (λ e more. absurd (let q = lower y x (256 ^ k) (digits k ys) (digits k xs) more (below k ys (rest k y ys fb)) in omega arith))

whole : (name : List ℕ) → from_be_bytes w64 name ≡ digits 8 name
whole [] = refl
whole (a ∷ []) = omega arith
whole (a ∷ b ∷ []) = omega arith
whole (a ∷ b ∷ c ∷ []) = omega arith
whole (a ∷ b ∷ c ∷ d ∷ []) = omega arith
whole (a ∷ b ∷ c ∷ d ∷ e ∷ []) = omega arith
whole (a ∷ b ∷ c ∷ d ∷ e ∷ f ∷ []) = omega arith
whole (a ∷ b ∷ c ∷ d ∷ e ∷ f ∷ g ∷ []) = omega arith
whole (a ∷ b ∷ c ∷ d ∷ e ∷ f ∷ g ∷ h ∷ more) = omega arith

-- heads that differ stand as the names do
pub earlier : (h k : ℕ) (a b : List ℕ) → IsHead h a → IsHead k b → h < k → slice_cmp nat_cmp a b ≡ Less
earlier h k a b is js less = first 8 a b is.bytes js.bytes (let p = is.number ∙ whole a in let q = js.number ∙ whole b in omega arith)

pub later : (h k : ℕ) (a b : List ℕ) → IsHead h a → IsHead k b → k < h → slice_cmp nat_cmp a b ≡ Greater
later h k a b is js more = nat_list_cmp_total.antisymm a b ∙ ap ordering_reverse (earlier k h b a js is more)

cmp_less : (n m : ℕ) → n < m → nat_cmp n m ≡ Less
cmp_less n m h = by_ranked (n < m) (n ≡ m) (m < n) (nat_cmp n m) (ranked n m (nat_cmp n m) refl) (λ e less. e) (λ e same. absurd (omega arith)) (λ e more. absurd (omega arith))

cmp_same : (n m : ℕ) → n ≡ m → nat_cmp n m ≡ Equal
cmp_same n m h = by_ranked (n < m) (n ≡ m) (m < n) (nat_cmp n m) (ranked n m (nat_cmp n m) refl) (λ e less. absurd (omega arith)) (λ e same. e) (λ e more. absurd (omega arith))

cmp_more : (n m : ℕ) → m < n → nat_cmp n m ≡ Greater
cmp_more n m h = by_ranked (n < m) (n ≡ m) (m < n) (nat_cmp n m) (ranked n m (nat_cmp n m) refl) (λ e less. absurd (omega arith)) (λ e same. absurd (omega arith)) (λ e more. e)

cmp_suc : (n m : ℕ) → nat_cmp n m ≡ nat_cmp (suc n) (suc m)
cmp_suc n m =
    by_ranked (n < m) (n ≡ m) (m < n) (nat_cmp n m) (ranked n m (nat_cmp n m) refl)
    (λ e less. e ∙ sym (cmp_less (suc n) (suc m) (omega arith)))
    (λ e same. e ∙ sym (cmp_same (suc n) (suc m) (omega arith)))
    (λ e more. e ∙ sym (cmp_more (suc n) (suc m) (omega arith)))

-- names that their digits have whole, and that have the same, stand as their lengths do
by_length : (k : ℕ) (a b : List ℕ) → length a ≤ k → length b ≤ k → AreBytes k a → AreBytes k b → digits k a ≡ digits k b → slice_cmp nat_cmp a b ≡ nat_cmp (length a) (length b)
by_length k [] [] la lb fa fb e = refl
by_length k [] (y ∷ ys) la lb fa fb e = sym (cmp_less 0 (length (y ∷ ys)) (omega arith))
by_length k (x ∷ xs) [] la lb fa fb e = sym (cmp_more (length (x ∷ xs)) 0 (omega arith))
by_length zero (x ∷ xs) (y ∷ ys) la lb fa fb e = absurd (omega arith)
by_length (suc k) (x ∷ xs) (y ∷ ys) la lb fa fb e =
    by_ranked (x < y) (x ≡ y) (y < x) (nat_cmp x y) (ranked x y (nat_cmp x y) refl)
    (λ o less. absurd (let q = lower x y (256 ^ k) (digits k xs) (digits k ys) less (below k xs (rest k x xs fa)) in omega arith))
    (λ o same. ap (λ o. ordering_then o (slice_cmp nat_cmp xs ys)) o
    ∙ by_length k xs ys (omega arith) (omega arith) (rest k x xs fa) (rest k y ys fb) (let q = ap (λ n. n * 256 ^ k) same in omega arith)
    ∙ cmp_suc (length xs) (length ys))
    (λ o more. absurd (let q = lower y x (256 ^ k) (digits k ys) (digits k xs) more (below k ys (rest k y ys fb)) in omega arith))

-- names that end in their heads, which are the same, stand as their lengths do
pub as_lengths : (h k : ℕ) (a b : List ℕ) → IsHead h a → IsHead k b → h ≡ k → length a ≤ 8 → length b ≤ 8 → slice_cmp nat_cmp a b ≡ nat_cmp (length a) (length b)
as_lengths h k a b is js same la lb = by_length 8 a b la lb is.bytes js.bytes (sym (whole a) ∙ sym is.number ∙ same ∙ js.number ∙ whole b)

pub zeros_only : (n k place : ℕ) → slice_index (drop k (replicate n 0)) place ≡ 0
zeros_only zero zero place = refl
zeros_only zero (suc k) place = refl
zeros_only (suc n) zero zero = refl
zeros_only (suc n) zero (suc place) = zeros_only n zero place
zeros_only (suc n) (suc k) place = zeros_only n k place

-- zeros behind a name leave its head as it is
zeros_behind : (name zeros : List ℕ) → ((place : ℕ) → slice_index zeros place ≡ 0) → (place : ℕ) → slice_index (name ++ zeros) place ≡ slice_index name place
zeros_behind [] zeros are place = are place
zeros_behind (x ∷ xs) zeros are zero = refl
zeros_behind (x ∷ xs) zeros are (suc place) = zeros_behind xs zeros are place

same_sum : (f g : ℕ → ℕ) → ((n : ℕ) → f n ≡ g n) → (k : ℕ) → sum_through f k ≡ sum_through g k
same_sum f g is zero = is 0
same_sum f g is (suc k) = let p = same_sum f g is k in let q = is (suc k) in omega arith

head_behind : (head : ℕ) (name zeros : List ℕ) → ((place : ℕ) → slice_index zeros place ≡ 0) → IsHead head (name ++ zeros) → IsHead head name
head_behind head name zeros are is = record {
  number = is.number ∙ same_sum _ _ (λ n. ap (byte_worth (7 - n)) (zeros_behind name zeros are n)) 7;
  bytes = λ place h. subst (λ n. n < 256) (zeros_behind name zeros are place) (is.bytes place h);
}

-- what the head of a padded name is, is the head of the name
pub head_of_padded : (head : ℕ) (name copied zeros : List ℕ) → copied ≡ name → ((place : ℕ) → slice_index zeros place ≡ 0) → IsHead head (copied ++ zeros) → IsHead head name
head_of_padded head name copied zeros e are is = head_behind head name zeros are (subst (λ xs. IsHead head (xs ++ zeros)) e is)
