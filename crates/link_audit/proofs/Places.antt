-- Where records stand in a recording: lists of them, one behind another, and the bytes that they are.
use Rattle.std.proofs.Common.{◌≡◌, ◌⊎◌, ℕ, List, [], ◌∷◌, ◌++◌, refl, sym, ap, ◌∙◌, subst, append_assoc, append-nil, inl, inr}
use Rattle.std.specs.Prelude.{All}
use Rattle.std.proofs.lemmas.List.Elements.{All-append, All-cons, All-head, All-nil, All-tail}
use Rattle.link_frames.specs.Frames.{spelling}
use Rattle.link_frames.specs.Numbers.{word_of}
use Rattle.vfs_journal.specs.Starts.{Start}
use Rattle.link_audit.specs.Records.{IsRecord, Record, comes_in, ends, goes_out, served, spelling_of, spellings_of}
use Rattle.link_audit.specs.Recorded.{EachStands, MayStand}
use Rattle.link_audit.proofs.Tags.{one_front}

-- ---- lists

some_behind : {A : Type 0} (ys zs : List A) (y : A) → [] ≡ ys ++ y ∷ zs → ⊥
some_behind [] zs y e = cc
some_behind (x ∷ ys) zs y e = let e' : [] ≡ x ∷ (ys ++ y ∷ zs) = e in cc

-- a list with one more, cut at one of its items: at the last, or before it
abbrev pub IsCut : {A : Type 0} → List A → List A → List A → A → A → Type 0
IsCut {A = A} xs ys zs x y = ((xs ≡ ys) × (x ≡ y) × (zs ≡ [])) ⊎ ((ws : List A) × (xs ≡ ys ++ y ∷ ws))

cut_on : {A : Type 0} (a b : A) (xs ys zs : List A) (x y : A) → a ≡ b → IsCut xs ys zs x y → IsCut (a ∷ xs) (b ∷ ys) zs x y
cut_on a b xs ys zs x y head (inl same) = inl (cc (same.0, head), same.1, same.2)
cut_on a b xs ys zs x y head (inr on) = let tail = on.1 in inr (on.0, cc)

pub cut_last : {A : Type 0} (xs ys zs : List A) (x y : A) → xs ++ x ∷ [] ≡ ys ++ y ∷ zs → IsCut xs ys zs x y
cut_last [] [] zs x y e = inl (refl, (cc), (cc))
cut_last [] (b ∷ ys) zs x y e = let e' : x ∷ [] ≡ b ∷ (ys ++ y ∷ zs) = e in absurd (some_behind ys zs y (cc))
cut_last (a ∷ xs) [] zs x y e = let e' : a ∷ (xs ++ x ∷ []) ≡ y ∷ zs = e in let head : a ≡ y = cc in inr (xs, ap (λ z. z ∷ xs) head)
cut_last (a ∷ xs) (b ∷ ys) zs x y e =
    let e' : a ∷ (xs ++ x ∷ []) ≡ b ∷ (ys ++ y ∷ zs) = e in
    let tail : xs ++ x ∷ [] ≡ ys ++ y ∷ zs = cc in
    cut_on a b xs ys zs x y (cc) (cut_last xs ys zs x y tail)

-- ---- what each may

pub stands_more : (start : Start) (xs : List Record) (x : Record) → EachStands start xs → MayStand start xs x → EachStands start (xs ++ x ∷ [])
stands_more start xs x each may = λ ys zs y e.
    elim (cut_last xs ys zs x y e) [
      | inl same ↦ subst (λ (l : List Record). MayStand start l y) same.0 (subst (MayStand start xs) same.1 may)
      | inr on ↦ each ys on.0 y on.1
    ]

pub stands_none : (start : Start) → EachStands start []
stands_none start = λ ys zs y e. absurd (some_behind ys zs y e)

-- one that stands in the middle of such records
pub stands_at : (start : Start) (all ys zs : List Record) (y : Record) → EachStands start all → all ≡ ys ++ y ∷ zs → MayStand start ys y
stands_at start all ys zs y each e = each ys zs y e

pub all_at : (P : Record → Type 0) (all ys zs : List Record) (y : Record) → All P all → all ≡ ys ++ y ∷ zs → P y
all_at P all ys zs y each e = within P ys zs y (subst (All P) e each)
  where
    within : (P : Record → Type 0) (ys zs : List Record) (y : Record) → All P (ys ++ y ∷ zs) → P y
    within P [] zs y each = All-head P y zs each
    within P (x ∷ ys) zs y each = within P ys zs y (All-tail P x (ys ++ y ∷ zs) each)

pub all_more : (P : Record → Type 0) (xs : List Record) (x : Record) → All P xs → P x → All P (xs ++ x ∷ [])
all_more P xs x each one = All-append P xs (x ∷ []) each (All-cons P x [] one (All-nil P))

-- ---- bytes

pub spelled_more : (xs : List Record) (x : Record) (rest : List ℕ) → spellings_of (xs ++ x ∷ []) ++ rest ≡ spellings_of xs ++ (spelling_of x ++ rest)
spelled_more [] x rest = ap (λ b. b ++ rest) (append-nil (spelling_of x))
spelled_more (y ∷ xs) x rest =
    append_assoc (spelling_of y) (spellings_of (xs ++ x ∷ [])) rest
    ∙ (ap (λ b. spelling_of y ++ b) (spelled_more xs x rest) ∙ sym (append_assoc (spelling_of y) (spellings_of xs) (spelling_of x ++ rest)))

pub none_spelled : (xs : List Record) (rest : List ℕ) → [] ≡ spellings_of xs ++ rest → xs ≡ []
none_spelled [] rest e = refl
none_spelled (comes_in f ∷ xs) rest e = let e' : [] ≡ 0 ∷ ((spelling f ++ spellings_of xs) ++ rest) = e in cc
none_spelled (served a ∷ xs) rest e = let e' : [] ≡ 1 ∷ ((word_of a ++ spellings_of xs) ++ rest) = e in cc
none_spelled (goes_out f ∷ xs) rest e = let e' : [] ≡ 2 ∷ ((spelling f ++ spellings_of xs) ++ rest) = e in cc
none_spelled (ends ∷ xs) rest e = let e' : [] ≡ 3 ∷ (spellings_of xs ++ rest) = e in cc

-- of two lists of records that begin the same bytes the shorter is a front of the other, and what the other has more stands behind it
abbrev pub GoesFurther : List Record → List Record → List ℕ → List ℕ → Type 0
GoesFurther xs ys p q = (zs : List Record) × (ys ≡ xs ++ zs) × (p ≡ spellings_of zs ++ q)

further_on : (x y : Record) (xs ys : List Record) (p q : List ℕ) → x ≡ y → GoesFurther xs ys p q → GoesFurther (x ∷ xs) (y ∷ ys) p q
further_on x y xs ys p q head on = let tail = on.1 in (on.0, cc, on.2)

pub cut_bytes : (xs ys : List Record) (p q : List ℕ) → All IsRecord xs → All IsRecord ys → spellings_of xs ++ p ≡ spellings_of ys ++ q
    → GoesFurther xs ys p q ⊎ GoesFurther ys xs q p
cut_bytes [] ys p q hx hy e = inl (ys, refl, e)
cut_bytes (x ∷ xs) [] p q hx hy e = inr (x ∷ xs, refl, sym e)
cut_bytes (x ∷ xs) (y ∷ ys) p q hx hy e =
    let joined : spelling_of x ++ (spellings_of xs ++ p) ≡ spelling_of y ++ (spellings_of ys ++ q) =
    sym (append_assoc (spelling_of x) (spellings_of xs) p) ∙ (e ∙ append_assoc (spelling_of y) (spellings_of ys) q) in
    let same = one_front x y (spellings_of xs ++ p) (spellings_of ys ++ q) (All-head IsRecord x xs hx) (All-head IsRecord y ys hy) joined in
    elim (cut_bytes xs ys p q (All-tail IsRecord x xs hx) (All-tail IsRecord y ys hy) same.1) [
      | inl on ↦ inl (further_on x y xs ys p q same.0 on)
      | inr on ↦ inr (further_on y x ys xs q p (sym same.0) on)
    ]
