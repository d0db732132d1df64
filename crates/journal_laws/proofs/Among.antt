-- Numbers among others, and the endpoints that entries carry.
use Rattle.std.proofs.Common.{◌≡◌, ℕ, ◌<◌, ◌==◌, ◌||◌, ◌⊎◌, Bool, true, false, is_some, List, [], ◌∷◌, ◌++◌, Option, Some, None, find, flat_map, All, AllPairs, Contains, refl, sym, ap, ◌∙◌, subst, inl, inr, arith}
use Rattle.std.specs.List.{list_any}
use Rattle.std.proofs.lemmas.Bool.{eqb-true, eq-eqb, or_cases}
use Rattle.fidl_names.specs.HandleNumber.{is_client}
use Rattle.link_admission.specs.Numbering.{among}
use Rattle.vfs_journal.specs.Entries.{Sent, endpoints_in, handles_of}
use Rattle.journal_laws.proofs.Lists.{pairs-head, pairs-tail}
use Rattle.journal_laws.proofs.Members.{contains_here, contains_later, contains_cases, contains_none, kept, kept_of, found, none_found}
use Rattle.journal_laws.proofs.Spreading.{among_front, among_back, among_sides}
use Rattle.std.proofs.lemmas.List.Elements.{All-contains}

-- ---- tests of a list

any_by : {X : Type 0} (p : X → Bool) (y : X) (xs : List X) → (list_any p xs ≡ true → (x : X) × Contains xs x × (p x ≡ true)) → (p y ≡ true) ⊎ (list_any p xs ≡ true) → (x : X) × Contains (y ∷ xs) x × (p x ≡ true)
any_by p y xs rest (inl e) = (y, contains_here y xs, e)
any_by p y xs rest (inr h) = let later = rest h in (later.0, contains_later later.0 y xs later.1, later.2)

-- where one passes, there is one that does
pub one_passes : {X : Type 0} (p : X → Bool) (xs : List X) → list_any p xs ≡ true → (x : X) × Contains xs x × (p x ≡ true)
one_passes p [] h = absurd (cc)
one_passes p (y ∷ xs) h = any_by p y xs (one_passes p xs) (or_cases (p y) (list_any p xs) h)

passes_by : {X : Type 0} (p : X → Bool) (x y : X) (xs : List X) → (Contains xs x → list_any p xs ≡ true) → p x ≡ true → (y ≡ x) ⊎ Contains xs x → (p y || list_any p xs) ≡ true
passes_by p x y xs rest passes (inl e) = ap (λ (b : Bool). b || list_any p xs) (ap p e ∙ passes)
passes_by p x y xs rest passes (inr h) = ap (λ (b : Bool). p y || b) (rest h) ∙ or_true (p y) where
  or_true : (b : Bool) → (b || true) ≡ true
  or_true true = refl
  or_true false = refl

pub passes_any : {X : Type 0} (p : X → Bool) (xs : List X) (x : X) → Contains xs x → p x ≡ true → list_any p xs ≡ true
passes_any p [] x h passes = absurd (contains_none x h)
passes_any p (y ∷ xs) x h passes = passes_by p x y xs (λ g. passes_any p xs x g passes) passes (contains_cases x y xs h)

pub member_of : (n : ℕ) (ns : List ℕ) → among n ns ≡ true → Contains ns n
member_of n ns h =
    let one = one_passes (λ m. m == n) ns h in
    subst (Contains ns) (eqb-true one.0 n one.2) one.1

pub among_of : (n : ℕ) (ns : List ℕ) → Contains ns n → among n ns ≡ true
among_of n ns h = passes_any (λ m. m == n) ns n h (eq-eqb n n refl)

-- ---- what an entry carries

pub carried_is : (one : Sent) (n : ℕ) → among n (endpoints_in one) ≡ true → (is_client n ≡ true) × (among n (handles_of one.sending) ≡ true)
carried_is one n h =
    let at = kept_of is_client (handles_of one.sending) n (member_of n (endpoints_in one) h) in
    (at.1, among_of n (handles_of one.sending) at.0)

pub carried_from : (one : Sent) (n : ℕ) → is_client n ≡ true → among n (handles_of one.sending) ≡ true → among n (endpoints_in one) ≡ true
carried_from one n client h = among_of n (endpoints_in one) (kept is_client (handles_of one.sending) n (member_of n (handles_of one.sending) h) client)

-- ---- what entries carry

-- what one of them has
pub from_many : (f : Sent → List ℕ) (n : ℕ) (ones : List Sent) → among n (flat_map f ones) ≡ true → (x : Sent) × Contains ones x × (among n (f x) ≡ true)
from_many f n [] h = absurd (cc)
from_many f n (one ∷ ones) h = by_side (from_many f n ones) (among_sides n (f one) (flat_map f ones) h) where
  by_side : (among n (flat_map f ones) ≡ true → (x : Sent) × Contains ones x × (among n (f x) ≡ true)) → (among n (f one) ≡ true) ⊎ (among n (flat_map f ones) ≡ true) → (x : Sent) × Contains (one ∷ ones) x × (among n (f x) ≡ true)
  by_side rest (inl g) = (one, contains_here one ones, g)
  by_side rest (inr g) = let later = rest g in (later.0, contains_later later.0 one ones later.1, later.2)

pub carrier_of : (n : ℕ) (ones : List Sent) → among n (flat_map endpoints_in ones) ≡ true → (x : Sent) × Contains ones x × (among n (endpoints_in x) ≡ true)
carrier_of n ones h = from_many endpoints_in n ones h

carries_by : (n : ℕ) (x one : Sent) (ones : List Sent) → (Contains ones x → among n (flat_map endpoints_in ones) ≡ true) → among n (endpoints_in x) ≡ true → (one ≡ x) ⊎ Contains ones x → among n (endpoints_in one ++ flat_map endpoints_in ones) ≡ true
carries_by n x one ones rest h (inl e) = among_front n (endpoints_in one) (flat_map endpoints_in ones) (ap (λ (s : Sent). among n (endpoints_in s)) e ∙ h)
carries_by n x one ones rest h (inr there) = among_back n (endpoints_in one) (flat_map endpoints_in ones) (rest there)

pub carrier_travels : (n : ℕ) (ones : List Sent) (x : Sent) → Contains ones x → among n (endpoints_in x) ≡ true → among n (flat_map endpoints_in ones) ≡ true
carrier_travels n [] x there h = absurd (contains_none x there)
carrier_travels n (one ∷ ones) x there h = carries_by n x one ones (λ g. carrier_travels n ones x g h) h (contains_cases x one ones there)

-- ---- what is found

pub some_found : {X : Type 0} (p : X → Bool) (xs : List X) → is_some (find p xs) ≡ true → (x : X) × (find p xs ≡ Some x) × Contains xs x × (p x ≡ true)
some_found {X} p xs h = by_found (find p xs) refl h where
  by_found : (o : Option X) → find p xs ≡ o → is_some o ≡ true → (x : X) × (find p xs ≡ Some x) × Contains xs x × (p x ≡ true)
  by_found None e h = absurd (cc)
  by_found (Some x) e h = let at = found p xs x e in (x, e, at.0, at.1)

pub is_found : {X : Type 0} (p : X → Bool) (xs : List X) (x : X) → Contains xs x → p x ≡ true → is_some (find p xs) ≡ true
is_found {X} p xs x there passes = by_found (find p xs) refl where
  by_found : (o : Option X) → find p xs ≡ o → is_some (find p xs) ≡ true
  by_found None e = let wrong : false ≡ true = sym (none_found p xs x e there) ∙ passes in absurd (cc)
  by_found (Some y) e = ap is_some e

-- ---- entries of one place are one

one_by : (a b x : Sent) (xs : List Sent) → All (λ y. x.place < y.place) xs → (Contains xs a → Contains xs b → a ≡ b) → a.place ≡ b.place → (x ≡ a) ⊎ Contains xs a → (x ≡ b) ⊎ Contains xs b → a ≡ b
one_by a b x xs behind rest same (inl p) (inl q) = sym p ∙ q
one_by a b x xs behind rest same (inl p) (inr q) =
    let after : x.place < b.place = All-contains (λ y. x.place < y.place) xs b behind q in
    let equal : x.place ≡ a.place = ap (λ (s : Sent). s.place) p in
    absurd (omega arith)
one_by a b x xs behind rest same (inr p) (inl q) =
    let after : x.place < a.place = All-contains (λ y. x.place < y.place) xs a behind p in
    let equal : x.place ≡ b.place = ap (λ (s : Sent). s.place) q in
    absurd (omega arith)
one_by a b x xs behind rest same (inr p) (inr q) = rest p q

pub one_place : (xs : List Sent) (a b : Sent) → AllPairs (λ x y. x.place < y.place) xs → Contains xs a → Contains xs b → a.place ≡ b.place → a ≡ b
one_place [] a b pairs p q same = absurd (contains_none a p)
one_place (x ∷ xs) a b pairs p q same =
    one_by a b x xs (pairs-head (λ x y. x.place < y.place) x xs pairs) (λ g h. one_place xs a b (pairs-tail (λ x y. x.place < y.place) x xs pairs) g h same) same
    (contains_cases a x xs p) (contains_cases b x xs q)
