-- The one pass of deaths: what it adds, and that it reaches every endpoint that dies.
use Rattle.std.proofs.Common.{◌≡◌, ℕ, ◌<◌, ◌==◌, ◌||◌, ◌⊎◌, Bool, true, false, if◌then◌else◌, List, [], ◌∷◌, ◌++◌, All, AllPairs, Contains, refl, sym, ◌∙◌, subst, inl, inr, arith}
use Rattle.std.proofs.lemmas.Bool.{or_cases, or_left, or_right}
use Rattle.std.proofs.lemmas.List.Elements.{All-contains}
use Rattle.std.proofs.lemmas.List.Folds.{list_any-append}
use Rattle.link_admission.specs.Numbering.{among}
use Rattle.vfs_journal.specs.Deaths.{spread}
use Rattle.vfs_journal.specs.Entries.{Sent, endpoints_in}
use Rattle.journal_laws.proofs.Lists.{pairs-head, pairs-tail}
use Rattle.journal_laws.proofs.Members.{contains_here, contains_later, contains_cases, contains_none}

pub among-append : (n : ℕ) (xs ys : List ℕ) → among n (xs ++ ys) ≡ (among n xs || among n ys)
among-append n xs ys = list_any-append (λ m. m == n) xs ys

pub among_front : (n : ℕ) (xs ys : List ℕ) → among n xs ≡ true → among n (xs ++ ys) ≡ true
among_front n xs ys h = among-append n xs ys ∙ or_left (among n xs) (among n ys) h

pub among_back : (n : ℕ) (xs ys : List ℕ) → among n ys ≡ true → among n (xs ++ ys) ≡ true
among_back n xs ys h = among-append n xs ys ∙ or_right (among n xs) (among n ys) h

pub among_sides : (n : ℕ) (xs ys : List ℕ) → among n (xs ++ ys) ≡ true → (among n xs ≡ true) ⊎ (among n ys ≡ true)
among_sides n xs ys h = or_cases (among n xs) (among n ys) (sym (among-append n xs ys) ∙ h)

-- those that die behind an entry
abbrev passing_by : List ℕ → Sent → List ℕ
passing_by dying one = if among one.endpoint dying then dying ++ endpoints_in one else dying

keeps_by : (n : ℕ) (dying : List ℕ) (one : Sent) (b : Bool) → among n dying ≡ true → among n (if b then dying ++ endpoints_in one else dying) ≡ true
keeps_by n dying one true h = among_front n dying (endpoints_in one) h
keeps_by n dying one false h = h

-- what dies stays among the dead
pub spread_keeps : (n : ℕ) (dying : List ℕ) (ones : List Sent) → among n dying ≡ true → among n (spread dying ones) ≡ true
spread_keeps n dying [] h = h
spread_keeps n dying (one ∷ ones) h = spread_keeps n (passing_by dying one) ones (keeps_by n dying one (among one.endpoint dying) h)

-- an entry on an endpoint among these carries an endpoint
pub record IsDropped (n : ℕ) (dead : List ℕ) (ones : List Sent) : Type 0 where
  pub one : Sent
  pub there : Contains ones one
  pub on : among one.endpoint dead ≡ true
  pub with : among n (endpoints_in one) ≡ true

dropped_later : (n : ℕ) (dead : List ℕ) (one : Sent) (ones : List Sent) → IsDropped n dead ones → IsDropped n dead (one ∷ ones)
dropped_later n dead one ones h = record { one = h.one; there = contains_later h.one one ones h.there; on = h.on; with = h.with }

-- what is among the dead was so from the first, or is carried by an entry that is dropped
from_by : (n : ℕ) (dying : List ℕ) (one : Sent) (ones : List Sent) (b : Bool) → among one.endpoint dying ≡ b → among n (if b then dying ++ endpoints_in one else dying) ≡ true →
    (among n dying ≡ true) ⊎ IsDropped n (spread (if b then dying ++ endpoints_in one else dying) ones) (one ∷ ones)
from_by n dying one ones true is h = by_side (among_sides n dying (endpoints_in one) h) where
  by_side : (among n dying ≡ true) ⊎ (among n (endpoints_in one) ≡ true) → (among n dying ≡ true) ⊎ IsDropped n (spread (dying ++ endpoints_in one) ones) (one ∷ ones)
  by_side (inl h) = inl h
  by_side (inr h) = inr (record {
    one = one;
    there = contains_here one ones;
    on = spread_keeps one.endpoint (dying ++ endpoints_in one) ones (among_front one.endpoint dying (endpoints_in one) is);
    with = h;
  })
from_by n dying one ones false is h = inl h

from_either : (n : ℕ) (dying : List ℕ) (one : Sent) (ones : List Sent) → (among n (passing_by dying one) ≡ true) ⊎ IsDropped n (spread (passing_by dying one) ones) ones →
    (among n dying ≡ true) ⊎ IsDropped n (spread dying (one ∷ ones)) (one ∷ ones)
from_either n dying one ones (inl h) = at (among one.endpoint dying) refl h where
  at : (b : Bool) → among one.endpoint dying ≡ b → among n (if b then dying ++ endpoints_in one else dying) ≡ true → (among n dying ≡ true) ⊎ IsDropped n (spread (if among one.endpoint dying then dying ++ endpoints_in one else dying) ones) (one ∷ ones)
  at b is h =
      subst (λ (c : Bool). (among n dying ≡ true) ⊎ IsDropped n (spread (if c then dying ++ endpoints_in one else dying) ones) (one ∷ ones)) (sym is) (from_by n dying one ones b is h)
from_either n dying one ones (inr h) = inr (dropped_later n (spread (passing_by dying one) ones) one ones h)

pub spread_from : (n : ℕ) (dying : List ℕ) (ones : List Sent) → among n (spread dying ones) ≡ true → (among n dying ≡ true) ⊎ IsDropped n (spread dying ones) ones
spread_from n dying [] h = inl h
spread_from n dying (one ∷ ones) h = from_either n dying one ones (spread_from n (passing_by dying one) ones h)

-- ---- the pass reaches all

abbrev IsBefore : Sent → Sent → Type 0
IsBefore one other = one.place < other.place

-- an entry that is dropped stands before each entry on what it carries
abbrev pub AreCarriersFirst : List ℕ → List Sent → Type 0
AreCarriersFirst dead ones =
    (one other : Sent) → Contains ones one → Contains ones other → among one.endpoint dead ≡ true → among other.endpoint (endpoints_in one) ≡ true → one.place < other.place

-- every endpoint that a dropped entry carries dies
abbrev pub IsClosed : List ℕ → List Sent → Type 0
IsClosed dead ones = (one : Sent) → Contains ones one → among one.endpoint dead ≡ true → (n : ℕ) → among n (endpoints_in one) ≡ true → among n dead ≡ true

reached_first : (dying : List ℕ) (one : Sent) (ones : List Sent) → All (IsBefore one) ones → AreCarriersFirst (spread (passing_by dying one) ones) (one ∷ ones) →
    among one.endpoint (spread (passing_by dying one) ones) ≡ true → (n : ℕ) → among n (endpoints_in one) ≡ true → (b : Bool) → among one.endpoint dying ≡ b → among n (spread (passing_by dying one) ones) ≡ true
reached_first dying one ones behind first dead n carried true is =
    spread_keeps n (passing_by dying one) ones (subst (λ (c : Bool). among n (if c then dying ++ endpoints_in one else dying) ≡ true) (sym is) (among_back n dying (endpoints_in one) carried))
reached_first dying one ones behind first dead n carried false is = by_from (spread_from one.endpoint (passing_by dying one) ones dead) where
  by_from : (among one.endpoint (passing_by dying one) ≡ true) ⊎ IsDropped one.endpoint (spread (passing_by dying one) ones) ones → among n (spread (passing_by dying one) ones) ≡ true
  by_from (inl h) =
      let here : among one.endpoint dying ≡ true = subst (λ (c : Bool). among one.endpoint (if c then dying ++ endpoints_in one else dying) ≡ true) is h in
      let wrong : true ≡ false = sym here ∙ is in
      absurd (cc)
  by_from (inr h) =
      let before : h.one.place < one.place = first h.one one (contains_later h.one one ones h.there) (contains_here one ones) h.on h.with in
      let after : one.place < h.one.place = All-contains (IsBefore one) ones h.one behind h.there in
      absurd (omega arith)

closed_by : (dying : List ℕ) (one : Sent) (ones : List Sent) → All (IsBefore one) ones → AreCarriersFirst (spread (passing_by dying one) ones) (one ∷ ones) → IsClosed (spread (passing_by dying one) ones) ones →
    (other : Sent) → (one ≡ other) ⊎ Contains ones other → among other.endpoint (spread (passing_by dying one) ones) ≡ true → (n : ℕ) → among n (endpoints_in other) ≡ true → among n (spread (passing_by dying one) ones) ≡ true
closed_by dying one ones behind first rest other (inl e) =
    subst (λ (x : Sent). among x.endpoint (spread (passing_by dying one) ones) ≡ true → (n : ℕ) → among n (endpoints_in x) ≡ true → among n (spread (passing_by dying one) ones) ≡ true) e
    (λ dead n carried. reached_first dying one ones behind first dead n carried (among one.endpoint dying) refl)
closed_by dying one ones behind first rest other (inr h) = rest other h

pub spread_closed : (dying : List ℕ) (ones : List Sent) → AllPairs IsBefore ones → AreCarriersFirst (spread dying ones) ones → IsClosed (spread dying ones) ones
spread_closed dying [] pairs first = λ one there dead n carried. absurd (contains_none one there)
spread_closed dying (one ∷ ones) pairs first =
    let rest = spread_closed (passing_by dying one) ones (pairs-tail IsBefore one ones pairs)
    (λ a b p q. first a b (contains_later a one ones p) (contains_later b one ones q)) in
    λ other there. closed_by dying one ones (pairs-head IsBefore one ones pairs) first rest other (contains_cases other one ones there)
