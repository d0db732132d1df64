-- The members of a table, one envelope after another.
use Rattle.std.proofs.Common.{◌≡◌, ℕ, zero, suc, ◌+◌, ◌-◌, ◌*◌, ◌<◌, ◌≤◌, List, [], ◌∷◌, ◌++◌, Bool, length, take, drop, set, replicate, Option, Some, None, is_some, option_map, not, ◌&&◌, ◌||◌, Result, Ok, Err, refl, sym, ap, ◌∙◌, append_assoc, length-set, inl, inr, add-one, length-drop, get_or, true, false, arith}
use Rattle.std.proofs.lemmas.List.{drop-drop, drop-replicate, drop-set-lt, take-append-drop, take_all, take_more_set}
use Rattle.std.proofs.lemmas.Bool.{cases_lt}
use Rattle.std.proofs.Math.Seq.{set_out}
use Rattle.fidl_wire.specs.declared.reading.Outside.{Outside}
use Rattle.fidl_wire.specs.declared.faults.WireFault.{WireFault}
use Rattle.fidl_wire.specs.declared.kinds.MemberKind.{MemberKind}
use Rattle.fidl_wire.specs.declared.kinds.MemberKind.TheVariants as kind
use Rattle.fidl_wire.specs.declared.kinds.Member.{Member as MemberNow}
use Rattle.fidl_wire.specs.Layout.{Member, next_kind, later, with_member, is_required, has_required}
use Rattle.fidl_wire.specs.Told.{told, all_told}
use Rattle.fidl_wire.specs.Reading.{◌>>=◌, member_at, members_at}

abbrev pub Members : Type 0
Members = Result (List (Option Member) × Outside) WireFault

-- behind members that were read before
abbrev pub behind : List (Option Member) → Members → Members
behind vs (Ok r) = Ok (vs ++ r.0, r.1)
behind vs (Err e) = Err e

pub behind-none : (r : Members) → r ≡ behind [] r
behind-none (Ok r) = refl
behind-none (Err e) = refl

later_drop-suc : (kinds : List MemberKind) (i : ℕ) → later (drop i kinds) ≡ drop (suc i) kinds
later_drop-suc [] zero = refl
later_drop-suc [] (suc i) = refl
later_drop-suc (k ∷ ks) zero = refl
later_drop-suc (k ∷ ks) (suc i) = later_drop-suc ks i

pub later-drop : (kinds : List MemberKind) (i : ℕ) → later (drop i kinds) ≡ drop (i + 1) kinds
later-drop kinds i = rw (add-one i) (later_drop-suc kinds i)

-- what a member is, by its index
pub next_kind-drop : (kinds : List MemberKind) (i : ℕ) (d : MemberKind) → i < length kinds → next_kind (drop i kinds) ≡ get_or kinds i d
next_kind-drop [] i d h = absurd (omega arith)
next_kind-drop (k ∷ ks) zero d h = refl
next_kind-drop (k ∷ ks) (suc i) d h = next_kind-drop ks i d (omega arith)

pub next_kind-past : (kinds : List MemberKind) (i : ℕ) → length kinds ≤ i → next_kind (drop i kinds) ≡ kind.Unknown
next_kind-past [] zero h = refl
next_kind-past [] (suc i) h = refl
next_kind-past (k ∷ ks) zero h = absurd (omega arith)
next_kind-past (k ∷ ks) (suc i) h = next_kind-past ks i (omega arith)

with_member-drop : (kinds : List MemberKind) (i : ℕ) (v : Option Member) (vs : List (Option Member)) → i < length kinds → with_member (drop i kinds) v vs ≡ v ∷ vs
with_member-drop [] i v vs h = absurd (omega arith)
with_member-drop (k ∷ ks) zero v vs h = refl
with_member-drop (k ∷ ks) (suc i) v vs h = with_member-drop ks i v vs (omega arith)

with_member-past : (kinds : List MemberKind) (i : ℕ) (v : Option Member) (vs : List (Option Member)) → length kinds ≤ i → with_member (drop i kinds) v vs ≡ vs
with_member-past [] zero v vs h = refl
with_member-past [] (suc i) v vs h = refl
with_member-past (k ∷ ks) zero v vs h = absurd (omega arith)
with_member-past (k ∷ ks) (suc i) v vs h = with_member-past ks i v vs (omega arith)

-- one member more
with_member-behind : (kinds : List MemberKind) (i : ℕ) (v : Option Member) (values new : List (Option Member)) →
    ((vs : List (Option Member)) → take i values ++ with_member (drop i kinds) v vs ≡ take (i + 1) new ++ vs) → (r : Members) →
    behind (take i values) (r >>= λ rest. Ok (with_member (drop i kinds) v rest.0, rest.1)) ≡ behind (take (i + 1) new) r
with_member-behind kinds i v values new h (Ok r) = ap (λ (vs : List (Option Member)). Ok (vs, r.1)) (h r.0)
with_member-behind kinds i v values new h (Err e) = refl

-- the members behind one envelope, where that was read
after_member : (kinds : List MemberKind) (first i count : ℕ) (m : List ℕ) (o rest : Outside) (v : Option Member) → i < count →
    member_at (next_kind (drop i kinds)) (first + 8 * i) m o ≡ Ok (v, rest) →
    members_at (drop i kinds) (first + 8 * i) (count - i) m o
    ≡ (members_at (drop (i + 1) kinds) (first + 8 * (i + 1)) (count - (i + 1)) m rest >>= λ vs. Ok (with_member (drop i kinds) v vs.0, vs.1))
after_member kinds first i count m o rest v below h =
    let n : count - i ≡ suc (count - (i + 1)) = omega arith in
    let at : first + 8 * i + 8 ≡ first + 8 * (i + 1) = omega arith in
    rw (n, h, later-drop kinds i, at) refl

put_within : (kinds : List MemberKind) (i : ℕ) (v : Option Member) (values vs : List (Option Member)) → i < length values → length values ≡ length kinds →
    take i values ++ with_member (drop i kinds) v vs ≡ take (i + 1) (set values i v) ++ vs
put_within kinds i v values vs below same =
    let known_below : i < length kinds = omega arith in
    rw (with_member-drop kinds i v vs known_below, take_more_set values i v below, append_assoc) refl

put_past : (kinds : List MemberKind) (i : ℕ) (v : Option Member) (values vs : List (Option Member)) → length values ≤ i → length values ≡ length kinds →
    take i values ++ with_member (drop i kinds) v vs ≡ take (i + 1) (set values i v) ++ vs
put_past kinds i v values vs past same =
    let known_past : length kinds ≤ i = omega arith in
    rw (set_out values i v past, with_member-past kinds i v vs known_past, take_all i values past, take_all (i + 1) values (omega arith)) refl

put_member : (kinds : List MemberKind) (i : ℕ) (v : Option Member) (values vs : List (Option Member)) → length values ≡ length kinds →
    take i values ++ with_member (drop i kinds) v vs ≡ take (i + 1) (set values i v) ++ vs
put_member kinds i v values vs same =
    elim (cases_lt i (length values)) [
      | inl below ↦ put_within kinds i v values vs below same
      | inr past ↦ put_past kinds i v values vs past same
    ]

-- the loop's step
pub members-more : (kinds : List MemberKind) (first i count : ℕ) (m : List ℕ) (o rest : Outside) (v : Option Member) (values : List (Option Member)) → i < count →
    length values ≡ length kinds → member_at (next_kind (drop i kinds)) (first + 8 * i) m o ≡ Ok (v, rest) →
    behind (take i values) (members_at (drop i kinds) (first + 8 * i) (count - i) m o)
    ≡ behind (take (i + 1) (set values i v)) (members_at (drop (i + 1) kinds) (first + 8 * (i + 1)) (count - (i + 1)) m rest)
members-more kinds first i count m o rest v values below same h =
    ap (behind (take i values)) (after_member kinds first i count m o rest v below h)
    ∙ with_member-behind kinds i v values (set values i v) (λ vs. put_member kinds i v values vs same) (members_at (drop (i + 1) kinds) (first + 8 * (i + 1)) (count - (i + 1)) m rest)

-- what was not put is none
pub none-more : (i : ℕ) (v : Option Member) (values : List (Option Member)) → drop i values ≡ replicate (length values - i) None →
    drop (i + 1) (set values i v) ≡ replicate (length (set values i v) - (i + 1)) None
none-more i v values h =
    let one : drop (i + 1) values ≡ drop 1 (drop i values) = sym (drop-drop 1 i values) in
    let less : length values - i - 1 ≡ length values - (i + 1) = omega arith in
    rw (drop-set-lt (i + 1) values i v (omega arith), length-set, one, h, drop-replicate {X = Option Member} 1 (length values - i) None, less) refl

-- a fault at an envelope is the fault of all
pub members-fault : (kinds : List MemberKind) (first i count : ℕ) (m : List ℕ) (o : Outside) (e : WireFault) (values : List (Option Member)) → i < count →
    member_at (next_kind (drop i kinds)) (first + 8 * i) m o ≡ Err e →
    behind (take i values) (members_at (drop i kinds) (first + 8 * i) (count - i) m o) ≡ Err e
members-fault kinds first i count m o e values below h =
    let n : count - i ≡ suc (count - (i + 1)) = omega arith in
    rw (n, h) refl

-- behind the last envelope
pub members-all : (kinds : List MemberKind) (at i : ℕ) (m : List ℕ) (o : Outside) (values : List (Option Member)) → length values ≡ length kinds →
    drop i values ≡ replicate (length values - i) None →
    behind (take i values) (members_at (drop i kinds) at (i - i) m o) ≡ Ok (values, o)
members-all kinds at i m o values same none =
    let n : i - i ≡ 0 = omega arith in
    let left : length (drop i kinds) ≡ length values - i = omega (arith, length-drop i kinds) in
    rw (n, left, ← none) (ap (λ (vs : List (Option Member)). Ok (vs, o)) (take-append-drop i values))

-- ---- what members have, in memory and without it

pub told-put : (values : List (Option MemberNow)) (i : ℕ) (v : Option MemberNow) → all_told (set values i v) ≡ set (all_told values) i (option_map told v)
told-put [] i v = refl
told-put (w ∷ ws) zero v = refl
told-put (w ∷ ws) (suc i) v = ap (λ (vs : List (Option Member)). option_map told w ∷ vs) (told-put ws i v)

pub told-none : (n : ℕ) → all_told (replicate n None) ≡ replicate n None
told-none zero = refl
told-none (suc n) = ap (λ (vs : List (Option Member)). None ∷ vs) (told-none n)

-- ---- the members that have to be there

is_some-told : (v : Option MemberNow) → is_some (option_map told v) ≡ is_some v
is_some-told None = refl
is_some-told (Some x) = refl

required_suc : (kinds : List MemberKind) (values : List (Option MemberNow)) (i : ℕ) (d : MemberKind) → i < length kinds → length kinds ≡ length values →
    has_required (drop i kinds) (all_told (drop i values)) ≡ ((not (is_required (get_or kinds i d)) || is_some (get_or values i None)) && has_required (drop (suc i) kinds) (all_told (drop (suc i) values)))
required_suc [] values i d below same = absurd (omega arith)
required_suc (l ∷ ks) [] i d below same = absurd (omega arith)
required_suc (l ∷ ks) (w ∷ ws) zero d below same = rw (is_some-told w) refl
required_suc (l ∷ ks) (w ∷ ws) (suc i) d below same = required_suc ks ws i d (omega arith) (omega arith)

-- the members from an index on are there where it is, or needn't be, and those behind it are
pub required-more : (kinds : List MemberKind) (values : List (Option MemberNow)) (i : ℕ) (d : MemberKind) → i < length kinds → length kinds ≡ length values →
    has_required (drop i kinds) (all_told (drop i values)) ≡ ((not (is_required (get_or kinds i d)) || is_some (get_or values i None)) && has_required (drop (i + 1) kinds) (all_told (drop (i + 1) values)))
required-more kinds values i d below same = rw (add-one i) (required_suc kinds values i d below same)

pub needed-there : (v : Option MemberNow) (k : MemberKind) (rest : Bool) → is_some v ≡ true → rest ≡ ((not (is_required k) || is_some v) && rest)
needed-there v k rest h = rw h (either (not (is_required k)))
  where
    either : (b : Bool) → rest ≡ ((b || true) && rest)
    either true = refl
    either false = refl

pub needed-not : (v : Option MemberNow) (k : MemberKind) (rest : Bool) → is_required k ≡ false → rest ≡ ((not (is_required k) || is_some v) && rest)
needed-not v k rest h = rw h refl
