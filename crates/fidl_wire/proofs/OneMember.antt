-- A table whose member 1 alone is known has there what its kind says.
use Rattle.std.proofs.Common.{◌≡◌, ℕ, zero, suc, ◌+◌, ◌-◌, ◌*◌, ◌&&◌, ◌==◌, Bool, true, false, cond, nat_le, List, [], ◌∷◌, length, drop, get_or, Option, Some, None, option_map, Result, Ok, Err, refl, sym, ap, ◌∙◌, subst}
use Rattle.std.specs.Borrow.{Bor}
use Rattle.fidl_wire.specs.declared.reading.Outside.{Outside}
use Rattle.fidl_wire.specs.declared.faults.WireFault.{WireFault}
use Rattle.fidl_wire.specs.declared.faults.WireWhat.TheVariants.{Count, Envelope}
use Rattle.fidl_wire.specs.declared.kinds.Member.{Member as MemberNow}
use Rattle.fidl_wire.specs.declared.kinds.Member.TheVariants as now
use Rattle.fidl_wire.specs.declared.kinds.MemberKind.{MemberKind}
use Rattle.fidl_wire.specs.declared.kinds.MemberKind.TheVariants as kind
use Rattle.fidl_names.specs.Numbers.{number_at}
use Rattle.fidl_wire.specs.Cursor.{Cursor}
use Rattle.fidl_wire.specs.Headers.{fault}
use Rattle.fidl_wire.specs.Layout.{Item, Member, a_number, a_vector, table, members, has_required}
use Rattle.fidl_wire.specs.Reading.{◌>>=◌, check, bytes_at, handles_at, is_absent, entered, skipped, before_list, list_cell, inline_at, count_at, passed, present_member, member_at, members_at, table_at, table_cell, cell_at}
use Rattle.fidl_wire.specs.Told.{told, all_told}

bind_ok : {A B : Type 0} → (r : Result A WireFault) (f : A → Result B WireFault) (b : B) → (r >>= f) ≡ Ok b → (a : A) × (r ≡ Ok a) × (f a ≡ Ok b)
bind_ok (Ok a) f b h = (a, refl, h)
bind_ok (Err e) f b h = absurd (cc)

-- what is there is of its kind
abbrev IsOfKind : MemberKind → Option Member → Type 0
IsOfKind k None = Unit {0}
IsOfKind k (Some (a_number x)) = (required : Bool) × (k ≡ kind.Number required)
IsOfKind k (Some (a_vector xs)) = (required : Bool) × (k ≡ kind.Bytes required)

present_kind : (k : MemberKind) (at : ℕ) (m : List ℕ) (o : Outside) (r : Option Member × Outside) → present_member k at m o ≡ Ok r → IsOfKind k r.0
present_kind kind.Unknown at m o r h =
    let rest = bind_ok (skipped at m o) (λ rest. Ok (None, rest)) r h in
    let none : None ≡ r.0 = cc in
    subst (IsOfKind kind.Unknown) none tt
present_kind (kind.Number required) at m o r h =
    let last : Unit {0} → Result (Option Member × Outside) WireFault = λ _. Ok (Some (a_number (number_at 8 o.out m)), record o { out = o.out + 8 }) in
    let in_form = bind_ok (entered at 8 m o) (λ _. check ((bytes_at at m == 8) && (handles_at at m == 0)) (fault at Envelope) >>= last) r h in
    let counted = bind_ok (check ((bytes_at at m == 8) && (handles_at at m == 0)) (fault at Envelope)) last r in_form.2 in
    let got : Some (a_number (number_at 8 o.out m)) ≡ r.0 = cc in
    subst (IsOfKind (kind.Number required)) got (required, refl)
present_kind (kind.Bytes required) at m o r h =
    let counts : List ℕ × Cursor → Bool = λ list. (o.out + bytes_at at m == list.1.out) && (handles_at at m == 0) in
    let last : List ℕ × Cursor → Option Member × Outside = λ list. (Some (a_vector list.0), record o { out = list.1.out }) in
    let in_form = bind_ok (entered at 16 m o) (λ _. list_cell false (before_list m o.out) >>= λ list. check (counts list) (fault at Envelope) >>= λ _. Ok (last list)) r h in
    let read = bind_ok (list_cell false (before_list m o.out)) (λ list. check (counts list) (fault at Envelope) >>= λ _. Ok (last list)) r in_form.2 in
    let counted = bind_ok (check (counts read.0) (fault at Envelope)) (λ _. Ok (last read.0)) r read.2 in
    let got : Some (a_vector read.0.0) ≡ r.0 = cc in
    subst (IsOfKind (kind.Bytes required)) got (required, refl)

member_kind : (k : MemberKind) (at : ℕ) (m : List ℕ) (o : Outside) (r : Option Member × Outside) → member_at k at m o ≡ Ok r → IsOfKind k r.0
unfolding member_at
member_kind k at m o r =
    elim (is_absent at m) as (λ b. cond b (Ok (None, o)) (present_member k at m o) ≡ Ok r → IsOfKind k r.0) [
      | true ↦ λ h. let none : None ≡ r.0 = cc in subst (IsOfKind k) none tt
      | false ↦ λ h. present_kind k at m o r h
    ]

-- the first of some members is of the first kind
FirstIs : MemberKind → List (Option Member) → Type 0
FirstIs k vs = (v : Option Member) × (ws : List (Option Member)) × (vs ≡ v ∷ ws) × IsOfKind k v

first_kind : (k : MemberKind) (n at : ℕ) (m : List ℕ) (o : Outside) (r : List (Option Member) × Outside) → members_at (k ∷ []) at n m o ≡ Ok r → FirstIs k r.0
unfolding FirstIs
first_kind k zero at m o r h =
    let none : r.0 ≡ None ∷ [] = cc in (None, [], none, tt)
first_kind k (suc n) at m o r h =
    let first = bind_ok (member_at k at m o) (λ first. members_at [] (at + 8) n m first.1 >>= λ rest. Ok (first.0 ∷ rest.0, rest.1)) r h in
    let rest = bind_ok (members_at [] (at + 8) n m first.0.1) (λ rest. Ok (first.0.0 ∷ rest.0, rest.1)) r first.2 in
    let vs : r.0 ≡ first.0.0 ∷ rest.0.0 = cc in
    (first.0.0, rest.0.0, vs, member_kind k at m o first.0 first.1)

head_same : {A : Type 0} → (a b : A) (xs ys : List A) → a ∷ xs ≡ b ∷ ys → a ≡ b
head_same a b xs ys h = cc

members_same : (vs ws : List (Option Member)) → members vs ≡ members ws → vs ≡ ws
members_same vs ws h = cc

-- so what a table's one member has is of its kind, and is there where it has to be
record IsOne (k : MemberKind) (vs : List (Option Member)) : Type 0 where
  first : FirstIs k vs
  there : has_required (k ∷ []) vs ≡ true

check_ok : {B : Type 0} → (b : Bool) (e : WireFault) (f : Unit {0} → Result B WireFault) (r : B) → (check b e >>= f) ≡ Ok r → (b ≡ true) × (f tt ≡ Ok r)
check_ok true e f r h = (refl, h)
check_ok false e f r h = absurd (cc)

table_one : (k : MemberKind) (c : Cursor) (r : Item × Cursor) → cell_at (table (k ∷ [])) c ≡ Ok r → (vs : List (Option Member)) × (r.0 ≡ members vs) × IsOne k vs
unfolding cell_at
table_one k c r h =
    let kinds : List MemberKind = k ∷ [] in
    let cell = bind_ok (table_cell kinds c) (λ x. Ok (members x.0, x.1)) r h in
    let place = bind_ok (inline_at 16 c) (λ at. count_at at c >>= λ count. table_at kinds at count c) cell.0 cell.1 in
    let at = place.0 in
    let count = bind_ok (count_at at c) (λ count. table_at kinds at count c) cell.0 place.2 in
    let n = count.0 in
    let start : Outside = record { out = c.out + 8 * n; left = length c.handles } in
    let last : List (Option Member) × Outside → List (Option Member) × Cursor = λ m. (m.0, record (passed 16 c) { out = m.1.out; handles = drop (length c.handles - m.1.left) c.handles }) in
    let room = check_ok (nat_le (c.out + 8 * n) (length c.message)) (fault at Count) (λ _. members_at kinds c.out n c.message start >>= λ m. check (has_required kinds m.0) (fault at Envelope) >>= λ _. Ok (last m)) cell.0 count.2 in
    let read = bind_ok (members_at kinds c.out n c.message start) (λ m. check (has_required kinds m.0) (fault at Envelope) >>= λ _. Ok (last m)) cell.0 room.1 in
    let needed = check_ok (has_required kinds read.0.0) (fault at Envelope) (λ _. Ok (last read.0)) cell.0 read.2 in
    let same : cell.0.0 ≡ read.0.0 = ap (λ (v : List (Option Member) × Cursor). v.0) (sym (ok_same (last read.0) cell.0 (Ok (last read.0)) refl needed.1)) in
    (read.0.0, ap (λ (v : Item × Cursor). v.0) (sym (ok_same (members cell.0.0, cell.0.1) r (Ok (members cell.0.0, cell.0.1)) refl cell.2)) ∙ ap members same, record { first = first_kind k n c.out c.message start read.0 read.1; there = needed.0 })
  where
    ok_same : {A : Type 0} → (a b : A) (r : Result A WireFault) → r ≡ Ok a → r ≡ Ok b → a ≡ b
    ok_same a b r g h = cc

wrong_kind : (required : Bool) (values : List (Option MemberNow)) (b : Bor (List ℕ)) → get_or values 0 None ≡ Some (now.Bytes b) → FirstIs (kind.Number required) (all_told values) → ⊥
unfolding FirstIs
wrong_kind required [] b there f = cc
wrong_kind required (w ∷ ws) b there f =
    let same : Some (a_vector b.now) ≡ f.0 = sym (ap (option_map told) there) ∙ head_same (option_map told w) f.0 (all_told ws) f.1 f.2 in
    let kinds : IsOfKind (kind.Number required) (Some (a_vector b.now)) = subst (IsOfKind (kind.Number required)) (sym same) f.3 in
    let bad : kind.Number required ≡ kind.Bytes kinds.0 = kinds.1 in
    cc

-- a table's one member that is a number isn't bytes
pub no_bytes : (required : Bool) (c d : Cursor) (values : List (Option MemberNow)) (b : Bor (List ℕ)) → get_or values 0 None ≡ Some (now.Bytes b) →
    cell_at (table (kind.Number required ∷ [])) c ≡ Ok (members (all_told values), d) → ⊥
no_bytes required c d values b there h =
    let one = table_one (kind.Number required) c (members (all_told values), d) h in
    let vs : all_told values ≡ one.0 = members_same (all_told values) one.0 one.1 in
    wrong_kind required values b there (subst (FirstIs (kind.Number required)) (sym vs) one.2.first)

right_kind : (values : List (Option MemberNow)) → IsOne (kind.Bytes true) (all_told values) → (b : Bor (List ℕ)) × (get_or values 0 None ≡ Some (now.Bytes b))
unfolding FirstIs
right_kind [] f = let e = f.first.2 in absurd (cc)
right_kind (None ∷ ws) f = let e = f.there in absurd (cc)
right_kind (Some (now.Number x) ∷ ws) f =
    let same : Some (a_number x) ≡ f.first.0 = head_same (Some (a_number x)) f.first.0 (all_told ws) f.first.1 f.first.2 in
    let kinds : IsOfKind (kind.Bytes true) (Some (a_number x)) = subst (IsOfKind (kind.Bytes true)) (sym same) f.first.3 in
    let bad : kind.Bytes true ≡ kind.Number kinds.0 = kinds.1 in
    absurd (cc)
right_kind (Some (now.Bytes b) ∷ ws) f = (b, refl)

-- one that is bytes and has to be there isn't a number, and isn't absent
pub is_bytes : (c d : Cursor) (values : List (Option MemberNow)) → cell_at (table (kind.Bytes true ∷ [])) c ≡ Ok (members (all_told values), d) → (b : Bor (List ℕ)) × (get_or values 0 None ≡ Some (now.Bytes b))
is_bytes c d values h =
    let one = table_one (kind.Bytes true) c (members (all_told values), d) h in
    let vs : all_told values ≡ one.0 = members_same (all_told values) one.0 one.1 in
    right_kind values (subst (IsOne (kind.Bytes true)) (sym vs) one.2)
