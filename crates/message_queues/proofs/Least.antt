-- The heads of a server: those in line beside the others.
use Rattle.std.proofs.Common.{◌≡◌, ℕ, zero, suc, ◌+◌, ◌<◌, ◌≤◌, ◌==◌, ◌++◌, Bool, true, false, not, cond, List, [], ◌∷◌, length, refl, sym, ap, ◌∙◌, subst, arith}
use Rattle.std.specs.Prelude.{Option, Some, None, IsSome, IsSomeAnd, drop, get_or, if◌then◌else◌, nat_lt, slice_get}
use Rattle.std.specs.BTreeMap as tree
use Rattle.std.specs.Map.{lookup}
use Rattle.std.specs.BTreeMap.{BTreeMap, is_at, UpdatesBy, IsLowerBound, btree_map_len}
use Rattle.std.specs.FinMap as finite
use Rattle.std.specs.Ordering.{eq_by_cmp, is_gt, nat_cmp}
use Rattle.std.proofs.lemmas.Bool.{eq-eqb, eqb-true}
use Rattle.std.proofs.lemmas.Bool.Decides.{nat_tests}
use Rattle.std.proofs.lemmas.Cmp.{nat_cmp_total}
use Rattle.std.proofs.lemmas.Map.Lookups.{exact_unsigned}
use Rattle.message_queues.specs.Steps.{AreBefore, AreBehind, Heads, IsLeast, IsRising, heads_with, older, without_place}
use Rattle.message_queues.proofs.Finite.{Same, one_key, two_keys, same_or_other, same_maps, get-entries, get-put_here, get-put_other, map_cut, map_put}

same_place : (q k : ℕ) → Same nat_cmp q k
same_place q k = same_or_other nat_cmp_total exact_unsigned q k

same : (m n : Heads) → ((q : ℕ) → finite.get m q ≡ finite.get n q) → m ≡ n
same m n is = same_maps nat_cmp_total exact_unsigned m n is

got_put : (m : Heads) (key : ℕ) (x : ℕ) (q : ℕ) → finite.get (finite.insert m key x) q ≡ cond (eq_by_cmp nat_cmp q key) (Some x) (finite.get m q)
got_put m key x q = finite.get-insert nat_cmp_total m key x q

got_cut : (m : Heads) (key q : ℕ) → finite.get (finite.remove m key) q ≡ cond (eq_by_cmp nat_cmp q key) None (finite.get m q)
got_cut m key q = finite.get-remove nat_cmp_total m key q

-- ---- one key put in or taken out beside another

put_again : (m : Heads) (key : ℕ) (x y : ℕ) → finite.insert (finite.insert m key x) key y ≡ finite.insert m key y
put_again m key x y = same _ _ (λ q. elim (same_place q key) [
  | one_key e b ↦ rw (got_put (finite.insert m key x) key y q, got_put m key y q, b) refl
  | two_keys e b ↦ rw (got_put (finite.insert m key x) key y q, got_put m key y q, got_put m key x q, b) refl
])

put_apart : (m : Heads) (one other : ℕ) (x y : ℕ) → ¬ (one ≡ other) → finite.insert (finite.insert m one x) other y ≡ finite.insert (finite.insert m other y) one x
put_apart m one other x y apart = same _ _ (λ q. elim (same_place q one) [
  | one_key e b ↦ elim (same_place q other) [
    | one_key f c ↦ absurd (apart (sym e ∙ f))
    | two_keys f c ↦ rw (got_put (finite.insert m one x) other y q, got_put (finite.insert m other y) one x q, got_put m one x q, b, c) refl
  ]
  | two_keys e b ↦ rw (got_put (finite.insert m one x) other y q, got_put (finite.insert m other y) one x q, got_put m one x q, got_put m other y q, b) refl
])

cut_again : (m : Heads) (key : ℕ) (x : ℕ) → finite.remove (finite.insert m key x) key ≡ finite.remove m key
cut_again m key x = same _ _ (λ q. elim (same_place q key) [
  | one_key e b ↦ rw (got_cut (finite.insert m key x) key q, got_cut m key q, b) refl
  | two_keys e b ↦ rw (got_cut (finite.insert m key x) key q, got_cut m key q, got_put m key x q, b) refl
])

cut_apart : (m : Heads) (one other : ℕ) (x : ℕ) → ¬ (one ≡ other) → finite.remove (finite.insert m one x) other ≡ finite.insert (finite.remove m other) one x
cut_apart m one other x apart = same _ _ (λ q. elim (same_place q one) [
  | one_key e b ↦ elim (same_place q other) [
    | one_key f c ↦ absurd (apart (sym e ∙ f))
    | two_keys f c ↦ rw (got_cut (finite.insert m one x) other q, got_put (finite.remove m other) one x q, got_put m one x q, b, c) refl
  ]
  | two_keys e b ↦ rw (got_cut (finite.insert m one x) other q, got_put (finite.remove m other) one x q, got_put m one x q, got_cut m other q, b) refl
])

-- ---- a line that rises

behind_more : (low : ℕ) (line : List (ℕ × ℕ)) (place endpoint : ℕ) → AreBehind low line → low < place → AreBehind low (line ++ (place, endpoint) ∷ [])
behind_more low [] place endpoint behind less = (less, tt)
behind_more low (head ∷ line) place endpoint behind less = (behind.0, behind_more low line place endpoint behind.1 less)

pub pushed_rises : (line : List (ℕ × ℕ)) (place endpoint : ℕ) → IsRising line → AreBefore place line → IsRising (line ++ (place, endpoint) ∷ [])
pushed_rises [] place endpoint rises before = (tt, tt)
pushed_rises (head ∷ line) place endpoint rises before = (behind_more head.0 line place endpoint rises.0 before.0, pushed_rises line place endpoint rises.1 before.1)

-- what is behind the last of a line is behind all of it
pub last_before : (line : List (ℕ × ℕ)) (at : ℕ) (last : ℕ × ℕ) (place : ℕ) → IsRising line → length line ≡ at + 1 → (get_or line at last).0 < place → AreBefore place line
last_before [] at last place rises many less = absurd (omega (arith, many))
last_before (head ∷ []) zero last place rises many less = (less, tt)
last_before (head ∷ []) (suc at) last place rises many less = absurd (omega (arith, many))
last_before (head ∷ next ∷ line) zero last place rises many less = absurd (omega (arith, many))
last_before (head ∷ next ∷ line) (suc at) last place rises many less =
    let rest = last_before (next ∷ line) at last place rises.1 (omega (arith, many)) less in
    (let one = rises.0.0 in let two = rest.0 in omega (arith, one, two), rest)

behind_low : (low place : ℕ) (line : List (ℕ × ℕ)) → low ≤ place → AreBehind place line → AreBehind low line
behind_low low place [] less behind = tt
behind_low low place (head ∷ line) less behind = (let one = behind.0 in omega (arith, one, less), behind_low low place line less behind.1)

-- ---- a line without a place

module _ (place : ℕ) where
  not_at : (head : ℕ) → ¬ (head ≡ place) → (head == place) ≡ false
  not_at head apart = grind (apart, arith, nat_tests)

  data There (head : ℕ) : Type 0 where
    there : head ≡ place → (head == place) ≡ true → There head
    elsewhere : ¬ (head ≡ place) → (head == place) ≡ false → There head

  where_is : (head : ℕ) → There head
  where_is head = elim (head == place) as (λ b. (head == place) ≡ b → There head) [
    | true ↦ λ e. there (eqb-true head place e) e
    | false ↦ λ e. elsewhere (λ is. absurd (let wrong : false ≡ true = sym e ∙ eq-eqb head place is in cc)) e
  ] refl

  abbrev kept : ℕ × ℕ → List (ℕ × ℕ) → Bool → List (ℕ × ℕ)
  kept head line b = cond (not b) (head ∷ without_place place line) (without_place place line)

  without_behind : (low : ℕ) (line : List (ℕ × ℕ)) → AreBehind low line → AreBehind low (without_place place line)
  without_behind low [] behind = tt
  without_behind low (head ∷ line) behind = elim (where_is head.0) [
    | there is b ↦ subst (λ (t : Bool). AreBehind low (kept head line t)) (sym b) (without_behind low line behind.1)
    | elsewhere apart b ↦ subst (λ (t : Bool). AreBehind low (kept head line t)) (sym b) (behind.0, without_behind low line behind.1)
  ]

  pub without_rises : (line : List (ℕ × ℕ)) → IsRising line → IsRising (without_place place line)
  without_rises [] rises = tt
  without_rises (head ∷ line) rises = elim (where_is head.0) [
    | there is b ↦ subst (λ (t : Bool). IsRising (kept head line t)) (sym b) (without_rises line rises.1)
    | elsewhere apart b ↦ subst (λ (t : Bool). IsRising (kept head line t)) (sym b) (without_behind head.0 line rises.0, without_rises line rises.1)
  ]

  -- nothing stands at a place that all are behind
  none_there : (line : List (ℕ × ℕ)) → AreBehind place line → line ≡ without_place place line
  none_there [] behind = refl
  none_there (head ∷ line) behind =
      ap (λ (rest : List (ℕ × ℕ)). head ∷ rest) (none_there line behind.1)
      ∙ ap (kept head line) (sym (not_at head.0 (λ is. absurd (let less = behind.0 in omega (arith, is, less)))))

  -- at the place of the first stands the first alone
  pub first_there : (line new : List (ℕ × ℕ)) (first : ℕ × ℕ) → IsRising line → slice_get line 0 ≡ Some first → first.0 ≡ place → new ≡ drop 1 line → new ≡ without_place place line
  first_there [] new first rises at is popped = absurd (cc)
  first_there (head ∷ line) new first rises at is popped =
      let here : head.0 ≡ place = ap (λ (one : ℕ × ℕ). one.0) (same_one head first at) ∙ is in
      popped ∙ none_there line (subst (λ (n : ℕ). AreBehind n line) here rises.0) ∙ ap (kept head line) (sym (eq-eqb head.0 place here))
    where
      same_one : (x y : ℕ × ℕ) → Some x ≡ Some y → x ≡ y
      same_one x y e = cc

  -- before the first stands none
  pub first_behind : (line : List (ℕ × ℕ)) (first : ℕ × ℕ) → IsRising line → slice_get line 0 ≡ Some first → place < first.0 → line ≡ without_place place line
  first_behind [] first rises at less = absurd (cc)
  first_behind (head ∷ line) first rises at less =
      let low : place < head.0 = let is = ap (λ (one : ℕ × ℕ). one.0) (same_one head first at) in omega (arith, is, less) in
      none_there (head ∷ line) (low, behind_low place head.0 line (omega (arith, low)) rises.0)
    where
      same_one : (x y : ℕ × ℕ) → Some x ≡ Some y → x ≡ y
      same_one x y e = cc

  -- and none in an empty line
  pub empty_line : (line : List (ℕ × ℕ)) → slice_get line 0 ≡ None → line ≡ without_place place line
  empty_line [] none = refl
  empty_line (head ∷ line) none = absurd (cc)

-- the rest of a line rises
pub popped_rises : (line new : List (ℕ × ℕ)) → IsRising line → new ≡ drop 1 line → IsRising new
popped_rises [] new rises popped = subst IsRising (sym popped) tt
popped_rises (head ∷ line) new rises popped = subst IsRising (sym popped) rises.1

-- ---- what a change of a line does to the heads

pub pushed : (line : List (ℕ × ℕ)) (others : Heads) (place endpoint : ℕ) → AreBefore place line → heads_with (line ++ (place, endpoint) ∷ []) others ≡ finite.insert (heads_with line others) place endpoint
pushed [] others place endpoint before = refl
pushed (head ∷ line) others place endpoint before =
    ap (λ m. finite.insert m head.0 head.1) (pushed line others place endpoint before.1)
    ∙ put_apart (heads_with line others) place head.0 endpoint head.1 (λ is. absurd (let less = before.0 in omega (arith, is, less)))

-- the first of a line goes to the others
moved : (head : ℕ × ℕ) (line : List (ℕ × ℕ)) (others : Heads) → AreBehind head.0 line → heads_with line (finite.insert others head.0 head.1) ≡ finite.insert (heads_with line others) head.0 head.1
moved head [] others behind = refl
moved head (next ∷ line) others behind =
    ap (λ m. finite.insert m next.0 next.1) (moved head line others behind.1)
    ∙ put_apart (heads_with line others) head.0 next.0 head.1 next.1 (λ is. absurd (let less = behind.0 in omega (arith, is, less)))

put_under : (line : List (ℕ × ℕ)) (others : Heads) (place endpoint : ℕ) → heads_with (without_place place line) (finite.insert others place endpoint) ≡ finite.insert (heads_with line others) place endpoint
put_under [] others place endpoint = refl
put_under (head ∷ line) others place endpoint =
    let rest = put_under line others place endpoint in
    let more = finite.insert others place endpoint in
    elim (where_is place head.0) [
      | there is b ↦
          ap (λ (t : Bool). heads_with (kept place head line t) more) b ∙ rest
          ∙ sym (ap (λ (n : ℕ). finite.insert (finite.insert (heads_with line others) n head.1) place endpoint) is ∙ put_again (heads_with line others) place head.1 endpoint)
      | elsewhere apart b ↦
          ap (λ (t : Bool). heads_with (kept place head line t) more) b
          ∙ ap (λ m. finite.insert m head.0 head.1) rest
          ∙ put_apart (heads_with line others) place head.0 endpoint head.1 (λ is. absurd (apart (sym is)))
    ]

cut_under : (line : List (ℕ × ℕ)) (others : Heads) (place : ℕ) → heads_with (without_place place line) (finite.remove others place) ≡ finite.remove (heads_with line others) place
cut_under [] others place = refl
cut_under (head ∷ line) others place =
    let rest = cut_under line others place in
    let fewer = finite.remove others place in
    elim (where_is place head.0) [
      | there is b ↦
          ap (λ (t : Bool). heads_with (kept place head line t) fewer) b ∙ rest
          ∙ sym (ap (λ (n : ℕ). finite.remove (finite.insert (heads_with line others) n head.1) place) is ∙ cut_again (heads_with line others) place head.1)
      | elsewhere apart b ↦
          ap (λ (t : Bool). heads_with (kept place head line t) fewer) b
          ∙ ap (λ m. finite.insert m head.0 head.1) rest
          ∙ sym (cut_apart (heads_with line others) head.0 place head.1 apart)
    ]

-- ---- the same over a map

abbrev map_of : BTreeMap ℕ ℕ → Heads
map_of m = finite.from_entries {R = nat_cmp} m.entries

-- the first of a line went to the others
pub let_one_by : (line new : List (ℕ × ℕ)) (others more : BTreeMap ℕ ℕ) (first : ℕ × ℕ) → IsRising line → slice_get line 0 ≡ Some first → UpdatesBy nat_cmp (nat_cmp first.0) others more (Some first.1) → new ≡ drop 1 line
    → heads_with new (map_of more) ≡ heads_with line (map_of others)
let_one_by [] new others more first rises at updates popped = absurd (cc)
let_one_by (head ∷ line) new others more first rises at updates popped =
    let is : head ≡ first = same_one head first at in
    ap (λ (rest : List (ℕ × ℕ)). heads_with rest (map_of more)) popped
    ∙ ap (heads_with line) (map_put nat_cmp_total exact_unsigned others more first.0 first.1 updates)
    ∙ ap (λ (one : ℕ × ℕ). heads_with line (finite.insert (map_of others) one.0 one.1)) (sym is)
    ∙ moved head line (map_of others) rises.0
  where
    same_one : (x y : ℕ × ℕ) → Some x ≡ Some y → x ≡ y
    same_one x y e = cc

pub put_others : (line new : List (ℕ × ℕ)) (others more : BTreeMap ℕ ℕ) (place endpoint : ℕ) → UpdatesBy nat_cmp (nat_cmp place) others more (Some endpoint) → new ≡ without_place place line
    → heads_with new (map_of more) ≡ finite.insert (heads_with line (map_of others)) place endpoint
put_others line new others more place endpoint updates cut =
    ap (λ (rest : List (ℕ × ℕ)). heads_with rest (map_of more)) cut
    ∙ ap (heads_with (without_place place line)) (map_put nat_cmp_total exact_unsigned others more place endpoint updates)
    ∙ put_under line (map_of others) place endpoint

pub cut_others : (line new : List (ℕ × ℕ)) (others fewer : BTreeMap ℕ ℕ) (place : ℕ) → UpdatesBy nat_cmp (nat_cmp place) others fewer None → new ≡ without_place place line
    → heads_with new (map_of fewer) ≡ finite.remove (heads_with line (map_of others)) place
cut_others line new others fewer place updates cut =
    ap (λ (rest : List (ℕ × ℕ)). heads_with rest (map_of fewer)) cut
    ∙ ap (heads_with (without_place place line)) (map_cut nat_cmp_total exact_unsigned others fewer place updates)
    ∙ cut_under line (map_of others) place

-- where nothing stands at a place, nothing is taken out there
cut_none : (m : Heads) (place : ℕ) → finite.get m place ≡ None → finite.remove m place ≡ m
cut_none m place none = same _ _ (λ q. elim (same_place q place) [
  | one_key e b ↦ rw (got_cut m place q, b) (sym (ap (finite.get m) e ∙ none))
  | two_keys e b ↦ rw (got_cut m place q, b) refl
])

-- ---- the least of all

no_some : {A : Type 0} (o : Option A) → o ≡ None → IsSome o → ⊥
no_some o none some = cc

-- what stands before all of a line stands where it stands among the others
under : (line : List (ℕ × ℕ)) (others : Heads) (q : ℕ) → AreBehind q line → finite.get (heads_with line others) q ≡ finite.get others q
under [] others q behind = refl
under (head ∷ line) others q behind =
    get-put_other nat_cmp_total exact_unsigned (heads_with line others) head.0 q head.1 (λ is. absurd (let less = behind.0 in omega (arith, is, less)))
    ∙ under line others q behind.1

bounded : (low : ℕ) (line : List (ℕ × ℕ)) (others : Heads) → ((q : ℕ) → IsSome (finite.get others q) → low ≤ q) → AreBehind low line → (q : ℕ) → IsSome (finite.get (heads_with line others) q) → low ≤ q
bounded low [] others least behind q some = least q some
bounded low (head ∷ line) others least behind q some = elim (same_place q head.0) [
  | one_key e b ↦ let less = behind.0 in omega (arith, e, less)
  | two_keys e b ↦ bounded low line others least behind.1 q (subst (λ o. IsSome o) (get-put_other nat_cmp_total exact_unsigned (heads_with line others) head.0 q head.1 e) some)
]

first_least : (head : ℕ × ℕ) (line : List (ℕ × ℕ)) (others : Heads) → AreBehind head.0 line → ((q : ℕ) → IsSome (finite.get others q) → head.0 ≤ q) → IsLeast (heads_with (head ∷ line) others) (Some head)
first_least head line others behind least = (
  get-put_here nat_cmp_total exact_unsigned (heads_with line others) head.0 head.1,
  λ q some. elim (same_place q head.0) [
    | one_key e b ↦ omega (arith, e)
    | two_keys e b ↦ bounded head.0 line others least behind q (subst (λ o. IsSome o) (get-put_other nat_cmp_total exact_unsigned (heads_with line others) head.0 q head.1 e) some)
  ],
)

other_least : (other : ℕ × ℕ) (line : List (ℕ × ℕ)) (others : Heads) → AreBehind other.0 line → IsLeast others (Some other) → IsLeast (heads_with line others) (Some other)
other_least other line others behind least = (under line others other.0 behind ∙ least.0, bounded other.0 line others least.1 behind)

least_by : (line : List (ℕ × ℕ)) (others : Heads) (other : Option (ℕ × ℕ)) → IsRising line → IsLeast others other → IsLeast (heads_with line others) (older (slice_get line 0) other)
least_by [] others None rises least = least
least_by [] others (Some other) rises least = least
least_by (head ∷ line) others None rises none = first_least head line others rises.0 (λ q some. absurd (no_some _ (none q) some))
least_by (head ∷ line) others (Some other) rises least = by_test (nat_lt other.0 head.0) refl
  where
    by_test : (b : Bool) → nat_lt other.0 head.0 ≡ b → IsLeast (heads_with (head ∷ line) others) (if b then Some other else Some head)
    by_test true e =
        let less : other.0 < head.0 = grind (arith, nat_tests) in
        other_least other (head ∷ line) others (less, behind_low other.0 head.0 line (omega (arith, less)) rises.0) least
    by_test false e =
        let low : head.0 ≤ other.0 = grind (arith, nat_tests) in
        first_least head line others rises.0 (λ q some. let le = least.1 q some in omega (arith, low, le))

pub least_is : (line : List (ℕ × ℕ)) (others seen : Heads) (first other result : Option (ℕ × ℕ)) → heads_with line others ≡ seen → IsRising line → first ≡ slice_get line 0 → IsLeast others other → result ≡ older first other → IsLeast seen result
least_is line others seen first other result view rises at least is =
    subst (λ (heads : Heads). IsLeast heads result) view
    (subst (IsLeast (heads_with line others)) (sym (is ∙ ap (λ (o : Option (ℕ × ℕ)). older o other) at)) (least_by line others other rises least))

-- ---- the least of a map

found : (m : BTreeMap ℕ ℕ) (place : ℕ) → finite.get (map_of m) place ≡ tree.get nat_cmp m place
found m place = get-entries nat_cmp_total exact_unsigned m.entries place

pub none_in : (m : BTreeMap ℕ ℕ) → btree_map_len m ≡ 0 → IsLeast (map_of m) None
none_in m empty place = found m place ∙ none_of m.entries empty
  where
    none_of : (es : List (ℕ × ℕ)) → length es ≡ 0 → lookup (is_at (nat_cmp place)) es ≡ None
    none_of [] e = refl
    none_of (x ∷ xs) e = absurd (cc)

pub zero_if : (n : ℕ) → (0 < n → ⊥) → n ≡ 0
zero_if zero isnt = refl
zero_if (suc n) isnt = absurd (isnt (omega arith))

pub least_in : (m : BTreeMap ℕ ℕ) (head : ℕ × ℕ) → tree.get nat_cmp m head.0 ≡ Some head.1 → IsLowerBound nat_cmp m head.0 → IsLeast (map_of m) (Some head)
least_in m head here low = (
  found m head.0 ∙ here,
  λ place some. not_above head.0 place (low place (subst (λ o. IsSome o) (found m place) some)),
)
  where
    not_above : (one other : ℕ) → is_gt (nat_cmp one other) ≡ false → one ≤ other
    not_above one other low = grind (arith, nat_tests)

-- ---- the first of a line beside no others

pub popped_first : (line new : List (ℕ × ℕ)) (others : BTreeMap ℕ ℕ) (place : ℕ) → IsRising line → IsSomeAnd (slice_get line 0) (λ first. first.0 ≡ place) → new ≡ drop 1 line → btree_map_len others ≡ 0
    → heads_with new (map_of others) ≡ finite.remove (heads_with line (map_of others)) place
popped_first [] new others place rises first popped empty = absurd first
popped_first (head ∷ line) new others place rises first popped empty =
    ap (λ (rest : List (ℕ × ℕ)). heads_with rest (map_of others)) (first_there place (head ∷ line) new head rises refl first popped)
    ∙ ap (heads_with (without_place place (head ∷ line))) (sym (cut_none (map_of others) place (none_in others empty place)))
    ∙ cut_under (head ∷ line) (map_of others) place
