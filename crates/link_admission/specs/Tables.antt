-- Tables by their numbers, as finite maps.
use Rattle.std.specs.Prelude.{◌≡◌, ◌≤◌, ◌<◌, ◌^◌, ◌==◌, ◌&&◌, ℕ, Bool, true, false, not, List, if◌then◌else◌, Option, Some, None, length, take, slice_index, refl}
use Rattle.std.specs.Coded.{Coded, code_by, coded×, coded_ℕ, coded_bool}
use Rattle.std.specs.FinMap as map
use Rattle.std.specs.Ordering.{nat_cmp}
use Rattle.fidl_names.specs.declared.limits.TheConstants as limit
use Rattle.fidl_names.specs.HandleNumber.{is_client}
use Rattle.link_admission.specs.Numbering.{among}
use Rattle.link_admission.specs.Standings.{is_live, standing_code}
use Rattle.link_admission.specs.declared.kinds.Standing.{Standing}
use Rattle.link_admission.specs.declared.kinds.Standing.TheVariants as standing

-- by number
abbrev pub Table : Type 0 → Type 0
Table X = map.FinMap nat_cmp X

-- what stands at a number
abbrev pub value_at : {X : Type 0} → Table X → ℕ → Option X
value_at t n = map.get t n

-- what stands at one number is this now, and all else as it was
abbrev pub ChangesAt : {X : Type 0} → ℕ → Option X → Table X → Table X → Type 0
ChangesAt n w old new = (q : ℕ) → value_at new q ≡ (if q == n then w else value_at old q)

-- no number stands twice
abbrev pub AreEachOnce : List ℕ → Type 0
AreEachOnce ns = (i : ℕ) → i < length ns → among (slice_index ns i) (take i ns) ≡ false

-- the client numbers among these were never used, and none stands twice
pub record AreNew (t : Table Standing) (ns : List ℕ) : Type 0 where
  pub unused : (q : ℕ) → is_client q ≡ true → among q ns ≡ true → value_at t q ≡ None
  pub distinct : AreEachOnce ns

-- the client numbers among these are live endpoints now, and all else is as it was
abbrev pub Makes : List ℕ → Table Standing → Table Standing → Type 0
Makes ns old new = (q : ℕ) → value_at new q ≡ (if is_client q && among q ns then Some standing.Live else value_at old q)

-- the client numbers among these stand nowhere now, and all else is as it was
abbrev pub TakesBack : List ℕ → Table Standing → Table Standing → Type 0
TakesBack ns old new = (q : ℕ) → value_at new q ≡ (if is_client q && among q ns then None else value_at old q)

-- the numbers among these that aren't clients' travel now, and all else is as it was
abbrev pub Travels : List ℕ → Table Bool → Table Bool → Type 0
Travels ns old new = (q : ℕ) → value_at new q ≡ (if not (is_client q) && among q ns then Some false else value_at old q)

-- one for a live endpoint
abbrev pub weight : Standing → ℕ
weight s = if is_live s then 1 else 0

-- a table of standings with the number of live endpoints
pub record Counted : Type 0 where
  pub entries : Table Standing
  pub live : ℕ

abbrev pub counted_code : Coded Counted
counted_code =
    code_by (Table Standing × ℕ) (coded× (map.code coded_ℕ standing_code) coded_ℕ)
    (λ c. (c.entries, c.live))
    (λ p. record { entries = p.0; live = p.1 })
    (λ _. refl)

-- a table of the tokens that are out, how many these are, and the number that the next one gets
pub record Numbered : Type 0 where
  pub entries : Table Bool
  pub out : ℕ
  pub next : ℕ

abbrev pub numbered_code : Coded Numbered
numbered_code =
    code_by (Table Bool × (ℕ × ℕ)) (coded× (map.code coded_ℕ coded_bool) (coded× coded_ℕ coded_ℕ))
    (λ t. (t.entries, (t.out, t.next)))
    (λ p. record { entries = p.0; out = p.1.0; next = p.1.1 })
    (λ _. refl)

-- what every table of tokens keeps
pub record KeepsNumbers (entries : Table Bool) (number : ℕ) : Type 0 where
  pub unused : (q : ℕ) → number ≤ q → value_at entries q ≡ None
  pub last : number ≤ 2 ^ 32

-- what the two tables keep beside each other: no standing is written down as unused, and no token is a client's number
pub record KeepsApart (standings : Table Standing) (tokens : Table Bool) (number : ℕ) : Type 0 where
  pub known : (q : ℕ) → value_at standings q ≡ Some standing.Unused → ⊥
  pub apart : (q : ℕ) → is_client q ≡ true → value_at tokens q ≡ None
  pub after : limit.FIRST_TOKEN ≤ number
