-- The standings of all numbers, kept by pages of numbers that follow one another.
use Rattle.std.specs.Prelude.{◌≡◌, ◌+◌, ◌^◌, ◌/◌, ◌%◌, ℕ, zero, suc, List, [], Option, Some, None, nat_lt, ◌==◌, if◌then◌else◌, slice_get, unwrap_or, Vec}
use Rattle.std.specs.FinMap as map
use Rattle.std.specs.Option.{option_map_or}
use Rattle.std.specs.Int.{bit_at}
use Rattle.link_admission.specs.Standings.{standing_from}
use Rattle.link_admission.specs.Tables.{Table, value_at, weight}
use Rattle.link_admission.specs.declared.kinds.Standing.{Standing}
use Rattle.link_admission.specs.declared.kinds.Standing.TheVariants as standing
use Rattle.link_admission.specs.declared.page.Page.{Page}
use Rattle.link_admission.specs.declared.levels.TheConstants as level
use Rattle.link_admission.specs.declared.page.TheConstants as size
use Rattle.link_admission.specs.declared.pages.TheConstants as near

-- how a number of a page stands
abbrev pub in_page : Page → ℕ → Standing
in_page p n = standing_from (bit_at p.live (n % size.PAGE_LEN) == 1, bit_at p.closed (n % size.PAGE_LEN) == 1)

-- and where that page may be missing
abbrev pub in_kept : Option Page → ℕ → Standing
in_kept None n = standing.Unused
in_kept (Some p) n = in_page p n

-- how a number stands in pages of which the first stands first
abbrev pub in_near : List Page → ℕ → Standing
in_near ps n = in_kept (slice_get ps (n / size.PAGE_LEN)) n

-- a page of numbers that were never used
abbrev pub unused_page : Page
unused_page = record { live = 0; closed = 0 }

-- the page at an index of a row, and at one of a row of rows, where one that is missing has no used numbers
abbrev pub in_row : List Page → ℕ → Page
in_row ps k = unwrap_or (slice_get ps k) unused_page

abbrev pub row_at : {X S : Type 0} → List (Vec X S) → ℕ → List X
row_at rows i = option_map_or (λ row. row.items) (slice_get rows i) []

abbrev pub in_rows : {S : Type 0} → List (Vec Page S) → ℕ → Page
in_rows rows k = in_row (row_at rows (k / level.ROW_LEN)) (k % level.ROW_LEN)

abbrev pub in_levels : {S : Type 0} → List (Vec (Vec Page S) S) → ℕ → Page
in_levels levels k = in_rows (row_at levels (k / level.BRANCH_LEN)) (k % level.BRANCH_LEN)

-- another page stands at one index, and all others as before
abbrev pub Puts : ℕ → Page → (ℕ → Page) → (ℕ → Page) → Type 0
Puts k p before behind = (r : ℕ) → behind r ≡ (if r == k then p else before r)

-- how a number stands in rows of rows
abbrev pub in_far : {S : Type 0} → List (Vec (Vec Page S) S) → ℕ → Standing
in_far levels n = in_page (in_levels levels (n / size.PAGE_LEN)) n

-- a near number stands in the former, any other in the latter
abbrev pub in_pages : {S : Type 0} → List Page → List (Vec (Vec Page S) S) → ℕ → Standing
in_pages low far n = if nat_lt n near.NEAR then in_near low n else in_far far n

-- one number stands so, and all others as before
abbrev pub Gives : ℕ → Standing → (ℕ → Standing) → (ℕ → Standing) → Type 0
Gives n s before behind = (q : ℕ) → behind q ≡ (if q == n then s else before q)

-- what is known of a number that stands so: nothing of one that was never used
abbrev pub noted : Standing → Option Standing
noted standing.Unused = None
noted standing.Live = Some standing.Live
noted standing.HungUp = Some standing.HungUp
noted standing.Dead = Some standing.Dead

-- a table where one number more stands so
abbrev pub put_noted : Option Standing → ℕ → Table Standing → Table Standing
put_noted None n t = t
put_noted (Some s) n t = map.insert t n s

-- the table of the numbers below a bound, by how they stand
unfoldable pub noted_below : (ℕ → Standing) → ℕ → Table Standing
noted_below f zero = map.empty
noted_below f (suc n) = put_noted (noted (f n)) n (noted_below f n)

-- how many numbers below a bound are live
unfoldable pub live_below : (ℕ → Standing) → ℕ → ℕ
live_below f zero = 0
live_below f (suc n) = live_below f n + weight (f n)

-- how many endpoints are live
abbrev pub live_in : Table Standing → ℕ
live_in t = live_below (λ n. unwrap_or (value_at t n) standing.Unused) (2 ^ 32)
