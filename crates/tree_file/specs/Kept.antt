-- What the code keeps beside the lists, so that each look-up is quick.
use Rattle.std.specs.Prelude.{◌≡◌, ℕ, ◌==◌, Bool, List}
use Rattle.std.specs.Borrow.{Bor}
use Rattle.std.specs.BTreeMap.{BTreeMap, get}
use Rattle.std.specs.BTreeSet.{BTreeSet, contains}
use Rattle.std.specs.Cmp.Lexicographic.{slice_cmp}
use Rattle.std.specs.declared.cmp.Ordering.{Ordering}
use Rattle.std.specs.List.{list_any}
use Rattle.std.specs.Ordering.{nat_cmp, ordering_then}
use Rattle.session_start.specs.Items.{ClientItem}
use Rattle.session_start.specs.RulesOnLists.{Place, found_among}

-- the set has the endpoints of these clients
abbrev pub HasEndpoints : BTreeSet ℕ → List ClientItem → Type 0
HasEndpoints set clients = (number : ℕ) → contains nat_cmp set number ≡ list_any (λ client. client.endpoint == number) clients

-- by server, then by the bytes of the path
abbrev pub place_cmp : ℕ × Bor (List ℕ) → ℕ × Bor (List ℕ) → Ordering
place_cmp a b = ordering_then (nat_cmp a.0 b.0) (slice_cmp nat_cmp a.1.now b.1.now)

-- the map has whether a directory stands at each path of each server
abbrev pub Stands : BTreeMap (ℕ × Bor (List ℕ)) Bool → List Place → Type 0
Stands map listed = (key : ℕ × Bor (List ℕ)) → get place_cmp map key ≡ found_among listed key.0 key.1.now
