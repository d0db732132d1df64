-- The connection that is found at an endpoint in a table of them, and put back there.
use Rattle.std.proofs.Common.{◌≡◌, ◌∙◌, ℕ, Bool, true, false, cond, List, [], ◌∷◌, length, None, Option, Some, ap, eqb, refl, subst, sym}
use Rattle.std.specs.List.{IsDistinct}
use Rattle.std.specs.Option.{option_map}
use Rattle.std.specs.Ordering.{nat_cmp}
use Rattle.std.proofs.lemmas.List.{length-map}
use Rattle.std.specs.FinMap as finite
use Rattle.std.specs.Map.{keys_of, lookup}
use Rattle.link_admission.proofs.Tabled.{changes-table, get-table, map-insert}
use Rattle.conn_rules.specs.Births.{Connection}
use Rattle.vfs_server.specs.declared.conn.Conn.{Conn}
use Rattle.vfs_server.specs.Kept.{Connections}
use Rattle.vfs_server.specs.Steps.{AreOfTheirKinds, IsOfItsKind, connection_of, seen_in}
use Rattle.vfs_server.proofs.Maps.{get_put, get_put_other, len-table, same_map, standing, same, other}

-- what the map has at an endpoint stands there in its table
pub looked_up : (entries : List (ℕ × Connection)) (map : Connections) (endpoint : ℕ) (found : Option Connection) →
    finite.from_entries entries ≡ map → found ≡ lookup (eqb endpoint) entries → finite.get map endpoint ≡ found
looked_up entries map endpoint found is here = sym (ap (λ m. finite.get m endpoint) is) ∙ get-table entries endpoint ∙ sym here

-- and it is the one that is found
pub is_found : (entries : List (ℕ × Connection)) (map : Connections) (endpoint : ℕ) (here old : Connection) →
    finite.from_entries entries ≡ map → Some here ≡ lookup (eqb endpoint) entries → finite.get map endpoint ≡ Some old → here ≡ old
is_found entries map endpoint here old is there some =
    let both : Some here ≡ Some old = sym (looked_up entries map endpoint (Some here) is there) ∙ some in
    cc

-- where another stands there in the table, it is put there in the map
pub put_back : (entries written : List (ℕ × Connection)) (map : Connections) (endpoint : ℕ) (new : Connection) → finite.from_entries entries ≡ map →
    ((q : ℕ) → lookup (eqb q) written ≡ cond (eqb endpoint q) (Some new) (lookup (eqb q) entries)) → finite.from_entries written ≡ finite.insert map endpoint new
put_back entries written map endpoint new is updates =
    map-insert (finite.from_entries entries) (finite.from_entries written) endpoint new (changes-table entries written endpoint (Some new) updates)
    ∙ ap (λ m. finite.insert m endpoint new) is

-- an endpoint that has a connection isn't without
pub not_none : (map : Connections) (endpoint : ℕ) (connection : Connection) → finite.get map endpoint ≡ Some connection → finite.get map endpoint ≡ None → ⊥
not_none map endpoint connection some none =
    let wrong : None ≡ Some connection = sym none ∙ some in
    cc

-- where it is put back as it was, the map is as it was
pub put_same : (map : Connections) (endpoint : ℕ) (connection : Connection) → finite.get map endpoint ≡ Some connection → finite.insert map endpoint connection ≡ map
put_same map endpoint connection there = same_map _ _ (λ q. elim (standing q endpoint) [
  | same e b ↦ ap (finite.get (finite.insert map endpoint connection)) e ∙ get_put map endpoint connection ∙ sym (ap (finite.get map) e ∙ there)
  | other e b ↦ get_put_other map endpoint q connection e
])

-- ---- connections as they are seen

lookup_seen : (entries : List (ℕ × Conn)) (q : ℕ) → lookup (eqb q) (seen_in entries) ≡ option_map connection_of (lookup (eqb q) entries)
lookup_seen [] q = refl
lookup_seen (e ∷ es) q = by_test (eqb q e.0) (lookup_seen es q) where
  by_test : (b : Bool) → lookup (eqb q) (seen_in es) ≡ option_map connection_of (lookup (eqb q) es) →
      cond b (Some (connection_of e.1)) (lookup (eqb q) (seen_in es)) ≡ option_map connection_of (cond b (Some e.1) (lookup (eqb q) es))
  by_test true rest = refl
  by_test false rest = rest

-- what is found is seen
pub found_seen : (entries : List (ℕ × Conn)) (q : ℕ) (found : Option Conn) → found ≡ lookup (eqb q) entries → option_map connection_of found ≡ lookup (eqb q) (seen_in entries)
found_seen entries q found is = ap (option_map connection_of) is ∙ sym (lookup_seen entries q)

-- and a change of one is
pub seen_updates : (old new : List (ℕ × Conn)) (k : ℕ) (w : Option Conn) → ((q : ℕ) → lookup (eqb q) new ≡ cond (eqb k q) w (lookup (eqb q) old)) →
    (q : ℕ) → lookup (eqb q) (seen_in new) ≡ cond (eqb k q) (option_map connection_of w) (lookup (eqb q) (seen_in old))
seen_updates old new k w updates q =
    lookup_seen new q ∙ ap (option_map connection_of) (updates q) ∙ by_test (eqb k q) ∙ ap (cond (eqb k q) (option_map connection_of w)) (sym (lookup_seen old q)) where
      by_test : (b : Bool) → option_map connection_of (cond b w (lookup (eqb q) old)) ≡ cond b (option_map connection_of w) (option_map connection_of (lookup (eqb q) old))
      by_test true = refl
      by_test false = refl

pub kinds_updated : (old new : List (ℕ × Conn)) (k : ℕ) (w : Option Conn) → ((q : ℕ) → lookup (eqb q) new ≡ cond (eqb k q) w (lookup (eqb q) old)) → AreOfTheirKinds old → ((c : Conn) → w ≡ Some c → IsOfItsKind c) →
    AreOfTheirKinds new
kinds_updated old new k w updates kinds newest q c there = by_test (eqb k q) (sym (updates q) ∙ there) where
  by_test : (b : Bool) → cond b w (lookup (eqb q) old) ≡ Some c → IsOfItsKind c
  by_test true is = newest c is
  by_test false is = kinds q c is

keys_seen : (entries : List (ℕ × Conn)) → keys_of (seen_in entries) ≡ keys_of entries
keys_seen [] = refl
keys_seen (e ∷ es) = ap (λ later. e.0 ∷ later) (keys_seen es)

-- as many are seen as there are
pub len_seen : (entries : List (ℕ × Conn)) → IsDistinct eqb (keys_of entries) → finite.len (finite.from_entries {R = nat_cmp} (seen_in entries)) ≡ length entries
len_seen entries distinct = len-table (seen_in entries) (subst (IsDistinct eqb) (sym (keys_seen entries)) distinct) ∙ length-map entries (λ (e : ℕ × Conn). (e.0, connection_of e.1))

-- the connection that stands in the table is the one that is seen
pub seen_there : (entries : List (ℕ × Conn)) (map : Connections) (endpoint : ℕ) (here : Conn) → finite.from_entries (seen_in entries) ≡ map → Some here ≡ lookup (eqb endpoint) entries →
    finite.get map endpoint ≡ Some (connection_of here)
seen_there entries map endpoint here is at = looked_up (seen_in entries) map endpoint (Some (connection_of here)) is (found_seen entries endpoint (Some here) at)

pub none_seen : (entries : List (ℕ × Conn)) (map : Connections) (endpoint : ℕ) → finite.from_entries (seen_in entries) ≡ map → None ≡ lookup (eqb endpoint) entries → finite.get map endpoint ≡ None
none_seen entries map endpoint is at = looked_up (seen_in entries) map endpoint None is (found_seen entries endpoint None at)

pub seen_same : (entries : List (ℕ × Conn)) (map : Connections) (endpoint : ℕ) (here : Conn) (old : Connection) → finite.from_entries (seen_in entries) ≡ map → Some here ≡ lookup (eqb endpoint) entries →
    finite.get map endpoint ≡ Some old → connection_of here ≡ old
seen_same entries map endpoint here old is at some = is_found (seen_in entries) map endpoint (connection_of here) old is (found_seen entries endpoint (Some here) at) some

pub seen_put : (entries written : List (ℕ × Conn)) (map : Connections) (endpoint : ℕ) (new : Conn) → finite.from_entries (seen_in entries) ≡ map →
    ((q : ℕ) → lookup (eqb q) written ≡ cond (eqb endpoint q) (Some new) (lookup (eqb q) entries)) → finite.from_entries (seen_in written) ≡ finite.insert map endpoint (connection_of new)
seen_put entries written map endpoint new is updates = put_back (seen_in entries) (seen_in written) map endpoint (connection_of new) is (seen_updates entries written endpoint (Some new) updates)

pub kind_put : (entries written : List (ℕ × Conn)) (endpoint : ℕ) (new : Conn) → ((q : ℕ) → lookup (eqb q) written ≡ cond (eqb endpoint q) (Some new) (lookup (eqb q) entries)) → AreOfTheirKinds entries → IsOfItsKind new →
    AreOfTheirKinds written
kind_put entries written endpoint new updates kinds kind = kinds_updated entries written endpoint (Some new) updates kinds (λ one is. let same : new ≡ one = cc in subst IsOfItsKind same kind)

pub kind_cut : (entries written : List (ℕ × Conn)) (endpoint : ℕ) → ((q : ℕ) → lookup (eqb q) written ≡ cond (eqb endpoint q) None (lookup (eqb q) entries)) → AreOfTheirKinds entries → AreOfTheirKinds written
kind_cut entries written endpoint updates kinds = kinds_updated entries written endpoint None updates kinds (λ one is. absurd (cc))
