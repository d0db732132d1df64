-- Items read one by one.
use Rattle.std.proofs.Common.{◌≡◌, ℕ, ◌+◌, ◌<◌, ◌≤◌, Bool, true, false, ◌||◌, ◌==◌, cond, List, [], ◌∷◌, ◌++◌, length, map, get_or, drop, Option, Some, None, Result, Ok, Err, refl, ap, ◌∙◌, sym, arith, codes, nat_lt}
use Rattle.std.proofs.lemmas.List.{drop_more, drop_all, length-append}
use Rattle.std.proofs.Common.{ltb-true}
use Rattle.std.specs.BTreeSet.{BTreeSet, contains}
use Rattle.std.specs.List.{list_any}
use Rattle.std.specs.Ordering.{nat_cmp, is_eq}
use Rattle.std.specs.Result.{result_err}
use Rattle.std.specs.Cmp.{unsigned_tied}
use Rattle.fidl_names.specs.declared.limits.TheConstants as limit
use Rattle.toml.specs.Data.{Data}
use Rattle.toml.specs.View.{view}
use Rattle.toml.specs.declared.value.Value.{Value}
use Rattle.session_start.specs.Items.{ClientItem}
use Rattle.tree_file.specs.declared.faults.TreeFault.{TreeFault}
use Rattle.tree_file.specs.declared.faults.TreeFault.TheVariants.{Rule}
use Rattle.tree_file.specs.Faults.{Breaks}
use Rattle.tree_file.specs.Kept.{HasEndpoints}
use Rattle.tree_file.specs.Fields.{has_only, text_at}
use Rattle.tree_file.specs.Texts.{only}
use Rattle.tree_file.specs.Reading.{read_all, server_of, is_new_name}

or_false : (a : Bool) → (a || false) ≡ a
or_false true = refl
or_false false = refl

or_assoc : (a b c : Bool) → (a || (b || c)) ≡ ((a || b) || c)
or_assoc true b c = refl
or_assoc false b c = refl

pub any_push : {X : Type 0} (p : X → Bool) (xs : List X) (x : X) → list_any p (xs ++ x ∷ []) ≡ (list_any p xs || p x)
any_push p [] x = or_false (p x)
any_push p (y ∷ ys) x = ap (λ b. p y || b) (any_push p ys x) ∙ or_assoc (p y) (list_any p ys) (p x)

-- an item that stands for something is passed
pub read-on : {Y : Type 0} (read : List Y → Data → Option Y) (earlier : List Y) (values : List Value) (i : ℕ) (value : Value) (y : Y)
    → i < length values → value ≡ get_or values i value → read earlier (view value) ≡ Some y
    → read_all read earlier (map view (drop i values)) ≡ read_all read (earlier ++ y ∷ []) (map view (drop (i + 1) values))
unfolding read_all
read-on read earlier values i value y within is found = rw (drop_more values i value within, ← is, found)

-- one that stands for nothing is told
pub read-stop : {Y : Type 0} (read : List Y → Data → Option Y) (earlier : List Y) (values : List Value) (i : ℕ) (value : Value)
    → i < length values → value ≡ get_or values i value → read earlier (view value) ≡ None
    → read_all read earlier (map view (drop i values)) ≡ Err (length earlier)
unfolding read_all
read-stop read earlier values i value within is found = rw (drop_more values i value within, ← is, found)

pub read-end : {Y : Type 0} (read : List Y → Data → Option Y) (earlier : List Y) (values : List Value) (i : ℕ)
    → length values ≤ i → read_all read earlier (map view (drop i values)) ≡ Ok earlier
unfolding read_all
read-end read earlier values i past = rw (drop_all i values past)

-- what is told where an item stands for nothing
pub read-breaks : {Y : Type 0} (rule : ℕ) (whole : Result (List Y) ℕ) (count item : ℕ) (fault : TreeFault)
    → whole ≡ Err count → count ≡ item → fault ≡ Rule rule item → Breaks rule (result_err whole) fault
read-breaks rule whole count item fault is same told = rw (told, is) (refl, ap Some same)

-- a list of a document, read with the servers' names as they were read
pub read-named : {Y : Type 0} (read : List (List ℕ) → List Y → Data → Option Y) (servers names : List (List ℕ)) (items values : List Data)
    → servers ≡ names → values ≡ items → read_all (read servers) [] items ≡ read_all (read names) [] values
read-named read servers names items values named same =
    ap (λ (known : List (List ℕ)). read_all (read known) [] items) named ∙ ap (λ (listed : List Data). read_all (read names) [] listed) (sym same)

joined : (at same old listed : Bool) → at ≡ same → old ≡ listed → cond at true old ≡ (listed || same)
joined true true true true e f = refl
joined true true false false e f = refl
joined false false true true e f = refl
joined false false false false e f = refl
joined true false old listed e f = cc
joined false true old listed e f = cc
joined true true true false e f = cc
joined true true false true e f = cc
joined false false true false e f = cc
joined false false false true e f = cc

-- the set of endpoints with one more
pub endpoints-more : (set more : BTreeSet ℕ) (clients : List ClientItem) (client : ClientItem) → HasEndpoints set clients
    → ((q : ℕ) → contains nat_cmp more q ≡ cond (is_eq (nat_cmp client.endpoint q)) true (contains nat_cmp set q))
    → HasEndpoints more (clients ++ client ∷ [])
endpoints-more set more clients client has adds q =
    adds q ∙ joined (is_eq (nat_cmp client.endpoint q)) (client.endpoint == q) (contains nat_cmp set q) _ (unsigned_tied client.endpoint q) (has q)
    ∙ sym (any_push (λ one. one.endpoint == q) clients client)

-- a server that is read is one of eight
few_named : (earlier : List (List ℕ)) (text name : List ℕ) (few : Bool) → nat_lt (length earlier) limit.MAX_SERVERS ≡ few
    → cond (is_new_name earlier text) (Some text) None ≡ Some name → length (earlier ++ name ∷ []) ≤ limit.MAX_SERVERS
few_named earlier text name true test is =
    let below : length earlier < limit.MAX_SERVERS = ltb-true (length earlier) limit.MAX_SERVERS test in
    simp length-append (omega arith)
few_named earlier text name false test is =
    let none : None ≡ Some name = rw test at is in cc

few_kept : (earlier : List (List ℕ)) (known : Bool) (found : Option (List ℕ)) (name : List ℕ)
    → cond known (only (is_new_name earlier) found) None ≡ Some name → length (earlier ++ name ∷ []) ≤ limit.MAX_SERVERS
few_kept earlier false found name is = cc
few_kept earlier true None name is = cc
few_kept earlier true (Some text) name is = few_named earlier text name (nat_lt (length earlier) limit.MAX_SERVERS) refl is

pub server_few : (earlier : List (List ℕ)) (value : Data) (name : List ℕ) → server_of earlier value ≡ Some name → length (earlier ++ name ∷ []) ≤ limit.MAX_SERVERS
unfolding server_of
server_few earlier value name is = few_kept earlier (has_only (codes "name" ∷ []) value) (text_at (codes "name") value) name is
