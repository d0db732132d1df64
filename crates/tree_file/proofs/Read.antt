-- What each item of a list that is read has, and how items that are read one by one differ.
use Rattle.std.proofs.Common.{◌≡◌, ◌≢◌, ℕ, ◌<◌, ◌≤◌, ◌==◌, ◌&&◌, ◌||◌, ◌⊎◌, Bool, true, false, not, if◌then◌else◌, nat_lt, ℤ, pos, negsuc, List, [], ◌∷◌, ◌++◌, length, Option, Some, None, Result, Ok, Err, All, AllPairs, refl, sym, ap, ◌∙◌, subst, inl, inr, codes, arith}
use Rattle.std.specs.List.{list_any}
use Rattle.std.specs.Str.{bytes_eq}
use Rattle.std.specs.Option.{is_none}
use Rattle.std.proofs.lemmas.Bool.{eqb-false, and_parts, not-true}
use Rattle.std.proofs.lemmas.List.Elements.{All-nil, All-cons, All-push, All-weaker}
use Rattle.std.proofs.lemmas.List.Quantifiers.{all_pairs_push, position-Some}
use Rattle.std.proofs.lemmas.Slice.Eq.{bytes_eq-Decides}
use Rattle.fidl_names.specs.HandleNumber.{is_client}
use Rattle.fidl_names.specs.declared.limits.TheConstants as limit
use Rattle.node_graph.specs.declared.nodes.NodeKind.{NodeKind}
use Rattle.node_graph.specs.declared.nodes.NodeKind.TheVariants.{Directory, File, Service, Mount}
use Rattle.node_graph.specs.Refusals.{is_file}
use Rattle.path_walk.specs.Names.{name_fault, IsName}
use Rattle.path_walk.specs.Parts.{is_dot}
use Rattle.path_walk.specs.Paths.{path_fault}
use Rattle.toml.specs.Data.{Data, get, as_str, as_integer}
use Rattle.session_start.specs.Accepted.{IsPlain, IsNode, IsMount, IsClient, AreServers}
use Rattle.session_start.specs.Items.{NodeItem, MountItem, ClientItem}
use Rattle.session_start.proofs.Found.{same_some, from_none, found_none, none_pass}
use Rattle.tree_file.specs.Fields.{◌>>=◌, has_only, text_at}
use Rattle.tree_file.specs.Reading.{index_of, server_at, path_at, place_at, kind_at, rights_at, bytes_from, bytes_at, node_keys, node_of, mount_keys, mount_of, client_keys, client_of, endpoint_from, endpoint_at, is_new_endpoint, is_new_name, server_of, read_all}
use Rattle.tree_file.specs.Rules.{all_or_none}
use Rattle.tree_file.specs.Texts.{only, is_name, is_path, kind_of, hex_of}
use Rattle.tree_file.proofs.Passes.{server_few}

-- ---- lists that are read

bind_some : {A B : Type 0} (o : Option A) (f : A → Option B) (y : B) → (o >>= f) ≡ Some y → (x : A) × (o ≡ Some x) × (f x ≡ Some y)
bind_some (Some x) f y h = (x, refl, h)
bind_some None f y h = absurd (cc)

-- what each reading keeps of those read before, all that are read have
kept_by : {X Y : Type 0} (K : List Y → Type 0) (read : List Y → X → Option Y) → ((earlier : List Y) (x : X) (y : Y) → K earlier → read earlier x ≡ Some y → K (earlier ++ y ∷ [])) → (earlier : List Y) (x : X) (xs : List X) → K earlier →
    ((more : List Y) → K more → (ys : List Y) → read_all read more xs ≡ Ok ys → K ys) → (o : Option Y) → read earlier x ≡ o → (ys : List Y) →
    elim o as (λ p. Result (List Y) ℕ) [ None ↦ Err (length earlier) | Some y ↦ read_all read (earlier ++ y ∷ []) xs ] ≡ Ok ys → K ys
kept_by K read each earlier x xs h rest None e ys is = absurd (cc)
kept_by K read each earlier x xs h rest (Some y) e ys is = rest (earlier ++ y ∷ []) (each earlier x y h e) ys is

kept_read : {X Y : Type 0} (K : List Y → Type 0) (read : List Y → X → Option Y) → ((earlier : List Y) (x : X) (y : Y) → K earlier → read earlier x ≡ Some y → K (earlier ++ y ∷ [])) → (xs : List X) (earlier : List Y) → K earlier → (ys : List Y) → read_all read earlier xs ≡ Ok ys → K ys
unfolding read_all
kept_read K read each [] earlier h ys is = let same : earlier ≡ ys = cc in subst K same h
kept_read K read each (x ∷ xs) earlier h ys is = kept_by K read each earlier x xs h (λ more g zs e. kept_read K read each xs more g zs e) (read earlier x) refl ys is

pub all_kept : {X Y : Type 0} (K : List Y → Type 0) (read : List Y → X → Option Y) → ((earlier : List Y) (x : X) (y : Y) → K earlier → read earlier x ≡ Some y → K (earlier ++ y ∷ [])) → K [] → (xs : List X) → K (all_or_none (read_all read [] xs))
all_kept {X} {Y} K read each none xs = by_result (read_all read [] xs) (λ ys e. kept_read K read each xs [] none ys e) where
  by_result : (r : Result (List Y) ℕ) → ((ys : List Y) → r ≡ Ok ys → K ys) → K (all_or_none r)
  by_result (Ok ys) h = h ys refl
  by_result (Err e) h = none

pub all_read : {X Y : Type 0} (P : Y → Type 0) (read : List Y → X → Option Y) → ((earlier : List Y) (x : X) (y : Y) → read earlier x ≡ Some y → P y) → (xs : List X) → All P (all_or_none (read_all read [] xs))
all_read P read each xs = all_kept (All P) read (λ earlier x y h e. All-push P earlier y h (each earlier x y e)) (All-nil P) xs

pub apart_read : {X Y : Type 0} (R : Y → Y → Type 0) (read : List Y → X → Option Y) → ((earlier : List Y) (x : X) (y : Y) → read earlier x ≡ Some y → All (λ e. R e y) earlier) → (xs : List X) → AllPairs R (all_or_none (read_all read [] xs))
apart_read R read each xs = all_kept (AllPairs R) read (λ earlier x y h e. all_pairs_push R earlier y h (λ k d l. each earlier x y e k d l)) (λ i j d l m. absurd (omega arith)) xs

-- ---- the parts of an item

only_passes : {X : Type 0} (test : X → Bool) (o : Option X) (x : X) → only test o ≡ Some x → test x ≡ true
only_passes test None x h = absurd (cc)
only_passes {X} test (Some y) x h = by_test (test y) refl h where
  by_test : (b : Bool) → test y ≡ b → (if b then Some y else None) ≡ Some x → test x ≡ true
  by_test true e h = let same : y ≡ x = cc in ap test (sym same) ∙ e
  by_test false e h = absurd (cc)

only_is : {X : Type 0} (test : X → Bool) (o : Option X) (x : X) → only test o ≡ Some x → o ≡ Some x
only_is test None x h = absurd (cc)
only_is {X} test (Some y) x h = by_test (test y) h where
  by_test : (b : Bool) → (if b then Some y else None) ≡ Some x → Some y ≡ Some x
  by_test true h = h
  by_test false h = absurd (cc)

server_in : (names : List (List ℕ)) (key : List ℕ) (value : Data) (server : ℕ) → server_at names key value ≡ Some server → server < length names
unfolding server_at index_of
server_in names key value server h =
    let at = bind_some (text_at key value) (index_of names) server h in
    (position-Some (λ known. bytes_eq known at.0) names server [] at.2).0

path_in : (key : List ℕ) (value : Data) (path : List ℕ) → path_at key value ≡ Some path → path_fault path ≡ None
unfolding path_at
path_in key value path h = from_none (path_fault path) (only_passes is_path (text_at key value) path h)

place_in : (key : List ℕ) (value : Data) (path : List ℕ) → place_at key value ≡ Some path → (path_fault path ≡ None) × (is_dot path ≡ false)
unfolding place_at
place_in key value path h = (
  path_in key value path (only_is (λ p. not (is_dot p)) (path_at key value) path h),
  not-true (is_dot path) (only_passes (λ p. not (is_dot p)) (path_at key value) path h),
)

kind_by : (a b c : Bool) (k : NodeKind) → (if a then Some Directory else if b then Some File else if c then Some Service else None) ≡ Some k → IsPlain k
kind_by true b c k h = let same : Directory ≡ k = cc in subst IsPlain same tt
kind_by false true c k h = let same : File ≡ k = cc in subst IsPlain same tt
kind_by false false true k h = let same : Service ≡ k = cc in subst IsPlain same tt
kind_by false false false k h = absurd (cc)

kind_read : (text : List ℕ) (k : NodeKind) → kind_of text ≡ Some k → IsPlain k
unfolding kind_of
kind_read text k h = kind_by (bytes_eq text (codes "dir")) (bytes_eq text (codes "file")) (bytes_eq text (codes "service")) k h

kind_in : (value : Data) (k : NodeKind) → kind_at value ≡ Some k → IsPlain k
unfolding kind_at
kind_in value k h = let at = bind_some (text_at (codes "kind") value) kind_of k h in kind_read at.0 k at.2

file_alone : (kind : NodeKind) (o : Option (List ℕ)) (bytes : List ℕ) → (if is_file kind then o else None) ≡ Some bytes → kind ≡ File
file_alone File o bytes h = refl
file_alone Directory o bytes h = absurd (cc)
file_alone Service o bytes h = absurd (cc)
file_alone (Mount index) o bytes h = absurd (cc)

bytes_by : (kind : NodeKind) (text hex : Option Data) (bytes : List ℕ) → bytes_from kind text hex ≡ Some bytes → (kind ≡ File) ⊎ (bytes ≡ [])
bytes_by kind None None bytes h = let same : [] ≡ bytes = cc in inr (sym same)
bytes_by kind (Some text) None bytes h = inl (file_alone kind (as_str text) bytes h)
bytes_by kind None (Some hex) bytes h = inl (file_alone kind (as_str hex >>= hex_of) bytes h)
bytes_by kind (Some text) (Some hex) bytes h = absurd (cc)

bytes_in : (kind : NodeKind) (value : Data) (bytes : List ℕ) → bytes_at kind value ≡ Some bytes → (kind ≡ File) ⊎ (bytes ≡ [])
unfolding bytes_at
bytes_in kind value bytes h = bytes_by kind (get (codes "text") value) (get (codes "hex") value) bytes h

number_read : (z : ℤ) (n : ℕ) → endpoint_from z ≡ Some n → is_client n ≡ true
number_read (pos number) n h = by_test (is_client number) refl h where
  by_test : (b : Bool) → is_client number ≡ b → (if b then Some number else None) ≡ Some n → is_client n ≡ true
  by_test true is e = let same : number ≡ n = cc in ap is_client (sym same) ∙ is
  by_test false is e = absurd (cc)
number_read (negsuc below) n h = absurd (cc)

endpoint_in : (value : Data) (n : ℕ) → endpoint_at value ≡ Some n → is_client n ≡ true
unfolding endpoint_at
endpoint_in value n h = let at = bind_some (get (codes "endpoint") value >>= as_integer) endpoint_from n h in number_read at.0 n at.2

-- ---- servers

name_by : (b : Bool) (earlier : List (List ℕ)) (found : Option (List ℕ)) (name : List ℕ) → (if b then only (is_new_name earlier) found else None) ≡ Some name → is_new_name earlier name ≡ true
name_by true earlier found name h = only_passes (is_new_name earlier) found name h
name_by false earlier found name h = absurd (cc)

new_by : (earlier : List (List ℕ)) (name : List ℕ) → is_new_name earlier name ≡ true → IsName name × All (λ known. known ≢ name) earlier
unfolding index_of
new_by earlier name h =
    let a = and_parts (nat_lt (length earlier) limit.MAX_SERVERS) (is_name name && is_none (index_of earlier name)) h in
    let b = and_parts (is_name name) (is_none (index_of earlier name)) a.1 in
    let none = none_pass (λ known. bytes_eq known name) earlier (found_none (λ known. bytes_eq known name) earlier (from_none (index_of earlier name) b.1)) in (
      from_none (name_fault name) b.0,
      All-weaker (λ (known : List ℕ). bytes_eq known name ≡ false) (λ known. known ≢ name)
          (λ known other same. let is : bytes_eq known name ≡ true = (bytes_eq-Decides known name).1 same in absurd (cc)) earlier none,
    )

name_read : (earlier : List (List ℕ)) (value : Data) (name : List ℕ) → server_of earlier value ≡ Some name → IsName name × All (λ known. known ≢ name) earlier
unfolding server_of
name_read earlier value name h = new_by earlier name (name_by (has_only (codes "name" ∷ []) value) earlier (text_at (codes "name") value) name h)

pub servers_read : (values : List Data) → AreServers (all_or_none (read_all server_of [] values))
servers_read values = record {
  few = all_kept (λ (names : List (List ℕ)). length names ≤ limit.MAX_SERVERS) server_of (λ earlier value name h e. server_few earlier value name e) (omega arith) values;
  valid = all_read IsName server_of (λ earlier value name e. (name_read earlier value name e).0) values;
  apart = apart_read (λ one other. one ≢ other) server_of (λ earlier value name e. (name_read earlier value name e).1) values;
}

-- ---- nodes

node_by : (b : Bool) (names : List (List ℕ)) (value : Data) (node : NodeItem) →
    (if b then
    server_at names (codes "server") value >>= (λ server.
    place_at (codes "path") value >>= (λ path.
    kind_at value >>= (λ kind.
    rights_at value >>= (λ rights.
    bytes_at kind value >>= (λ bytes.
    Some (record { server = server; path = path; kind = kind; rights = rights; bytes = bytes }))))))
    else None) ≡ Some node → IsNode (length names) node
node_by false names value node h = absurd (cc)
node_by true names value node h =
    let a = bind_some (server_at names (codes "server") value) _ node h in
    let b = bind_some (place_at (codes "path") value) _ node a.2 in
    let c = bind_some (kind_at value) _ node b.2 in
    let d = bind_some (rights_at value) _ node c.2 in
    let e = bind_some (bytes_at c.0 value) _ node d.2 in
    let place = place_in (codes "path") value b.0 b.1 in
    subst (IsNode (length names)) (same_some e.2) (record {
      at = record { server = server_in names (codes "server") value a.0 a.1; path = place.0 };
      below = place.1;
      plain = kind_in value c.0 c.1;
      bytes = bytes_in c.0 value e.0 e.1;
    })

pub node_read : (names : List (List ℕ)) (value : Data) (node : NodeItem) → node_of names value ≡ Some node → IsNode (length names) node
unfolding node_of
node_read names value node h = node_by (has_only node_keys value) names value node h

-- ---- mounts

mount_by : (b : Bool) (names : List (List ℕ)) (value : Data) (mount : MountItem) →
    (if b then
    server_at names (codes "server") value >>= (λ server.
    place_at (codes "path") value >>= (λ path.
    server_at names (codes "target") value >>= (λ target.
    path_at (codes "at") value >>= (λ at.
    rights_at value >>= (λ rights.
    Some (record { server = server; path = path; target = target; at = at; rights = rights }))))))
    else None) ≡ Some mount → IsMount (length names) mount
mount_by false names value mount h = absurd (cc)
mount_by true names value mount h =
    let a = bind_some (server_at names (codes "server") value) _ mount h in
    let b = bind_some (place_at (codes "path") value) _ mount a.2 in
    let c = bind_some (server_at names (codes "target") value) _ mount b.2 in
    let d = bind_some (path_at (codes "at") value) _ mount c.2 in
    let e = bind_some (rights_at value) _ mount d.2 in
    let place = place_in (codes "path") value b.0 b.1 in
    subst (IsMount (length names)) (same_some e.2) (record {
      at = record { server = server_in names (codes "server") value a.0 a.1; path = place.0 };
      below = place.1;
      target = record { server = server_in names (codes "target") value c.0 c.1; path = path_in (codes "at") value d.0 d.1 };
    })

pub mount_read : (names : List (List ℕ)) (value : Data) (mount : MountItem) → mount_of names value ≡ Some mount → IsMount (length names) mount
unfolding mount_of
mount_read names value mount h = mount_by (has_only mount_keys value) names value mount h

-- ---- clients

client_by : (b : Bool) (names : List (List ℕ)) (earlier : List ClientItem) (value : Data) (client : ClientItem) →
    (if b then
    only (is_new_endpoint earlier) (endpoint_at value) >>= (λ endpoint.
    server_at names (codes "server") value >>= (λ server.
    path_at (codes "path") value >>= (λ path.
    rights_at value >>= (λ rights.
    Some (record { endpoint = endpoint; server = server; path = path; rights = rights })))))
    else None) ≡ Some client → IsClient (length names) client × (is_new_endpoint earlier client.endpoint ≡ true)
client_by false names earlier value client h = absurd (cc)
client_by true names earlier value client h =
    let a = bind_some (only (is_new_endpoint earlier) (endpoint_at value)) _ client h in
    let b = bind_some (server_at names (codes "server") value) _ client a.2 in
    let c = bind_some (path_at (codes "path") value) _ client b.2 in
    let d = bind_some (rights_at value) _ client c.2 in
    subst (λ (one : ClientItem). IsClient (length names) one × (is_new_endpoint earlier one.endpoint ≡ true)) (same_some d.2) (
      record {
        at = record { server = server_in names (codes "server") value b.0 b.1; path = path_in (codes "path") value c.0 c.1 };
        endpoint = endpoint_in value a.0 (only_is (is_new_endpoint earlier) (endpoint_at value) a.0 a.1);
      },
      only_passes (is_new_endpoint earlier) (endpoint_at value) a.0 a.1,
    )

pub client_read : (names : List (List ℕ)) (earlier : List ClientItem) (value : Data) (client : ClientItem) → client_of names earlier value ≡ Some client → IsClient (length names) client × (is_new_endpoint earlier client.endpoint ≡ true)
unfolding client_of
client_read names earlier value client h = client_by (has_only client_keys value) names earlier value client h

-- a new endpoint is none of the earlier ones
none_by : (number : ℕ) (client : ClientItem) (earlier : List ClientItem) → (list_any (λ (one : ClientItem). one.endpoint == number) earlier ≡ false → All (λ one. one.endpoint ≢ number) earlier) →
    (b : Bool) → (client.endpoint == number) ≡ b → (b || list_any (λ (one : ClientItem). one.endpoint == number) earlier) ≡ false → All (λ one. one.endpoint ≢ number) (client ∷ earlier)
none_by number client earlier rest true is h = absurd (cc)
none_by number client earlier rest false is h = All-cons (λ (one : ClientItem). one.endpoint ≢ number) client earlier (eqb-false client.endpoint number is) (rest h)

none_any : (number : ℕ) (earlier : List ClientItem) → list_any (λ (client : ClientItem). client.endpoint == number) earlier ≡ false → All (λ one. one.endpoint ≢ number) earlier
none_any number [] h = All-nil (λ (one : ClientItem). one.endpoint ≢ number)
none_any number (client ∷ earlier) h = none_by number client earlier (λ e. none_any number earlier e) (client.endpoint == number) refl h

pub new_client : (earlier : List ClientItem) (client : ClientItem) → is_new_endpoint earlier client.endpoint ≡ true → All (λ one. one.endpoint ≢ client.endpoint) earlier
new_client earlier client h = none_any client.endpoint earlier (not-true (list_any (λ (one : ClientItem). one.endpoint == client.endpoint) earlier) h)
