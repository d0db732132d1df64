-- What each item of the lists of a tree stands for; None where it breaks the rule of its list.
use Rattle.std.specs.Prelude.{ℕ, Bool, not, ◌&&◌, ◌==◌, nat_lt, if◌then◌else◌, List, [], ◌∷◌, ◌++◌, length, codes, ℤ, pos, negsuc, Option, Some, None, is_none, position, Result, Ok, Err}
use Rattle.std.specs.List.{list_any}
use Rattle.std.specs.Str.{bytes_eq}
use Rattle.fidl_names.specs.HandleNumber.{is_client}
use Rattle.fidl_names.specs.declared.limits.TheConstants as limit
use Rattle.toml.specs.Data.{Data, get, as_str, as_integer}
use Rattle.io_rights.specs.Letters.{rights_of}
use Rattle.io_rights.specs.Operations.{OperationSet, all}
use Rattle.node_graph.specs.declared.nodes.NodeKind.{NodeKind}
use Rattle.node_graph.specs.Refusals.{is_file}
use Rattle.tree_file.specs.Fields.{◌>>=◌, has_only, text_at}
use Rattle.path_walk.specs.Parts.{is_dot}
use Rattle.session_start.specs.Items.{NodeItem, MountItem, ClientItem}
use Rattle.tree_file.specs.Texts.{only, is_name, is_path, kind_of, hex_of}

-- the index of a name among the servers' names
unfoldable pub index_of : List (List ℕ) → List ℕ → Option ℕ
index_of names name = position (λ known. bytes_eq known name) names

-- the server that is named at a key
unfoldable pub server_at : List (List ℕ) → List ℕ → Data → Option ℕ
server_at names key value = text_at key value >>= index_of names

-- the path at a key, and one that isn't `.`
unfoldable pub path_at : List ℕ → Data → Option (List ℕ)
path_at key value = only is_path (text_at key value)

unfoldable pub place_at : List ℕ → Data → Option (List ℕ)
place_at key value = only (λ path. not (is_dot path)) (path_at key value)

-- the rights: all nine where none are given
abbrev pub rights_from : Option Data → Option OperationSet
rights_from None = Some all
rights_from (Some value) = as_str value >>= rights_of

unfoldable pub rights_at : Data → Option OperationSet
rights_at value = rights_from (get (codes "rights") value)

-- a server has a name alone: a valid one, and no earlier server's. There are MAX_SERVERS at most
abbrev pub is_new_name : List (List ℕ) → List ℕ → Bool
is_new_name earlier name = nat_lt (length earlier) limit.MAX_SERVERS && (is_name name && is_none (index_of earlier name))

unfoldable pub server_of : List (List ℕ) → Data → Option (List ℕ)
server_of earlier value = if has_only (codes "name" ∷ []) value then only (is_new_name earlier) (text_at (codes "name") value) else None

unfoldable pub kind_at : Data → Option NodeKind
kind_at value = text_at (codes "kind") value >>= kind_of

-- `text` and `hex` stand with a file alone, and not together; without either there are no bytes
abbrev pub bytes_from : NodeKind → Option Data → Option Data → Option (List ℕ)
bytes_from kind None None = Some []
bytes_from kind (Some text) None = if is_file kind then as_str text else None
bytes_from kind None (Some hex) = if is_file kind then (as_str hex >>= hex_of) else None
bytes_from kind (Some text) (Some hex) = None

unfoldable pub bytes_at : NodeKind → Data → Option (List ℕ)
bytes_at kind value = bytes_from kind (get (codes "text") value) (get (codes "hex") value)

abbrev pub node_keys : List (List ℕ)
node_keys = codes "server" ∷ codes "path" ∷ codes "kind" ∷ codes "rights" ∷ codes "text" ∷ codes "hex" ∷ []

unfoldable pub node_of : List (List ℕ) → Data → Option NodeItem
node_of names value =
    if has_only node_keys value then
    server_at names (codes "server") value >>= (λ server.
    place_at (codes "path") value >>= (λ path.
    kind_at value >>= (λ kind.
    rights_at value >>= (λ rights.
    bytes_at kind value >>= (λ bytes.
    Some (record { server = server; path = path; kind = kind; rights = rights; bytes = bytes }))))))
    else None

abbrev pub mount_keys : List (List ℕ)
mount_keys = codes "server" ∷ codes "path" ∷ codes "target" ∷ codes "at" ∷ codes "rights" ∷ []

unfoldable pub mount_of : List (List ℕ) → Data → Option MountItem
mount_of names value =
    if has_only mount_keys value then
    server_at names (codes "server") value >>= (λ server.
    place_at (codes "path") value >>= (λ path.
    server_at names (codes "target") value >>= (λ target.
    path_at (codes "at") value >>= (λ at.
    rights_at value >>= (λ rights.
    Some (record { server = server; path = path; target = target; at = at; rights = rights }))))))
    else None

-- the number of a client's endpoint, and one that isn't an earlier client's
abbrev pub endpoint_from : ℤ → Option ℕ
endpoint_from (pos number) = if is_client number then Some number else None
endpoint_from (negsuc number) = None

abbrev pub is_new_endpoint : List ClientItem → ℕ → Bool
is_new_endpoint earlier number = not (list_any (λ client. client.endpoint == number) earlier)

unfoldable pub endpoint_at : Data → Option ℕ
endpoint_at value = (get (codes "endpoint") value >>= as_integer) >>= endpoint_from

abbrev pub client_keys : List (List ℕ)
client_keys = codes "endpoint" ∷ codes "server" ∷ codes "path" ∷ codes "rights" ∷ []

unfoldable pub client_of : List (List ℕ) → List ClientItem → Data → Option ClientItem
client_of names earlier value =
    if has_only client_keys value then
    only (is_new_endpoint earlier) (endpoint_at value) >>= (λ endpoint.
    server_at names (codes "server") value >>= (λ server.
    path_at (codes "path") value >>= (λ path.
    rights_at value >>= (λ rights.
    Some (record { endpoint = endpoint; server = server; path = path; rights = rights })))))
    else None

-- each item read with those before it: what all stand for, or the place of the first that stands for nothing
unfoldable pub read_all : {X Y : Type 0} → (List Y → X → Option Y) → List Y → List X → Result (List Y) ℕ
read_all read earlier [] = Ok earlier
read_all read earlier (x ∷ xs) = elim (read earlier x) [ None ↦ Err (length earlier) | Some y ↦ read_all read (earlier ++ y ∷ []) xs ]
