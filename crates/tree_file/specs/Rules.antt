-- The rules of a tree, and the first that one breaks.
use Rattle.std.specs.Prelude.{ℕ, Bool, true, false, not, ◌&&◌, ◌==◌, if◌then◌else◌, List, [], ◌∷◌, ◌++◌, length, codes, ℤ, pos, negsuc, Option, Some, None, unwrap_or, Result}
use Rattle.std.specs.List.{list_all}
use Rattle.std.specs.Option.{option_map, option_map_or}
use Rattle.std.specs.Result.{result_ok, result_err}
use Rattle.std.specs.Str.{is_utf8}
use Rattle.toml.specs.Data.{Data, table, get, as_array, as_integer}
use Rattle.toml.specs.Parse.{parse_document}
use Rattle.session_start.specs.Items.{NodeItem, MountItem, ClientItem, Lists}
use Rattle.session_start.specs.RulesOnLists.{first_broken, rules_on_lists}
use Rattle.tree_file.specs.Fields.{has_only, list_of, is_table}
use Rattle.tree_file.specs.Reading.{read_all, server_of, node_of, mount_of, client_of}

-- the table that a text is, as a value; none where the reader of TOML refuses it
abbrev pub document_of : List ℕ → Option Data
document_of text = if is_utf8 text then option_map table (parse_document text) else None

abbrev pub when_broken : Bool → Option ℕ
when_broken holds = if holds then None else Some 0

-- the keys of the document, and its version
abbrev pub document_keys : List (List ℕ)
document_keys = codes "version" ∷ codes "server" ∷ codes "node" ∷ codes "mount" ∷ codes "client" ∷ []

abbrev pub is_one : ℤ → Bool
is_one (pos number) = number == 1
is_one (negsuc number) = false

abbrev pub is_version_one : Option Data → Bool
is_version_one None = false
is_version_one (Some value) = option_map_or is_one (as_integer value) false

unfoldable pub is_versioned : Data → Bool
is_versioned document = has_only document_keys document && is_version_one (get (codes "version") document)

abbrev pub rule_2 : Data → Option ℕ
rule_2 document = when_broken (is_versioned document)

-- the items of the list at a key; none where the key is missing
abbrev pub items_from : Option Data → List Data
items_from None = []
items_from (Some value) = option_map_or list_of (as_array value) []

unfoldable pub items_at : List ℕ → Data → List Data
items_at key document = items_from (get key document)

-- no value, or an array of tables
abbrev pub are_tables : Option Data → Bool
are_tables None = true
are_tables (Some value) = option_map_or (λ items. list_all is_table (list_of items)) (as_array value) false

unfoldable pub has_tables : List ℕ → Data → Bool
has_tables key document = are_tables (get key document)

abbrev pub has_all_tables : Data → Bool
has_all_tables document =
    ((has_tables (codes "server") document && has_tables (codes "node") document) && has_tables (codes "mount") document)
    && has_tables (codes "client") document

abbrev pub has_items : List ℕ → Data → Bool
has_items key document = not (length (items_at key document) == 0)

unfoldable pub has_lists : Data → Bool
has_lists document = (has_all_tables document && has_items (codes "server") document) && has_items (codes "client") document

abbrev pub rule_3 : Data → Option ℕ
rule_3 document = when_broken (has_lists document)

-- the lists of a document, item by item; each up to where an item breaks its rule
abbrev pub read_servers : Data → Result (List (List ℕ)) ℕ
read_servers document = read_all server_of [] (items_at (codes "server") document)

abbrev pub all_or_none : {X : Type 0} → Result (List X) ℕ → List X
all_or_none read = unwrap_or (result_ok read) []

abbrev pub servers_of : Data → List (List ℕ)
servers_of document = all_or_none (read_servers document)

abbrev pub read_nodes : Data → Result (List NodeItem) ℕ
read_nodes document = read_all (λ _. node_of (servers_of document)) [] (items_at (codes "node") document)

abbrev pub read_mounts : Data → Result (List MountItem) ℕ
read_mounts document = read_all (λ _. mount_of (servers_of document)) [] (items_at (codes "mount") document)

abbrev pub read_clients : Data → Result (List ClientItem) ℕ
read_clients document = read_all (client_of (servers_of document)) [] (items_at (codes "client") document)

abbrev pub lists_of : Data → Lists
lists_of document =
    record {
      servers = servers_of document;
      nodes = all_or_none (read_nodes document);
      mounts = all_or_none (read_mounts document);
      clients = all_or_none (read_clients document);
    }

-- rules 4 to 7: of each server, node, mount and client
abbrev pub rule_4 : Data → Option ℕ
rule_4 document = result_err (read_servers document)

abbrev pub rule_5 : Data → Option ℕ
rule_5 document = result_err (read_nodes document)

abbrev pub rule_6 : Data → Option ℕ
rule_6 document = result_err (read_mounts document)

abbrev pub rule_7 : Data → Option ℕ
rule_7 document = result_err (read_clients document)

abbrev pub rules_on_form : Data → List (Option ℕ)
rules_on_form document = rule_2 document ∷ rule_3 document ∷ rule_4 document ∷ rule_5 document ∷ rule_6 document ∷ rule_7 document ∷ []

-- the first broken rule of a document, and of a text: one that isn't read breaks the first rule
abbrev pub broken_in : Data → Option (ℕ × ℕ)
broken_in document = first_broken 2 (rules_on_form document ++ rules_on_lists (lists_of document))

abbrev pub failure_of : Option Data → Option (ℕ × ℕ)
failure_of None = Some (1, 0)
failure_of (Some document) = broken_in document

unfoldable pub first_failure : List ℕ → Option (ℕ × ℕ)
first_failure text = failure_of (document_of text)

-- the start that a text stands for
unfoldable pub start_from : List ℕ → Option Lists
start_from text = option_map lists_of (document_of text)
