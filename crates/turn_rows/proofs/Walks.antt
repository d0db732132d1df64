-- The acts of the row, server by server.
use Rattle.std.proofs.Common.{◌≡◌, ℕ, Bool, true, false, List, [], ◌∷◌, Option, Some, None, codes, refl, ap, ◌∙◌, lit≤, rules}
use Rattle.std.specs.FinMap as finite
use Rattle.std.specs.Prelude.{not, ◌&&◌, is_some, if◌then◌else◌}
use Rattle.std.specs.Option.{option_map}
use Rattle.std.specs.Str.{bytes_eq}
use Rattle.std.proofs.lemmas.List.Elements.{All-cons, All-nil}
use Rattle.std.proofs.lemmas.Str.{IsUtf8-from_ascii}
use Rattle.fidl_names.specs.declared.methods.Method.TheVariants as method
use Rattle.fidl_names.specs.declared.statuses.Status.{Status}
use Rattle.fidl_names.specs.declared.statuses.Status.TheVariants as status
use Rattle.fidl_names.specs.First.{cause_if, first_of}
use Rattle.io_flags.specs.Faults.{flag_fault, status_of}
use Rattle.io_flags.specs.Grants.{asked_rights, explicit_rights, execute_set, granted, granted_kind, onward, write_set}
use Rattle.io_flags.specs.Words.{flags_of, has_unnamed_bit, word_of}
use Rattle.io_messages.specs.Asked as asks
use Rattle.io_messages.specs.declared.protocols.Protocol.TheVariants as protocol
use Rattle.io_rights.specs.declared.operations.Operation.TheVariants as op
use Rattle.io_rights.specs.Operations.{OperationSet, all, is_within, join, meet, set_of_bits, single}
use Rattle.node_graph.specs.Keys.{edges_total}
use Rattle.node_graph.specs.Tree.{EdgeKey, EdgeTo}
use Rattle.node_graph.specs.declared.nodes.NodeKind.TheVariants.{Directory, Mount}
use Rattle.path_walk.specs.declared.faults.PathFault.{PathFault}
use Rattle.path_walk.specs.Names.{IsName, dot, name_fault}
use Rattle.path_walk.specs.Paths.{IsPath, names_of, text_of}
use Rattle.path_walk.proofs.PathLemmas.{path_complete}
use Rattle.conn_rules.specs.Acts.{act_of}
use Rattle.conn_rules.specs.Answers.{binds, forwards, only, refuses}
use Rattle.conn_rules.specs.Births.{Birth, fresh}
use Rattle.conn_rules.specs.Contexts.{Context}
use Rattle.conn_rules.specs.Opens.{by_walk, entry_refusals}
use Rattle.conn_rules.specs.Refusals.{lacks, unless}
use Rattle.conn_rules.specs.Walks.{arrives, behind, crosses, inner_rights, inner_step, last_step, stops, walk}
use Rattle.vfs_journal.specs.Serving.{context_at}
use Rattle.vfs_journal.specs.Starts.{directory_birth}
use Rattle.turn_law.specs.Told.{newborn, still}
use Rattle.turn_rows.specs.Rows.{narrow, on_root, read_there, tell_and_traverse, three_servers, tree_with}

-- ---- paths

is_name : (name : List ℕ) → name_fault name ≡ None → IsName name
is_name name h = h

three_names : IsPath (codes "m/n/d") (codes "m" ∷ codes "n" ∷ codes "d" ∷ [])
unfolding text_of name_fault
three_names = record {
  spelled = refl;
  valid = All-cons IsName (codes "m") (codes "n" ∷ codes "d" ∷ []) (is_name (codes "m") refl) (All-cons IsName (codes "n") (codes "d" ∷ []) (is_name (codes "n") refl) (All-cons IsName (codes "d") [] (is_name (codes "d") refl) (All-nil IsName)));
  short = lit≤ tt;
  utf8 = IsUtf8-from_ascii (codes "m/n/d") (search rules);
}

pub two_names : IsPath (codes "n/d") (codes "n" ∷ codes "d" ∷ [])
unfolding text_of name_fault
two_names = record {
  spelled = refl;
  valid = All-cons IsName (codes "n") (codes "d" ∷ []) (is_name (codes "n") refl) (All-cons IsName (codes "d") [] (is_name (codes "d") refl) (All-nil IsName));
  short = lit≤ tt;
  utf8 = IsUtf8-from_ascii (codes "n/d") (search rules);
}

pub one_name : IsPath (codes "d") (codes "d" ∷ [])
unfolding text_of name_fault
one_name = record {
  spelled = refl;
  valid = All-cons IsName (codes "d") [] (is_name (codes "d") refl) (All-nil IsName);
  short = lit≤ tt;
  utf8 = IsUtf8-from_ascii (codes "d") (search rules);
}

-- ---- what is tested before a walk

unfoldable pub entry_with : OperationSet → ℕ → List ℕ → Option PathFault → Option Status
entry_with rights word path fault =
    first_of
    (option_map status_of (flag_fault word)
    ∷ cause_if (is_some fault) status.InvalidArgs
    ∷ cause_if (not (bytes_eq path dot) && lacks rights (single op.Traverse)) status.AccessDenied
    ∷ cause_if (lacks rights (asked_rights word)) status.AccessDenied
    ∷ [])

entry_is : (rights : OperationSet) (word : ℕ) (path : List ℕ) (names : List (List ℕ)) → IsPath path names → first_of (entry_refusals (directory_birth 1 rights) word path) ≡ entry_with rights word path None
unfolding entry_with
entry_is rights word path names is = ap (entry_with rights word path) (path_complete path names is).0

told_entry : (path : List ℕ) → bytes_eq path dot ≡ false → entry_with all tell_and_traverse path None ≡ None
unfolding entry_with flag_fault flags_of has_unnamed_bit is_within join asked_rights
told_entry path other = ap (λ (b : Bool). first_of (cause_if (not b && lacks all (single op.Traverse)) status.AccessDenied ∷ None ∷ [])) other

read_entry : (path : List ℕ) → bytes_eq path dot ≡ false → entry_with all read_there path None ≡ None
unfolding entry_with flag_fault flags_of has_unnamed_bit is_within join asked_rights
read_entry path other = ap (λ (b : Bool). first_of (cause_if (not b && lacks all (single op.Traverse)) status.AccessDenied ∷ None ∷ [])) other

told_last : entry_with narrow tell_and_traverse (codes "d") None ≡ None
unfolding entry_with flag_fault flags_of has_unnamed_bit is_within join asked_rights set_of_bits
told_last = refl

read_last : entry_with narrow read_there (codes "d") None ≡ Some status.AccessDenied
unfolding entry_with flag_fault flags_of has_unnamed_bit is_within join asked_rights set_of_bits
read_last = refl

-- ---- walks

key_in : ℕ → List ℕ → EdgeKey
key_in directory name = record { directory = directory; name = name }

edge_to : ℕ → OperationSet → EdgeTo
edge_to child mask = record { child = child; mask = mask }

over_m : (word : ℕ) → is_within (inner_rights word) all ≡ true → walk (tree_with (Mount 0) (codes "m")) word (codes "m" ∷ codes "n" ∷ codes "d" ∷ []) 1 ≡ crosses 0 (codes "n" ∷ codes "d" ∷ []) (all ∷ [])
unfolding walk key_in edge_to
over_m word within =
    let tree = tree_with (Mount 0) (codes "m") in
    let rest : List (List ℕ) = codes "n" ∷ codes "d" ∷ [] in
    ap (λ (o : Option EdgeTo). inner_step tree word rest o (walk tree word rest)) (finite.get-from_entries edges_total ((key_in 1 (codes "m"), edge_to 2 all) ∷ []) (key_in 1 (codes "m")))
    ∙ ap (λ (b : Bool). if b then behind all (crosses 0 rest []) else stops status.AccessDenied) within

over_n : (word : ℕ) → is_within (inner_rights word) all ≡ true → walk (tree_with (Mount 1) (codes "n")) word (codes "n" ∷ codes "d" ∷ []) 1 ≡ crosses 1 (codes "d" ∷ []) (all ∷ [])
unfolding walk key_in edge_to
over_n word within =
    let tree = tree_with (Mount 1) (codes "n") in
    let rest : List (List ℕ) = codes "d" ∷ [] in
    ap (λ (o : Option EdgeTo). inner_step tree word rest o (walk tree word rest)) (finite.get-from_entries edges_total ((key_in 1 (codes "n"), edge_to 2 all) ∷ []) (key_in 1 (codes "n")))
    ∙ ap (λ (b : Bool). if b then behind all (crosses 1 rest []) else stops status.AccessDenied) within

to_d : walk (tree_with Directory (codes "d")) tell_and_traverse (codes "d" ∷ []) 1 ≡ arrives 2 (all ∷ [])
unfolding walk key_in edge_to is_within explicit_rights flags_of
to_d = ap (λ (o : Option EdgeTo). last_step (tree_with Directory (codes "d")) tell_and_traverse 1 (codes "d") o) (finite.get-from_entries edges_total ((key_in 1 (codes "d"), edge_to 2 all) ∷ []) (key_in 1 (codes "d")))

-- ---- the flags that go on are those that came

pub told_on : onward tell_and_traverse (meet all all) ≡ tell_and_traverse
unfolding onward flags_of word_of is_within join write_set execute_set meet
told_on = refl

pub read_on : onward read_there (meet all all) ≡ read_there
unfolding onward flags_of word_of is_within join write_set execute_set meet
read_on = refl

told_inner : is_within (inner_rights tell_and_traverse) all ≡ true
unfolding is_within join asked_rights flags_of
told_inner = refl

read_inner : is_within (inner_rights read_there) all ≡ true
unfolding is_within join asked_rights flags_of
read_inner = refl

-- ---- acts

abbrev pub at_first : Context
at_first = context_at (still three_servers (newborn (on_root 1 0 all)))

abbrev pub at_second : Context
at_second = context_at (still three_servers (newborn (on_root 0x40000000 1 all)))

abbrev pub at_third : Context
at_third = context_at (still three_servers (newborn (on_root 0x40000001 2 narrow)))

pub first_act : (word object : ℕ) → entry_with all word (codes "m/n/d") None ≡ None → is_within (inner_rights word) all ≡ true → onward word (meet all all) ≡ word →
    act_of at_first (asks.open_path (codes "m/n/d") word None object) ≡ only fresh (forwards 0 word (codes "n" ∷ codes "d" ∷ []))
unfolding act_of names_of
first_act word object entry within on =
    ap (λ (o : Option Status). unless o fresh method.OpenPath (by_walk at_first word (walk (tree_with (Mount 0) (codes "m")) word (codes "m" ∷ codes "n" ∷ codes "d" ∷ []) 1))) (entry_is all word (codes "m/n/d") _ three_names ∙ entry)
    ∙ ap (by_walk at_first word) (over_m word within)
    ∙ ap (λ (w : ℕ). only fresh (forwards 0 w (codes "n" ∷ codes "d" ∷ []))) on

pub second_act : (word object : ℕ) → entry_with all word (codes "n/d") None ≡ None → is_within (inner_rights word) all ≡ true → onward word (meet all all) ≡ word →
    act_of at_second (asks.open_path (codes "n/d") word None object) ≡ only fresh (forwards 1 word (codes "d" ∷ []))
unfolding act_of names_of
second_act word object entry within on =
    ap (λ (o : Option Status). unless o fresh method.OpenPath (by_walk at_second word (walk (tree_with (Mount 1) (codes "n")) word (codes "n" ∷ codes "d" ∷ []) 1))) (entry_is all word (codes "n/d") _ two_names ∙ entry)
    ∙ ap (by_walk at_second word) (over_n word within)
    ∙ ap (λ (w : ℕ). only fresh (forwards 1 w (codes "d" ∷ []))) on

abbrev pub birth_of_d : Birth
birth_of_d = record { node = 2; rights = set_of_bits 0x80; protocol = protocol.Directory; append = false }

pub told_act : (object : ℕ) → act_of at_third (asks.open_path (codes "d") tell_and_traverse None object) ≡ only fresh (binds birth_of_d true)
unfolding act_of names_of is_within join meet flags_of granted granted_kind write_set execute_set explicit_rights set_of_bits
told_act object =
    ap (λ (o : Option Status). unless o fresh method.OpenPath (by_walk at_third tell_and_traverse (walk (tree_with Directory (codes "d")) tell_and_traverse (codes "d" ∷ []) 1))) (entry_is narrow tell_and_traverse (codes "d") _ one_name ∙ told_last)
    ∙ ap (by_walk at_third tell_and_traverse) to_d

pub read_act : (object : ℕ) → act_of at_third (asks.open_path (codes "d") read_there None object) ≡ only fresh (refuses status.AccessDenied)
unfolding act_of names_of
read_act object =
    ap (λ (o : Option Status). unless o fresh method.OpenPath (by_walk at_third read_there (walk (tree_with Directory (codes "d")) read_there (codes "d" ∷ []) 1))) (entry_is narrow read_there (codes "d") _ one_name ∙ read_last)

pub told_first : (object : ℕ) → act_of at_first (asks.open_path (codes "m/n/d") tell_and_traverse None object) ≡ only fresh (forwards 0 tell_and_traverse (codes "n" ∷ codes "d" ∷ []))
told_first object = first_act tell_and_traverse object (told_entry (codes "m/n/d") refl) told_inner told_on

pub told_second : (object : ℕ) → act_of at_second (asks.open_path (codes "n/d") tell_and_traverse None object) ≡ only fresh (forwards 1 tell_and_traverse (codes "d" ∷ []))
told_second object = second_act tell_and_traverse object (told_entry (codes "n/d") refl) told_inner told_on

pub read_first : (object : ℕ) → act_of at_first (asks.open_path (codes "m/n/d") read_there None object) ≡ only fresh (forwards 0 read_there (codes "n" ∷ codes "d" ∷ []))
read_first object = first_act read_there object (read_entry (codes "m/n/d") refl) read_inner read_on

pub read_second : (object : ℕ) → act_of at_second (asks.open_path (codes "n/d") read_there None object) ≡ only fresh (forwards 1 read_there (codes "d" ∷ []))
read_second object = second_act read_there object (read_entry (codes "n/d") refl) read_inner read_on
