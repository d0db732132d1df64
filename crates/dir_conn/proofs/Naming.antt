-- What a Link and a Rename do, by what refuses them.
use Rattle.std.proofs.Common.{◌≡◌, ℕ, Bool, true, false, List, [], ◌∷◌, Option, Some, None, Result, Ok, Err, refl, sym, ◌∙◌}
use Rattle.std.specs.Prelude.{◌&&◌, if◌then◌else◌, is_none, is_some, nat_le, not}
use Rattle.std.specs.FinMap as finite
use Rattle.std.specs.Option.{option_map_or}
use Rattle.fidl_names.specs.First.{cause_if, first_of}
use Rattle.fidl_names.specs.declared.limits.TheConstants as limit
use Rattle.fidl_names.specs.declared.methods.Method.TheVariants as method
use Rattle.fidl_names.specs.declared.statuses.Status.{Status}
use Rattle.node_graph.specs.declared.faults.GraphFault.{GraphFault}
use Rattle.node_graph.specs.declared.faults.GraphFault.TheVariants as fault
use Rattle.node_graph.specs.Graph.{Answers, Kept, Leads, LeadsBy, StandsFor}
use Rattle.node_graph.specs.Refusals.{directory_behind, edge_at, is_directory, is_loop, is_mount, is_no_directory, is_same_name, leads_to, leads_to_names, link_change, link_refusal, rename_change, rename_refusal, replace_refusal, replaced_directory}
use Rattle.node_graph.specs.Tree.{EdgeKey, EdgeTo, Tree, add, is_removed, move, stay}
use Rattle.conn_rules.specs.Answers.{added, failure_of, gone, nothing_told, only, removed}
use Rattle.conn_rules.specs.Contexts.{Context}
use Rattle.conn_rules.specs.NameRows.{link_act, link_into, linked, name_in, rename_act, rename_into, rename_told, renamed, two_names_refusal}
use Rattle.conn_rules.specs.Refusals.{fault_status}
use Rattle.conn_rules.specs.Served.{takes_memory}

-- ---- what a graph's answer says of the refusal

pub done_by : {T : Type 0} (result : Result T GraphFault) (value : T) (refusal : Option GraphFault) → result ≡ Ok value → Answers result refusal → refusal ≡ None
done_by (Ok done) value None is answers = refl
done_by (Ok done) value (Some refusal) is answers = absurd (cc)
done_by (Err found) value refusal is answers = absurd (cc)

pub refused_by : {T : Type 0} (result : Result T GraphFault) (found : GraphFault) (refusal : Option GraphFault) → result ≡ Err found → (found ≡ fault.NoMemory → ⊥) →
    Answers result refusal → refusal ≡ Some found
refused_by (Ok done) found refusal is known answers = absurd (cc)
refused_by (Err given) found None is known answers = absurd (let same : given ≡ found = cc in known (sym same ∙ answers))
refused_by (Err given) found (Some refusal) is known answers = cc

pub wanting_by : {T : Type 0} (result : Result T GraphFault) (refusal : Option GraphFault) → result ≡ Err fault.NoMemory → (refusal ≡ Some fault.NoMemory → ⊥) →
    Answers result refusal → refusal ≡ None
wanting_by (Ok done) refusal is never answers = absurd (cc)
wanting_by (Err given) None is never answers = refl
wanting_by (Err given) (Some refusal) is never answers = absurd (never (cc))

-- ---- no refusal is want of memory

pub link_never_wants : (tree : Tree) (from to : EdgeKey) → link_refusal tree from to ≡ Some fault.NoMemory → ⊥
link_never_wants tree from to is =
    by_parts (is_none (edge_at tree from)) (leads_to is_mount tree from) (leads_to is_directory tree from) (is_removed tree.edges to.directory)
    (is_some (edge_at tree to)) (nat_le limit.MAX_NAMES (finite.len tree.edges)) is
  where
    by_parts : (absent mount directory gone there many : Bool) →
        first_of (cause_if absent fault.NotFound ∷ cause_if mount fault.Unsupported ∷ cause_if directory fault.NotFile ∷ cause_if gone fault.Removed ∷ cause_if there fault.Exists ∷ cause_if many fault.NoSpace ∷ []) ≡ Some fault.NoMemory → ⊥
    by_parts true mount directory gone there many is = cc
    by_parts false true directory gone there many is = cc
    by_parts false false true gone there many is = cc
    by_parts false false false true there many is = cc
    by_parts false false false false true many is = cc
    by_parts false false false false false true is = cc
    by_parts false false false false false false is = cc

replace_never_wants : (tree : Tree) (from to : EdgeKey) → replace_refusal tree from to ≡ Some fault.NoMemory → ⊥
replace_never_wants tree from to is =
    by_parts (leads_to is_mount tree to) (leads_to is_directory tree from && leads_to is_no_directory tree to)
    (leads_to is_no_directory tree from && leads_to is_directory tree to) (leads_to_names tree to) is
  where
    by_parts : (mount no_directory no_file full : Bool) →
        first_of (cause_if mount fault.Unsupported ∷ cause_if no_directory fault.NotDir ∷ cause_if no_file fault.NotFile ∷ cause_if full fault.NotEmpty ∷ []) ≡ Some fault.NoMemory → ⊥
    by_parts true no_directory no_file full is = cc
    by_parts false true no_file full is = cc
    by_parts false false true full is = cc
    by_parts false false false true is = cc
    by_parts false false false false is = cc

over_never_wants : (tree : Tree) (from to : EdgeKey) (same : Bool) → (if same then None else replace_refusal tree from to) ≡ Some fault.NoMemory → ⊥
over_never_wants tree from to true is = cc
over_never_wants tree from to false is = replace_never_wants tree from to is

pub rename_never_wants : (tree : Tree) (from to : EdgeKey) → rename_refusal tree from to ≡ Some fault.NoMemory → ⊥
rename_never_wants tree from to is =
    by_parts (is_none (edge_at tree from)) (leads_to is_mount tree from) (is_removed tree.edges to.directory) (is_loop tree from to.directory)
    (if is_same_name from to then None else replace_refusal tree from to) (over_never_wants tree from to (is_same_name from to)) is
  where
    by_parts : (absent mount gone loop : Bool) (over : Option GraphFault) → (over ≡ Some fault.NoMemory → ⊥) →
        first_of (cause_if absent fault.NotFound ∷ cause_if mount fault.Unsupported ∷ cause_if gone fault.Removed ∷ cause_if loop fault.Loop ∷ over ∷ []) ≡ Some fault.NoMemory → ⊥
    by_parts true mount gone loop over never is = cc
    by_parts false true gone loop over never is = cc
    by_parts false false true loop over never is = cc
    by_parts false false false true over never is = cc
    by_parts false false false false None never is = cc
    by_parts false false false false (Some found) never is = never is

-- ---- changes

-- a second name is the same on each tree that the graph stands for
pub same_link : (before after : Kept) (from to : EdgeKey) (tree : Tree) → StandsFor before tree → LeadsBy before after (λ t. link_change t from to) →
    Leads before after (link_change tree from to)
same_link before new from to tree stands leads other also =
    rw (sym stands.edges ∙ also.edges) (leads other also)

-- a name that can get a second one takes memory
pub link_takes : (tree : Tree) (from to : EdgeKey) → link_refusal tree from to ≡ None → takes_memory (link_change tree from to) ≡ true
link_takes tree from to free = by_edge (edge_at tree from) _ free
  where
    by_edge : (edge : Option EdgeTo) (rest : List (Option GraphFault)) → first_of (cause_if (is_none edge) fault.NotFound ∷ rest) ≡ None →
        takes_memory (option_map_or (λ found. add to found) edge stay) ≡ true
    by_edge None rest is = absurd (cc)
    by_edge (Some edge) rest is = refl

-- and a name that becomes another one
pub rename_takes : (from to : EdgeKey) → (is_same_name from to ≡ true → ⊥) → takes_memory (rename_change from to) ≡ true
rename_takes from to other = by_same (is_same_name from to) other
  where
    by_same : (same : Bool) → (same ≡ true → ⊥) → takes_memory (if same then stay else move from to) ≡ true
    by_same true apart = absurd (apart refl)
    by_same false apart = refl

-- what is told of a rename
pub told_of_rename : (tree : Tree) (from to : EdgeKey) (changed : Bool) (replaced : Option ℕ) → changed ≡ not (is_same_name from to) →
    replaced ≡ replaced_directory tree from to → rename_told tree from to ≡ (if changed then removed from ∷ added to ∷ gone replaced else nothing_told)
told_of_rename tree from to changed replaced is behind = rw (is, behind) (by_same (is_same_name from to))
  where
    by_same : (same : Bool) →
        (if same then nothing_told else removed from ∷ added to ∷ gone (directory_behind tree to))
        ≡ (if not same then removed from ∷ added to ∷ gone (if same then None else directory_behind tree to) else nothing_told)
    by_same true = refl
    by_same false = refl

-- ---- acts

pub link_refused : (context : Context) (src dst : List ℕ) (token : ℕ) (target : Option ℕ) (status : Status) → context.directory token ≡ target →
    Some status ≡ two_names_refusal src dst target → link_act context src token dst ≡ only context.position (failure_of method.Link status)
link_refused context src dst token target status named is = rw (named, sym is) refl

pub link_passed : (context : Context) (src dst : List ℕ) (token : ℕ) (target : Option ℕ) → context.directory token ≡ target →
    None ≡ two_names_refusal src dst target → link_act context src token dst ≡ link_into context src dst target
link_passed context src dst token target named is = rw (named, sym is) refl

pub link_kept_out : (context : Context) (src dst : List ℕ) (into : ℕ) (found : GraphFault) →
    link_refusal context.tree (name_in context.birth.node src) (name_in into dst) ≡ Some found →
    link_into context src dst (Some into) ≡ only context.position (failure_of method.Link (fault_status found))
link_kept_out context src dst into found is = rw is refl

pub link_done : (context : Context) (src dst : List ℕ) (into : ℕ) → link_refusal context.tree (name_in context.birth.node src) (name_in into dst) ≡ None →
    link_into context src dst (Some into) ≡ linked context (name_in context.birth.node src) (name_in into dst)
link_done context src dst into is = rw is refl

pub rename_refused : (context : Context) (src dst : List ℕ) (token : ℕ) (target : Option ℕ) (status : Status) → context.directory token ≡ target →
    Some status ≡ two_names_refusal src dst target → rename_act context src token dst ≡ only context.position (failure_of method.Rename status)
rename_refused context src dst token target status named is = rw (named, sym is) refl

pub rename_passed : (context : Context) (src dst : List ℕ) (token : ℕ) (target : Option ℕ) → context.directory token ≡ target →
    None ≡ two_names_refusal src dst target → rename_act context src token dst ≡ rename_into context src dst target
rename_passed context src dst token target named is = rw (named, sym is) refl

pub rename_kept_out : (context : Context) (src dst : List ℕ) (into : ℕ) (found : GraphFault) →
    rename_refusal context.tree (name_in context.birth.node src) (name_in into dst) ≡ Some found →
    rename_into context src dst (Some into) ≡ only context.position (failure_of method.Rename (fault_status found))
rename_kept_out context src dst into found is = rw is refl

pub rename_done : (context : Context) (src dst : List ℕ) (into : ℕ) → rename_refusal context.tree (name_in context.birth.node src) (name_in into dst) ≡ None →
    rename_into context src dst (Some into) ≡ renamed context (name_in context.birth.node src) (name_in into dst)
rename_done context src dst into is = rw is refl
