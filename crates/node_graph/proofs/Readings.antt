-- What a graph tells of each tree that it stands for, and so which refusals hold.
use Rattle.std.proofs.Common.{◌≡◌, nat_le, Result, Ok, Err, IsErrAnd, IfErr, ℕ, ◌<◌, ◌-◌, ◌^◌, [], ◌∷◌, Option, Some, None, refl, ap, sym, ◌∙◌, subst, arith, Bool, true, false, ◌&&◌, IfSome}
use Rattle.std.specs.Prelude.{OnErr, OnOk, IfOk, is_some, is_none, if◌then◌else◌}
use Rattle.std.specs.Option.{option_map, option_map_or, option_or}
use Rattle.std.specs.FinMap as finite
use Rattle.slab.specs.Slab.{Slab, get, ContainsKey}
use Rattle.fidl_names.specs.First.{cause_if, first_of}
use Rattle.fidl_names.specs.declared.limits.TheConstants as limit
use Rattle.fidl_names.proofs.FirstLaws.{first_of-append}
use Rattle.node_graph.specs.declared.faults.GraphFault.{GraphFault}
use Rattle.node_graph.specs.declared.faults.GraphFault.TheVariants as fault
use Rattle.node_graph.specs.declared.nodes.NodeKind.{NodeKind}
use Rattle.node_graph.specs.declared.nodes.NodeKind.TheVariants.{Directory, File, Service, Mount}
use Rattle.node_graph.specs.declared.nodes.Entry.{Entry}
use Rattle.node_graph.specs.Cell.{Cell}
use Rattle.node_graph.specs.Tree.{Tree, Edges, EdgeKey, EdgeTo, NodeRow, kind_of, link_count, is_removed, has_one_name, add, stay}
use Rattle.node_graph.specs.Refusals.{is_directory, is_mount, is_no_directory, edge_at, leads_to, directory_behind, has_names, leads_to_names, unlink_refusal, link_refusal, link_change, is_same_name, replace_refusal, rename_refusal, is_loop, lies_within}
use Rattle.node_graph.specs.Graph.{Kept, Names, kind_at, holds_at, SameHolds, KeepsNames, StandsFor, create_refusal}
use Rattle.node_graph.specs.Ends.{Ends, HasNamesAsDirectory, end_of, edges_of}
use Rattle.node_graph.specs.Rows.{kept_of, AreRows}
use Rattle.node_graph.proofs.RowLists.{mapped, same_some}
use Rattle.node_graph.proofs.Linked.{get-edges_of, names_by}
use Rattle.node_graph.proofs.Steps.{leads_count}
use Rattle.node_graph.proofs.Calls.{child_seat}

-- a node that a name leads to is linked
pub linked_here : (nodes : Slab Cell) (ends : Ends) (made : ℕ) → AreRows nodes ends made → (key : EdgeKey) (to : Entry) → finite.get ends key ≡ Some to → IfSome (get nodes to.node.place) (λ cell. 0 < cell.links)
linked_here nodes ends made rows key to there =
    let child = rows.children key to there in
    let count : child.0.links ≡ link_count (edges_of ends) to.node.number = rows.links to.node.place child.0 child.1 ∙ ap (link_count (edges_of ends)) child.2 in
    let some = leads_count ends key to there in
    let P : Option Cell → Type 0 = λ o. IfSome o (λ cell. 0 < cell.links) in
    subst P (sym child.1) (omega (arith, count, some))

-- what has names in it is a directory
pub names_here : (nodes : Slab Cell) (ends : Ends) (made : ℕ) → AreRows nodes ends made → (key : EdgeKey) (to : Entry) → finite.get ends key ≡ Some to → HasNamesAsDirectory ends to.node to.kind
names_here nodes ends made rows key to there full =
    let edge = names_by (edges_of ends) to.node.number full in
    let inner = mapped end_of (finite.get ends edge.0) edge.1 (sym (get-edges_of ends edge.0) ∙ edge.2) in
    let child = rows.children key to there in
    let above = rows.parents edge.0 inner.0 inner.1 in
    let place = rows.apart above.0 to.node.place above.1.0 child.0 above.1.1 child.1 (above.1.2 ∙ edge.3 ∙ sym child.2) in
    let cell_is : above.1.0 ≡ child.0 = same_some _ _ (sym above.1.1 ∙ ap (get nodes) place ∙ child.1) in
    ap is_directory (sym child.3 ∙ ap (λ (c : Cell). c.kind) (sym cell_is) ∙ above.1.3.0)

module _ (nodes : Slab Cell) (ends : Ends) (made : ℕ) (graph : Kept) (view : kept_of nodes ends made ≡ graph) (rows : AreRows nodes ends made) (tree : Tree) (stands : StandsFor graph tree) where
  pub edges_are : edges_of ends ≡ tree.edges
  edges_are = ap (λ (g : Kept). g.edges) view ∙ stands.edges

  pub edge_is : (key : EdgeKey) (o : Option Entry) → finite.get ends key ≡ o → edge_at tree key ≡ option_map end_of o
  edge_is key o there = ap (λ (e : Edges). finite.get e key) (sym edges_are) ∙ get-edges_of ends key ∙ ap (option_map end_of) there

  module _ (key : EdgeKey) (to : Entry) (there : finite.get ends key ≡ Some to) where
    pub kind_is : kind_of tree to.node.number ≡ Some to.kind
    kind_is =
        ap (option_map (λ (r : NodeRow). r.kind)) (stands.rows to.node.number _ (child_seat nodes ends made graph view rows key to there)) ∙ ap Some (rows.children key to there).3

    pub leads : (test : NodeKind → Bool) → leads_to test tree key ≡ test to.kind
    leads test =
        ap (λ o. option_map_or (λ (t : EdgeTo). option_map_or test (kind_of tree t.child) false) o false) (edge_is key (Some to) there) ∙ ap (λ o. option_map_or test o false) kind_is

    pub names_behind : leads_to_names tree key ≡ has_names (edges_of ends) to.node.number
    names_behind =
        ap (λ o. option_map_or (λ (t : EdgeTo). has_names tree.edges t.child) o false) (edge_is key (Some to) there) ∙ ap (λ (e : Edges). has_names e to.node.number) (sym edges_are)

    pub behind : directory_behind tree key ≡ (if is_directory to.kind then Some to.node.number else None)
    behind =
        ap (λ b. if b then option_map (λ (t : EdgeTo). t.child) (edge_at tree key) else None) (leads is_directory)
        ∙ ap (λ o. if is_directory to.kind then option_map (λ (t : EdgeTo). t.child) o else None) (edge_is key (Some to) there)

-- ---- unlink

abbrev unlink_causes : Bool → Bool → Bool → Bool → Option GraphFault
unlink_causes absent mount no_directory full = first_of (cause_if absent fault.NotFound ∷ cause_if mount fault.Unsupported ∷ cause_if no_directory fault.NotDir ∷ cause_if full fault.NotEmpty ∷ [])

module _ (nodes : Slab Cell) (ends : Ends) (made : ℕ) (graph : Kept) (view : kept_of nodes ends made ≡ graph) (rows : AreRows nodes ends made) (tree : Tree) (stands : StandsFor graph tree) (key : EdgeKey) (must_be_dir : Bool) where
  pub unlink_none : finite.get ends key ≡ None → unlink_refusal tree key must_be_dir ≡ Some fault.NotFound
  unlink_none none =
      ap (λ o. unlink_causes (is_none o) (leads_to is_mount tree key) (must_be_dir && leads_to is_no_directory tree key) (leads_to_names tree key)) (edge_is nodes ends made graph view rows tree stands key None none)

  pub unlink_some : (to : Entry) → finite.get ends key ≡ Some to
      → unlink_refusal tree key must_be_dir ≡ first_of (cause_if (is_mount to.kind) fault.Unsupported ∷ cause_if (must_be_dir && is_no_directory to.kind) fault.NotDir ∷ cause_if (has_names (edges_of ends) to.node.number) fault.NotEmpty ∷ [])
  unlink_some to there =
      ap (λ o. unlink_causes (is_none o) (leads_to is_mount tree key) (must_be_dir && leads_to is_no_directory tree key) (leads_to_names tree key)) (edge_is nodes ends made graph view rows tree stands key (Some to) there)
      ∙ ap (λ b. unlink_causes false b (must_be_dir && leads_to is_no_directory tree key) (leads_to_names tree key)) (leads nodes ends made graph view rows tree stands key to there is_mount)
      ∙ ap (λ b. unlink_causes false (is_mount to.kind) (must_be_dir && b) (leads_to_names tree key)) (leads nodes ends made graph view rows tree stands key to there is_no_directory)
      ∙ ap (λ b. unlink_causes false (is_mount to.kind) (must_be_dir && is_no_directory to.kind) b) (names_behind nodes ends made graph view rows tree stands key to there)

-- what isn't refused has no names in it
pub unlink_bare : (mount no_directory full : Bool) → first_of (cause_if mount fault.Unsupported ∷ cause_if no_directory fault.NotDir ∷ cause_if full fault.NotEmpty ∷ []) ≡ None → full ≡ false
unlink_bare true no_directory full e = absurd (let wrong : Some fault.Unsupported ≡ None = e in cc)
unlink_bare false true full e = absurd (let wrong : Some fault.NotDir ≡ None = e in cc)
unlink_bare false false true e = absurd (let wrong : Some fault.NotEmpty ≡ None = e in cc)
unlink_bare false false false e = refl

-- ---- link

abbrev link_causes : Bool → Bool → Bool → Bool → Bool → Bool → Option GraphFault
link_causes absent mount directory cut there full =
    first_of (cause_if absent fault.NotFound ∷ cause_if mount fault.Unsupported ∷ cause_if directory fault.NotFile ∷ cause_if cut fault.Removed ∷ cause_if there fault.Exists ∷ cause_if full fault.NoSpace ∷ [])

module _ (nodes : Slab Cell) (ends : Ends) (made : ℕ) (graph : Kept) (view : kept_of nodes ends made ≡ graph) (rows : AreRows nodes ends made) (tree : Tree) (stands : StandsFor graph tree) (from key : EdgeKey) where
  pub link_none : finite.get ends from ≡ None → link_refusal tree from key ≡ Some fault.NotFound
  link_none none =
      ap (λ o. link_causes (is_none o) (leads_to is_mount tree from) (leads_to is_directory tree from) (is_removed tree.edges key.directory) (is_some (edge_at tree key)) (nat_le limit.MAX_NAMES (finite.len tree.edges)))
      (edge_is nodes ends made graph view rows tree stands from None none)

  link_some : (to : Entry) → finite.get ends from ≡ Some to
      → link_refusal tree from key ≡ link_causes false (is_mount to.kind) (is_directory to.kind) (is_removed graph.edges key.directory) (is_some (finite.get graph.edges key)) (nat_le limit.MAX_NAMES (finite.len graph.edges))
  link_some to there =
      ap (λ o. link_causes (is_none o) (leads_to is_mount tree from) (leads_to is_directory tree from) (is_removed tree.edges key.directory) (is_some (edge_at tree key)) (nat_le limit.MAX_NAMES (finite.len tree.edges)))
      (edge_is nodes ends made graph view rows tree stands from (Some to) there)
      ∙ ap (λ b. link_causes false b (leads_to is_directory tree from) (is_removed tree.edges key.directory) (is_some (edge_at tree key)) (nat_le limit.MAX_NAMES (finite.len tree.edges))) (leads nodes ends made graph view rows tree stands from to there is_mount)
      ∙ ap (λ b. link_causes false (is_mount to.kind) b (is_removed tree.edges key.directory) (is_some (edge_at tree key)) (nat_le limit.MAX_NAMES (finite.len tree.edges))) (leads nodes ends made graph view rows tree stands from to there is_directory)
      ∙ ap (λ (e : Edges). link_causes false (is_mount to.kind) (is_directory to.kind) (is_removed e key.directory) (is_some (finite.get e key)) (nat_le limit.MAX_NAMES (finite.len e))) (sym stands.edges)

  module _ (to : Entry) (there : finite.get ends from ≡ Some to) (kind_fault : Option GraphFault) (kind_is_it : kind_fault ≡ first_of (cause_if (is_mount to.kind) fault.Unsupported ∷ cause_if (is_directory to.kind) fault.NotFile ∷ [])) where
    behind_kinds : link_refusal tree from key ≡ option_or kind_fault (create_refusal graph.edges key)
    behind_kinds =
        link_some to there
        ∙ first_of-append (cause_if (is_mount to.kind) fault.Unsupported ∷ cause_if (is_directory to.kind) fault.NotFile ∷ []) (cause_if (is_removed graph.edges key.directory) fault.Removed ∷ cause_if (is_some (finite.get graph.edges key)) fault.Exists ∷ cause_if (nat_le limit.MAX_NAMES (finite.len graph.edges)) fault.NoSpace ∷ [])
        ∙ ap (λ o. option_or o (create_refusal graph.edges key)) (sym kind_is_it)

    pub link_kind : (found : GraphFault) → kind_fault ≡ Some found → link_refusal tree from key ≡ Some found
    link_kind found e = behind_kinds ∙ ap (λ o. option_or o (create_refusal graph.edges key)) e

    pub link_rest : kind_fault ≡ None → link_refusal tree from key ≡ create_refusal graph.edges key
    link_rest e = behind_kinds ∙ ap (λ o. option_or o (create_refusal graph.edges key)) e

    pub link_is : link_change tree from key ≡ add key (end_of to)
    link_is = ap (λ o. option_map_or (λ edge. add key edge) o stay) (edge_is nodes ends made graph view rows tree stands from (Some to) there)

-- a node of a kind that may have a second name
pub many_names : (kind : NodeKind) → first_of (cause_if (is_mount kind) fault.Unsupported ∷ cause_if (is_directory kind) fault.NotFile ∷ []) ≡ None → has_one_name kind ≡ false
many_names Directory e = absurd (let wrong : Some fault.NotFile ≡ None = e in cc)
many_names File e = refl
many_names Service e = refl
many_names (Mount index) e = absurd (let wrong : Some fault.Unsupported ≡ None = e in cc)

-- an error that says want of memory says nothing else
pub only_memory : {T : Type 0} (result : Result T GraphFault) → IsErrAnd result (λ found. found ≡ fault.NoMemory) → IfErr result (λ found. found ≡ fault.NoMemory)
only_memory (Ok value) memory = tt
only_memory (Err found) memory = memory

-- what holds holds of each error
pub on_err : {T E P : Type 0} (result : Result T E) → P → OnErr result P
on_err (Ok value) holds = tt
on_err (Err found) holds = holds

-- want of memory is no success
pub not_ok : {T : Type 0} (P : Type 0) (result : Result T GraphFault) → IsErrAnd result (λ found. found ≡ fault.NoMemory) → OnOk result P
not_ok P (Ok value) memory = absurd memory
not_ok P (Err found) memory = tt

pub not_if_ok : {T : Type 0} (P : T → Type 0) (result : Result T GraphFault) → IsErrAnd result (λ found. found ≡ fault.NoMemory) → IfOk result P
not_if_ok P (Ok value) memory = absurd memory
not_if_ok P (Err found) memory = tt

-- what is as it was keeps its holds and names
pub stays_held : {old new : Kept} → new ≡ old → SameHolds old new
stays_held still number = ap (λ (g : Kept). holds_at g number) still

pub stays_named : {old new : Kept} → new ≡ old → KeepsNames old new
stays_named {old} {new} still node named kept =
    let P : Kept → Type 0 = λ g. Names g node × (kind_at g node.number ≡ kind_at old node.number) in
    subst P (sym still) (named, refl)

-- ---- rename

abbrev rename_causes : Bool → Bool → Bool → Bool → Option GraphFault → Option GraphFault
rename_causes absent mount cut loop over = first_of (cause_if absent fault.NotFound ∷ cause_if mount fault.Unsupported ∷ cause_if cut fault.Removed ∷ cause_if loop fault.Loop ∷ over ∷ [])

abbrev replace_causes : Bool → Bool → Bool → Bool → Option GraphFault
replace_causes mount no_directory no_file full = first_of (cause_if mount fault.Unsupported ∷ cause_if no_directory fault.NotDir ∷ cause_if no_file fault.NotFile ∷ cause_if full fault.NotEmpty ∷ [])

and_false : (a : Bool) → (a && false) ≡ false
and_false true = refl
and_false false = refl

last_cause : (cause : Option GraphFault) → first_of (cause ∷ []) ≡ cause
last_cause None = refl
last_cause (Some found) = refl

-- what isn't refused stands in a directory that wasn't removed, and replaces nothing with names in it
pub move_removed : (mount cut loop : Bool) → first_of (cause_if mount fault.Unsupported ∷ cause_if cut fault.Removed ∷ cause_if loop fault.Loop ∷ []) ≡ None → cut ≡ false
move_removed true cut loop e = absurd (let wrong : Some fault.Unsupported ≡ None = e in cc)
move_removed false true loop e = absurd (let wrong : Some fault.Removed ≡ None = e in cc)
move_removed false false loop e = refl

-- and it makes no loop
pub move_loop : (mount cut loop : Bool) → first_of (cause_if mount fault.Unsupported ∷ cause_if cut fault.Removed ∷ cause_if loop fault.Loop ∷ []) ≡ None → loop ≡ false
move_loop true cut loop e = absurd (let wrong : Some fault.Unsupported ≡ None = e in cc)
move_loop false true loop e = absurd (let wrong : Some fault.Removed ≡ None = e in cc)
move_loop false false true e = absurd (let wrong : Some fault.Loop ≡ None = e in cc)
move_loop false false false e = refl

-- no such refusal is want of memory
pub move_memory : (mount cut loop : Bool) → first_of (cause_if mount fault.Unsupported ∷ cause_if cut fault.Removed ∷ cause_if loop fault.Loop ∷ []) ≡ Some fault.NoMemory → ⊥
move_memory true cut loop e = let wrong : Some fault.Unsupported ≡ Some fault.NoMemory = e in cc
move_memory false true loop e = let wrong : Some fault.Removed ≡ Some fault.NoMemory = e in cc
move_memory false false true e = let wrong : Some fault.Loop ≡ Some fault.NoMemory = e in cc
move_memory false false false e = let wrong : None ≡ Some fault.NoMemory = e in cc

pub replace_bare : (mount no_directory no_file full : Bool) → replace_causes mount no_directory no_file full ≡ None → full ≡ false
replace_bare true no_directory no_file full e = absurd (let wrong : Some fault.Unsupported ≡ None = e in cc)
replace_bare false true no_file full e = absurd (let wrong : Some fault.NotDir ≡ None = e in cc)
replace_bare false false true full e = absurd (let wrong : Some fault.NotFile ≡ None = e in cc)
replace_bare false false false true e = absurd (let wrong : Some fault.NotEmpty ≡ None = e in cc)
replace_bare false false false false e = refl

-- why a node of this kind doesn't take the place of what is there
abbrev pub replace_cause : Ends → NodeKind → Option Entry → Option GraphFault
replace_cause ends kind gone =
    option_map_or (λ to. replace_causes (is_mount to.kind) (is_directory kind && is_no_directory to.kind) (is_no_directory kind && is_directory to.kind) (has_names (edges_of ends) to.node.number)) gone None

pub replaced_bare : (ends : Ends) (kind : NodeKind) (gone : Option Entry) → replace_cause ends kind gone ≡ None → IfSome gone (λ to. has_names (edges_of ends) to.node.number ≡ false)
replaced_bare ends kind None free = tt
replaced_bare ends kind (Some to) free = replace_bare _ _ _ _ free

-- what is replaced is there, linked, has a number that isn't the last one, and names in it only as a directory
pub replaced_present : (nodes : Slab Cell) (ends : Ends) (made : ℕ) → AreRows nodes ends made → (key : EdgeKey) (gone : Option Entry) → finite.get ends key ≡ gone → IfSome gone (λ to. ContainsKey nodes to.node.place)
replaced_present nodes ends made rows key None is = tt
replaced_present nodes ends made rows key (Some to) is = ap is_some (rows.children key to is).1

pub replaced_linked : (nodes : Slab Cell) (ends : Ends) (made : ℕ) → AreRows nodes ends made → (key : EdgeKey) (gone : Option Entry) → finite.get ends key ≡ gone → IfSome gone (λ to. IfSome (get nodes to.node.place) (λ cell. 0 < cell.links))
replaced_linked nodes ends made rows key None is = tt
replaced_linked nodes ends made rows key (Some to) is = linked_here nodes ends made rows key to is

pub replaced_number : (nodes : Slab Cell) (ends : Ends) (made : ℕ) → AreRows nodes ends made → (key : EdgeKey) (gone : Option Entry) → finite.get ends key ≡ gone → IfSome gone (λ to. to.node.number < 2 ^ 64 - 1)
replaced_number nodes ends made rows key None is = tt
replaced_number nodes ends made rows key (Some to) is =
    let child = rows.children key to is in
    let most = rows.numbers to.node.place child.0 child.1 in
    let room = rows.room in
    omega (arith, child.2, most.1, room)

pub replaced_names : (nodes : Slab Cell) (ends : Ends) (made : ℕ) → AreRows nodes ends made → (key : EdgeKey) (gone : Option Entry) → finite.get ends key ≡ gone → IfSome gone (λ to. HasNamesAsDirectory ends to.node to.kind)
replaced_names nodes ends made rows key None is = tt
replaced_names nodes ends made rows key (Some to) is = names_here nodes ends made rows key to is

module _ (nodes : Slab Cell) (ends : Ends) (made : ℕ) (graph : Kept) (view : kept_of nodes ends made ≡ graph) (rows : AreRows nodes ends made) (tree : Tree) (stands : StandsFor graph tree) (from key : EdgeKey) where
  abbrev over : Option GraphFault
  over = if is_same_name from key then None else replace_refusal tree from key

  pub rename_none : finite.get ends from ≡ None → rename_refusal tree from key ≡ Some fault.NotFound
  rename_none none =
      ap (λ o. rename_causes (is_none o) (leads_to is_mount tree from) (is_removed tree.edges key.directory) (is_loop tree from key.directory) over) (edge_is nodes ends made graph view rows tree stands from None none)

  module _ (to : Entry) (there : finite.get ends from ≡ Some to) where
    loops : is_loop tree from key.directory ≡ (is_directory to.kind && lies_within (finite.len graph.edges) graph.edges key.directory to.node.number)
    loops =
        ap (λ o. option_map_or (λ child. lies_within (finite.len tree.edges) tree.edges key.directory child) o false) (behind nodes ends made graph view rows tree stands from to there)
        ∙ by_cases (is_directory to.kind)
        ∙ ap (λ (e : Edges). is_directory to.kind && lies_within (finite.len e) e key.directory to.node.number) (sym stands.edges)
      where
        by_cases : (b : Bool) → option_map_or (λ child. lies_within (finite.len tree.edges) tree.edges key.directory child) (if b then Some to.node.number else None) false ≡ (b && lies_within (finite.len tree.edges) tree.edges key.directory to.node.number)
        by_cases true = refl
        by_cases false = refl

    rename_some : rename_refusal tree from key ≡ rename_causes false (is_mount to.kind) (is_removed graph.edges key.directory) (is_directory to.kind && lies_within (finite.len graph.edges) graph.edges key.directory to.node.number) over
    rename_some =
        ap (λ o. rename_causes (is_none o) (leads_to is_mount tree from) (is_removed tree.edges key.directory) (is_loop tree from key.directory) over) (edge_is nodes ends made graph view rows tree stands from (Some to) there)
        ∙ ap (λ b. rename_causes false b (is_removed tree.edges key.directory) (is_loop tree from key.directory) over) (leads nodes ends made graph view rows tree stands from to there is_mount)
        ∙ ap (λ (e : Edges). rename_causes false (is_mount to.kind) (is_removed e key.directory) (is_loop tree from key.directory) over) (sym stands.edges)
        ∙ ap (λ b. rename_causes false (is_mount to.kind) (is_removed graph.edges key.directory) b over) loops

    -- what stands behind the refusals of the move itself
    rename_rest : (given : Option GraphFault)
        → given ≡ first_of (cause_if (is_mount to.kind) fault.Unsupported ∷ cause_if (is_removed graph.edges key.directory) fault.Removed ∷ cause_if (is_directory to.kind && lies_within (finite.len graph.edges) graph.edges key.directory to.node.number) fault.Loop ∷ [])
        → rename_refusal tree from key ≡ option_or given (if is_same_name from key then None else replace_refusal tree from key)
    rename_rest given is =
        rename_some
        ∙ first_of-append (cause_if (is_mount to.kind) fault.Unsupported ∷ cause_if (is_removed graph.edges key.directory) fault.Removed ∷ cause_if (is_directory to.kind && lies_within (finite.len graph.edges) graph.edges key.directory to.node.number) fault.Loop ∷ []) (over ∷ [])
        ∙ ap (option_or (first_of (cause_if (is_mount to.kind) fault.Unsupported ∷ cause_if (is_removed graph.edges key.directory) fault.Removed ∷ cause_if (is_directory to.kind && lies_within (finite.len graph.edges) graph.edges key.directory to.node.number) fault.Loop ∷ []))) (last_cause over)
        ∙ ap (λ o. option_or o over) (sym is)

    module _ (given : Option GraphFault)
        (given_is : given ≡ first_of (cause_if (is_mount to.kind) fault.Unsupported ∷ cause_if (is_removed graph.edges key.directory) fault.Removed ∷ cause_if (is_directory to.kind && lies_within (finite.len graph.edges) graph.edges key.directory to.node.number) fault.Loop ∷ [])) where
      pub rename_moving : (found : GraphFault) → given ≡ Some found → rename_refusal tree from key ≡ Some found
      rename_moving found e = rename_rest given given_is ∙ ap (λ o. option_or o over) e

      pub rename_same : given ≡ None → is_same_name from key ≡ true → rename_refusal tree from key ≡ None
      rename_same e same_one = rename_rest given given_is ∙ ap (λ o. option_or o over) e ∙ ap (λ b. if b then None else replace_refusal tree from key) same_one

      pub rename_other : given ≡ None → is_same_name from key ≡ false → rename_refusal tree from key ≡ replace_refusal tree from key
      rename_other e other_one = rename_rest given given_is ∙ ap (λ o. option_or o over) e ∙ ap (λ b. if b then None else replace_refusal tree from key) other_one

    -- nothing is replaced
    absent_leads : (test : NodeKind → Bool) → finite.get ends key ≡ None → leads_to test tree key ≡ false
    absent_leads test none = ap (λ o. option_map_or (λ (t : EdgeTo). option_map_or test (kind_of tree t.child) false) o false) (edge_is nodes ends made graph view rows tree stands key None none)

    pub replace_none : finite.get ends key ≡ None → replace_refusal tree from key ≡ None
    replace_none none =
        ap (λ b. replace_causes b (leads_to is_directory tree from && leads_to is_no_directory tree key) (leads_to is_no_directory tree from && leads_to is_directory tree key) (leads_to_names tree key)) (absent_leads is_mount none)
        ∙ ap (λ b. replace_causes false b (leads_to is_no_directory tree from && leads_to is_directory tree key) (leads_to_names tree key)) (ap (λ b. leads_to is_directory tree from && b) (absent_leads is_no_directory none) ∙ and_false _)
        ∙ ap (λ b. replace_causes false false b (leads_to_names tree key)) (ap (λ b. leads_to is_no_directory tree from && b) (absent_leads is_directory none) ∙ and_false _)
        ∙ ap (λ b. replace_causes false false false b) (ap (λ o. option_map_or (λ (t : EdgeTo). has_names tree.edges t.child) o false) (edge_is nodes ends made graph view rows tree stands key None none))

    pub replace_some : (gone : Entry) → finite.get ends key ≡ Some gone
        → replace_refusal tree from key ≡ replace_causes (is_mount gone.kind) (is_directory to.kind && is_no_directory gone.kind) (is_no_directory to.kind && is_directory gone.kind) (has_names (edges_of ends) gone.node.number)
    replace_some gone taken =
        ap (λ b. replace_causes b (leads_to is_directory tree from && leads_to is_no_directory tree key) (leads_to is_no_directory tree from && leads_to is_directory tree key) (leads_to_names tree key)) (leads nodes ends made graph view rows tree stands key gone taken is_mount)
        ∙ ap (λ b. replace_causes (is_mount gone.kind) (b && leads_to is_no_directory tree key) (leads_to is_no_directory tree from && leads_to is_directory tree key) (leads_to_names tree key)) (leads nodes ends made graph view rows tree stands from to there is_directory)
        ∙ ap (λ b. replace_causes (is_mount gone.kind) (is_directory to.kind && b) (leads_to is_no_directory tree from && leads_to is_directory tree key) (leads_to_names tree key)) (leads nodes ends made graph view rows tree stands key gone taken is_no_directory)
        ∙ ap (λ b. replace_causes (is_mount gone.kind) (is_directory to.kind && is_no_directory gone.kind) (b && leads_to is_directory tree key) (leads_to_names tree key)) (leads nodes ends made graph view rows tree stands from to there is_no_directory)
        ∙ ap (λ b. replace_causes (is_mount gone.kind) (is_directory to.kind && is_no_directory gone.kind) (is_no_directory to.kind && b) (leads_to_names tree key)) (leads nodes ends made graph view rows tree stands key gone taken is_directory)
        ∙ ap (λ b. replace_causes (is_mount gone.kind) (is_directory to.kind && is_no_directory gone.kind) (is_no_directory to.kind && is_directory gone.kind) b) (names_behind nodes ends made graph view rows tree stands key gone taken)

    pub behind_none : finite.get ends key ≡ None → directory_behind tree key ≡ None
    behind_none none = ap (λ b. if b then option_map (λ (t : EdgeTo). t.child) (edge_at tree key) else None) (absent_leads is_directory none)

    pub replace_is : (gone : Option Entry) → finite.get ends key ≡ gone → replace_refusal tree from key ≡ replace_cause ends to.kind gone
    replace_is None absent = replace_none absent
    replace_is (Some gone) taken = replace_some gone taken

    pub behind_is : (gone : Option Entry) → finite.get ends key ≡ gone → directory_behind tree key ≡ option_map_or (λ t. if is_directory t.kind then Some t.node.number else None) gone None
    behind_is None absent = behind_none absent
    behind_is (Some gone) taken = behind nodes ends made graph view rows tree stands key gone taken
