-- What each change of a tree keeps: the kinds of its nodes, that names lead to nodes, and the one edge of a mount.
use Rattle.std.proofs.Common.{◌≡◌, ℕ, ◌+◌, ◌-◌, ◌⊎◌, true, false, unwrap_or, List, [], ◌∷◌, ◌++◌, length, Option, Some, None, refl, sym, ap, ◌∙◌, inl, inr, arith}
use Rattle.std.specs.Prelude.{slice_set}
use Rattle.std.specs.FinMap as finite
use Rattle.std.specs.Option.{option_map, option_map_or}
use Rattle.std.proofs.lemmas.Bool.{true≢false}
use Rattle.io_rights.specs.Operations.{OperationSet}
use Rattle.node_graph.specs.declared.nodes.NodeKind.{NodeKind}
use Rattle.node_graph.specs.declared.nodes.NodeKind.TheVariants.{Directory, File, Service, Mount}
use Rattle.node_graph.specs.Tree.{NodeRow, Tree, Edges, EdgeKey, EdgeTo, Change, make, add, cut, move, fill, stay, after, filled, kind_of, moved, row_of}
use Rattle.node_graph.proofs.Ordered.{comes, fresh, known, get-cut_other, get-put_other, stays}
use Rattle.node_graph.proofs.RowLists.{cases, same, other, filled_rows, mapped, row_of-push_same, row_of-push_other, row_of-set_same, row_of-set_other, row_within}
use Rattle.session_start.specs.Sound.{HasOneEdge}
use Rattle.conn_rules.specs.Nodes.{is_mount, kind_here}
use Rattle.journal_laws.proofs.Acts.{IsMade}

-- each name leads to a node
abbrev pub HasChildren : Tree → Type 0
HasChildren tree = (key : EdgeKey) (to : EdgeTo) → finite.get tree.edges key ≡ Some to → (kind : NodeKind) × (kind_of tree to.child ≡ Some kind)

-- a name leads to no mount
abbrev pub NoMountAt : Tree → EdgeKey → Type 0
NoMountAt tree key = (to : EdgeTo) → finite.get tree.edges key ≡ Some to → is_mount (kind_here tree to.child) ≡ false

-- a new name is a new one, and names that lead to mounts are neither given again, nor taken out, nor moved, nor replaced
abbrev pub IsOrderly : Tree → Change → Type 0
IsOrderly tree (make key row mask) = (finite.get tree.edges key ≡ None) × IsMade row.kind
IsOrderly tree (add key to) = (finite.get tree.edges key ≡ None) × ((kind : NodeKind) × (kind_of tree to.child ≡ Some kind)) × (is_mount (kind_here tree to.child) ≡ false)
IsOrderly tree (cut key) = NoMountAt tree key
IsOrderly tree (move from to) = NoMountAt tree from × NoMountAt tree to
IsOrderly tree (fill number bytes) = Unit {0}
IsOrderly tree stay = Unit {0}

-- ---- kinds

abbrev kind_in : List NodeRow → ℕ → Option NodeKind
kind_in rows n = option_map (λ (row : NodeRow). row.kind) (row_of rows n)

filled_kind : (rows : List NodeRow) (number : ℕ) (bytes : List ℕ) (n : ℕ) → kind_in (filled rows number bytes) n ≡ kind_in rows n
filled_kind rows number bytes n = by_row (row_of rows number) refl where
  by_row : (o : Option NodeRow) → row_of rows number ≡ o → kind_in (filled rows number bytes) n ≡ kind_in rows n
  by_row None e = ap (λ (o : Option NodeRow). kind_in (option_map_or (λ (row : NodeRow). slice_set rows (number - 1) (record { kind = row.kind; bytes = bytes })) o rows) n) e
  by_row (Some row) e =
      let within = row_within rows number row e in
      ap (λ (rs : List NodeRow). kind_in rs n) (filled_rows rows number row bytes e)
      ∙ (elim (cases n number) [
        | same at b ↦ ap (kind_in (slice_set rows (number - 1) (record { kind = row.kind; bytes = bytes }))) at
            ∙ ap (option_map (λ (r : NodeRow). r.kind)) (row_of-set_same rows number (record { kind = row.kind; bytes = bytes }) within.some within.few)
            ∙ sym (ap (kind_in rows) at ∙ ap (option_map (λ (r : NodeRow). r.kind)) e)
        | other apart b ↦ ap (option_map (λ (r : NodeRow). r.kind)) (row_of-set_other rows number n (record { kind = row.kind; bytes = bytes }) within.some apart)
      ])

pushed_kind : (rows : List NodeRow) (row : NodeRow) (n : ℕ) (kind : NodeKind) → kind_in rows n ≡ Some kind → kind_in (rows ++ row ∷ []) n ≡ Some kind
pushed_kind rows row n kind e =
    let found = mapped (λ (r : NodeRow). r.kind) (row_of rows n) kind e in
    let within = row_within rows n found.0 found.1 in
    ap (option_map (λ (r : NodeRow). r.kind)) (row_of-push_other rows row n (λ at. (let few = within.few in omega (arith, at, few)))) ∙ e

pub kind_stays : (tree : Tree) (change : Change) (n : ℕ) (kind : NodeKind) → kind_of tree n ≡ Some kind → kind_of (after tree change) n ≡ Some kind
kind_stays tree (make key row mask) n kind e = pushed_kind tree.nodes row n kind e
kind_stays tree (add key to) n kind e = e
kind_stays tree (cut key) n kind e = e
kind_stays tree (move from to) n kind e = e
kind_stays tree (fill number bytes) n kind e = filled_kind tree.nodes number bytes n ∙ e
kind_stays tree stay n kind e = e

is_made : (kind : NodeKind) (index : ℕ) → IsMade kind → kind ≡ Mount index → ⊥
is_made Directory index h e = cc
is_made File index h e = cc
is_made Service index h e = cc
is_made (Mount i) index h e = h

-- no mount is new
pub mount_back : (tree : Tree) (change : Change) (n index : ℕ) → IsOrderly tree change → kind_of (after tree change) n ≡ Some (Mount index) → kind_of tree n ≡ Some (Mount index)
mount_back tree (make key row mask) n index h e =
    elim (cases n (length tree.nodes + 1)) [
      | same at b ↦ absurd (is_made row.kind index h.1 (same_kind (sym (ap (option_map (λ (r : NodeRow). r.kind)) (ap (row_of (tree.nodes ++ row ∷ [])) at ∙ row_of-push_same tree.nodes row)) ∙ e)))
      | other apart b ↦ sym (ap (option_map (λ (r : NodeRow). r.kind)) (row_of-push_other tree.nodes row n apart)) ∙ e
    ] where
      same_kind : Some row.kind ≡ Some (Mount index) → row.kind ≡ Mount index
      same_kind e = cc
mount_back tree (add key to) n index h e = e
mount_back tree (cut key) n index h e = e
mount_back tree (move from to) n index h e = e
mount_back tree (fill number bytes) n index h e = sym (filled_kind tree.nodes number bytes n) ∙ e
mount_back tree stay n index h e = e

-- what has a kind that is a mount stands as one
pub is_mount_here : (tree : Tree) (n index : ℕ) → kind_of tree n ≡ Some (Mount index) → is_mount (kind_here tree n) ≡ true
is_mount_here tree n index e = ap (λ (o : Option NodeKind). is_mount (unwrap_or o Directory)) e

-- ---- names that move

module _ (edges : Edges) (from to : EdgeKey) where
  moved_comes : (key : EdgeKey) (x : EdgeTo) → finite.get (moved edges from to) key ≡ Some x → (finite.get edges key ≡ Some x) ⊎ (finite.get edges from ≡ Some x)
  moved_comes key x there = by_edge (finite.get edges from) refl where
    by_edge : (o : Option EdgeTo) → finite.get edges from ≡ o → (finite.get edges key ≡ Some x) ⊎ (finite.get edges from ≡ Some x)
    by_edge None e = inl (sym (ap (λ (o : Option EdgeTo). finite.get (option_map_or (λ (edge : EdgeTo). finite.insert (finite.remove edges from) to edge) o edges) key) e) ∙ there)
    by_edge (Some edge) e =
        elim (comes (finite.remove edges from) to edge key x (sym (ap (λ (o : Option EdgeTo). finite.get (option_map_or (λ (edge : EdgeTo). finite.insert (finite.remove edges from) to edge) o edges) key) e) ∙ there)) [
          | fresh at is ↦ inr (e ∙ ap Some is)
          | known apart old ↦ inl (stays edges from key x old).1
        ]

  moved_stays : (key : EdgeKey) (x : EdgeTo) → ¬ (key ≡ from) → ¬ (key ≡ to) → finite.get edges key ≡ Some x → finite.get (moved edges from to) key ≡ Some x
  moved_stays key x apart other_end there = by_edge (finite.get edges from) refl where
    by_edge : (o : Option EdgeTo) → finite.get edges from ≡ o → finite.get (moved edges from to) key ≡ Some x
    by_edge None e = ap (λ (o : Option EdgeTo). finite.get (option_map_or (λ (edge : EdgeTo). finite.insert (finite.remove edges from) to edge) o edges) key) e ∙ there
    by_edge (Some edge) e =
        ap (λ (o : Option EdgeTo). finite.get (option_map_or (λ (edge : EdgeTo). finite.insert (finite.remove edges from) to edge) o edges) key) e
        ∙ get-put_other (finite.remove edges from) to key edge other_end ∙ get-cut_other edges from key apart ∙ there

-- ---- what is kept

pub children_stay : (tree : Tree) (change : Change) → IsOrderly tree change → HasChildren tree → HasChildren (after tree change)
children_stay tree (make key row mask) h children from x there =
    elim (comes tree.edges key (record { child = length tree.nodes + 1; mask = mask }) from x there) [
      | fresh at is ↦ (row.kind, ap (λ (t : EdgeTo). kind_in (tree.nodes ++ row ∷ []) t.child) (sym is) ∙ ap (option_map (λ (r : NodeRow). r.kind)) (row_of-push_same tree.nodes row))
      | known apart old ↦ (let at = children from x old in (at.0, pushed_kind tree.nodes row x.child at.0 at.1))
    ]
children_stay tree (add key to) h children from x there =
    elim (comes tree.edges key to from x there) [
      | fresh at is ↦ (h.1.0, ap (λ (t : EdgeTo). kind_of tree t.child) (sym is) ∙ h.1.1)
      | known apart old ↦ children from x old
    ]
children_stay tree (cut key) h children from x there = children from x (stays tree.edges key from x there).1
children_stay tree (move a b) h children from x there = by_side (moved_comes tree.edges a b from x there) where
  by_side : (finite.get tree.edges from ≡ Some x) ⊎ (finite.get tree.edges a ≡ Some x) → (kind : NodeKind) × (kind_of tree x.child ≡ Some kind)
  by_side (inl e) = children from x e
  by_side (inr e) = children a x e
children_stay tree (fill number bytes) h children from x there = let at = children from x there in (at.0, filled_kind tree.nodes number bytes x.child ∙ at.1)
children_stay tree stay h children from x there = children from x there

-- a name that leads to a mount isn't one of these
no_mount_there : (tree : Tree) (key : EdgeKey) (index : ℕ) (mask : OperationSet) → (h : HasOneEdge tree index mask) → NoMountAt tree key → ¬ (h.key ≡ key)
no_mount_there tree key index mask h none at =
    true≢false (sym (is_mount_here tree h.to.child index h.leads) ∙ none h.to (ap (finite.get tree.edges) (sym at) ∙ h.there))

none_there : (tree : Tree) (key : EdgeKey) (index : ℕ) (mask : OperationSet) → (h : HasOneEdge tree index mask) → finite.get tree.edges key ≡ None → ¬ (h.key ≡ key)
none_there tree key index mask h none at = let wrong : Some h.to ≡ None = sym h.there ∙ ap (finite.get tree.edges) at ∙ none in absurd (cc)

pub edge_stays : (tree : Tree) (change : Change) (index : ℕ) (mask : OperationSet) → IsOrderly tree change → HasOneEdge tree index mask → HasOneEdge (after tree change) index mask
edge_stays tree (make key row right) index mask h one = record {
  key = one.key;
  to = one.to;
  there = get-put_other tree.edges key one.key _ (none_there tree key index mask one h.0) ∙ one.there;
  leads = kind_stays tree (make key row right) one.to.child (Mount index) one.leads;
  masked = one.masked;
  alone = λ other' end there leads.
      elim (comes tree.edges key (record { child = length tree.nodes + 1; mask = right }) other' end there) [
        | fresh at is ↦ absurd (is_made row.kind index h.1
            (same_kind (sym (ap (λ (t : EdgeTo). kind_in (tree.nodes ++ row ∷ []) t.child) (sym is) ∙ ap (option_map (λ (r : NodeRow). r.kind)) (row_of-push_same tree.nodes row)) ∙ leads)))
        | known apart old ↦ one.alone other' end old (mount_back tree (make key row right) end.child index h leads)
      ];
} where
  same_kind : Some row.kind ≡ Some (Mount index) → row.kind ≡ Mount index
  same_kind e = cc
edge_stays tree (add key to) index mask h one = record {
  key = one.key;
  to = one.to;
  there = get-put_other tree.edges key one.key to (none_there tree key index mask one h.0) ∙ one.there;
  leads = one.leads;
  masked = one.masked;
  alone = λ other' end there leads.
      elim (comes tree.edges key to other' end there) [
        | fresh at is ↦ absurd (true≢false (sym (is_mount_here tree to.child index (ap (λ (t : EdgeTo). kind_of tree t.child) is ∙ leads)) ∙ h.2))
        | known apart old ↦ one.alone other' end old leads
      ];
}
edge_stays tree (cut key) index mask h one = record {
  key = one.key;
  to = one.to;
  there = get-cut_other tree.edges key one.key (no_mount_there tree key index mask one h) ∙ one.there;
  leads = one.leads;
  masked = one.masked;
  alone = λ other' end there leads. one.alone other' end (stays tree.edges key other' end there).1 leads;
}
edge_stays tree (move a b) index mask h one = record {
  key = one.key;
  to = one.to;
  there = moved_stays tree.edges a b one.key one.to (no_mount_there tree a index mask one h.0) (no_mount_there tree b index mask one h.1) one.there;
  leads = one.leads;
  masked = one.masked;
  alone = λ other' end there leads. by_side other' end leads (moved_comes tree.edges a b other' end there);
} where
  by_side : (other' : EdgeKey) (end : EdgeTo) → kind_of tree end.child ≡ Some (Mount index) → (finite.get tree.edges other' ≡ Some end) ⊎ (finite.get tree.edges a ≡ Some end) → other' ≡ one.key
  by_side other' end leads (inl e) = one.alone other' end e leads
  by_side other' end leads (inr e) = absurd (true≢false (sym (is_mount_here tree end.child index leads) ∙ h.0 end e))
edge_stays tree (fill number bytes) index mask h one = record {
  key = one.key;
  to = one.to;
  there = one.there;
  leads = filled_kind tree.nodes number bytes one.to.child ∙ one.leads;
  masked = one.masked;
  alone = λ other' end there leads. one.alone other' end there (sym (filled_kind tree.nodes number bytes end.child) ∙ leads);
}
edge_stays tree stay index mask h one = one
