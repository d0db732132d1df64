-- What two kinds of step do to what a graph keeps: one seat is another, or one seat is new.
use Rattle.std.proofs.Common.{◌≡◌, ◌≢◌, ℕ, ◌+◌, ◌-◌, ◌<◌, List, [], ◌∷◌, ◌++◌, length, Option, Some, None, refl, ap, sym, ◌∙◌, subst, arith, Bool, true, false, length-append, nat_le}
use Rattle.std.specs.FinMap as finite
use Rattle.fidl_names.specs.First.{cause_if, first_of}
use Rattle.fidl_names.specs.declared.limits.TheConstants as limit
use Rattle.node_graph.specs.declared.faults.GraphFault.{GraphFault}
use Rattle.node_graph.specs.declared.faults.GraphFault.TheVariants as fault
use Rattle.node_graph.specs.declared.nodes.NodeRef.{NodeRef}
use Rattle.std.specs.Prelude.{is_some}
use Rattle.std.specs.Option.{option_map, option_map_or}
use Rattle.std.proofs.lemmas.Bool.Decides.{nat_tests}
use Rattle.node_graph.specs.Tree.{NodeRow, Tree, Edges, EdgeKey, EdgeTo, row_of, make, fill, stay, filled, is_removed}
use Rattle.node_graph.specs.Graph.{Seat, Kept, seat_of, Names, kind_at, bytes_at, StandsFor, Leads, SameHolds, HoldsNow, KeepsNames, create_refusal}
use Rattle.node_graph.proofs.RowLists.{same_some, row_within, row_of-set_same, row_of-set_other, length-set_row, row_of-push_same, row_of-push_other, cases, same, other, filled_rows}

-- the seat of one number, which was there, is another for the same node
pub record Replaces (old new : Kept) (number : ℕ) (was is : Seat) : Type 0 where
  pub edges : new.edges ≡ old.edges
  pub made : new.made ≡ old.made
  pub before : seat_of old number ≡ Some was
  pub here : seat_of new number ≡ Some is
  pub others : (n : ℕ) → n ≢ number → seat_of new n ≡ seat_of old n
  pub node : is.node ≡ was.node
  pub kind : is.kind ≡ was.kind

module _ {old new : Kept} {number : ℕ} {was is : Seat} where
  -- each reference that named a node names it still
  pub named_still : Replaces old new number was is → (node : NodeRef) → Names old node → Names new node × (kind_at new node.number ≡ kind_at old node.number)
  named_still r node names =
      elim (cases node.number number) [
        | same e b ↦
            let node_is : was.node ≡ node = same_some _ _ (sym (ap (option_map (λ (s : Seat). s.node)) (ap (seat_of old) e ∙ r.before)) ∙ names) in (
              ap (option_map (λ (s : Seat). s.node)) (ap (seat_of new) e ∙ r.here) ∙ ap Some (r.node ∙ node_is),
              ap (option_map (λ (s : Seat). s.kind)) (ap (seat_of new) e ∙ r.here) ∙ ap Some r.kind ∙ sym (ap (option_map (λ (s : Seat). s.kind)) (ap (seat_of old) e ∙ r.before)),
            )
        | other e b ↦ (
          ap (option_map (λ (s : Seat). s.node)) (r.others node.number e) ∙ names,
          ap (option_map (λ (s : Seat). s.kind)) (r.others node.number e),
        )
      ]

  pub keeps_names : Replaces old new number was is → KeepsNames old new
  keeps_names r node names kept = named_still r node names

  pub holds_now : Replaces old new number was is → HoldsNow old new number is.holds
  holds_now r n =
      elim (cases n number) [
        | same e b ↦ rw b (ap (λ s. option_map_or (λ (s : Seat). s.holds) s 0) (ap (seat_of new) e ∙ r.here))
        | other e b ↦ rw b (ap (λ s. option_map_or (λ (s : Seat). s.holds) s 0) (r.others n e))
      ]

  pub same_holds : Replaces old new number was is → is.holds ≡ was.holds → SameHolds old new
  same_holds r holds n =
      elim (cases n number) [
        | same e b ↦
            ap (λ s. option_map_or (λ (s : Seat). s.holds) s 0) (ap (seat_of new) e ∙ r.here) ∙ holds
            ∙ sym (ap (λ s. option_map_or (λ (s : Seat). s.holds) s 0) (ap (seat_of old) e ∙ r.before))
        | other e b ↦ ap (λ s. option_map_or (λ (s : Seat). s.holds) s 0) (r.others n e)
      ]

  row_kept : Replaces old new number was is → (tree : Tree) → StandsFor old tree → (n : ℕ) (seat : Seat) → n ≢ number → seat_of new n ≡ Some seat → row_of tree.nodes n ≡ Some (record { kind = seat.kind; bytes = seat.bytes })
  row_kept r tree stands n seat apart there = stands.rows n seat (sym (r.others n apart) ∙ there)

  pub leads_stay : Replaces old new number was is → is.bytes ≡ was.bytes → Leads old new stay
  leads_stay r bytes tree stands = record {
    made = r.made ∙ stands.made;
    edges = r.edges ∙ stands.edges;
    rows = λ n seat there. elim (cases n number) [
      | same e b ↦
          let seat_is : is ≡ seat = same_some _ _ (sym (ap (seat_of new) e ∙ r.here) ∙ there) in
          ap (row_of tree.nodes) e ∙ stands.rows number was r.before
          ∙ ap (λ k. Some (record { kind = k; bytes = was.bytes })) (sym r.kind ∙ ap (λ (s : Seat). s.kind) seat_is)
          ∙ ap (λ k. Some (record { kind = seat.kind; bytes = k })) (sym bytes ∙ ap (λ (s : Seat). s.bytes) seat_is)
      | other e b ↦ row_kept r tree stands n seat e there
    ];
  }

  pub leads_fill : Replaces old new number was is → Leads old new (fill number is.bytes)
  leads_fill r tree stands =
      let row : NodeRow = record { kind = was.kind; bytes = was.bytes } in
      let there = stands.rows number was r.before in
      let within = row_within tree.nodes number row there in
      let rows_are = filled_rows tree.nodes number row is.bytes there in
      record {
        made = r.made ∙ stands.made ∙ sym (ap length rows_are ∙ length-set_row tree.nodes (number - 1) _);
        edges = r.edges ∙ stands.edges;
        rows = λ n seat present. elim (cases n number) [
          | same e b ↦
              let seat_is : is ≡ seat = same_some _ _ (sym (ap (seat_of new) e ∙ r.here) ∙ present) in
              ap (row_of (filled tree.nodes number is.bytes)) e
              ∙ ap (λ rows. row_of rows number) rows_are
              ∙ row_of-set_same tree.nodes number _ within.some within.few
              ∙ ap (λ k. Some (record { kind = k; bytes = is.bytes })) (sym r.kind ∙ ap (λ (s : Seat). s.kind) seat_is)
              ∙ ap (λ k. Some (record { kind = seat.kind; bytes = k })) (ap (λ (s : Seat). s.bytes) seat_is)
          | other e b ↦
              ap (λ rows. row_of rows n) rows_are ∙ row_of-set_other tree.nodes number n _ within.some e ∙ row_kept r tree stands n seat e present
        ];
      }

module _ {old new : Kept} {number : ℕ} {was is : Seat} where
  pub bytes_before : Replaces old new number was is → bytes_at old number ≡ was.bytes
  bytes_before r = ap (λ s. option_map_or (λ (s : Seat). s.bytes) s []) r.before

  pub leads_filled : Replaces old new number was is → (bytes : List ℕ) → is.bytes ≡ bytes → Leads old new (fill number bytes)
  leads_filled r bytes equal = let P : List ℕ → Type 0 = λ b. Leads old new (fill number b) in subst P equal (leads_fill r)

-- one seat is new, and an edge leads to it
pub record Adds (old new : Kept) (number : ℕ) (is : Seat) (key : EdgeKey) (to : EdgeTo) : Type 0 where
  pub edges : new.edges ≡ finite.insert old.edges key to
  pub next : number ≡ old.made + 1
  pub made : new.made ≡ number
  pub here : seat_of new number ≡ Some is
  pub fresh : seat_of old number ≡ None
  pub others : (n : ℕ) → n ≢ number → seat_of new n ≡ seat_of old n
  pub holds : is.holds ≡ 0
  pub child : to.child ≡ number

module _ {old new : Kept} {number : ℕ} {is : Seat} {key : EdgeKey} {to : EdgeTo} where
  pub names_stay : Adds old new number is key to → KeepsNames old new
  names_stay r node names kept =
      elim (cases node.number number) [
        | same e b ↦ absurd (let none : None ≡ Some node = sym (ap (option_map (λ (s : Seat). s.node)) (ap (seat_of old) e ∙ r.fresh)) ∙ names in cc)
        | other e b ↦ (
          ap (option_map (λ (s : Seat). s.node)) (r.others node.number e) ∙ names,
          ap (option_map (λ (s : Seat). s.kind)) (r.others node.number e),
        )
      ]

  pub holds_stay : Adds old new number is key to → SameHolds old new
  holds_stay r n =
      elim (cases n number) [
        | same e b ↦
            ap (λ s. option_map_or (λ (s : Seat). s.holds) s 0) (ap (seat_of new) e ∙ r.here) ∙ r.holds
            ∙ sym (ap (λ s. option_map_or (λ (s : Seat). s.holds) s 0) (ap (seat_of old) e ∙ r.fresh))
        | other e b ↦ ap (λ s. option_map_or (λ (s : Seat). s.holds) s 0) (r.others n e)
      ]

  pub leads_made : Adds old new number is key to → (row : NodeRow) → is.kind ≡ row.kind → is.bytes ≡ row.bytes → Leads old new (make key row to.mask)
  leads_made r row kind bytes tree stands =
      let count : number ≡ length tree.nodes + 1 = r.next ∙ ap (λ n. n + 1) stands.made in
      let longer : length (tree.nodes ++ row ∷ []) ≡ length tree.nodes + 1 = length-append tree.nodes (row ∷ []) in
      record {
        made = r.made ∙ count ∙ sym longer;
        edges = r.edges ∙ ap (λ edges. finite.insert edges key to) stands.edges ∙ ap (λ n. finite.insert tree.edges key (record { child = n; mask = to.mask })) (r.child ∙ count);
        rows = λ n seat there. elim (cases n number) [
          | same e b ↦
              let seat_is : is ≡ seat = same_some _ _ (sym (ap (seat_of new) e ∙ r.here) ∙ there) in
              ap (row_of (tree.nodes ++ row ∷ [])) (e ∙ count) ∙ row_of-push_same tree.nodes row
              ∙ ap (λ k. Some (record { kind = k; bytes = row.bytes })) (sym kind ∙ ap (λ (s : Seat). s.kind) seat_is)
              ∙ ap (λ bs. Some (record { kind = seat.kind; bytes = bs })) (sym bytes ∙ ap (λ (s : Seat). s.bytes) seat_is)
          | other e b ↦
              row_of-push_other tree.nodes row n (λ equal. e (equal ∙ sym count)) ∙ stands.rows n seat (sym (r.others n e) ∙ there)
        ];
      }

-- what is not refused
pub record IsFree (edges : Edges) (key : EdgeKey) : Type 0 where
  pub absent : finite.get edges key ≡ None
  pub few : finite.len edges < limit.MAX_NAMES

abbrev pub three_causes : Bool → Bool → Bool → Option GraphFault
three_causes cut there full = first_of (cause_if cut fault.Removed ∷ cause_if there fault.Exists ∷ cause_if full fault.NoSpace ∷ [])

pub refusal_of : (edges : Edges) (key : EdgeKey) (cut there full : Bool) → is_removed edges key.directory ≡ cut → is_some (finite.get edges key) ≡ there → nat_le limit.MAX_NAMES (finite.len edges) ≡ full
    → create_refusal edges key ≡ three_causes cut there full
refusal_of edges key cut there full is_cut is_there is_full =
    ap (λ b. three_causes b (is_some (finite.get edges key)) (nat_le limit.MAX_NAMES (finite.len edges))) is_cut
    ∙ ap (λ b. three_causes cut b (nat_le limit.MAX_NAMES (finite.len edges))) is_there
    ∙ ap (λ b. three_causes cut there b) is_full

no_value : {X : Type 0} (o : Option X) → is_some o ≡ false → o ≡ None
no_value None e = refl
no_value (Some x) e = absurd (cc)

pub unrefused : (edges : Edges) (key : EdgeKey) → create_refusal edges key ≡ None → IsFree edges key
unrefused edges key none =
    by_cases (is_removed edges key.directory) (is_some (finite.get edges key)) (nat_le limit.MAX_NAMES (finite.len edges)) refl refl refl
  where
    by_cases : (cut there full : Bool) → is_removed edges key.directory ≡ cut → is_some (finite.get edges key) ≡ there → nat_le limit.MAX_NAMES (finite.len edges) ≡ full → IsFree edges key
    by_cases true there full a b c = absurd (let wrong : Some fault.Removed ≡ None = sym (refusal_of edges key true there full a b c) ∙ none in cc)
    by_cases false true full a b c = absurd (let wrong : Some fault.Exists ≡ None = sym (refusal_of edges key false true full a b c) ∙ none in cc)
    by_cases false false true a b c = absurd (let wrong : Some fault.NoSpace ≡ None = sym (refusal_of edges key false false true a b c) ∙ none in cc)
    by_cases false false false a b c = record { absent = no_value _ b; few = below_limit (finite.len edges) limit.MAX_NAMES c }
      where
        below_limit : (n most : ℕ) → nat_le most n ≡ false → n < most
        below_limit n most e = grind (arith, nat_tests)
