use Rattle.std.proofs.Common.{ℕ, ◌+◌, Some, ap, sym, ◌∙◌, refl, subst}
use Rattle.slab.specs.Slab.{Slab, Updates}
use Rattle.node_graph.specs.Cell.{Cell}
use Rattle.node_graph.specs.Graph.{Kept}
use Rattle.node_graph.specs.Ends.{Ends}
use Rattle.node_graph.specs.Rows.{AreRows}
use Rattle.node_graph.proofs.Creates.{rows_roomier, rows_made, adds, child_named, child_kind}
use Rattle.node_graph.proofs.States.{leads_made, names_stay, holds_stay}
use Rattle.node_graph.proofs.graph.Graph.make.Goals as goal

pub invariant_of-self : goal.invariant_of-self
invariant_of-self c =
    let P : Slab Cell → Type 0 = λ nodes. AreRows nodes c.self.inside.edges c.self.inside.made in
    subst P (sym c.reserve.ensures.rest_kept) (rows_roomier c.self.inside.nodes c.self.inside.edges c.self.inside.made c.reserve.new.self.capacity c.self.invariant)

pub invariant_of-self-in_err-put : goal.invariant_of-self-in_err-put
invariant_of-self-in_err-put c =
    let P : Slab Cell → Type 0 = λ nodes. AreRows nodes c.put.new.self c.self.inside.made in
    let Q : Ends → Type 0 = λ names. AreRows c.self.inside.nodes names c.self.inside.made in
    subst P (sym c.reserve.ensures.rest_kept) (rows_roomier c.self.inside.nodes c.put.new.self c.self.inside.made c.reserve.new.self.capacity (subst Q (sym c.in_err-put.ensures.unchanged) c.self.invariant))

pub invariant_of-self-2 : goal.invariant_of-self-2
invariant_of-self-2 c =
    rows_made c.self.inside.nodes c.reserve.new.self c.insert_reserved.new.self c.self.inside.edges c.put.new.self c.self.inside.made c.args.self.now c.args.dir c.args.name.now c.args.kind c.args.mask c.in_ok-bytes.bytes.items c.vacant_key.result c.new-row.result
    c.self.view_is c.self.invariant c.requires.named c.requires.directory c.requires.free c.requires.room
    (ap (λ (s : Slab Cell). s.slots) c.reserve.ensures.rest_kept) c.vacant_key.ensures.vacant c.new-row.ensures
    c.in_ok-put.ensures.put
    (let P : ℕ → Type 0 = λ place. Updates c.reserve.new.self c.insert_reserved.new.self place (Some c.new-row.result) in subst P (c.insert_reserved.ensures.key ∙ sym c.vacant_key.ensures.value) c.insert_reserved.ensures.updates)

pub returns : goal.returns
returns c =
    let slots = ap (λ (s : Slab Cell). s.slots) c.reserve.ensures.rest_kept in
    let updates : Updates c.reserve.new.self c.insert_reserved.new.self c.vacant_key.result (Some c.new-row.result) =
    (let P : ℕ → Type 0 = λ place. Updates c.reserve.new.self c.insert_reserved.new.self place (Some c.new-row.result) in subst P (c.insert_reserved.ensures.key ∙ sym c.vacant_key.ensures.value) c.insert_reserved.ensures.updates) in
    let added = adds c.self.inside.nodes c.reserve.new.self c.insert_reserved.new.self c.self.inside.edges c.put.new.self c.self.inside.made c.args.self.now c.args.dir c.args.name.now c.args.kind c.args.mask c.in_ok-bytes.bytes.items c.vacant_key.result c.new-row.result
    c.self.view_is c.self.invariant c.requires.named c.requires.directory c.requires.free c.requires.room slots c.vacant_key.ensures.vacant c.new-row.ensures c.in_ok-put.ensures.put updates in
    record {
      unchanged = tt;
      created = leads_made added (record { kind = c.args.kind; bytes = c.args.bytes.now }) (ap (λ (cell : Cell). cell.kind) c.new-row.ensures) (ap (λ (cell : Cell). cell.bytes) c.new-row.ensures ∙ c.in_ok-bytes.ensures.items);
      number = ap (λ (g : Kept). g.made + 1) c.self.view_is;
      kept = child_named c.self.inside.nodes c.reserve.new.self c.insert_reserved.new.self c.self.inside.edges c.put.new.self c.self.inside.made c.args.self.now c.args.dir c.args.name.now c.args.kind c.args.mask c.in_ok-bytes.bytes.items c.vacant_key.result c.new-row.result
          c.self.view_is c.self.invariant c.requires.named c.requires.directory c.requires.free c.requires.room slots c.vacant_key.ensures.vacant c.new-row.ensures c.in_ok-put.ensures.put updates _ refl;
      kind = child_kind c.self.inside.nodes c.reserve.new.self c.insert_reserved.new.self c.self.inside.edges c.put.new.self c.self.inside.made c.args.self.now c.args.dir c.args.name.now c.args.kind c.args.mask c.in_ok-bytes.bytes.items c.vacant_key.result c.new-row.result
          c.self.view_is c.self.invariant c.requires.named c.requires.directory c.requires.free c.requires.room slots c.vacant_key.ensures.vacant c.new-row.ensures c.in_ok-put.ensures.put updates;
      made = ap (λ (g : Kept). g.made + 1) c.self.view_is;
      holds = holds_stay added;
      names = names_stay added;
    }
