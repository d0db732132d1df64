-- The endpoint that a request carries is among the message's handles.
use Rattle.std.proofs.Common.{◌≡◌, ℕ, zero, suc, true, false, List, [], ◌∷◌, slice_get, Some, None, Contains, refl, sym, ap, subst, arith}
use Rattle.std.proofs.lemmas.List.Elements.{Contains-append_left, Contains-append_right}
use Rattle.fidl_names.specs.declared.methods.Handle.{Handle}
use Rattle.fidl_names.specs.declared.methods.Handle.TheVariants.{Endpoint, Token}
use Rattle.fidl_names.specs.declared.methods.Method.{Method}
use Rattle.fidl_names.specs.declared.methods.Method.TheVariants as method
use Rattle.fidl_wire.specs.declared.kinds.HandleKind.TheVariants as kinds
use Rattle.fidl_wire.specs.Grammar.{IsSpelled, Lays, Part, Spells}
use Rattle.fidl_wire.specs.Layout.{Cell, Item, struct, fields, handle, held, num, blank, seq, members}
use Rattle.io_messages.specs.Asked.{Asked}
use Rattle.request_reader.specs.Laws.{Carries, RequestsCarryTheirEndpoints}
use Rattle.io_messages.specs.Requests.{request_cells, asked_from, item, handle_in, handle_of}

-- an endpoint's field has an endpoint, which is among the handles
record HasEndpoint (i : ℕ) (items : List Item) (handles : List Handle) : Type 0 where
  number : ℕ
  here : item i items ≡ held (Some (Endpoint number))
  carried : Contains handles (Endpoint number)

contains_first : (x : Handle) (xs : List Handle) → Contains (x ∷ xs) x
contains_first x xs = (0, omega arith, refl)

held_endpoint : (x : Item) (first : Part) → Spells (handle kinds.AnEndpoint false) x first → (n : ℕ) × (x ≡ held (Some (Endpoint n))) × (first.handles ≡ Endpoint n ∷ [])
held_endpoint (held None) first h = let wrong : false ≡ true = h.0 in absurd (cc)
held_endpoint (held (Some (Endpoint n))) first h = (n, refl, h.1.handles_are)
held_endpoint (held (Some (Token n))) first h = let wrong : false ≡ true = h.0 in absurd (cc)
held_endpoint (num n) first h = absurd h
held_endpoint blank first h = absurd h
held_endpoint (seq xs) first h = absurd h
held_endpoint (members vs) first h = absurd h

endpoint_in : (i : ℕ) (cells : List Cell) (items : List Item) (part : Part) → Lays cells items part → slice_get cells i ≡ Some (handle kinds.AnEndpoint false) → HasEndpoint i items part.handles
endpoint_in i [] items part h at = absurd (no_cell i at) where
  no_cell : (i : ℕ) → slice_get {X = Cell} [] i ≡ Some (handle kinds.AnEndpoint false) → ⊥
  no_cell zero e = cc
  no_cell (suc i) e = cc
endpoint_in i (cell ∷ cells) [] part h at = absurd h
endpoint_in zero (cell ∷ cells) (x ∷ xs) part (first, rest, spells, lays, joined) at =
    let is : cell ≡ handle kinds.AnEndpoint false = cc in
    let one = held_endpoint x first (subst (λ (c : Cell). Spells c x first) is spells) in
    record {
      number = one.0;
      here = one.1;
      carried =
          subst (λ (p : Part). Contains p.handles (Endpoint one.0)) (sym joined)
          (Contains-append_left first.handles rest.handles (Endpoint one.0)
          (subst (λ hs. Contains hs (Endpoint one.0)) (sym one.2) (contains_first (Endpoint one.0) [])));
    }
endpoint_in (suc i) (cell ∷ cells) (x ∷ xs) part (first, rest, spells, lays, joined) at =
    let later = endpoint_in i cells xs rest lays at in
    record {
      number = later.number;
      here = later.here;
      carried =
          subst (λ (p : Part). Contains p.handles (Endpoint later.number)) (sym joined)
          (Contains-append_right first.handles rest.handles (Endpoint later.number) later.carried);
    }

carried_at : (i : ℕ) (cells : List Cell) (items : List Item) (bytes : List ℕ) (handles : List Handle) → IsSpelled (struct cells) (fields items) bytes handles →
    slice_get cells i ≡ Some (handle kinds.AnEndpoint false) → Contains handles (Endpoint (handle_in i items))
carried_at i cells items bytes handles spelled at =
    let one = endpoint_in i cells items spelled.body.part spelled.body.lays at in
    subst (λ (n : ℕ). Contains handles (Endpoint n)) (sym (ap handle_of one.here))
    (subst (λ hs. Contains hs (Endpoint one.number)) (sym spelled.body.handles_are) one.carried)

carries_by : (m : Method) (items : List Item) (bytes : List ℕ) (handles : List Handle) → IsSpelled (struct (request_cells m)) (fields items) bytes handles →
    Carries (asked_from m items) handles
carries_by method.Clone items bytes handles h = carried_at 0 (request_cells method.Clone) items bytes handles h refl
carries_by method.Close items bytes handles h = tt
carries_by method.Query items bytes handles h = tt
carries_by method.GetAttributes items bytes handles h = tt
carries_by method.Sync items bytes handles h = tt
carries_by method.OpenPath items bytes handles h = carried_at 3 (request_cells method.OpenPath) items bytes handles h refl
carries_by method.ReadDirents items bytes handles h = tt
carries_by method.Rewind items bytes handles h = tt
carries_by method.GetToken items bytes handles h = tt
carries_by method.Rename items bytes handles h = tt
carries_by method.Link items bytes handles h = tt
carries_by method.Unlink items bytes handles h = tt
carries_by method.Watch items bytes handles h = carried_at 2 (request_cells method.Watch) items bytes handles h refl
carries_by method.Read items bytes handles h = tt
carries_by method.ReadAt items bytes handles h = tt
carries_by method.Write items bytes handles h = tt
carries_by method.WriteAt items bytes handles h = tt
carries_by method.Seek items bytes handles h = tt
carries_by method.Resize items bytes handles h = tt
carries_by method.EchoString items bytes handles h = tt

pub carries : RequestsCarryTheirEndpoints
carries p bytes handles txid a reads =
    let r = reads.is_asked in
    subst (λ (b : Asked). Carries b handles) r.fields_are (carries_by r.method r.items bytes handles r.spelled)
