-- A request is read field by field: what the whole reading answers, and where the parts stand that it lends.
use Rattle.std.proofs.Common.{◌≡◌, ℕ, ◌+◌, List, length, slice_range, nat_lt, Result, Ok, Err, refl, sym, ap, ◌∙◌, subst}
use Rattle.std.specs.Result.{IsErr, IsErrAnd}
use Rattle.fidl_names.specs.declared.methods.Handle.{Handle}
use Rattle.fidl_names.specs.declared.methods.Method.{Method}
use Rattle.fidl_names.specs.declared.methods.Method.TheVariants as method
use Rattle.fidl_wire.specs.declared.faults.WireFault.{WireFault}
use Rattle.fidl_wire.specs.Cursor.{Cursor, start_of, start}
use Rattle.fidl_wire.specs.Within.{IsPart}
use Rattle.fidl_wire.specs.Layout.{Item, fields, sizes_of}
use Rattle.fidl_wire.specs.Numbers.{padded, padding_after}
use Rattle.fidl_wire.specs.Reading.{◌>>=◌, Step, cells_at, object_items, finish_of}
use Rattle.io_messages.specs.declared.requests.Request.{Request}
use Rattle.io_messages.specs.Asked.{Asked}
use Rattle.io_messages.specs.Requests.{request_cells, asked_from, fields_of, fields_told, items_in, IsPartAt, ArePartsOf}
use Rattle.wire_laws.proofs.Leaving.{chosen, started, Passes}
use Rattle.request_reader.specs.Steps.{asked_at, Begins, IsBefore}

-- ---- where the parts stand

behind_16 : 16 + padded 16 ≡ 32
unfolding padding_after
behind_16 = refl

behind_24 : 16 + padded 24 ≡ 40
unfolding padding_after
behind_24 = refl

behind_32 : 16 + padded 32 ≡ 48
unfolding padding_after
behind_32 = refl

behind_40 : 16 + padded 40 ≡ 56
unfolding padding_after
behind_40 = refl

behind_48 : 16 + padded 48 ≡ 64
unfolding padding_after
behind_48 = refl

is_start : (m : List ℕ) (hs : List Handle) (size : ℕ) (c : Cursor) → Ok c ≡ start_of m hs size → start m hs size ≡ c
is_start m hs size c h = chosen (nat_lt (length m) (16 + padded size)) _ (start m hs size) c (sym h)

begins : (m : List ℕ) (hs : List Handle) (size place : ℕ) (c : Cursor) → 16 + padded size ≡ place → Ok c ≡ start_of m hs size → Begins place c
begins m hs size place c at h = record {
  out = ap (λ (v : Cursor). v.out) (sym (is_start m hs size c h)) ∙ at;
  within = started m hs size c h;
}

pub before : (m : Method) (message : List ℕ) (hs : List Handle) (c : Cursor) → Ok c ≡ start_of message hs (sizes_of (request_cells m)) → IsBefore m c
before method.Clone message hs c h = tt
before method.Close message hs c h = tt
before method.Query message hs c h = tt
before method.GetAttributes message hs c h = tt
before method.Sync message hs c h = tt
before method.OpenPath message hs c h = begins message hs 48 64 c behind_48 h
before method.ReadDirents message hs c h = tt
before method.Rewind message hs c h = tt
before method.GetToken message hs c h = tt
before method.Rename message hs c h = begins message hs 40 56 c behind_40 h
before method.Link message hs c h = begins message hs 40 56 c behind_40 h
before method.Unlink message hs c h = begins message hs 32 48 c behind_32 h
before method.Watch message hs c h = tt
before method.Read message hs c h = tt
before method.ReadAt message hs c h = tt
before method.Write message hs c h = begins message hs 16 32 c behind_16 h
before method.WriteAt message hs c h = begins message hs 24 40 c behind_24 h
before method.Seek message hs c h = tt
before method.Resize message hs c h = tt
before method.EchoString message hs c h = begins message hs 16 32 c behind_16 h

-- the first part
pub first_part : (place : ℕ) (c : Cursor) (part : List ℕ) → Begins place c → IsPart part c → IsPartAt c.message place part
first_part place c part at is = is ∙ ap (λ (n : ℕ). slice_range c.message n (n + length part)) at.out

-- a part behind what was read so far
pub next_part : (place passed : ℕ) (c d : Cursor) (part : List ℕ) → Begins place c → Passes passed c d → IsPart part d → IsPartAt c.message (place + padded passed) part
next_part place passed c d part at p is =
    let out : d.out ≡ place + padded passed = p.out ∙ ap (λ (n : ℕ). n + padded passed) at.out in
    is ∙ ap (λ (n : ℕ). slice_range d.message n (n + length part)) out
    ∙ ap (λ (xs : List ℕ). slice_range xs (place + padded passed) (place + padded passed + length part)) p.message

-- the parts of a body's message are those of the message
pub of_message : (m : List ℕ) (hs : List Handle) (size : ℕ) (c : Cursor) (a : Asked) → Ok c ≡ start_of m hs size → ArePartsOf c.message a → ArePartsOf m a
of_message m hs size c a h are = subst (λ (v : Cursor). ArePartsOf v.message a) (sym (is_start m hs size c h)) are

-- ---- what the whole reading answers

-- behind the fields the message ends
abbrev ended : Method → Step (List Item) → Result Asked WireFault
ended m r = ((r >>= λ x. finish_of x.1 >>= λ _. Ok x.0) >>= λ xs. Ok (fields xs)) >>= λ content. Ok (asked_from m (items_in content))

abbrev begun : Method → Result Cursor WireFault → Result Asked WireFault
begun m r = (r >>= λ c. object_items (request_cells m) c >>= λ xs. Ok (fields xs)) >>= λ content. Ok (asked_from m (items_in content))

-- a fault that is passed on
pub passed_on : (r : Result Request WireFault) (e : WireFault) → IsErr r × IsErrAnd r (λ f. f ≡ e) → fields_told r ≡ Err e
passed_on (Ok x) e h = absurd (cc h.0)
passed_on (Err f) e h = ap (λ (v : WireFault). Err v) h.1

pub not_begun : (m : Method) (message : List ℕ) (hs : List Handle) (e : WireFault) → Err e ≡ start_of message hs (sizes_of (request_cells m)) → Err e ≡ fields_of m message hs
unfolding fields_of
not_begun m message hs e h = ap (begun m) h

is_ended : (m : Method) (message : List ℕ) (hs : List Handle) (c : Cursor) → Ok c ≡ start_of message hs (sizes_of (request_cells m)) → ended m (cells_at (request_cells m) c) ≡ fields_of m message hs
unfolding fields_of
is_ended m message hs c h = ap (begun m) h

-- what the fields ask
abbrev asks : Method → Step (List Item) → Step Asked
asks m r = r >>= λ x. Ok (asked_from m x.0, x.1)

taken_fault : (m : Method) (r : Step (List Item)) (e : WireFault) → asks m r ≡ Err e → Err e ≡ ended m r
taken_fault m (Ok x) e h = absurd (cc)
taken_fault m (Err f) e h = let same : e ≡ f = cc in ap (λ (v : WireFault). Err v) same

pub not_taken : (m : Method) (message : List ℕ) (hs : List Handle) (c : Cursor) (e : WireFault) → Ok c ≡ start_of message hs (sizes_of (request_cells m)) → asked_at m c ≡ Err e → Err e ≡ fields_of m message hs
unfolding asked_at
not_taken m message hs c e h k = taken_fault m (cells_at (request_cells m) c) e k ∙ is_ended m message hs c h

abbrev Taken : Type 0
Taken = Asked × Cursor

-- where the fields were taken, the end says the rest
end_says : (m : Method) (r : Step (List Item)) (a : Asked) (d : Cursor) → asks m r ≡ Ok (a, d) → (finish_of d >>= λ _. Ok a) ≡ ended m r
end_says m (Ok x) a d h =
    let taken : Taken = (asked_from m x.0, x.1) in
    let same : taken ≡ (a, d) = cc in
    ap (λ (v : Taken). finish_of v.1 >>= λ _. Ok v.0) (sym same) ∙ regroup m x.0 (finish_of x.1)
  where
    regroup : (m : Method) (xs : List Item) (r : Result (Unit {0}) WireFault) → (r >>= λ _. Ok (asked_from m xs)) ≡ (((r >>= λ _. Ok xs) >>= λ ys. Ok (fields ys)) >>= λ content. Ok (asked_from m (items_in content)))
    regroup m xs (Ok u) = refl
    regroup m xs (Err e) = refl
end_says m (Err e) a d h = absurd (cc)

pub taken : (m : Method) (message : List ℕ) (hs : List Handle) (c d : Cursor) (a : Asked) → Ok c ≡ start_of message hs (sizes_of (request_cells m)) → asked_at m c ≡ Ok (a, d) → (finish_of d >>= λ _. Ok a) ≡ fields_of m message hs
unfolding asked_at
taken m message hs c d a h k = end_says m (cells_at (request_cells m) c) a d k ∙ is_ended m message hs c h
