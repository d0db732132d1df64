-- Bytes written over others.
use Rattle.std.proofs.Common.{◌≡◌, ℕ, zero, suc, ◌+◌, ◌-◌, ◌<◌, ◌≤◌, ◌==◌, List, [], ◌∷◌, ◌++◌, length, take, drop, replicate, refl, ap, sym, ◌∙◌, arith, append_assoc, Bool, true, false, not, nat_lt, append-nil, max, nat_le, length-append, length-drop, Vec}
use Rattle.std.proofs.lemmas.List.{take_all, drop_all, take-replicate, length-replicate, length-take, drop-drop, with_items_is}
use Rattle.std.specs.Vec.{with_items}
use Rattle.std.proofs.lemmas.Bool.Decides.{nat_tests}
use Rattle.node_graph.specs.Tree.{fill}
use Rattle.node_graph.specs.Graph.{resized, overwritten, write_change, write_refusal}
use Rattle.fidl_names.specs.First.{cause_if}
use Rattle.fidl_names.specs.declared.limits.TheConstants as limit
use Rattle.node_graph.specs.declared.faults.GraphFault.TheVariants as fault

-- what was grown with zeros past the offset is, up to it, what was resized to it
grown : (old : List ℕ) (offset more : ℕ) → offset ≤ length old + more → take offset (old ++ replicate more 0) ≡ resized old offset
grown [] offset more within =
    let zeros : take offset (replicate {A = ℕ} more 0) ≡ replicate {A = ℕ} offset 0 = take-replicate {X = ℕ} offset more 0 (omega arith) in
    let none : take offset [] ≡ [] = take_all {A = ℕ} offset [] (omega arith) in
    let all : offset - length {A = ℕ} [] ≡ offset = omega arith in
    zeros ∙ sym (ap (λ front. front ++ replicate (offset - length {A = ℕ} []) 0) none ∙ ap (λ n. replicate {A = ℕ} n 0) all)
grown (x ∷ old) zero more within =
    let none : 0 - length (x ∷ old) ≡ 0 = omega arith in
    ap (λ n. replicate {A = ℕ} n 0) (sym none)
grown (x ∷ old) (suc offset) more within =
    let rest = grown old offset more (omega arith) in
    let less : suc offset - length (x ∷ old) ≡ offset - length old = omega arith in
    rw less (ap (λ bytes. x ∷ bytes) rest)

no_more : (old : List ℕ) (end most : ℕ) → end ≤ length old → most ≡ max (length old) end → drop end (old ++ replicate (most - length old) 0) ≡ drop end old
no_more old end most room is =
    let none : most - length old ≡ 0 = omega arith in
    ap (λ n. drop end (old ++ replicate {A = ℕ} n 0)) none ∙ ap (drop end) (append-nil old)

all_new : (old : List ℕ) (end most : ℕ) → length old < end → most ≡ max (length old) end → drop end (old ++ replicate (most - length old) 0) ≡ drop end old
all_new old end most longer is =
    let more : length (replicate {A = ℕ} (most - length old) 0) ≡ most - length old = length-replicate {A = ℕ} (most - length old) 0 in
    let size : length (old ++ replicate (most - length old) 0) ≤ end = omega (arith, length-append old (replicate {A = ℕ} (most - length old) 0)) in
    drop_all end (old ++ replicate (most - length old) 0) size ∙ sym (drop_all end old (omega arith))

back_same : (old : List ℕ) (end most : ℕ) → most ≡ max (length old) end → drop end (old ++ replicate (most - length old) 0) ≡ drop end old
back_same old end most is =
    elim (nat_le end (length old)) as (λ b. nat_le end (length old) ≡ b → drop end (old ++ replicate (most - length old) 0) ≡ drop end old) [
      | true ↦ λ e. no_more old end most (grind (arith, nat_tests)) is
      | false ↦ λ e. all_new old end most (grind (arith, nat_tests)) is
    ] refl

-- bytes that are written into room which reaches their end
pub over_room : (old : List ℕ) (offset end most : ℕ) (bytes room : List ℕ) → offset + length bytes ≡ end → most ≡ max (length old) end → room ≡ take most old ++ replicate (most - length old) 0
    → take offset room ++ (bytes ++ drop end room) ≡ overwritten old offset bytes
over_room old offset end most bytes room is most_is room_is =
    let whole : room ≡ old ++ replicate (most - length old) 0 = room_is ∙ ap (λ front. front ++ replicate (most - length old) 0) (take_all most old (omega arith)) in
    let front : take offset room ≡ resized old offset = ap (take offset) whole ∙ grown old offset (most - length old) (omega arith) in
    let back : drop end room ≡ drop end old = ap (drop end) whole ∙ back_same old end most most_is in
    ap (λ front. front ++ (bytes ++ drop end room)) front
    ∙ ap (λ back. resized old offset ++ (bytes ++ back)) back
    ∙ sym (append_assoc (resized old offset) bytes (drop end old))
    ∙ ap (λ e. (resized old offset ++ bytes) ++ drop e old) (sym is)

pub no_bytes : (bytes : List ℕ) → length bytes == 0 ≡ true → bytes ≡ []
no_bytes [] none = refl
no_bytes (byte ∷ bytes) none = grind (arith, nat_tests)

-- a length is refused exactly where it isn't within the longest one
beyond : (size most : ℕ) → nat_lt most size ≡ not (nat_le size most)
beyond size most = grind (arith, nat_tests)

pub write_refusal-some : (offset : ℕ) (bytes : List ℕ) (fits : Bool) → length bytes == 0 ≡ false → fits ≡ nat_le (offset + length bytes) limit.MAX_FILE → write_refusal offset bytes ≡ cause_if (not fits) fault.FileBig
write_refusal-some offset [] fits some is = absurd (cc)
write_refusal-some offset (byte ∷ bytes) fits some is = ap (λ b. cause_if b fault.FileBig) (beyond (offset + length (byte ∷ bytes)) limit.MAX_FILE ∙ ap not (sym is))

-- a write of some bytes fills the file
pub write_change-some : (number : ℕ) (old : List ℕ) (offset : ℕ) (bytes : List ℕ) → length bytes == 0 ≡ false → write_change number old offset bytes ≡ fill number (overwritten old offset bytes)
write_change-some number old offset [] some = absurd (cc)
write_change-some number old offset (byte ∷ bytes) some = refl

-- the same, as a vector's elements through a borrow of its part
pub written_items : {Z : Type 0} (v : Vec ℕ Z) (old : List ℕ) (offset most : ℕ) (bytes room part : List ℕ) → most ≡ max (length old) (offset + length bytes) → room ≡ take most old ++ replicate (most - length old) 0
    → part ≡ bytes → room ≡ v.items
    → (with_items v (take offset room ++ (part ++ drop (offset + length bytes - offset) (drop offset room)))).items ≡ overwritten old offset bytes
written_items v old offset most bytes room part most_is room_is part_is items =
    let until : offset + (offset + length bytes - offset) ≡ offset + length bytes = omega arith in
    let rest : drop (offset + length bytes - offset) (drop offset room) ≡ drop (offset + length bytes) room = drop-drop (offset + length bytes - offset) offset room ∙ ap (λ e. drop e room) until in
    let long : length room ≡ most = ap length room_is ∙ simp (length-append, length-take, length-replicate) (omega arith) in
    let some : length part ≡ length bytes = ap length part_is in
    let count : length room ≡ v.len = ap length items ∙ omega (arith, v.ok.0) in
    let size : length (take offset room ++ (part ++ drop (offset + length bytes - offset) (drop offset room))) ≡ v.len =
    simp (length-append, length-drop, length-take) (omega arith) in
    with_items_is v (take offset room ++ (part ++ drop (offset + length bytes - offset) (drop offset room))) size
    ∙ ap (λ x. take offset room ++ (x ++ drop (offset + length bytes - offset) (drop offset room))) part_is
    ∙ ap (λ x. take offset room ++ (bytes ++ x)) rest
    ∙ over_room old offset (offset + length bytes) most bytes room refl most_is room_is
