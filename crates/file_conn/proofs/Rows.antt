-- What the rows of a file's methods are over the bytes that a graph keeps.
use Rattle.std.proofs.Common.{◌≡◌, ◌∙◌, ℕ, ◌+◌, ◌<◌, ◌≤◌, ◌^◌, Bool, true, false, nat_le, nat_lt, if◌then◌else◌, List, [], ◌∷◌, length, Option, Some, None, ℤ, pos, ◌+ℤ◌, refl, sym, ap, arith}
use Rattle.std.proofs.lemmas.Bool.{lt-ltb, le-ltb, ltb-false, leb-true, leb-false}
use Rattle.std.specs.Option.{option_map}
use Rattle.fidl_names.specs.declared.limits.TheConstants as limit
use Rattle.fidl_names.specs.declared.methods.Method.TheVariants as method
use Rattle.fidl_names.specs.declared.statuses.Status.TheVariants as status
use Rattle.fidl_names.specs.First.{cause_if, first_of}
use Rattle.fidl_wire.specs.Numbers.{padded, padding_after}
use Rattle.io_messages.specs.Replies.{counted, done, payload}
use Rattle.node_graph.specs.declared.faults.GraphFault.TheVariants as fault
use Rattle.node_graph.specs.declared.nodes.NodeRef.{NodeRef}
use Rattle.node_graph.specs.Graph.{Kept, Names, Seat, StandsFor, bytes_at, number_of, seat_of, write_change, resize_refusal, resized}
use Rattle.node_graph.specs.Tree.{Tree, fill}
use Rattle.conn_rules.specs.Answers.{Act, only, failure_of, replies, nothing_told}
use Rattle.conn_rules.specs.Contexts.{Context}
use Rattle.conn_rules.specs.FileRows.{at_byte, behind_written, bytes_here, is_no_position, offset_from, part_from, read_act, read_at_act, reading_refusal, resize_act, seek_act, seek_base, write_act, write_at_act, writing_refusal}
use Rattle.conn_rules.specs.Nodes.{bytes_of}
use Rattle.conn_rules.specs.Refusals.{as_status, unless}

bytes_by_seat : (graph : Kept) (tree : Tree) (node : NodeRef) (seat : Option Seat) → StandsFor graph tree → seat_of graph (number_of node) ≡ seat → option_map (λ s. s.node) seat ≡ Some node →
    bytes_of tree (number_of node) ≡ bytes_at graph (number_of node)
bytes_by_seat graph tree node None stands is named = cc
bytes_by_seat graph tree node (Some seat) stands is named = rw is (rw (stands.rows (number_of node) seat is) refl)

-- a tree that a graph stands for has the bytes that the graph keeps
pub bytes_of_row : (graph : Kept) (tree : Tree) (node : NodeRef) → StandsFor graph tree → Names graph node → bytes_of tree (number_of node) ≡ bytes_at graph (number_of node)
bytes_of_row graph tree node stands named =
    let is : option_map (λ s. s.node) (seat_of graph (number_of node)) ≡ Some node = named in
    bytes_by_seat graph tree node (seat_of graph (number_of node)) stands refl is

-- ---- reading

-- more than may be read at once is refused
pub too_much : (count : ℕ) → limit.MAX_CHUNK < count → reading_refusal count ≡ Some status.OutOfRange
too_much count more = rw (lt-ltb limit.MAX_CHUNK count more) refl

few : (count : ℕ) → count ≤ limit.MAX_CHUNK → reading_refusal count ≡ None
few count small = rw (le-ltb limit.MAX_CHUNK count small) refl

-- what may be read at once fits into a reply
pub few_fit : (size : ℕ) → size ≤ limit.MAX_CHUNK → 48 + padded size ≤ limit.MAX_BYTES
unfolding padding_after
few_fit size few = omega arith

pub read_row : (context : Context) (count : ℕ) (held part : List ℕ) → bytes_here context ≡ held → count ≤ limit.MAX_CHUNK → part ≡ part_from context.position.offset count held →
    read_act context count ≡ only (at_byte context.position (context.position.offset + length part)) (replies (payload method.Read part))
read_row context count held part same small is =
    ap (λ refusal. unless refusal context.position method.Read (only (at_byte context.position (context.position.offset + length (part_from context.position.offset count (bytes_here context)))) (replies (payload method.Read (part_from context.position.offset count (bytes_here context)))))) (few count small)
    ∙ ap (λ given. only (at_byte context.position (context.position.offset + length given)) (replies (payload method.Read given)))
    (ap (λ bytes. part_from context.position.offset count bytes) same ∙ sym is)

pub read_at_row : (context : Context) (count offset : ℕ) (held part : List ℕ) → bytes_here context ≡ held → count ≤ limit.MAX_CHUNK → part ≡ part_from offset count held →
    read_at_act context count offset ≡ only context.position (replies (payload method.ReadAt part))
read_at_row context count offset held part same small is =
    ap (λ refusal. unless refusal context.position method.ReadAt (only context.position (replies (payload method.ReadAt (part_from offset count (bytes_here context)))))) (few count small)
    ∙ ap (λ given. only context.position (replies (payload method.ReadAt given))) (ap (λ bytes. part_from offset count bytes) same ∙ sym is)

-- ---- writing

pub write_row : (context : Context) (bytes held : List ℕ) (start : ℕ) → bytes_here context ≡ held →
    start ≡ (if context.birth.append then length held else context.position.offset) →
    write_act context bytes
    ≡ unless (writing_refusal start bytes) context.position method.Write
    (record { answer = replies (counted method.Write (length bytes)); position = behind_written context.position start bytes; change = write_change context.birth.node held start bytes; told = nothing_told })
write_row context bytes held start same is = rw is (rw (sym same) refl)

pub write_at_row : (context : Context) (bytes : List ℕ) (offset : ℕ) (held : List ℕ) → bytes_here context ≡ held →
    write_at_act context bytes offset
    ≡ unless (writing_refusal offset bytes) context.position method.WriteAt
    (record { answer = replies (counted method.WriteAt (length bytes)); position = context.position; change = write_change context.birth.node held offset bytes; told = nothing_told })
write_at_row context bytes offset held same = rw (sym same) refl

pub resize_row : (context : Context) (size : ℕ) (held : List ℕ) → bytes_here context ≡ held →
    resize_act context size
    ≡ unless (as_status (resize_refusal size)) context.position method.Resize
    (record { answer = replies (done method.Resize); position = context.position; change = fill context.birth.node (resized held size); told = nothing_told })
resize_row context size held same = rw (sym same) refl

-- what isn't refused ends within the longest file
second_none : (a b : Bool) → first_of (cause_if a status.OutOfRange ∷ as_status (cause_if b fault.FileBig) ∷ []) ≡ None → b ≡ false
second_none a false is = refl
second_none true true is = cc
second_none false true is = cc

pub ends_within : (start : ℕ) (bytes : List ℕ) → writing_refusal start bytes ≡ None → 0 < length bytes → start + length bytes < 2 ^ 63
ends_within start [] is some = absurd (omega (arith, some))
ends_within start (byte ∷ bytes) is some =
    let small : start + length (byte ∷ bytes) ≤ limit.MAX_FILE = ltb-false limit.MAX_FILE (start + length (byte ∷ bytes)) (second_none (nat_lt limit.MAX_CHUNK (length (byte ∷ bytes))) (nat_lt limit.MAX_FILE (start + length (byte ∷ bytes))) is) in
    omega (arith, small)

-- ---- seeking

no_origin : (origin : ℕ) → nat_le origin 2 ≡ false → nat_lt 2 origin ≡ true
no_origin origin is = lt-ltb 2 origin (leb-false origin 2 is)

an_origin : (origin : ℕ) → nat_le origin 2 ≡ true → nat_lt 2 origin ≡ false
an_origin origin is = le-ltb 2 origin (leb-true origin 2 is)

pub seek_of_no_origin : (context : Context) (origin : ℕ) (offset : ℤ) → nat_le origin 2 ≡ false → seek_act context origin offset ≡ only context.position (failure_of method.Seek status.InvalidArgs)
seek_of_no_origin context origin offset is = rw (no_origin origin is) refl

-- a seek from an origin that there is, by the number from which it counts
pub sought_act : Context → ℕ → ℤ → Act
sought_act context base offset =
    unless (first_of (cause_if (is_no_position (pos base +ℤ offset)) status.OutOfRange ∷ [])) context.position method.Seek
    (only (at_byte context.position (offset_from (pos base +ℤ offset))) (replies (counted method.Seek (offset_from (pos base +ℤ offset)))))

pub seek_row : (context : Context) (origin : ℕ) (offset : ℤ) (base : ℕ) → nat_le origin 2 ≡ true → base ≡ seek_base context origin →
    seek_act context origin offset ≡ sought_act context base offset
unfolding sought_act
seek_row context origin offset base is from = rw (an_origin origin is) (rw from refl)

found_is : (wrong : Bool) (at found : ℕ) → Some found ≡ (if wrong then None else Some at) → (wrong ≡ false) × (found ≡ at)
found_is true at found is = cc
found_is false at found is = (refl, cc)

none_is : (wrong : Bool) (at : ℕ) → None ≡ (if wrong then None else Some at) → wrong ≡ true
none_is true at is = refl
none_is false at is = cc

pub sought_nowhere : (context : Context) (base : ℕ) (offset : ℤ) → None ≡ (if is_no_position (pos base +ℤ offset) then None else Some (offset_from (pos base +ℤ offset))) →
    sought_act context base offset ≡ only context.position (failure_of method.Seek status.OutOfRange)
unfolding sought_act
sought_nowhere context base offset is = rw (none_is (is_no_position (pos base +ℤ offset)) (offset_from (pos base +ℤ offset)) is) refl

pub sought_row : (context : Context) (base : ℕ) (offset : ℤ) (found : ℕ) → Some found ≡ (if is_no_position (pos base +ℤ offset) then None else Some (offset_from (pos base +ℤ offset))) →
    sought_act context base offset ≡ only (at_byte context.position found) (replies (counted method.Seek found))
unfolding sought_act
sought_row context base offset found is =
    let two = found_is (is_no_position (pos base +ℤ offset)) (offset_from (pos base +ℤ offset)) found is in
    rw two.0 (rw (sym two.1) refl)
