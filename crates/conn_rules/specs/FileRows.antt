-- The rows of a file's own methods.
use Rattle.std.specs.Prelude.{ℕ, ◌+◌, ◌^◌, ◌==◌, Bool, true, nat_lt, nat_le, if◌then◌else◌, List}
use Rattle.std.specs.Prelude.{[], ◌∷◌, length, take, drop, Option, ℤ, pos, negsuc, ◌+ℤ◌}
use Rattle.fidl_names.specs.declared.methods.Method.TheVariants as method
use Rattle.fidl_names.specs.declared.limits.TheConstants as limit
use Rattle.fidl_names.specs.declared.statuses.Status.{Status}
use Rattle.fidl_names.specs.declared.statuses.Status.TheVariants as status
use Rattle.io_messages.specs.Replies.{Answered, done, counted, payload}
use Rattle.node_graph.specs.Graph.{resize_refusal, resized, write_change, write_refusal}
use Rattle.node_graph.specs.Tree.{fill}
use Rattle.conn_rules.specs.Births.{Position}
use Rattle.conn_rules.specs.Contexts.{Context}
use Rattle.conn_rules.specs.Answers.{Act, only, replies, nothing_told}
use Rattle.conn_rules.specs.Nodes.{bytes_of}
use Rattle.fidl_names.specs.First.{cause_if, first_of}
use Rattle.conn_rules.specs.Refusals.{as_status, unless}

-- at most so many bytes from an offset on; none behind the end
abbrev pub part_from : ℕ → ℕ → List ℕ → List ℕ
part_from offset count bytes = take count (drop offset bytes)

-- this position of a file
abbrev pub at_byte : Position → ℕ → Position
at_byte position offset = record position { offset = offset }

-- more than one read, write or listing may have
abbrev pub is_too_much : ℕ → Bool
is_too_much count = nat_lt limit.MAX_CHUNK count

-- the file's bytes
abbrev pub bytes_here : Context → List ℕ
bytes_here context = bytes_of context.tree context.birth.node

-- ---- reading

abbrev pub reading_refusal : ℕ → Option Status
reading_refusal count = first_of (cause_if (is_too_much count) status.OutOfRange ∷ [])

-- the bytes from the position, which goes on by their number
abbrev pub read_act : Context → ℕ → Act
read_act context count =
    unless (reading_refusal count) context.position method.Read
    (only
    (at_byte context.position (context.position.offset
    + length (part_from context.position.offset count (bytes_here context))))
    (replies (payload method.Read (part_from context.position.offset count (bytes_here context)))))

-- the bytes from an offset
abbrev pub read_at_act : Context → ℕ → ℕ → Act
read_at_act context count offset =
    unless (reading_refusal count) context.position method.ReadAt
    (only context.position
    (replies (payload method.ReadAt (part_from offset count (bytes_here context)))))

-- ---- writing

abbrev pub writing_refusal : ℕ → List ℕ → Option Status
writing_refusal offset bytes =
    first_of (cause_if (is_too_much (length bytes)) status.OutOfRange
    ∷ as_status (write_refusal offset bytes) ∷ [])

-- where a Write begins: at the position, or at the file's end where the connection appends
abbrev pub write_start : Context → ℕ
write_start context =
    if context.birth.append then length (bytes_here context) else context.position.offset

-- the position behind what was written; where nothing is, as it was
abbrev pub behind_written : Position → ℕ → List ℕ → Position
behind_written position offset [] = position
behind_written position offset (byte ∷ bytes) = at_byte position (offset + length (byte ∷ bytes))

-- the bytes stand at an offset, and the connection at this position, with this reply
abbrev pub written_act : Context → Position → ℕ → List ℕ → Answered → Act
written_act context position offset bytes answered =
    record {
      answer = replies answered;
      position = position;
      change = write_change context.birth.node (bytes_here context) offset bytes;
      told = nothing_told;
    }

abbrev pub write_act : Context → List ℕ → Act
write_act context bytes =
    unless (writing_refusal (write_start context) bytes) context.position method.Write
    (written_act context (behind_written context.position (write_start context) bytes)
    (write_start context) bytes
    (counted method.Write (length bytes)))

abbrev pub write_at_act : Context → List ℕ → ℕ → Act
write_at_act context bytes offset =
    unless (writing_refusal offset bytes) context.position method.WriteAt
    (written_act context context.position offset bytes (counted method.WriteAt (length bytes)))

-- ---- the position and the size

-- what a seek counts from: 0 the file's start, 1 the position, 2 the file's end
abbrev pub seek_base : Context → ℕ → ℕ
seek_base context origin =
    if origin == 0 then 0
    else if origin == 1 then context.position.offset
    else length (bytes_here context)

-- a position is a number from 0 to 2^63 - 1
abbrev pub is_no_position : ℤ → Bool
is_no_position (pos offset) = nat_le (2 ^ 63) offset
is_no_position (negsuc below) = true

abbrev pub offset_from : ℤ → ℕ
offset_from (pos offset) = offset
offset_from (negsuc below) = 0

abbrev pub seek_sum : Context → ℕ → ℤ → ℤ
seek_sum context origin offset = pos (seek_base context origin) +ℤ offset

abbrev pub seek_act : Context → ℕ → ℤ → Act
seek_act context origin offset =
    unless
    (first_of
    (cause_if (nat_lt 2 origin) status.InvalidArgs
    ∷ cause_if (is_no_position (seek_sum context origin offset)) status.OutOfRange
    ∷ []))
    context.position method.Seek
    (only
    (at_byte context.position (offset_from (seek_sum context origin offset)))
    (replies (counted method.Seek (offset_from (seek_sum context origin offset)))))

-- the file is cut at a size, or filled up to it with zeros
abbrev pub resize_act : Context → ℕ → Act
resize_act context size =
    unless (as_status (resize_refusal size)) context.position method.Resize
    (record {
      answer = replies (done method.Resize);
      position = context.position;
      change = fill context.birth.node (resized (bytes_here context) size);
      told = nothing_told;
    })
