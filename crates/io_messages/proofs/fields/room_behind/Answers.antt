use Rattle.io_messages.specs.declared.fields.Field.TheVariants.{Word, Long, Held, Absent}
use Rattle.io_messages.specs.Fields.{part_size}
use Rattle.io_messages.proofs.Lengths.{size_at, left_of, word_size, long_size, held_size, absent_size, list_bytes, table_slots, moved_room}
use Rattle.io_messages.proofs.fields.room_behind.Goals as goal

pub returns-in-Word : goal.returns-in-Word
returns-in-Word c = left_of c.checked_sub.result c.args.room 4 (part_size c.args.field) (size_at c.args.field (Word c.in-Word.field-0) 4 c.in-Word.is (word_size c.in-Word.field-0)) c.checked_sub.ensures

pub returns-in-Long : goal.returns-in-Long
returns-in-Long c = left_of c.checked_sub-in-Long.result c.args.room 8 (part_size c.args.field) (size_at c.args.field (Long c.in-Long.field-0) 8 c.in-Long.is (long_size c.in-Long.field-0)) c.checked_sub-in-Long.ensures

pub returns-in-Held : goal.returns-in-Held
returns-in-Held c = left_of c.checked_sub-in-Held.result c.args.room 4 (part_size c.args.field) (size_at c.args.field (Held c.in-Held.field-0) 4 c.in-Held.is (held_size c.in-Held.field-0)) c.checked_sub-in-Held.ensures

pub returns-in-Absent : goal.returns-in-Absent
returns-in-Absent c = left_of c.checked_sub-in-Absent.result c.args.room 4 (part_size c.args.field) (size_at c.args.field (Absent) 4 c.in-Absent.is absent_size) c.checked_sub-in-Absent.ensures

pub returns-else-bytes-room : goal.returns-else-bytes-room
returns-else-bytes-room c = left_of c.checked_sub-in-Bytes.result c.args.room _ (part_size c.args.field) (list_bytes c.args.field c.in-Bytes.bytes c.padding_after.result c.in-Bytes.is c.padding_after.ensures.value) c.checked_sub-in-Bytes.ensures

pub returns-in-Table : goal.returns-in-Table
returns-in-Table c = moved_room c.room_behind_table.result c.args.room _ (part_size c.args.field) (table_slots c.args.field c.in-Table.members c.in-Table.is) c.room_behind_table.ensures
