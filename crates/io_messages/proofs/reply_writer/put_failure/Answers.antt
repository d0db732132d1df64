use Rattle.std.proofs.Common.{[], ◌∷◌, refl, arith}
use Rattle.fidl_wire.specs.Grammar.{join, nothing}
use Rattle.fidl_names.specs.Numbers.{number_bytes}
use Rattle.fidl_wire.specs.Spelling.{inline_part, list_part_of, count_bytes}
use Rattle.fidl_wire.specs.Written.{padded_bytes}
use Rattle.io_messages.proofs.Lengths.{length-number, length-count}
use Rattle.io_messages.proofs.Unions.{cat, object_length, padded_few, padded_nothing}
use Rattle.io_messages.proofs.reply_writer.put_failure.Goals as goal

pub put_object-requires-clause-bytes : goal.put_object-requires-clause-bytes
put_object-requires-clause-bytes c =
    let word = number_bytes 4 c.cast_unsigned-number.result in
    let inline = cat word _ 4 20 (length-number 4 c.cast_unsigned-number.result) (cat (0 ∷ 0 ∷ 0 ∷ 0 ∷ []) _ 4 16 refl (cat (count_bytes 0) [] 16 0 (length-count 0) refl)) in
    omega (arith, c.requires.head, object_length (join (inline_part word) (join (inline_part (0 ∷ 0 ∷ 0 ∷ 0 ∷ [])) (join (list_part_of []) nothing))) 24 0 inline (cat (padded_bytes []) [] 0 0 padded_nothing refl), padded_few 24)

pub put_object-requires-in-Some-Settled-clause-bytes : goal.put_object-requires-in-Some-Settled-clause-bytes
put_object-requires-in-Some-Settled-clause-bytes c =
    let word = number_bytes 4 c.cast_unsigned-number.result in
    omega (arith, c.requires.head, object_length (join (inline_part word) nothing) 4 0 (cat word [] 4 0 (length-number 4 c.cast_unsigned-number.result) refl) refl, padded_few 4)

pub put_object-requires-in-Some-Token-clause-bytes : goal.put_object-requires-in-Some-Token-clause-bytes
put_object-requires-in-Some-Token-clause-bytes c =
    let word = number_bytes 4 c.cast_unsigned-number.result in
    let inline = cat word _ 4 4 (length-number 4 c.cast_unsigned-number.result) (cat (number_bytes 4 0) [] 4 0 (length-number 4 0) refl) in
    omega (arith, c.requires.head, object_length (join (inline_part word) (join (inline_part (number_bytes 4 0)) nothing)) 8 0 inline refl, padded_few 8)
