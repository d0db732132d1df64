use Rattle.std.proofs.Common.{ℕ, ◌%◌, [], Some, refl, ap, arith}
use Rattle.fidl_wire.specs.Grammar.{join, nothing}
use Rattle.fidl_names.specs.Numbers.{number_bytes}
use Rattle.fidl_wire.specs.Spelling.{inline_part, handle_part}
use Rattle.fidl_wire.specs.Reading.{present_word}
use Rattle.fidl_names.specs.declared.methods.Handle.TheVariants.{Token}
use Rattle.io_messages.specs.Replies.{framework_ordinal, framework_envelope}
use Rattle.io_messages.proofs.Lengths.{length-number}
use Rattle.io_messages.proofs.Unions.{cat, object_length, padded_few}
use Rattle.io_messages.proofs.reply_writer.put_reply.Goals as goal

pub put_branch-requires-clause-aligned : goal.put_branch-requires-clause-aligned
put_branch-requires-clause-aligned c = ap (λ (n : ℕ). n % 8) (cat (number_bytes 8 c.in-Number.number) [] 8 0 (length-number 8 c.in-Number.number) refl)

pub put_branch-requires-clause-room : goal.put_branch-requires-clause-room
put_branch-requires-clause-room c =
    let word = number_bytes 8 c.in-Number.number in
    omega (arith, c.requires.head, object_length (join (inline_part word) nothing) 8 0 (cat word [] 8 0 (length-number 8 c.in-Number.number) refl) refl, padded_few 8)

pub put_object-requires-clause-bytes : goal.put_object-requires-clause-bytes
put_object-requires-clause-bytes c =
    omega (arith, c.requires.head, object_length (join (inline_part (number_bytes 4 0)) nothing) 4 0 (cat (number_bytes 4 0) [] 4 0 (length-number 4 0) refl) refl, padded_few 4)

pub put_object-requires-in-Token-clause-bytes : goal.put_object-requires-in-Token-clause-bytes
put_object-requires-in-Token-clause-bytes c =
    omega (
      arith,
      c.requires.head,
      object_length (join (inline_part (number_bytes 4 0)) (join (handle_part (Some (Token c.in-Token.token))) nothing)) 8 0
          (cat (number_bytes 4 0) _ 4 4 (length-number 4 0) (cat (number_bytes 4 present_word) [] 4 0 (length-number 4 present_word) refl)) refl,
      padded_few 8,
    )

pub put_object-requires-in-Unknown-clause-bytes : goal.put_object-requires-in-Unknown-clause-bytes
put_object-requires-in-Unknown-clause-bytes c =
    omega (
      arith,
      c.requires.head,
      object_length (join (inline_part (number_bytes 8 framework_ordinal)) (join (inline_part (number_bytes 8 framework_envelope)) nothing)) 16 0
          (cat (number_bytes 8 framework_ordinal) _ 8 8 (length-number 8 framework_ordinal) (cat (number_bytes 8 framework_envelope) [] 8 0 (length-number 8 framework_envelope) refl)) refl,
      padded_few 16,
    )
