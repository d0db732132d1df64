-- The handles of a reply are those of the token that it gives.
use Rattle.std.proofs.Common.{◌≡◌, ◌∙◌, ℕ, List, [], ◌∷◌, Option, Some, None, refl, append-nil}
use Rattle.fidl_wire.specs.Layout.{branch, fields, num}
use Rattle.fidl_wire.specs.Spelling.{body_handles}
use Rattle.fidl_wire.specs.Spelling as spelling
use Rattle.io_messages.specs.Replies.{Answered, done, fails, counted, payload, settled, token, attributes, unknown}
use Rattle.io_messages.specs.declared.replies.Attributes.{Attributes}
use Rattle.io_messages.specs.declared.replies.Shape.{Shape}
use Rattle.io_messages.specs.declared.replies.Shape.TheVariants as shape
use Rattle.io_messages.specs.ReplyWriting.{attribute_members, carried, failure, layout_of, reply_handles, status_word}
use Rattle.io_messages.specs.Members.{numbers}
use Rattle.io_messages.specs.Shapes.{shape_of}
use Rattle.io_messages.proofs.Lengths.{no_handles}
use Rattle.conn_rules.specs.Laws.{HandlesAreTokens, tokens_in}

done_bare : (o : Option Shape) → body_handles (layout_of o) (branch 1 []) ≡ []
done_bare None = refl
done_bare (Some shape.Done) = refl
done_bare (Some shape.Number) = refl
done_bare (Some shape.Bytes) = refl
done_bare (Some shape.Vector) = refl
done_bare (Some shape.Text) = refl
done_bare (Some shape.Listing) = refl
done_bare (Some shape.Settled) = refl
done_bare (Some shape.Token) = refl
done_bare (Some shape.Attributes) = refl

failed_bare : (o : Option Shape) (x : ℕ) → body_handles (layout_of o) (failure o x) ≡ []
failed_bare None x = refl
failed_bare (Some shape.Done) x = refl
failed_bare (Some shape.Number) x = refl
failed_bare (Some shape.Bytes) x = refl
failed_bare (Some shape.Vector) x = refl
failed_bare (Some shape.Text) x = refl
failed_bare (Some shape.Listing) x = refl
failed_bare (Some shape.Settled) x = refl
failed_bare (Some shape.Token) x = refl
failed_bare (Some shape.Attributes) x = refl

counted_bare : (o : Option Shape) (x : ℕ) → body_handles (layout_of o) (branch 1 (num x ∷ [])) ≡ []
counted_bare None x = refl
counted_bare (Some shape.Done) x = refl
counted_bare (Some shape.Number) x = refl
counted_bare (Some shape.Bytes) x = refl
counted_bare (Some shape.Vector) x = refl
counted_bare (Some shape.Text) x = refl
counted_bare (Some shape.Listing) x = refl
counted_bare (Some shape.Settled) x = refl
counted_bare (Some shape.Token) x = refl
counted_bare (Some shape.Attributes) x = refl

carried_bare : (o : Option Shape) (bytes : List ℕ) → body_handles (layout_of o) (carried o bytes) ≡ []
carried_bare None bytes = refl
carried_bare (Some shape.Done) bytes = refl
carried_bare (Some shape.Number) bytes = refl
carried_bare (Some shape.Bytes) bytes = refl
carried_bare (Some shape.Vector) bytes = refl
carried_bare (Some shape.Text) bytes = refl
carried_bare (Some shape.Listing) bytes = refl
carried_bare (Some shape.Settled) bytes = refl
carried_bare (Some shape.Token) bytes = refl
carried_bare (Some shape.Attributes) bytes = refl

settled_bare : (o : Option Shape) → body_handles (layout_of o) (fields (num 0 ∷ [])) ≡ []
settled_bare None = refl
settled_bare (Some shape.Done) = refl
settled_bare (Some shape.Number) = refl
settled_bare (Some shape.Bytes) = refl
settled_bare (Some shape.Vector) = refl
settled_bare (Some shape.Text) = refl
settled_bare (Some shape.Listing) = refl
settled_bare (Some shape.Settled) = refl
settled_bare (Some shape.Token) = refl
settled_bare (Some shape.Attributes) = refl

attributes_bare : (a : Attributes) → reply_handles (attributes a) ≡ []
attributes_bare a = append-nil _ ∙ no_handles (spelling.given (numbers (attribute_members a)))

pub handles_of_reply : (a : Answered) → reply_handles a ≡ tokens_in a
handles_of_reply (done m) = done_bare (shape_of m)
handles_of_reply (fails m s) = failed_bare (shape_of m) (status_word s)
handles_of_reply (counted m x) = counted_bare (shape_of m) x
handles_of_reply (payload m bytes) = carried_bare (shape_of m) bytes
handles_of_reply (settled m) = settled_bare (shape_of m)
handles_of_reply (token n) = refl
handles_of_reply (attributes a) = attributes_bare a
handles_of_reply (unknown ordinal) = refl

pub handles_are_tokens : HandlesAreTokens
handles_are_tokens txid a out has = has.handles ∙ handles_of_reply a
