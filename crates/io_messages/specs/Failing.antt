-- How a request of each method fails.
use Rattle.std.specs.Prelude.{Bool, true, false, Option, Some, None}
use Rattle.fidl_names.specs.declared.methods.Method.{Method}
use Rattle.io_messages.specs.declared.failing.Failing.{Failing}
use Rattle.io_messages.specs.declared.failing.Failing.TheVariants as failing
use Rattle.io_messages.specs.declared.replies.Shape.{Shape}
use Rattle.io_messages.specs.declared.replies.Shape.TheVariants as shape
use Rattle.io_messages.specs.Shapes.{shape_of}

-- what has no reply fails on the endpoint that it carries, and what has one fails in it; but a list
-- of bytes and a string have no place for a status
abbrev pub failing_with : Option Shape → Failing
failing_with None = failing.Epitaph
failing_with (Some shape.Done) = failing.Reply
failing_with (Some shape.Number) = failing.Reply
failing_with (Some shape.Bytes) = failing.Reply
failing_with (Some shape.Attributes) = failing.Reply
failing_with (Some shape.Vector) = failing.Never
failing_with (Some shape.Text) = failing.Never
failing_with (Some shape.Listing) = failing.Reply
failing_with (Some shape.Settled) = failing.Reply
failing_with (Some shape.Token) = failing.Reply

abbrev pub failing_of : Method → Failing
failing_of m = failing_with (shape_of m)

-- a failure has a form
abbrev pub has_form : Failing → Bool
has_form failing.Reply = true
has_form failing.Epitaph = true
has_form failing.Never = false

abbrev pub can_fail : Method → Bool
can_fail m = has_form (failing_of m)

-- a failure is a reply
abbrev pub IsInReply : Failing → Type 0
IsInReply failing.Reply = Unit {0}
IsInReply failing.Epitaph = ⊥
IsInReply failing.Never = ⊥
