use Rattle.std.proofs.Common.{◌≡◌, Some, ap, arith}
use Rattle.fidl_names.specs.Numbers.{number_bytes}
use Rattle.io_messages.specs.declared.replies.Shape.TheVariants.{Listing, Text, Vector}
use Rattle.io_messages.specs.Replies.{beside_payload}
use Rattle.io_messages.proofs.Lengths.{length-number}
use Rattle.io_messages.proofs.Unions.{list_length, listing_length}
use Rattle.io_messages.proofs.reply_writer.put_payload.Goals as goal

pub put_object-requires-clause-bytes : goal.put_object-requires-clause-bytes
put_object-requires-clause-bytes c =
    let shape : c.args.shape ≡ Some Vector = grind (arith, c.in-Some-Vector.is, c.in-Some-Vector.field-0-is) in
    omega (arith, c.requires.head, c.requires.fits, ap beside_payload shape, list_length c.args.bytes.now)

pub put_object-requires-in-Some-Text-clause-bytes : goal.put_object-requires-in-Some-Text-clause-bytes
put_object-requires-in-Some-Text-clause-bytes c =
    let shape : c.args.shape ≡ Some Text = grind (arith, c.in-Some-Text.is, c.in-Some-Text.field-0-is) in
    omega (arith, c.requires.head, c.requires.fits, ap beside_payload shape, list_length c.args.bytes.now)

pub put_object-requires-in-Some-Listing-clause-bytes : goal.put_object-requires-in-Some-Listing-clause-bytes
put_object-requires-in-Some-Listing-clause-bytes c =
    let shape : c.args.shape ≡ Some Listing = grind (arith, c.in-Some-Listing.is, c.in-Some-Listing.field-0-is) in
    omega (arith, c.requires.head, c.requires.fits, ap beside_payload shape, listing_length (number_bytes 4 0) c.args.bytes.now (length-number 4 0))
