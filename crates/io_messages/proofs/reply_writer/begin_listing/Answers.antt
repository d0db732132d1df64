use Rattle.std.proofs.Common.{◌≡◌, ◌∙◌, ℕ, List, ◌++◌, ap}
use Rattle.fidl_names.specs.Numbers.{number_bytes}
use Rattle.fidl_wire.specs.Headers.{header_bytes}
use Rattle.fidl_wire.specs.Spelling.{count_bytes}
use Rattle.io_messages.proofs.BegunListings.{listing_begun}
use Rattle.fidl_names.specs.declared.methods.Method.TheVariants.{ReadDirents}
use Rattle.fidl_wire.specs.Written.{Written}
use Rattle.io_messages.specs.Replies.{payload}
use Rattle.io_messages.specs.ReplyWriting.{reply_body}
use Rattle.io_messages.specs.Writing.{plain_header}
use Rattle.io_messages.proofs.Lengths.{length-header}
use Rattle.io_messages.proofs.reply_writer.begin_listing.Goals as goal

pub returns-clause-bytes : goal.returns-clause-bytes
returns-clause-bytes c = λ listed size.
    let head = header_bytes (plain_header c.args.txid c.of.result) in
    let first : c.begin.new.self.bytes ≡ head = c.begin.ensures.bytes ∙ ap (λ (out : Written). out.bytes ++ head) c.requires.empty in
    let begun = c.put_count.ensures.bytes
    ∙ ap (λ (bs : List ℕ). bs ++ count_bytes c.args.bytes) (c.put_u64.ensures.bytes ∙ ap (λ (bs : List ℕ). bs ++ number_bytes 8 0) first) in
    listing_begun head c.put_count.new.out.bytes listed c.args.bytes (length-header (plain_header c.args.txid c.of.result)) size begun
    ∙ ap (λ (ordinal : ℕ). header_bytes (plain_header c.args.txid ordinal) ++ reply_body (payload ReadDirents listed)) c.of.ensures
