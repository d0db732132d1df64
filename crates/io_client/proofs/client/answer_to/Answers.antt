use Rattle.std.proofs.Common.{ℕ, map, take, sym, ap, ◌∙◌}
use Rattle.fidl_names.specs.HandleNumber.{handle_with}
use Rattle.link_frames.specs.Views.{handle_numbers}
use Rattle.io_messages.specs.Replies.{answered}
use Rattle.io_replies.specs.Reading.{reply_of}
use Rattle.io_client.proofs.Passing.{reply_of_other, reply_taken}
use Rattle.io_client.proofs.client.answer_to.Goals as goal

pub returns-then-header-of-clause-takes : goal.returns-then-header-of-clause-takes
returns-then-header-of-clause-takes c =
    let bytes = c.args.frame.bytes.now in
    reply_taken c.args.header c.args.method c.in-Ok.txid c.of.result (answered c.in-Ok.reply) (reply_of bytes (map handle_with (handle_numbers c.args.frame.handles)))
    (sym (c.in-Ok.ensures.exact ∙ ap (reply_of bytes) (ap (λ (n : ℕ). take n c.put_handles.new.handles) c.len.ensures ∙ c.put_handles.ensures))) c.if-header-of.true c.of.ensures

pub returns-else-header-of-clause-takes : goal.returns-else-header-of-clause-takes
returns-else-header-of-clause-takes c =
    let bytes = c.args.frame.bytes.now in
    reply_of_other c.args.header c.args.method c.in-Ok.txid c.of.result (answered c.in-Ok.reply) (reply_of bytes (map handle_with (handle_numbers c.args.frame.handles))) c.new.result
    (sym (c.in-Ok.ensures.exact ∙ ap (reply_of bytes) (ap (λ (n : ℕ). take n c.put_handles.new.handles) c.len.ensures ∙ c.put_handles.ensures))) c.if-header-of.false c.of.ensures c.new.ensures
