use Rattle.std.specs.Prelude.{codes}
use Rattle.std.proofs.lemmas.Result.{on_ok_weaker}
use Rattle.link_frames.specs.Views.{handle_numbers}
use Rattle.vfs_script.specs.Transcripts.{bytes_text, handles_text, label_of}
use Rattle.vfs_script.proofs.PrintLemmas.{grown, message_put}
use Rattle.vfs_script.proofs.printing.put_message.Goals as goal

pub returns-clause-put : goal.returns-clause-put
returns-clause-put c =
    on_ok_weaker c.put_bytes.result
    (message_put c.args.to.now c.put.new.self c.put_handles.new.to c.put_byte.new.self c.put_bytes.new.to _
    (codes " message ") (label_of c.args.bytes.now) (handles_text (handle_numbers c.args.handles)) (codes " ") (bytes_text c.args.bytes.now)
    c.in_ok-put.ensures.put c.front_of.ensures c.in_ok-put_handles.ensures.put c.in_ok-put_byte.ensures.put)
    c.put_bytes.ensures.put

pub returns-clause-grows : goal.returns-clause-grows
returns-clause-grows c =
    grown c.args.to.now c.put_byte.new.self c.put_bytes.new.to
    (grown c.args.to.now c.put_handles.new.to c.put_byte.new.self
    (grown c.args.to.now c.put.new.self c.put_handles.new.to c.in_ok-put.ensures.grows c.in_ok-put_handles.ensures.grows)
    c.in_ok-put_byte.ensures.grows)
    c.put_bytes.ensures.grows

pub returns-in_err-put_handles-clause-grows : goal.returns-in_err-put_handles-clause-grows
returns-in_err-put_handles-clause-grows c = grown c.args.to.now c.put.new.self c.put_handles.new.to c.in_ok-put.ensures.grows c.in_err-put_handles.ensures.grows

pub returns-in_err-put_byte-clause-grows : goal.returns-in_err-put_byte-clause-grows
returns-in_err-put_byte-clause-grows c =
    grown c.args.to.now c.put_handles.new.to c.put_byte.new.self
    (grown c.args.to.now c.put.new.self c.put_handles.new.to c.in_ok-put.ensures.grows c.in_ok-put_handles.ensures.grows)
    c.in_err-put_byte.ensures.grows
