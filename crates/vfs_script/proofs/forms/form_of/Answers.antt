-- The words behind a verb say what its form says.
use Rattle.vfs_script.proofs.FormLemmas.{alone}
use Rattle.vfs_script.proofs.forms.form_of.Goals as goal

pub returns-in-Open : goal.returns-in-Open
returns-in-Open c = rw c.in-Open.is c.open_form.ensures

pub returns-in-Clone : goal.returns-in-Clone
returns-in-Clone c = rw c.in-Clone.is c.clone_form.ensures

pub returns-in-Attributes : goal.returns-in-Attributes
returns-in-Attributes c = rw c.in-Attributes.is c.attributes_form.ensures

pub returns-in-List : goal.returns-in-List
returns-in-List c = rw c.in-List.is c.list_form.ensures

pub returns-in-Rename : goal.returns-in-Rename
returns-in-Rename c = rw c.in-Rename.is c.rename_form.ensures

pub returns-in-Link : goal.returns-in-Link
returns-in-Link c = rw c.in-Link.is c.link_form.ensures

pub returns-in-Unlink : goal.returns-in-Unlink
returns-in-Unlink c = rw c.in-Unlink.is c.unlink_form.ensures

pub returns-in-Watch : goal.returns-in-Watch
returns-in-Watch c = rw c.in-Watch.is c.watch_form.ensures

pub returns-in-Read : goal.returns-in-Read
returns-in-Read c = rw c.in-Read.is c.read_form.ensures

pub returns-in-ReadAt : goal.returns-in-ReadAt
returns-in-ReadAt c = rw c.in-ReadAt.is c.read_at_form.ensures

pub returns-in-Write : goal.returns-in-Write
returns-in-Write c = rw c.in-Write.is c.write_form.ensures

pub returns-in-WriteAt : goal.returns-in-WriteAt
returns-in-WriteAt c = rw c.in-WriteAt.is c.write_at_form.ensures

pub returns-in-Seek : goal.returns-in-Seek
returns-in-Seek c = rw c.in-Seek.is c.seek_form.ensures

pub returns-in-Resize : goal.returns-in-Resize
returns-in-Resize c = rw c.in-Resize.is c.resize_form.ensures

pub returns-in-Echo : goal.returns-in-Echo
returns-in-Echo c = rw c.in-Echo.is c.echo_form.ensures

pub returns-in-HangUp : goal.returns-in-HangUp
returns-in-HangUp c = rw c.in-HangUp.is c.hang_up_form.ensures

pub returns-in-Turn : goal.returns-in-Turn
returns-in-Turn c = rw c.in-Turn.is c.turn_form.ensures

pub returns-in-Raw : goal.returns-in-Raw
returns-in-Raw c = rw c.in-Raw.is c.raw_form.ensures

pub returns-in-Close : goal.returns-in-Close
returns-in-Close c = rw c.in-Close.is (alone _ c.args.fields c.plain_form.result c.plain_form.ensures)

pub returns-in-Query : goal.returns-in-Query
returns-in-Query c = rw c.in-Query.is (alone _ c.args.fields c.plain_form-in-Query.result c.plain_form-in-Query.ensures)

pub returns-in-Sync : goal.returns-in-Sync
returns-in-Sync c = rw c.in-Sync.is (alone _ c.args.fields c.plain_form-in-Sync.result c.plain_form-in-Sync.ensures)

pub returns-in-Rewind : goal.returns-in-Rewind
returns-in-Rewind c = rw c.in-Rewind.is (alone _ c.args.fields c.plain_form-in-Rewind.result c.plain_form-in-Rewind.ensures)

pub returns-in-Token : goal.returns-in-Token
returns-in-Token c = rw c.in-Token.is (alone _ c.args.fields c.plain_form-in-Token.result c.plain_form-in-Token.ensures)

pub returns-in-Pick : goal.returns-in-Pick
returns-in-Pick c = rw c.in-Pick.is (alone _ c.args.fields c.ended.result c.ended.ensures)
