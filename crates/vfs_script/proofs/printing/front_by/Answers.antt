-- The name of a method between its spaces.
use Rattle.std.proofs.Common.{◌≡◌, ◌++◌, sym, ap}
use Rattle.std.specs.Prelude.{codes}
use Rattle.fidl_names.specs.declared.methods.Method.{Method}
use Rattle.vfs_script.specs.Transcripts.{name_of}
use Rattle.vfs_script.proofs.printing.front_by.Goals as goal

named : (m n : Method) → m ≡ n → codes " message " ++ name_of n ++ codes " " ≡ codes " message " ++ name_of m ++ codes " "
named m n is = ap (λ (method : Method). codes " message " ++ name_of method ++ codes " ") (sym is)

pub returns-in-Clone : goal.returns-in-Clone
returns-in-Clone c = named c.args.method _ c.in-Clone.is

pub returns-in-Close : goal.returns-in-Close
returns-in-Close c = named c.args.method _ c.in-Close.is

pub returns-in-Query : goal.returns-in-Query
returns-in-Query c = named c.args.method _ c.in-Query.is

pub returns-in-GetAttributes : goal.returns-in-GetAttributes
returns-in-GetAttributes c = named c.args.method _ c.in-GetAttributes.is

pub returns-in-Sync : goal.returns-in-Sync
returns-in-Sync c = named c.args.method _ c.in-Sync.is

pub returns-in-OpenPath : goal.returns-in-OpenPath
returns-in-OpenPath c = named c.args.method _ c.in-OpenPath.is

pub returns-in-ReadDirents : goal.returns-in-ReadDirents
returns-in-ReadDirents c = named c.args.method _ c.in-ReadDirents.is

pub returns-in-Rewind : goal.returns-in-Rewind
returns-in-Rewind c = named c.args.method _ c.in-Rewind.is

pub returns-in-GetToken : goal.returns-in-GetToken
returns-in-GetToken c = named c.args.method _ c.in-GetToken.is

pub returns-in-Rename : goal.returns-in-Rename
returns-in-Rename c = named c.args.method _ c.in-Rename.is

pub returns-in-Link : goal.returns-in-Link
returns-in-Link c = named c.args.method _ c.in-Link.is

pub returns-in-Unlink : goal.returns-in-Unlink
returns-in-Unlink c = named c.args.method _ c.in-Unlink.is

pub returns-in-Watch : goal.returns-in-Watch
returns-in-Watch c = named c.args.method _ c.in-Watch.is

pub returns-in-Read : goal.returns-in-Read
returns-in-Read c = named c.args.method _ c.in-Read.is

pub returns-in-ReadAt : goal.returns-in-ReadAt
returns-in-ReadAt c = named c.args.method _ c.in-ReadAt.is

pub returns-in-Write : goal.returns-in-Write
returns-in-Write c = named c.args.method _ c.in-Write.is

pub returns-in-WriteAt : goal.returns-in-WriteAt
returns-in-WriteAt c = named c.args.method _ c.in-WriteAt.is

pub returns-in-Seek : goal.returns-in-Seek
returns-in-Seek c = named c.args.method _ c.in-Seek.is

pub returns-in-Resize : goal.returns-in-Resize
returns-in-Resize c = named c.args.method _ c.in-Resize.is

pub returns-in-EchoString : goal.returns-in-EchoString
returns-in-EchoString c = named c.args.method _ c.in-EchoString.is
