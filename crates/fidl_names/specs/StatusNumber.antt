use Rattle.std.specs.Prelude.{ℤ, pos, negsuc}
use Rattle.fidl_names.specs.declared.statuses.Status.{Status}
use Rattle.fidl_names.specs.declared.statuses.Status.TheVariants as status

-- the number of each status
abbrev pub number_of : Status → ℤ
number_of status.Ok = pos 0
number_of status.Internal = negsuc 0
number_of status.NotSupported = negsuc 1
number_of status.NoResources = negsuc 2
number_of status.NoMemory = negsuc 3
number_of status.InvalidArgs = negsuc 9
number_of status.BadHandle = negsuc 10
number_of status.WrongType = negsuc 11
number_of status.OutOfRange = negsuc 13
number_of status.BufferTooSmall = negsuc 14
number_of status.BadState = negsuc 19
number_of status.ShouldWait = negsuc 21
number_of status.PeerClosed = negsuc 23
number_of status.NotFound = negsuc 24
number_of status.AlreadyExists = negsuc 25
number_of status.AccessDenied = negsuc 29
number_of status.NotDir = negsuc 50
number_of status.NotFile = negsuc 51
number_of status.FileBig = negsuc 52
number_of status.NoSpace = negsuc 53
number_of status.NotEmpty = negsuc 54
