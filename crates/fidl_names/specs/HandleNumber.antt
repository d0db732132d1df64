-- Handles as numbers, and which numbers are whose.
use Rattle.std.specs.Prelude.{ℕ, ◌+◌, ◌&&◌, Bool, nat_lt, nat_le, if◌then◌else◌}
use Rattle.fidl_names.specs.declared.limits.TheConstants as limit
use Rattle.fidl_names.specs.declared.methods.Handle.{Handle}
use Rattle.fidl_names.specs.declared.methods.Handle.TheVariants.{Endpoint, Token}

-- the number of a handle on the link
abbrev pub number_of_handle : Handle → ℕ
number_of_handle (Endpoint n) = n
number_of_handle (Token n) = n

-- the handle with a number: a token from the first token's number on
abbrev pub handle_with : ℕ → Handle
handle_with n = if nat_le limit.FIRST_TOKEN n then Token n else Endpoint n

-- the numbers from which clients make endpoints
abbrev pub is_client : ℕ → Bool
is_client n = nat_lt 0 n && nat_lt n limit.FIRST_MOUNT_END

-- the endpoint of the end of a mount, by its index over the mounts of all servers
abbrev pub end_of_mount : ℕ → ℕ
end_of_mount index = limit.FIRST_MOUNT_END + index

-- the numbers of so many mount ends
abbrev pub is_mount_end : ℕ → ℕ → Bool
is_mount_end mounts n = nat_le limit.FIRST_MOUNT_END n && nat_lt n (limit.FIRST_MOUNT_END + mounts)
