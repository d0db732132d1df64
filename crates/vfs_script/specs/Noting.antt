-- What a script tells a client.
use Rattle.std.specs.Prelude.{◌≡◌, ⊤, Option, Some, None}
use Rattle.io_client.specs.Calls.{Calls, call_at, noted}
use Rattle.vfs_script.specs.declared.calls.Call.{Call}

-- no call waits where the one that a frame makes is to wait
abbrev pub IsFree : Calls → Option (Option Call) → Type 0
IsFree calls (Some (Some call)) = call_at calls call.endpoint call.txid ≡ None
IsFree calls _ = ⊤

-- the call that a frame makes waits, and the endpoint that a Watch carries is watched
abbrev pub with_noted : Calls → Option (Option Call) → Calls
with_noted calls (Some (Some call)) = noted calls call.endpoint call.txid call.method call.watcher
with_noted calls _ = calls
