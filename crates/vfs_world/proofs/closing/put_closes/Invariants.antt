use Rattle.std.proofs.Common.{◌≡◌, ◌++◌, map, take}
use Rattle.link_frames.specs.Frames.{spellings}
use Rattle.vfs_journal.specs.Outcomes.{close_frame}
use Rattle.vfs_world.proofs.closing.put_closes.Given as goal

abbrev pub invariant-loop-endpoint : goal.invariant-loop-endpoint
invariant-loop-endpoint l = l.outbox ≡ l.initial.outbox ++ spellings (map close_frame (take l.endpoint-index l.endpoints))
