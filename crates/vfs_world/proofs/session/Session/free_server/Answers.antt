-- What is found is a server where the endpoint is bound.
use Rattle.std.proofs.Common.{◌≡◌, ℕ, IfSome, None, Option, Some, sym, arith}
use Rattle.link_frames.specs.Frames.{Frame}
use Rattle.link_frames.specs.Views.{frame_of}
use Rattle.message_queues.specs.Queues.{count, server_of}
use Rattle.vfs_world.specs.Running.{whole}
use Rattle.vfs_world.specs.World.{World}
use Rattle.vfs_world.specs.Arrivals.{IsFree, Sends}
use Rattle.vfs_world.proofs.session.Session.free_server.Goals as goal

free_where : (found : Option ℕ) (frame : Frame) (world : World) → Sends frame.kind → found ≡ server_of world.queues frame.endpoint → count world.queues ≡ 0 →
    IfSome found (λ server. IsFree frame server world)
free_where None frame world sends is none = tt
free_where (Some server) frame world sends is none = record { sends = sends; bound = sym is; none = none }

pub returns-in-Message : goal.returns-in-Message
returns-in-Message c =
    free_where c.server_of.result (frame_of c.args.frame) (whole c.args.self.now) c.in-Message.is c.server_of.ensures
    (let len = c.len.ensures.len in omega (arith, len))
