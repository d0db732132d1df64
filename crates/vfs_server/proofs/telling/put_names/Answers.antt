use Rattle.std.proofs.Common.{◌≡◌, ◌++◌, List, OnOk, ap, subst}
use Rattle.link_frames.specs.Frames.{Frame, spellings}
use Rattle.watch_events.specs.Messages.{first_frames}
use Rattle.vfs_server.proofs.Told.{names_are}
use Rattle.vfs_server.proofs.telling.put_names.Goals as goal

pub names_after-requires-clause-directory : goal.names_after-requires-clause-directory
names_after-requires-clause-directory c = c.requires.directory.kind

pub returns-clause-told : goal.returns-clause-told
returns-clause-told c =
    subst (λ (frames : List Frame). OnOk c.snapshot.result (c.snapshot.new.to ≡ c.args.outbox.now ++ spellings frames))
    (ap (first_frames c.args.object c.args.mask) (names_are c.args.graph.now.edges c.args.directory.number c.names_after.result c.names_after.ensures.names))
    c.snapshot.ensures.told
