use Rattle.std.proofs.Common.{◌≡◌, ◌++◌, OnOk, subst, sym}
use Rattle.link_frames.specs.Frames.{spellings}
use Rattle.vfs_server.specs.declared.deed.Deed.{Deed}
use Rattle.vfs_server.specs.Watched.{first_of}
use Rattle.vfs_server.proofs.telling.put_first.Goals as goal

pub put_names-requires : goal.put_names-requires
put_names-requires c = record { directory = c.requires.directory c.in-Watches.object c.in-Watches.mask c.in-Watches.directory c.in-Watches.is }

pub returns-in-Watches-clause-told : goal.returns-in-Watches-clause-told
returns-in-Watches-clause-told c =
    subst (λ (fate : Deed). OnOk c.put_names.result (c.put_names.new.outbox ≡ c.args.outbox.now ++ spellings (first_of c.args.graph.now.edges fate)))
    (sym c.in-Watches.is) c.put_names.ensures.told
