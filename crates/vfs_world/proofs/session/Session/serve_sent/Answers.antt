use Rattle.std.proofs.Common.{refl, subst, sym}
use Rattle.vfs_world.specs.Heads.{WasTaken}
use Rattle.vfs_world.proofs.session.Session.serve_sent.Goals as goal

pub serve_taken-requires : goal.serve_taken-requires
serve_taken-requires c = record { taken = subst (WasTaken c.args.endpoint c.args.server c.args.sent.now) (sym (c.in-None.ensures.unchanged refl).0) c.requires.taken }
