use Rattle.std.proofs.Common.{[], sym, subst}
use Rattle.std.specs.FinMap as finite
use Rattle.vfs_server.specs.Kept.{Connections, IsSound, Tokens}
use Rattle.vfs_server.specs.Seats.{Seats}
use Rattle.vfs_server.proofs.Begun.{sound_none}
use Rattle.vfs_server.proofs.server.Server.new.Goals as goal

pub invariant_of-result : goal.invariant_of-result
invariant_of-result c =
    subst (λ (connections : Connections). IsSound c.args.graph connections c.new-2.result c.new-3.result) (sym c.new.ensures)
    (subst (λ (seats : Seats). IsSound c.args.graph finite.empty seats c.new-3.result) (sym c.new-2.ensures)
    (subst (λ (tokens : Tokens). IsSound c.args.graph finite.empty [] tokens) (sym c.new-3.ensures) (sound_none c.args.graph c.requires.unheld)))
