use Rattle.vfs_server.proofs.Begun.{holds_none, holds_start}
use Rattle.vfs_server.proofs.beginning.begin_over.Goals as goal

pub bind_firsts-requires-clause-holds : goal.bind_firsts-requires-clause-holds
bind_firsts-requires-clause-holds c =
    holds_none c.args.start.now c.args.index _ _ c.new-server.result c.requires.stands c.new-server.ensures

pub returns-clause-holds : goal.returns-clause-holds
returns-clause-holds c =
    holds_start c.args.start.now c.requires.accepted c.args.index c.requires.within c.bind_firsts.new.server _ c.in_ok-bind_firsts.ensures
