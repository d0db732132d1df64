use Rattle.std.proofs.Common.{◌∙◌, ap, arith, refl, set}
use Rattle.std.proofs.lemmas.List.{set-get_or}
use Rattle.std.proofs.lemmas.Option.{slice_get_read}
use Rattle.io_messages.specs.Asked.{asked}
use Rattle.vfs_world.proofs.ReadAtOnce.{reads_there}
use Rattle.vfs_world.proofs.session.reading.read_at.Goals as goal

pub returns-clause-answers : goal.returns-clause-answers
returns-clause-answers c =
    reads_there c.args.servers.now.items c.args.at c.args.endpoint c.args.txid (asked c.args.request.now) c.index_mut-one.result.now c.read.new.self c.args.outbox.now c.read.new.outbox c.read.result
    (slice_get_read c.args.servers.now.items _ c.args.at c.index_mut-one.result.now refl (omega arith) c.index_mut-one.ensures.value)
    c.read.ensures.bound c.read.ensures.serves

-- a server that is as it was leaves all of them so
pub returns-clause-unchanged : goal.returns-clause-unchanged
returns-clause-unchanged c = λ none.
    let same = c.read.ensures.unchanged none in
    (ap (set c.args.servers.now.items c.args.at) (same.0 ∙ c.index_mut-one.ensures.value) ∙ set-get_or c.args.servers.now.items c.args.at c.index_mut-one.result.now, same.1)
