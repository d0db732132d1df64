use Rattle.conn_rules.specs.Contexts.{context_of}
use Rattle.std.proofs.Common.{ap, sym, subst, Some, None, if◌then◌else◌, pos, ◌+ℤ◌, ◌≡◌, w64}
use Rattle.std.proofs.lemmas.Int.{to_z-of_z}
use Rattle.file_conn.proofs.Rows.{seek_of_no_origin, seek_row, sought_nowhere, sought_row}
use Rattle.file_conn.proofs.Serving.{file_at, moved_served}
use Rattle.conn_rules.specs.FileRows.{at_byte, is_no_position, offset_from}
use Rattle.file_conn.proofs.connection.FileConn.seek.Goals as goal

pub returns-in-None-clause-serves : goal.returns-in-None-clause-serves
returns-in-None-clause-serves c room tree directory stands =
    rw (seek_of_no_origin (context_of c.args.self.now room tree directory) c.args.origin c.args.offset (sym c.in-None.ensures.origin)) (c.fail.ensures.served c.args.self.now c.args.graph.now)

pub returns-in-None-clause-kind : goal.returns-in-None-clause-kind
returns-in-None-clause-kind c = (c.fail.ensures.served c.args.self.now c.args.graph.now).answer.0

pub returns-in-None-position_from-clause-serves : goal.returns-in-None-position_from-clause-serves
returns-in-None-position_from-clause-serves c room tree directory stands =
    rw (seek_row (context_of c.args.self.now room tree directory) c.args.origin c.args.offset c.in-Some.base (sym c.in-Some.ensures.origin) (c.in-Some.ensures.base room tree directory stands))
    (rw (sought_nowhere (context_of c.args.self.now room tree directory) c.in-Some.base c.args.offset
    (subst (λ offset. None ≡ (if is_no_position (pos c.in-Some.base +ℤ offset) then None else Some (offset_from (pos c.in-Some.base +ℤ offset)))) (to_z-of_z w64 c.args.offset c.ranges.offset) c.in-None-position_from.ensures))
    (c.fail-in-None-position_from.ensures.served c.args.self.now c.args.graph.now))

pub returns-in-None-position_from-clause-kind : goal.returns-in-None-position_from-clause-kind
returns-in-None-position_from-clause-kind c = (c.fail-in-None-position_from.ensures.served c.args.self.now c.args.graph.now).answer.0

pub returns-in-Some-position_from-clause-serves : goal.returns-in-Some-position_from-clause-serves
returns-in-Some-position_from-clause-serves c room tree directory stands =
    rw (seek_row (context_of c.args.self.now room tree directory) c.args.origin c.args.offset c.in-Some.base (sym c.in-Some.ensures.origin) (c.in-Some.ensures.base room tree directory stands))
    (rw (sought_row (context_of c.args.self.now room tree directory) c.in-Some.base c.args.offset c.in-Some-position_from.position
    (subst (λ offset. Some c.in-Some-position_from.position ≡ (if is_no_position (pos c.in-Some.base +ℤ offset) then None else Some (offset_from (pos c.in-Some.base +ℤ offset)))) (to_z-of_z w64 c.args.offset c.ranges.offset) c.in-Some-position_from.ensures))
    (moved_served _ _ _ _ _ (file_at c.self.inside.birth c.in-Some-position_from.position) c.args.graph.now (ap (λ conn. at_byte conn.position c.in-Some-position_from.position) c.self.view_is) c.reply.ensures.served))
