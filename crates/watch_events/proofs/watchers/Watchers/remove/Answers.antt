use Rattle.std.proofs.Common.{◌∙◌, Some, None, sym, ap}
use Rattle.watch_events.specs.Watching.{is_among}
use Rattle.watch_events.proofs.Rowed.{few_removed, removes_all, removes_nobody, removes_there, row_seen}
use Rattle.watch_events.proofs.watchers.Watchers.remove.Goals as goal

pub returns-in_default-clause-was : goal.returns-in_default-clause-was
returns-in_default-clause-was c =
    ap (is_among c.args.endpoint) (sym (row_seen c.self.inside.rows c.args.self.now c.args.directory None c.self.view_is (sym c.in_default.ensures.value)))

pub returns-in_default-clause-removed : goal.returns-in_default-clause-removed
returns-in_default-clause-removed c =
    removes_nobody c.self.inside.rows c.get_mut.follows.lender-at-none c.args.self.now c.args.directory c.args.endpoint c.self.view_is c.get_mut.follows.holds-at-none (sym c.in_default.ensures.value)

pub invariant_of-self-else-len-eq0 : goal.invariant_of-self-else-len-eq0
invariant_of-self-else-len-eq0 c =
    few_removed c.self.inside.rows (c.get_mut.follows.lender c.remove-watched.new.self) c.args.directory c.args.endpoint c.in-Some.row.now c.remove-watched.new.self (sym c.in-Some.ensures.value)
    c.remove-watched.ensures.removed (c.get_mut.follows.holds c.remove-watched.new.self) c.self.invariant c.len.result c.if-len-eq0.false c.len.ensures

pub returns-then-len-eq0-clause-was : goal.returns-then-len-eq0-clause-was
returns-then-len-eq0-clause-was c =
    c.remove-watched.ensures.was
    ∙ ap (is_among c.args.endpoint) (sym (row_seen c.self.inside.rows c.args.self.now c.args.directory (Some c.in-Some.row.now) c.self.view_is (sym c.in-Some.ensures.value)))

pub returns-then-len-eq0-clause-removed : goal.returns-then-len-eq0-clause-removed
returns-then-len-eq0-clause-removed c =
    removes_all c.self.inside.rows (c.get_mut.follows.lender c.remove-watched.new.self) c.args.directory c.args.endpoint c.in-Some.row.now c.remove-watched.new.self (sym c.in-Some.ensures.value)
    c.remove-watched.ensures.removed (c.get_mut.follows.holds c.remove-watched.new.self) c.args.self.now c.take_out.new.rows c.self.view_is c.take_out.ensures c.len.result c.if-len-eq0.true c.len.ensures

pub returns-else-len-eq0-clause-was : goal.returns-else-len-eq0-clause-was
returns-else-len-eq0-clause-was c =
    c.remove-watched.ensures.was
    ∙ ap (is_among c.args.endpoint) (sym (row_seen c.self.inside.rows c.args.self.now c.args.directory (Some c.in-Some.row.now) c.self.view_is (sym c.in-Some.ensures.value)))

pub returns-else-len-eq0-clause-removed : goal.returns-else-len-eq0-clause-removed
returns-else-len-eq0-clause-removed c =
    removes_there c.self.inside.rows (c.get_mut.follows.lender c.remove-watched.new.self) c.args.directory c.args.endpoint c.in-Some.row.now c.remove-watched.new.self (sym c.in-Some.ensures.value)
    c.remove-watched.ensures.removed (c.get_mut.follows.holds c.remove-watched.new.self) c.args.self.now c.self.view_is
