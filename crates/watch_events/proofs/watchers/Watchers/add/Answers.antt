use Rattle.std.proofs.Common.{◌≡◌, ◌<◌, ◌++◌, ◌∷◌, [], ◌∙◌, false, length, List, Some, None, sym, ap, subst}
use Rattle.std.specs.BTreeMap.{UpdatesBy}
use Rattle.std.specs.Ordering.{nat_cmp}
use Rattle.fidl_names.specs.declared.limits.TheConstants as limit
use Rattle.watch_events.specs.Messages.{Watcher}
use Rattle.watch_events.specs.Watching.{Adds, Watching, is_among, watchers_of}
use Rattle.watch_events.specs.Rows.{watching_of}
use Rattle.watch_events.proofs.Registered.{watcher_with}
use Rattle.watch_events.proofs.Rowed.{Rows, adds, adds_there, few_added, row_found, row_seen, same_there, same_view}
use Rattle.watch_events.proofs.Told.{for_want}
use Rattle.watch_events.proofs.watchers.Watchers.add.Goals as goal

-- the row that was there
seen : (c : goal.In-Some) → watchers_of c.args.self.now c.args.directory ≡ c.in-Some.row.now
seen c = row_seen c.self.inside.rows c.args.self.now c.args.directory (Some c.in-Some.row.now) c.self.view_is (sym c.in-Some.ensures.value)

pub add-requires : goal.add-requires
add-requires c = record { new = subst (λ (row : List Watcher). is_among c.args.endpoint row ≡ false) (seen c) c.requires.new }

pub invariant_of-self : goal.invariant_of-self
invariant_of-self c =
    few_added c.add.result c.self.inside.rows (c.get_mut.follows.lender c.add.new.self) c.args.directory c.in-Some.row.now c.add.new.self (watcher_with c.args.endpoint c.args.mask)
    (sym c.in-Some.ensures.value) c.add.ensures.added c.add.ensures.unchanged (c.get_mut.follows.holds c.add.new.self) c.self.invariant
    (subst (λ (row : List Watcher). length row < limit.MAX_WATCHERS)
    (row_seen c.self.inside.rows c.args.self.now c.args.directory (Some c.in-Some.row.now) c.self.view_is (sym c.in-Some.ensures.value)) c.requires.few)

pub returns-in-Some-clause-added : goal.returns-in-Some-clause-added
returns-in-Some-clause-added c =
    adds_there c.add.result c.self.inside.rows (c.get_mut.follows.lender c.add.new.self) c.args.directory c.in-Some.row.now c.add.new.self (watcher_with c.args.endpoint c.args.mask)
    (sym c.in-Some.ensures.value) c.add.ensures.added c.add.ensures.unchanged (c.get_mut.follows.holds c.add.new.self) c.args.self.now c.self.view_is

pub returns-in-Some-clause-unchanged : goal.returns-in-Some-clause-unchanged
returns-in-Some-clause-unchanged c =
    same_there c.add.result c.self.inside.rows (c.get_mut.follows.lender c.add.new.self) c.args.directory c.in-Some.row.now c.add.new.self (watcher_with c.args.endpoint c.args.mask)
    (sym c.in-Some.ensures.value) c.add.ensures.added c.add.ensures.unchanged (c.get_mut.follows.holds c.add.new.self) c.args.self.now c.self.view_is

pub returns-in_err-insert-in-None-clause-unchanged : goal.returns-in_err-insert-in-None-clause-unchanged
returns-in_err-insert-in-None-clause-unchanged c = for_want c.from_residual-in_err-insert-in-None.result
    (same_view c.self.inside.rows c.insert.new.self (c.in_err-insert-in-None.ensures.err ∙ ap (λ (rows : Rows). rows.entries) c.get_mut.follows.holds-at-none) ∙ c.self.view_is)

pub returns-in_ok-insert-in-None-clause-added : goal.returns-in_ok-insert-in-None-clause-added
returns-in_ok-insert-in-None-clause-added c =
    let w = watcher_with c.args.endpoint c.args.mask in
    let none : watchers_of (watching_of c.self.inside.rows) c.args.directory ≡ [] = row_found c.self.inside.rows c.args.directory None (sym c.in-None.ensures.value) in
    subst (λ (watching : Watching). Adds watching c.args.directory w (watching_of c.insert.new.self)) c.self.view_is
    (adds c.self.inside.rows c.insert.new.self c.args.directory w c.add-in-None.new.self
    (subst (λ (rows : Rows). UpdatesBy nat_cmp (nat_cmp c.args.directory) rows c.insert.new.self (Some c.add-in-None.new.self)) c.get_mut.follows.holds-at-none c.in_ok-insert-in-None.ensures.updates)
    (c.in_ok-add-in-None.ensures.added ∙ ap (λ (row : List Watcher). row ++ w ∷ []) (c.new-row.ensures ∙ sym none)))
