use Rattle.std.proofs.Common.{◌≡◌, ◌-◌, ℕ, [], List, OnOk, arith, refl, subst, sym}
use Rattle.fidl_names.specs.declared.limits.TheConstants as limit
use Rattle.link_frames.specs.declared.kinds.Mode.{Mode}
use Rattle.link_frames.specs.Views.{frame_of}
use Rattle.vfs_journal.specs.History.{waiting}
use Rattle.vfs_journal.specs.Output.{Begins}
use Rattle.vfs_journal.specs.Past.{history_of}
use Rattle.vfs_journal.specs.Session.{arrives, drained, steps}
use Rattle.vfs_world.specs.Running.{IsRunning, whole}
use Rattle.vfs_world.specs.World.{LeadsTo, StandsFor, World}
use Rattle.vfs_world.proofs.Lasting.{lasts_more}
use Rattle.vfs_world.proofs.arriving.hear.Goals as goal

-- ---- what was heard and answered at once

pub returns-in-Some-clause-heard : goal.returns-in-Some-clause-heard
returns-in-Some-clause-heard c =
    λ start journal stands.
    subst
    (λ (mode : Mode). OnOk c.in-Some.heard (LeadsTo start (steps start mode journal (frame_of c.args.frame)) (whole c.hear_read.new.self) journal c.args.outbox.now c.hear_read.new.outbox))
    (sym c.in-Auto.is) (c.in-Some.ensures.heard start journal stands)

pub returns-in-Some-clause-none : goal.returns-in-Some-clause-none
returns-in-Some-clause-none c =
    λ auto start journal stands.
    subst (λ (mode : Mode). OnOk c.in-Some.heard (waiting (history_of start (steps start mode journal (frame_of c.args.frame))) ≡ [])) (sym c.in-Auto.is) (c.in-Some.ensures.none start journal stands)

pub returns-in-Some-clause-running : goal.returns-in-Some-clause-running
returns-in-Some-clause-running c = c.in-Some.ensures.running

pub returns-in-Some-clause-begins : goal.returns-in-Some-clause-begins
returns-in-Some-clause-begins c = c.hear_read.ensures.begins

-- ---- where it was none, all was as before

pub hear_out-requires-clause-running : goal.hear_out-requires-clause-running
hear_out-requires-clause-running c = subst (IsRunning (limit.MAX_PLACES - limit.FRAME_PLACES)) (sym (c.in-None.ensures.unchanged refl).0) c.requires.running

pub returns-in-None-clause-heard : goal.returns-in-None-clause-heard
returns-in-None-clause-heard c =
    λ start journal stands.
    let same = c.in-None.ensures.unchanged refl in
    subst (λ (mode : Mode). OnOk c.hear_out.result (LeadsTo start (steps start mode journal (frame_of c.args.frame)) (whole c.hear_out.new.session) journal c.args.outbox.now c.hear_out.new.outbox)) (sym c.in-Auto.is)
    (subst (λ (before : List ℕ). OnOk c.hear_out.result (LeadsTo start (drained start (arrives start journal (frame_of c.args.frame))) (whole c.hear_out.new.session) journal before c.hear_out.new.outbox)) same.1
    (c.hear_out.ensures.heard start journal (subst (λ (world : World). StandsFor start world journal) (sym same.0) stands)))

pub returns-in-None-clause-none : goal.returns-in-None-clause-none
returns-in-None-clause-none c =
    λ auto start journal stands.
    subst (λ (mode : Mode). OnOk c.hear_out.result (waiting (history_of start (steps start mode journal (frame_of c.args.frame))) ≡ [])) (sym c.in-Auto.is)
    (c.hear_out.ensures.none start journal (subst (λ (world : World). StandsFor start world journal) (sym (c.in-None.ensures.unchanged refl).0) stands))

pub returns-in-None-clause-running : goal.returns-in-None-clause-running
returns-in-None-clause-running c = λ most runs. c.hear_out.ensures.running most (subst (IsRunning most) (sym (c.in-None.ensures.unchanged refl).0) runs)

pub returns-in-None-clause-begins : goal.returns-in-None-clause-begins
returns-in-None-clause-begins c = subst (λ (before : List ℕ). Begins before c.hear_out.new.outbox) (c.in-None.ensures.unchanged refl).1 c.hear_out.ensures.begins

-- ---- in mode given

pub arrive-requires-clause-running : goal.arrive-requires-clause-running
arrive-requires-clause-running c = lasts_more (limit.MAX_PLACES - limit.FRAME_PLACES) limit.MAX_PLACES (whole c.args.session.now) (omega arith) c.requires.running

pub returns-in-Given-clause-heard : goal.returns-in-Given-clause-heard
returns-in-Given-clause-heard c =
    λ start journal stands.
    subst (λ (mode : Mode). OnOk c.arrive.result (LeadsTo start (steps start mode journal (frame_of c.args.frame)) (whole c.arrive.new.session) journal c.args.outbox.now c.arrive.new.outbox)) (sym c.in-Given.is)
    (c.arrive.ensures.arrived start journal stands)

pub returns-in-Given-clause-running : goal.returns-in-Given-clause-running
returns-in-Given-clause-running c = c.arrive.ensures.running

pub returns-in-Given-clause-begins : goal.returns-in-Given-clause-begins
returns-in-Given-clause-begins c = c.arrive.ensures.begins
