use Rattle.std.proofs.Common.{◌∙◌, ◌++◌, [], ℕ, List, Option, append-nil, refl, sym, ap, subst}
use Rattle.link_frames.specs.Frames.{spellings}
use Rattle.vfs_journal.specs.Entries.{Sent}
use Rattle.message_queues.specs.Dying.{AreDeaths}
use Rattle.vfs_world.specs.Running.{whole}
use Rattle.vfs_world.specs.ServingSteps.{closed_for, end_told}
use Rattle.vfs_world.proofs.NoneDie.{no_items, none_die}
use Rattle.vfs_world.proofs.session.Session.let_die.Goals as goal

pub returns-then-is_empty-clause-dead : goal.returns-then-is_empty-clause-dead
returns-then-is_empty-clause-dead c =
    none_die (whole c.args.self.now) c.args.sent.now c.args.fate.now _ c.args.outbox.now c.new.ensures.items
    (sym c.in_ok-list_first_deaths.ensures ∙ no_items c.list_first_deaths.new.dying.items c.list_first_deaths.new.dying.len c.list_first_deaths.new.dying.ok.0 (sym c.is_empty.ensures ∙ c.if-is_empty.true)) c.requires.counted

pub bury-requires-clause-live : goal.bury-requires-clause-live
bury-requires-clause-live c =
    λ dead died. c.requires.live dead (subst (λ (firsts : List ℕ). AreDeaths c.args.self.now.queues firsts dead) (ap (λ taken. taken.items) c.replace-dying.ensures.value ∙ c.in_ok-list_first_deaths.ensures) died)

pub returns-clause-dead : goal.returns-clause-dead
returns-clause-dead c =
    record {
      dead = c.in_ok-buried.buried.dead.items;
      died = subst (λ (firsts : List ℕ). AreDeaths c.args.self.now.queues firsts c.in_ok-buried.buried.dead.items) (ap (λ taken. taken.items) c.replace-dying.ensures.value ∙ c.in_ok-list_first_deaths.ensures) c.in_ok-buried.ensures.died;
      buried = c.in_ok-buried.ensures.buried;
      tokens = c.in_ok-buried.ensures.tokens;
      goes = c.in_ok-buried.ensures.gone;
      closed =
          c.in_ok-close_others.ensures.written
          ∙ ap (λ (one : Option ℕ). c.args.outbox.now ++ spellings (closed_for one c.deref.result.now)) (c.end_told.ensures ∙ ap (λ (sent : Sent). end_told sent.endpoint c.args.fate.now) c.sent.view_is)
          ∙ ap (λ (dead : List ℕ). c.args.outbox.now ++ spellings (closed_for (end_told c.args.sent.now.endpoint c.args.fate.now) dead)) c.deref.ensures.value;
      known = c.in_ok-buried.ensures.known;
      count = c.in_ok-buried.ensures.count;
      places = refl;
    }

pub bury-requires-clause-counted : goal.bury-requires-clause-counted
bury-requires-clause-counted c = c.requires.counted

pub returns-in_err-list_first_deaths-clause-begins : goal.returns-in_err-list_first_deaths-clause-begins
returns-in_err-list_first_deaths-clause-begins c = ([], sym (append-nil c.args.outbox.now))

pub returns-then-is_empty-clause-begins : goal.returns-then-is_empty-clause-begins
returns-then-is_empty-clause-begins c = ([], sym (append-nil c.args.outbox.now))

pub returns-in_err-buried-clause-begins : goal.returns-in_err-buried-clause-begins
returns-in_err-buried-clause-begins c = ([], sym (append-nil c.args.outbox.now))

pub returns-in_err-close_others-clause-begins : goal.returns-in_err-close_others-clause-begins
returns-in_err-close_others-clause-begins c = c.close_others.ensures.begins

pub returns-clause-begins : goal.returns-clause-begins
returns-clause-begins c = c.close_others.ensures.begins
