-- The others, rising, are closed.
use Rattle.std.proofs.Common.{◌≡◌, ◌∙◌, ◌++◌, ℕ, List, ap, map, subst}
use Rattle.std.specs.Result.{OnOk}
use Rattle.link_frames.specs.Frames.{spellings}
use Rattle.vfs_journal.specs.Outcomes.{close_frame}
use Rattle.vfs_journal.specs.Output.{rising}
use Rattle.vfs_world.proofs.closing.close_others.Goals as goal

pub returns-clause-written : goal.returns-clause-written
returns-clause-written c =
    subst (λ (numbers : List ℕ). OnOk c.put_closes.result (c.put_closes.new.outbox ≡ c.args.outbox.now ++ spellings (map close_frame numbers)))
    (c.deref.ensures.value ∙ c.sort.ensures ∙ ap rising c.in_ok-others.ensures) c.put_closes.ensures.written
