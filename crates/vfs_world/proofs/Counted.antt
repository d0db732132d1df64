-- How many entries are served.
use Rattle.std.proofs.Common.{◌≡◌, ℕ, suc, Option, Some, None, ◌∷◌, refl}
use Rattle.vfs_journal.specs.Entries.{Journal, Sent, serves}
use Rattle.vfs_journal.specs.Outcomes.{Forwarded}
use Rattle.vfs_journal.specs.Past.{history_of}
use Rattle.vfs_journal.specs.Serving.{outcome_of}
use Rattle.vfs_journal.specs.Session.{after_serving, with_forward}
use Rattle.vfs_journal.specs.Starts.{Start}
use Rattle.vfs_world.specs.Servings.{served_in}

-- what goes on is sent, and isn't served yet
forward_counts : (origin : ℕ) (journal : Journal) (o : Option Forwarded) → served_in (with_forward origin journal o) ≡ served_in journal
forward_counts origin journal None = refl
forward_counts origin journal (Some forward) = refl

pub one_more_served : (start : Start) (journal : Journal) (sent : Sent) → served_in (after_serving start journal sent) ≡ suc (served_in journal)
one_more_served start journal sent = forward_counts sent.place (serves sent ∷ journal) (outcome_of start (history_of start journal) sent).forward
