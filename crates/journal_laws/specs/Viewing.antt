-- That the view of a past is all that what follows depends on.
use Rattle.std.specs.Prelude.{◌≡◌, ℕ}
use Rattle.std.specs.Option.{option_map}
use Rattle.vfs_journal.specs.Deaths.{deaths_of}
use Rattle.vfs_journal.specs.Entries.{Journal, Sent, serves}
use Rattle.vfs_journal.specs.History.{History, bound_at, living, trees_of}
use Rattle.vfs_journal.specs.Output.{frames_of_serving}
use Rattle.vfs_journal.specs.Past.{event_of, history_of}
use Rattle.vfs_journal.specs.Serving.{outcome_of}
use Rattle.vfs_journal.specs.Session.{head, next, oldest}
use Rattle.vfs_journal.specs.Starts.{Start}
use Rattle.vfs_journal.specs.Tokens.{is_held, next_token}
use Rattle.vfs_journal.specs.View.{View, view_of, at_in, bounds_in, next_in, head_in, oldest_in, outcome_in, deaths_in, frames_in, next_token_in, is_held_in}

-- the view behind a journal
abbrev pub view_behind : Start → Journal → View
view_behind start journal = view_of start (history_of start journal)

-- ---- any history

-- what is served next, of an endpoint, of a server and anywhere, what it answers, who dies of it and what is written for it
pub record IsInView (start : Start) (history : History) : Type 0 where
  pub bound : (endpoint : ℕ) → bound_at start history endpoint ≡ option_map (λ pair. pair.0) (at_in (view_of start history) endpoint)
  pub lives : living start history ≡ bounds_in (view_of start history)
  pub held : (token : ℕ) → is_held history token ≡ is_held_in (view_of start history) token
  pub token : next_token history ≡ next_token_in (view_of start history)
  pub next : next start history ≡ next_in (view_of start history)
  pub head : (endpoint : ℕ) → head start history endpoint ≡ head_in (view_of start history) endpoint
  pub oldest : (server : ℕ) → oldest start history server ≡ oldest_in (view_of start history) server
  pub outcome : (sent : Sent) → outcome_of start history sent ≡ outcome_in (view_of start history) sent
  pub deaths : (sent : Sent) → deaths_of history sent (outcome_of start history sent) ≡ deaths_in (view_of start history) sent
  pub frames : (sent : Sent) → frames_of_serving (trees_of start history) (living start history) (event_of start history (serves sent)) ≡ frames_in (view_of start history) sent

-- ---- lawful journals

-- ---- what holds of each view
