-- Which endpoints die of a serving.
use Rattle.std.specs.Prelude.{ℕ, ◌==◌, ◌||◌, Bool, false, not, if◌then◌else◌, List, [], ◌∷◌, ◌++◌, filter}
use Rattle.std.specs.Option.{option_map_or}
use Rattle.link_admission.specs.Numbering.{among}
use Rattle.vfs_journal.specs.Entries.{Sent, endpoints_in}
use Rattle.vfs_journal.specs.History.{History, waiting}
use Rattle.vfs_journal.specs.Outcomes.{Outcome}

-- the outcome binds, ends or forwards an endpoint
abbrev pub is_settled : Outcome → ℕ → Bool
is_settled outcome endpoint =
    option_map_or (λ bound. bound.endpoint == endpoint) outcome.bound false
    || (among endpoint outcome.ends || option_map_or (λ forward. forward.object == endpoint) outcome.forward false)

-- the endpoints that the answer ends, and those that the entry carries and nothing is done with
abbrev pub first_deaths : Sent → Outcome → List ℕ
first_deaths sent outcome = outcome.ends ++ filter (λ endpoint. not (is_settled outcome endpoint)) (endpoints_in sent)

-- what was sent on an endpoint that dies is dropped, and what it carries dies too: the least set that holds the first deaths and whatever waits
-- on its members carries, which one pass in order of sending reaches (`deaths_reach_all` and `deaths_are_the_least` in journal_laws)
abbrev pub spread : List ℕ → List Sent → List ℕ
spread dying [] = dying
spread dying (sent ∷ later) = spread (if among sent.endpoint dying then dying ++ endpoints_in sent else dying) later

-- the other entries that wait
abbrev pub others : History → Sent → List Sent
others history sent = filter (λ other. not (other.place == sent.place)) (waiting history)

abbrev pub deaths_of : History → Sent → Outcome → List ℕ
deaths_of history sent outcome = spread (first_deaths sent outcome) (others history sent)
