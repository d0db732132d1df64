-- That a server which keeps what it knows of endpoints and tokens knows at each point what looking back says.
use Rattle.std.specs.Prelude.{◌≡◌, ◌≢◌, ◌+◌, ◌&&◌, ℕ, Bool, true, false, is_some, if◌then◌else◌, List, ◌++◌, length, map, filter, flat_map, AllPairs, fold, Option, Some, None}
use Rattle.std.specs.FinMap as finite
use Rattle.std.specs.List.{range_with_len}
use Rattle.fidl_names.specs.declared.limits.TheConstants as limit
use Rattle.fidl_names.specs.HandleNumber.{end_of_mount}
use Rattle.link_admission.specs.declared.kinds.Standing.TheVariants as standing
use Rattle.link_admission.specs.Numbering.{among}
use Rattle.link_admission.specs.Standings.{Known, holds, is_live, next_token_of, standing_of as known_standing, ended as ended_in, given, gone}
use Rattle.vfs_journal.specs.Deaths.{deaths_of}
use Rattle.vfs_journal.specs.Entries.{Sent, Journal, tokens_in}
use Rattle.vfs_journal.specs.History.{History, waiting, standing_of, live_count}
use Rattle.vfs_journal.specs.Outcomes.{Given}
use Rattle.vfs_journal.specs.Past.{history_of}
use Rattle.vfs_journal.specs.Serving.{outcome_of}
use Rattle.journal_laws.specs.Soundness.{mount_ends}
use Rattle.vfs_journal.specs.Starts.{Start}
use Rattle.vfs_journal.specs.Tokens.{all_given, is_held, next_token, tokens_out, waits_with, was_given}
use Rattle.vfs_journal.specs.View.{View, deaths_in, others_in}

-- ---- what a server knows

-- a token is out where the clients hold it, or a waiting message carries it: whether they hold it
abbrev pub token_out : History → ℕ → Option Bool
token_out history token =
    if is_held history token then Some true else if was_given history token && waits_with history token then Some false else None

-- what is known is what looking back says: of endpoints and of what waits, which tokens are held and which is the next, and of each that
-- is out whether it is held, how many those are, and the number behind all that were given
pub record Knows (start : Start) (history : History) (known : Known) : Type 0 where
  pub standing : (number : ℕ) → known_standing known number ≡ standing_of start history number
  pub live : known.live ≡ live_count start history
  pub waiting : known.waiting ≡ length (waiting history)
  pub servers : known.servers ≡ length start.trees
  pub holds : (number : ℕ) → holds known number ≡ is_held history number
  pub next : next_token_of known ≡ next_token history
  pub tokens : (number : ℕ) → finite.get known.tokens number ≡ token_out history number
  pub out : known.out ≡ length (tokens_out history)
  pub given : known.next ≡ limit.FIRST_TOKEN + length (all_given history)

-- first connections are on endpoints of their own, and the ends of mounts have their numbers in order
pub record IsNumbered (start : Start) : Type 0 where
  pub firsts : AllPairs (λ bound other. bound.endpoint ≢ other.endpoint) start.firsts
  pub mounts : mount_ends start ≡ map end_of_mount (range_with_len 0 (length start.mounts))

-- ---- deaths

-- the deaths of a serving are distinct and were live, each other endpoint stands as it stood, and so many fewer are live
pub record AreDeaths (start : Start) (past now : History) (deaths : List ℕ) : Type 0 where
  pub distinct : AllPairs (λ one other. one ≢ other) deaths
  pub were_live : (endpoint : ℕ) → among endpoint deaths ≡ true → is_live (standing_of start past endpoint) ≡ true
  pub stand : (endpoint : ℕ) → standing_of start now endpoint ≡ (if among endpoint deaths then standing.Dead else standing_of start past endpoint)
  pub count : live_count start now + length deaths ≡ live_count start past

-- ---- tokens

-- what waits on endpoints that die of a serving
abbrev pub dropped_in : View → Sent → List Sent
dropped_in view sent = filter (λ other. among other.endpoint (deaths_in view sent)) (others_in view sent)

-- the tokens that are gone behind it: those of what is served, and of what is dropped
abbrev pub spent_in : View → Sent → List ℕ
spent_in view sent = tokens_in sent ++ flat_map tokens_in (dropped_in view sent)

-- what is known behind a serving: these endpoints are dead, these tokens gone, one is held if one is given, and so many entries wait
abbrev pub known_served : Known → List ℕ → List ℕ → Option Given → ℕ → Known
known_served known deaths spent token waiting =
    let left = fold gone (fold ended_in known deaths) spent in
    record (if is_some token then given left else left) { waiting = waiting }

-- ---- laws

-- the endpoints that die of a serving
abbrev pub deaths_at : Start → Journal → Sent → List ℕ
deaths_at start journal sent =
    deaths_of (history_of start journal) sent (outcome_of start (history_of start journal) sent)
