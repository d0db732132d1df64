-- The tokens of directories, looking back.
use Rattle.std.specs.Prelude.{ℕ, ◌+◌, ◌==◌, ◌&&◌, ◌||◌, Bool, not, nat_le, if◌then◌else◌, List, length, filter, filter_map, find, reverse, Option, Some, None}
use Rattle.std.specs.List.{list_any}
use Rattle.std.specs.Option.{option_map_or}
use Rattle.fidl_names.specs.declared.limits.TheConstants as limit
use Rattle.link_admission.specs.Numbering.{among}
use Rattle.vfs_journal.specs.Entries.{handles_of}
use Rattle.vfs_journal.specs.Outcomes.{Given}
use Rattle.vfs_journal.specs.History.{History, waiting, was_carried}

-- in order of giving
abbrev pub all_given : History → List Given
all_given history = filter_map (λ event. event.outcome.token) (reverse history)

abbrev pub was_given : History → ℕ → Bool
was_given history token = list_any (λ given. given.token == token) (all_given history)

-- the clients hold a token that was given, until a message carries it
abbrev pub is_held : History → ℕ → Bool
is_held history token = was_given history token && not (was_carried history token)

-- a waiting message carries it
abbrev pub waits_with : History → ℕ → Bool
waits_with history token = list_any (λ sent. among token (handles_of sent.sending)) (waiting history)

-- the tokens that are held or wait
abbrev pub tokens_out : History → List Given
tokens_out history = filter (λ given. is_held history given.token || waits_with history given.token) (all_given history)

-- the number of a new token behind so many that were given: none where as many are out as may be, or the last number was given
abbrev pub token_behind : ℕ → ℕ → Option ℕ
token_behind out given = if nat_le limit.MAX_TOKENS out || nat_le 0x80000000 given then None else Some (limit.FIRST_TOKEN + given)

abbrev pub next_token : History → Option ℕ
next_token history = token_behind (length (tokens_out history)) (length (all_given history))

-- the directory that a token of these names, where it is of this server
abbrev pub directory_among : List Given → ℕ → ℕ → Option ℕ
directory_among tokens server token =
    option_map_or
    (λ given. if given.server == server then Some given.node else None)
    (find (λ given. given.token == token) tokens)
    None

abbrev pub directory_of : History → ℕ → ℕ → Option ℕ
directory_of history server token = directory_among (all_given history) server token
