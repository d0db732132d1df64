-- What is known of the numbers of endpoints and tokens.
use Rattle.std.specs.Prelude.{◌≡◌, ◌+◌, ◌-◌, ◌^◌, ◌&&◌, ◌||◌, ℕ, Bool, true, false, not, if◌then◌else◌, nat_le, List, length, count_by, Option, Some, None, unwrap_or, refl}
use Rattle.std.specs.Coded.{Coded, code_by, coded×, coded_ℕ, coded_bool}
use Rattle.fidl_names.specs.declared.limits.TheConstants as limit
use Rattle.fidl_names.specs.HandleNumber.{is_client, is_mount_end}
use Rattle.link_admission.specs.Numbering.{among}
use Rattle.std.specs.Ordering.{nat_cmp}
use Rattle.std.specs.FinMap as map
use Rattle.link_admission.specs.declared.kinds.Standing.{Standing}
use Rattle.link_admission.specs.declared.kinds.Standing.TheVariants as standing

-- the standings of all numbers that were used, and how many of these are live; for each token that is out whether the
-- clients hold it or it travels, how many those are, and the number that the next one gets; how many entries wait; how
-- many servers there are
pub record Known : Type 0 where
  pub standings : map.FinMap nat_cmp Standing
  pub live : ℕ
  pub tokens : map.FinMap nat_cmp Bool
  pub out : ℕ
  pub next : ℕ
  pub waiting : ℕ
  pub servers : ℕ

-- a standing is kept as two bits: whether the endpoint is live, and whether it is closed, at its client's end or at both
abbrev pub standing_bits : Standing → Bool × Bool
standing_bits standing.Unused = (false, false)
standing_bits standing.Live = (true, false)
standing_bits standing.HungUp = (true, true)
standing_bits standing.Dead = (false, true)

abbrev pub standing_from : Bool × Bool → Standing
standing_from (false, false) = standing.Unused
standing_from (true, false) = standing.Live
standing_from (true, true) = standing.HungUp
standing_from (false, true) = standing.Dead

pub standing_back : (s : Standing) → standing_from (standing_bits s) ≡ s
standing_back standing.Unused = refl
standing_back standing.Live = refl
standing_back standing.HungUp = refl
standing_back standing.Dead = refl

abbrev pub standing_code : Coded Standing
standing_code = code_by (Bool × Bool) (coded× coded_bool coded_bool) standing_bits standing_from standing_back

abbrev pub known_code : Coded Known
known_code =
    code_by
    (map.FinMap nat_cmp Standing × (ℕ × (map.FinMap nat_cmp Bool × (ℕ × (ℕ × (ℕ × ℕ))))))
    (coded× (map.code coded_ℕ standing_code) (coded× coded_ℕ (coded× (map.code coded_ℕ coded_bool) (coded× coded_ℕ (coded× coded_ℕ (coded× coded_ℕ coded_ℕ))))))
    (λ k. (k.standings, (k.live, (k.tokens, (k.out, (k.next, (k.waiting, k.servers)))))))
    (λ p. record { standings = p.0; live = p.1.0; tokens = p.1.1.0; out = p.1.1.1.0; next = p.1.1.1.1.0; waiting = p.1.1.1.1.1.0; servers = p.1.1.1.1.1.1 })
    (λ _. refl)

-- the standing of a number
abbrev pub standing_of : Known → ℕ → Standing
standing_of k n = unwrap_or (map.get k.standings n) standing.Unused

-- whether a number was used
abbrev pub is_used : Standing → Bool
is_used standing.Unused = false
is_used standing.Live = true
is_used standing.HungUp = true
is_used standing.Dead = true

-- whether an endpoint that stands so is live
abbrev pub is_live : Standing → Bool
is_live standing.Unused = false
is_live standing.Live = true
is_live standing.HungUp = true
is_live standing.Dead = false

-- whether the clients hold this token
abbrev pub holds : Known → ℕ → Bool
holds k n = unwrap_or (map.get k.tokens n) false

-- the number that the next token gets: none where so many tokens are out as can or the last number was given
abbrev pub next_token_of : Known → Option ℕ
next_token_of k = if nat_le limit.MAX_TOKENS k.out || nat_le (2 ^ 32) k.next then None else Some k.next

-- at the start the first connections and the mount ends are live, and nothing else is known
pub record Starts (firsts : List ℕ) (mounts count : ℕ) (new : Known) : Type 0 where
  pub standing : (n : ℕ) → standing_of new n ≡ (if among n firsts || is_mount_end mounts n then standing.Live else standing.Unused)
  pub live : new.live ≡ length firsts + mounts
  pub tokens : new.tokens ≡ map.empty
  pub out : new.out ≡ 0
  pub next : new.next ≡ limit.FIRST_TOKEN
  pub waiting : new.waiting ≡ 0
  pub servers : new.servers ≡ count

-- a message with these handles waits: its client numbers are live endpoints now, its tokens travel
pub record Sends (old : Known) (handles : List ℕ) (new : Known) : Type 0 where
  pub standing : (n : ℕ) → standing_of new n ≡ (if is_client n && among n handles then standing.Live else standing_of old n)
  pub live : new.live ≡ old.live + count_by is_client handles
  pub tokens : (n : ℕ) → map.get new.tokens n ≡ (if not (is_client n) && among n handles then Some false else map.get old.tokens n)
  pub same_out : new.out ≡ old.out
  pub same_next : new.next ≡ old.next
  pub waiting : new.waiting ≡ old.waiting + 1
  pub same_servers : new.servers ≡ old.servers

-- a hang-up of this endpoint waits
abbrev pub hung_up : Known → ℕ → Known
hung_up k n = record k { standings = map.insert k.standings n standing.HungUp; waiting = k.waiting + 1 }

-- this endpoint is dead
abbrev pub ended : Known → ℕ → Known
ended k n = record k { standings = map.insert k.standings n standing.Dead; live = k.live - 1 }

-- the clients hold one token more
abbrev pub given : Known → Known
given k = record k { tokens = map.insert k.tokens k.next true; out = k.out + 1; next = k.next + 1 }

-- this token is gone
abbrev pub gone : Known → ℕ → Known
gone k n = record k { tokens = map.remove k.tokens n; out = k.out - 1 }
