-- What is known of a transcript while it is written.
use Rattle.std.specs.Prelude.{◌≡◌, ◌≤◌, ◌<◌, ◌+◌, ℕ, true, false, ⊤, List, ◌++◌, Option, Some, None, Result, Ok, Err, refl}
use Rattle.std.specs.Coded.{Coded, code_by, coded×, coded_list, coded_ℕ}
use Rattle.std.specs.FinMap as finite
use Rattle.std.specs.Io.KnownBytes.{Appends}
use Rattle.host_io.specs.Causes.{Rose}
use Rattle.io_client.specs.Calls.{Calls, is_waiting, is_watched}
use Rattle.io_client.specs.Codes.{calls_code}
use Rattle.vfs_script.specs.declared.calls.Call.{Call}
use Rattle.script_session.specs.declared.faults.TranscriptFault.{TranscriptFault}
use Rattle.script_session.specs.declared.faults.TranscriptFault.TheVariants as fault
use Rattle.script_session.specs.Answering.{Past, count_answers, count_calls, is_open, was_watched}

-- which calls wait and which endpoints are watched, and the lines that aren't written yet
pub record Scribe : Type 0 where
  pub calls : Calls
  pub gathered : List ℕ

abbrev pub scribe_code : Coded Scribe
scribe_code =
    code_by (Calls × List ℕ) (coded× calls_code (coded_list coded_ℕ)) (λ s. (s.calls, s.gathered))
    (λ p. record { calls = p.0; gathered = p.1 }) (λ _. refl)

-- what is known of calls is what happened: which endpoints a Watch carried, which calls are open on
-- others, and that those that don't wait were answered
pub record Knows (past : Past) (calls : Calls) : Type 0 where
  pub watched : (endpoint : ℕ) → is_watched calls endpoint ≡ was_watched past endpoint
  pub waits : (endpoint txid : ℕ) → was_watched past endpoint ≡ false → is_waiting calls endpoint txid ≡ is_open past endpoint txid
  pub count : finite.len calls.waiting + count_answers past ≡ count_calls past

-- no call waits with a higher transaction id than this, and no more calls than that wait
pub record IsWithin (low most : ℕ) (calls : Calls) : Type 0 where
  pub below : (endpoint txid : ℕ) → is_waiting calls endpoint txid ≡ true → txid ≤ low
  pub few : finite.len calls.waiting ≤ most

-- a call has a higher transaction id than this, and the highest is its own then
abbrev pub IsOver : ℕ → Option Call → Type 0
IsOver low None = ⊤
IsOver low (Some call) = low < call.txid

abbrev pub last_of : ℕ → Option Call → ℕ
last_of low None = low
last_of low (Some call) = call.txid

-- a text was written from a moment on, but for what is gathered
abbrev pub IsTold : Option (List ℕ) → Option (List ℕ) → List ℕ → List ℕ → Type 0
IsTold first now gathered text = (part : List ℕ) × Appends first now part × (part ++ gathered ≡ text)

-- it holds where the sink failed
abbrev pub FailedOnly : Result (Unit {0}) TranscriptFault → Type 0 → Type 0
FailedOnly (Ok u) P = ⊤
FailedOnly (Err fault.Failed) P = P
FailedOnly (Err fault.NoMemory) P = ⊤

-- it holds but where the sink failed
abbrev pub UnlessFailed : Result (Unit {0}) TranscriptFault → Type 0 → Type 0
UnlessFailed (Ok u) P = P
UnlessFailed (Err fault.Failed) P = ⊤
UnlessFailed (Err fault.NoMemory) P = P

-- the sink's count of faults never falls; it rose where the sink failed, and there alone
pub record HasSinkCause (before now : ℕ) (result : Result (Unit {0}) TranscriptFault) : Type 0 where
  pub later : before ≤ now
  pub stays : UnlessFailed result (now ≡ before)
  pub failed : FailedOnly result (Rose before now)
