-- A whole transcript.
use Rattle.std.proofs.Common.{◌≡◌, ℕ, List, [], Option, is_some, refl, sym, ap, ◌∙◌, subst, arith}
use Rattle.std.specs.FinMap.{get-empty, len-empty}
use Rattle.std.specs.FinSet.{contains-empty}
use Rattle.std.specs.Ordering.{nat_cmp}
use Rattle.std.proofs.KnownBytes.{Appends-nil}
use Rattle.link_frames.specs.declared.kinds.Mode.{Mode}
use Rattle.fidl_names.specs.declared.methods.Method.{Method}
use Rattle.fidl_wire.specs.Names.{AreDistinct}
use Rattle.io_client.specs.Calls.{call_cmp, none_yet}
use Rattle.vfs_journal.specs.Starts.{Start}
use Rattle.vfs_script.specs.Kept.{ScriptValue}
use Rattle.vfs_script.specs.Scripts.{count_calls, script_lines}
use Rattle.vfs_world.specs.World.{StandsFor, World}
use Rattle.script_session.specs.Answering.{count_calls as calls_made}
use Rattle.script_session.specs.Telling.{IsTold, Knows, Scribe}
use Rattle.script_session.specs.Transcript.{lines_of, text_of}
use Rattle.script_session.specs.Playing.{drain_played, not_yet, play_lines, transcript}
use Rattle.script_session.specs.Steps.{IsScript, Plays}
use Rattle.script_session.proofs.Played.{Grows, calls_are_made, drain_grows}

-- nothing happened yet, and nothing is known
none_known : Knows [] none_yet
none_known = record {
  watched = λ e. contains-empty nat_cmp e;
  waits = λ e x h. ap (λ (o : Option Method). is_some o) (get-empty call_cmp (e, x));
  count = let none = len-empty call_cmp Method in omega (arith, none);
}

pub plays_first : (start : Start) (world : World) (scribe : Scribe) → AreDistinct → StandsFor start world [] →
    scribe ≡ record { calls = none_yet; gathered = [] } → Plays start not_yet world scribe.calls
plays_first start world scribe distinct stands is = record {
  distinct = distinct;
  stands = stands;
  knows = subst (Knows []) (sym (ap (λ (s : Scribe). s.calls) is)) none_known;
}

pub told_first : (written : Option (List ℕ)) (scribe : Scribe) → scribe ≡ record { calls = none_yet; gathered = [] } → IsTold written written scribe.gathered []
told_first written scribe is = subst (λ l. IsTold written written l []) (sym (ap (λ (s : Scribe). s.gathered) is)) ([], Appends-nil written, refl)

-- the text of all that happens
pub text_is : (start : Start) (by by' : Mode) (text : List ℕ) → by ≡ by' → text_of (drain_played start (play_lines start by (script_lines text))) ≡ transcript start by' text
unfolding transcript
text_is start by by' text is = ap (λ (m : Mode). text_of (drain_played start (play_lines start m (script_lines text)))) is

pub lines_begin : (start : Start) (by by' : Mode) (text : List ℕ) → by ≡ by' → Grows (lines_of (play_lines start by (script_lines text)).past) (transcript start by' text)
lines_begin start by by' text is =
    subst (Grows (lines_of (play_lines start by (script_lines text)).past)) (text_is start by by' text is) (drain_grows start (play_lines start by (script_lines text)))

-- before anything is written
pub none_grow : (text : List ℕ) → Grows [] text
none_grow text = (text, refl)

-- as many calls as the script tells
pub calls_counted : (start : Start) (by : Mode) (text : List ℕ) (script : ScriptValue) (calls : ℕ) → IsScript text script → calls ≡ count_calls script.calls →
    calls_made (play_lines start by (script_lines text)).past ≡ calls
calls_counted start by text script calls is counted = calls_are_made start by (script_lines text) ∙ sym (counted ∙ ap count_calls is.calls)
