-- A script's lines, as far as they are played.
use Rattle.std.proofs.Common.{◌≡◌, ◌≤◌, ◌<◌, ◌+◌, ◌-◌, ℕ, true, List, [], ◌∷◌, ◌++◌, Option, Some, None, length, map, drop, take, get_or, refl, sym, ap, ◌∙◌, subst, arith, append_assoc, append-nil, length-append, length-drop, true≢false, Fits, w8}
use Rattle.std.specs.Prelude.{All, is_some, slice_get}
use Rattle.std.specs.FinMap.{get-empty, len-empty}
use Rattle.std.proofs.lemmas.List.{length-map, take_all}
use Rattle.std.proofs.lemmas.List.Elements.{All-from_get_or, All-head, All-tail}
use Rattle.fidl_names.specs.Numbers.{AreBytes}
use Rattle.link_frames.proofs.Spelled.{spelling-injective}
use Rattle.link_frames.proofs.Streams.{bad_no_front, partial_no_front}
use Rattle.link_frames.specs.Frames.{Frame, IsFrame, spelling, spellings}
use Rattle.link_frames.specs.Views.{IsWholeFront, Reads}
use Rattle.link_frames.specs.declared.frame.Reading.{Reading}
use Rattle.link_frames.specs.declared.frame.Reading.TheVariants as reading
use Rattle.link_frames.specs.declared.kinds.Side.TheVariants as side
use Rattle.fidl_names.specs.declared.methods.Method.{Method}
use Rattle.io_client.specs.Calls.{Calls, call_at, call_cmp, is_waiting, none_yet}
use Rattle.vfs_script.specs.Noting.{IsFree}
use Rattle.vfs_script.proofs.ScriptFacts.{script_calls, script_frames}
use Rattle.vfs_script.specs.Kept.{ScriptValue}
use Rattle.vfs_script.specs.Scripts.{AreCalls, Spoken, call_in, count_calls, frame_of, frames_of, script_lines}
use Rattle.vfs_script.specs.declared.calls.Call.{Call}
use Rattle.script_session.specs.Answering.{one_of}
use Rattle.script_session.specs.Telling.{IsOver, IsTold, IsWithin, last_of}
use Rattle.script_session.specs.Transcript.{lines_of}
use Rattle.link_frames.specs.declared.kinds.Mode.{Mode}
use Rattle.vfs_journal.specs.Starts.{Start}
use Rattle.vfs_world.specs.World.{World}
use Rattle.script_session.specs.Playing.{Played, not_yet, play_line, play_lines}
use Rattle.script_session.specs.Steps.{IsScript, Plays}
use Rattle.script_session.proofs.Played.{Grows, counted, front_grows, play_more}

-- so many lines are played, and others are left, whose frames the bytes spell; each call of theirs has a higher transaction id than all that
-- wait, of which there are no more than calls were made
pub record Stage (all : List Spoken) (count i : ℕ) (rest : List ℕ) (calls : Calls) (Holds : List Spoken → Type 0) : Type 0 where
  pub done : List Spoken
  pub left : List Spoken
  pub parts : all ≡ done ++ left
  pub so_many : length done ≡ i
  pub spelled : rest ≡ spellings (map frame_of left)
  pub each : All (IsFrame side.ToServers) (map frame_of left)
  pub low : ℕ
  pub most : ℕ
  pub within : IsWithin low most calls
  pub over : AreCalls low (map call_in left)
  pub most_is : most + count_calls (map call_in left) ≡ count
  pub holds : Holds done

-- before the first line
pub none_played : (all : List Spoken) (bytes : List ℕ) (calls : Calls) → bytes ≡ spellings (map frame_of all) → All (IsFrame side.ToServers) (map frame_of all) →
    AreCalls 0 (map call_in all) → IsWithin 0 0 calls → (Holds : List Spoken → Type 0) → Holds [] → Stage all (count_calls (map call_in all)) 0 bytes calls Holds
none_played all bytes calls is each over within Holds holds = record {
  done = [];
  left = all;
  parts = refl;
  so_many = refl;
  spelled = is;
  each = each;
  low = 0;
  most = 0;
  within = within;
  over = over;
  most_is = omega arith;
  holds = holds;
}

-- no call waits at the beginning
nothing_waits : (e x : ℕ) → is_waiting none_yet e x ≡ true → ⊥
nothing_waits e x h = true≢false (sym h ∙ ap (λ (o : Option Method). is_some o) (get-empty call_cmp (e, x)))

no_length : {A : Type 0} (xs : List A) → length xs ≡ 0 → xs ≡ []
no_length [] e = refl
no_length (x ∷ xs) e = absurd (omega (arith, e))

pub none_within : IsWithin 0 0 none_yet
none_within = record {
  below = λ e x h. absurd (nothing_waits e x h);
  few = let none = len-empty call_cmp Method in omega (arith, none);
}

-- ---- the line that is played next

-- where fewer lines are played than there are, one is left
pub record IsNext (left : List Spoken) : Type 0 where
  pub said : Spoken
  pub later : List Spoken
  pub first : left ≡ said ∷ later

next_of : (left : List Spoken) → 0 < length left → IsNext left
next_of [] some = absurd (omega (arith, some))
next_of (said ∷ later) some = record { said = said; later = later; first = refl }

pub next_line : (all : List Spoken) (count i : ℕ) (rest : List ℕ) (calls : Calls) (Holds : List Spoken → Type 0) (stage : Stage all count i rest calls Holds) → i < length all → IsNext stage.left
next_line all count i rest calls Holds stage more =
    let parts = ap length stage.parts in
    let many = stage.so_many in
    next_of stage.left (omega (arith, parts, many, more, length-append stage.done stage.left))

-- its call stands at its place
called_at : (done later : List Spoken) (said : Spoken) → slice_get (map call_in (done ++ said ∷ later)) (length done) ≡ Some (call_in said)
called_at [] later said = refl
called_at (x ∷ done) later said = called_at done later said

pub call_is : (all : List Spoken) (count i : ℕ) (rest : List ℕ) (calls : Calls) (Holds : List Spoken → Type 0) (stage : Stage all count i rest calls Holds) (next : IsNext stage.left) (given : List (Option Call)) →
    given ≡ map call_in all → slice_get given i ≡ Some (call_in next.said)
call_is all count i rest calls Holds stage next given is =
    ap (λ l. slice_get l i) (is ∙ ap (map call_in) (stage.parts ∙ ap (λ l. stage.done ++ l) next.first))
    ∙ ap (slice_get (map call_in (stage.done ++ next.said ∷ next.later))) (sym stage.so_many) ∙ called_at stage.done next.later next.said

-- it is over all that wait, so that none waits in its place
over_first : (low : ℕ) (call : Option Call) (others : List (Option Call)) → AreCalls low (call ∷ others) → IsOver low call × AreCalls (last_of low call) others
over_first low None others over = (tt, over)
over_first low (Some call) others over = (over.0, over.2)

free_by : (low most : ℕ) (calls : Calls) (call : Call) (found : Option Method) → call_at calls call.endpoint call.txid ≡ found → low < call.txid → IsWithin low most calls → found ≡ None
free_by low most calls call None is up within = refl
free_by low most calls call (Some m) is up within =
    let low_enough = within.below call.endpoint call.txid (ap (λ (o : Option Method). is_some o) is) in
    absurd (omega (arith, low_enough, up))

is_free : (low most : ℕ) (calls : Calls) (call : Option Call) → IsOver low call → IsWithin low most calls → IsFree calls (Some call)
is_free low most calls None over within = tt
is_free low most calls (Some call) over within = free_by low most calls call (call_at calls call.endpoint call.txid) refl over within

module _ (all : List Spoken) (count i : ℕ) (rest : List ℕ) (calls : Calls) (Holds : List Spoken → Type 0) (stage : Stage all count i rest calls Holds) (next : IsNext stage.left) where
  over_all : AreCalls stage.low (call_in next.said ∷ map call_in next.later)
  over_all = subst (λ l. AreCalls stage.low (map call_in l)) next.first stage.over

  pub next_over : IsOver stage.low (call_in next.said)
  next_over = (over_first stage.low (call_in next.said) (map call_in next.later) over_all).0

  pub next_free : (at : Option (Option Call)) → at ≡ Some (call_in next.said) → IsFree calls at
  next_free at is = subst (IsFree calls) (sym is) (is_free stage.low stage.most calls (call_in next.said) next_over stage.within)

  frames_left : All (IsFrame side.ToServers) (frame_of next.said ∷ map frame_of next.later)
  frames_left = subst (λ l. All (IsFrame side.ToServers) (map frame_of l)) next.first stage.each

  spelled_left : rest ≡ spelling (frame_of next.said) ++ spellings (map frame_of next.later)
  spelled_left = stage.spelled ∙ ap (λ l. spellings (map frame_of l)) next.first

  -- its frame stands in front
  pub next_frame : (f : Frame) (n : ℕ) → IsWholeFront side.ToServers rest f n → (frame_of next.said ≡ f) × (drop n rest ≡ spellings (map frame_of next.later))
  next_frame f n front =
      let same = spelling-injective side.ToServers (frame_of next.said) f (spellings (map frame_of next.later)) (drop n rest)
      (All-head (IsFrame side.ToServers) (frame_of next.said) (map frame_of next.later) frames_left) front.sound (sym spelled_left ∙ front.split) in
      (same.0, sym same.1)

  -- so that one does
  pub one_in_front : (read : Reading) → Reads side.ToServers rest read → ((view : _) (n : ℕ) → read ≡ reading.Whole view n → ⊥) → ⊥
  one_in_front (reading.Whole view n) reads other = other view n refl
  one_in_front reading.NotWhole reads other =
      partial_no_front side.ToServers rest reads (frame_of next.said) (spellings (map frame_of next.later))
      (All-head (IsFrame side.ToServers) (frame_of next.said) (map frame_of next.later) frames_left) spelled_left
  one_in_front (reading.Bad why) reads other =
      bad_no_front side.ToServers rest why reads (frame_of next.said) (spellings (map frame_of next.later))
      (All-head (IsFrame side.ToServers) (frame_of next.said) (map frame_of next.later) frames_left) spelled_left

  -- it is played
  pub one_played : (rest' : List ℕ) (calls' : Calls) → rest' ≡ spellings (map frame_of next.later) →
      IsWithin (last_of stage.low (call_in next.said)) (stage.most + one_of (call_in next.said)) calls' → (Holds' : List Spoken → Type 0) →
      ((done : List Spoken) → Holds done → Holds' (done ++ next.said ∷ [])) → Stage all count (i + 1) rest' calls' Holds'
  one_played rest' calls' is within Holds' more =
      let many = stage.so_many in
      let before = stage.most_is in
      let left = ap (λ l. count_calls (map call_in l)) next.first in
      let one = counted (call_in next.said) (map call_in next.later) in
      record {
        done = stage.done ++ next.said ∷ [];
        left = next.later;
        parts = stage.parts ∙ ap (λ l. stage.done ++ l) next.first ∙ sym (append_assoc stage.done (next.said ∷ []) next.later);
        so_many = omega (arith, many, length-append stage.done (next.said ∷ []));
        spelled = is;
        each = All-tail (IsFrame side.ToServers) (frame_of next.said) (map frame_of next.later) frames_left;
        low = last_of stage.low (call_in next.said);
        most = stage.most + one_of (call_in next.said);
        within = within;
        over = (over_first stage.low (call_in next.said) (map call_in next.later) over_all).1;
        most_is = omega (arith, before, left, one);
        holds = more stage.done stage.holds;
      }

-- what stands behind the line
pub rest_parts : (all : List Spoken) (count i : ℕ) (rest : List ℕ) (calls : Calls) (Holds : List Spoken → Type 0) (stage : Stage all count i rest calls Holds) (next : IsNext stage.left) →
    all ≡ (stage.done ++ next.said ∷ []) ++ next.later
rest_parts all count i rest calls Holds stage next =
    stage.parts ∙ ap (λ l. stage.done ++ l) next.first ∙ sym (append_assoc stage.done (next.said ∷ []) next.later)

-- all lines are played where as many are as there are
pub all_within : (all : List Spoken) (count i : ℕ) (rest : List ℕ) (calls : Calls) (Holds : List Spoken → Type 0) (stage : Stage all count i rest calls Holds) → length all ≤ i → IsWithin stage.low count calls
all_within all count i rest calls Holds stage past =
    let few = stage.within.few in
    let sum = stage.most_is in
    record { below = stage.within.below; few = omega (arith, few, sum) }

pub all_done : (all : List Spoken) (count i : ℕ) (rest : List ℕ) (calls : Calls) (Holds : List Spoken → Type 0) (stage : Stage all count i rest calls Holds) → length all ≤ i → all ≡ stage.done
all_done all count i rest calls Holds stage past =
    let parts = ap length stage.parts in
    let many = stage.so_many in
    let none : stage.left ≡ [] = no_length stage.left (omega (arith, parts, many, past, length-append stage.done stage.left)) in
    stage.parts ∙ ap (λ l. stage.done ++ l) none ∙ append-nil stage.done

-- ---- what is kept

-- lines were played from a beginning
pub record Behind (by : Mode) (world : World) (calls : Calls) (gathered : List ℕ) (written : Option (List ℕ)) (world' : World) (calls' : Calls) (gathered' : List ℕ) (written' : Option (List ℕ))
    (done : List Spoken) : Type 0 where
  pub plays : (start : Start) → Plays start not_yet world calls → Plays start (play_lines start by done) world' calls'
  pub told : (start : Start) (first : Option (List ℕ)) → Plays start not_yet world calls → IsTold first written gathered [] →
      IsTold first written' gathered' (lines_of (play_lines start by done).past)

pub at_first : (by : Mode) (world : World) (calls : Calls) (gathered : List ℕ) (written : Option (List ℕ)) → Behind by world calls gathered written world calls gathered written []
at_first by world calls gathered written = record { plays = λ start p. p; told = λ start first p t. t }

module _ (by : Mode) (world : World) (calls : Calls) (gathered : List ℕ) (written : Option (List ℕ)) (world' : World) (calls' : Calls) (gathered' : List ℕ) (written' : Option (List ℕ))
    (world'' : World) (calls'' : Calls) (gathered'' : List ℕ) (written'' : Option (List ℕ)) (said : Spoken) where
  pub one_behind : ((start : Start) (played : Played) → Plays start played world' calls' → Plays start (play_line start by played said) world'' calls'') →
      ((start : Start) (played : Played) (first : Option (List ℕ)) → Plays start played world' calls' → IsTold first written' gathered' (lines_of played.past) →
      IsTold first written'' gathered'' (lines_of (play_line start by played said).past)) →
      (done : List Spoken) → Behind by world calls gathered written world' calls' gathered' written' done →
      Behind by world calls gathered written world'' calls'' gathered'' written'' (done ++ said ∷ [])
  one_behind plays told done behind = record {
    plays = λ start p. subst (λ (q : Played). Plays start q world'' calls'') (sym (play_more start by done said)) (plays start (play_lines start by done) (behind.plays start p));
    told = λ start first p t.
        subst (λ (q : Played). IsTold first written'' gathered'' (lines_of q.past)) (sym (play_more start by done said))
        (told start (play_lines start by done) first (behind.plays start p) (behind.told start first p t));
  }

-- ---- of a text

-- as many calls are kept as lines
pub lines_many : (text : List ℕ) (script : ScriptValue) → IsScript text script → length script.calls ≡ length (script_lines text)
lines_many text script is = ap length is.calls ∙ length-map (script_lines text) call_in

-- what a slice of bytes holds are bytes
pub fits_bytes : (bytes : List ℕ) → ((i : ℕ) → Fits w8 (get_or bytes i 0)) → AreBytes bytes
fits_bytes bytes fits = All-from_get_or (λ byte. byte < 256) bytes 0 (λ i more. omega (arith, fits i))

-- what a script stands for may go to the servers, since what is kept of its frames are bytes
pub may_go : (text : List ℕ) (script : ScriptValue) (bytes : List ℕ) → IsScript text script → bytes ≡ script.bytes → AreBytes bytes → All (IsFrame side.ToServers) (frames_of text)
may_go text script bytes is same are = script_frames text (subst AreBytes (same ∙ is.bytes) are)

-- what is left of a slice from a place on
pub rest_is : (n : ℕ) (rest : List ℕ) → take (length rest - n) (drop n rest) ≡ drop n rest
rest_is n rest = take_all (length rest - n) (drop n rest) (omega (arith, length-drop n rest))

pub text_begins : (text : List ℕ) (script : ScriptValue) (bytes : List ℕ) (calls : Calls) → IsScript text script → bytes ≡ script.bytes → AreBytes bytes → calls ≡ none_yet →
    (Holds : List Spoken → Type 0) → Holds [] → Stage (script_lines text) (count_calls script.calls) 0 bytes calls Holds
text_begins text script bytes calls is same are none Holds holds =
    let spelled : bytes ≡ spellings (frames_of text) = same ∙ is.bytes in
    subst (λ n. Stage (script_lines text) n 0 bytes calls Holds) (sym (ap count_calls is.calls))
    (none_played (script_lines text) bytes calls spelled (script_frames text (subst AreBytes spelled are)) (script_calls text) (subst (IsWithin 0 0) (sym none) none_within) Holds holds)

-- what is shown of a line stands in front of what is shown of all
pub next_grows : (start : Start) (by : Mode) (all done later : List Spoken) (said : Spoken) → all ≡ (done ++ said ∷ []) ++ later →
    Grows (lines_of (play_line start by (play_lines start by done) said).past) (lines_of (play_lines start by all).past)
next_grows start by all done later said parts =
    subst (λ (p : Played). Grows (lines_of p.past) (lines_of (play_lines start by all).past)) (play_more start by done said)
    (subst (λ l. Grows (lines_of (play_lines start by (done ++ said ∷ [])).past) (lines_of (play_lines start by l).past)) (sym parts) (front_grows start by (done ++ said ∷ []) later))
