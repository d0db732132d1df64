-- What a session writes is tallied, frame by frame.
use Rattle.std.proofs.Common.{◌≡◌, ℕ, List, [], ◌∷◌, ◌++◌, Result, Ok, Err, IfOk, length, refl, sym, ap, ◌∙◌, subst}
use Rattle.std.specs.Prelude.{All}
use Rattle.std.proofs.lemmas.List.{length-map}
use Rattle.std.proofs.lemmas.List.Concat.{flat_map-append}
use Rattle.link_frames.specs.Frames.{Frame, IsFrame, spelling, spellings}
use Rattle.link_frames.specs.declared.kinds.Mode.{Mode}
use Rattle.link_frames.specs.declared.kinds.Side.TheVariants as side
use Rattle.fidl_names.specs.Numbers.{AreBytes}
use Rattle.fidl_wire.specs.Names.{AreDistinct}
use Rattle.vfs_journal.specs.Entries.{Journal}
use Rattle.vfs_journal.specs.Output.{frames_behind}
use Rattle.vfs_journal.specs.Past.{history_of}
use Rattle.vfs_journal.specs.Session.{session, steps}
use Rattle.vfs_journal.specs.Starts.{Start}
use Rattle.vfs_script.proofs.ScriptFacts.{script_frames}
use Rattle.vfs_script.specs.Kept.{ScriptValue}
use Rattle.vfs_script.specs.Scripts.{frame_of, frames_of, script_lines}
use Rattle.vfs_world.specs.World.{LeadsTo, StandsFor, World}
use Rattle.script_session.specs.Playing.{frames_since}
use Rattle.script_session.specs.Steps.{IsScript}
use Rattle.script_session.specs.Tallies.{Metered, Tallies}
use Rattle.script_session.specs.declared.tally.Tally.{Tally}
use Rattle.script_session.proofs.Counting.{Read, none_read}
use Rattle.vfs_world.proofs.Growth.{session-append}
use Rattle.script_session.proofs.ReadBack.{comes_back}
use Rattle.script_session.proofs.Stages.{lines_many}

pub if_ok : {X E : Type 0} (r : Result X E) (P Q : X → Type 0) → ((x : X) → P x → Q x) → IfOk r P → IfOk r Q
if_ok (Ok x) P Q f p = f x p
if_ok (Err e) P Q f p = tt

-- some frames were spelled, and then others
pub spelled_both : (before more : List Frame) → spellings before ++ spellings more ≡ spellings (before ++ more)
spelled_both before more = sym (flat_map-append spelling before more)

-- nothing was heard yet
none_by : (start : Start) → frames_behind start [] ≡ []
unfolding history_of
none_by start = refl

pub metered_first : (start : Start) (world : World) (tally : Tally) → AreDistinct → StandsFor start world [] → Tallies [] tally → Metered start [] world tally
metered_first start world tally distinct stands tallies = record {
  distinct = distinct;
  stands = stands;
  tallies = subst (λ (frames : List Frame). Tallies frames tally) (sym (none_by start)) tallies;
}

-- the frames that a tally takes, by the bytes that spell them
abbrev pub TakesOn : List ℕ → Tally → Tally → Type 0
TakesOn bytes tally tally' = (before more : List Frame) → Tallies before tally → All (IsFrame side.Any) more → bytes ≡ spellings more → Tallies (before ++ more) tally'

-- what a call writes behind a session is tallied
pub metered_on : (start : Start) (journal later : Journal) (old new : World) (tally tally' : Tally) (before after bytes : List ℕ) → before ≡ [] → bytes ≡ after → Metered start journal old tally →
    LeadsTo start later new journal before after → TakesOn bytes tally tally' → Metered start later new tally'
metered_on start journal later old new tally tally' before after bytes none is metered led takes =
    let back = comes_back start journal later new before after metered.distinct metered.stands.sound metered.stands.lawful led in
    let since = frames_since start journal later in
    record {
      distinct = metered.distinct;
      stands = led.stands;
      tallies = subst (λ (frames : List Frame). Tallies frames tally') (sym back.grown)
          (takes (frames_behind start journal) since metered.tallies back.each (is ∙ back.written ∙ ap (λ l. l ++ spellings since) none));
    }

-- ---- frame by frame

-- from a beginning some frames were heard
abbrev pub Heard : Mode → World → Tally → World → Tally → List Frame → Type 0
Heard by world tally world' tally' done = (start : Start) → Metered start [] world tally → Metered start (session start by done) world' tally'

pub none_heard : (by : Mode) (world : World) (tally : Tally) → Heard by world tally world tally []
none_heard by world tally = λ start metered. metered

pub one_heard : (by : Mode) (world : World) (tally : Tally) (world' : World) (tally' : Tally) (world'' : World) (tally'' : Tally) (frame : Frame) →
    ((start : Start) (journal : Journal) → Metered start journal world' tally' → Metered start (steps start by journal frame) world'' tally'') →
    (done : List Frame) → Heard by world tally world' tally' done → Heard by world tally world'' tally'' (done ++ frame ∷ [])
one_heard by world tally world' tally' world'' tally'' frame more done heard = λ start metered.
    subst (λ (j : Journal). Metered start j world'' tally'') (sym (session-append start by done (frame ∷ []))) (more start (session start by done) (heard start metered))

-- before the first frame of a script
pub script_begins : (text : List ℕ) (script : ScriptValue) (bytes : List ℕ) (Holds : List Frame → Type 0) → IsScript text script → bytes ≡ script.bytes → AreBytes bytes → Holds [] →
    Read side.ToServers (frames_of text) 0 bytes Holds
script_begins text script bytes Holds is same are holds =
    let spelled : bytes ≡ spellings (frames_of text) = same ∙ is.bytes in
    none_read side.ToServers (frames_of text) bytes Holds spelled (script_frames text (subst AreBytes spelled are)) holds

-- as many frames as lines
pub frames_many : (text : List ℕ) (script : ScriptValue) → IsScript text script → length script.calls ≡ length (frames_of text)
frames_many text script is = lines_many text script is ∙ sym (length-map (script_lines text) frame_of)
