-- The one meaning of the words, and what a script that was read is.
use Rattle.std.proofs.Common.{◌≡◌, ℕ, List, [], ◌∷◌, get_or, ap, sym, ◌∙◌, subst}
use Rattle.fidl_names.specs.Numbers.{AreBytes}
use Rattle.host_io.specs.Told.{Told}
use Rattle.link_frames.specs.Frames.{spellings}
use Rattle.script_session.specs.Scripts.{IsPlayable, Said, Says}
use Rattle.script_session.specs.Steps.{IsScript}
use Rattle.vfs_script.proofs.ScriptFacts.{script_frames}
use Rattle.vfs_script.specs.Kept.{ScriptValue}
use Rattle.vfs_script.specs.Scripts.{frames_of}
use Rattle.frames_program.specs.Words.{Means}

pub one_meaning : (words : List (List ℕ)) (a b : List ℕ) → Means words a → Means words b → a ≡ b
one_meaning words a b is also = ap (λ (l : List (List ℕ)). get_or l 0 []) (sym is ∙ also)

-- these are the bytes of its frames
pub record IsSent (told : Told) (bytes : List ℕ) : Type 0 where
  pub said : Said
  pub playable : IsPlayable told said
  pub is : bytes ≡ spellings (frames_of said.text)

pub is_sent : (told : Told) (kept : ScriptValue) (bytes : List ℕ) → ((text : List ℕ) × IsScript text kept × Says told (record { text = text; by = kept.mode })) → bytes ≡ kept.bytes → AreBytes bytes → IsSent told bytes
is_sent told kept bytes says same are =
    let is : bytes ≡ spellings (frames_of says.0) = same ∙ says.1.bytes in
    record {
      said = record { text = says.0; by = kept.mode };
      playable = record { says = says.2; frames = script_frames says.0 (subst AreBytes is are) };
      is = is;
    }
