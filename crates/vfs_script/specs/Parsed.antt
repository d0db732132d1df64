-- A line whose numbers were read, but neither its bytes nor its handles.
use Rattle.std.specs.Prelude.{◌≡◌, ⊤, List, [], ◌∷◌, Option, Some, None, ℕ}
use Rattle.std.specs.Str.{IsUtf8}
use Rattle.io_messages.specs.Asked.{asked}
use Rattle.io_messages.specs.Writing as writing
use Rattle.vfs_script.specs.declared.forms.Parsed.{Parsed}
use Rattle.vfs_script.specs.declared.forms.Parsed.TheVariants as parsed
use Rattle.vfs_script.specs.declared.verbs.Verb.TheVariants as verb
use Rattle.vfs_script.specs.Words.{◌>>=◌, bytes_of}
use Rattle.vfs_script.specs.Lines.{Line, behind, form_of, request, hang_up, turn, pick}

-- what a WriteAt says whose offset was read
abbrev pub write_at_line : (endpoint offset : ℕ) → List ℕ → Option Line
write_at_line endpoint offset hex = do
  bytes ← bytes_of hex
  Some ((form_of verb.WriteAt).says endpoint bytes offset)

-- what it says
abbrev pub finished : Parsed → Option Line
finished (parsed.Request endpoint asking) = Some (request endpoint (asked asking))
finished (parsed.Write endpoint hex) = behind verb.Write endpoint (hex.now ∷ [])
finished (parsed.WriteAt endpoint offset hex) = write_at_line endpoint offset hex.now
finished (parsed.Echo endpoint hex) = behind verb.Echo endpoint (hex.now ∷ [])
finished (parsed.Raw endpoint handles hex) = behind verb.Raw endpoint (handles.now ∷ hex.now ∷ [])
finished (parsed.HangUp endpoint) = Some (hang_up endpoint)
finished (parsed.Turn server count) = Some (turn server count)
finished (parsed.Pick endpoint) = Some (pick endpoint)

-- the texts of its request are UTF-8
abbrev pub IsText : Parsed → Type 0
IsText (parsed.Request endpoint asking) = writing.HasTexts (asked asking)
IsText _ = ⊤

-- this is the line, as far as its numbers tell
abbrev pub Forms : Option Line → Option Parsed → Type 0
Forms found None = found ≡ None
Forms found (Some p) = (found ≡ finished p) × IsText p

-- the words are UTF-8
abbrev pub AreTexts : List (List ℕ) → Type 0
AreTexts [] = ⊤
AreTexts (word ∷ words) = IsUtf8 word × AreTexts words

-- no word is left
abbrev pub ended : List (List ℕ) → Option Line → Option Line
ended [] found = found
ended (word ∷ words) found = None
