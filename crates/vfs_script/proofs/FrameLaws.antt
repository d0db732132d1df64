-- What a script stands for are frames that may go to the servers.
use Rattle.std.proofs.Common.{◌≡◌, ℕ, ◌<◌, ◌≤◌, ◌^◌, Bool, true, false, not, cond, List, [], ◌∷◌, ◌++◌, length, map, Option, Some, None, refl, subst, lit≤}
use Rattle.std.specs.Prelude.{⊤, IfSome, All, IsTrue, nat_lt, nat_le, filter, filter_map}
use Rattle.std.specs.List.{cons_option, flat_map}
use Rattle.std.specs.Str.{bytes_eq}
use Rattle.std.proofs.Math.Seq.{drop-append_seam, take-append_seam}
use Rattle.std.proofs.lemmas.Bool.{ltb-true, leb-true, eq-eqb}
use Rattle.std.proofs.lemmas.List.Elements.{All-nil, All-cons, All-head, All-tail, All-drop, All-take}
use Rattle.std.proofs.lemmas.Option.{same_Some}
use Rattle.fidl_names.specs.HandleNumber.{number_of_handle}
use Rattle.fidl_names.specs.Numbers.{AreBytes}
use Rattle.fidl_names.specs.declared.limits.TheConstants as limit
use Rattle.link_frames.proofs.Words.{length-word_of}
use Rattle.link_frames.specs.Frames.{Frame, HasShape, IsFrame, fixed_part, goes_to, spelling, spellings}
use Rattle.link_frames.specs.Numbers.{word_of}
use Rattle.link_frames.specs.declared.kinds.Side.TheVariants as side
use Rattle.fidl_names.specs.declared.methods.Method.TheVariants as method
use Rattle.fidl_wire.specs.Layout.{members, seq}
use Rattle.fidl_wire.specs.Spelling.{spelling_of_all}
use Rattle.io_messages.specs.Asked.{Asked}
use Rattle.io_messages.specs.Asked as asks
use Rattle.io_messages.specs.Members.{numbers}
use Rattle.io_messages.specs.Requests.{flags_member, request_cells}
use Rattle.io_messages.specs.Writing.{request_handles}
use Rattle.vfs_script.specs.declared.verbs.Verb.{Verb}
use Rattle.vfs_script.specs.declared.verbs.Verb.TheVariants as verb
use Rattle.vfs_script.specs.Lines.{Field, Name, Short, Long, Signed, Bytes, Text, Handles, Line, Says, Value, request, raw, hang_up, turn, pick, behind, form_of, line_in, line_of, line_with, said_by, value_of, verb_of, frame_at, fits_at}
use Rattle.vfs_script.specs.Scripts.{Numbered, Spoken, behind_mode, frame_of, frames_of, is_skipped, lines_of, said_at, script_lines, spoken}
use Rattle.vfs_script.specs.Words.{◌>>=◌, given, all_given, bytes_of, comma, handles_of, none_word, number_in, number_of, numbers_of, signed_of, space, text_of}
use Rattle.text_pieces.specs.Pieces.{pieces}

-- ---- words

-- what holds of each value that the second step can have holds of what both have
bind : {A B : Type 0} (P : B → Type 0) (found : Option A) (step : A → Option B) → ((a : A) → found ≡ Some a → IfSome (step a) P) → IfSome (found >>= step) P
bind P None step each = tt
bind P (Some a) step each = each a refl

given_low : (m limit n : ℕ) (test : Bool) → nat_lt m limit ≡ test → given test m ≡ Some n → n < limit
given_low m limit n true is e = subst (λ k. k < limit) (same_Some m n e) (ltb-true m limit is)
given_low m limit n false is e = cc

low_in : (bits : ℕ) (found : Option ℕ) (n : ℕ) → (found >>= (λ number. given (nat_lt number (2 ^ bits)) number)) ≡ Some n → n < 2 ^ bits
low_in bits None n e = cc
low_in bits (Some m) n e = given_low m (2 ^ bits) n (nat_lt m (2 ^ bits)) refl e

-- a number fits its field
fits_field : (bits : ℕ) (word : List ℕ) (n : ℕ) → number_in bits word ≡ Some n → n < 2 ^ bits
unfolding number_in
fits_field bits word n e = low_in bits (number_of word) n e

abbrev AreWords : List ℕ → Type 0
AreWords numbers = All (λ h. h < 2 ^ 32) numbers

no_words : AreWords []
no_words = All-nil (λ h. h < 2 ^ 32)

one_word : (n : ℕ) → n < 2 ^ 32 → AreWords (n ∷ [])
one_word n low = All-cons (λ h. h < 2 ^ 32) n [] low no_words

with_word : (n : ℕ) → n < 2 ^ 32 → (found : Option (List ℕ)) → IfSome found AreWords → IfSome (found >>= (λ numbers. Some (n ∷ numbers))) AreWords
with_word n low None h = tt
with_word n low (Some numbers) h = All-cons (λ x. x < 2 ^ 32) n numbers low h

all_words : (words : List (List ℕ)) → IfSome (all_given (map (number_in 32) words)) AreWords
all_words [] = no_words
all_words (word ∷ words) =
    let others = all_words words in
    bind AreWords (number_in 32 word) _ (λ n is. with_word n (fits_field 32 word n is) (all_given (map (number_in 32) words)) others)

-- handles are numbers of 32 bits, and not too many
pub record AreHandles (handles : List ℕ) : Type 0 where
  pub words : AreWords handles
  pub few : length handles ≤ limit.MAX_HANDLES

few_given : (numbers : List ℕ) (test : Bool) → nat_le (length numbers) limit.MAX_HANDLES ≡ test → AreWords numbers → IfSome (given test numbers) AreHandles
few_given numbers true is words = record { words = words; few = leb-true (length numbers) limit.MAX_HANDLES is }
few_given numbers false is words = tt

numbers_are : (word : List ℕ) → IfSome (numbers_of word) AreWords
unfolding numbers_of
numbers_are word = all_words (pieces comma word)

handles_by : (word : List ℕ) (none : Bool) → IfSome (cond none (Some []) (numbers_of word >>= (λ numbers. given (nat_le (length numbers) limit.MAX_HANDLES) numbers))) AreHandles
handles_by word true = record { words = no_words; few = lit≤ tt }
handles_by word false =
    bind AreHandles (numbers_of word) _ (λ numbers is. few_given numbers (nat_le (length numbers) limit.MAX_HANDLES) refl (subst (λ (o : Option (List ℕ)). IfSome o AreWords) is (numbers_are word)))

handles_are : (word : List ℕ) → IfSome (handles_of word) AreHandles
unfolding handles_of
handles_are word = handles_by word (bytes_eq word none_word)

-- ---- forms

-- a line's numbers fit a frame
abbrev IsSound : Line → Type 0
IsSound (request endpoint a) = (endpoint < 2 ^ 32) × AreHandles (map number_of_handle (request_handles a))
IsSound (raw endpoint handles bytes) = (endpoint < 2 ^ 32) × AreHandles handles
IsSound (hang_up endpoint) = endpoint < 2 ^ 32
IsSound (turn server count) = server < 2 ^ 32
IsSound (pick endpoint) = endpoint < 2 ^ 32

abbrev AllSound : Option Line → Type 0
AllSound found = IfSome found IsSound

no_handles : AreHandles []
no_handles = record { words = no_words; few = lit≤ tt }

one_handle : (n : ℕ) → n < 2 ^ 32 → AreHandles (n ∷ [])
one_handle n low = record { words = one_word n low; few = lit≤ tt }

-- ---- values

if_found : {A : Type 0} (P : A → Type 0) (found : Option A) → ((a : A) → found ≡ Some a → P a) → IfSome found P
if_found P None each = tt
if_found P (Some a) each = each a refl

any_found : {A : Type 0} (found : Option A) → IfSome found (λ a. ⊤)
any_found None = tt
any_found (Some a) = tt

-- a number of 32 bits is one, and handles are handles; the others may be any
abbrev Fits : (field : Field) → Value field → Type 0
Fits Short n = n < 2 ^ 32
Fits Handles handles = AreHandles handles
Fits Name name = ⊤
Fits Long n = ⊤
Fits Signed n = ⊤
Fits Bytes bytes = ⊤
Fits Text text = ⊤

value_fits : (field : Field) (word : List ℕ) → IfSome (value_of field word) (Fits field)
value_fits Name word = tt
value_fits Short word = if_found (λ n. n < 2 ^ 32) (number_in 32 word) (fits_field 32 word)
value_fits Long word = any_found (number_in 64 word)
value_fits Signed word = any_found (signed_of word)
value_fits Bytes word = any_found (bytes_of word)
value_fits Text word = any_found (text_of word)
value_fits Handles word = handles_are word

-- ---- forms

-- what is said is sound, whatever the values are that words have
abbrev AreSound : (fields : List Field) → Says fields → Type 0
AreSound [] line = IsSound line
AreSound (field ∷ fields) says = (value : Value field) → Fits field value → AreSound fields (says value)

said_sound : (fields : List Field) (says : Says fields) → AreSound fields says → (words : List (List ℕ)) → AllSound (said_by fields says words)
said_sound [] line sound [] = sound
said_sound [] line sound (word ∷ words) = tt
said_sound (field ∷ fields) says sound [] = tt
said_sound (field ∷ fields) says sound (word ∷ words) =
    bind IsSound (value_of field word) (λ value. said_by fields (says value) words)
    (λ value is. said_sound fields (says value) (sound value (subst (λ (o : Option (Value field)). IfSome o (Fits field)) is (value_fits field word))) words)

-- the flags of an Unlink carry none
flags_alone : (name : List ℕ) (flags : Option ℕ) → AreHandles (map number_of_handle ((spelling_of_all (request_cells method.Unlink) (seq name ∷ members (numbers (flags ∷ [])) ∷ [])).handles))
flags_alone name None = no_handles
flags_alone name (Some flags) = no_handles

unlink_handles : (name : List ℕ) (flags : ℕ) → AreHandles (map number_of_handle (request_handles (asks.unlink name flags)))
unlink_handles name flags = flags_alone name (flags_member flags)

form_sound : (v : Verb) (e : ℕ) → e < 2 ^ 32 → AreSound ((form_of v).fields) ((form_of v).says e)
form_sound verb.Open e low = λ path p flags f object fits. (low, one_handle object fits)
form_sound verb.Clone e low = λ object fits. (low, one_handle object fits)
form_sound verb.Close e low = (low, no_handles)
form_sound verb.Query e low = (low, no_handles)
form_sound verb.Sync e low = (low, no_handles)
form_sound verb.Rewind e low = (low, no_handles)
form_sound verb.Token e low = (low, no_handles)
form_sound verb.Attributes e low = λ bits any. (low, no_handles)
form_sound verb.List e low = λ most any. (low, no_handles)
form_sound verb.Rename e low = λ src s token fits dst d. (low, one_handle token fits)
form_sound verb.Link e low = λ src s token fits dst d. (low, one_handle token fits)
form_sound verb.Unlink e low = λ name n flags f. (low, unlink_handles name flags)
form_sound verb.Watch e low = λ mask m watcher fits. (low, one_handle watcher fits)
form_sound verb.Read e low = λ count any. (low, no_handles)
form_sound verb.ReadAt e low = λ count c offset o. (low, no_handles)
form_sound verb.Write e low = λ bytes any. (low, no_handles)
form_sound verb.WriteAt e low = λ bytes b offset o. (low, no_handles)
form_sound verb.Seek e low = λ origin fits offset o. (low, no_handles)
form_sound verb.Resize e low = λ size any. (low, no_handles)
form_sound verb.Echo e low = λ text any. (low, no_handles)
form_sound verb.HangUp e low = low
form_sound verb.Turn e low = λ count any. low
form_sound verb.Pick e low = low
form_sound verb.Raw e low = λ handles are bytes any. (low, are)

with_sound : (v : Verb) (words : List (List ℕ)) → AllSound (line_with v words)
with_sound v [] = tt
with_sound v (e ∷ words) =
    bind IsSound (number_in 32 e) (λ endpoint. behind v endpoint words)
    (λ endpoint is. said_sound ((form_of v).fields) ((form_of v).says endpoint) (form_sound v endpoint (fits_field 32 e endpoint is)) words)

words_sound : (words : List (List ℕ)) → AllSound (line_in words)
words_sound [] = tt
words_sound (first ∷ words) = bind IsSound (verb_of first) (λ v. line_with v words) (λ v is. with_sound v words)

line_sound : (text : List ℕ) → AllSound (line_of text)
line_sound text = words_sound (pieces space text)

-- ---- frames

-- a frame that may go to the servers, but for its bytes
pub record Goes (f : Frame) : Type 0 where
  pub way : IsTrue (goes_to side.ToServers f.kind)
  pub shape : HasShape f.kind (length f.handles) (length f.bytes)
  pub endpoint : f.endpoint < 2 ^ 32
  pub handles : AreWords f.handles

frame_goes : (number : ℕ) (line : Line) → fits_at number line ≡ true → IsSound line → Goes (frame_at number line)
frame_goes number (request endpoint a) fits sound = record {
  way = refl;
  shape = record { few_handles = sound.1.few; few_bytes = leb-true _ limit.MAX_BYTES fits; shape = refl };
  endpoint = sound.0;
  handles = sound.1.words;
}
frame_goes number (raw endpoint handles bytes) fits sound = record {
  way = refl;
  shape = record { few_handles = sound.1.few; few_bytes = leb-true _ limit.MAX_BYTES fits; shape = refl };
  endpoint = sound.0;
  handles = sound.1.words;
}
frame_goes number (hang_up endpoint) fits sound = record {
  way = refl;
  shape = record { few_handles = lit≤ tt; few_bytes = lit≤ tt; shape = refl };
  endpoint = sound;
  handles = no_words;
}
frame_goes number (turn server count) fits sound = record {
  way = refl;
  shape = record { few_handles = lit≤ tt; few_bytes = leb-true _ limit.MAX_BYTES fits; shape = eq-eqb (length (word_of count)) 4 (length-word_of count) };
  endpoint = sound;
  handles = no_words;
}
frame_goes number (pick endpoint) fits sound = record {
  way = refl;
  shape = record { few_handles = lit≤ tt; few_bytes = lit≤ tt; shape = refl };
  endpoint = sound;
  handles = no_words;
}

abbrev SaidGoes : Spoken → Type 0
SaidGoes said = Goes (frame_of said)

given_goes : (number : ℕ) (line : Line) (test : Bool) → fits_at number line ≡ test → IsSound line → IfSome (given test (record { number = number; line = line })) SaidGoes
given_goes number line true fits sound = frame_goes number line fits sound
given_goes number line false fits sound = tt

said_goes : (number : ℕ) (found : Option Line) → AllSound found → IfSome (said_at number found) SaidGoes
said_goes number None sound = tt
said_goes number (Some line) sound = given_goes number line (fits_at number line) refl sound

spoken_goes : (line : Numbered) → IfSome (spoken line) SaidGoes
unfolding spoken
spoken_goes line = said_goes line.number (line_of line.bytes) (line_sound line.bytes)

with_one : (found : Option Spoken) (others : List Spoken) → IfSome found SaidGoes → All Goes (map frame_of others) → All Goes (map frame_of (cons_option found others))
with_one None others one all = all
with_one (Some said) others one all = All-cons Goes (frame_of said) (map frame_of others) one all

lines_go : (lines : List Numbered) → All Goes (map frame_of (filter_map spoken lines))
lines_go [] = All-nil Goes
lines_go (line ∷ lines) = with_one (spoken line) (filter_map spoken lines) (spoken_goes line) (lines_go lines)

script_goes : (text : List ℕ) → All Goes (frames_of text)
unfolding script_lines
script_goes text = lines_go (filter (λ line. not (is_skipped line.bytes)) (behind_mode (lines_of text)))

-- ---- their bytes

back_bytes : (front back : List ℕ) → AreBytes (front ++ back) → AreBytes back
back_bytes front back are = subst AreBytes (drop-append_seam front back) (All-drop (λ byte. byte < 256) (length front) (front ++ back) are)

with_bytes : (f : Frame) → Goes f → AreBytes f.bytes → IsFrame side.ToServers f
with_bytes f goes are = record { way = goes.way; shape = goes.shape; endpoint = goes.endpoint; handles = goes.handles; bytes = are }

front_bytes : (front back : List ℕ) → AreBytes (front ++ back) → AreBytes front
front_bytes front back are = subst AreBytes (take-append_seam front back) (All-take (λ byte. byte < 256) (length front) (front ++ back) are)

own_bytes : (f : Frame) → AreBytes (spelling f) → AreBytes f.bytes
own_bytes f are = back_bytes (fixed_part f.endpoint f.kind (length f.handles) (length f.bytes) ++ flat_map word_of f.handles) f.bytes are

all_frames : (frames : List Frame) → All Goes frames → AreBytes (spellings frames) → All (IsFrame side.ToServers) frames
all_frames [] goes are = All-nil (IsFrame side.ToServers)
all_frames (f ∷ frames) goes are =
    All-cons (IsFrame side.ToServers) f frames (with_bytes f (All-head Goes f frames goes) (own_bytes f (front_bytes (spelling f) (spellings frames) are)))
    (all_frames frames (All-tail Goes f frames goes) (back_bytes (spelling f) (spellings frames) are))

-- where all are bytes, what a script stands for are frames that may go to the servers
pub frames_go : (text : List ℕ) → AreBytes (spellings (frames_of text)) → All (IsFrame side.ToServers) (frames_of text)
frames_go text are = all_frames (frames_of text) (script_goes text) are
