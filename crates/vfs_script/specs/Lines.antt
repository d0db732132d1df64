-- What a line says: the forms of lines, the frame that each stands for, and the call that it makes.
use Rattle.std.specs.Prelude.{ℕ, ℤ, nat_le, Bool, if◌then◌else◌, List, [], ◌∷◌, length, codes, Option, Some, None}
use Rattle.std.specs.List.{find}
use Rattle.std.specs.Str.{bytes_eq}
use Rattle.fidl_names.specs.declared.limits.TheConstants as limit
use Rattle.link_frames.specs.declared.kinds.FrameKind.TheVariants as kind
use Rattle.link_frames.specs.Frames.{Frame, frame_with}
use Rattle.link_frames.specs.Numbers.{word_of}
use Rattle.io_messages.specs.Asked.{Asked, method_of}
use Rattle.io_messages.specs.Asked as asks
use Rattle.io_messages.specs.Shapes.{is_one_way}
use Rattle.io_client.specs.Calls.{request_frame, watcher_of}
use Rattle.vfs_script.specs.declared.calls.Call.{Call}
use Rattle.vfs_script.specs.declared.verbs.Verb.{Verb}
use Rattle.vfs_script.specs.declared.verbs.Verb.TheVariants as verb
use Rattle.vfs_script.specs.Words.{◌>>=◌, space, number_in, signed_of, bytes_of, text_of, handles_of}
use Rattle.text_pieces.specs.Pieces.{pieces}

-- what a line says: a request on an endpoint, a message as it is, an endpoint hung up, turns of a
-- server, a pick
pub data Line : Type 0 where
  request : (endpoint : ℕ) (a : Asked) → Line
  raw : (endpoint : ℕ) (handles bytes : List ℕ) → Line
  hang_up : (endpoint : ℕ) → Line
  turn : (server count : ℕ) → Line
  pick : (endpoint : ℕ) → Line

-- ---- fields

-- what a word of a line is: a name or a path as it stands, a number of 32 bits, one of 64, one of
-- 64 with a sign, bytes, bytes that are UTF-8, handles
pub data Field : Type 0 where
  Name : Field
  Short : Field
  Long : Field
  Signed : Field
  Bytes : Field
  Text : Field
  Handles : Field

abbrev pub Value : Field → Type 0
Value Name = List ℕ
Value Short = ℕ
Value Long = ℕ
Value Signed = ℤ
Value Bytes = List ℕ
Value Text = List ℕ
Value Handles = List ℕ

-- the value that a word has as such a field
abbrev pub value_of : (field : Field) → List ℕ → Option (Value field)
value_of Name word = Some word
value_of Short word = number_in 32 word
value_of Long word = number_in 64 word
value_of Signed word = signed_of word
value_of Bytes word = bytes_of word
value_of Text word = text_of word
value_of Handles word = handles_of word

-- a line, for values of these fields
abbrev pub Says : List Field → Type 0
Says [] = Line
Says (field ∷ fields) = Value field → Says fields

-- ---- the forms

-- a form of lines: its first word, the fields behind its endpoint, and what it says by their values
pub record Form : Type 0 where
  pub word : List ℕ
  pub fields : List Field
  pub says : (endpoint : ℕ) → Says fields

abbrev pub form : List ℕ → (fields : List Field) → (ℕ → Says fields) → Form
form word fields says = record { word = word; fields = fields; says = says }

abbrev pub form_of : Verb → Form
form_of verb.Open =
    form (codes "open") (Name ∷ Long ∷ Short ∷ [])
    (λ e path flags object. request e (asks.open_path path flags None object))
form_of verb.Clone = form (codes "clone") (Short ∷ []) (λ e object. request e (asks.clone object))
form_of verb.Close = form (codes "close") [] (λ e. request e asks.close)
form_of verb.Query = form (codes "query") [] (λ e. request e asks.query)
form_of verb.Sync = form (codes "sync") [] (λ e. request e asks.sync)
form_of verb.Rewind = form (codes "rewind") [] (λ e. request e asks.rewind)
form_of verb.Token = form (codes "token") [] (λ e. request e asks.get_token)
form_of verb.Attributes = form (codes "attributes") (Long ∷ []) (λ e bits. request e (asks.get_attributes bits))
form_of verb.List = form (codes "list") (Long ∷ []) (λ e most. request e (asks.read_dirents most))
form_of verb.Rename =
    form (codes "rename") (Name ∷ Short ∷ Name ∷ [])
    (λ e src token dst. request e (asks.rename src token dst))
form_of verb.Link =
    form (codes "link") (Name ∷ Short ∷ Name ∷ [])
    (λ e src token dst. request e (asks.link src token dst))
form_of verb.Unlink = form (codes "unlink") (Name ∷ Long ∷ []) (λ e name flags. request e (asks.unlink name flags))
form_of verb.Watch = form (codes "watch") (Short ∷ Short ∷ []) (λ e mask watcher. request e (asks.watch mask 0 watcher))
form_of verb.Read = form (codes "read") (Long ∷ []) (λ e count. request e (asks.read count))
form_of verb.ReadAt = form (codes "readat") (Long ∷ Long ∷ []) (λ e count offset. request e (asks.read_at count offset))
form_of verb.Write = form (codes "write") (Bytes ∷ []) (λ e bytes. request e (asks.write bytes))
form_of verb.WriteAt =
    form (codes "writeat") (Bytes ∷ Long ∷ [])
    (λ e bytes offset. request e (asks.write_at bytes offset))
form_of verb.Seek = form (codes "seek") (Short ∷ Signed ∷ []) (λ e origin offset. request e (asks.seek origin offset))
form_of verb.Resize = form (codes "resize") (Long ∷ []) (λ e size. request e (asks.resize size))
form_of verb.Echo = form (codes "echo") (Text ∷ []) (λ e text. request e (asks.echo_string text))
form_of verb.HangUp = form (codes "hangup") [] hang_up
form_of verb.Turn = form (codes "turn") (Short ∷ []) turn
form_of verb.Pick = form (codes "pick") [] pick
form_of verb.Raw = form (codes "raw") (Handles ∷ Bytes ∷ []) raw

abbrev pub all_verbs : List Verb
all_verbs =
    verb.Open ∷ verb.Clone ∷ verb.Close ∷ verb.Query ∷ verb.Sync ∷ verb.Rewind ∷ verb.Token ∷ verb.Attributes
    ∷ verb.List ∷ verb.Rename ∷ verb.Link ∷ verb.Unlink ∷ verb.Watch ∷ verb.Read ∷ verb.ReadAt ∷ verb.Write
    ∷ verb.WriteAt ∷ verb.Seek ∷ verb.Resize ∷ verb.Echo ∷ verb.HangUp ∷ verb.Turn ∷ verb.Pick ∷ verb.Raw ∷ []

unfoldable pub verb_of : List ℕ → Option Verb
verb_of word = find (λ v. bytes_eq word ((form_of v).word)) all_verbs

-- ---- what a line says

-- what is said by words that are the values of these fields, one for each
abbrev pub said_by : (fields : List Field) → Says fields → List (List ℕ) → Option Line
said_by [] line [] = Some line
said_by (field ∷ fields) says (word ∷ words) = do
  value ← value_of field word
  said_by fields (says value) words
said_by _ _ _ = None

-- what the words behind the endpoint say, and those behind the first word
abbrev pub behind : Verb → (endpoint : ℕ) → List (List ℕ) → Option Line
behind v endpoint words = said_by ((form_of v).fields) ((form_of v).says endpoint) words

abbrev pub line_with : Verb → List (List ℕ) → Option Line
line_with v [] = None
line_with v (e ∷ words) = do
  endpoint ← number_in 32 e
  behind v endpoint words

abbrev pub line_in : List (List ℕ) → Option Line
line_in [] = None
line_in (first ∷ words) = do
  v ← verb_of first
  line_with v words

-- what a line says by its words, which stand between its spaces
abbrev pub line_of : List ℕ → Option Line
line_of text = line_in (pieces space text)

-- the transaction id of a request in the line with this number: the number, or 0 where there is no
-- reply
abbrev pub txid_at : ℕ → Asked → ℕ
txid_at number a = if is_one_way (method_of a) then 0 else number

-- the frame that a line stands for
abbrev pub frame_at : ℕ → Line → Frame
frame_at number (request endpoint a) = request_frame endpoint (txid_at number a) a
frame_at number (raw endpoint handles bytes) = frame_with endpoint kind.Message handles bytes
frame_at number (hang_up endpoint) = frame_with endpoint kind.Close [] []
frame_at number (turn server count) = frame_with server kind.Turn [] (word_of count)
frame_at number (pick endpoint) = frame_with endpoint kind.Pick [] []

-- its message isn't too long
abbrev pub fits_at : ℕ → Line → Bool
fits_at number line = nat_le (length ((frame_at number line).bytes)) limit.MAX_BYTES

-- the call that a line makes: a request with a reply
abbrev pub call_of : ℕ → Line → Option Call
call_of number (request endpoint a) =
    if is_one_way (method_of a) then None
    else Some (record { endpoint = endpoint; txid = number; method = method_of a; watcher = watcher_of a })
call_of number _ = None
