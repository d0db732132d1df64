-- The line of a frame.
use Rattle.std.specs.Prelude.{ℕ, ◌==◌, ◌||◌, nat_lt, not, if◌then◌else◌, List, [], ◌∷◌, ◌++◌, length, map, slice_index, codes, decimal, Option, Some, None}
use Rattle.std.specs.Fmt.{signed_decimal}
use Rattle.std.specs.Int.{w32, cast_signed}
use Rattle.std.specs.List.{join_with_byte}
use Rattle.hex.specs.Hex.{encode_lower}
use Rattle.fidl_names.specs.Numbers.{number_at}
use Rattle.fidl_names.specs.declared.methods.Method.{Method}
use Rattle.fidl_names.specs.declared.methods.Method.TheVariants as method
use Rattle.fidl_wire.specs.Names.{event_ordinal}
use Rattle.fidl_wire.specs.Epitaphs.{epitaph_ordinal}
use Rattle.link_frames.specs.declared.kinds.FrameKind.{FrameKind}
use Rattle.link_frames.specs.declared.kinds.FrameKind.TheVariants as kind
use Rattle.link_frames.specs.Frames.{Frame}
use Rattle.link_frames.specs.Numbers.{word_in}
use Rattle.io_messages.specs.Replies.{method_with}
use Rattle.vfs_script.specs.Words.{none_word, comma}

-- the name of a method
abbrev pub name_of : Method → List ℕ
name_of method.Clone = codes "Clone"
name_of method.Close = codes "Close"
name_of method.Query = codes "Query"
name_of method.GetAttributes = codes "GetAttributes"
name_of method.Sync = codes "Sync"
name_of method.OpenPath = codes "Open"
name_of method.ReadDirents = codes "ReadDirents"
name_of method.Rewind = codes "Rewind"
name_of method.GetToken = codes "GetToken"
name_of method.Rename = codes "Rename"
name_of method.Link = codes "Link"
name_of method.Unlink = codes "Unlink"
name_of method.Watch = codes "Watch"
name_of method.Read = codes "Read"
name_of method.ReadAt = codes "ReadAt"
name_of method.Write = codes "Write"
name_of method.WriteAt = codes "WriteAt"
name_of method.Seek = codes "Seek"
name_of method.Resize = codes "Resize"
name_of method.EchoString = codes "EchoString"

abbrev pub raw_label : List ℕ
raw_label = codes "raw"

abbrev pub label_or_raw : Option Method → List ℕ
label_or_raw None = raw_label
label_or_raw (Some m) = name_of m

-- the label of an ordinal
abbrev pub label_with : ℕ → List ℕ
label_with ordinal =
    if ordinal == epitaph_ordinal then codes "epitaph"
    else if ordinal == event_ordinal then codes "OnRepresentation"
    else label_or_raw (method_with ordinal)

-- the label of a message: `raw` where it is too short for a header, or has another magic number
unfoldable pub label_of : List ℕ → List ℕ
label_of bytes =
    if nat_lt (length bytes) 16 || not (slice_index bytes 7 == 1) then raw_label
    else label_with (number_at 8 8 bytes)

-- handles in decimal, joined by commas; `-` for none
unfoldable pub handles_text : List ℕ → List ℕ
handles_text [] = none_word
handles_text (first ∷ others) = join_with_byte comma (map decimal (first ∷ others))

-- bytes as hexadecimal digits; `-` for none
unfoldable pub bytes_text : List ℕ → List ℕ
bytes_text [] = none_word
bytes_text (first ∷ others) = encode_lower (first ∷ others)

-- what stands behind the endpoint's number
abbrev pub told_of : FrameKind → List ℕ → List ℕ → List ℕ
told_of kind.Message handles bytes =
    codes " message " ++ label_of bytes ++ codes " " ++ handles_text handles ++ codes " " ++ bytes_text bytes
told_of kind.Close handles bytes = codes " close"
told_of kind.Turn handles bytes = codes " turn " ++ decimal (word_in bytes)
told_of kind.Pick handles bytes = codes " pick"
told_of kind.Refused handles bytes = codes " refused " ++ signed_decimal (cast_signed w32 (word_in bytes))

-- the line of a frame, with its end
unfoldable pub frame_line : Frame → List ℕ
frame_line f = decimal f.endpoint ++ told_of f.kind f.handles f.bytes ++ codes "\n"

-- the last line of a transcript: how many calls there were, and how many were answered
unfoldable pub counts_line : ℕ → ℕ → List ℕ
counts_line calls answered = codes "calls " ++ decimal calls ++ codes " answered " ++ decimal answered ++ codes "\n"
