-- What is written of numbers, texts and handles: bytes, and few of them.
use Rattle.std.proofs.Common.{◌≡◌, ℕ, zero, suc, ◌+◌, ◌^◌, ◌<◌, ◌≤◌, Bool, true, false, List, [], ◌∷◌, ◌++◌, length, replicate, Option, Some, None, All, lit<, arith}
use Rattle.std.proofs.lemmas.List.{length-append, length-replicate}
use Rattle.std.proofs.lemmas.List.Elements.{All-nil, All-cons, All-append, All-replicate}
use Rattle.std.specs.Int.{byte_at, bytes_low_first}
use Rattle.byteorder.specs.Numbers.{length-bytes_low_first}
use Rattle.fidl_names.specs.Numbers.{AreBytes, number_bytes}
use Rattle.fidl_names.specs.HandleNumber.{number_of_handle}
use Rattle.fidl_names.specs.declared.methods.Handle.{Handle}
use Rattle.fidl_wire.specs.declared.headers.Header.{Header}
use Rattle.fidl_wire.specs.Grammar.{Part, nothing, join}
use Rattle.fidl_wire.specs.Headers.{flags_of, header_bytes}
use Rattle.io_messages.specs.Members.{numbers}
use Rattle.fidl_wire.specs.Layout.{Member, a_number, a_vector, Cell, Item, Variant, Layout, Content, number, pad, handle, text, vector, table, num, blank, held, seq, members, empty, word, object, struct, union, fields, branch, variant_of}
use Rattle.fidl_wire.specs.Numbers.{padding_after, padded}
use Rattle.fidl_wire.specs.Reading.{present_list, present_word}
use Rattle.fidl_wire.specs.Spelling.{body_bytes, body_handles, count_bytes, envelope_bytes, given, handle_part, inline_part, kept, list_part_of, member_part, members_part, object_bytes, option_bytes, option_handles, spelling_of, spelling_of_all, table_part, variant_bytes, variant_handles}
use Rattle.fidl_wire.specs.Written.{padded_bytes}
use Rattle.journal_laws.proofs.Texts.{both_written, first_written, none_written}

-- ---- numbers

byte_small : (i n : ℕ) → byte_at i n < 256
byte_small zero n = omega arith
byte_small (suc i) n = omega arith

low_bytes : (i size x : ℕ) → AreBytes (bytes_low_first i size x)
low_bytes i zero x = All-nil (λ b. b < 256)
low_bytes i (suc size) x = All-cons (λ b. b < 256) (byte_at i x) (bytes_low_first (suc i) size x) (byte_small i x) (low_bytes (suc i) size x)

-- whatever the number is
pub number_written : (size x : ℕ) → AreBytes (number_bytes size x)
unfolding number_bytes
number_written size x = low_bytes 0 size x

pub length-number : (size x : ℕ) → length (number_bytes size x) ≡ size
unfolding number_bytes
length-number size x = length-bytes_low_first 0 size x

-- ---- lists of bytes

pub zeros_written : (n : ℕ) → AreBytes (replicate n 0)
zeros_written n = All-replicate (λ x. x < 256) n 0 (lit< tt)

padded_written : (xs : List ℕ) → AreBytes xs → AreBytes (padded_bytes xs)
padded_written xs h = both_written xs (replicate (padding_after (length xs)) 0) h (zeros_written (padding_after (length xs)))

pub length-padded : (xs : List ℕ) → length (padded_bytes xs) ≤ length xs + 7
unfolding padding_after
length-padded xs =
    let zero' : ℕ = 0 in
    omega (arith, length-append xs (replicate (padding_after (length xs)) 0), length-replicate (padding_after (length xs)) zero')

pub count_written : (n : ℕ) → AreBytes (count_bytes n)
count_written n = both_written (number_bytes 8 n) (number_bytes 8 present_list) (number_written 8 n) (number_written 8 present_list)

pub length-count : (n : ℕ) → length (count_bytes n) ≡ 16
length-count n = omega (arith, length-append (number_bytes 8 n) (number_bytes 8 present_list), length-number 8 n, length-number 8 present_list)

envelope_written : (a b c : ℕ) → AreBytes (envelope_bytes a b c)
envelope_written a b c =
    both_written (number_bytes 4 a ++ number_bytes 2 b) (number_bytes 2 c) (both_written (number_bytes 4 a) (number_bytes 2 b) (number_written 4 a) (number_written 2 b)) (number_written 2 c)

pub length-envelope : (a b c : ℕ) → length (envelope_bytes a b c) ≡ 8
length-envelope a b c = omega (arith, length-append (number_bytes 4 a ++ number_bytes 2 b) (number_bytes 2 c), length-append (number_bytes 4 a) (number_bytes 2 b), length-number 4 a, length-number 2 b, length-number 2 c)

-- ---- headers

flag_small : (flexible : Bool) → flags_of flexible < 256
flag_small true = lit< tt
flag_small false = lit< tt

pub header_written : (h : Header) → AreBytes (header_bytes h)
header_written h =
    both_written (number_bytes 4 h.txid ++ 0x02 ∷ 0 ∷ flags_of h.flexible ∷ 1 ∷ []) (number_bytes 8 h.ordinal)
    (both_written (number_bytes 4 h.txid) (0x02 ∷ 0 ∷ flags_of h.flexible ∷ 1 ∷ []) (number_written 4 h.txid)
    (first_written 0x02 (0 ∷ flags_of h.flexible ∷ 1 ∷ []) (lit< tt)
    (first_written 0 (flags_of h.flexible ∷ 1 ∷ []) (lit< tt)
    (first_written (flags_of h.flexible) (1 ∷ []) (flag_small h.flexible)
    (first_written 1 [] (lit< tt) none_written)))))
    (number_written 8 h.ordinal)

pub length-header : (h : Header) → length (header_bytes h) ≡ 16
length-header h =
    omega (arith, length-append (number_bytes 4 h.txid ++ 0x02 ∷ 0 ∷ flags_of h.flexible ∷ 1 ∷ []) (number_bytes 8 h.ordinal), length-append (number_bytes 4 h.txid) (0x02 ∷ 0 ∷ flags_of h.flexible ∷ 1 ∷ []), length-number 4 h.txid, length-number 8 h.ordinal)

-- ---- parts

-- a handle's number has 32 bits
abbrev pub IsShort : Handle → Type 0
IsShort h = number_of_handle h < 2 ^ 32

-- what is written of a text are bytes if the text's are, and what is written of a handle is a number if the handle's is
abbrev pub IsOfBytes : Option Member → Type 0
IsOfBytes None = Unit {0}
IsOfBytes (Some (a_number x)) = Unit {0}
IsOfBytes (Some (a_vector xs)) = AreBytes xs

abbrev pub AreOfBytes : List (Option Member) → Type 0
AreOfBytes [] = Unit {0}
AreOfBytes (v ∷ vs) = IsOfBytes v × AreOfBytes vs

abbrev pub IsWritable : Item → Type 0
IsWritable (num x) = Unit {0}
IsWritable blank = Unit {0}
IsWritable (held None) = Unit {0}
IsWritable (held (Some h)) = IsShort h
IsWritable (seq xs) = AreBytes xs
IsWritable (members values) = AreOfBytes values

abbrev pub AreWritable : List Item → Type 0
AreWritable [] = Unit {0}
AreWritable (x ∷ xs) = IsWritable x × AreWritable xs

-- bytes, and at most so many handles
record IsPart (p : Part) (most : ℕ) : Type 0 where
  inline : AreBytes p.inline
  outside : AreBytes p.outside
  handles : All IsShort p.handles
  few : length p.handles ≤ most

nothing_part : IsPart nothing 0
nothing_part = record { inline = none_written; outside = none_written; handles = All-nil IsShort; few = omega arith }

join_part : (p q : Part) (m n : ℕ) → IsPart p m → IsPart q n → IsPart (join p q) (m + n)
join_part p q m n a b = record {
  inline = both_written p.inline q.inline a.inline b.inline;
  outside = both_written p.outside q.outside a.outside b.outside;
  handles = All-append IsShort p.handles q.handles a.handles b.handles;
  few = omega (arith, length-append p.handles q.handles, a.few, b.few);
}

more_part : (p : Part) (m n : ℕ) → m ≤ n → IsPart p m → IsPart p n
more_part p m n h a = record { inline = a.inline; outside = a.outside; handles = a.handles; few = omega (arith, a.few, h) }

inline_is : (bytes : List ℕ) (most : ℕ) → AreBytes bytes → IsPart (inline_part bytes) most
inline_is bytes most h = record { inline = h; outside = none_written; handles = All-nil IsShort; few = omega arith }

list_is : (xs : List ℕ) (most : ℕ) → AreBytes xs → IsPart (list_part_of xs) most
list_is xs most h = record { inline = count_written (length xs); outside = padded_written xs h; handles = All-nil IsShort; few = omega arith }

member_is : (v : Option Member) → IsOfBytes v → IsPart (member_part v) 0
member_is None h = inline_is (number_bytes 8 0) 0 (number_written 8 0)
member_is (Some (a_number x)) h = record { inline = envelope_written 8 0 0; outside = number_written 8 x; handles = All-nil IsShort; few = omega arith }
member_is (Some (a_vector xs)) h = record {
  inline = envelope_written (16 + padded (length xs)) 0 0;
  outside = both_written (count_bytes (length xs)) (padded_bytes xs) (count_written (length xs)) (padded_written xs h);
  handles = All-nil IsShort;
  few = omega arith;
}

members_are : (vs : List (Option Member)) → AreOfBytes vs → IsPart (members_part vs) 0
members_are [] h = nothing_part
members_are (v ∷ vs) h = join_part (member_part v) (members_part vs) 0 0 (member_is v h.0) (members_are vs h.1)

kept_of_bytes : (v : Option Member) (g : List (Option Member)) → IsOfBytes v → AreOfBytes g → AreOfBytes (kept v g)
kept_of_bytes None [] h k = tt
kept_of_bytes None (w ∷ g) h k = (h, k)
kept_of_bytes (Some x) g h k = (h, k)

given_of_bytes : (vs : List (Option Member)) → AreOfBytes vs → AreOfBytes (given vs)
given_of_bytes [] h = tt
given_of_bytes (v ∷ vs) h = kept_of_bytes v (given vs) h.0 (given_of_bytes vs h.1)

-- members that are numbers
pub numbers_of_bytes : (vs : List (Option ℕ)) → AreOfBytes (numbers vs)
numbers_of_bytes [] = tt
numbers_of_bytes (None ∷ vs) = (tt, numbers_of_bytes vs)
numbers_of_bytes (Some x ∷ vs) = (tt, numbers_of_bytes vs)

table_is : (vs : List (Option Member)) (most : ℕ) → AreOfBytes vs → IsPart (table_part vs) most
table_is vs most h =
    let slots = members_are (given vs) (given_of_bytes vs h) in
    record {
      inline = count_written (length (given vs));
      outside = both_written (members_part (given vs)).inline (members_part (given vs)).outside slots.inline slots.outside;
      handles = slots.handles;
      few = omega (arith, slots.few);
    }

handle_is : (h : Option Handle) → IsWritable (held h) → IsPart (handle_part h) 1
handle_is None fits = inline_is (number_bytes 4 0) 1 (number_written 4 0)
handle_is (Some h) fits = record {
  inline = number_written 4 present_word;
  outside = none_written;
  handles = All-cons IsShort h [] fits (All-nil IsShort);
  few = omega arith;
}

cell_is : (cell : Cell) (x : Item) → IsWritable x → IsPart (spelling_of cell x) 1
cell_is (number size) (num x) fits = inline_is (number_bytes size x) 1 (number_written size x)
cell_is (pad size) blank fits = inline_is (replicate size 0) 1 (zeros_written size)
cell_is (handle kind nullable) (held h) fits = handle_is h fits
cell_is text (seq xs) fits = list_is xs 1 fits
cell_is vector (seq xs) fits = list_is xs 1 fits
cell_is (table kinds) (members vs) fits = table_is vs 1 fits
cell_is _ _ fits = more_part nothing 0 1 (omega arith) nothing_part

cells_are : (cells : List Cell) (xs : List Item) → AreWritable xs → IsPart (spelling_of_all cells xs) (length xs)
cells_are (cell ∷ cells) (x ∷ xs) fits =
    more_part (spelling_of_all (cell ∷ cells) (x ∷ xs)) (1 + length xs) (length (x ∷ xs)) (omega arith)
    (join_part (spelling_of cell x) (spelling_of_all cells xs) 1 (length xs) (cell_is cell x fits.0) (cells_are cells xs fits.1))
cells_are [] xs fits = more_part nothing 0 (length xs) (omega arith) nothing_part
cells_are (cell ∷ cells) [] fits = nothing_part

-- ---- bodies

-- what is in a body
abbrev pub items_of : Content → List Item
items_of (fields xs) = xs
items_of (branch ordinal xs) = xs

object_written : (p : Part) (most : ℕ) → IsPart p most → AreBytes (object_bytes p)
object_written p most h = both_written (padded_bytes p.inline) p.outside (padded_written p.inline h.inline) h.outside

-- bytes, and handles with numbers, not more than there are fields
pub record IsBody (body : List ℕ) (carried : List Handle) (most : ℕ) : Type 0 where
  pub bytes : AreBytes body
  pub handles : All IsShort carried
  pub few : length carried ≤ most

no_body : (most : ℕ) → IsBody [] [] most
no_body most = record { bytes = none_written; handles = All-nil IsShort; few = omega arith }

variant_is : (v : Variant) (ordinal : ℕ) (xs : List Item) → AreWritable xs → IsBody (variant_bytes v ordinal xs) (variant_handles v xs) (length xs)
variant_is empty ordinal xs fits = record {
  bytes = both_written (number_bytes 8 ordinal) (envelope_bytes 0 0 1) (number_written 8 ordinal) (envelope_written 0 0 1);
  handles = All-nil IsShort;
  few = omega arith;
}
variant_is word ordinal (num x ∷ xs) fits = record {
  bytes = both_written (number_bytes 8 ordinal) (envelope_bytes x 0 1) (number_written 8 ordinal) (envelope_written x 0 1);
  handles = All-nil IsShort;
  few = omega arith;
}
variant_is word ordinal _ fits = record { bytes = none_written; handles = All-nil IsShort; few = omega arith }
variant_is (object cells) ordinal xs fits =
    let part = cells_are cells xs fits in
    let value = object_bytes (spelling_of_all cells xs) in
    let head = number_bytes 8 ordinal ++ envelope_bytes (length value) (length (spelling_of_all cells xs).handles) 0 in
    record {
      bytes = both_written head value
          (both_written (number_bytes 8 ordinal) (envelope_bytes (length value) (length (spelling_of_all cells xs).handles) 0) (number_written 8 ordinal) (envelope_written (length value) (length (spelling_of_all cells xs).handles) 0))
          (object_written (spelling_of_all cells xs) (length xs) part);
      handles = part.handles;
      few = part.few;
    }

option_is : (v : Option Variant) (ordinal : ℕ) (xs : List Item) → AreWritable xs → IsBody (option_bytes v ordinal xs) (option_handles v xs) (length xs)
option_is None ordinal xs fits = no_body (length xs)
option_is (Some v) ordinal xs fits = variant_is v ordinal xs fits

pub body_is : (layout : Layout) (content : Content) → AreWritable (items_of content) → IsBody (body_bytes layout content) (body_handles layout content) (length (items_of content))
body_is (struct cells) (fields xs) fits =
    let part = cells_are cells xs fits in
    record { bytes = object_written (spelling_of_all cells xs) (length xs) part; handles = part.handles; few = part.few }
body_is (union variants) (branch ordinal xs) fits = option_is (variant_of variants ordinal) ordinal xs fits
body_is (struct cells) (branch ordinal xs) fits = no_body (length xs)
body_is (union variants) (fields xs) fits = no_body (length xs)
