-- How many bytes the parts of fields have.
use Rattle.std.proofs.Common.{◌≡◌, ℕ, zero, suc, ◌+◌, ◌*◌, ◌%◌, ◌<◌, ◌≤◌, List, [], ◌∷◌, ◌++◌, length, replicate, take, drop, get_or, Option, Some, None, is_some, option_map, Bool, true, false, MatchOption, SomeIff, ◌-◌, inl, inr, refl, sym, ap, subst, ◌∙◌, append_assoc, length-append, drop-cons, add-one, arith}
use Rattle.std.proofs.lemmas.List.{length-replicate, take_more}
use Rattle.std.proofs.lemmas.Bool.{cases_lt}
use denote.Bor.{Bor}
use Rattle.byteorder.specs.Numbers.{length-bytes_low_first}
use Rattle.fidl_names.specs.declared.methods.Handle.{Handle}
use Rattle.fidl_names.specs.Numbers.{number_bytes}
use Rattle.fidl_wire.specs.declared.kinds.Member.{Member as MemberNow}
use Rattle.fidl_wire.specs.Layout.{Member, a_number, a_vector}
use Rattle.fidl_wire.specs.Told.{told, all_told}
use Rattle.fidl_wire.proofs.Sizes.{padded-mod}
use Rattle.fidl_wire.specs.Numbers.{padding_after, padded}
use Rattle.fidl_wire.specs.declared.headers.Header.{Header}
use Rattle.fidl_wire.specs.Headers.{header_bytes, flags_of}
use Rattle.fidl_wire.specs.Written.{padded_bytes}
use Rattle.fidl_wire.specs.Reading.{present_word, present_list}
use Rattle.fidl_wire.specs.Spelling.{count_bytes, envelope_bytes, member_part, members_part, given, kept, table_part, object_bytes}
use Rattle.fidl_wire.proofs.Padded.{padded_behind}
use Rattle.io_messages.specs.declared.fields.Field.{Field}
use Rattle.io_messages.specs.declared.fields.Field.TheVariants.{Word, Long, Blank, Held, Absent, Bytes, Table}
use Rattle.io_messages.specs.Members.{numbers}
use Rattle.io_messages.specs.Fields.{part_of, parts_of, part_size, parts_size, slot_of, slots_of}

pub length-number : (size x : ℕ) → length (number_bytes size x) ≡ size
unfolding number_bytes
length-number size x = length-bytes_low_first 0 size x

pub length-count : (n : ℕ) → length (count_bytes n) ≡ 16
length-count n = omega (arith, length-append (number_bytes 8 n) (number_bytes 8 present_list), length-number 8 n, length-number 8 present_list)

pub length-envelope : (a b c : ℕ) → length (envelope_bytes a b c) ≡ 8
length-envelope a b c =
    omega (arith, length-append (number_bytes 4 a ++ number_bytes 2 b) (number_bytes 2 c), length-append (number_bytes 4 a) (number_bytes 2 b), length-number 4 a, length-number 2 b, length-number 2 c)

abbrev pub zeros : ℕ → List ℕ
zeros n = replicate n 0

pub length-zeros : (n : ℕ) → length (zeros n) ≡ n
length-zeros n = let zero : ℕ = 0 in length-replicate n zero

pub length-padded : (xs : List ℕ) → length (padded_bytes xs) ≡ padded (length xs)
length-padded xs = omega (arith, length-append xs (replicate (padding_after (length xs)) 0), length-zeros (padding_after (length xs)))

-- ---- tables

pub length-slot : (v : Option Member) → length (member_part v).inline ≡ 8
length-slot None = length-number 8 0
length-slot (Some (a_number x)) = length-envelope 8 0 0
length-slot (Some (a_vector xs)) = length-envelope (16 + padded (length xs)) 0 0

pub length-list : (xs : List ℕ) → length (count_bytes (length xs) ++ padded_bytes xs) ≡ 16 + padded (length xs)
length-list xs = omega (arith, length-append (count_bytes (length xs)) (padded_bytes xs), length-count (length xs), length-padded xs)

pub length-held : (v : Option Member) → 8 + length (member_part v).outside ≡ slot_of v
length-held None = refl
length-held (Some (a_number x)) = omega (arith, length-number 8 x)
length-held (Some (a_vector xs)) = omega (arith, length-list xs)

-- the envelope of a number is a number itself
pub envelope_is : number_bytes 8 8 ≡ envelope_bytes 8 0 0
unfolding number_bytes
envelope_is = refl

pub length-slots : (vs : List (Option Member)) → length (members_part vs).inline + length (members_part vs).outside ≡ slots_of vs
length-slots [] = refl
length-slots (v ∷ vs) =
    omega (arith, length-append (member_part v).inline (members_part vs).inline, length-append (member_part v).outside (members_part vs).outside, length-slot v, length-held v, length-slots vs)

-- members that are numbers have at most sixteen bytes each
number-most : (v : Option ℕ) → slot_of (option_map a_number v) ≤ 16
number-most None = omega arith
number-most (Some x) = omega arith

kept-most : (v : Option Member) (g : List (Option Member)) → slots_of (kept v g) ≤ slot_of v + slots_of g
kept-most None [] = omega arith
kept-most None (w ∷ g) = omega arith
kept-most (Some x) g = omega arith

pub numbers-most : (vs : List (Option ℕ)) → slots_of (given (numbers vs)) ≤ 16 * length vs
numbers-most [] = omega arith
numbers-most (v ∷ vs) = omega (arith, kept-most (option_map a_number v) (given (numbers vs)), number-most v, numbers-most vs)

pub slots-aligned : (vs : List (Option Member)) → slots_of vs % 8 ≡ 0
slots-aligned [] = refl
slots-aligned (None ∷ vs) = omega (arith, slots-aligned vs)
slots-aligned (Some (a_number x) ∷ vs) = omega (arith, slots-aligned vs)
slots-aligned (Some (a_vector xs) ∷ vs) = omega (arith, slots-aligned vs, padded-mod (length xs))

pub length-table : (vs : List (Option Member)) → length (table_part vs).outside ≡ slots_of (given vs)
length-table vs =
    omega (arith, length-append (members_part (given vs)).inline (members_part (given vs)).outside, length-slots (given vs))

pub no_handles : (vs : List (Option Member)) → (members_part vs).handles ≡ []
no_handles [] = refl
no_handles (None ∷ vs) = no_handles vs
no_handles (Some (a_number x) ∷ vs) = no_handles vs
no_handles (Some (a_vector xs) ∷ vs) = no_handles vs

-- ---- the members up to the last that is given

kept-cons : (v x : Option Member) (ys : List (Option Member)) → kept v (ys ++ x ∷ []) ≡ v ∷ (ys ++ x ∷ [])
kept-cons None x [] = refl
kept-cons None x (y ∷ ys) = refl
kept-cons (Some n) x ys = refl

pub given-some : (xs : List (Option Member)) (n : Member) → given (xs ++ Some n ∷ []) ≡ xs ++ Some n ∷ []
given-some [] n = refl
given-some (v ∷ vs) n = ap (kept v) (given-some vs n) ∙ kept-cons v (Some n) vs

pub given-none : (xs : List (Option Member)) → given (xs ++ None ∷ []) ≡ given xs
given-none [] = refl
given-none (v ∷ vs) = ap (kept v) (given-none vs)

-- ---- fields

-- what is left has room for its first
pub room_first : {X Y : Type 0} → (all : List X → List Y) (each : X → List Y) → ((x : X) (xs : List X) → all (x ∷ xs) ≡ each x ++ all xs) → (front total : List Y) (xs : List X) (i most : ℕ) (d : X) →
    i < length xs → front ++ all (drop i xs) ≡ total → length total ≤ most → length front + length (each (get_or xs i d)) ≤ most
room_first all each step front total xs i most d below h fits =
    let cons : drop i xs ≡ get_or xs i d ∷ drop (i + 1) xs = rw (add-one, drop-cons xs i d below) refl in
    let split : all (drop i xs) ≡ each (get_or xs i d) ++ all (drop (i + 1) xs) = ap all cons ∙ step (get_or xs i d) (drop (i + 1) xs) in
    let size = ap length h in
    omega (arith, size, ap length split, length-append front (all (drop i xs)), length-append (each (get_or xs i d)) (all (drop (i + 1) xs)))

-- four zeros
pub four_zeros : number_bytes 4 0 ≡ replicate 4 0
unfolding number_bytes
four_zeros = refl

-- ---- how many bytes a field has

pub size_at : (f g : Field) (n : ℕ) → f ≡ g → part_size g ≡ n → n ≡ part_size f
size_at f g n is size = sym (ap part_size is ∙ size)

pub word_size : (x : ℕ) → part_size (Word x) ≡ 4
word_size x = omega (arith, length-number 4 x)

pub long_size : (x : ℕ) → part_size (Long x) ≡ 8
long_size x = omega (arith, length-number 8 x)

pub held_size : (h : Handle) → part_size (Held h) ≡ 4
held_size h = omega (arith, length-number 4 present_word)

pub absent_size : part_size Absent ≡ 4
absent_size = omega (arith, length-number 4 0)

pub list_size : (xs : List ℕ) → length (count_bytes (length xs)) + length (padded_bytes xs) ≡ 16 + length xs + padding_after (length xs)
list_size xs = omega (arith, length-count (length xs), length-padded xs)

pub table_size : (vs : List (Option Member)) → length (table_part vs).inline + length (table_part vs).outside ≡ 16 + slots_of (given vs)
table_size vs = omega (arith, length-count (length (given vs)), length-table vs)

-- what a checked subtraction leaves
pub left_of : (o : Option ℕ) (room n size : ℕ) → n ≡ size → SomeIff o (n ≤ room) (room - n) → MatchOption o (room < size) (λ left. left + size ≡ room)
left_of None room n size same h = elim (cases_lt room n) [ inl below ↦ omega arith | inr above ↦ absurd (h above) ]
left_of (Some left) room n size same h = omega (arith, h.0, h.1)

-- ---- one member more

is_given : (v : Option Member) → is_some v ≡ true → (x : Member) × (v ≡ Some x)
is_given None h = absurd (cc)
is_given (Some x) h = (x, refl)

is_none : (v : Option Member) → is_some v ≡ false → v ≡ None
is_none None h = refl
is_none (Some x) h = absurd (cc)

told-take : (i : ℕ) (ms : List (Option MemberNow)) → all_told (take i ms) ≡ take i (all_told ms)
told-take zero ms = refl
told-take (suc i) [] = refl
told-take (suc i) (m ∷ ms) = ap (λ (vs : List (Option Member)). option_map told m ∷ vs) (told-take i ms)

pub told-at : (ms : List (Option MemberNow)) (i : ℕ) → get_or (all_told ms) i None ≡ option_map told (get_or ms i None)
told-at [] i = refl
told-at (m ∷ ms) zero = refl
told-at (m ∷ ms) (suc i) = told-at ms i

pub told-length : (ms : List (Option MemberNow)) → length (all_told ms) ≡ length ms
told-length [] = refl
told-length (m ∷ ms) = ap suc (told-length ms)

pub told-drop : (ms : List (Option MemberNow)) (i : ℕ) → all_told (drop i ms) ≡ drop i (all_told ms)
told-drop ms zero = refl
told-drop [] (suc i) = refl
told-drop (m ∷ ms) (suc i) = told-drop ms i

is_some-told : (v : Option MemberNow) (b : Bool) → is_some v ≡ b → is_some (option_map told v) ≡ b
is_some-told None b h = h
is_some-told (Some x) b h = h

given_told : (ms : List (Option Member)) (i : ℕ) → i < length ms → is_some (get_or ms i None) ≡ true → take (i + 1) ms ≡ given (take (i + 1) ms)
given_told ms i below h =
    let more = take_more ms i None below in
    let some = is_given (get_or ms i None) h in
    let here : take (i + 1) ms ≡ take i ms ++ Some some.0 ∷ [] = more ∙ ap (λ (v : Option Member). take i ms ++ v ∷ []) some.1 in
    here ∙ sym (given-some (take i ms) some.0) ∙ sym (ap given here)

none_told : (ms front : List (Option Member)) (i : ℕ) → i < length ms → is_some (get_or ms i None) ≡ false → front ≡ given (take i ms) → front ≡ given (take (i + 1) ms)
none_told ms front i below h is =
    let more = take_more ms i None below in
    let here : take (i + 1) ms ≡ take i ms ++ None ∷ [] = more ∙ ap (λ (v : Option Member). take i ms ++ v ∷ []) (is_none (get_or ms i None) h) in
    is ∙ sym (given-none (take i ms)) ∙ sym (ap given here)

pub given_at : (ms : List (Option MemberNow)) (i : ℕ) → i < length ms → is_some (get_or ms i None) ≡ true → all_told (take (i + 1) ms) ≡ given (all_told (take (i + 1) ms))
given_at ms i below h =
    let all = all_told ms in
    let there : is_some (get_or all i None) ≡ true = ap is_some (told-at ms i) ∙ is_some-told (get_or ms i None) true h in
    told-take (i + 1) ms ∙ given_told all i (omega (arith, told-length ms)) there ∙ ap given (sym (told-take (i + 1) ms))

pub given_before : (ms : List (Option MemberNow)) (i count : ℕ) → i < length ms → is_some (get_or ms i None) ≡ false → all_told (take count ms) ≡ given (all_told (take i ms)) →
    all_told (take count ms) ≡ given (all_told (take (i + 1) ms))
given_before ms i count below h front =
    let all = all_told ms in
    let there : is_some (get_or all i None) ≡ false = ap is_some (told-at ms i) ∙ is_some-told (get_or ms i None) false h in
    none_told all (all_told (take count ms)) i (omega (arith, told-length ms)) there (front ∙ ap given (told-take i ms)) ∙ ap given (sym (told-take (i + 1) ms))

-- a field that isn't a handle has none
pub not_held : (f : Field) → ((h : Handle) → f ≡ Held h → ⊥) → (part_of f).handles ≡ []
not_held (Word x) no_handle = refl
not_held (Long x) no_handle = refl
not_held Blank no_handle = refl
not_held (Held h) no_handle = absurd (no_handle h refl)
not_held Absent no_handle = refl
not_held (Bytes xs) no_handle = refl
not_held (Table vs) no_handle = no_handles (given (all_told vs.now))

-- ---- an object

pub length-object : (fs : List Field) → length (object_bytes (parts_of fs)) ≡ padded (length (parts_of fs).inline) + length (parts_of fs).outside
length-object fs = omega (arith, length-append (padded_bytes (parts_of fs).inline) (parts_of fs).outside, length-padded (parts_of fs).inline)

pub padded-least : (n : ℕ) → n ≤ padded n
padded-least n = omega arith

pub padded_none : (n : ℕ) → n % 8 ≡ 0 → padded n ≡ n
unfolding padding_after
padded_none n h = omega arith

-- an object's parts, one behind another
pub object_is : (a inline outside w x y z : List ℕ) → length a % 8 ≡ 0 → w ≡ a ++ inline → x ≡ padded_bytes w → y ≡ x ++ outside → z ≡ y → z ≡ a ++ (padded_bytes inline ++ outside)
object_is a inline outside w x y z aligned hw hx hy hz =
    hz ∙ hy ∙ ap (λ (v : List ℕ). v ++ outside) (hx ∙ ap padded_bytes hw ∙ padded_behind a inline aligned) ∙ append_assoc a (padded_bytes inline) outside

pub table_slots : (f : Field) (vs : Bor (List (Option MemberNow))) → f ≡ Table vs → 16 + slots_of (given (all_told vs.now)) ≡ part_size f
table_slots f vs is = omega (arith, ap part_size is, table_size (all_told vs.now))

pub list_bytes : (f : Field) (xs : Bor (List ℕ)) (padding : ℕ) → f ≡ Bytes xs → padding ≡ padding_after (length xs.now) → 16 + length xs.now + padding ≡ part_size f
list_bytes f xs padding is size = omega (arith, ap part_size is, list_size xs.now, size)

-- ---- a message

aligned_list : (xs : List ℕ) → length (padded_bytes xs) % 8 ≡ 0
unfolding padding_after
aligned_list xs = omega (arith, length-padded xs)

aligned_out : (f : Field) → length (part_of f).outside % 8 ≡ 0
aligned_out (Word x) = refl
aligned_out (Long x) = refl
aligned_out Blank = refl
aligned_out (Held h) = refl
aligned_out Absent = refl
aligned_out (Bytes xs) = aligned_list xs.now
aligned_out (Table vs) = omega (arith, length-table (all_told vs.now), slots-aligned (given (all_told vs.now)))

pub aligned_outside : (fs : List Field) → length (parts_of fs).outside % 8 ≡ 0
aligned_outside [] = refl
aligned_outside (f ∷ fs) = omega (arith, length-append (part_of f).outside (parts_of fs).outside, aligned_out f, aligned_outside fs)

pub length-header : (h : Header) → length (header_bytes h) ≡ 16
length-header h = length-three (number_bytes 4 h.txid) (0x02 ∷ 0 ∷ flags_of h.flexible ∷ 1 ∷ []) (number_bytes 8 h.ordinal) (length-number 4 h.txid) refl (length-number 8 h.ordinal)
  where
    length-three : (a b c : List ℕ) → length a ≡ 4 → length b ≡ 4 → length c ≡ 8 → length (a ++ b ++ c) ≡ 16
    length-three a b c ha hb hc = omega (arith, length-append (a ++ b) c, length-append a b)

-- with its header
pub length-message : (h : Header) (fs : List Field) → length (header_bytes h ++ object_bytes (parts_of fs)) ≡ 16 + length (object_bytes (parts_of fs))
length-message h fs = omega (arith, length-append (header_bytes h) (object_bytes (parts_of fs)), length-header h)

pub message_fits : (fs : List Field) → 16 + parts_size fs ≤ 65536 → 16 + length (object_bytes (parts_of fs)) ≤ 65536
unfolding padding_after
message_fits fs h = omega (arith, length-object fs, aligned_outside fs)

pub message_long : (fs : List Field) → 65536 < 16 + parts_size fs → 65536 < 16 + length (object_bytes (parts_of fs))
message_long fs h = omega (arith, length-object fs, padded-least (length (parts_of fs).inline))

pub behind_nothing : {A : Type 0} → (old xs ys new mid : List A) → old ≡ [] → mid ≡ old ++ xs → new ≡ mid ++ ys → new ≡ xs ++ ys
behind_nothing {A} old xs ys new mid none h k = k ∙ ap (λ (v : List A). v ++ ys) (h ∙ ap (λ (v : List A). v ++ xs) none)

length-kept : (v : Option Member) (vs : List (Option Member)) → length (kept v vs) ≤ 1 + length vs
length-kept None [] = omega arith
length-kept None (w ∷ ws) = omega arith
length-kept (Some x) vs = omega arith

pub length-given : (vs : List (Option Member)) → length (given vs) ≤ length vs
length-given [] = omega arith
length-given (v ∷ vs) = omega (arith, length-kept v (given vs), length-given vs)

-- ---- what members hold

held-aligned : (v : Option Member) → length (member_part v).outside % 8 ≡ 0
held-aligned None = refl
held-aligned (Some (a_number x)) = omega (arith, length-number 8 x)
held-aligned (Some (a_vector xs)) = omega (arith, length-list xs, padded-mod (length xs))

pub members-aligned : (vs : List (Option Member)) → length (members_part vs).outside % 8 ≡ 0
members-aligned [] = refl
members-aligned (v ∷ vs) = omega (arith, length-append (member_part v).outside (members_part vs).outside, held-aligned v, members-aligned vs)

held-within : (vs : List (Option Member)) (i : ℕ) → i < length vs → length (member_part (get_or vs i None)).outside ≤ length (members_part vs).outside
held-within [] i below = absurd (omega arith)
held-within (v ∷ vs) zero below = omega (arith, length-append (member_part v).outside (members_part vs).outside)
held-within (v ∷ vs) (suc i) below = omega (arith, length-append (member_part v).outside (members_part vs).outside, held-within vs i (omega arith))

pub told-within : (ms : List (Option MemberNow)) (i most : ℕ) → i < length ms → length (members_part (all_told ms)).outside ≤ most → length (member_part (option_map told (get_or ms i None))).outside ≤ most
told-within ms i most below few =
    omega (arith, ap (λ (v : Option Member). length (member_part v).outside) (told-at ms i), held-within (all_told ms) i (omega (arith, told-length ms)))

pub two_zeros : number_bytes 2 0 ++ number_bytes 2 0 ≡ number_bytes 4 0
unfolding number_bytes
two_zeros = refl

-- the envelope of a list of bytes is two numbers
pub list_envelope : (n : ℕ) → number_bytes 4 n ++ number_bytes 4 0 ≡ envelope_bytes n 0 0
list_envelope n = ap (λ (xs : List ℕ). number_bytes 4 n ++ xs) (sym two_zeros) ∙ sym (append_assoc (number_bytes 4 n) (number_bytes 2 0) (number_bytes 2 0))

-- what an envelope counts of a list is within the message
pub list_counted : (xs : List ℕ) (most : ℕ) → length (member_part (Some (a_vector xs))).outside ≤ most → 16 + padded (length xs) ≤ most
list_counted xs most h = omega (arith, length-list xs)

-- the same room, its size told in another way
pub moved_room : (o : Option ℕ) (room n size : ℕ) → n ≡ size → MatchOption o (room < n) (λ left. left + n ≡ room) → MatchOption o (room < size) (λ left. left + size ≡ room)
moved_room o room n size same h = subst (λ (k : ℕ). MatchOption o (room < k) (λ left. left + k ≡ room)) same h

-- envelopes are a multiple of eight bytes
pub members_eight : (vs : List (Option Member)) → length (members_part vs).inline % 8 ≡ 0
members_eight [] = refl
members_eight (v ∷ vs) = omega (arith, length-append (member_part v).inline (members_part vs).inline, length-slot v, members_eight vs)
