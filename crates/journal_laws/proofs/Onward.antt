-- What goes on behind a mount: it reads as an Open of the names that are left, with the same object.
use Rattle.std.proofs.Common.{◌≡◌, ℕ, zero, suc, ◌+◌, ◌^◌, ◌<◌, ◌≤◌, Bool, true, false, cond, nat_le, get_or, slice_index, List, [], ◌∷◌, ◌++◌, length, drop, map, slice_get, Option, Some, None, Ok, All, refl, sym, ap, ◌∙◌, subst, length-append, drop_at, drop-drop, lit<, lit≤, rules, arith}
use Rattle.std.specs.List.{join_with_byte}
use Rattle.std.specs.Str.{IsUtf8}
use Rattle.std.proofs.lemmas.Bool.{lt-leb, leb-true, leb-false}
use Rattle.std.proofs.lemmas.List.{get_or_at, get_or_past}
use Rattle.std.proofs.lemmas.List.Elements.{All-nil, All-cons, All-head, All-tail, All-drop}
use Rattle.std.proofs.lemmas.Str.{IsUtf8-drop, IsCharBoundary-after_ascii, IsUtf8-from_ascii}
use Rattle.byteorder.specs.Numbers.{little_from-lt}
use Rattle.fidl_names.specs.declared.methods.Handle.{Handle}
use Rattle.fidl_names.specs.declared.methods.Handle.TheVariants.{Endpoint, Token}
use Rattle.fidl_names.specs.declared.methods.Method.{Method}
use Rattle.fidl_names.specs.declared.methods.Method.TheVariants as method
use Rattle.fidl_wire.specs.Grammar.{IsNumber, IsSpelled, Lays, Part, Spells}
use Rattle.fidl_wire.specs.Layout.{Cell, Item, struct, fields, held, num, blank, seq, members, number}
use Rattle.fidl_wire.proofs.Rows.{method_ordinal-injective}
use Rattle.fidl_names.specs.Numbers.{number_at}
use Rattle.io_flags.specs.Grants.{going_on, onward}
use Rattle.io_flags.specs.Words.{flags_of}
use Rattle.io_flags.proofs.SetWords.{word_of-small}
use Rattle.io_messages.specs.declared.protocols.Protocol.{Protocol}
use Rattle.io_messages.specs.declared.protocols.Protocol.TheVariants as protocol
use Rattle.io_messages.specs.Asked as asks
use Rattle.io_messages.specs.Requests.{asked_from, request_cells, item, num_in, num_of, request_of}
use Rattle.io_messages.specs.Writing.{IsRequest}
use Rattle.request_reader.proofs.RequestLaws.{what_is_read, what_is_spelled}
use Rattle.io_rights.specs.Operations.{OperationSet}
use Rattle.path_walk.specs.Names.{slash, dot, IsName}
use Rattle.path_walk.specs.Paths.{IsPath, text_of}
use Rattle.fidl_names.specs.HandleNumber.{handle_with}
use Rattle.conn_rules.specs.Onward.{onward_bytes}
use Rattle.vfs_journal.specs.Serving.{read_by}
use Rattle.journal_laws.proofs.Below.{Below}
use Rattle.journal_laws.proofs.Requests.{same_open}

-- ---- the flags are a number of eight bytes

abbrev pub AreBytes : List ℕ → Type 0
AreBytes bytes = All (λ byte. byte < 256) bytes

All-left : (P : ℕ → Type 0) (xs ys : List ℕ) → All P (xs ++ ys) → All P xs
All-left P [] ys h = All-nil P
All-left P (x ∷ xs) ys h = All-cons P x xs (All-head P x (xs ++ ys) h) (All-left P xs ys (All-tail P x (xs ++ ys) h))

All-right : (P : ℕ → Type 0) (xs ys : List ℕ) → All P (xs ++ ys) → All P ys
All-right P [] ys h = h
All-right P (x ∷ xs) ys h = All-right P xs ys (All-tail P x (xs ++ ys) h)

each_small : (bytes : List ℕ) → AreBytes bytes → (k : ℕ) → slice_index bytes k < 256
each_small bytes h k = by_place (nat_le (length bytes) k) refl where
  by_place : (b : Bool) → nat_le (length bytes) k ≡ b → slice_index bytes k < 256
  by_place true is = let past = get_or_past bytes k 0 (leb-true (length bytes) k is) in omega arith
  by_place false is = h k 0 (leb-false (length bytes) k is)

number_small : (size x : ℕ) (bytes : List ℕ) → AreBytes bytes → IsNumber size x bytes → x < 256 ^ size
unfolding number_at
number_small size x bytes h is =
    subst (λ (n : ℕ). n < 256 ^ size) is.value_is (little_from-lt 0 size bytes (each_small bytes h))

-- a number's cell has a number, spelled by bytes of the object
record HasNumber (size i : ℕ) (items : List Item) (inline : List ℕ) : Type 0 where
  value : ℕ
  here : item i items ≡ num value
  small : AreBytes inline → value < 256 ^ size

held_number : (size : ℕ) (x : Item) (first : Part) → Spells (number size) x first → (n : ℕ) × (x ≡ num n) × IsNumber size n first.inline
held_number size (num n) first h = (n, refl, h.0)
held_number size (held o) first h = absurd h
held_number size blank first h = absurd h
held_number size (seq xs) first h = absurd h
held_number size (members vs) first h = absurd h

number_in : (size i : ℕ) (cells : List Cell) (items : List Item) (part : Part) → Lays cells items part → slice_get cells i ≡ Some (number size) → HasNumber size i items part.inline
number_in size i [] items part h at = absurd (no_cell i at) where
  no_cell : (i : ℕ) → slice_get {X = Cell} [] i ≡ Some (number size) → ⊥
  no_cell zero e = cc
  no_cell (suc i) e = cc
number_in size i (cell ∷ cells) [] part h at = absurd h
number_in size zero (cell ∷ cells) (x ∷ xs) part (first, rest, spells, lays, joined) at =
    let is : cell ≡ number size = cc in
    let one = held_number size x first (subst (λ (c : Cell). Spells c x first) is spells) in
    record {
      value = one.0;
      here = one.1;
      small = λ h. number_small size one.0 first.inline (All-left (λ byte. byte < 256) first.inline rest.inline (subst (λ (p : Part). AreBytes p.inline) joined h)) one.2;
    }
number_in size (suc i) (cell ∷ cells) (x ∷ xs) part (first, rest, spells, lays, joined) at =
    let later = number_in size i cells xs rest lays at in
    record {
      value = later.value;
      here = later.here;
      small = λ h. later.small (All-right (λ byte. byte < 256) first.inline rest.inline (subst (λ (p : Part). AreBytes p.inline) joined h));
    }

number_read : (size i : ℕ) (cells : List Cell) (items : List Item) (bytes : List ℕ) (handles : List Handle) → IsSpelled (struct cells) (fields items) bytes handles →
    slice_get cells i ≡ Some (number size) → AreBytes bytes → num_in i items < 256 ^ size
number_read size i cells items bytes handles spelled at h =
    let one = number_in size i cells items spelled.body.part spelled.body.lays at in
    let body : AreBytes _ = subst AreBytes spelled.body.bytes_are (All-drop (λ byte. byte < 256) 16 bytes h) in
    let inline = All-left (λ byte. byte < 256) spelled.body.part.inline _ (All-left (λ byte. byte < 256) _ spelled.body.part.outside body) in
    subst (λ (n : ℕ). n < 256 ^ size) (sym (ap num_of one.here)) (one.small inline)

pub flags_small : Below → (p : Protocol) (bytes handles : List ℕ) (t : ℕ) (path : List ℕ) (flags : ℕ) (attributes : Option ℕ) (object : ℕ) →
    read_by p bytes handles ≡ Ok (t, asks.open_path path flags attributes object) → AreBytes bytes → flags < 256 ^ 8
flags_small below p bytes handles t path flags attributes object read h =
    let r = (what_is_read below.spelled p bytes (map handle_with handles) t (asks.open_path path flags attributes object) read).is_asked in
    by_method r.method r.items (same_open r.method r.items path flags attributes object r.fields_are) r.spelled r.fields_are where
      by_method : (m : Method) (items : List Item) → m ≡ method.OpenPath → IsSpelled (struct (request_cells m)) (fields items) bytes (map handle_with handles) →
          asked_from m items ≡ asks.open_path path flags attributes object → flags < 256 ^ 8
      by_method m items e spelled from =
          let open_items : asked_from method.OpenPath items ≡ asks.open_path path flags attributes object = ap (λ (k : Method). asked_from k items) (sym e) ∙ from in
          let same : num_in 1 items ≡ flags = cc in
          subst (λ (n : ℕ). n < 256 ^ 8) same
          (number_read 8 1 (request_cells method.OpenPath) items bytes (map handle_with handles) (subst (λ (k : Method). IsSpelled (struct (request_cells k)) (fields items) bytes (map handle_with handles)) e spelled) refl h)

pub onward_small : (word : ℕ) (limit : OperationSet) → word < 256 ^ 8 → onward word limit < 256 ^ 8
unfolding onward
onward_small word limit h = word_of-small (going_on (flags_of word) limit)

-- ---- the names that are left are those of a path

dot_path : IsPath (text_of []) []
unfolding text_of
dot_path = record { spelled = refl; valid = All-nil IsName; short = lit≤ tt; utf8 = IsUtf8-from_ascii dot (search rules) }

behind_slash : (name later : List ℕ) → IsUtf8 (name ++ slash ∷ later) → IsUtf8 later
behind_slash name later h =
    let place = length name in
    let inside : place < length (name ++ slash ∷ later) = omega (arith, length-append name (slash ∷ later)) in
    let byte : get_or (name ++ slash ∷ later) place 0 ≡ slash = get_or_at name slash later 0 place refl in
    let rest : drop (place + 1) (name ++ slash ∷ later) ≡ later =
    sym (drop-drop 1 place (name ++ slash ∷ later)) ∙ ap (drop 1) (drop_at name (slash ∷ later) place refl) in
    subst IsUtf8 rest (IsUtf8-drop (name ++ slash ∷ later) (place + 1) h (IsCharBoundary-after_ascii (name ++ slash ∷ later) place h inside (omega arith)))

next_path : (name : List ℕ) (names : List (List ℕ)) → IsPath (text_of (name ∷ names)) (name ∷ names) → IsPath (text_of names) names
unfolding text_of
next_path name [] h = dot_path
next_path name (next ∷ names) h = record {
  spelled = refl;
  valid = All-tail IsName name (next ∷ names) h.valid;
  short = let whole : length (name ++ slash ∷ join_with_byte slash (next ∷ names)) ≤ 4095 = h.short in omega (arith, length-append name (slash ∷ join_with_byte slash (next ∷ names)));
  utf8 = behind_slash name (join_with_byte slash (next ∷ names)) h.utf8;
}

pub path_left : (front rest : List (List ℕ)) → IsPath (text_of (front ++ rest)) (front ++ rest) → IsPath (text_of rest) rest
path_left [] rest h = h
path_left (name ∷ front) rest h = path_left front rest (next_path name (front ++ rest) h)

-- ---- reading what goes on

path_fits : (rest : List (List ℕ)) → IsPath (text_of rest) rest → length (text_of rest) < 256 ^ 8
path_fits rest h = let short = h.short in omega arith

onward_request : (flags : ℕ) (rest : List (List ℕ)) (object : ℕ) → IsPath (text_of rest) rest → flags < 256 ^ 8 → IsRequest (asks.open_path (text_of rest) flags None object)
onward_request flags rest object h small = record {
  offset = tt;
  fits = ((h.utf8, path_fits rest h), (small, ((lit< tt, tt, refl), (refl, (tt, tt)))));
}

pub onward_reads : Below → (flags : ℕ) (rest : List (List ℕ)) (object : ℕ) → IsPath (text_of rest) rest → flags < 256 ^ 8 → object < 0x80000000 →
    read_by protocol.Directory (onward_bytes flags rest object) (object ∷ []) ≡ Ok (0, asks.open_path (text_of rest) flags None object)
onward_reads below flags rest object h small low =
    let handle_is : handle_with object ≡ Endpoint object = ap (λ (b : Bool). cond b (Token object) (Endpoint object)) (lt-leb 0x80000000 object low) in
    let request = asks.open_path (text_of rest) flags None object in
    ap (λ hs. request_of protocol.Directory (onward_bytes flags rest object) hs) (ap (λ (x : Handle). x ∷ []) handle_is)
    ∙ what_is_spelled below.reads (method_ordinal-injective below.apart) protocol.Directory (onward_bytes flags rest object) (Endpoint object ∷ []) 0 request
    (below.written protocol.Directory 0 request refl (lit< tt) refl (onward_request flags rest object h small))
