-- What the reading of an object or of a result shows of the message.
use Rattle.std.proofs.Common.{◌≡◌, ℕ, ◌+◌, ◌≤◌, true, false, nat_le, nat_lt, List, [], ◌∷◌, Option, length, Result, Ok, sym, ap, ◌∙◌, subst, arith}
use Rattle.std.proofs.lemmas.Bool.Decides.{nat_tests}
use Rattle.fidl_names.specs.declared.methods.Handle.{Handle}
use Rattle.fidl_wire.specs.Cursor.{Cursor, start_of, start}
use Rattle.fidl_wire.specs.Layout.{Cell, Item, Content, Variant, struct, fields, branch, word, sizes_of, variant_of}
use Rattle.fidl_wire.specs.Numbers.{padded}
use Rattle.fidl_wire.specs.Reading.{◌>>=◌, Step, known_variant, ordinal_at, body_of, object_items, cells_at, finish_of, closed, all_blank}
use Rattle.fidl_wire.specs.declared.faults.WireFault.{WireFault}
use Rattle.io_messages.specs.Replies.{result_of}
use Rattle.wire_laws.proofs.Leaving.{bind_ok, check_bind, chosen, fits_if}

-- the primary object lies within the message
pub record Begins (m : List ℕ) (hs : List Handle) (size : ℕ) (c : Cursor) : Type 0 where
  pub long : 16 + padded size ≤ length m
  pub cursor_is : start m hs size ≡ c

pub begins : (m : List ℕ) (hs : List Handle) (size : ℕ) (c : Cursor) → start_of m hs size ≡ Ok c → Begins m hs size c
begins m hs size c h =
    let b : nat_lt (length m) (16 + padded size) ≡ false = fits_if _ _ (start m hs size) c h in
    record { long = grind (arith, nat_tests); cursor_is = chosen (nat_lt (length m) (16 + padded size)) _ (start m hs size) c h }

-- nothing is left over
finish_short : (c : Cursor) (u : Unit {0}) → finish_of c ≡ Ok u → length c.message ≤ c.out
unfolding finish_of
finish_short c u h =
    let whole = bind_ok (closed c.opened c) _ u h in
    let blank = bind_ok (all_blank c.message c.end (padded c.end)) _ u whole.2 in
    let short = check_bind (nat_le (length c.message) c.out) _ _ u blank.2 in
    below (length c.message) c.out short.0
  where
    below : (a b : ℕ) → nat_le a b ≡ true → a ≤ b
    below a b h = grind (arith, nat_tests)

-- the cells were read, and the message ends there
pub record ReadsObject (cells : List Cell) (m : List ℕ) (hs : List Handle) (content : Content) : Type 0 where
  pub long : 16 + padded (sizes_of cells) ≤ length m
  pub items : List Item
  pub end : Cursor
  pub cells_are : cells_at cells (start m hs (sizes_of cells)) ≡ Ok (items, end)
  pub short : length end.message ≤ end.out
  pub content_is : fields items ≡ content

pub object_read : (cells : List Cell) (m : List ℕ) (hs : List Handle) (content : Content) → body_of (struct cells) m hs ≡ Ok content → ReadsObject cells m hs content
object_read cells m hs content h =
    let begin = bind_ok (start_of m hs (sizes_of cells)) _ content h in
    let from = begins m hs (sizes_of cells) begin.0 begin.1 in
    let read = bind_ok (object_items cells begin.0) _ content begin.2 in
    let all = bind_ok (cells_at cells begin.0) _ read.0 read.1 in
    let ended = bind_ok (finish_of all.0.1) _ read.0 all.2 in
    let same : all.0.0 ≡ read.0 = cc ended.2 in
    record {
      long = from.long;
      items = all.0.0;
      end = all.0.1;
      cells_are = ap (cells_at cells) from.cursor_is ∙ all.1;
      short = finish_short all.0.1 ended.0 ended.1;
      content_is = ap fields same ∙ cc read.2;
    }

abbrev pub gives : List Item → Cursor → Step (List Item)
gives xs c = Ok (xs, c)

pub same_items : (xs ys : List Item) (c d : Cursor) → gives xs c ≡ gives ys d → xs ≡ ys
same_items xs ys c d h = let same : (let r : List Item × Cursor = (xs, c) in r) ≡ (ys, d) = cc in ap (λ (v : List Item × Cursor). v.0) same

pub same_end : (xs ys : List Item) (c d : Cursor) → gives xs c ≡ gives ys d → c ≡ d
same_end xs ys c d h = let same : (let r : List Item × Cursor = (xs, c) in r) ≡ (ys, d) = cc in ap (λ (v : List Item × Cursor). v.1) same

-- ---- results

abbrev pub variants : Variant → ℕ → Option Variant
variants v n = variant_of ((1, v) ∷ (2, word) ∷ []) n

abbrev pub result_from : Variant → Result ℕ WireFault → Cursor → Result Content WireFault
result_from v r c = r >>= λ ordinal. known_variant (variants v ordinal) c >>= λ xs. Ok (branch ordinal xs)

-- a result is read where the primary object begins
pub result_read : (v : Variant) (m : List ℕ) (hs : List Handle) (content : Content) → body_of (result_of v) m hs ≡ Ok content → result_from v (ordinal_at (start m hs 16)) (start m hs 16) ≡ Ok content
result_read v m hs content h =
    let begin = bind_ok (start_of m hs 16) _ content h in
    let from = begins m hs 16 begin.0 begin.1 in
    begun (start m hs 16) begin.0 from.cursor_is begin.2
  where
    begun : (c d : Cursor) → c ≡ d → result_from v (ordinal_at d) d ≡ Ok content → result_from v (ordinal_at c) c ≡ Ok content
    begun c d same read = subst (λ (e : Cursor). result_from v (ordinal_at e) e ≡ Ok content) (sym same) read
