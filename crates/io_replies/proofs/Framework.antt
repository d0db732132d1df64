-- No method's reply is the framework's error.
use Rattle.std.proofs.Common.{◌≡◌, ℕ, ◌≤◌, ◌&&◌, Bool, true, false, nat_eq, List, [], ◌∷◌, length, Option, Result, Ok, Err, refl, sym, ap, ◌∙◌, subst, arith}
use Rattle.std.proofs.lemmas.Bool.Decides.{nat_tests}
use Rattle.fidl_names.specs.declared.methods.Handle.{Handle}
use Rattle.fidl_wire.specs.declared.faults.WireFault.{WireFault}
use Rattle.fidl_wire.specs.declared.kinds.HandleKind.{HandleKind}
use Rattle.fidl_wire.specs.declared.kinds.HandleKind.TheVariants.{AToken}
use Rattle.fidl_wire.specs.Cursor.{Cursor, start}
use Rattle.fidl_wire.specs.Layout.{Item, Content, Variant, struct, fields, number, handle, text, vector, num, held, empty, object}
use Rattle.fidl_names.specs.Numbers.{number_at}
use Rattle.fidl_wire.specs.Numbers.{padding_after}
use Rattle.fidl_wire.specs.Reading.{body_of, cells_at, cell_at, list_cell, count_at, passed, ordinal_at, present_list, handle_cell}
use Rattle.io_messages.specs.declared.replies.Shape.{Shape}
use Rattle.io_messages.specs.declared.replies.Shape.TheVariants as shape
use Rattle.io_messages.specs.Replies.{reply_layout, result_of, listing_cells, token_cells, attribute_cells, framework_cells, framework_ordinal, framework_envelope}
use Rattle.io_replies.specs.Reading.{are_framework_words, is_framework_error}
use Rattle.io_messages.specs.Requests.{items_in, num_in}
use Rattle.io_replies.proofs.ReadObjects.{object_read, result_from, result_read, same_items, same_end}
use Rattle.wire_laws.proofs.Leaving.{bind_ok, check_bind, Keeps, handle_keeps}

-- ---- each shape of reply

-- the framework's error has 32 bytes, with two numbers behind the header
record AreTwoWords (m : List ℕ) (content : Content) : Type 0 where
  pub first : num_in 0 (items_in content) ≡ number_at 8 16 m
  pub second : num_in 1 (items_in content) ≡ number_at 8 24 m
  pub long : 32 ≤ length m
  pub short : length m ≤ 32

two_words : (m : List ℕ) (hs : List Handle) (content : Content) → body_of (struct framework_cells) m hs ≡ Ok content → AreTwoWords m content
unfolding cell_at padding_after
two_words m hs content h =
    let r = object_read framework_cells m hs content h in
    let words : List Item = num (number_at 8 16 m) ∷ num (number_at 8 24 m) ∷ [] in
    let end : Cursor = passed 8 (passed 8 (start m hs 16)) in
    let items = same_items words r.items end r.end r.cells_are in
    let ends = same_end words r.items end r.end r.cells_are in
    let is : fields words ≡ content = ap fields items ∙ r.content_is in
    record {
      first = ap (λ (c : Content). num_in 0 (items_in c)) (sym is);
      second = ap (λ (c : Content). num_in 1 (items_in c)) (sym is);
      long = r.long;
      short = subst (λ (c : Cursor). length c.message ≤ c.out) (sym ends) r.short;
    }

-- a result's ordinal is 1 or 2
result_ordinal : (v : Variant) (m : List ℕ) (hs : List Handle) (content : Content) → body_of (result_of v) m hs ≡ Ok content → number_at 8 16 m ≡ framework_ordinal → ⊥
unfolding ordinal_at
result_ordinal v m hs content h is = none _ content (third (number_at 8 16 m) is (result_read v m hs content h))
  where
    third : (n : ℕ) → n ≡ framework_ordinal → result_from v (Ok n) (start m hs 16) ≡ Ok content → result_from v (Ok framework_ordinal) (start m hs 16) ≡ Ok content
    third n is read = subst (λ (k : ℕ). result_from v (Ok k) (start m hs 16) ≡ Ok content) is read

    none : (e : WireFault) (c : Content) → (let r : Result Content WireFault = Err e in r) ≡ Ok c → ⊥
    none e c h = cc

-- behind the count of a list that is present stand ones
list_marked : (is_text : Bool) (m : List ℕ) (hs : List Handle) (y : List ℕ × Cursor) → list_cell is_text (start m hs 16) ≡ Ok y → number_at 8 24 m ≡ present_list
list_marked is_text m hs y h =
    let count = bind_ok (count_at 16 (start m hs 16)) _ y h in
    let mark = check_bind (nat_eq (number_at 8 24 m) present_list) _ _ count.0 count.1 in
    same (number_at 8 24 m) present_list mark.0
  where
    same : (a b : ℕ) → nat_eq a b ≡ true → a ≡ b
    same a b h = grind (arith, nat_tests)

vector_marked : (m : List ℕ) (hs : List Handle) (content : Content) → body_of (struct (vector ∷ [])) m hs ≡ Ok content → number_at 8 24 m ≡ present_list
unfolding cell_at
vector_marked m hs content h =
    let r = object_read (vector ∷ []) m hs content h in
    let cell = bind_ok (cell_at vector (start m hs 16)) _ (r.items, r.end) r.cells_are in
    let list = bind_ok (list_cell false (start m hs 16)) _ cell.0 cell.1 in
    list_marked false m hs list.0 list.1

text_marked : (m : List ℕ) (hs : List Handle) (content : Content) → body_of (struct (text ∷ [])) m hs ≡ Ok content → number_at 8 24 m ≡ present_list
unfolding cell_at
text_marked m hs content h =
    let r = object_read (text ∷ []) m hs content h in
    let cell = bind_ok (cell_at text (start m hs 16)) _ (r.items, r.end) r.cells_are in
    let list = bind_ok (list_cell true (start m hs 16)) _ cell.0 cell.1 in
    list_marked true m hs list.0 list.1

listing_long : (m : List ℕ) (hs : List Handle) (content : Content) → body_of (struct listing_cells) m hs ≡ Ok content → 40 ≤ length m
unfolding padding_after
listing_long m hs content h = (object_read listing_cells m hs content h).long

settled_short : (m : List ℕ) (hs : List Handle) (content : Content) → body_of (struct (number 4 ∷ [])) m hs ≡ Ok content → length m ≤ 24
unfolding cell_at padding_after
settled_short m hs content h =
    let r = object_read (number 4 ∷ []) m hs content h in
    let ends = same_end (num (number_at 4 16 m) ∷ []) r.items (passed 4 (start m hs 4)) r.end r.cells_are in
    subst (λ (c : Cursor). length c.message ≤ c.out) (sym ends) r.short

-- what a handle's cell has is a handle, or none
handle_held : (kind : HandleKind) (nullable : Bool) (c : Cursor) (y : Item × Cursor) → cell_at (handle kind nullable) c ≡ Ok y → (x : Option Handle) × (y.0 ≡ held x)
unfolding cell_at
handle_held kind nullable c y h =
    let cell = bind_ok (handle_cell kind nullable c) _ y h in
    let got : Item × Cursor = (held cell.0.0, cell.0.1) in
    let same : got ≡ y = cc cell.2 in
    (cell.0.0, sym (ap (λ (v : Item × Cursor). v.0) same))

token_short : (m : List ℕ) (hs : List Handle) (content : Content) → body_of (struct token_cells) m hs ≡ Ok content → length m ≤ 24
unfolding cell_at padding_after
token_short m hs content h =
    let r = object_read token_cells m hs content h in
    let c : Cursor = passed 4 (start m hs 8) in
    let outer = bind_ok (cells_at (handle AToken true ∷ []) (passed 4 (start m hs 8))) _ (r.items, r.end) r.cells_are in
    let inner = bind_ok (cell_at (handle AToken true) (passed 4 (start m hs 8))) _ outer.0 outer.1 in
    let keeps = cell_keeps (passed 4 (start m hs 8)) inner.0 inner.1 in
    let first = same_end (inner.0.0 ∷ []) outer.0.0 inner.0.1 outer.0.1 inner.2 in
    let ends = same_end (num (number_at 4 16 m) ∷ outer.0.0) r.items outer.0.1 r.end outer.2 in
    let short = subst (λ (c : Cursor). length c.message ≤ c.out) (sym (first ∙ ends)) r.short in
    omega (arith, short, ap length keeps.message, keeps.out)
  where
    cell_keeps : (c : Cursor) (y : Item × Cursor) → cell_at (handle AToken true) c ≡ Ok y → Keeps c y.1
    cell_keeps c y h =
        let x = handle_held AToken true c y h in
        let pair : (let r : Item × Cursor = y in r) ≡ (held x.0, y.1) = ap (λ (i : Item). (i, y.1)) x.1 in
        handle_keeps AToken true c y.1 x.0 (h ∙ ap (λ (v : Item × Cursor). Ok v) pair)

-- no shape has such a body
clash : (s : Shape) (m : List ℕ) (hs : List Handle) (content : Content) → body_of (reply_layout s) m hs ≡ Ok content → number_at 8 16 m ≡ framework_ordinal → number_at 8 24 m ≡ framework_envelope →
    32 ≤ length m → length m ≤ 32 → ⊥
clash shape.Done m hs content h first second long short = result_ordinal empty m hs content h first
clash shape.Number m hs content h first second long short = result_ordinal (object (number 8 ∷ [])) m hs content h first
clash shape.Bytes m hs content h first second long short = result_ordinal (object (vector ∷ [])) m hs content h first
clash shape.Attributes m hs content h first second long short = result_ordinal (object attribute_cells) m hs content h first
clash shape.Vector m hs content h first second long short = omega (arith, vector_marked m hs content h, second)
clash shape.Text m hs content h first second long short = omega (arith, text_marked m hs content h, second)
clash shape.Listing m hs content h first second long short = omega (arith, listing_long m hs content h, short)
clash shape.Settled m hs content h first second long short = omega (arith, settled_short m hs content h, long)
clash shape.Token m hs content h first second long short = omega (arith, token_short m hs content h, long)

both_false : (a b x y : ℕ) → (a ≡ x → b ≡ y → ⊥) → (nat_eq a x && nat_eq b y) ≡ false
both_false a b x y differ = tests (nat_eq a x) (nat_eq b y) refl refl
  where
    same : (a b : ℕ) → nat_eq a b ≡ true → a ≡ b
    same a b h = grind (arith, nat_tests)

    tests : (p q : Bool) → nat_eq a x ≡ p → nat_eq b y ≡ q → (p && q) ≡ false
    tests true true h k = absurd (differ (same a x h) (same b y k))
    tests true false h k = refl
    tests false q h k = refl

-- what is read as a method's reply is no framework's error
pub no_framework_error : (s : Shape) (m : List ℕ) (hs : List Handle) (content : Content) → body_of (reply_layout s) m hs ≡ Ok content → is_framework_error m hs ≡ false
unfolding is_framework_error
no_framework_error s m hs content h = words (body_of (struct framework_cells) m hs) refl
  where
    words : (r : Result Content WireFault) → body_of (struct framework_cells) m hs ≡ r → are_framework_words r ≡ false
    words (Err e) k = refl
    words (Ok d) k =
        let two = two_words m hs d k in
        both_false (num_in 0 (items_in d)) (num_in 1 (items_in d)) framework_ordinal framework_envelope
        (λ first second. clash s m hs content h (sym two.first ∙ first) (sym two.second ∙ second) two.long two.short)
