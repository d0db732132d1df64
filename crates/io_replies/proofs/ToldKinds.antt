-- What the event's body tells, and that the error of a result has its number.
use Rattle.std.proofs.Common.{◌≡◌, ℕ, ◌+◌, length, nat_lt, IsErr, IsErrAnd, nat_eq, cond, Bool, true, false, List, [], ◌∷◌, map, find, Option, Some, None, Result, Ok, Err, refl, sym, ap, ◌∙◌}
use Rattle.fidl_wire.specs.declared.faults.WireFault.{WireFault}
use Rattle.fidl_wire.specs.declared.faults.WireWhat.TheVariants.{Ordinal}
use Rattle.fidl_wire.specs.Cursor.{Cursor, start, start_of}
use Rattle.fidl_wire.specs.Headers.{fault}
use Rattle.fidl_wire.specs.Layout.{Item, Variant, branch, variant_of}
use Rattle.fidl_wire.specs.Reading.{◌>>=◌, Step, body_of, branch_of, inline_at, inlined_word, known_variant, ordinal_at, variant_items}
use Rattle.fidl_wire.specs.Numbers.{padded}
use Rattle.fidl_wire.specs.declared.reading.Branch.{Branch}
use Rattle.wire_laws.proofs.Leaving.{bind_ok, chosen}
use Rattle.io_messages.specs.declared.protocols.Protocol.{Protocol}
use Rattle.io_messages.specs.Kinds.{branch_of_kind, kind_with, told_kinds}
use Rattle.io_messages.specs.Replies.{an_empty_table, event_layout}
use Rattle.io_replies.specs.Reading.{kind_in, told_kind}

abbrev branches : List Protocol → List (ℕ × Variant)
branches kinds = map (λ kind. (branch_of_kind kind, an_empty_table)) kinds

abbrev told_variant : Option Protocol → Option Variant
told_variant None = None
told_variant (Some kind) = Some an_empty_table

-- there is a branch where there is a kind
among_kinds : (kinds : List Protocol) (n : ℕ) → variant_of (branches kinds) n ≡ told_variant (find (λ kind. nat_eq (branch_of_kind kind) n) kinds)
among_kinds [] n = refl
among_kinds (kind ∷ kinds) n = by_test kind (nat_eq (branch_of_kind kind) n) (variant_of (branches kinds) n) (find (λ k. nat_eq (branch_of_kind k) n) kinds) (among_kinds kinds n)
  where
    by_test : (kind : Protocol) (b : Bool) (v : Option Variant) (o : Option Protocol) → v ≡ told_variant o → cond b (Some an_empty_table) v ≡ told_variant (cond b (Some kind) o)
    by_test kind true v o h = refl
    by_test kind false v o h = h

variant_is : (n : ℕ) (o : Option Protocol) → kind_with n ≡ o → variant_of (branches told_kinds) n ≡ told_variant o
unfolding kind_with
variant_is n o is = among_kinds told_kinds n ∙ ap told_variant is

-- what is told behind the ordinal
abbrev pub by_kind : Cursor → Option Protocol → Result Protocol WireFault
by_kind c None = Err (fault c.place Ordinal)
by_kind c (Some kind) = variant_items an_empty_table c >>= λ xs. Ok kind

of_kind : (n : ℕ) (kind : Protocol) (r : Result (List Item) WireFault) → kind_with n ≡ Some kind → kind_in (r >>= λ xs. Ok (branch n xs)) ≡ (r >>= λ xs. Ok kind)
of_kind n kind (Ok xs) is = ap told_kind is
of_kind n kind (Err e) is = refl

behind_ordinal : (c : Cursor) (n : ℕ) (o : Option Protocol) → kind_with n ≡ o → kind_in (known_variant (variant_of (branches told_kinds) n) c >>= λ xs. Ok (branch n xs)) ≡ by_kind c o
behind_ordinal c n None is = ap (λ (v : Option Variant). kind_in (known_variant v c >>= λ xs. Ok (branch n xs))) (variant_is n None is)
behind_ordinal c n (Some kind) is =
    ap (λ (v : Option Variant). kind_in (known_variant v c >>= λ xs. Ok (branch n xs))) (variant_is n (Some kind) is)
    ∙ of_kind n kind (variant_items an_empty_table c) is

pub kind_read : (bytes : List ℕ) (c : Cursor) (n : ℕ) (o : Option Protocol) → Ok c ≡ start_of bytes [] 16 → Ok n ≡ ordinal_at c → o ≡ kind_with n → by_kind c o ≡ kind_in (body_of event_layout bytes [])
kind_read bytes c n o start at is =
    sym (behind_ordinal c n o (sym is))
    ∙ ap (λ (r : Result ℕ WireFault). kind_in (r >>= λ ordinal. known_variant (variant_of (branches told_kinds) ordinal) c >>= λ xs. Ok (branch ordinal xs))) at
    ∙ ap (λ (r : Result Cursor WireFault). kind_in (r >>= λ c'. ordinal_at c' >>= λ ordinal. known_variant (variant_of (branches told_kinds) ordinal) c' >>= λ xs. Ok (branch ordinal xs))) start

pub start_place : (bytes : List ℕ) (c : Cursor) → Ok c ≡ start_of bytes [] 16 → c.place ≡ 16
start_place bytes c h = ap (λ (v : Cursor). v.place) (sym (chosen (nat_lt (length bytes) (16 + padded 16)) _ (start bytes [] 16) c (sym h)))

-- a fault that is passed on
pub passed_on : (r : Result Protocol WireFault) (e : WireFault) → IsErr r × IsErrAnd r (λ f. f ≡ e) → r ≡ Err e
passed_on (Ok x) e h = absurd (cc h.0)
passed_on (Err f) e h = ap (λ (v : WireFault). Err v) h.1

-- ---- the error of a result

inlined_in : Step Branch → Option ℕ
inlined_in (Ok b) = b.0.inlined
inlined_in (Err e) = None

-- a branch of four bytes stands in its envelope
pub branch_word : (c d : Cursor) (b : Branch) → branch_of 4 c ≡ Ok (b, d) → b.inlined ≡ None → ⊥
unfolding branch_of inlined_in
branch_word c d b h none =
    let at = bind_ok (inline_at 16 c) _ (b, d) h in
    let value = bind_ok (inlined_word 4 (at.0 + 8) c) _ (b, d) at.2 in
    let some : Some value.0 ≡ b.inlined = ap inlined_in value.2 in
    let wrong : Some value.0 ≡ None = some ∙ none in
    cc
