use Rattle.std.proofs.Common.{◌≡◌, ℕ, ◌++◌, List, [], ◌∷◌, Option, None, length, lit≤, refl, sym, ap, ◌∙◌, arith}
use Rattle.fidl_names.specs.Numbers.{number_bytes}
use Rattle.fidl_wire.specs.Layout.{Member}
use Rattle.fidl_wire.specs.Spelling.{envelope_bytes, given, members_part}
use Rattle.io_messages.specs.Fields.{tables_object}
use Rattle.io_messages.specs.Members.{numbers}
use Rattle.io_messages.specs.ReplyWriting.{attribute_members}
use Rattle.io_messages.proofs.Lengths.{no_handles}
use Rattle.io_messages.proofs.Unions.{tables_most}
use Rattle.io_messages.proofs.reply_writer.put_attributes.Goals as goal

members_same : (a b c d e u v w x y : Option Member) → a ≡ u → b ≡ v → c ≡ w → d ≡ x → e ≡ y → a ∷ b ∷ c ∷ None ∷ d ∷ e ∷ [] ≡ u ∷ v ∷ w ∷ None ∷ x ∷ y ∷ []
members_same a b c d e u v w x y p q r s t = rw (p, q, r, s, t) refl

pub put_tables-requires-clause-room : goal.put_tables-requires-clause-room
put_tables-requires-clause-room c =
    let same = members_same _ _ _ _ _ _ _ _ _ _ c.number_member.ensures c.number_member-2.ensures c.number_member-3.ensures c.number_member-4.ensures c.number_member-5.ensures in
    omega (arith, ap (λ (ms : List (Option Member)). length (tables_object [] ms)) same, tables_most (attribute_members c.args.a.now) (lit≤ tt))

pub returns-clause-bytes : goal.returns-clause-bytes
returns-clause-bytes c =
    let same = members_same _ _ _ _ _ _ _ _ _ _ c.number_member.ensures c.number_member-2.ensures c.number_member-3.ensures c.number_member-4.ensures c.number_member-5.ensures in
    let ms : List (Option Member) = numbers (attribute_members c.args.a.now) in
    let none : length ((members_part (given ms)).handles ++ []) ≡ 0 = rw (no_handles (given ms)) refl in
    let written : List (Option Member) → ℕ → List ℕ = λ vs k. c.args.out.now.bytes ++ (number_bytes 8 1 ++ envelope_bytes (length (tables_object [] vs)) k 0 ++ tables_object [] vs) in
    c.put_tables.ensures.bytes ∙ ap (λ (vs : List (Option Member)). written vs 0) same ∙ ap (written ms) (sym none)
