-- What is written for the event is read.
use Rattle.std.proofs.Common.{◌≡◌, ℕ, ◌^◌, ◌<◌, List, [], ◌∷◌, ◌++◌, length, Some, refl, subst, lit<, arith}
use Rattle.fidl_wire.specs.Headers.{header_bytes}
use Rattle.fidl_names.specs.declared.methods.Handle.{Handle}
use Rattle.fidl_wire.specs.Grammar.{IsSpelled, join, nothing}
use Rattle.fidl_wire.specs.Spelling.{FitsBody, FitsVariant, body_bytes, body_handles, object_bytes, table_part, count_bytes}
use Rattle.wire_laws.specs.Laws.{HeadersAreRead, SpellingIsSpelled}
use Rattle.fidl_wire.specs.Layout.{branch, members}
use Rattle.fidl_wire.specs.Names.{event_ordinal}
use Rattle.io_messages.specs.declared.protocols.Protocol.{Protocol}
use Rattle.io_messages.specs.declared.protocols.Protocol.TheVariants as protocol
use Rattle.io_messages.specs.Writing.{plain_header}
use Rattle.io_messages.specs.Replies.{event_layout, an_empty_table}
use Rattle.io_messages.specs.Kinds.{announced_as, kind_with}
use Rattle.io_replies.specs.Reading.{ReadsEvent}
use Rattle.io_messages.specs.ReplyWriting.{event_bytes}
use Rattle.fidl_wire.proofs.Rows.{small_rest}
use Rattle.io_messages.proofs.Lengths.{length-header, length-count, padded_none}
use Rattle.io_messages.proofs.Unions.{cat, object_length}

table_small : length (object_bytes (join (table_part []) nothing)) < 256 ^ 4
table_small =
    omega (arith, object_length (join (table_part []) nothing) 16 0 (cat (count_bytes 0) [] 16 0 (length-count 0) refl) refl, padded_none 16 refl)

empty_fits : FitsVariant an_empty_table (members [] ∷ [])
empty_fits = (((lit< tt, tt, refl), tt), lit< tt, table_small, lit< tt)

event_as : (n : ℕ) (k : Protocol) → kind_with n ≡ Some k → FitsBody event_layout (branch n (members [] ∷ [])) → body_handles event_layout (branch n (members [] ∷ [])) ≡ [] → SpellingIsSpelled → HeadersAreRead →
    ReadsEvent (header_bytes (plain_header 0 event_ordinal) ++ body_bytes event_layout (branch n (members [] ∷ []))) k
event_as n k is fits none law header_again = record {
  header = plain_header 0 event_ordinal;
  content = branch n (members [] ∷ []);
  header_is = header_again (plain_header 0 event_ordinal) (body_bytes event_layout (branch n (members [] ∷ []))) (lit< tt) (small_rest _);
  ordinal_is = refl;
  way = refl;
  spelled = subst (λ (hs : List Handle). IsSpelled event_layout (branch n (members [] ∷ [])) (header_bytes (plain_header 0 event_ordinal) ++ body_bytes event_layout (branch n (members [] ∷ []))) hs) none
      (law event_layout (branch n (members [] ∷ [])) (header_bytes (plain_header 0 event_ordinal)) (length-header (plain_header 0 event_ordinal)) fits);
  kind_is = is;
}

pub written_event : SpellingIsSpelled → HeadersAreRead → (k : Protocol) → ReadsEvent (event_bytes k) (announced_as k)
unfolding kind_with
written_event law header_again protocol.Directory = event_as 2 protocol.Directory refl (lit< tt, empty_fits) refl law header_again
written_event law header_again protocol.File = event_as 3 protocol.File refl (lit< tt, empty_fits) refl law header_again
written_event law header_again protocol.Node = event_as 1 protocol.Node refl (lit< tt, empty_fits) refl law header_again
written_event law header_again protocol.Echo = event_as 1 protocol.Node refl (lit< tt, empty_fits) refl law header_again
written_event law header_again protocol.Watcher = event_as 1 protocol.Node refl (lit< tt, empty_fits) refl law header_again
