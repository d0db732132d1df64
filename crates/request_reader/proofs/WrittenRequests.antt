-- What is written for a request is read.
use Rattle.std.proofs.Common.{◌≡◌, ℕ, ◌^◌, ◌<◌, true, nat_eq, cond, Bool, false, Option, Some, None, unwrap_or, refl, ap, ◌∙◌, arith}
use Rattle.std.specs.Int.{w64}
use Rattle.std.proofs.lemmas.Int.{to_z-of_z}
use Rattle.std.proofs.lemmas.Bool.Decides.{nat_tests}
use Rattle.fidl_wire.specs.Headers.{header_bytes}
use Rattle.wire_laws.specs.Laws.{HeadersAreRead, SpellingIsSpelled}
use Rattle.fidl_wire.specs.Layout.{struct, fields}
use Rattle.fidl_wire.specs.Names.{method_ordinal}
use Rattle.io_messages.specs.declared.protocols.Protocol.{Protocol}
use Rattle.io_messages.specs.Asked.{Asked, method_of}
use Rattle.io_messages.specs.Asked as asks
use Rattle.io_messages.specs.Protocols.{has_method}
use Rattle.io_messages.specs.Requests.{IsAsked, Reads, has_txid, request_cells, items_of, asked_from, flags_member}
use Rattle.io_messages.specs.Shapes.{is_one_way}
use Rattle.io_messages.specs.Writing.{plain_header, request_bytes, request_body, request_handles, HasOffset, IsRequest}
use Rattle.io_messages.proofs.Known.{number_again}
use Rattle.fidl_wire.proofs.Rows.{small_ordinal}
use Rattle.wire_laws.proofs.ReadHeaders.{length-header}

flags_again : (flags : ℕ) → unwrap_or (flags_member flags) 0 ≡ flags
flags_again flags = cases (nat_eq flags 0) flags refl
  where
    cases : (b : Bool) (flags : ℕ) → nat_eq flags 0 ≡ b → unwrap_or (cond b None (Some flags)) 0 ≡ flags
    cases true flags h = grind (arith, nat_tests)
    cases false flags h = refl

-- a request is got back from what it has in its fields
request_again : (a : Asked) → HasOffset a → asked_from (method_of a) (items_of a) ≡ a
request_again (asks.clone endpoint) h = refl
request_again asks.close h = refl
request_again asks.query h = refl
request_again (asks.get_attributes bits) h = refl
request_again asks.sync h = refl
request_again (asks.open_path path flags attributes object) h = ap (λ (v : Option ℕ). asks.open_path path flags v object) (number_again attributes)
request_again (asks.read_dirents max_bytes) h = refl
request_again asks.rewind h = refl
request_again asks.get_token h = refl
request_again (asks.rename src token dst) h = refl
request_again (asks.link src token dst) h = refl
request_again (asks.unlink name flags) h = ap (λ (n : ℕ). asks.unlink name n) (ap (λ (v : Option ℕ). unwrap_or v 0) (number_again (flags_member flags)) ∙ flags_again flags)
request_again (asks.watch mask options watcher) h = refl
request_again (asks.read count) h = refl
request_again (asks.read_at count offset) h = refl
request_again (asks.write bytes) h = refl
request_again (asks.write_at bytes offset) h = refl
request_again (asks.seek origin offset) h = ap (asks.seek origin) (to_z-of_z w64 offset h)
request_again (asks.resize size) h = refl
request_again (asks.echo_string value) h = refl

pub written_asked : SpellingIsSpelled → HeadersAreRead → (t : ℕ) (a : Asked) → t < 2 ^ 32 → has_txid (is_one_way (method_of a)) t ≡ true → IsRequest a →
    IsAsked (request_bytes t a) (request_handles a) t a
written_asked law header_again t a small way is = record {
  header = plain_header t (method_ordinal (method_of a));
  method = method_of a;
  items = items_of a;
  header_is = header_again (plain_header t (method_ordinal (method_of a))) (request_body a) small (small_ordinal (method_of a));
  ordinal_is = refl;
  txid_is = refl;
  way = way;
  spelled = law (struct (request_cells (method_of a))) (fields (items_of a)) (header_bytes (plain_header t (method_ordinal (method_of a)))) (length-header (plain_header t (method_ordinal (method_of a)))) is.fits;
  fields_are = request_again a is.offset;
}

pub written_request : SpellingIsSpelled → HeadersAreRead → (p : Protocol) (t : ℕ) (a : Asked) → has_method p (method_of a) ≡ true → t < 2 ^ 32 → has_txid (is_one_way (method_of a)) t ≡ true → IsRequest a →
    Reads p (request_bytes t a) (request_handles a) t a
written_request law header_again p t a known small way is = record { is_asked = written_asked law header_again t a small way is; known = known }
