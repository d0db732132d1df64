-- What a message reads as: a request's endpoint is among the handles, and an Open to any protocol is that Open to a directory's.
use Rattle.std.proofs.Common.{◌≡◌, ℕ, ◌<◌, ◌==◌, ◌||◌, ◌⊎◌, Bool, true, false, cond, nat_le, List, [], ◌∷◌, map, Option, Ok, Contains, refl, ap, ◌∙◌, subst, inl, inr}
use Rattle.std.proofs.lemmas.Bool.{eq-eqb, leb-false}
use Rattle.fidl_names.specs.declared.methods.Handle.TheVariants.{Endpoint, Token}
use Rattle.fidl_names.specs.declared.methods.Method.{Method}
use Rattle.fidl_names.specs.declared.methods.Method.TheVariants as method
use Rattle.wire_laws.specs.Laws.{ReadsWhatIsSpelled, SpelledWhereRead}
use Rattle.fidl_wire.specs.Layout.{Item}
use Rattle.fidl_wire.specs.Names.{AreDistinct}
use Rattle.fidl_wire.proofs.Rows.{method_ordinal-injective}
use Rattle.io_messages.specs.declared.protocols.Protocol.{Protocol}
use Rattle.io_messages.specs.declared.protocols.Protocol.TheVariants as protocol
use Rattle.io_messages.specs.Asked.{Asked}
use Rattle.io_messages.specs.Asked as asks
use Rattle.request_reader.specs.Laws.{Carries as CarriesHandle}
use Rattle.io_messages.specs.Requests.{asked_from}
use Rattle.request_reader.proofs.Carrying.{carries as carries_handle}
use Rattle.request_reader.proofs.RequestLaws.{what_is_read, what_is_spelled}
use Rattle.link_admission.specs.Numbering.{among}
use Rattle.fidl_names.specs.HandleNumber.{handle_with}
use Rattle.vfs_journal.specs.Serving.{read_by}
use Rattle.journal_laws.proofs.Members.{contains_cases, contains_none}

-- ---- the endpoint that a request carries

-- a number that is among these and no token's
pub record IsCarried (n : ℕ) (handles : List ℕ) : Type 0 where
  pub here : among n handles ≡ true
  pub low : n < 0x80000000

pub among_here : (n m : ℕ) (ns : List ℕ) → m ≡ n → among n (m ∷ ns) ≡ true
among_here n m ns e = ap (λ (b : Bool). b || among n ns) (eq-eqb m n e)

pub among_later : (n m : ℕ) (ns : List ℕ) → among n ns ≡ true → among n (m ∷ ns) ≡ true
among_later n m ns h = ap (λ (b : Bool). (m == n) || b) h ∙ or_true (m == n) where
  or_true : (b : Bool) → (b || true) ≡ true
  or_true true = refl
  or_true false = refl

endpoint_by : (n m : ℕ) (b : Bool) → nat_le 0x80000000 m ≡ b → cond b (Token m) (Endpoint m) ≡ Endpoint n → (m ≡ n) × (m < 0x80000000)
endpoint_by n m true is e = absurd (cc)
endpoint_by n m false is e = (cc, leb-false 0x80000000 m is)

carried_in : (n : ℕ) (handles : List ℕ) → Contains (map handle_with handles) (Endpoint n) → IsCarried n handles
carried_in n [] h = absurd (contains_none (Endpoint n) h)
carried_in n (m ∷ ms) h = by_place (contains_cases (Endpoint n) (handle_with m) (map handle_with ms) h) (carried_in n ms) where
  by_place : (handle_with m ≡ Endpoint n) ⊎ Contains (map handle_with ms) (Endpoint n) → (Contains (map handle_with ms) (Endpoint n) → IsCarried n ms) → IsCarried n (m ∷ ms)
  by_place (inl e) rest =
      let one = endpoint_by n m (nat_le 0x80000000 m) refl e in
      record { here = among_here n m ms one.0; low = subst (λ k. k < 0x80000000) one.0 one.1 }
  by_place (inr h) rest = let later = rest h in record { here = among_later n m ms later.here; low = later.low }

-- what a request carries, if it carries an endpoint
abbrev pub Carries : Asked → List ℕ → Type 0
Carries (asks.clone endpoint) handles = IsCarried endpoint handles
Carries (asks.open_path path flags attributes object) handles = IsCarried object handles
Carries (asks.watch mask options watcher) handles = IsCarried watcher handles
Carries _ handles = Unit {0}

pub carries : SpelledWhereRead → (p : Protocol) (bytes handles : List ℕ) (t : ℕ) (a : Asked) → read_by p bytes handles ≡ Ok (t, a) → Carries a handles
carries law p bytes handles t a read = by_form a (carries_handle p bytes (map handle_with handles) t a (what_is_read law p bytes (map handle_with handles) t a read)) where
  by_form : (b : Asked) → CarriesHandle b (map handle_with handles) → Carries b handles
  by_form (asks.clone endpoint) h = carried_in endpoint handles h
  by_form (asks.open_path path flags attributes object) h = carried_in object handles h
  by_form (asks.watch mask options watcher) h = carried_in watcher handles h
  by_form _ h = tt

-- ---- a message that is an Open to one protocol is the same Open to a directory's

pub same_open : (m : Method) (items : List Item) (path : List ℕ) (flags : ℕ) (attributes : Option ℕ) (object : ℕ) → asked_from m items ≡ asks.open_path path flags attributes object → m ≡ method.OpenPath
same_open method.OpenPath items path flags attributes object e = refl
same_open _ items path flags attributes object e = absurd (cc)

pub opens_directory : SpelledWhereRead → ReadsWhatIsSpelled → AreDistinct → (p : Protocol) (bytes handles : List ℕ) (t : ℕ) (path : List ℕ) (flags : ℕ) (attributes : Option ℕ) (object : ℕ) →
    read_by p bytes handles ≡ Ok (t, asks.open_path path flags attributes object) → read_by protocol.Directory bytes handles ≡ Ok (t, asks.open_path path flags attributes object)
opens_directory law back apart p bytes handles t path flags attributes object read =
    let r = what_is_read law p bytes (map handle_with handles) t (asks.open_path path flags attributes object) read in
    what_is_spelled back (method_ordinal-injective apart) protocol.Directory bytes (map handle_with handles) t (asks.open_path path flags attributes object)
    (record { is_asked = r.is_asked; known = refl })
