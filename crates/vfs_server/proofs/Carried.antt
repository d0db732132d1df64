-- The token that a request has is among the numbers of its message's handles, so that a server that knows what these name knows its directory.
use Rattle.std.proofs.Common.{◌≡◌, ◌==◌, ℕ, zero, suc, Bool, true, false, ◌||◌, List, [], ◌∷◌, ◌++◌, slice_get, Option, Some, None, refl, sym, ap, ◌∙◌, subst}
use Rattle.std.specs.FinMap as finite
use Rattle.std.specs.Option.{option_and_then, option_map}
use Rattle.std.proofs.lemmas.Bool.{eq-eqb}
use Rattle.std.proofs.lemmas.List.{map-append}
use Rattle.std.proofs.lemmas.List.Folds.{list_any-append}
use Rattle.fidl_names.specs.HandleNumber.{number_of_handle}
use Rattle.fidl_names.specs.declared.methods.Handle.{Handle}
use Rattle.fidl_names.specs.declared.methods.Handle.TheVariants.{Endpoint, Token}
use Rattle.fidl_names.specs.declared.methods.Method.{Method}
use Rattle.fidl_names.specs.declared.methods.Method.TheVariants as method
use Rattle.fidl_wire.specs.Grammar.{IsSpelled, Lays, Part, Spells}
use Rattle.fidl_wire.specs.Layout.{Cell, Item, struct, fields, held, num, blank, seq, members}
use Rattle.link_admission.specs.Numbering.{among}
use Rattle.io_messages.specs.declared.protocols.Protocol.{Protocol}
use Rattle.io_messages.specs.Asked.{Asked}
use Rattle.io_messages.specs.Requests.{Reads, a_token, request_cells, asked_from, item, handle_in, handle_of}
use Rattle.io_messages.specs.Tokens.{token_of}
use Rattle.node_graph.specs.declared.nodes.NodeRef.{NodeRef}
use Rattle.node_graph.specs.Graph.{Kept, number_of}
use Rattle.dir_conn.specs.Served.{directory_named, named_by}
use Rattle.vfs_journal.specs.Handles.{numbers_of}
use Rattle.vfs_server.specs.Binding.{IsDirectory}
use Rattle.vfs_server.specs.Kept.{NameDirectories, Tokens}
use Rattle.vfs_server.specs.Steps.{AreNamed, names_in, target_in}

-- ---- among handles

among_append : (n : ℕ) (one other : List Handle) → among n (numbers_of (one ++ other)) ≡ (among n (numbers_of one) || among n (numbers_of other))
among_append n one other = ap (among n) (map-append number_of_handle one other) ∙ list_any-append (λ m. m == n) (numbers_of one) (numbers_of other)

or_left : (a b : Bool) → a ≡ true → (a || b) ≡ true
or_left true b is = refl
or_left false b is = absurd (cc)

or_right : (a b : Bool) → b ≡ true → (a || b) ≡ true
or_right true b is = refl
or_right false b is = is

-- ---- a token's field has a token, which is among the handles

record HasToken (i : ℕ) (items : List Item) (handles : List Handle) : Type 0 where
  number : ℕ
  here : item i items ≡ held (Some (Token number))
  carried : among number (numbers_of handles) ≡ true

held_token : (x : Item) (first : Part) → Spells a_token x first → (n : ℕ) × (x ≡ held (Some (Token n))) × (first.handles ≡ Token n ∷ [])
held_token (held None) first h = let wrong : false ≡ true = h.0 in absurd (cc)
held_token (held (Some (Token n))) first h = (n, refl, h.1.handles_are)
held_token (held (Some (Endpoint n))) first h = let wrong : false ≡ true = h.0 in absurd (cc)
held_token (num n) first h = absurd h
held_token blank first h = absurd h
held_token (seq xs) first h = absurd h
held_token (members vs) first h = absurd h

first_among : (n : ℕ) → among n (numbers_of (Token n ∷ [])) ≡ true
first_among n = or_left (n == n) false (eq-eqb n n refl)

token_in : (i : ℕ) (cells : List Cell) (items : List Item) (part : Part) → Lays cells items part → slice_get cells i ≡ Some a_token → HasToken i items part.handles
token_in i [] items part h at = absurd (no_cell i at) where
  no_cell : (i : ℕ) → slice_get {X = Cell} [] i ≡ Some a_token → ⊥
  no_cell zero e = cc
  no_cell (suc i) e = cc
token_in i (cell ∷ cells) [] part h at = absurd h
token_in zero (cell ∷ cells) (x ∷ xs) part (first, rest, spells, lays, joined) at =
    let is : cell ≡ a_token = cc in
    let one = held_token x first (subst (λ (c : Cell). Spells c x first) is spells) in
    record {
      number = one.0;
      here = one.1;
      carried =
          subst (λ (p : Part). among one.0 (numbers_of p.handles) ≡ true) (sym joined)
          (among_append one.0 first.handles rest.handles
          ∙ or_left (among one.0 (numbers_of first.handles)) (among one.0 (numbers_of rest.handles)) (ap (λ hs. among one.0 (numbers_of hs)) one.2 ∙ first_among one.0));
    }
token_in (suc i) (cell ∷ cells) (x ∷ xs) part (first, rest, spells, lays, joined) at =
    let later = token_in i cells xs rest lays at in
    record {
      number = later.number;
      here = later.here;
      carried =
          subst (λ (p : Part). among later.number (numbers_of p.handles) ≡ true) (sym joined)
          (among_append later.number first.handles rest.handles
          ∙ or_right (among later.number (numbers_of first.handles)) (among later.number (numbers_of rest.handles)) later.carried);
    }

-- the token between two names
token_between : (cells : List Cell) (items : List Item) (bytes : List ℕ) (handles : List Handle) → IsSpelled (struct cells) (fields items) bytes handles → slice_get cells 1 ≡ Some a_token →
    among (handle_in 1 items) (numbers_of handles) ≡ true
token_between cells items bytes handles spelled at =
    let one = token_in 1 cells items spelled.body.part spelled.body.lays at in
    subst (λ (n : ℕ). among n (numbers_of handles) ≡ true) (sym (ap handle_of one.here))
    (subst (λ hs. among one.number (numbers_of hs) ≡ true) (sym spelled.body.handles_are) one.carried)

-- ---- what a request names

module _ (bytes : List ℕ) (handles : List Handle) (one other : ℕ → Option ℕ) (alike : (number : ℕ) → among number (numbers_of handles) ≡ true → one number ≡ other number) where
  alike_by : (m : Method) (items : List Item) → IsSpelled (struct (request_cells m)) (fields items) bytes handles →
      directory_named one (asked_from m items) ≡ directory_named other (asked_from m items)
  alike_by method.Rename items h = alike (handle_in 1 items) (token_between (request_cells method.Rename) items bytes handles h refl)
  alike_by method.Link items h = alike (handle_in 1 items) (token_between (request_cells method.Link) items bytes handles h refl)
  alike_by _ items h = refl

  -- where handles name alike, a request that came with them does
  named_alike : (p : Protocol) (txid : ℕ) (a : Asked) → Reads p bytes handles txid a → directory_named one a ≡ directory_named other a
  named_alike p txid a r = subst (λ (b : Asked). directory_named one b ≡ directory_named other b) r.is_asked.fields_are (alike_by r.is_asked.method r.is_asked.items r.is_asked.spelled)

-- the directory of a request's token is the one that is looked up
pub looked_up : (tokens : Tokens) (request : Asked) → directory_named (names_in tokens) request ≡ option_map number_of (target_in tokens request)
looked_up tokens request = by_token (token_of request)
  where
    by_token : (o : Option ℕ) → named_by (names_in tokens) o ≡ option_map number_of (option_and_then (finite.get tokens) o)
    by_token None = refl
    by_token (Some token) = refl

-- of a request that was read, where each handle names what it names among the tokens
pub target_named : (tokens : Tokens) (p : Protocol) (bytes : List ℕ) (handles : List Handle) (txid : ℕ) (a : Asked) (directory : ℕ → Option ℕ) → Reads p bytes handles txid a →
    AreNamed tokens (numbers_of handles) directory → directory_named directory a ≡ option_map number_of (target_in tokens a)
target_named tokens p bytes handles txid a directory r named = named_alike bytes handles directory (names_in tokens) named p txid a r ∙ looked_up tokens a

-- and it is a directory
pub target_is_directory : (graph : Kept) (tokens : Tokens) → NameDirectories graph tokens → (request : Asked) (node : NodeRef) → target_in tokens request ≡ Some node → IsDirectory graph node
target_is_directory graph tokens each request node is = by_token (token_of request) is
  where
    by_token : (o : Option ℕ) → option_and_then (finite.get tokens) o ≡ Some node → IsDirectory graph node
    by_token None is = absurd (cc)
    by_token (Some token) is = each token node is
