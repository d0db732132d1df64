-- Who is bound, as a watcher or another, is the endpoint that came with the request.
use Rattle.std.proofs.Common.{◌≡◌, ◌∙◌, ℕ, Bool, true, false, nat_lt, List, [], ◌∷◌, Option, Some, None, Contains, refl, sym, ap}
use Rattle.fidl_names.specs.declared.methods.Handle.{Handle}
use Rattle.fidl_names.specs.declared.methods.Handle.TheVariants.{Endpoint}
use Rattle.fidl_names.specs.declared.methods.Method.{Method}
use Rattle.fidl_names.specs.declared.methods.Method.TheVariants as method
use Rattle.fidl_names.specs.declared.statuses.Status.{Status}
use Rattle.fidl_names.specs.declared.statuses.Status.TheVariants as status
use Rattle.fidl_names.specs.First.{cause_if, first_of}
use Rattle.fidl_wire.specs.Written.{Written}
use Rattle.io_messages.specs.Asked.{Asked, method_of}
use Rattle.io_messages.specs.Asked as asks
use Rattle.io_messages.specs.Failing.{failing_of}
use Rattle.io_messages.specs.declared.failing.Failing.{Failing}
use Rattle.io_messages.specs.declared.failing.Failing.TheVariants as failing
use Rattle.request_reader.specs.Laws.{Carries}
use Rattle.conn_rules.specs.Acts.{act_of, method_refusals, row_act}
use Rattle.conn_rules.specs.Answers.{Act, Answer, replies, closes, binds, watches, forwards, refuses, ends, hangs_up, silent, failure_by, failure_of}
use Rattle.conn_rules.specs.Births.{Position}
use Rattle.conn_rules.specs.Contexts.{Context}
use Rattle.conn_rules.specs.NameRows.{link_into, name_in, rename_into, token_answer, two_names_refusal, unlink_refusals}
use Rattle.conn_rules.specs.FileRows.{is_no_position, is_too_much, reading_refusal, seek_sum, write_start, writing_refusal}
use Rattle.conn_rules.specs.Listings.{listing_here}
use Rattle.dirents.specs.Listings.{fits_none}
use Rattle.conn_rules.specs.Refusals.{as_status, unless}
use Rattle.node_graph.specs.Graph.{link_refusal, rename_refusal, resize_refusal}
use Rattle.vfs_journal.specs.Serving.{object_of}
use Rattle.vfs_server.specs.Given.{Given}
use Rattle.vfs_server.specs.Given as given
use Rattle.vfs_server.specs.Steps.{IsGiven}

-- an answer by which an endpoint is bound, and what is given so
abbrev pub is_taking : Answer → Bool
is_taking (binds birth announced) = true
is_taking (watches mask) = true
is_taking _ = false

abbrev pub is_taken : Given → Bool
is_taken (given.Bind birth) = true
is_taken (given.WatchBy mask) = true
is_taken _ = false

pub taking_alike : (answer : Answer) (txid : ℕ) (what : Given) (out : Written) → IsGiven answer txid what out → is_taking answer ≡ is_taken what
taking_alike (replies a) txid what out h = sym (ap is_taken h.0)
taking_alike closes txid what out h = sym (ap is_taken h.0)
taking_alike (binds birth announced) txid what out h = sym (ap is_taken h.0.1)
taking_alike (watches mask) txid what out h = sym (ap is_taken h.0)
taking_alike (forwards mount flags rest) txid what out h = sym (ap is_taken h.0)
taking_alike (refuses status) txid what out h = sym (ap is_taken h.0)
taking_alike (ends status) txid what out h = sym (ap is_taken h.0)
taking_alike hangs_up txid what out h = absurd h
taking_alike silent txid what out h = absurd h

-- a request with an endpoint
abbrev HasObject : Asked → Type 0
HasObject (asks.clone endpoint) = Unit {0}
HasObject (asks.open_path path flags attributes object) = Unit {0}
HasObject (asks.watch mask options watcher) = Unit {0}
HasObject _ = ⊥

-- ---- rows

failing_quiet : (form : Failing) (m : Method) (status : Status) → is_taking (failure_by form m status) ≡ false
failing_quiet failing.Reply m status = refl
failing_quiet failing.Epitaph m status = refl
failing_quiet failing.Never m status = refl

-- an act by which none is
record IsQuiet (act : Act) : Type 0 where
  quiet : is_taking act.answer ≡ false

unless_quiet : (o : Option Status) (position : Position) (m : Method) (act : Act) → IsQuiet act → IsQuiet (unless o position m act)
unless_quiet (Some status) position m act h = record { quiet = failing_quiet (failing_of m) m status }
unless_quiet None position m act h = h

token_quiet : (next : Option ℕ) → is_taking (token_answer next) ≡ false
token_quiet None = failing_quiet (failing_of method.GetToken) method.GetToken status.NoResources
token_quiet (Some number) = refl

link_quiet : (context : Context) (src dst : List ℕ) (target : Option ℕ) → IsQuiet (link_into context src dst target)
link_quiet context src dst None = record { quiet = failing_quiet (failing_of method.Link) method.Link status.NotFound }
link_quiet context src dst (Some target) =
    unless_quiet (as_status (link_refusal context.tree (name_in context.birth.node src) (name_in target dst))) context.position method.Link _ (record { quiet = refl })

rename_quiet : (context : Context) (src dst : List ℕ) (target : Option ℕ) → IsQuiet (rename_into context src dst target)
rename_quiet context src dst None = record { quiet = failing_quiet (failing_of method.Rename) method.Rename status.NotFound }
rename_quiet context src dst (Some target) =
    unless_quiet (as_status (rename_refusal context.tree (name_in context.birth.node src) (name_in target dst))) context.position method.Rename _ (record { quiet = refl })

refuted : {P : Type 0} (b : Bool) → b ≡ false → b ≡ true → P
refuted b quiet is = absurd (let wrong : false ≡ true = sym quiet ∙ is in cc)

none_taken : {P : Type 0} (act : Act) → IsQuiet act → is_taking act.answer ≡ true → P
none_taken act h is = refuted (is_taking act.answer) h.quiet is

row_taken : (context : Context) (request : Asked) → is_taking (row_act context request).answer ≡ true → HasObject request
row_taken context (asks.clone endpoint) is = tt
row_taken context (asks.open_path path flags attributes object) is = tt
row_taken context (asks.read_dirents most) is =
    none_taken (row_act context (asks.read_dirents most))
    (unless_quiet (first_of (cause_if (is_too_much most) status.InvalidArgs ∷ cause_if (fits_none (listing_here context) most) status.BufferTooSmall ∷ [])) context.position method.ReadDirents _ (record { quiet = refl })) is
row_taken context asks.get_token is = refuted (is_taking (token_answer context.room.token)) (token_quiet context.room.token) is
row_taken context (asks.rename src token dst) is =
    none_taken (row_act context (asks.rename src token dst))
    (unless_quiet (two_names_refusal src dst (context.directory token)) context.position method.Rename (rename_into context src dst (context.directory token)) (rename_quiet context src dst (context.directory token))) is
row_taken context (asks.link src token dst) is =
    none_taken (row_act context (asks.link src token dst))
    (unless_quiet (two_names_refusal src dst (context.directory token)) context.position method.Link (link_into context src dst (context.directory token)) (link_quiet context src dst (context.directory token))) is
row_taken context (asks.unlink name flags) is =
    none_taken (row_act context (asks.unlink name flags))
    (unless_quiet (first_of (unlink_refusals context.tree (name_in context.birth.node name) flags)) context.position method.Unlink _ (record { quiet = refl })) is
row_taken context (asks.watch mask options watcher) is = tt
row_taken context (asks.read count) is =
    none_taken (row_act context (asks.read count)) (unless_quiet (reading_refusal count) context.position method.Read _ (record { quiet = refl })) is
row_taken context (asks.read_at count offset) is =
    none_taken (row_act context (asks.read_at count offset)) (unless_quiet (reading_refusal count) context.position method.ReadAt _ (record { quiet = refl })) is
row_taken context (asks.write bytes) is =
    none_taken (row_act context (asks.write bytes)) (unless_quiet (writing_refusal (write_start context) bytes) context.position method.Write _ (record { quiet = refl })) is
row_taken context (asks.write_at bytes offset) is =
    none_taken (row_act context (asks.write_at bytes offset)) (unless_quiet (writing_refusal offset bytes) context.position method.WriteAt _ (record { quiet = refl })) is
row_taken context (asks.seek origin offset) is =
    none_taken (row_act context (asks.seek origin offset))
    (unless_quiet (first_of (cause_if (nat_lt 2 origin) status.InvalidArgs ∷ cause_if (is_no_position (seek_sum context origin offset)) status.OutOfRange ∷ [])) context.position method.Seek _ (record { quiet = refl })) is
row_taken context (asks.resize size) is =
    none_taken (row_act context (asks.resize size)) (unless_quiet (as_status (resize_refusal size)) context.position method.Resize _ (record { quiet = refl })) is
row_taken context _ is = refuted false refl is

behind_refusal : (o : Option Status) (position : Position) (m : Method) (act : Act) → is_taking (unless o position m act).answer ≡ true → is_taking act.answer ≡ true
behind_refusal (Some status) position m act is = refuted (is_taking (failure_of m status)) (failing_quiet (failing_of m) m status) is
behind_refusal None position m act is = is

act_taken : (context : Context) (request : Asked) → is_taking (act_of context request).answer ≡ true → HasObject request
unfolding act_of
act_taken context request is =
    row_taken context request (behind_refusal (first_of (method_refusals context.birth (method_of request))) context.position (method_of request) (row_act context request) is)

-- ---- handles

carried : (request : Asked) (handles : List Handle) → HasObject request → Carries request handles → Contains handles (Endpoint (object_of request))
carried (asks.clone endpoint) handles has carries = carries
carried (asks.open_path path flags attributes object) handles has carries = carries
carried (asks.watch mask options watcher) handles has carries = carries
carried _ handles has carries = absurd has

-- the endpoint of a request by which one is bound came with its message
pub taken_came : (context : Context) (request : Asked) (handles : List Handle) → is_taking (act_of context request).answer ≡ true → Carries request handles → Contains handles (Endpoint (object_of request))
taken_came context request handles is carries = carried request handles (act_taken context request is) carries
