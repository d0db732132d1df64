-- What a request does by whether its method is refused before its row.
use Rattle.std.proofs.Common.{◌≡◌, ◌∙◌, ℕ, Option, Some, None, refl, sym, ap, subst}
use Rattle.fidl_names.specs.declared.methods.Method.{Method}
use Rattle.fidl_names.specs.declared.statuses.Status.{Status}
use Rattle.fidl_names.specs.First.{first_of}
use Rattle.fidl_wire.specs.Written.{Written}
use Rattle.io_messages.specs.Asked.{Asked, method_of}
use Rattle.node_graph.specs.Graph.{Kept}
use Rattle.node_graph.specs.Tree.{Tree}
use Rattle.conn_rules.specs.declared.births.Birth as code
use Rattle.conn_rules.specs.declared.births.Room.{Room}
use Rattle.conn_rules.specs.declared.served.Served.{Served}
use Rattle.conn_rules.specs.Acts.{act_of, row_act, method_refusals}
use Rattle.conn_rules.specs.Answers.{only, failure_of}
use Rattle.conn_rules.specs.Births.{Connection, born}
use Rattle.conn_rules.specs.Contexts.{Context, context_of}
use Rattle.conn_rules.specs.Served.{IsAnswered, IsServed}

-- a refused request fails, and does nothing else
pub refused_act : (context : Context) (request : Asked) (status : Status) →
    first_of (method_refusals context.birth (method_of request)) ≡ Some status →
    act_of context request ≡ only context.position (failure_of (method_of request) status)
unfolding act_of
refused_act context request status is = rw is refl

-- any other does what its row says
pub taken_act : (context : Context) (request : Asked) →
    first_of (method_refusals context.birth (method_of request)) ≡ None →
    act_of context request ≡ row_act context request
unfolding act_of
taken_act context request is = rw is refl

-- ---- as the code comes to it: the birth as it is kept, and the method that was found

refusal_is : (inside birth : code.Birth) (found method : Method) (refusal : Option Status) → inside ≡ birth → found ≡ method →
    refusal ≡ first_of (method_refusals (born inside) found) → first_of (method_refusals (born birth) method) ≡ refusal
refusal_is inside birth found method refusal same is first =
    ap (λ b. first_of (method_refusals (born b) method)) (sym same) ∙ ap (λ m. first_of (method_refusals (born inside) m)) (sym is) ∙ sym first

pub refused_as_failure : (inside : code.Birth) (connection : Connection) (room : Room) (tree : Tree) (directory : ℕ → Option ℕ) (request : Asked) (found : Method) (status : Status) →
    inside ≡ connection.birth → found ≡ method_of request → Some status ≡ first_of (method_refusals (born inside) found) →
    act_of (context_of connection room tree directory) request ≡ only connection.position (failure_of found status)
refused_as_failure inside connection room tree directory request found status same is first =
    refused_act (context_of connection room tree directory) request status (refusal_is inside connection.birth found (method_of request) (Some status) same is first)
    ∙ ap (λ m. only connection.position (failure_of m status)) (sym is)

pub taken_as_row : (inside : code.Birth) (connection : Connection) (room : Room) (tree : Tree) (directory : ℕ → Option ℕ) (request : Asked) (found : Method) →
    inside ≡ connection.birth → found ≡ method_of request → None ≡ first_of (method_refusals (born inside) found) →
    act_of (context_of connection room tree directory) request ≡ row_act (context_of connection room tree directory) request
taken_as_row inside connection room tree directory request found same is first =
    taken_act (context_of connection room tree directory) request (refusal_is inside connection.birth found (method_of request) None same is first)

-- a refused request is served by its failure, and leaves connection and graph as they were
pub refused_is_served : (inside : code.Birth) (connection : Connection) (room : Room) (tree : Tree) (directory : ℕ → Option ℕ) (request : Asked) (found : Method) (status : Status)
    (txid : ℕ) (result : Served) (out : Written) (graph : Kept) →
    inside ≡ connection.birth → found ≡ method_of request → Some status ≡ first_of (method_refusals (born inside) found) →
    IsAnswered (only connection.position (failure_of found status)) txid result out connection graph →
    IsAnswered (act_of (context_of connection room tree directory) request) txid result out connection graph
refused_is_served inside connection room tree directory request found status txid result out graph same is first answered =
    subst (λ act. IsAnswered act txid result out connection graph) (sym (refused_as_failure inside connection room tree directory request found status same is first)) answered

-- any other is served as its row says
pub taken_is_served : (inside : code.Birth) (connection : Connection) (room : Room) (tree : Tree) (directory : ℕ → Option ℕ) (request : Asked) (found : Method)
    (txid : ℕ) (result : Served) (out : Written) (new : Connection) (before after : Kept) →
    inside ≡ connection.birth → found ≡ method_of request → None ≡ first_of (method_refusals (born inside) found) →
    IsServed (row_act (context_of connection room tree directory) request) txid result out new before after →
    IsServed (act_of (context_of connection room tree directory) request) txid result out new before after
taken_is_served inside connection room tree directory request found txid result out new before after same is first served =
    subst (λ act. IsServed act txid result out new before after) (sym (taken_as_row inside connection room tree directory request found same is first)) served
