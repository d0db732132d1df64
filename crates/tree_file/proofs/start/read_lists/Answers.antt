use Rattle.std.proofs.Common.{[], ◌∷◌}
use Rattle.toml.specs.View.{view}
use Rattle.session_start.specs.RulesOnLists.{first_broken}
use Rattle.tree_file.specs.Faults.{IsFirst}
use Rattle.tree_file.specs.Rules.{rule_2, rule_3, rule_4, rule_5, rule_6, rule_7, rules_on_form}
use Rattle.tree_file.proofs.First.{first-before, passed-on}
use Rattle.tree_file.proofs.Starts.{anyway, servers-are, lists-read, form-read, servers-broken, nodes-broken, mounts-broken, form-broken}
use Rattle.tree_file.proofs.start.read_lists.Goals as goal

pub returns-clause-lists : goal.returns-clause-lists
returns-clause-lists c =
    lists-read c.read_clients.result (view c.args.document.now) c.read_servers.new.names.items c.read_nodes.new.nodes.items c.read_mounts.new.mounts.items c.read_clients.new.clients.items
    c.in_ok-read_servers.ensures.read c.in_ok-read_nodes.ensures.read c.in_ok-read_mounts.ensures.read c.read_clients.ensures.read

pub returns-clause-hold : goal.returns-clause-hold
returns-clause-hold c =
    form-read c.read_clients.result (view c.args.document.now) c.read_servers.new.names.items c.read_nodes.new.nodes.items c.read_mounts.new.mounts.items c.read_clients.new.clients.items
    c.in_ok-check_form.ensures.hold c.in_ok-read_servers.ensures.read c.in_ok-read_nodes.ensures.read c.in_ok-read_mounts.ensures.read c.read_clients.ensures.read

pub returns-clause-refused : goal.returns-clause-refused
returns-clause-refused c =
    form-broken c.read_clients.result (view c.args.document.now) c.read_servers.new.names.items c.read_nodes.new.nodes.items c.read_mounts.new.mounts.items
    c.in_ok-check_form.ensures.hold c.in_ok-read_servers.ensures.read c.in_ok-read_nodes.ensures.read c.in_ok-read_mounts.ensures.read c.read_clients.ensures.refused

pub returns-in_err-check_form-clause-refused : goal.returns-in_err-check_form-clause-refused
returns-in_err-check_form-clause-refused c =
    let document = view c.args.document.now in
    let fault = c.in_err-check_form.field-0.0 in
    passed-on c.from_residual.result fault (IsFirst (first_broken 2 (rules_on_form document))) c.from_residual.ensures.1
    (first-before 2 (rule_2 document ∷ rule_3 document ∷ []) (rule_4 document ∷ rule_5 document ∷ rule_6 document ∷ rule_7 document ∷ []) fault c.in_err-check_form.ensures.refused)

pub returns-in_err-read_servers-clause-refused : goal.returns-in_err-read_servers-clause-refused
returns-in_err-read_servers-clause-refused c =
    let document = view c.args.document.now in
    let fault = c.in_err-read_servers.field-0.0 in
    passed-on c.from_residual-in_err-read_servers.result fault (IsFirst (first_broken 2 (rules_on_form document))) c.from_residual-in_err-read_servers.ensures.1
    (servers-broken document fault c.in_ok-check_form.ensures.hold c.in_err-read_servers.ensures.refused)

pub returns-in_err-read_nodes-clause-refused : goal.returns-in_err-read_nodes-clause-refused
returns-in_err-read_nodes-clause-refused c =
    let document = view c.args.document.now in
    let fault = c.in_err-read_nodes.field-0.0 in
    passed-on c.from_residual-in_err-read_nodes.result fault (IsFirst (first_broken 2 (rules_on_form document))) c.from_residual-in_err-read_nodes.ensures.1
    (nodes-broken document fault c.in_ok-check_form.ensures.hold c.read_servers.new.names.items c.in_ok-read_servers.ensures.read c.in_err-read_nodes.ensures.refused)

pub returns-in_err-read_mounts-clause-refused : goal.returns-in_err-read_mounts-clause-refused
returns-in_err-read_mounts-clause-refused c =
    let document = view c.args.document.now in
    let fault = c.in_err-read_mounts.field-0.0 in
    passed-on c.from_residual-in_err-read_mounts.result fault (IsFirst (first_broken 2 (rules_on_form document))) c.from_residual-in_err-read_mounts.ensures.1
    (mounts-broken document fault c.in_ok-check_form.ensures.hold c.read_servers.new.names.items c.in_ok-read_servers.ensures.read c.read_nodes.new.nodes.items c.in_ok-read_nodes.ensures.read c.in_err-read_mounts.ensures.refused)

pub returns-clause-few : goal.returns-clause-few
returns-clause-few c = anyway c.read_clients.result c.in_ok-read_servers.ensures.few

pub read_nodes-requires-clause-servers : goal.read_nodes-requires-clause-servers
read_nodes-requires-clause-servers c = servers-are (view c.args.document.now) c.read_servers.new.names.items c.deref.result.now c.in_ok-read_servers.ensures.read c.deref.ensures.value

pub read_mounts-requires-clause-servers : goal.read_mounts-requires-clause-servers
read_mounts-requires-clause-servers c = servers-are (view c.args.document.now) c.read_servers.new.names.items c.deref-2.result.now c.in_ok-read_servers.ensures.read c.deref-2.ensures.value

pub read_clients-requires-clause-servers : goal.read_clients-requires-clause-servers
read_clients-requires-clause-servers c = servers-are (view c.args.document.now) c.read_servers.new.names.items c.deref-3.result.now c.in_ok-read_servers.ensures.read c.deref-3.ensures.value
