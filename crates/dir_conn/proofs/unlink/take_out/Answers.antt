-- The name is bad, or the graph answers.
use Rattle.std.proofs.Common.{◌∙◌, Some, ap, sym}
use Rattle.std.specs.Prelude.{◌==◌, ◌||◌, nat_lt}
use Rattle.node_graph.specs.Graph.{number_of}
use Rattle.node_graph.specs.Refusals.{unlink_refusal}
use Rattle.conn_rules.specs.NameRows.{is_bad_name, name_in}
use Rattle.dir_conn.proofs.Opening.{kept}
use Rattle.dir_conn.proofs.Unlinking.{bad_refuses, graph_refuses, none_refuses}
use Rattle.dir_conn.proofs.unlink.take_out.Goals as goal

pub returns-then-is_bad-clause-refusal : goal.returns-then-is_bad-clause-refusal
returns-then-is_bad-clause-refusal c = λ tree stands.
    bad_refuses (is_bad_name c.args.name.now || nat_lt 1 c.args.flags) (unlink_refusal tree (name_in (number_of c.args.directory) c.args.name.now) (c.args.flags == 1))
    (sym c.is_bad.ensures ∙ c.if-is_bad.true)

pub returns-in-Ok-clause-refusal : goal.returns-in-Ok-clause-refusal
returns-in-Ok-clause-refusal c = λ tree stands.
    none_refuses (is_bad_name c.args.name.now || nat_lt 1 c.args.flags) c.unlink.result c.in-Ok.gone
    (unlink_refusal tree (name_in (number_of c.args.directory) c.args.name.now) (c.args.flags == 1)) (sym c.is_bad.ensures ∙ c.if-is_bad.false) c.in-Ok.is
    (c.unlink.ensures.answer tree stands)

pub returns-in-Err-clause-refusal : goal.returns-in-Err-clause-refusal
returns-in-Err-clause-refusal c = λ tree stands.
    ap Some c.fault_status.ensures.value
    ∙ graph_refuses (is_bad_name c.args.name.now || nat_lt 1 c.args.flags) c.unlink.result c.in-Err.fault
    (unlink_refusal tree (name_in (number_of c.args.directory) c.args.name.now) (c.args.flags == 1)) (sym c.is_bad.ensures ∙ c.if-is_bad.false) c.in-Err.is
    (c.unlink.ensures.answer tree stands)

pub returns-then-is_bad-clause-keeps : goal.returns-then-is_bad-clause-keeps
returns-then-is_bad-clause-keeps c = kept c.args.graph.now

pub returns-in-Ok-clause-keeps : goal.returns-in-Ok-clause-keeps
returns-in-Ok-clause-keeps c = record { holds = c.unlink.ensures.holds; names = c.unlink.ensures.names }

pub returns-in-Err-clause-keeps : goal.returns-in-Err-clause-keeps
returns-in-Err-clause-keeps c = record { holds = c.unlink.ensures.holds; names = c.unlink.ensures.names }
