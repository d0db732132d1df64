use Rattle.std.proofs.Common.{◌≡◌, ◌∙◌, true, refl, subst, sym}
use Rattle.node_graph.specs.Graph.{Leads, bytes_at, number_of, resized}
use Rattle.node_graph.specs.Tree.{fill}
use Rattle.conn_rules.specs.Contexts.{context_of}
use Rattle.conn_rules.specs.Served.{takes_memory}
use Rattle.conn_rules.specs.declared.served.Served.TheVariants as served
use Rattle.file_conn.proofs.Rows.{bytes_of_row, resize_row}
use Rattle.file_conn.proofs.Serving.{made_served, refused_served, wanting_takes}
use Rattle.file_conn.proofs.connection.FileConn.resize.Goals as goal

pub fail-requires-clause-status : goal.fail-requires-clause-status
fail-requires-clause-status c = c.in-Refused.ensures.comes.1

pub returns-in-Done-clause-serves : goal.returns-in-Done-clause-serves
returns-in-Done-clause-serves c room tree directory stands served =
    rw (resize_row (context_of c.args.self.now room tree directory) c.args.size _ (bytes_of_row c.args.graph.now tree _ stands c.requires.named))
    (made_served _ _ _ _ _ _ _ _ _ _ c.args.graph.now c.resize.new.graph c.in-Done.ensures.comes.0 refl
    (subst (λ conn. Leads c.args.graph.now c.resize.new.graph (fill (number_of conn.birth.node) (resized (bytes_at c.args.graph.now (number_of conn.birth.node)) c.args.size))) c.self.view_is c.in-Done.ensures.comes.1)
    c.reply.ensures.served)

pub returns-in-Refused-clause-serves : goal.returns-in-Refused-clause-serves
returns-in-Refused-clause-serves c room tree directory stands served =
    rw (resize_row (context_of c.args.self.now room tree directory) c.args.size _ (bytes_of_row c.args.graph.now tree _ stands c.requires.named))
    (refused_served _ c.in-Refused.status _ _ _ _ _ c.args.self.now _ _ c.in-Refused.ensures.comes.0 c.in-Refused.ensures.comes.2 c.fail.ensures.served)

pub returns-in-NoMemory-clause-memory : goal.returns-in-NoMemory-clause-memory
returns-in-NoMemory-clause-memory c room tree directory stands wants =
    rw (resize_row (context_of c.args.self.now room tree directory) c.args.size _ (bytes_of_row c.args.graph.now tree _ stands c.requires.named))
    (wanting_takes _ _ _ _ c.in-NoMemory.ensures.comes.0
    (subst (λ conn. takes_memory (fill (number_of conn.birth.node) (resized (bytes_at c.args.graph.now (number_of conn.birth.node)) c.args.size)) ≡ true) c.self.view_is c.in-NoMemory.ensures.comes.1))

pub returns-in-NoMemory-clause-untouched : goal.returns-in-NoMemory-clause-untouched
returns-in-NoMemory-clause-untouched c wants = record { connection = refl; graph = c.in-NoMemory.ensures.comes.2; empty = c.requires.empty }

pub returns-in-Done-clause-memory : goal.returns-in-Done-clause-memory
returns-in-Done-clause-memory c room tree directory stands wants = let wrong : served.Reply ≡ served.NoMemory = sym c.reply.ensures.kind ∙ wants in absurd (cc)

pub returns-in-Done-clause-untouched : goal.returns-in-Done-clause-untouched
returns-in-Done-clause-untouched c wants = let wrong : served.Reply ≡ served.NoMemory = sym c.reply.ensures.kind ∙ wants in absurd (cc)

pub returns-in-Refused-clause-memory : goal.returns-in-Refused-clause-memory
returns-in-Refused-clause-memory c room tree directory stands wants = absurd (c.fail.ensures.memory wants)

pub returns-in-Refused-clause-untouched : goal.returns-in-Refused-clause-untouched
returns-in-Refused-clause-untouched c wants = absurd (c.fail.ensures.memory wants)

pub returns-in-NoMemory-clause-serves : goal.returns-in-NoMemory-clause-serves
returns-in-NoMemory-clause-serves c room tree directory stands served = absurd (served refl)
