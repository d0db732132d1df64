-- An Open answers without a message; a method that changes no name is one of every node.
use Rattle.std.proofs.Common.{None, refl}
use Rattle.std.specs.Option.{option_map}
use Rattle.io_messages.specs.Asked.{asked}
use Rattle.node_graph.specs.Graph.{number_of}
use Rattle.conn_rules.specs.Acts.{row_act}
use Rattle.conn_rules.specs.Births.{born, connection_with}
use Rattle.conn_rules.specs.Contexts.{context_with}
use Rattle.dir_conn.specs.Served.{standing_at}
use Rattle.dir_conn.proofs.Opening.{kept}
use Rattle.dir_conn.proofs.conn.serve_row.Goals as goal

pub returns-in-OpenPath-clause-served : goal.returns-in-OpenPath-clause-served
returns-in-OpenPath-clause-served c = λ tree directory stands named some.
    rw c.in-OpenPath.is
    ((c.open.ensures.opened directory).served tree c.args.birth.now (standing_at c.args.place.now) c.args.txid c.args.out.now stands c.requires.empty some)

pub returns-in-OpenPath-clause-keeps : goal.returns-in-OpenPath-clause-keeps
returns-in-OpenPath-clause-keeps c = (c.open.ensures.opened (λ token. None)).keeps

pub returns-in-OpenPath-clause-memory : goal.returns-in-OpenPath-clause-memory
returns-in-OpenPath-clause-memory c = λ tree directory stands named wants.
    rw c.in-OpenPath.is ((c.open.ensures.opened directory).memory tree (standing_at c.args.place.now) stands wants)

pub returns-in-OpenPath-clause-untouched : goal.returns-in-OpenPath-clause-untouched
returns-in-OpenPath-clause-untouched c = (c.open.ensures.opened (λ token. None)).untouched

pub returns-in-ReadDirents : goal.returns-in-ReadDirents
returns-in-ReadDirents c =
    record {
      served = λ tree directory stands named some. rw c.in-ReadDirents.is (c.list.ensures.served tree c.args.room directory stands);
      keeps = kept c.args.graph.now;
      memory = λ tree directory stands named wants. absurd (c.list.ensures.memory wants);
      untouched = λ wants. absurd (c.list.ensures.memory wants);
      stays = λ wants. absurd (c.list.ensures.memory wants);
      empty = λ wants. absurd (c.list.ensures.memory wants);
    }

pub returns-in-Rewind : goal.returns-in-Rewind
returns-in-Rewind c =
    record {
      served = λ tree directory stands named some. rw c.in-Rewind.is (c.rewind.ensures.served tree c.args.room directory c.args.graph.now);
      keeps = kept c.args.graph.now;
      memory = λ tree directory stands named wants. absurd (c.rewind.ensures.memory wants);
      untouched = λ wants. absurd (c.rewind.ensures.memory wants);
      stays = λ wants. absurd (c.rewind.ensures.memory wants);
      empty = λ wants. absurd (c.rewind.ensures.memory wants);
    }

pub returns-in-GetToken : goal.returns-in-GetToken
returns-in-GetToken c =
    record {
      served = λ tree directory stands named some. rw c.in-GetToken.is (c.get_token.ensures.served tree (standing_at c.args.place.now) directory c.args.graph.now);
      keeps = kept c.args.graph.now;
      memory = λ tree directory stands named wants. absurd (c.get_token.ensures.memory wants);
      untouched = λ wants. absurd (c.get_token.ensures.memory wants);
      stays = λ wants. absurd (c.get_token.ensures.memory wants);
      empty = λ wants. absurd (c.get_token.ensures.memory wants);
    }

pub returns-in-Rename-clause-served : goal.returns-in-Rename-clause-served
returns-in-Rename-clause-served c = λ tree directory stands named some.
    rw c.in-Rename.is ((c.rename.ensures.tried c.args.room directory _ (rw c.in-Rename.is at named)).served tree (standing_at c.args.place.now) stands some)

pub returns-in-Rename-clause-keeps : goal.returns-in-Rename-clause-keeps
returns-in-Rename-clause-keeps c = (c.rename.ensures.tried c.args.room (λ token. option_map number_of c.args.target) 0 refl).keeps

pub returns-in-Rename-clause-memory : goal.returns-in-Rename-clause-memory
returns-in-Rename-clause-memory c = λ tree directory stands named wants.
    rw c.in-Rename.is ((c.rename.ensures.tried c.args.room directory _ (rw c.in-Rename.is at named)).memory tree (standing_at c.args.place.now) stands wants)

pub returns-in-Rename-clause-untouched : goal.returns-in-Rename-clause-untouched
returns-in-Rename-clause-untouched c = (c.rename.ensures.tried c.args.room (λ token. option_map number_of c.args.target) 0 refl).untouched

pub returns-in-Rename-clause-empty : goal.returns-in-Rename-clause-empty
returns-in-Rename-clause-empty c = (c.rename.ensures.tried c.args.room (λ token. option_map number_of c.args.target) 0 refl).empty

pub returns-in-Link-clause-served : goal.returns-in-Link-clause-served
returns-in-Link-clause-served c = λ tree directory stands named some.
    rw c.in-Link.is ((c.link.ensures.tried c.args.room directory _ (rw c.in-Link.is at named)).served tree (standing_at c.args.place.now) stands some)

pub returns-in-Link-clause-keeps : goal.returns-in-Link-clause-keeps
returns-in-Link-clause-keeps c = (c.link.ensures.tried c.args.room (λ token. option_map number_of c.args.target) 0 refl).keeps

pub returns-in-Link-clause-memory : goal.returns-in-Link-clause-memory
returns-in-Link-clause-memory c = λ tree directory stands named wants.
    rw c.in-Link.is ((c.link.ensures.tried c.args.room directory _ (rw c.in-Link.is at named)).memory tree (standing_at c.args.place.now) stands wants)

pub returns-in-Link-clause-untouched : goal.returns-in-Link-clause-untouched
returns-in-Link-clause-untouched c = (c.link.ensures.tried c.args.room (λ token. option_map number_of c.args.target) 0 refl).untouched

pub returns-in-Link-clause-empty : goal.returns-in-Link-clause-empty
returns-in-Link-clause-empty c = (c.link.ensures.tried c.args.room (λ token. option_map number_of c.args.target) 0 refl).empty

pub returns-in-Unlink : goal.returns-in-Unlink
returns-in-Unlink c =
    record {
      served = λ tree directory stands named some. rw c.in-Unlink.is (c.unlink.ensures.served tree (standing_at c.args.place.now) c.args.room directory stands);
      keeps = c.unlink.ensures.keeps;
      memory = λ tree directory stands named wants. absurd (c.unlink.ensures.memory wants);
      untouched = λ wants. absurd (c.unlink.ensures.memory wants);
      stays = λ wants. absurd (c.unlink.ensures.memory wants);
      empty = λ wants. absurd (c.unlink.ensures.memory wants);
    }

pub returns-in-Watch : goal.returns-in-Watch
returns-in-Watch c =
    record {
      served = λ tree directory stands named some. rw c.in-Watch.is (c.watch.ensures.served tree (standing_at c.args.place.now) directory c.args.graph.now);
      keeps = kept c.args.graph.now;
      memory = λ tree directory stands named wants. absurd (c.watch.ensures.memory wants);
      untouched = λ wants. absurd (c.watch.ensures.memory wants);
      stays = λ wants. absurd (c.watch.ensures.memory wants);
      empty = λ wants. absurd (c.watch.ensures.memory wants);
    }

pub returns-in_default : goal.returns-in_default
returns-in_default c =
    record {
      served = λ tree directory stands named some.
          c.of_node.ensures.served (row_act (context_with (born c.args.birth.now) (standing_at c.args.place.now) c.args.room tree directory) (asked c.args.request)) c.args.txid
          c.serve_node.new.out (connection_with c.args.birth.now (standing_at c.args.place.now)) c.args.graph.now
          (c.serve_node.ensures.served (standing_at c.args.place.now) tree directory stands);
      keeps = kept c.args.graph.now;
      memory = λ tree directory stands named wants. absurd (c.of_node.ensures.memory c.serve_node.ensures.memory wants);
      untouched = λ wants. absurd (c.of_node.ensures.memory c.serve_node.ensures.memory wants);
      stays = λ wants. absurd (c.of_node.ensures.memory c.serve_node.ensures.memory wants);
      empty = λ wants. absurd (c.of_node.ensures.memory c.serve_node.ensures.memory wants);
    }
