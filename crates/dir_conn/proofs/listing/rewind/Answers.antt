use Rattle.dirents.specs.declared.place.Place.TheVariants.{Start}
use Rattle.conn_rules.specs.Births.{born, connection_with}
use Rattle.conn_rules.specs.Contexts.{context_with}
use Rattle.conn_rules.specs.Listings.{rewind_act}
use Rattle.dir_conn.specs.Served.{standing_at}
use Rattle.dir_conn.proofs.listing.rewind.Goals as goal

pub returns-clause-served : goal.returns-clause-served
returns-clause-served c = λ tree room directory graph.
    let rewound = connection_with c.args.birth.now (standing_at Start) in
    c.of_node.ensures.served (rewind_act (context_with (born c.args.birth.now) (standing_at c.args.place.now) room tree directory)) c.args.txid
    c.reply.new.out rewound graph (c.reply.ensures.served rewound graph)
