-- A listing is refused, or stands in the output behind what begins its reply.
use Rattle.std.proofs.Common.{ap, refl, sym, ◌∙◌}
use Rattle.fidl_names.specs.declared.methods.Method.TheVariants as method
use Rattle.fidl_names.specs.declared.statuses.Status.TheVariants as status
use Rattle.fidl_wire.specs.Written.{padded_bytes}
use Rattle.node_graph.specs.Graph.{number_of}
use Rattle.dirents.specs.Listings.{listing}
use Rattle.dirents.specs.Packing.{fitting_bytes}
use Rattle.conn_rules.specs.Answers.{failure_of, only}
use Rattle.conn_rules.specs.Births.{born, connection_with}
use Rattle.conn_rules.specs.Contexts.{context_with}
use Rattle.dir_conn.specs.Served.{standing_at}
use Rattle.dir_conn.proofs.ListingRows.{few, listing_of_none, listing_of_some, listing_of_too_much}
use Rattle.dir_conn.proofs.listing.list.Goals as goal

pub returns-then-most-gt-MAX_CHUNK-clause-served : goal.returns-then-most-gt-MAX_CHUNK-clause-served
returns-then-most-gt-MAX_CHUNK-clause-served c = λ tree room directory stands.
    let stays = connection_with c.args.birth.now (standing_at c.args.place.now) in
    rw (listing_of_too_much (context_with (born c.args.birth.now) (standing_at c.args.place.now) room tree directory) c.args.most c.if-most-gt-MAX_CHUNK.true)
    (c.of_node.ensures.served (only (standing_at c.args.place.now) (failure_of method.ReadDirents status.InvalidArgs)) c.args.txid c.fail.new.out stays
    c.args.graph.now (c.fail.ensures.served stays c.args.graph.now))

pub returns-then-is_stuck-clause-served : goal.returns-then-is_stuck-clause-served
returns-then-is_stuck-clause-served c = λ tree room directory stands.
    let stays = connection_with c.args.birth.now (standing_at c.args.place.now) in
    rw (
    listing_of_none (context_with (born c.args.birth.now) (standing_at c.args.place.now) room tree directory) c.args.most
    (few c.args.most c.if-most-gt-MAX_CHUNK.false)
    ((c.measure-found.ensures.tells tree stands).stuck ∙ sym c.is_stuck.ensures ∙ c.if-is_stuck.true)
    )
    (c.of_node-then-is_stuck.ensures.served (only (standing_at c.args.place.now) (failure_of method.ReadDirents status.BufferTooSmall)) c.args.txid
    c.fail-then-is_stuck.new.out stays c.args.graph.now (c.fail-then-is_stuck.ensures.served stays c.args.graph.now))

pub returns-clause-served : goal.returns-clause-served
returns-clause-served c = λ tree room directory stands.
    let listed = fitting_bytes (listing tree (number_of c.args.birth.now.node) c.args.place.now) c.args.most in
    rw (
    listing_of_some (context_with (born c.args.birth.now) (standing_at c.args.place.now) room tree directory) c.args.most
    (few c.args.most c.if-most-gt-MAX_CHUNK.false)
    ((c.measure-found.ensures.tells tree stands).stuck ∙ sym c.is_stuck.ensures ∙ c.if-is_stuck.false)
    )
    (record {
      answer = (
        (c.none.result, refl),
        record {
          bytes =
              c.pad.ensures.bytes
              ∙ ap padded_bytes (c.pack-packed.ensures.bytes tree stands)
              ∙ c.begin_listing.ensures.bytes listed (sym (c.measure-found.ensures.tells tree stands).bytes);
          handles = c.pad.ensures.handles ∙ c.pack-packed.ensures.handles ∙ c.begin_listing.ensures.handles listed;
        },
      );
      told = sym c.none.ensures;
      position = ap standing_at (c.pack-packed.ensures.tells tree stands).next;
      change = λ one stood. stood;
      bound = λ found changes e. absurd (cc);
    })
