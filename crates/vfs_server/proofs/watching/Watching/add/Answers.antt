use Rattle.std.proofs.Common.{◌≡◌, ◌∙◌, ◌++◌, ◌∷◌, ℕ, [], true, false, None, OnOk, Result, Ok, Err, ap, arith, filter, length, nat_eq, subst, sym}
use Rattle.std.proofs.lemmas.List.{length-map}
use Rattle.std.specs.Result.{is_err}
use Rattle.indexmap.proofs.CallerLemmas.{insert_entry-new}
use Rattle.watch_events.specs.Watching.{Adds}
use Rattle.node_graph.specs.Graph.{number_of}
use Rattle.vfs_server.specs.Seats.{AreByDirectory, Seats, is_at, seat_at, watcher_of}
use Rattle.vfs_server.proofs.SeatLists.{by_directory_more, new_there}
use Rattle.vfs_server.proofs.watching.Watching.add.Goals as goal

pub add-requires : goal.add-requires
add-requires c =
    let seats = c.self.inside.seats.entries in
    let here : length (filter (is_at c.number.result) seats) ≡ length (filter (is_at (number_of c.args.directory)) c.args.self.now) =
    ap (λ (number : ℕ). length (filter (is_at number) seats)) c.number.ensures
    ∙ ap (λ (seats : Seats). length (filter (is_at (number_of c.args.directory)) seats)) c.self.view_is in
    record {
      few = omega (arith, ap length (c.self.invariant c.number.result), length-map (filter (is_at c.number.result) seats) watcher_of, here, c.requires.few);
      new = new_there seats c.self.inside.watchers c.self.invariant c.args.endpoint c.number.result (ap (λ (seats : Seats). seat_at seats c.args.endpoint) c.self.view_is ∙ c.requires.free);
    }

when_ok : {X E : Type 0} (r : Result X E) (P : Type 0) → is_err r ≡ false → OnOk r P → P
when_ok (Ok x) P is p = p
when_ok (Err e) P is p = absurd (let wrong : true ≡ false = is in cc)

-- the newcomer is the last
last : (c : goal.Else-is_err) → is_err c.insert.result ≡ false →
    c.insert.new.self.entries ≡ c.self.inside.seats.entries ++ (c.args.endpoint, record { directory = c.args.directory; mask = c.args.mask }) ∷ []
last c is =
    let free : seat_at c.reserve.new.self.entries c.args.endpoint ≡ None =
    ap (λ (seats : Seats). seat_at seats c.args.endpoint) (c.reserve.ensures.entries ∙ c.self.view_is) ∙ c.requires.free in
    when_ok c.insert.result _ is c.insert.ensures.entries
    ∙ insert_entry-new nat_eq c.reserve.new.self c.args.endpoint (record { directory = c.args.directory; mask = c.args.mask }) free
    ∙ ap (λ (seats : Seats). seats ++ (c.args.endpoint, record { directory = c.args.directory; mask = c.args.mask }) ∷ []) c.reserve.ensures.entries

pub invariant_of-self-2 : goal.invariant_of-self-2
invariant_of-self-2 c =
    subst (λ (seats : Seats). AreByDirectory seats c.add.new.self) (sym (last c (sym c.is_err.ensures.value ∙ c.if-is_err.false)))
    (by_directory_more c.self.inside.seats.entries c.self.inside.watchers c.self.invariant (c.args.endpoint, record { directory = c.args.directory; mask = c.args.mask }) c.add.new.self
    (subst (λ number. Adds c.self.inside.watchers number (record { endpoint = c.args.endpoint; mask = c.args.mask }) c.add.new.self) c.number.ensures c.in_ok-add.ensures.added))

pub returns-clause-added : goal.returns-clause-added
returns-clause-added c =
    last c (sym c.is_err.ensures.value ∙ c.if-is_err.false)
    ∙ ap (λ (seats : Seats). seats ++ (c.args.endpoint, record { directory = c.args.directory; mask = c.args.mask }) ∷ []) c.self.view_is
