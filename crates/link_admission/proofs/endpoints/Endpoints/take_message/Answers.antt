use Rattle.std.proofs.Common.{◌≡◌, ◌+◌, ◌&&◌, Bool, true, false, refl, sym, ap, ◌∙◌, subst}
use Rattle.std.specs.Prelude.{Option, unwrap_or}
use Rattle.link_admission.specs.declared.kinds.Standing.{Standing}
use Rattle.link_admission.specs.declared.kinds.Standing.TheVariants as standing
use Rattle.link_admission.specs.Admission.{look_ups, all_may_travel}
use Rattle.fidl_names.specs.HandleNumber.{is_client}
use Rattle.link_admission.specs.Numbering.{among}
use Rattle.link_admission.specs.Standings.{Known, Sends}
use Rattle.link_admission.specs.Tables.{value_at}
use Rattle.link_frames.specs.Views.{handle_numbers}
use Rattle.link_admission.proofs.Travelling.{travel_each, travel_distinct, unused_by, held_by, nowhere, somewhere, standing_chosen}
use Rattle.link_admission.specs.declared.endpoints.Endpoints.TheInside.{Inside}
use Rattle.link_admission.proofs.endpoints.Endpoints.take_message.Goals as goal

abbrev known_by : Inside → Known
known_by e = record { standings = e.standings.entries; live = e.standings.live; tokens = e.tokens.entries; out = e.tokens.out; next = e.tokens.next; waiting = e.waiting; servers = e.servers }

pub make_all-requires-clause-new : goal.make_all-requires-clause-new
make_all-requires-clause-new c =
    let hs = handle_numbers c.args.handles in
    let ss = c.self.inside.standings.entries in
    let ts = c.self.inside.tokens.entries in
    let l = look_ups (known_by c.self.inside) in
    let travel = subst (λ (k : Known). all_may_travel (look_ups k) hs ≡ true) (sym c.self.view_is) c.requires.travel in
    record {
      unused = λ q client here.
          let may = travel_each l hs travel q here in
          let apart = ap (λ (o : Option Bool). unwrap_or o false) (c.self.invariant.apart q client) in
          let unused = unused_by l q may apart in
          nowhere (value_at ss q) (c.self.invariant.known q) unused;
      distinct = travel_distinct l hs travel;
    }

pub send_all-requires : goal.send_all-requires
send_all-requires c =
    let hs = handle_numbers c.args.handles in
    let ss = c.self.inside.standings.entries in
    let ts = c.self.inside.tokens.entries in
    let l = look_ups (known_by c.self.inside) in
    let travel = subst (λ (k : Known). all_may_travel (look_ups k) hs ≡ true) (sym c.self.view_is) c.requires.travel in
    λ q other here.
    let held = held_by l q (travel_each l hs travel q here) other in
    somewhere (value_at ts q) held

pub returns-clause-sent : goal.returns-clause-sent
returns-clause-sent c =
    let hs = handle_numbers c.args.handles in
    let old = c.self.inside in
    let before : Known = known_by old in
    let after : Known = record before { standings = c.make_all.new.self.entries; live = c.make_all.new.self.live; tokens = c.send_all.new.self.entries; out = c.send_all.new.self.out; next = c.send_all.new.self.next; waiting = old.waiting + 1 } in
    let done : Sends before hs after =
    record {
      standing = λ n.
          ap (λ (o : Option Standing). unwrap_or o standing.Unused) (c.in_ok-make_all.ensures.made n)
          ∙ standing_chosen (is_client n && among n hs) (value_at old.standings.entries n);
      live = c.in_ok-make_all.ensures.live;
      tokens = c.send_all.ensures.changed;
      same_out = c.send_all.ensures.count;
      same_next = c.send_all.ensures.next;
      waiting = refl;
      same_servers = refl;
    } in
    subst (λ (k : Known). Sends k hs after) c.self.view_is done
