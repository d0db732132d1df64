use Rattle.std.proofs.Common.{◌≡◌, ℕ, ◌+◌, List, [], ◌∷◌, length, take, refl, sym, ap, ◌∙◌, subst, arith}
use Rattle.std.specs.Prelude.{count_by}
use Rattle.std.proofs.lemmas.List.{take_all}
use Rattle.link_frames.specs.Views.{handle_numbers}
use Rattle.fidl_names.specs.HandleNumber.{is_client}
use Rattle.link_admission.specs.Tables.{Counted, AreNew, Makes, TakesBack}
use Rattle.link_admission.specs.Pages.{live_in}
use Rattle.link_admission.proofs.Tabled.{same_table}
use Rattle.link_admission.proofs.Made.{count_by-one, undone}
use Rattle.link_admission.proofs.standings.Standings.make_all.Goals as goal

pub make_client-requires-clause-few : goal.make_client-requires-clause-few
make_client-requires-clause-few c =
    let hs = handle_numbers c.args.handles in
    let one = count_by-one is_client c.loop-i.i hs (omega (arith, c.len-i-end.ensures)) in
    let same = ap (λ (h : ℕ). count_by is_client (h ∷ [])) c.at.ensures in
    omega (arith, one, same, c.loop-i.invariant.live, c.requires.few)

pub returns-in-Err : goal.returns-in-Err
returns-in-Err c =
    let hs = handle_numbers c.args.handles in
    let i = c.loop-i.i in
    let before = c.self.inside in
    let after = c.self-in-Err.inside in
    let was = before.pages in
    let is = after.pages in
    let fresh : AreNew was hs = subst (λ (v : Counted). AreNew v.entries hs) (sym c.self.view_is) c.requires.new in
    let made : Makes (take i hs) was c.make_client.new.self.entries =
    subst (λ (v : Counted). Makes (take i hs) v.entries c.make_client.new.self.entries) (sym c.self.view_is)
    (subst (λ (v : Counted). Makes (take i hs) c.args.self.now.entries v.entries) (sym c.in-Err.ensures.err) c.loop-i.invariant.made) in
    let back : TakesBack (take i hs) c.make_client.new.self.entries is =
    subst (λ (v : Counted). TakesBack (take i hs) c.make_client.new.self.entries v.entries) (sym c.self-in-Err.view_is) c.take_back_all.ensures in
    let entries = same_table is was (undone i hs was c.make_client.new.self.entries is fresh made back) in
    let live = c.self-in-Err.invariant.0 ∙ (ap live_in entries ∙ sym c.self.invariant.0) in
    let both : ◌≡◌ {A = Counted} (record { entries = is; live = after.live }) (record { entries = was; live = before.live }) = cc in
    record {
      made = tt;
      live = tt;
      err = sym c.self-in-Err.view_is ∙ (both ∙ c.self.view_is);
      some = λ none. absurd (omega (arith, ap length none, c.len-i-end.ensures));
    }

pub returns : goal.returns
returns c =
    let all : take c.loop-i.i (handle_numbers c.args.handles) ≡ handle_numbers c.args.handles = take_all c.loop-i.i (handle_numbers c.args.handles) (omega (arith, c.loop-i-test.false, c.len-i-end.ensures)) in
    record {
      made = subst (λ (numbers : List ℕ). Makes numbers c.args.self.now.entries c.loop-i.self.entries) all c.loop-i.invariant.made;
      live = c.loop-i.invariant.live ∙ ap (λ (numbers : List ℕ). c.args.self.now.live + count_by is_client numbers) all;
      err = tt;
      some = λ none. refl;
    }
