use Rattle.std.proofs.Common.{◌≡◌, ◌≤◌, ◌||◌, ℕ, Bool, true, false, cond, eqb, List, [], ◌∷◌, refl, sym, ap, ◌∙◌, arith}
use Rattle.std.specs.Prelude.{Option, Some, None, All, unwrap_or}
use Rattle.std.proofs.lemmas.Bool.{eqb-true}
use Rattle.std.proofs.lemmas.Bool.Decides.{nat_tests}
use Rattle.std.proofs.lemmas.List.Elements.{All-head, All-tail}
use Rattle.link_admission.specs.declared.kinds.Standing.{Standing}
use Rattle.link_admission.specs.declared.kinds.Standing.TheVariants as standing
use Rattle.fidl_names.specs.HandleNumber.{is_client, is_mount_end}
use Rattle.link_admission.specs.Numbering.{among}
use Rattle.std.specs.FinMap as map
use Rattle.std.specs.Ordering.{nat_cmp}
use Rattle.link_admission.specs.Tables.{Table, value_at}
use Rattle.link_admission.proofs.endpoints.Endpoints.new.Goals as goal

-- no number that isn't a client's is among clients' numbers
not_among : (q : ℕ) (ns : List ℕ) → All (λ n. is_client n ≡ true) ns → is_client q ≡ false → among q ns ≡ false
not_among q [] clients no_client = refl
not_among q (n ∷ ns) clients no_client =
    by_test (eqb n q) refl (not_among q ns (All-tail (λ m. is_client m ≡ true) n ns clients) no_client) where
      by_test : (b : Bool) → eqb n q ≡ b → among q ns ≡ false → (eqb n q || among q ns) ≡ false
      by_test true e rest =
          let same : is_client n ≡ is_client q = ap is_client (eqb-true n q e) in
          let head : is_client n ≡ true = All-head (λ m. is_client m ≡ true) n ns clients in
          let wrong : true ≡ false = sym head ∙ (same ∙ no_client) in
          cc
      by_test false e rest = ap (λ (b : Bool). b || among q ns) e ∙ rest

no_client : (q : ℕ) → 0x40000000 ≤ q → is_client q ≡ false
no_client q h = grind (arith, nat_tests)

-- live where it is among the one or the other
either : (a m : Bool) → unwrap_or (cond m (Some standing.Live) (cond a (Some standing.Live) None)) standing.Unused ≡ cond (a || m) standing.Live standing.Unused
either true true = refl
either true false = refl
either false true = refl
either false false = refl

never_unused : (a m : Bool) → cond m (Some standing.Live) (cond a (Some standing.Live) None) ≡ Some standing.Unused → ⊥
never_unused true true h = cc
never_unused true false h = cc
never_unused false true h = cc
never_unused false false h = cc

pub make_mounts-requires-clause-unused : goal.make_mounts-requires-clause-unused
make_mounts-requires-clause-unused c = λ q h.
    let none = not_among q c.args.firsts.now c.requires.clients (no_client q h) in
    c.in_ok-make_firsts.ensures.made q ∙ ap (λ (b : Bool). cond b (Some standing.Live) None) none

pub invariant_of-result : goal.invariant_of-result
invariant_of-result c = record {
  known = λ q unused.
      let made = c.in_ok-make_mounts.ensures.made q ∙ ap (cond (is_mount_end c.args.mounts q) (Some standing.Live)) (c.in_ok-make_firsts.ensures.made q) in
      never_unused (among q c.args.firsts.now) (is_mount_end c.args.mounts q) (sym made ∙ unused);
  apart = λ q client. ap (λ (t : Table Bool). value_at t q) c.new.ensures.entries ∙ map.get-empty nat_cmp q;
  after = omega (arith, c.new.ensures.next);
}

pub returns : goal.returns
returns c = record {
  standing = λ n.
      ap (λ (o : Option Standing). unwrap_or o standing.Unused) (c.in_ok-make_mounts.ensures.made n ∙ ap (cond (is_mount_end c.args.mounts n) (Some standing.Live)) (c.in_ok-make_firsts.ensures.made n))
      ∙ either (among n c.args.firsts.now) (is_mount_end c.args.mounts n);
  live = omega (arith, c.in_ok-make_mounts.ensures.live, c.in_ok-make_firsts.ensures.live);
  tokens = c.new.ensures.entries;
  out = c.new.ensures.out;
  next = c.new.ensures.next;
  waiting = refl;
  servers = refl;
}
