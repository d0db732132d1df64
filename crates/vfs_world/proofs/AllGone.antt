-- Endpoints are let go at one server after another.
use Rattle.std.proofs.Common.{◌≡◌, ◌≢◌, ℕ, ◌+◌, ◌<◌, ◌≤◌, ◌⊎◌, List, length, Some, set, inl, inr, sym, ap, ◌∙◌, subst, arith, length-set}
use Rattle.std.specs.Prelude.{slice_get}
use Rattle.std.proofs.lemmas.Option.{slice_get_within}
use Rattle.vfs_journal.specs.View.{View}
use Rattle.vfs_server.specs.Holding.{HoldsAt}
use Rattle.vfs_server.specs.Servers.{Server}
use Rattle.vfs_world.specs.Holding.{HoldsEach}
use Rattle.vfs_world.specs.ServingSteps.{without_in}
use Rattle.vfs_world.proofs.EachServer.{set_cases}

-- the servers before a place let them go
pub record AreHalfGone (view : View) (dead : List ℕ) (at : ℕ) (servers : List Server) : Type 0 where
  pub many : length servers ≡ length view.trees
  pub index : (index : ℕ) (server : Server) → slice_get servers index ≡ Some server → server.index ≡ index
  pub before : (index : ℕ) (server : Server) → index < at → slice_get servers index ≡ Some server → HoldsAt (without_in view dead) server
  pub later : (index : ℕ) (server : Server) → at ≤ index → slice_get servers index ≡ Some server → HoldsAt view server

pub none_gone : (view : View) (dead : List ℕ) (servers : List Server) → HoldsEach view servers → AreHalfGone view dead 0 servers
none_gone view dead servers h = record {
  many = h.many;
  index = h.index;
  before = λ index server low e. absurd (omega (arith, low));
  later = λ index server low e. h.each index server e;
}

pub all_gone : (view : View) (dead : List ℕ) (at : ℕ) (servers : List Server) → length servers ≤ at → AreHalfGone view dead at servers → HoldsEach (without_in view dead) servers
all_gone view dead at servers over h = record {
  many = h.many;
  index = h.index;
  each = λ index server e. let within = slice_get_within servers index server e in h.before index server (omega (arith, over, within)) e;
}

pub one_gone : (view : View) (dead : List ℕ) (at : ℕ) (servers : List Server) (old new : Server) → AreHalfGone view dead at servers → slice_get servers at ≡ Some old → new.index ≡ old.index →
    (HoldsAt view old → HoldsAt (without_in view dead) new) → AreHalfGone view dead (at + 1) (set servers at new)
one_gone view dead at servers old new h there same goes = record {
  many = length-set servers at new ∙ h.many;
  index = λ index server e. by_index index server (set_cases servers at new index server e);
  before = λ index server low e. by_before index server low (set_cases servers at new index server e);
  later = λ index server high e. by_later index server high (set_cases servers at new index server e);
} where
  by_index : (index : ℕ) (server : Server) → ((index ≡ at) × (server ≡ new)) ⊎ ((index ≢ at) × (slice_get servers index ≡ Some server)) → server.index ≡ index
  by_index index server (inl f) = ap (λ (s : Server). s.index) f.1 ∙ same ∙ h.index at old there ∙ sym f.0
  by_index index server (inr f) = h.index index server f.1

  by_before : (index : ℕ) (server : Server) → index < at + 1 → ((index ≡ at) × (server ≡ new)) ⊎ ((index ≢ at) × (slice_get servers index ≡ Some server)) → HoldsAt (without_in view dead) server
  by_before index server low (inl f) = subst (HoldsAt (without_in view dead)) (sym f.1) (goes (h.later at old (omega arith) there))
  by_before index server low (inr f) = h.before index server (less index low f.0) f.1 where
    less : (i : ℕ) → i < at + 1 → i ≢ at → i < at
    less i low apart = omega (arith, low, apart)

  by_later : (index : ℕ) (server : Server) → at + 1 ≤ index → ((index ≡ at) × (server ≡ new)) ⊎ ((index ≢ at) × (slice_get servers index ≡ Some server)) → HoldsAt view server
  by_later index server high (inl f) = absurd (let e = f.0 in omega (arith, high, e))
  by_later index server high (inr f) = h.later index server (omega (arith, high)) f.1
