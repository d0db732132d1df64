-- The test of an epitaph tells exactly the bytes that are one.
use Rattle.std.proofs.Common.{◌≡◌, ℕ, ℤ, Bool, true, false, List, refl, sym, ap, ◌∙◌}
use Rattle.std.specs.Prelude.{Some, None, if◌then◌else◌}
use Rattle.std.specs.Int.{w32, cast_signed}
use Rattle.fidl_names.specs.Numbers.{number_at}
use Rattle.fidl_wire.specs.Epitaphs.{IsEpitaph, is_epitaph}
use Rattle.io_client.specs.Taking.{IsNoEpitaph}

-- bytes that the test tells are one
pub epitaph_told : (bytes : List ℕ) → is_epitaph bytes ≡ true → (status : ℤ) × IsEpitaph bytes status
epitaph_told bytes h =
    (cast_signed w32 (number_at 4 16 bytes), ap (λ (b : Bool). if b then Some (cast_signed w32 (number_at 4 16 bytes)) else None) h)

-- an epitaph is told
pub is_told : (bytes : List ℕ) (status : ℤ) → IsEpitaph bytes status → is_epitaph bytes ≡ true
is_told bytes status is = by_test (is_epitaph bytes) is where
  by_test : (told : Bool) → (if told then Some (cast_signed w32 (number_at 4 16 bytes)) else None) ≡ Some status → told ≡ true
  by_test true e = refl
  by_test false e = cc

-- and nothing else is
pub none_told : (bytes : List ℕ) → IsNoEpitaph bytes → is_epitaph bytes ≡ false
none_told bytes none = by_test (is_epitaph bytes) refl where
  by_test : (told : Bool) → is_epitaph bytes ≡ told → told ≡ false
  by_test true e = let one = epitaph_told bytes e in absurd (none one.0 one.1)
  by_test false e = refl

pub not_told : (bytes : List ℕ) → is_epitaph bytes ≡ false → IsNoEpitaph bytes
not_told bytes h = λ status is.
    let told : is_epitaph bytes ≡ true = is_told bytes status is in
    let wrong : false ≡ true = sym h ∙ told in
    absurd (cc)
