-- Whether bytes are UTF-8.
use Rattle.std.proofs.Common.{◌≡◌, ℕ, ◌+◌, ◌<◌, ◌≤◌, List, length, slice_index, Result, Ok, Err, sym, arith, inl, inr}
use Rattle.std.specs.Prelude.{MatchResult, is_ok}
use Rattle.std.specs.Str.{IsUtf8, is_utf8}
use Rattle.std.proofs.lemmas.Bool.{cases_lt, false_from_ne_true}
use Rattle.std.proofs.lemmas.Str.{IsUtf8-from_ascii, IsUtf8-from_is_utf8, is_utf8-from_IsUtf8}
use Rattle.std.proofs.lemmas.Str.Ascii.{IsAscii-from_all}
use Rattle.std.proofs.lemmas.List.Elements.{All-from_get_or}

-- the greatest of bytes
pub greatest_more : (bytes : List ℕ) (i old new : ℕ) → old ≤ new → slice_index bytes i ≤ new → ((k : ℕ) → k < i → slice_index bytes k ≤ old) → (k : ℕ) → k < i + 1 → slice_index bytes k ≤ new
greatest_more bytes i old new grown here before k below =
    elim (cases_lt k i) [
      | inl lower ↦ let least = before k lower in omega (arith, least, grown)
      | inr at ↦ let same : k ≡ i = omega (arith, at, below) in rw same here
    ]

-- bytes of ASCII are a text
pub low_is_text : (bytes : List ℕ) (top : ℕ) → ((k : ℕ) → k < length bytes → slice_index bytes k ≤ top) → top < 128 → IsUtf8 bytes
low_is_text bytes top all low =
    IsUtf8-from_ascii bytes (IsAscii-from_all bytes (All-from_get_or (λ byte. byte < 128) bytes 0 (λ k below. let least = all k below in omega (arith, least, low))))

-- an answer on UTF-8 is the test's
pub text_test : {A E : Type 0} (r : Result A E) (bytes : List ℕ) (P : A → Type 0) (Q : E → Type 0) →
    MatchResult r (λ s. P s × IsUtf8 bytes) (λ e. (IsUtf8 bytes → ⊥) × Q e) → is_ok r ≡ is_utf8 bytes
text_test (Ok s) bytes P Q h = sym (is_utf8-from_IsUtf8 bytes h.1)
text_test (Err e) bytes P Q h = sym (false_from_ne_true (is_utf8 bytes) (λ yes. h.0 (IsUtf8-from_is_utf8 bytes yes)))
