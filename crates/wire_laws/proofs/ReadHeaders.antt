-- A header that was written is read.
use Rattle.std.proofs.Common.{◌≡◌, ℕ, ◌^◌, ◌<◌, ◌≤◌, Bool, true, false, not, cond, nat_lt, nat_eq, List, [], ◌∷◌, ◌++◌, length, get_or, Result, Ok, Err, refl, ap, ◌∙◌, append_assoc, length-append, arith}
use Rattle.std.proofs.lemmas.Bool.Decides.{nat_tests}
use Rattle.fidl_wire.specs.declared.faults.WireFault.{WireFault}
use Rattle.fidl_wire.specs.declared.faults.WireWhat.TheVariants.{Short, Magic, Version, Overflow}
use Rattle.fidl_wire.specs.declared.headers.Header.{Header}
use Rattle.fidl_wire.specs.Headers.{header_of, header_bytes, fields_of, flags_of, fault}
use Rattle.fidl_names.specs.Numbers.{number_at, number_bytes}
use Rattle.fidl_wire.specs.Numbers.{has_bit}
use Rattle.wire_laws.proofs.Spelled.{length-number_bytes, number_front, number_behind}

-- the four bytes behind the transaction id
record Flags (m : List ℕ) (w y z : ℕ) : Type 0 where
  pub first : get_or m 4 0 ≡ w
  pub dynamic : get_or m 6 0 ≡ y
  pub magic : get_or m 7 0 ≡ z

flags_at : (a : List ℕ) (w x y z : ℕ) (t : List ℕ) → length a ≡ 4 → Flags (a ++ (w ∷ x ∷ y ∷ z ∷ t)) w y z
flags_at [] w x y z t h = absurd (omega arith)
flags_at (p ∷ []) w x y z t h = absurd (omega arith)
flags_at (p ∷ q ∷ []) w x y z t h = absurd (omega arith)
flags_at (p ∷ q ∷ r ∷ []) w x y z t h = absurd (omega arith)
flags_at (p ∷ q ∷ r ∷ s ∷ []) w x y z t h = record { first = refl; dynamic = refl; magic = refl }
flags_at (p ∷ q ∷ r ∷ s ∷ u ∷ us) w x y z t h = absurd (omega arith)

abbrev checked : Bool → Bool → Bool → Bool → List ℕ → Result Header WireFault
checked short magic version overflow m =
    cond short (Err (fault (length m) Short)) (cond (not magic) (Err (fault 7 Magic)) (cond (not version) (Err (fault 4 Version)) (cond overflow (Err (fault 6 Overflow)) (Ok (fields_of m)))))

flexible_bit : (f : Bool) → has_bit 0x80 (flags_of f) ≡ f
flexible_bit true = refl
flexible_bit false = refl

overflow_bit : (f : Bool) → has_bit 0x40 (flags_of f) ≡ false
overflow_bit true = refl
overflow_bit false = refl

not_short : (n : ℕ) → 16 ≤ n → nat_lt n 16 ≡ false
not_short n h = grind (arith, nat_tests)

pub length-header : (h : Header) → length (header_bytes h) ≡ 16
length-header h = length-three (number_bytes 4 h.txid) (0x02 ∷ 0 ∷ flags_of h.flexible ∷ 1 ∷ []) (number_bytes 8 h.ordinal) (length-number_bytes 4 h.txid) refl (length-number_bytes 8 h.ordinal)
  where
    length-three : (a b c : List ℕ) → length a ≡ 4 → length b ≡ 4 → length c ≡ 8 → length (a ++ b ++ c) ≡ 16
    length-three a b c ha hb hc = omega (arith, length-append (a ++ b) c, length-append a b)

abbrev header_with : ℕ → Bool → ℕ → Header
header_with txid flexible ordinal = record { txid = txid; flexible = flexible; ordinal = ordinal }

pub header_again : (h : Header) (rest : List ℕ) → h.txid < 2 ^ 32 → h.ordinal < 2 ^ 64 → header_of (header_bytes h ++ rest) ≡ Ok h
header_again h rest small_txid small_ordinal =
    let a = number_bytes 4 h.txid in
    let four : List ℕ = 0x02 ∷ 0 ∷ flags_of h.flexible ∷ 1 ∷ [] in
    let b = number_bytes 8 h.ordinal in
    let m = header_bytes h ++ rest in
    let long : 16 ≤ length m = omega (arith, length-append (header_bytes h) rest, length-header h) in
    let front : m ≡ a ++ (four ++ (b ++ rest)) = append_assoc (a ++ four) b rest ∙ append_assoc a four (b ++ rest) in
    let size : length (a ++ four) ≡ 8 = omega (arith, length-append a four, length-number_bytes 4 h.txid) in
    let flags = flags_at a 0x02 0 (flags_of h.flexible) 1 (b ++ rest) (length-number_bytes 4 h.txid) in
    let first : get_or m 4 0 ≡ 0x02 = ap (λ (v : List ℕ). get_or v 4 0) front ∙ flags.first in
    let dynamic : get_or m 6 0 ≡ flags_of h.flexible = ap (λ (v : List ℕ). get_or v 6 0) front ∙ flags.dynamic in
    let magic : get_or m 7 0 ≡ 1 = ap (λ (v : List ℕ). get_or v 7 0) front ∙ flags.magic in
    let txid : number_at 4 0 m ≡ h.txid = ap (number_at 4 0) front ∙ number_front 4 h.txid (four ++ (b ++ rest)) small_txid in
    let ordinal : number_at 8 8 m ≡ h.ordinal = ap (number_at 8 8) (append_assoc (a ++ four) b rest) ∙ number_behind 8 8 (a ++ four) (b ++ rest) size ∙ number_front 8 h.ordinal rest small_ordinal in
    let flexible : has_bit 0x80 (get_or m 6 0) ≡ h.flexible = ap (has_bit 0x80) dynamic ∙ flexible_bit h.flexible in
    ap (λ (s : Bool). checked s (nat_eq (get_or m 7 0) 1) (has_bit 0x02 (get_or m 4 0)) (has_bit 0x40 (get_or m 6 0)) m) (not_short (length m) long)
    ∙ ap (λ (n : ℕ). checked false (nat_eq n 1) (has_bit 0x02 (get_or m 4 0)) (has_bit 0x40 (get_or m 6 0)) m) magic
    ∙ ap (λ (n : ℕ). checked false true (has_bit 0x02 n) (has_bit 0x40 (get_or m 6 0)) m) first
    ∙ ap (λ (v : Bool). checked false true true v m) (ap (has_bit 0x40) dynamic ∙ overflow_bit h.flexible)
    ∙ ap (λ (n : ℕ). told n (has_bit 0x80 (get_or m 6 0)) (number_at 8 8 m)) txid
    ∙ ap (λ (f : Bool). told h.txid f (number_at 8 8 m)) flexible
    ∙ ap (λ (n : ℕ). told h.txid h.flexible n) ordinal
  where
    told : ℕ → Bool → ℕ → Result Header WireFault
    told txid flexible ordinal = Ok (header_with txid flexible ordinal)
