-- Parts of a buffer.
use Rattle.std.proofs.Common.{◌≡◌, ℕ, ◌+◌, ◌-◌, ◌≤◌, List, ◌++◌, length, take, drop, sym, ap, ◌∙◌, arith, length-drop}
use Rattle.std.proofs.lemmas.List.{take-append-le, length-take-le, take_at, drop-take}
use Rattle.std.proofs.Math.Seq.{take-append-add}

-- a piece that was read behind the bytes that are kept
pub take_kept_piece : (buffer piece post : List ℕ) (kept n : ℕ) → kept ≤ length buffer → n ≤ length piece
    → take (kept + n) (take kept buffer ++ (piece ++ post)) ≡ take kept buffer ++ take n piece
take_kept_piece buffer piece post kept n p q =
    let e : length (take kept buffer) ≡ kept = length-take-le kept buffer p in
    ap (λ k. take (k + n) (take kept buffer ++ (piece ++ post))) (sym e)
    ∙ take-append-add (take kept buffer) (piece ++ post) n
    ∙ ap (λ l. take kept buffer ++ l) (take-append-le n piece post q)

-- the bytes that are kept without the first of them, in front of anything
pub take_moved : (buffer post : List ℕ) (kept n : ℕ) → kept ≤ length buffer → n ≤ kept
    → take (kept - n) (take (kept - n) (drop n buffer) ++ post) ≡ drop n (take kept buffer)
take_moved buffer post kept n p q =
    let r : kept ≡ n + (kept - n) = omega arith in
    let front : take (kept - n) (drop n buffer) ≡ drop n (take kept buffer) =
    sym (ap (λ k. drop n (take k buffer)) r ∙ drop-take n (kept - n) buffer) in
    let fits : length (take (kept - n) (drop n buffer)) ≡ kept - n = length-take-le (kept - n) (drop n buffer) (omega (arith, length-drop n buffer)) in
    take_at _ _ _ fits ∙ front
