-- What a read gives of the bytes that are left.
use Rattle.std.proofs.Common.{◌≡◌, ℕ, ◌≤◌, List, ◌++◌, length, take, drop, sym, ap, ◌∙◌, take-append-drop}
use Rattle.std.proofs.Math.Seq.{take-append_seam}
use Rattle.std.proofs.lemmas.List.{length-take-le}

-- the buffer begins with the first n bytes that were left
pub front_and_rest : (left buffer filled : List ℕ) (n : ℕ) → n ≤ length left → filled ≡ take n left ++ drop n buffer → left ≡ take n filled ++ drop n left
front_and_rest left buffer filled n h e =
    let long : length (take n left) ≡ n = length-take-le n left h in
    let seam : take n filled ≡ take n left = ap (take n) e ∙ ap (λ k. take k (take n left ++ drop n buffer)) (sym long) ∙ take-append_seam (take n left) (drop n buffer) in
    sym (take-append-drop n left) ∙ ap (λ l. l ++ drop n left) (sym seam)
