-- The parts of a line, one after another.
use Rattle.std.proofs.Common.{◌≡◌, ℕ, suc, ◌<◌, List, [], ◌∷◌, ◌++◌, length, take, drop, get_or, sym, ap, ◌∙◌, append_assoc, append-nil}
use Rattle.std.proofs.Math.Seq.{split_at}
use Rattle.std.proofs.lemmas.List.Concat.{flat_map-append}
use Rattle.std.specs.List.{flat_map}

pub three : (a b c : List ℕ) → a ++ (b ++ (c ++ [])) ≡ a ++ b ++ c
three a b c = ap (λ l. a ++ (b ++ l)) (append-nil c) ∙ sym (append_assoc a b c)

pub five : (a b c d e : List ℕ) → a ++ (b ++ (c ++ (d ++ (e ++ [])))) ≡ a ++ b ++ c ++ d ++ e
five a b c d e =
    ap (λ l. a ++ (b ++ l)) (ap (λ l. c ++ l) (ap (λ l. d ++ l) (append-nil e)) ∙ sym (append_assoc c d e))
    ∙ sym (append_assoc a b (c ++ d ++ e)) ∙ sym (append_assoc (a ++ b) (c ++ d) e) ∙ ap (λ l. l ++ e) (sym (append_assoc (a ++ b) c d))

-- a front of one part is, behind the parts before it, a front of all
pub front_of_part : {X : Type 0} (f : X → List ℕ) (parts : List X) (i : ℕ) (d : X) (front rest : List ℕ) → i < length parts → f (get_or parts i d) ≡ front ++ rest
    → flat_map f parts ≡ (flat_map f (take i parts) ++ front) ++ (rest ++ flat_map f (drop (suc i) parts))
front_of_part f parts i d front rest h e =
    ap (flat_map f) (split_at parts i d h) ∙ flat_map-append f (take i parts) (get_or parts i d ∷ drop (suc i) parts)
    ∙ ap (λ l. flat_map f (take i parts) ++ (l ++ flat_map f (drop (suc i) parts))) e
    ∙ ap (λ l. flat_map f (take i parts) ++ l) (append_assoc front rest (flat_map f (drop (suc i) parts)))
    ∙ sym (append_assoc (flat_map f (take i parts)) front (rest ++ flat_map f (drop (suc i) parts)))
