-- What a sink got of some bytes, while they are written in several calls.
use Rattle.std.proofs.Common.{◌≡◌, ℕ, ◌-◌, List, [], ◌++◌, Option, length, take, drop, refl, sym, ap, ◌∙◌, append_assoc, append-nil, take-append-drop}
use Rattle.std.proofs.lemmas.List.{take_rest}
use Rattle.std.specs.Io.KnownBytes.{Appends, Keeps}
use Rattle.std.proofs.KnownBytes.{Appends-nil, Appends-trans, Appends-kept}
use Rattle.host_io.specs.Streams.{AppendsPart}

-- a front part of the bytes was written, and the rest is to come
pub record Sent (old new : Option (List ℕ)) (bytes rest : List ℕ) : Type 0 where
  pub part : List ℕ
  pub whole : bytes ≡ part ++ rest
  pub written : Appends old new part

pub Sent-none : (old : Option (List ℕ)) (bytes : List ℕ) → Sent old old bytes bytes
Sent-none old bytes = record { part = []; whole = refl; written = Appends-nil old }

pub Sent-more : (old now new : Option (List ℕ)) (bytes rest : List ℕ) (n : ℕ) → Sent old now bytes rest → Appends now new (take n rest)
    → Sent old new bytes (take (length rest - n) (drop n rest))
Sent-more old now new bytes rest n s a = record {
  part = s.part ++ take n rest;
  whole = rw take_rest (s.whole ∙ ap (λ l. s.part ++ l) (sym (take-append-drop n rest)) ∙ sym (append_assoc s.part (take n rest) (drop n rest)));
  written = Appends-trans old now new s.part (take n rest) s.written a;
}

pub Sent-all : (old new : Option (List ℕ)) (bytes rest : List ℕ) → Sent old new bytes rest → rest ≡ [] → Appends old new bytes
Sent-all old new bytes rest s e =
    let all : s.part ≡ bytes = sym (append-nil s.part) ∙ ap (λ l. s.part ++ l) (sym e) ∙ sym s.whole in
    rw all at s.written

pub Sent-part : (old now new : Option (List ℕ)) (bytes rest : List ℕ) → Sent old now bytes rest → Keeps now new → AppendsPart old new bytes
Sent-part old now new bytes rest s k = (s.part, rest, s.whole, Appends-kept old now new s.part s.written k)
