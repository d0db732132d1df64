use Rattle.std.proofs.Common.{◌≡◌, ◌∙◌, ℕ, List, ◌++◌, length, ap, append_assoc, arith}
use Rattle.std.specs.List.{flat_map}
use Rattle.link_frames.specs.Frames.{fixed_part}
use Rattle.link_frames.specs.Gathering.{Gathered}
use Rattle.link_frames.specs.Numbers.{word_of}
use Rattle.link_frames.proofs.outbox.FrameRoom.put_frame.Goals as goal

three_parts : (old first second third : Gathered) (a b d : List ℕ) → first.bytes ≡ old.bytes ++ a → second.bytes ≡ first.bytes ++ b → third.bytes ≡ second.bytes ++ d → third.size ≡ old.size →
    third ≡ record old { bytes = old.bytes ++ (a ++ b ++ d) }
three_parts old first second third a b d p q r same =
    let bytes : third.bytes ≡ old.bytes ++ (a ++ b ++ d) =
    r ∙ ap (λ xs. xs ++ d) (q ∙ ap (λ xs. xs ++ b) p ∙ append_assoc old.bytes a b) ∙ append_assoc old.bytes (a ++ b) d in
    let by_bytes : List ℕ → Gathered = λ bytes. record { bytes = bytes; size = third.size } in
    let by_size : ℕ → Gathered = λ size. record { bytes = old.bytes ++ (a ++ b ++ d); size = size } in
    ap by_bytes bytes ∙ ap by_size same

pub returns : goal.returns
returns c =
    let first = c.put_fixed_part.ensures in
    let second = c.put_words.ensures in
    let third = c.put_bytes.ensures in
    record {
      written = three_parts c.args.self.now c.put_fixed_part.new.self c.put_words.new.self c.put_bytes.new.self (fixed_part c.args.endpoint c.args.kind (length c.args.handles.now) (length c.args.bytes.now)) (flat_map word_of c.args.handles.now) c.args.bytes.now
          first.bytes second.bytes third.bytes (third.size ∙ second.size ∙ first.size);
      len = omega (arith, first.len, second.len, third.len);
    }
