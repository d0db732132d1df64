use Rattle.std.proofs.Common.{◌≡◌, ◌≤◌, length, take, ℕ, ◌+◌, ◌*◌, ◌/◌, List, drop, get_or, sym, ap, ◌∙◌, arith, length-drop, subst, refl}
use Rattle.std.specs.Prelude.{Option, unwrap_or}
use Rattle.std.proofs.lemmas.List.{take_rest, length-take-le, drop-drop}
use Rattle.link_frames.specs.declared.kinds.FrameKind.{FrameKind}
use Rattle.link_frames.specs.declared.kinds.FrameKind.TheVariants as kind
use Rattle.link_frames.specs.Frames.{Frame, IsFrame, spelling, size_of}
use Rattle.link_frames.specs.Numbers.{word_in, words_in}
use Rattle.link_frames.proofs.Words.{are_bytes, quarter, words_in-take}
use Rattle.link_frames.proofs.Spelled.{frame_in, spelling-frame_in}
use Rattle.link_frames.proofs.reading.view_of.Goals as goal

-- the count of handles and of bytes within the frame
counts : (b : List ℕ) (h n : ℕ) → h ≡ get_or b 5 0 → n ≡ word_in (drop 8 b) → size_of b ≤ length b → 12 + 4 * h + n ≤ length b
unfolding size_of
counts b h n eh en whole = omega (arith, eh, en, whole)

pub split_at-requires : goal.split_at-requires
split_at-requires c =
    let b = c.args.bytes.now in
    omega (arith, counts b c.from.result (word_in (drop 8 b)) c.from.ensures refl c.requires.whole, ap length (take_rest b 12), length-drop 12 b)

pub slice_bounds-result-end : goal.slice_bounds-result-end
slice_bounds-result-end c =
    let b = c.args.bytes.now in
    let n : c.word_in-count.result ≡ word_in (drop 8 b) = c.word_in-count.ensures ∙ ap word_in (take_rest b 8) in
    let fits = counts b c.from.result c.word_in-count.result c.from.ensures n c.requires.whole in
    sym (length-take-le c.word_in-count.result c.split_at.result.1.now (omega (arith, fits, c.split_at.ensures.back_len, ap length (take_rest b 12), length-drop 12 b)))

-- a frame by its fields
same_frame : (e e' : ℕ) (k k' : FrameKind) (h h' b b' : List ℕ) → e ≡ e' → k ≡ k' → h ≡ h' → b ≡ b' → let f : Frame = record { endpoint = e; kind = k; handles = h; bytes = b } in let g : Frame = record { endpoint = e'; kind = k'; handles = h'; bytes = b' } in f ≡ g
same_frame e e' k k' h h' b b' p q r s = cc

pub returns : goal.returns
returns c = λ s known none.
    let b = c.args.bytes.now in
    let are = are_bytes b c.type_inv.bytes in
    let read = spelling-frame_in s b are c.requires.long none c.requires.whole in
    let n : c.word_in-count.result ≡ word_in (drop 8 b) = c.word_in-count.ensures ∙ ap word_in (take_rest b 8) in
    let h = c.from.result in
    let fits = counts b h c.word_in-count.result c.from.ensures n c.requires.whole in
    let rest = take_rest b 12 in
    let front : c.split_at.result.0.now ≡ take (4 * h) (drop 12 b) = c.split_at.ensures.front ∙ ap (take (4 * h)) rest in
    let far : c.split_at.result.1.now ≡ drop (12 + 4 * h) b = c.split_at.ensures.back ∙ (ap (drop (4 * h)) rest ∙ drop-drop (4 * h) 12 b) in
    let kinds : c.args.kind ≡ (frame_in s b).kind = sym (ap (λ (o : Option FrameKind). unwrap_or o kind.Message) known) in
    let quarter' : length c.split_at.result.0.now / 4 ≡ h = ap (λ (l : List ℕ). length l / 4) front ∙ (ap (λ (m : ℕ). m / 4) (length-take-le (4 * h) (drop 12 b) (omega (arith, length-drop 12 b, fits))) ∙ quarter h) in
    let handles : words_in (length c.split_at.result.0.now / 4) c.split_at.result.0.now ≡ (frame_in s b).handles =
    ap (λ (m : ℕ). words_in m c.split_at.result.0.now) quarter' ∙ (ap (words_in h) front ∙ (words_in-take h (drop 12 b) (omega (arith, length-drop 12 b, fits)) ∙ ap (λ (m : ℕ). words_in m (drop 12 b)) c.from.ensures)) in
    let bytes : take c.word_in-count.result c.split_at.result.1.now ≡ (frame_in s b).bytes =
    ap (λ (m : ℕ). take m c.split_at.result.1.now) n ∙ (ap (take (word_in (drop 8 b))) far ∙ ap (λ (m : ℕ). take (word_in (drop 8 b)) (drop (12 + 4 * m) b)) c.from.ensures) in
    let same = same_frame _ _ _ _ _ _ _ _ c.word_in.ensures kinds (c.new.ensures ∙ handles) bytes in
    (subst (IsFrame s) (sym same) read.0, ap spelling same ∙ read.1)
