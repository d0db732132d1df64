use Rattle.std.proofs.Common.{◌≤◌, ◌<◌, ◌+◌, ◌*◌, ◌/◌, ℕ, List, length, sym, ap, ◌∙◌, arith, length-drop}
use Rattle.std.proofs.lemmas.List.{take_rest}
use Rattle.link_frames.specs.Numbers.{word_in, words_in}
use Rattle.link_frames.proofs.Words.{length-words_in, get_or-words_in}
use Rattle.link_frames.proofs.frame.HandleBytes.at.Goals as goal

-- a handle's four bytes lie within the bytes
within : (b : List ℕ) (i : ℕ) → i < length (words_in (length b / 4) b) → 4 * i + 4 ≤ length b
within b i h = omega (arith, length-words_in (length b / 4) b)

pub overflow_mul-i : goal.overflow_mul-i
overflow_mul-i c = omega (arith, within c.args.self.bytes.now c.args.i c.requires, c.ranges.self)

pub slice_bounds-word_in-count : goal.slice_bounds-word_in-count
slice_bounds-word_in-count c = omega (arith, within c.args.self.bytes.now c.args.i c.requires)

pub slice_bounds-word_in-start : goal.slice_bounds-word_in-start
slice_bounds-word_in-start c = omega (arith, within c.args.self.bytes.now c.args.i c.requires)

pub word_in-requires : goal.word_in-requires
word_in-requires c =
    let b = c.args.self.bytes.now in
    omega (arith, within b c.args.i c.requires, ap length (take_rest b (4 * c.args.i)), length-drop (4 * c.args.i) b)

pub returns : goal.returns
returns c =
    let b = c.args.self.bytes.now in
    let i = c.args.i in
    let inside : i < length b / 4 = omega (arith, length-words_in (length b / 4) b, c.requires) in
    c.word_in.ensures ∙ (ap word_in (take_rest b (4 * i)) ∙ sym (get_or-words_in (length b / 4) i b 0 inside))
