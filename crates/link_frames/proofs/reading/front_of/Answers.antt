use Rattle.std.proofs.Common.{◌≡◌, ◌≤◌, ℕ, List, ◌++◌, length, drop, slice_index, Option, Some, None, sym, ap, ◌∙◌, arith}
use Rattle.std.proofs.lemmas.List.{length-take-le, take-append-drop}
use Rattle.link_frames.specs.declared.kinds.FrameKind.{FrameKind}
use Rattle.link_frames.specs.declared.kinds.FrameReason.{FrameReason}
use Rattle.link_frames.specs.declared.kinds.Side.{Side}
use Rattle.link_frames.specs.Frames.{spelling, first_reason, kind_of, reason_of, size_of}
use Rattle.link_frames.specs.Numbers.{half_in, word_in}
use Rattle.link_frames.specs.Views.{frame_of}
use Rattle.link_frames.proofs.Words.{are_bytes}
use Rattle.link_frames.proofs.Streams.{begun_partial}
use Rattle.link_frames.proofs.reading.front_of.Goals as goal

-- the reason of a fixed part of a known kind
told : (s : Side) (b : List ℕ) (k : FrameKind) (o : Option FrameReason) → kind_of s (slice_index b 4) ≡ Some k
    → o ≡ reason_of (Some k) (half_in (drop 6 b)) (slice_index b 5) (word_in (drop 8 b)) → first_reason s b ≡ o
unfolding first_reason
told s b k o known is = ap (λ (kind : Option FrameKind). reason_of kind (half_in (drop 6 b)) (slice_index b 5) (word_in (drop 8 b))) known ∙ sym is

pub returns-in-Some : goal.returns-in-Some
returns-in-Some c = λ s known.
    let b = c.args.bytes.now in
    record { whole = c.requires.long; reason = told s b c.args.kind c.reason_in.result known c.reason_in.ensures ∙ c.in-Some.is }

pub returns-then-bytes-size : goal.returns-then-bytes-size
returns-then-bytes-size c = λ s known.
    let b = c.args.bytes.now in
    let none : first_reason s b ≡ None = told s b c.args.kind c.reason_in.result known c.reason_in.ensures ∙ c.in_default.is in
    begun_partial s b (are_bytes b c.type_inv.bytes) (omega (arith, c.requires.long)) none (omega (arith, c.size_of-size.ensures))

pub returns : goal.returns
returns c = λ s known.
    let b = c.args.bytes.now in
    let none : first_reason s b ≡ None = told s b c.args.kind c.reason_in.result known c.reason_in.ensures ∙ c.in_default.is in
    let read = c.view_of.ensures s known none in
    let n = c.size_of-size.result in
    let size : n ≡ size_of b = c.size_of-size.ensures in
    let fits : size_of b ≤ length b = omega (arith, size, c.if-bytes-size.false) in
    record {
      sound = read.0;
      split = sym (take-append-drop (size_of b) b) ∙ (ap (λ (front : List ℕ). front ++ drop (size_of b) b) (sym read.1) ∙ ap (λ (m : ℕ). spelling (frame_of c.view_of.result) ++ drop m b) (sym size));
      size = ap length read.1 ∙ (length-take-le (size_of b) b fits ∙ sym size);
    }
