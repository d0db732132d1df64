-- Where all can be taken, and no fault is met, the names are written unless memory runs out.
use Rattle.std.proofs.Common.{◌≡◌, ℕ, List, [], ◌∷◌, ◌++◌, Option, Some, None, length, sym, ap, ◌∙◌, subst, arith, append-nil, append_assoc, length-append, inl}
use Rattle.std.specs.Prelude.{All}
use Rattle.std.specs.Io.KnownBytes.{Consumes, IsAtEnd}
use Rattle.std.proofs.lemmas.List.Elements.{All-head, All-tail}
use Rattle.link_frames.specs.Frames.{Bad, Frame, Frames, spellings}
use Rattle.link_frames.specs.declared.kinds.FrameReason.{FrameReason}
use Rattle.link_frames.specs.declared.kinds.Side.TheVariants.{Any}
use Rattle.link_frames.proofs.Runs.{bad_stays}
use Rattle.link_frames.proofs.Streams.{frames_stay, not_both, one_list}
use Rattle.run_status.specs.Outside.{Streams}
use Rattle.dir_mirror.specs.Copies.{HasBadEvents, HasGoodEvents}
use Rattle.mirror_program.specs.Answers.{Answers, IsBadEvents, IsBadFrame, IsDoneOrNoMemory, IsTakable, IsTooLong, IsTruncated, MetNone}
use Rattle.mirror_program.specs.declared.statuses.MirrorStatus.{MirrorStatus}
use Rattle.mirror_program.specs.declared.statuses.MirrorStatus.TheVariants as status

-- what is left behind the bytes that were taken of a told input
pub untaken : (input taken : List ℕ) (left : Option (List ℕ)) → Consumes (Some input) left taken → (rest : List ℕ) × (input ≡ taken ++ rest) × (IsAtEnd left → rest ≡ [])
untaken input taken None h = absurd h
untaken input taken (Some rest) h = (rest, h, λ e. e)

all_at : (P : Frame → Type 0) (frames : List Frame) (frame : Frame) (later : List Frame) → All P ((frames ++ frame ∷ []) ++ later) → P frame
all_at P [] frame later a = All-head P frame later a
all_at P (f ∷ frames) frame later a = all_at P frames frame later (All-tail P f ((frames ++ frame ∷ []) ++ later) a)

refuted : (endpoint : ℕ) (frame : Frame) → HasGoodEvents endpoint frame → HasBadEvents endpoint frame → ⊥
refuted endpoint frame good bad = let g = good bad.0 in bad.1 g.0 g.1

module _ (endpoint : ℕ) (before after : Streams) (is : IsTakable endpoint before) where
  rest_of : (taken : List ℕ) → Consumes before.left after.left taken → (rest : List ℕ) × (is.whole.input ≡ taken ++ rest) × (IsAtEnd after.left → rest ≡ [])
  rest_of taken took = untaken is.whole.input taken after.left (subst (λ l. Consumes l after.left taken) is.whole.told took)

  not_long : (faults faults' : ℕ) → IsTooLong endpoint before.left after.left faults faults' → ⊥
  not_long faults faults' a =
      let left = rest_of a.taken a.took.took in
      omega (arith, is.whole.few, a.many, ap length left.1, length-append a.taken left.0)

  not_truncated : (faults faults' at : ℕ) → IsTruncated endpoint before.left after.left faults faults' at → ⊥
  not_truncated faults faults' at a =
      let left = rest_of a.taken a.took.took in
      let all : is.whole.input ≡ a.taken = left.1 ∙ ap (λ l. a.taken ++ l) (left.2 a.at_end) ∙ append-nil a.taken in
      a.inside (one_list Any a.taken a.frames is.whole.frames a.rest [] a.took.read (subst (λ b. Frames Any b is.whole.frames []) all is.whole.read)).1

  not_bad : (faults faults' at : ℕ) (why : FrameReason) → IsBadFrame endpoint before.left after.left faults faults' at why → ⊥
  not_bad faults faults' at why a =
      let left = rest_of a.taken a.took in
      not_both Any is.whole.input is.whole.frames [] at why is.whole.read (subst (λ b. Bad Any b at why) (sym left.1) (bad_stays Any a.taken left.0 at why a.bad))

  not_bad_events : (faults faults' at : ℕ) → IsBadEvents endpoint before.left after.left faults faults' at → ⊥
  not_bad_events faults faults' at a =
      let left = rest_of a.taken a.took in
      let frames = a.frames ++ a.frame ∷ [] in
      let front : Frames Any (spellings frames) frames [] = record { split = sym (append-nil (spellings frames)); each = a.each; partial = inl (omega arith) } in
      let all : is.whole.input ≡ spellings frames ++ (a.begins.0 ++ left.0) =
      left.1 ∙ ap (λ l. l ++ left.0) a.begins.1 ∙ append_assoc (spellings frames) a.begins.0 left.0 in
      let on = frames_stay Any (spellings frames) (a.begins.0 ++ left.0) frames is.whole.frames [] [] front (subst (λ b. Frames Any b is.whole.frames []) all is.whole.read) in
      refuted endpoint a.frame (all_at (HasGoodEvents endpoint) a.frames a.frame on.0 (subst (All (HasGoodEvents endpoint)) on.1 is.good)) a.bad

  pub complete : (same : Type 0) → MetNone before after → (answer : MirrorStatus) → Answers endpoint before after same answer → IsDoneOrNoMemory answer
  complete same none status.Done a = tt
  complete same none status.NoMemory a = tt
  complete same none status.WriteFault a = none.sink a.3
  complete same none status.Usage a = a.1
  complete same none status.ReadFault a = none.source a.1.rose
  complete same none (status.BadFrame at why) a = not_bad before.read_faults after.read_faults at why a.1
  complete same none (status.BadEvents at) a = not_bad_events before.read_faults after.read_faults at a.1
  complete same none (status.Truncated at) a = not_truncated before.read_faults after.read_faults at a.1
  complete same none status.InputTooLong a = not_long before.read_faults after.read_faults a.1
