-- How a session ends.
use Rattle.std.proofs.Common.{◌≡◌, ◌≢◌, ℕ, ◌+◌, ◌<◌, ◌≤◌, min, List, [], ◌∷◌, ◌++◌, Option, length, take, drop, refl, sym, ap, ◌∙◌, subst, arith, append_assoc, append-nil, length-append, ◌⊎◌, inl, inr}
use Rattle.std.proofs.lemmas.List.{take_at}
use Rattle.std.proofs.lemmas.Bool.{cases_lt}
use Rattle.std.specs.Io.KnownBytes.{Appends, Keeps, IsAtEnd}
use Rattle.std.proofs.KnownBytes.{Appends-trans, Appends-nil, Consumes-kept}
use Rattle.fidl_names.specs.declared.limits.TheConstants as limit
use Rattle.host_io.specs.Causes.{Rose}
use Rattle.host_io.specs.Streams.{IsFlushed}
use Rattle.link_frames.specs.Frames.{Frame, Frames, Bad, spellings, IsBadFront, first_reason}
use Rattle.link_frames.specs.declared.kinds.FrameReason.{FrameReason}
use Rattle.link_frames.specs.declared.kinds.Side.{Side}
use Rattle.link_frames.proofs.Spelled.{first_reason-append}
use Rattle.link_frames.proofs.Streams.{not_both}
use Rattle.run_status.specs.declared.statuses.Status.{Status}
use Rattle.run_status.specs.declared.statuses.Status.TheVariants as status
use Rattle.run_status.specs.Outside.{Streams}
use Rattle.run_status.specs.Texts.{PassedOn}
use Rattle.link_session.specs.Pieces.{TakesPiece}
use Rattle.link_session.specs.Serving.{IsGrowing, Heard, HeardPart, Finishes}
use Rattle.link_session.specs.Session.{Course, SessionAnswers, MetNoFault, WroteAll, IsCutOff, EndsBehind}
use Rattle.link_session.proofs.Progress.{Progress, Progress-heard, Grown, IsPassedOn, empty, cut_off, cut_behind, part_so_far, heard_part, keeps_up}

-- a count that rose since later rose since earlier, where it had stayed
pub rose_since : (earlier later now : ℕ) → later ≡ earlier → Rose later now → Rose earlier now
rose_since earlier later now e rose = omega (arith, e, rose)

-- what isn't at least that is less
not_at_least : (a b : ℕ) → (a ≤ b → ⊥) → b < a
not_at_least a b never = elim (cases_lt b a) as (λ _. b < a) [ inl less ↦ less | inr h ↦ absurd (never h) ]

-- one list cut in two ways, of which the second cut lies behind
cut_both : (early late bytes piece : List ℕ) → bytes ++ piece ≡ early ++ late → length early ≤ length bytes
    → (middle : List ℕ) × (bytes ≡ early ++ middle) × (late ≡ middle ++ piece)
cut_both [] late bytes piece e h = (bytes, refl, sym e)
cut_both (x ∷ early) late [] piece e h = absurd (omega (arith, h))
cut_both (x ∷ early) late (y ∷ bytes) piece e h =
    let heads : y ≡ x = cc in
    let tails : bytes ++ piece ≡ early ++ late = cc in
    let rest = cut_both early late bytes piece tails (omega (arith, h)) in
    (rest.0, ap (λ z. z ∷ bytes) heads ∙ ap (λ l. x ∷ l) rest.1, rest.2)

-- what the end adds is written behind all else, and flushed
all_written : (course : Course) (frames : List Frame) (before after : Streams) (written' : Option (List ℕ)) (last : List ℕ)
    → Appends before.written written' (course.so_far frames) → course.by_end frames ≡ course.so_far frames ++ last → PassedOn written' after.written last after.flushed
    → WroteAll before after (course.by_end frames)
all_written course frames before after written' last got e p =
    (subst (Appends before.written after.written) (sym e) (Appends-trans _ _ _ _ _ got p.0), p.1)

module _ (side : Side) where
  -- a fixed part that is bad in front of more bytes is bad alone
  bad_before : (bytes piece : List ℕ) (at : ℕ) (why : FrameReason) → Bad side (bytes ++ piece) at why → at + 12 ≤ length bytes → Bad side bytes at why
  bad_before bytes piece at why bad h =
      let cut = cut_both (spellings bad.frames) bad.tail bytes piece bad.split (omega (arith, bad.place, h)) in
      let long : 12 ≤ length cut.0 = omega (arith, bad.place, h, ap length cut.1, length-append (spellings bad.frames) cut.0) in
      record {
        frames = bad.frames;
        tail = cut.0;
        split = cut.1;
        each = bad.each;
        place = bad.place;
        front = record {
          whole = long;
          reason = sym (first_reason-append side cut.0 piece long) ∙ ap (first_reason side) (sym cut.2) ∙ bad.front.reason;
        };
      }

  -- so the piece that makes a stream bad has the end of the bad fixed part
  pub bad_in_piece : (bytes piece : List ℕ) (frames : List Frame) (rest : List ℕ) (at : ℕ) (why : FrameReason)
      → Frames side bytes frames rest → Bad side (bytes ++ piece) at why → length bytes < at + 12
  bad_in_piece bytes piece frames rest at why read bad =
      not_at_least (at + 12) (length bytes) (λ h. not_both side bytes frames rest at why read (bad_before bytes piece at why bad h))

  -- a read failed
  pub fault : (course : Course) (Stands : List Frame → Type 0) (before after_it : Streams) (same : Type 0) (left' : Option (List ℕ)) (t : ℕ) (kept : List ℕ)
      → (g : Progress side course Stands before.left left' before.written after_it.written t kept) → t < limit.MAX_INPUT → Keeps left' after_it.left
      → ((t ≡ 0) × same) ⊎ IsFlushed after_it.written after_it.flushed → Rose before.read_faults after_it.read_faults
      → after_it.write_faults ≡ before.write_faults → SessionAnswers side course before after_it same status.ReadFault
  fault course Stands before after_it same left' t kept g few kept_it flushed rose sink = record {
    taken = g.bytes;
    frames = g.frames;
    rest = kept;
    took = Consumes-kept before.left left' after_it.left g.bytes g.took kept_it;
    few = omega (arith, g.size, few);
    read = g.read;
    wrote = g.got;
    flushed = elim flushed as (λ _. ((g.bytes ≡ []) × same) ⊎ IsFlushed after_it.written after_it.flushed)
        [ inl none ↦ inl (empty g.bytes (g.size ∙ none.0), none.1) | inr all ↦ inr all ];
    rose = rose;
    sink = sink;
  }

  module _ (course : Course) (grows : IsGrowing course) (Stands : List Frame → Type 0) (before after_it : Streams) (same : Type 0)
      (source : after_it.read_faults ≡ before.read_faults) where
    -- a part of the output for frames behind those that were answered is written
    pub unheard : (left' written' : Option (List ℕ)) (t n : ℕ) (kept kept' : List ℕ)
        → (g : Progress side course Stands before.left left' before.written written' t kept) → TakesPiece left' after_it.left kept kept' n → n ≤ min after_it.last limit.MAX_PIECE
        → t + n ≤ limit.MAX_INPUT → IsPassedOn side course before.written g.bytes g.frames after_it.flushed
        → HeardPart side course g.frames kept' written' after_it.written → IsCutOff side course before after_it
    unheard left' written' t n kept kept' g piece last within passed h =
        cut_off side course grows Stands before after_it left' written' t n kept kept' g piece last within passed source h

    -- the end behind all frames that were taken: it is written whole, or in part, or wants memory
    ends : (written' : Option (List ℕ)) (t : ℕ) (kept : List ℕ) (wanted : Status) (faults : ℕ)
        → (g : Progress side course Stands before.left after_it.left before.written written' t kept) → t ≤ limit.MAX_INPUT
        → EndsBehind side g.bytes (IsAtEnd after_it.left) g.frames
        → IsPassedOn side course before.written g.bytes g.frames after_it.flushed → faults ≡ before.write_faults
        → (MetNoFault before after_it → (last : List ℕ) → course.by_end g.frames ≡ course.so_far g.frames ++ last → PassedOn written' after_it.written last after_it.flushed
        → SessionAnswers side course before after_it same wanted)
        → (answer : Status) → Finishes course g.frames wanted [] written' after_it.written after_it.flushed faults after_it.write_faults answer
        → SessionAnswers side course before after_it same answer
    ends written' t kept wanted faults g within ended passed still done answer (inl f) =
        subst (SessionAnswers side course before after_it same) (sym f.0) (done (record { source = source; sink = f.1 ∙ still }) f.2.0 f.2.1 f.2.2)
    ends written' t kept wanted faults g within ended passed still done answer (inr (inl f)) =
        subst (SessionAnswers side course before after_it same) (sym f.0) (
          cut_behind side course grows Stands before after_it written' t kept f.2.2.0 g within
              (inr (record {
                frames = g.frames;
                ends = ended;
                lawful = (f.2.2.1, f.2.1 ∙ ap (λ l. course.so_far g.frames ++ l) f.2.2.2 ∙ sym (append_assoc (course.so_far g.frames) f.2.2.0 f.2.2.1));
              })) f.2.2.3 passed source,
          rose_since before.write_faults faults after_it.write_faults still f.1,
        )
    ends written' t kept wanted faults g within ended passed still done answer (inr (inr f)) =
        subst (SessionAnswers side course before after_it same) (sym f.0) (
          f.1,
          cut_behind side course grows Stands before after_it written' t kept [] g within
              (inl (part_so_far side course g.bytes kept g.frames g.read)) (subst (λ w. Appends written' w []) (sym f.3) (Appends-nil written'))
              passed source,
          f.2 ∙ still,
        )

    -- the input ended between frames
    pub ended_whole : (written' : Option (List ℕ)) (t : ℕ) (kept : List ℕ) (faults : ℕ) → kept ≡ []
        → (g : Progress side course Stands before.left after_it.left before.written written' t kept) → t < limit.MAX_INPUT → IsAtEnd after_it.left
        → IsPassedOn side course before.written g.bytes g.frames after_it.flushed → faults ≡ before.write_faults
        → (answer : Status) → Finishes course g.frames status.Done [] written' after_it.written after_it.flushed faults after_it.write_faults answer
        → SessionAnswers side course before after_it same answer
    ended_whole written' t kept faults none g few end passed still =
        ends written' t kept status.Done faults g (omega (arith, few)) (inl (kept, g.read, inl end)) passed still
        (λ calm last e p. record {
          taken = g.bytes;
          frames = g.frames;
          took = g.took;
          few = omega (arith, g.size, few);
          read = subst (Frames side g.bytes g.frames) none g.read;
          at_end = end;
          wrote = all_written course g.frames before after_it written' last g.got e p;
          faultless = calm;
        })

    -- or inside the frame that begins there
    pub ended_inside : (written' : Option (List ℕ)) (t : ℕ) (kept : List ℕ) (faults at : ℕ) → kept ≢ [] → at + length kept ≡ t
        → (g : Progress side course Stands before.left after_it.left before.written written' t kept) → t < limit.MAX_INPUT → IsAtEnd after_it.left
        → IsPassedOn side course before.written g.bytes g.frames after_it.flushed → faults ≡ before.write_faults
        → (answer : Status) → Finishes course g.frames (status.Truncated at) [] written' after_it.written after_it.flushed faults after_it.write_faults answer
        → SessionAnswers side course before after_it same answer
    ended_inside written' t kept faults at some place g few end passed still =
        ends written' t kept (status.Truncated at) faults g (omega (arith, few)) (inl (kept, g.read, inl end)) passed still
        (λ calm last e p. record {
          taken = g.bytes;
          frames = g.frames;
          rest = kept;
          took = g.took;
          few = omega (arith, g.size, few);
          read = g.read;
          inside = some;
          place = omega (arith, place, g.size);
          at_end = end;
          wrote = all_written course g.frames before after_it written' last g.got e p;
          faultless = calm;
        })

    -- as many bytes were taken as one session takes
    pub long : (written' : Option (List ℕ)) (t : ℕ) (kept : List ℕ) (faults : ℕ)
        → (g : Progress side course Stands before.left after_it.left before.written written' t kept) → t ≡ limit.MAX_INPUT
        → IsPassedOn side course before.written g.bytes g.frames after_it.flushed → faults ≡ before.write_faults
        → (answer : Status) → Finishes course g.frames status.InputTooLong [] written' after_it.written after_it.flushed faults after_it.write_faults answer
        → SessionAnswers side course before after_it same answer
    long written' t kept faults g many passed still =
        ends written' t kept status.InputTooLong faults g (omega (arith, many)) (inl (kept, g.read, inr (g.size ∙ many))) passed still
        (λ calm last e p. record {
          taken = g.bytes;
          frames = g.frames;
          rest = kept;
          took = g.took;
          many = g.size ∙ many;
          read = g.read;
          wrote = all_written course g.frames before after_it written' last g.got e p;
          faultless = calm;
        })

    -- what the bytes are, of which the fixed part behind the frames is bad
    pub record BadAt (bytes : List ℕ) (frames : List Frame) (at : ℕ) (why : FrameReason) : Type 0 where
      pub bad : Bad side bytes at why
      pub before_it : Frames side (take at bytes) frames []

    bad_at : (Stands' : List Frame → Type 0) (left left' written written'' : Option (List ℕ)) (t at : ℕ) (why : FrameReason) (held rest : List ℕ)
        → (grown : Grown side course Stands' left left' written written'' t held rest) → IsBadFront side rest why → at + length rest ≡ t
        → BadAt grown.bytes grown.frames at why
    bad_at Stands' left left' written written'' t at why held rest grown bad place =
        let front : length (spellings grown.frames) ≡ at = omega (arith, ap length grown.split, length-append (spellings grown.frames) rest, grown.size, place) in
        record {
          bad = record { frames = grown.frames; tail = rest; split = grown.split; each = grown.each; place = front; front = bad };
          before_it = record {
            split = ap (take at) grown.split ∙ take_at (spellings grown.frames) rest at front ∙ sym (append-nil (spellings grown.frames));
            each = grown.each;
            partial = inl (omega arith);
          };
        }

    -- a bad frame
    pub bad : (Stands' : List Frame → Type 0) (left' written' written'' : Option (List ℕ)) (t n k at : ℕ) (why : FrameReason) (kept kept' held : List ℕ) (faults : ℕ)
        → (g : Progress side course Stands before.left left' before.written written' t kept) → TakesPiece left' after_it.left kept kept' n → n ≤ min after_it.last limit.MAX_PIECE
        → t + n ≤ limit.MAX_INPUT → IsPassedOn side course before.written g.bytes g.frames after_it.flushed → faults ≡ before.write_faults
        → (h : Heard side course Stands' g.frames kept' written' written'' held k) → IsBadFront side (drop k kept') why → at + length (drop k kept') ≡ t + n
        → (answer : Status)
        → Finishes course (g.frames ++ h.frames) (status.BadFrame at why) held written'' after_it.written after_it.flushed faults after_it.write_faults answer
        → SessionAnswers side course before after_it same answer
    unfolding Progress-heard
    bad Stands' left' written' written'' t n k at why kept kept' held faults g piece last within passed still h front place answer (inl f) =
        let grown = Progress-heard side course Stands Stands' _ _ _ _ _ _ t n k kept kept' held g piece h in
        let is = bad_at Stands' _ _ _ _ (t + n) at why held (drop k kept') grown front place in
        let near = bad_in_piece g.bytes piece.0 g.frames kept at why g.read is.bad in
        subst (SessionAnswers side course before after_it same) (sym f.0) (record {
          taken = grown.bytes;
          frames = grown.frames;
          took = grown.took;
          within = omega (arith, grown.size, within);
          near = omega (arith, grown.size, g.size, near, last);
          bad = is.bad;
          before_it = is.before_it;
          wrote = (
            subst (Appends before.written after_it.written)
                (sym (append_assoc grown.passed.0 held f.2.0) ∙ ap (λ l. l ++ f.2.0) grown.passed.2 ∙ sym f.2.1)
                (Appends-trans _ _ _ _ _ grown.passed.1 f.2.2.0),
            f.2.2.1,
          );
          faultless = record { source = source; sink = f.1 ∙ still };
        })
    bad Stands' left' written' written'' t n k at why kept kept' held faults g piece last within passed still h front place answer (inr (inl f)) =
        let grown = Progress-heard side course Stands Stands' _ _ _ _ _ _ t n k kept kept' held g piece h in
        let is = bad_at Stands' _ _ _ _ (t + n) at why held (drop k kept') grown front place in
        let part = h.passed.0 ++ f.2.2.0 in
        subst (SessionAnswers side course before after_it same) (sym f.0) (
          record {
            taken = grown.bytes;
            part = course.so_far g.frames ++ part;
            took = grown.took;
            within = omega (arith, grown.size, within);
            lawful = inr (record {
              frames = grown.frames;
              ends = inr (at, why, is.bad, is.before_it);
              lawful = (
                f.2.2.1,
                f.2.1 ∙ ap (λ l. l ++ f.2.0) (sym grown.passed.2) ∙ append_assoc grown.passed.0 held f.2.0
                    ∙ ap (λ l. grown.passed.0 ++ l) f.2.2.2 ∙ sym (append_assoc grown.passed.0 f.2.2.0 f.2.2.1)
                    ∙ ap (λ l. l ++ f.2.2.1) (append_assoc (course.so_far g.frames) h.passed.0 f.2.2.0),
              );
            });
            keeps_up = keeps_up side course grows before after_it g.bytes piece.0 kept part g.frames g.read (omega (arith, piece.3, last)) passed;
            wrote = Appends-trans _ _ _ _ _ g.got (Appends-trans _ _ _ _ _ h.passed.1 f.2.2.3);
            source = source;
          },
          rose_since before.write_faults faults after_it.write_faults still f.1,
        )
    bad Stands' left' written' written'' t n k at why kept kept' held faults g piece last within passed still h front place answer (inr (inr f)) =
        subst (SessionAnswers side course before after_it same) (sym f.0) (
          f.1,
          unheard left' written' t n kept kept' g piece last within passed
              (heard_part side course Stands' g.frames kept' written' written'' after_it.written held k h
              ([], held, refl, subst (λ w. Appends written'' w []) (sym f.3) (Appends-nil written''))),
          f.2 ∙ still,
        )
