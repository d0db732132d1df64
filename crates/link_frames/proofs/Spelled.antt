-- One frame: what its spelling reads as, and what a sound fixed part spells.
use Rattle.std.proofs.Common.{◌≡◌, ◌≢◌, ◌⊎◌, ◌<◌, ◌≤◌, ◌+◌, ◌*◌, ◌^◌, ◌&&◌, ℕ, Bool, true, false, cond, eqb, leb, List, [], ◌∷◌, ◌++◌, length, take, drop, get_or, refl, sym, ap, ◌∙◌, arith, length-append, length-drop, append_assoc, inl, inr}
use Rattle.std.specs.Prelude.{Option, Some, None, unwrap_or}
use Rattle.std.specs.List.{flat_map}
use Rattle.std.proofs.lemmas.List.{length-take-le, drop-append-le, get_or-drop, drop-drop, get_or_append_left, take_at, drop_at, append_cancel_left}
use Rattle.std.proofs.lemmas.List.Elements.{All-take, All-drop}
use Rattle.std.proofs.lemmas.Bool.Decides.{nat_tests}
use Rattle.link_frames.specs.declared.kinds.FrameKind.{FrameKind}
use Rattle.link_frames.specs.declared.kinds.FrameKind.TheVariants as kind
use Rattle.link_frames.specs.declared.kinds.FrameReason.TheVariants as reason
use Rattle.link_frames.specs.declared.kinds.Side.{Side}
use Rattle.link_frames.specs.declared.kinds.Side.TheVariants as side
use Rattle.fidl_names.specs.Numbers.{AreBytes, number_at, number_bytes}
use Rattle.link_frames.specs.Numbers.{word_of, half_in, word_in, words_in}
use Rattle.link_frames.specs.Frames.{Frame, number_of, goes_to, keeps_shape, HasShape, IsFrame, fixed_part, spelling, kind_of, reason_of, first_reason, size_of}
use Rattle.link_frames.proofs.Words.{word_in-word_of, word_in-lt, word_in-append, half_in-append, word_of-word_in, words_in-flat_map, length-flat_map_word_of, length-words_in, words_in-lt, take-add, flat_map-words_in}

-- the number of a kind that goes that way is the kind
pub kind_of-number_of : (s : Side) (k : FrameKind) → goes_to s k ≡ true → kind_of s (number_of k) ≡ Some k
kind_of-number_of side.ToServers kind.Message h = refl
kind_of-number_of side.ToServers kind.Close h = refl
kind_of-number_of side.ToServers kind.Turn h = refl
kind_of-number_of side.ToServers kind.Pick h = refl
kind_of-number_of side.ToServers kind.Refused h = cc
kind_of-number_of side.Any kind.Message h = refl
kind_of-number_of side.Any kind.Close h = refl
kind_of-number_of side.Any kind.Turn h = refl
kind_of-number_of side.Any kind.Pick h = refl
kind_of-number_of side.Any kind.Refused h = refl

-- the fixed part and what comes behind it
pub spelling-append : (f : Frame) (more : List ℕ) → spelling f ++ more ≡ fixed_part f.endpoint f.kind (length f.handles) (length f.bytes) ++ (flat_map word_of f.handles ++ (f.bytes ++ more))
spelling-append f more =
    let p = fixed_part f.endpoint f.kind (length f.handles) (length f.bytes) in
    let hs = flat_map word_of f.handles in
    append_assoc (p ++ hs) f.bytes more ∙ append_assoc p hs (f.bytes ++ more)

fixed-kind : (e : ℕ) (k : FrameKind) (h n : ℕ) (t : List ℕ) → get_or (fixed_part e k h n ++ t) 4 0 ≡ number_of k
unfolding number_bytes
fixed-kind e k h n t = refl

fixed-handles : (e : ℕ) (k : FrameKind) (h n : ℕ) (t : List ℕ) → get_or (fixed_part e k h n ++ t) 5 0 ≡ h
unfolding number_bytes
fixed-handles e k h n t = refl

fixed-zeros : (e : ℕ) (k : FrameKind) (h n : ℕ) (t : List ℕ) → half_in (drop 6 (fixed_part e k h n ++ t)) ≡ 0
unfolding number_bytes number_at
fixed-zeros e k h n t = refl

fixed-bytes : (e : ℕ) (k : FrameKind) (h n : ℕ) (t : List ℕ) → n < 2 ^ 32 → word_in (drop 8 (fixed_part e k h n ++ t)) ≡ n
unfolding number_bytes
fixed-bytes e k h n t l = word_in-word_of n t l

fixed-endpoint : (e : ℕ) (k : FrameKind) (h n : ℕ) (t : List ℕ) → e < 2 ^ 32 → word_in (fixed_part e k h n ++ t) ≡ e
unfolding number_bytes
fixed-endpoint e k h n t l = word_in-word_of e (number_of k ∷ h ∷ 0 ∷ 0 ∷ word_of n ++ t) l

fixed-rest : (e : ℕ) (k : FrameKind) (h n : ℕ) (t : List ℕ) → drop 12 (fixed_part e k h n ++ t) ≡ t
unfolding number_bytes
fixed-rest e k h n t = refl

pub length-fixed_part : (e : ℕ) (k : FrameKind) (h n : ℕ) → length (fixed_part e k h n) ≡ 12
unfolding number_bytes
length-fixed_part e k h n = refl

pub length-spelling : (f : Frame) → length (spelling f) ≡ 12 + 4 * length f.handles + length f.bytes
length-spelling f =
    let P = fixed_part f.endpoint f.kind (length f.handles) (length f.bytes) in
    omega (arith, length-append (P ++ flat_map word_of f.handles) f.bytes, length-append P (flat_map word_of f.handles), length-fixed_part f.endpoint f.kind (length f.handles) (length f.bytes), length-flat_map_word_of f.handles)

-- no reason where all is well
no_reason : (k : FrameKind) (h n : ℕ) → HasShape k h n → reason_of (Some k) 0 h n ≡ None
no_reason k h n shape =
    let p : leb h 64 ≡ true = grind (arith, nat_tests, shape.few_handles) in
    let q : leb n 65536 ≡ true = grind (arith, nat_tests, shape.few_bytes) in
    rw (p, q, shape.shape) refl

-- the spelling of a frame has no reason against it
pub first_reason-spelling : (s : Side) (f : Frame) (more : List ℕ) → IsFrame s f → first_reason s (spelling f ++ more) ≡ None
unfolding first_reason
first_reason-spelling s f more is =
    let t = flat_map word_of f.handles ++ (f.bytes ++ more) in
    let h = length f.handles in
    let n = length f.bytes in
    let fits : n < 2 ^ 32 = omega (arith, is.shape.few_bytes) in
    rw (spelling-append f more, fixed-kind f.endpoint f.kind h n t, fixed-handles f.endpoint f.kind h n t, fixed-zeros f.endpoint f.kind h n t, fixed-bytes f.endpoint f.kind h n t fits, kind_of-number_of s f.kind is.way)
    (no_reason f.kind h n is.shape)

-- how long the spelling is stands in it
pub size_of-spelling : (s : Side) (f : Frame) (more : List ℕ) → IsFrame s f → size_of (spelling f ++ more) ≡ length (spelling f)
unfolding size_of
size_of-spelling s f more is =
    let t = flat_map word_of f.handles ++ (f.bytes ++ more) in
    let h = length f.handles in
    let n = length f.bytes in
    let fits : n < 2 ^ 32 = omega (arith, is.shape.few_bytes) in
    rw (spelling-append f more, fixed-handles f.endpoint f.kind h n t, fixed-bytes f.endpoint f.kind h n t fits) (sym (length-spelling f))

-- the frame that stands in front of these bytes
abbrev pub frame_in : Side → List ℕ → Frame
frame_in s b = record {
  endpoint = word_in b;
  kind = unwrap_or (kind_of s (get_or b 4 0)) kind.Message;
  handles = words_in (get_or b 5 0) (drop 12 b);
  bytes = take (word_in (drop 8 b)) (drop (12 + 4 * get_or b 5 0) b);
}

-- a spelled frame reads as itself
pub frame_in-spelling : (s : Side) (f : Frame) (more : List ℕ) → IsFrame s f → frame_in s (spelling f ++ more) ≡ f
frame_in-spelling s f more is =
    let t = flat_map word_of f.handles ++ (f.bytes ++ more) in
    let h = length f.handles in
    let n = length f.bytes in
    let fits : n < 2 ^ 32 = omega (arith, is.shape.few_bytes) in
    let b = fixed_part f.endpoint f.kind h n ++ t in
    let e = fixed-endpoint f.endpoint f.kind h n t is.endpoint in
    let k = ap (kind_of s) (fixed-kind f.endpoint f.kind h n t) ∙ kind_of-number_of s f.kind is.way in
    let hc = fixed-handles f.endpoint f.kind h n t in
    let hs : words_in h (drop 12 b) ≡ f.handles = ap (words_in h) (fixed-rest f.endpoint f.kind h n t) ∙ words_in-flat_map f.handles (f.bytes ++ more) is.handles in
    let bc = fixed-bytes f.endpoint f.kind h n t fits in
    let far : drop (12 + 4 * h) b ≡ f.bytes ++ more =
    sym (drop-drop (4 * h) 12 b) ∙ ap (drop (4 * h)) (fixed-rest f.endpoint f.kind h n t) ∙ drop_at (flat_map word_of f.handles) (f.bytes ++ more) (4 * h) (length-flat_map_word_of f.handles) in
    let bs : take n (drop (12 + 4 * h) b) ≡ f.bytes = ap (take n) far ∙ take_at f.bytes more n refl in
    rw (spelling-append f more, e, k, hc, bc, hs, bs) refl

-- two spellings in front of the same bytes are of one frame, and the rests are the same
pub spelling-injective : (s : Side) (f g : Frame) (t u : List ℕ) → IsFrame s f → IsFrame s g → spelling f ++ t ≡ spelling g ++ u → (f ≡ g) × (t ≡ u)
spelling-injective s f g t u p q e =
    let same : f ≡ g = sym (frame_in-spelling s f t p) ∙ ap (frame_in s) e ∙ frame_in-spelling s g u q in
    (same, append_cancel_left (spelling f) t u (e ∙ ap (λ (x : Frame). spelling x ++ u) (sym same)))

-- the reading of the fixed part looks at the twelve bytes alone
pub first_reason-append : (s : Side) (b more : List ℕ) → 12 ≤ length b → first_reason s (b ++ more) ≡ first_reason s b
unfolding first_reason
first_reason-append s b more long =
    let k = get_or_append_left b more 0 4 (omega arith) in
    let h = get_or_append_left b more 0 5 (omega arith) in
    let z = ap half_in (drop-append-le 6 b more (omega arith)) ∙ half_in-append (drop 6 b) more (omega (arith, length-drop 6 b)) in
    let n = ap word_in (drop-append-le 8 b more (omega arith)) ∙ word_in-append (drop 8 b) more (omega (arith, length-drop 8 b)) in
    rw (k, h, z, n) refl

pub size_of-append : (b more : List ℕ) → 12 ≤ length b → size_of (b ++ more) ≡ size_of b
unfolding size_of
size_of-append b more long =
    let h = get_or_append_left b more 0 5 (omega arith) in
    let n = ap word_in (drop-append-le 8 b more (omega arith)) ∙ word_in-append (drop 8 b) more (omega (arith, length-drop 8 b)) in
    rw (h, n) refl

pub size_of-long : (b : List ℕ) → 12 ≤ size_of b
unfolding size_of
size_of-long b = omega arith

-- all four tests hold where no reason is found
all_hold : (a b c d : Bool) → cond a (cond b (cond c (cond d None (Some reason.Shape)) (Some reason.Bytes)) (Some reason.Handles)) (Some reason.Zero) ≡ None → (a ≡ true) × (b ≡ true) × (c ≡ true) × (d ≡ true)
all_hold true true true true h = (refl, refl, refl, refl)
all_hold true true true false h = cc
all_hold true true false d h = cc
all_hold true false c d h = cc
all_hold false b c d h = cc

-- what no reason says of the fields
pub sound_fields : (o : Option FrameKind) (z h n : ℕ) → reason_of o z h n ≡ None → (k : FrameKind) × (o ≡ Some k) × (z ≡ 0) × HasShape k h n
sound_fields None z h n e = cc
sound_fields (Some k) z h n e =
    let t = all_hold (eqb z 0) (leb h 64) (leb n 65536) (keeps_shape k h n) e in
    (k, refl, grind (arith, nat_tests, t.0), record { few_handles = grind (arith, nat_tests, t.1); few_bytes = grind (arith, nat_tests, t.2); shape = t.3 })

-- which test gave the kind
which_kind : (a b c d e : Bool) (k : FrameKind) → cond a (Some kind.Message) (cond b (Some kind.Close) (cond c (Some kind.Turn) (cond d (Some kind.Pick) (cond e (Some kind.Refused) None)))) ≡ Some k → ((a ≡ true) × (k ≡ kind.Message)) ⊎ (((b ≡ true) × (k ≡ kind.Close)) ⊎ (((c ≡ true) × (k ≡ kind.Turn)) ⊎ (((d ≡ true) × (k ≡ kind.Pick)) ⊎ ((e ≡ true) × (k ≡ kind.Refused)))))
which_kind true b c d e k h = inl (refl, cc)
which_kind false true c d e k h = inr (inl (refl, cc))
which_kind false false true d e k h = inr (inr (inl (refl, cc)))
which_kind false false false true e k h = inr (inr (inr (inl (refl, cc))))
which_kind false false false false true k h = inr (inr (inr (inr (refl, cc))))
which_kind false false false false false k h = cc

both_hold : (a b : Bool) → a && b ≡ true → (a ≡ true) × (b ≡ true)
both_hold true true h = (refl, refl)
both_hold true false h = cc
both_hold false b h = cc

goes_always : (s : Side) (k : FrameKind) → k ≢ kind.Refused → goes_to s k ≡ true
goes_always side.Any k h = refl
goes_always side.ToServers kind.Message h = refl
goes_always side.ToServers kind.Close h = refl
goes_always side.ToServers kind.Turn h = refl
goes_always side.ToServers kind.Pick h = refl
goes_always side.ToServers kind.Refused h = absurd (h refl)

-- a kind's number is its own, and the kind goes that way
pub kind_of-is : (s : Side) (n : ℕ) (k : FrameKind) → kind_of s n ≡ Some k → (n ≡ number_of k) × (goes_to s k ≡ true)
kind_of-is s n k e =
    elim (which_kind (eqb n 1) (eqb n 2) (eqb n 3) (eqb n 4) (eqb n 5 && goes_to s kind.Refused) k e) [
      | inl h ↦ (let m : n ≡ 1 = grind (arith, nat_tests, h.0) in m ∙ ap number_of (sym h.1), goes_always s k (λ r. cc))
      | inr (inl h) ↦ (let m : n ≡ 2 = grind (arith, nat_tests, h.0) in m ∙ ap number_of (sym h.1), goes_always s k (λ r. cc))
      | inr (inr (inl h)) ↦ (let m : n ≡ 3 = grind (arith, nat_tests, h.0) in m ∙ ap number_of (sym h.1), goes_always s k (λ r. cc))
      | inr (inr (inr (inl h))) ↦ (let m : n ≡ 4 = grind (arith, nat_tests, h.0) in m ∙ ap number_of (sym h.1), goes_always s k (λ r. cc))
      | inr (inr (inr (inr h))) ↦
          let both = both_hold (eqb n 5) (goes_to s kind.Refused) h.0 in
          (let m : n ≡ 5 = grind (arith, nat_tests, both.0) in m ∙ ap number_of (sym h.1), ap (goes_to s) h.1 ∙ both.1)
    ]

-- four bytes in front, one by one
four_cells : (b : List ℕ) → 4 ≤ length b → take 4 b ≡ get_or b 0 0 ∷ get_or b 1 0 ∷ get_or b 2 0 ∷ get_or b 3 0 ∷ []
four_cells [] h = absurd (omega arith)
four_cells (a ∷ []) h = absurd (omega arith)
four_cells (a ∷ b ∷ []) h = absurd (omega arith)
four_cells (a ∷ b ∷ c ∷ []) h = absurd (omega arith)
four_cells (a ∷ b ∷ c ∷ d ∷ rest) h = refl

-- a half of zero is two zero bytes
half_zero : (b : List ℕ) → half_in b ≡ 0 → (get_or b 0 0 ≡ 0) × (get_or b 1 0 ≡ 0)
unfolding number_at
half_zero b h = (omega arith, omega arith)

-- a sound fixed part is spelled by its fields
fixed_part-read : (b : List ℕ) (k : FrameKind) → AreBytes b → 12 ≤ length b → get_or b 4 0 ≡ number_of k → half_in (drop 6 b) ≡ 0 → fixed_part (word_in b) k (get_or b 5 0) (word_in (drop 8 b)) ≡ take 12 b
fixed_part-read b k are long kind zeros =
    let first = word_of-word_in b are (omega arith) in
    let last = word_of-word_in (drop 8 b) (All-drop (λ x. x < 256) 8 b are) (omega (arith, length-drop 8 b)) in
    let middle = four_cells (drop 4 b) (omega (arith, length-drop 4 b)) in
    let c0 : get_or (drop 4 b) 0 0 ≡ number_of k = get_or-drop 4 b 0 0 ∙ kind in
    let c1 : get_or (drop 4 b) 1 0 ≡ get_or b 5 0 = get_or-drop 4 b 1 0 in
    let z = half_zero (drop 6 b) zeros in
    let c2 : get_or (drop 4 b) 2 0 ≡ 0 = get_or-drop 4 b 2 0 ∙ (sym (get_or-drop 6 b 0 0) ∙ z.0) in
    let c3 : get_or (drop 4 b) 3 0 ≡ 0 = get_or-drop 4 b 3 0 ∙ (sym (get_or-drop 6 b 1 0) ∙ z.1) in
    let cells : take 4 (drop 4 b) ≡ number_of k ∷ get_or b 5 0 ∷ 0 ∷ 0 ∷ [] = middle ∙ cc in
    rw (first, last, ← cells)
    (ap (λ (l : List ℕ). l ++ take 4 (drop 8 b)) (sym (take-add 4 4 b)) ∙ sym (take-add 8 4 b))

-- what a sound fixed part and enough bytes behind it spell
pub spelling-frame_in : (s : Side) (b : List ℕ) → AreBytes b → 12 ≤ length b → first_reason s b ≡ None → size_of b ≤ length b → IsFrame s (frame_in s b) × (spelling (frame_in s b) ≡ take (size_of b) b)
unfolding first_reason size_of
spelling-frame_in s b are long none whole =
    let h = get_or b 5 0 in
    let n = word_in (drop 8 b) in
    let is = sound_fields (kind_of s (get_or b 4 0)) (half_in (drop 6 b)) h n none in
    let k = is.0 in
    let named : unwrap_or (kind_of s (get_or b 4 0)) kind.Message ≡ k = ap (λ (o : Option FrameKind). unwrap_or o kind.Message) is.1 in
    let by = kind_of-is s (get_or b 4 0) k is.1 in
    let count : length (words_in h (drop 12 b)) ≡ h = length-words_in h (drop 12 b) in
    let many : length (take n (drop (12 + 4 * h) b)) ≡ n = length-take-le n (drop (12 + 4 * h) b) (omega (arith, length-drop (12 + 4 * h) b)) in
    let fixed = fixed_part-read b k are long by.0 is.2 in
    let handles = flat_map-words_in h (drop 12 b) (All-drop (λ x. x < 256) 12 b are) (omega (arith, length-drop 12 b)) in (
      record {
        way = ap (goes_to s) named ∙ by.1;
        shape = rw (named, count, many) is.3;
        endpoint = word_in-lt b are;
        handles = words_in-lt h (drop 12 b) (All-drop (λ x. x < 256) 12 b are);
        bytes = All-take (λ x. x < 256) n (drop (12 + 4 * h) b) (All-drop (λ x. x < 256) (12 + 4 * h) b are);
      },
      rw (named, count, many, fixed, handles)
          (ap (λ (l : List ℕ). l ++ take n (drop (12 + 4 * h) b)) (sym (take-add 12 (4 * h) b)) ∙ sym (take-add (12 + 4 * h) n b)),
    )
