-- A record in front of some bytes, by the tag that stands there; and that there is but one.
use Rattle.std.proofs.Common.{◌≡◌, ◌<◌, ◌^◌, ℕ, List, [], ◌∷◌, ◌++◌, length, drop, refl, sym, ap, ◌∙◌, arith, length-append, IsTrue}
use Rattle.link_frames.specs.declared.kinds.Side.{Side}
use Rattle.link_frames.specs.declared.kinds.Side.TheVariants as side
use Rattle.link_frames.specs.Frames.{Frame, IsFrame, spelling}
use Rattle.link_frames.specs.Numbers.{word_in, word_of}
use Rattle.link_frames.proofs.Spelled.{spelling-injective}
use Rattle.link_frames.proofs.Words.{drop-word_of, length-word_of, word_in-word_of}
use Rattle.link_audit.specs.Records.{HasNoRecord, IsRecord, Record, comes_in, ends, goes_out, is_answering, is_sending, served, spelling_of}

-- ---- lists of bytes with a tag

pub heads : (a b : ℕ) (x y : List ℕ) → a ∷ x ≡ b ∷ y → a ≡ b
heads a b x y e = cc

pub tails : (a b : ℕ) (x y : List ℕ) → a ∷ x ≡ b ∷ y → x ≡ y
tails a b x y e = cc

-- ---- no record

-- no frame that came in stands behind the tag 0
pub no_in : (body : List ℕ) → ((f : Frame) (more : List ℕ) → IsFrame side.ToServers f → IsTrue (is_sending f.kind) → body ≡ spelling f ++ more → ⊥)
    → HasNoRecord (0 ∷ body)
no_in body none (comes_in f) more front = none f more front.sound.0 front.sound.1 (tails 0 0 body (spelling f ++ more) front.split)
no_in body none (served endpoint) more front = absurd (omega (arith, heads 0 1 body (word_of endpoint ++ more) front.split))
no_in body none (goes_out f) more front = absurd (omega (arith, heads 0 2 body (spelling f ++ more) front.split))
no_in body none ends more front = absurd (omega (arith, heads 0 3 body more front.split))

-- no endpoint behind the tag 1
pub no_served : (body : List ℕ) → length body < 4 → HasNoRecord (1 ∷ body)
no_served body short (comes_in f) more front = absurd (omega (arith, heads 1 0 body (spelling f ++ more) front.split))
no_served body short (served endpoint) more front =
    absurd (omega (arith, short, length-word_of endpoint, simp length-append at (ap length (tails 1 1 body (word_of endpoint ++ more) front.split))))
no_served body short (goes_out f) more front = absurd (omega (arith, heads 1 2 body (spelling f ++ more) front.split))
no_served body short ends more front = absurd (omega (arith, heads 1 3 body more front.split))

-- no frame that went out behind the tag 2
pub no_out : (body : List ℕ) → ((f : Frame) (more : List ℕ) → IsFrame side.Any f → IsTrue (is_answering f.kind) → body ≡ spelling f ++ more → ⊥)
    → HasNoRecord (2 ∷ body)
no_out body none (comes_in f) more front = absurd (omega (arith, heads 2 0 body (spelling f ++ more) front.split))
no_out body none (served endpoint) more front = absurd (omega (arith, heads 2 1 body (word_of endpoint ++ more) front.split))
no_out body none (goes_out f) more front = none f more front.sound.0 front.sound.1 (tails 2 2 body (spelling f ++ more) front.split)
no_out body none ends more front = absurd (omega (arith, heads 2 3 body more front.split))

-- bytes behind the tag 3
pub no_end : (body : List ℕ) → (body ≡ [] → ⊥) → HasNoRecord (3 ∷ body)
no_end body some (comes_in f) more front = absurd (omega (arith, heads 3 0 body (spelling f ++ more) front.split))
no_end body some (served endpoint) more front = absurd (omega (arith, heads 3 1 body (word_of endpoint ++ more) front.split))
no_end body some (goes_out f) more front = absurd (omega (arith, heads 3 2 body (spelling f ++ more) front.split))
no_end body some ends more front = some (tails 3 3 body more front.split ∙ front.last refl)

-- any other tag, and none
pub no_tag : (tag : ℕ) (body : List ℕ) → (tag ≡ 0 → ⊥) → (tag ≡ 1 → ⊥) → (tag ≡ 2 → ⊥) → (tag ≡ 3 → ⊥) → HasNoRecord (tag ∷ body)
no_tag tag body a b c d (comes_in f) more front = a (heads tag 0 body (spelling f ++ more) front.split)
no_tag tag body a b c d (served endpoint) more front = b (heads tag 1 body (word_of endpoint ++ more) front.split)
no_tag tag body a b c d (goes_out f) more front = c (heads tag 2 body (spelling f ++ more) front.split)
no_tag tag body a b c d ends more front = d (heads tag 3 body more front.split)

pub no_bytes : HasNoRecord []
no_bytes (comes_in f) more front = let e : [] ≡ 0 ∷ (spelling f ++ more) = front.split in cc
no_bytes (served endpoint) more front = let e : [] ≡ 1 ∷ (word_of endpoint ++ more) = front.split in cc
no_bytes (goes_out f) more front = let e : [] ≡ 2 ∷ (spelling f ++ more) = front.split in cc
no_bytes ends more front = let e : [] ≡ 3 ∷ more = front.split in cc

-- ---- one record

abbrev pub AreSame : Record → Record → List ℕ → List ℕ → Type 0
AreSame one other more rest = (one ≡ other) × (more ≡ rest)

words_same : (a b : ℕ) (more rest : List ℕ) → a < 2 ^ 32 → b < 2 ^ 32 → word_of a ++ more ≡ word_of b ++ rest → (a ≡ b) × (more ≡ rest)
words_same a b more rest p q e = (
  sym (word_in-word_of a more p) ∙ (ap word_in e ∙ word_in-word_of b rest q),
  sym (drop-word_of a more) ∙ (ap (drop 4) e ∙ drop-word_of b rest),
)

frames_same : (s : Side) (make : Frame → Record) (f g : Frame) (more rest : List ℕ) → IsFrame s f → IsFrame s g → spelling f ++ more ≡ spelling g ++ rest
    → AreSame (make f) (make g) more rest
frames_same s make f g more rest is are e =
    let same = spelling-injective s f g more rest is are e in
    (ap make same.0, same.1)

-- two records in front of the same bytes are one
pub one_front : (one other : Record) (more rest : List ℕ) → IsRecord one → IsRecord other → spelling_of one ++ more ≡ spelling_of other ++ rest
    → AreSame one other more rest
one_front (comes_in f) (comes_in g) more rest p q e = frames_same side.ToServers comes_in f g more rest p.0 q.0 (tails 0 0 (spelling f ++ more) (spelling g ++ rest) e)
one_front (comes_in f) (served b) more rest p q e = absurd (omega (arith, heads 0 1 (spelling f ++ more) (word_of b ++ rest) e))
one_front (comes_in f) (goes_out g) more rest p q e = absurd (omega (arith, heads 0 2 (spelling f ++ more) (spelling g ++ rest) e))
one_front (comes_in f) ends more rest p q e = absurd (omega (arith, heads 0 3 (spelling f ++ more) rest e))
one_front (served a) (comes_in g) more rest p q e = absurd (omega (arith, heads 1 0 (word_of a ++ more) (spelling g ++ rest) e))
one_front (served a) (served b) more rest p q e =
    let same = words_same a b more rest p q (tails 1 1 (word_of a ++ more) (word_of b ++ rest) e) in
    (ap served same.0, same.1)
one_front (served a) (goes_out g) more rest p q e = absurd (omega (arith, heads 1 2 (word_of a ++ more) (spelling g ++ rest) e))
one_front (served a) ends more rest p q e = absurd (omega (arith, heads 1 3 (word_of a ++ more) rest e))
one_front (goes_out f) (comes_in g) more rest p q e = absurd (omega (arith, heads 2 0 (spelling f ++ more) (spelling g ++ rest) e))
one_front (goes_out f) (served b) more rest p q e = absurd (omega (arith, heads 2 1 (spelling f ++ more) (word_of b ++ rest) e))
one_front (goes_out f) (goes_out g) more rest p q e = frames_same side.Any goes_out f g more rest p.0 q.0 (tails 2 2 (spelling f ++ more) (spelling g ++ rest) e)
one_front (goes_out f) ends more rest p q e = absurd (omega (arith, heads 2 3 (spelling f ++ more) rest e))
one_front ends (comes_in g) more rest p q e = absurd (omega (arith, heads 3 0 more (spelling g ++ rest) e))
one_front ends (served b) more rest p q e = absurd (omega (arith, heads 3 1 more (word_of b ++ rest) e))
one_front ends (goes_out g) more rest p q e = absurd (omega (arith, heads 3 2 more (spelling g ++ rest) e))
one_front ends ends more rest p q e = (refl, tails 3 3 more rest e)
