-- Where in a list of frames one stands: the one that carries a number, and the one that sent what is among the last.
use Rattle.std.proofs.Common.{◌≡◌, ℕ, zero, suc, ◌≤◌, ◌||◌, ◌⊎◌, Bool, true, false, List, [], ◌∷◌, ◌++◌, length, Option, Some, None, Contains, refl, sym, ap, ◌∙◌, subst, inl, inr, append_assoc, arith}
use Rattle.std.specs.List.{list_any}
use Rattle.std.specs.Prelude.{option_to_list}
use Rattle.std.proofs.lemmas.Bool.{cases_Bool, or_cases, true≢false}
use Rattle.std.proofs.lemmas.List.Elements.{Contains-append_cases}
use Rattle.link_frames.specs.Frames.{Frame}
use Rattle.link_admission.specs.Numbering.{among}
use Rattle.vfs_journal.specs.Entries.{Sending}
use Rattle.vfs_journal.specs.Starts.{Start}
use Rattle.journal_laws.proofs.Members.{contains_cases, contains_none}
use Rattle.turn_law.specs.Counting.{before, counting, counts_on, is_named, last_sendings}
use Rattle.turn_law.specs.Premises.{HandlesStandOnce}
use Rattle.turn_law.specs.Told.{sending_by}
use Rattle.turn_law.proofs.Arriving.{before_counted}
use Rattle.turn_law.proofs.Counted.{before_later, sends_later, sends_more}
use Rattle.turn_law.proofs.Heads.{sendings_few}
use Rattle.turn_law.proofs.Linked.{once_carried}
use Rattle.turn_law.proofs.LinkedSteps.{fewer_once}

-- ---- who carries a number

carried_in : (n : ℕ) (later : List Frame) (frame : Frame) (earlier : List Frame) → among n frame.handles ≡ true → list_any (λ f. among n f.handles) (later ++ frame ∷ earlier) ≡ true
carried_in n [] frame earlier h = ap (λ (b : Bool). b || list_any (λ f. among n f.handles) earlier) h
carried_in n (f ∷ later) frame earlier h = ap (λ (b : Bool). among n f.handles || b) (carried_in n later frame earlier h) ∙ or_true (among n f.handles) where
  or_true : (b : Bool) → (b || true) ≡ true
  or_true true = refl
  or_true false = refl

heads_same : {x y : Frame} {xs ys : List Frame} → x ∷ xs ≡ y ∷ ys → x ≡ y
heads_same e = cc

tails_same : {x y : Frame} {xs ys : List Frame} → x ∷ xs ≡ y ∷ ys → xs ≡ ys
tails_same e = cc

-- one frame carries a number, and it stands at one place
pub one_carrier : (n : ℕ) (later other_later : List Frame) (frame other : Frame) (earlier other_earlier : List Frame) → HandlesStandOnce (later ++ frame ∷ earlier) →
    later ++ frame ∷ earlier ≡ other_later ++ other ∷ other_earlier → among n frame.handles ≡ true → among n other.handles ≡ true → (frame ≡ other) × (earlier ≡ other_earlier)
one_carrier n [] [] frame other earlier other_earlier once same h g = (heads_same same, tails_same same)
one_carrier n [] (f ∷ later) frame other earlier other_earlier once same h g =
    absurd (true≢false (sym (carried_in n later other other_earlier g) ∙ ap (list_any (λ f. among n f.handles)) (sym (tails_same same)) ∙ once_carried n frame earlier once h))
one_carrier n (f ∷ later) [] frame other earlier other_earlier once same h g =
    absurd (true≢false (sym (carried_in n later frame earlier h)
    ∙ once_carried n f (later ++ frame ∷ earlier) once (ap (λ (x : Frame). among n x.handles) (heads_same same) ∙ g)))
one_carrier n (f ∷ later) (f' ∷ other_later) frame other earlier other_earlier once same h g =
    one_carrier n later other_later frame other earlier other_earlier (fewer_once f (later ++ frame ∷ earlier) once) (tails_same same) h g

-- the frame that carries a number
pub record IsCarriedIn (n : ℕ) (frames : List Frame) : Type 0 where
  pub later : List Frame
  pub frame : Frame
  pub earlier : List Frame
  pub split : frames ≡ later ++ frame ∷ earlier
  pub carries : among n frame.handles ≡ true

pub carrier_in : (n : ℕ) (frames : List Frame) → list_any (λ f. among n f.handles) frames ≡ true → IsCarriedIn n frames
carrier_in n [] h = absurd (cc)
carrier_in n (f ∷ frames) h = by_side (carrier_in n frames) (or_cases (among n f.handles) (list_any (λ f. among n f.handles) frames) h) where
  by_side : (list_any (λ g. among n g.handles) frames ≡ true → IsCarriedIn n frames) → (among n f.handles ≡ true) ⊎ (list_any (λ g. among n g.handles) frames ≡ true) → IsCarriedIn n (f ∷ frames)
  by_side rest (inl g) = record { later = []; frame = f; earlier = frames; split = refl; carries = g }
  by_side rest (inr g) =
      let old = rest g in
      record { later = f ∷ old.later; frame = old.frame; earlier = old.earlier; split = ap (λ (fs : List Frame). f ∷ fs) old.split; carries = old.carries }

-- ---- who sent what is among the last

pub before_tail : (start : Start) (n ahead : ℕ) (frames : List Frame) → (mid : List Frame) × (frames ≡ mid ++ before start n ahead frames)
unfolding before
before_tail start n zero frames = ([], refl)
before_tail start n (suc ahead) [] = ([], refl)
before_tail start n (suc ahead) (frame ∷ frames) = by_test (λ k. before_tail start n k frames) (cases_Bool (counts_on start n frames frame)) where
  whole : (mid base : List Frame) → frames ≡ mid ++ base → before start n (suc ahead) (frame ∷ frames) ≡ base → (mid' : List Frame) × (frame ∷ frames ≡ mid' ++ before start n (suc ahead) (frame ∷ frames))
  whole mid base e is = (frame ∷ mid, ap (λ (fs : List Frame). frame ∷ fs) (e ∙ ap (λ (fs : List Frame). mid ++ fs) (sym is)))

  by_test : ((k : ℕ) → (mid : List Frame) × (frames ≡ mid ++ before start n k frames)) → (counts_on start n frames frame ≡ true) ⊎ (counts_on start n frames frame ≡ false) →
      (mid : List Frame) × (frame ∷ frames ≡ mid ++ before start n (suc ahead) (frame ∷ frames))
  by_test tail (inl counts) = let rest = tail ahead in whole rest.0 (before start n ahead frames) rest.1 (before_counted start n ahead frame frames counts)
  by_test tail (inr uncounted) = let rest = tail (suc ahead) in whole rest.0 (before start n (suc ahead) frames) rest.1 (before_later start n ahead frame frames uncounted)

-- a frame that sent something stands behind these
pub record IsSentBehind (frames base : List Frame) (sending : Sending) : Type 0 where
  pub later : List Frame
  pub frame : Frame
  pub earlier : List Frame
  pub split : frames ≡ later ++ frame ∷ earlier
  pub sends : sending_by frame.kind frame ≡ Some sending
  pub mid : List Frame
  pub behind : earlier ≡ mid ++ base

none_sent : (start : Start) (n : ℕ) (frames : List Frame) → last_sendings start n zero frames ≡ []
none_sent start n frames = by_length (last_sendings start n zero frames) (sendings_few start n zero frames).0 where
  by_length : (ss : List Sending) → length ss ≤ zero → ss ≡ []
  by_length [] h = refl
  by_length (s ∷ ss) h = absurd (omega (arith, h))

option_has : (o : Option Sending) (sending : Sending) → Contains (option_to_list o) sending → o ≡ Some sending
option_has None sending h = absurd (contains_none sending h)
option_has (Some s) sending h = by_case (contains_cases sending s [] h) where
  by_case : (s ≡ sending) ⊎ Contains [] sending → Some s ≡ Some sending
  by_case (inl e) = ap Some e
  by_case (inr none) = absurd (contains_none sending none)

later_sent : (frame : Frame) (frames base : List Frame) (sending : Sending) → IsSentBehind frames base sending → IsSentBehind (frame ∷ frames) base sending
later_sent frame frames base sending old = record {
  later = frame ∷ old.later;
  frame = old.frame;
  earlier = old.earlier;
  split = ap (λ (fs : List Frame). frame ∷ fs) old.split;
  sends = old.sends;
  mid = old.mid;
  behind = old.behind;
}

pub sent_behind_those : (start : Start) (n ahead : ℕ) (frames : List Frame) (sending : Sending) → Contains (last_sendings start n ahead frames) sending → IsSentBehind frames (before start n ahead frames) sending
unfolding before counting
sent_behind_those start n zero frames sending h = absurd (contains_none sending (subst (λ (ss : List Sending). Contains ss sending) (none_sent start n frames) h))
sent_behind_those start n (suc ahead) [] sending h = absurd (contains_none sending h)
sent_behind_those start n (suc ahead) (frame ∷ frames) sending h = by_test (λ k g. sent_behind_those start n k frames sending g) (cases_Bool (counts_on start n frames frame)) where
  by_place : ((k : ℕ) → Contains (last_sendings start n k frames) sending → IsSentBehind frames (before start n k frames) sending) → counts_on start n frames frame ≡ true → Contains (last_sendings start n ahead frames) sending ⊎ Contains (option_to_list (sending_by frame.kind frame)) sending → IsSentBehind (frame ∷ frames) (before start n (suc ahead) (frame ∷ frames)) sending
  by_place those counts (inl old) =
      subst (λ (base : List Frame). IsSentBehind (frame ∷ frames) base sending) (sym (before_counted start n ahead frame frames counts))
      (later_sent frame frames (before start n ahead frames) sending (those ahead old))
  by_place those counts (inr new) =
      let tail = before_tail start n ahead frames in
      record {
        later = [];
        frame = frame;
        earlier = frames;
        split = refl;
        sends = option_has (sending_by frame.kind frame) sending new;
        mid = tail.0;
        behind = tail.1 ∙ ap (λ (fs : List Frame). tail.0 ++ fs) (sym (before_counted start n ahead frame frames counts));
      }

  by_test : ((k : ℕ) → Contains (last_sendings start n k frames) sending → IsSentBehind frames (before start n k frames) sending) → (counts_on start n frames frame ≡ true) ⊎ (counts_on start n frames frame ≡ false) →
      IsSentBehind (frame ∷ frames) (before start n (suc ahead) (frame ∷ frames)) sending
  by_test those (inl counts) =
      by_place those counts (Contains-append_cases (last_sendings start n ahead frames) (option_to_list (sending_by frame.kind frame)) sending
      (subst (λ (ss : List Sending). Contains ss sending) (sends_more start n ahead frame frames counts) h))
  by_test those (inr uncounted) =
      subst (λ (base : List Frame). IsSentBehind (frame ∷ frames) base sending) (sym (before_later start n ahead frame frames uncounted))
      (later_sent frame frames (before start n (suc ahead) frames) sending
      (those (suc ahead) (subst (λ (ss : List Sending). Contains ss sending) (sends_later start n (suc ahead) frame frames uncounted) h)))
