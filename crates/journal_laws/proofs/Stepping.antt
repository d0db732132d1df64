-- A session entry by entry, and the one induction over its times: at each its journal is lawful, or ends with a serving whose Open that
-- goes on isn't sent yet.
use Rattle.std.proofs.Common.{◌≡◌, ℕ, [], ◌∷◌, ◌++◌, length, Option, Some, None, refl, subst}
use Rattle.link_admission.specs.Admission.{admission}
use Rattle.link_frames.specs.declared.kinds.FrameKind.TheVariants as kind
use Rattle.link_frames.specs.declared.kinds.Refusal.{Refusal}
use Rattle.link_frames.specs.declared.kinds.Side.TheVariants.{ToServers}
use Rattle.link_frames.specs.Frames.{Frame, IsFrame}
use Rattle.vfs_journal.specs.Entries.{Entry, Sent, Journal, message, hang_up, sends, serves, refuses}
use Rattle.vfs_journal.specs.Lawful.{Lawful, begun, refused, sent, closed, served}
use Rattle.vfs_journal.specs.Outcomes.{Forwarded}
use Rattle.vfs_journal.specs.Past.{history_of}
use Rattle.vfs_journal.specs.Serving.{outcome_of}
use Rattle.vfs_journal.specs.Session.{head, look_ups, sent_behind, with_forward}
use Rattle.vfs_journal.specs.Starts.{Start}

-- what a serving sends on, behind it
abbrev pub onward_of : Journal → Sent → Forwarded → Sent
onward_of earlier one forward = sent_behind (serves one ∷ earlier) forward.endpoint (message forward.bytes (forward.object ∷ [])) (Some one.place)

-- what is sent next: an admitted message or hang-up, behind a lawful journal, or what the last serving sends on
pub data IsSentNext (start : Start) : Journal → Sent → Type 0 where
  messaging : (earlier : Journal) (frame : Frame) → Lawful start earlier → IsFrame ToServers frame → frame.kind ≡ kind.Message → admission (look_ups start (history_of start earlier)) frame ≡ None →
      IsSentNext start earlier (sent_behind earlier frame.endpoint (message frame.bytes frame.handles) None)
  hanging_up : (earlier : Journal) (frame : Frame) → Lawful start earlier → IsFrame ToServers frame → frame.kind ≡ kind.Close → admission (look_ups start (history_of start earlier)) frame ≡ None →
      IsSentNext start earlier (sent_behind earlier frame.endpoint hang_up None)
  going_on : (earlier : Journal) (one : Sent) (forward : Forwarded) → Lawful start earlier → head start (history_of start earlier) one.endpoint ≡ Some one →
      (outcome_of start (history_of start earlier) one).forward ≡ Some forward → IsSentNext start (serves one ∷ earlier) (onward_of earlier one forward)

-- each entry is a refusal, what is sent next, or the serving of a head behind a lawful journal
pub data Stepped (start : Start) : Journal → Type 0 where
  none : Stepped start []
  refusing : (earlier : Journal) (endpoint : ℕ) (why : Refusal) → Stepped start earlier → Lawful start (refuses endpoint why ∷ earlier) → Stepped start (refuses endpoint why ∷ earlier)
  sending : (earlier : Journal) (one : Sent) → Stepped start earlier → IsSentNext start earlier one → Stepped start (sends one ∷ earlier)
  serving : (earlier : Journal) (one : Sent) → Stepped start earlier → Lawful start earlier → head start (history_of start earlier) one.endpoint ≡ Some one → Stepped start (serves one ∷ earlier)

-- ---- lawful journals

stepped_on : (start : Start) (earlier : Journal) (one : Sent) (forward : Option Forwarded) → Lawful start earlier → head start (history_of start earlier) one.endpoint ≡ Some one →
    (outcome_of start (history_of start earlier) one).forward ≡ forward → Stepped start (serves one ∷ earlier) → Stepped start (with_forward one.place (serves one ∷ earlier) forward)
stepped_on start earlier one None all first e h = h
stepped_on start earlier one (Some forward) all first e h = sending (serves one ∷ earlier) (onward_of earlier one forward) h (going_on earlier one forward all first e)

pub stepped : (start : Start) (journal : Journal) → Lawful start journal → Stepped start journal
stepped start journal begun = none
stepped start journal (refused earlier frame why h is admits) = refusing earlier frame.endpoint why (stepped start earlier h) (refused earlier frame why h is admits)
stepped start journal (sent earlier frame h is form admits) = sending earlier _ (stepped start earlier h) (messaging earlier frame h is form admits)
stepped start journal (closed earlier frame h is form admits) = sending earlier _ (stepped start earlier h) (hanging_up earlier frame h is form admits)
stepped start journal (served earlier one h first) =
    stepped_on start earlier one (outcome_of start (history_of start earlier) one).forward h first refl (serving earlier one (stepped start earlier h) h first)

-- the serving of a head is the next time of a lawful journal
pub served_next : (start : Start) (earlier : Journal) (one : Sent) → Lawful start earlier → head start (history_of start earlier) one.endpoint ≡ Some one → Stepped start (serves one ∷ earlier)
served_next start earlier one h first = serving earlier one (stepped start earlier h) h first

-- what is sent next has the next place, and its journal is lawful
pub place_next : (start : Start) (earlier : Journal) (one : Sent) → IsSentNext start earlier one → one.place ≡ length earlier
place_next start earlier one (messaging _ frame h is form admits) = refl
place_next start earlier one (hanging_up _ frame h is form admits) = refl
place_next start earlier one (going_on old k forward h first e) = refl

pub sent_lawful : (start : Start) (earlier : Journal) (one : Sent) → IsSentNext start earlier one → Lawful start (sends one ∷ earlier)
sent_lawful start earlier one (messaging _ frame h is form admits) = sent earlier frame h is form admits
sent_lawful start earlier one (hanging_up _ frame h is form admits) = closed earlier frame h is form admits
sent_lawful start earlier one (going_on old k forward h first e) =
    subst (λ (o : Option Forwarded). Lawful start (with_forward k.place (serves k ∷ old) o)) e (served old k h first)

-- ---- the times of a lawful journal

before : (start : Start) (entry : Entry) (earlier : Journal) → Stepped start (entry ∷ earlier) → Stepped start earlier
before start entry earlier (refusing _ endpoint why h all) = h
before start entry earlier (sending _ one h is) = h
before start entry earlier (serving _ one h all first) = h

pub earlier_stepped : (start : Start) (later past : Journal) → Stepped start (later ++ past) → Stepped start past
earlier_stepped start [] past h = h
earlier_stepped start (entry ∷ later) past h = earlier_stepped start later past (before start entry (later ++ past) h)

pub time_of : (start : Start) (later past : Journal) → Lawful start (later ++ past) → Stepped start past
time_of start later past h = earlier_stepped start later past (stepped start (later ++ past) h)

-- each is lawful, or may owe what the serving of a head sends on
pub data IsTime (start : Start) : Journal → Type 0 where
  whole : (past : Journal) → Lawful start past → IsTime start past
  owing : (earlier : Journal) (one : Sent) → Lawful start earlier → head start (history_of start earlier) one.endpoint ≡ Some one → IsTime start (serves one ∷ earlier)

pub is_time : (start : Start) (past : Journal) → Stepped start past → IsTime start past
is_time start past none = whole [] begun
is_time start past (refusing earlier endpoint why h all) = whole _ all
is_time start past (sending earlier one h is) = whole _ (sent_lawful start earlier one is)
is_time start past (serving earlier one h all first) = owing earlier one all first

-- what is served was the head of its endpoint, behind a lawful journal
pub was_head : (start : Start) (earlier : Journal) (one : Sent) → Stepped start (serves one ∷ earlier) → Lawful start earlier × (head start (history_of start earlier) one.endpoint ≡ Some one)
was_head start earlier one (serving _ _ h all first) = (all, first)

-- ---- the induction

-- it holds at the beginning, and goes on behind a refusal, an admitted sending, a serving, and what a serving sends on
pub record GoesOn (start : Start) (P : Journal → Type 0) : Type 0 where
  pub begins : P []
  pub refuses_on : (earlier : Journal) (endpoint : ℕ) (why : Refusal) → P earlier → P (refuses endpoint why ∷ earlier)
  pub sends_on : (earlier : Journal) (one : Sent) → IsSentNext start earlier one → one.origin ≡ None → P earlier → P (sends one ∷ earlier)
  pub serves_on : (earlier : Journal) (one : Sent) → Lawful start earlier → head start (history_of start earlier) one.endpoint ≡ Some one → P earlier → P (serves one ∷ earlier)
  pub forwards_on : (earlier : Journal) (one : Sent) (forward : Forwarded) → Lawful start earlier → head start (history_of start earlier) one.endpoint ≡ Some one →
      (outcome_of start (history_of start earlier) one).forward ≡ Some forward → P earlier → P (serves one ∷ earlier) → P (sends (onward_of earlier one forward) ∷ serves one ∷ earlier)

-- so it holds at each time, and at the one before
abbrev shorter : Journal → Journal
shorter [] = []
shorter (entry ∷ earlier) = earlier

next_by : (start : Start) (P : Journal → Type 0) → GoesOn start P → (earlier : Journal) (one : Sent) → P earlier × P (shorter earlier) → IsSentNext start earlier one → P (sends one ∷ earlier)
next_by start P on earlier one past (messaging _ frame h is form admits) = on.sends_on earlier one (messaging earlier frame h is form admits) refl past.0
next_by start P on earlier one past (hanging_up _ frame h is form admits) = on.sends_on earlier one (hanging_up earlier frame h is form admits) refl past.0
next_by start P on earlier one past (going_on old k forward h first e) = on.forwards_on old k forward h first e past.1 past.0

at_both : (start : Start) (P : Journal → Type 0) → GoesOn start P → (past : Journal) → Stepped start past → P past × P (shorter past)
at_both start P on past none = (on.begins, on.begins)
at_both start P on past (refusing earlier endpoint why h all) = let rest = at_both start P on earlier h in (on.refuses_on earlier endpoint why rest.0, rest.0)
at_both start P on past (sending earlier one h is) = let rest = at_both start P on earlier h in (next_by start P on earlier one rest is, rest.0)
at_both start P on past (serving earlier one h all first) = let rest = at_both start P on earlier h in (on.serves_on earlier one all first rest.0, rest.0)

pub at_each : (start : Start) (P : Journal → Type 0) → GoesOn start P → (past : Journal) → Stepped start past → P past
at_each start P on past h = (at_both start P on past h).0
