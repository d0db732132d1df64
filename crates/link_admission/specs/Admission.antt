-- Which frames are admitted: the first refusal of a list, over what can be looked up.
use Rattle.std.specs.Prelude.{◌≡◌, ◌+◌, ◌&&◌, ◌||◌, ℕ, Bool, true, not, nat_lt, nat_le, List, [], ◌∷◌, count_by, Option, Some, None}
use Rattle.fidl_names.specs.declared.limits.TheConstants as limit
use Rattle.fidl_names.specs.First.{cause_if, first_of}
use Rattle.link_frames.specs.declared.kinds.FrameKind.{FrameKind}
use Rattle.link_frames.specs.declared.kinds.FrameKind.TheVariants as kind
use Rattle.link_frames.specs.declared.kinds.Refusal.{Refusal}
use Rattle.link_frames.specs.declared.kinds.Refusal.TheVariants as refusal
use Rattle.link_admission.specs.declared.kinds.Standing.{Standing}
use Rattle.link_admission.specs.declared.kinds.Standing.TheVariants as standing
use Rattle.link_frames.specs.Frames.{Frame}
use Rattle.link_admission.specs.Standings.{Known, standing_of, holds, is_used, Sends, hung_up}
use Rattle.fidl_names.specs.HandleNumber.{is_client}
use Rattle.link_admission.specs.Numbering.{among}

-- what admission looks up
pub record LookUps : Type 0 where
  pub standing : ℕ → Standing
  pub used : ℕ → Bool
  pub holds : ℕ → Bool
  pub waiting : ℕ
  pub live : ℕ
  pub servers : ℕ

abbrev pub look_ups : Known → LookUps
look_ups k = record {
  standing = standing_of k;
  used = λ n. is_used (standing_of k n);
  holds = holds k;
  waiting = k.waiting;
  live = k.live;
  servers = k.servers;
}

-- an endpoint that is dead or hung up, or that isn't known
abbrev pub by_standing : Standing → Option Refusal
by_standing standing.Unused = Some refusal.BadHandle
by_standing standing.Live = None
by_standing standing.HungUp = Some refusal.PeerClosed
by_standing standing.Dead = Some refusal.PeerClosed

-- the refusal of a frame of this kind for how its endpoint stands; a Turn names a server
abbrev pub standing_refusal : FrameKind → LookUps → ℕ → Option Refusal
standing_refusal kind.Message l e = by_standing (l.standing e)
standing_refusal kind.Close l e = by_standing (l.standing e)
standing_refusal kind.Pick l e = by_standing (l.standing e)
standing_refusal kind.Turn l e = None
standing_refusal kind.Refused l e = None

-- a client number that was never used, or a token that is held
abbrev pub may_travel : LookUps → ℕ → Bool
may_travel l h = (is_client h && not (l.used h)) || l.holds h

-- each handle may travel, and none stands twice
abbrev pub all_may_travel : LookUps → List ℕ → Bool
all_may_travel l [] = true
all_may_travel l (h ∷ hs) = may_travel l h && not (among h hs) && all_may_travel l hs

-- so many entries wait as can
abbrev pub is_full : LookUps → Bool
is_full l = nat_le limit.MAX_WAITING l.waiting

-- the live endpoints with the new ones would be too many
abbrev pub too_many : LookUps → List ℕ → Bool
too_many l handles = nat_lt limit.MAX_LIVE (l.live + count_by is_client handles)

-- the first refusal of a frame of this kind. Mount ends and tokens are no clients' endpoints
abbrev pub refusal_by : FrameKind → LookUps → ℕ → List ℕ → Option Refusal
refusal_by kind.Message l e handles =
    first_of
    (by_standing (l.standing e)
    ∷ cause_if (not (is_client e)) refusal.BadHandle
    ∷ cause_if (not (all_may_travel l handles)) refusal.BadHandle
    ∷ cause_if (is_full l) refusal.ShouldWait
    ∷ cause_if (too_many l handles) refusal.NoResources
    ∷ [])
refusal_by kind.Close l e handles =
    first_of (by_standing (l.standing e) ∷ cause_if (not (is_client e)) refusal.BadHandle ∷ cause_if (is_full l) refusal.ShouldWait ∷ [])
refusal_by kind.Pick l e handles = by_standing (l.standing e)
refusal_by kind.Turn l e handles = cause_if (nat_le l.servers e) refusal.BadHandle
refusal_by kind.Refused l e handles = None

-- the first refusal of a frame
abbrev pub admission : LookUps → Frame → Option Refusal
admission l f = refusal_by f.kind l f.endpoint f.handles

-- what stands after a frame of this kind was admitted: a message or a hang-up waits, a Turn and a Pick change nothing
abbrev pub AdmitsKind : FrameKind → Known → ℕ → List ℕ → Known → Type 0
AdmitsKind kind.Message old e handles new = Sends old handles new
AdmitsKind kind.Close old e handles new = new ≡ hung_up old e
AdmitsKind kind.Turn old e handles new = new ≡ old
AdmitsKind kind.Pick old e handles new = new ≡ old
AdmitsKind kind.Refused old e handles new = ⊥

-- what stands after this frame was admitted
abbrev pub Admits : Known → Frame → Known → Type 0
Admits old f new = AdmitsKind f.kind old f.endpoint f.handles new
