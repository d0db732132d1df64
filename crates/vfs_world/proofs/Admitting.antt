-- What the admission of a frame answers, told of a whole world.
use Rattle.std.proofs.Common.{◌≡◌, ◌∙◌, ◌-◌, ◌⊎◌, ℕ, [], MatchOption, None, Option, Some, Result, Ok, Err, inl, inr, ap, refl}
use Rattle.std.specs.Result.{OnErr, OnOk}
use Rattle.fidl_names.specs.declared.limits.TheConstants as limit
use Rattle.link_admission.specs.Admission.{Admits, admission, look_ups}
use Rattle.link_frames.specs.Frames.{Frame}
use Rattle.link_admission.specs.Standings.{Known, Sends as SendsHandles, standing_of}
use Rattle.link_admission.specs.declared.kinds.AdmitFault.{AdmitFault}
use Rattle.link_admission.specs.declared.kinds.AdmitFault.TheVariants as fault
use Rattle.link_frames.specs.declared.kinds.Refusal.{Refusal}
use Rattle.link_admission.specs.declared.kinds.Standing.TheVariants as standing
use Rattle.vfs_world.specs.Arrivals.{IsAdmitted, IsFree, IsPlain}
use Rattle.vfs_world.specs.Running.{IsRunning}
use Rattle.vfs_world.specs.World.{World}
use Rattle.vfs_world.proofs.AtOnce.{bound_lives, for_want_of_room, plain_admission, plain_admits}

abbrev pub known_in : World → Known → World
known_in world known = record world { known = known }

abbrev admitted : Result (Unit {0}) AdmitFault
admitted = Ok tt

abbrev failed : AdmitFault → Result (Unit {0}) AdmitFault
failed why = Err why

-- it is admitted, wants memory, or is refused for its first refusal
abbrev pub answers_first : Option Refusal → Result (Unit {0}) AdmitFault → Type 0
answers_first first answer = MatchOption first ((answer ≡ admitted) ⊎ (answer ≡ failed fault.NoMemory)) (λ why. answer ≡ failed (fault.Refused why))

-- an admitted frame has no refusal
none_refused : (first : Option Refusal) → answers_first first admitted → first ≡ None
none_refused None h = refl
none_refused (Some one) e = absurd (cc)

-- the first refusal is the one that is answered
pub refused_why : (first : Option Refusal) (answer : Result (Unit {0}) AdmitFault) → answers_first first answer → (why : Refusal) → answer ≡ failed (fault.Refused why) → first ≡ Some why
refused_why None answer (inl e) why is = absurd (cc)
refused_why None answer (inr e) why is = absurd (cc)
refused_why (Some one) answer e why is = cc

pub admits_it : (world : World) (known : Known) (frame : Frame) (answer : Result (Unit {0}) AdmitFault) → answers_first (admission (look_ups world.known) frame) answer → OnOk answer (Admits world.known frame known) →
    OnOk answer (IsAdmitted world frame (known_in world known))
admits_it world known frame (Ok x) first admits = record { none = none_refused (admission (look_ups world.known) frame) first; admits = admits; same = refl }
admits_it world known frame (Err why) first admits = tt

pub leaves_it : {T E : Type 0} (world : World) (known : Known) (answer : Result T E) → OnErr answer (known ≡ world.known) → OnErr answer (known_in world known ≡ world)
leaves_it world known (Ok x) same = tt
leaves_it world known (Err why) same = ap (known_in world) same

-- ---- a message without handles on an endpoint that is bound while nothing waits

abbrev refused_for : Refusal → Result (Unit {0}) Refusal
refused_for why = Err why

abbrev let_in : Result (Unit {0}) Refusal
let_in = Ok tt

-- it is let in, or refused for want of room
abbrev pub answers_room : Known → Result (Unit {0}) Refusal → Type 0
answers_room known answer = MatchOption (for_want_of_room known) (answer ≡ let_in) (λ why. answer ≡ refused_for why)

module _ (world : World) (frame : Frame) (server : ℕ) (run : IsRunning (limit.MAX_PLACES - limit.FRAME_PLACES) world) (free : IsFree frame server world) where
  pub lives : standing_of world.known frame.endpoint ≡ standing.Live
  lives = bound_lives (limit.MAX_PLACES - limit.FRAME_PLACES) world frame.endpoint server run free.bound free.none

  passed : (first : Option Refusal) → MatchOption first (let_in ≡ let_in) (λ why. let_in ≡ refused_for why) → first ≡ None
  passed None h = refl
  passed (Some one) e = absurd (cc)

  kept_out : (first : Option Refusal) (why : Refusal) → MatchOption first (refused_for why ≡ let_in) (λ one. refused_for why ≡ refused_for one) → first ≡ Some why
  kept_out None why e = absurd (cc)
  kept_out (Some one) why e = cc

  pub plain_admitted : (known : Known) → IsPlain frame → answers_room world.known let_in → SendsHandles world.known [] known → IsAdmitted world frame (known_in world known)
  plain_admitted known plain first sends = record {
    none = plain_admission world.known frame None plain lives (passed (for_want_of_room world.known) first);
    admits = plain_admits world.known known frame plain sends;
    same = refl;
  }

  pub plain_refused : (why : Refusal) → IsPlain frame → answers_room world.known (refused_for why) → (told : Refusal) → failed (fault.Refused why) ≡ failed (fault.Refused told) → admission (look_ups world.known) frame ≡ Some told
  plain_refused why plain first told is = plain_admission world.known frame (Some told) plain lives (kept_out (for_want_of_room world.known) why first ∙ ap Some (same_why why told is)) where
    same_why : (one other : Refusal) → failed (fault.Refused one) ≡ failed (fault.Refused other) → one ≡ other
    same_why one other e = cc
