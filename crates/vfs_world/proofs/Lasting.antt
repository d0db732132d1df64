-- A world goes on, and its places with those that are left stay few.
use Rattle.std.proofs.Common.{◌≡◌, ℕ, ◌+◌, ◌≤◌, ◌∷◌, Some, None, sym, ◌∙◌, subst, arith}
use Rattle.fidl_names.specs.declared.limits.TheConstants as limit
use Rattle.link_admission.specs.Admission.{admission}
use Rattle.link_frames.specs.Frames.{Frame}
use Rattle.link_frames.specs.declared.kinds.FrameKind.TheVariants as kind
use Rattle.link_frames.specs.declared.kinds.Refusal.{Refusal}
use Rattle.vfs_journal.specs.Entries.{Sent, hang_up, message, refuses, sends}
use Rattle.vfs_journal.specs.Past.{history_of}
use Rattle.vfs_journal.specs.Session.{after_serving, look_ups, sent_behind}
use Rattle.vfs_journal.specs.View.{View, head_in, refusing_in, sending_in, then_in}
use Rattle.journal_laws.specs.Viewing.{view_behind}
use Rattle.journal_laws.proofs.Below.{below}
use Rattle.journal_laws.proofs.ViewLaws.{hang_up_viewed, message_viewed, served_behind_viewed}
use Rattle.journal_laws.proofs.ViewParts.{head_is_in}
use Rattle.journal_laws.proofs.ViewSteps.{refused_viewed}
use Rattle.vfs_world.specs.Places.{names_left, places_left}
use Rattle.vfs_world.specs.Running.{IsRunning}
use Rattle.vfs_world.specs.World.{StandsFor, World}
use Rattle.vfs_world.proofs.PlacesLeft.{few_left, sending_takes, serving_takes}

few_in : (v w : View) (most : ℕ) → v ≡ w → w.places + places_left w ≤ most → v.places + places_left v ≤ most
few_in v w most e few = subst (λ (x : View). x.places + places_left x ≤ most) (sym e) few

pub lasts_served : (most : ℕ) (old new : World) (r : IsRunning most old) (sent : Sent) → head_in (view_behind r.start r.journal) sent.endpoint ≡ Some sent →
    StandsFor r.start new (after_serving r.start r.journal sent) → IsRunning most new
lasts_served most old new r sent first stands =
    let view = view_behind r.start r.journal in
    let taken = serving_takes (below r.apart) r.start r.journal sent r.stands.sound r.stands.lawful first in
    let few = r.few in
    record {
      apart = r.apart;
      start = r.start;
      journal = after_serving r.start r.journal sent;
      stands = stands;
      few =
          few_in (view_behind r.start (after_serving r.start r.journal sent)) (then_in view sent) most
          (served_behind_viewed (below r.apart) r.start r.journal sent r.stands.sound r.stands.lawful (head_is_in r.start (history_of r.start r.journal) sent.endpoint ∙ first))
          (omega (arith, taken, few));
    }

pub lasts_refused : (most : ℕ) (old new : World) (r : IsRunning most old) (endpoint : ℕ) (why : Refusal) → StandsFor r.start new (refuses endpoint why ∷ r.journal) → IsRunning (most + limit.FRAME_PLACES) new
unfolding history_of
lasts_refused most old new r endpoint why stands =
    let few = r.few in
    record {
      apart = r.apart;
      start = r.start;
      journal = refuses endpoint why ∷ r.journal;
      stands = stands;
      few = few_in (view_behind r.start (refuses endpoint why ∷ r.journal)) (refusing_in (view_behind r.start r.journal)) (most + limit.FRAME_PLACES)
          (refused_viewed r.start (history_of r.start r.journal) endpoint why) (omega (arith, few));
    }

sent_few : (view : View) (sent : Sent) (most : ℕ) → names_left sent.sending ≤ 2048 → view.places + places_left view ≤ most → (sending_in view sent).places + places_left (sending_in view sent) ≤ most + limit.FRAME_PLACES
sent_few view sent most names few = let more = sending_takes view sent in omega (arith, more, names, few)

pub lasts_message : (most : ℕ) (old new : World) (r : IsRunning most old) (frame : Frame) → admission (look_ups r.start (history_of r.start r.journal)) frame ≡ None → frame.kind ≡ kind.Message →
    StandsFor r.start new (sends (sent_behind r.journal frame.endpoint (message frame.bytes frame.handles) None) ∷ r.journal) → IsRunning (most + limit.FRAME_PLACES) new
lasts_message most old new r frame admits e stands =
    let sent = sent_behind r.journal frame.endpoint (message frame.bytes frame.handles) None in
    record {
      apart = r.apart;
      start = r.start;
      journal = sends sent ∷ r.journal;
      stands = stands;
      few = few_in (view_behind r.start (sends sent ∷ r.journal)) (sending_in (view_behind r.start r.journal) sent) (most + limit.FRAME_PLACES)
          (message_viewed r.start r.journal frame r.stands.lawful admits e)
          (sent_few (view_behind r.start r.journal) sent most (few_left (below r.apart) (message frame.bytes frame.handles)) r.few);
    }

pub lasts_hang_up : (most : ℕ) (old new : World) (r : IsRunning most old) (frame : Frame) → admission (look_ups r.start (history_of r.start r.journal)) frame ≡ None → frame.kind ≡ kind.Close →
    StandsFor r.start new (sends (sent_behind r.journal frame.endpoint hang_up None) ∷ r.journal) → IsRunning (most + limit.FRAME_PLACES) new
lasts_hang_up most old new r frame admits e stands =
    let sent = sent_behind r.journal frame.endpoint hang_up None in
    record {
      apart = r.apart;
      start = r.start;
      journal = sends sent ∷ r.journal;
      stands = stands;
      few = few_in (view_behind r.start (sends sent ∷ r.journal)) (sending_in (view_behind r.start r.journal) sent) (most + limit.FRAME_PLACES)
          (hang_up_viewed r.start r.journal frame r.stands.lawful admits e)
          (sent_few (view_behind r.start r.journal) sent most (few_left (below r.apart) hang_up) r.few);
    }

pub lasts_more : (most more : ℕ) (world : World) → most ≤ more → IsRunning most world → IsRunning more world
lasts_more most more world low r =
    let few = r.few in
    record { apart = r.apart; start = r.start; journal = r.journal; stands = r.stands; few = omega (arith, few, low) }
