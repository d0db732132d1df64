-- A world is a session with whether it is spent and how many frames it has accepted.
use Rattle.std.proofs.Common.{◌≡◌, ℕ, ◌+◌, ◌*◌, ◌<◌, ◌≤◌, ◌==◌, Bool, false, List, [], filter, length, take, refl, sym, subst, ap, ◌∙◌, arith}
use Rattle.std.proofs.lemmas.List.{take-append-le, take_all}
use Rattle.fidl_names.specs.declared.limits.TheConstants as limit
use Rattle.fidl_wire.specs.Names.{AreDistinct}
use Rattle.vfs_journal.specs.Entries.{Journal, Sent}
use Rattle.vfs_journal.specs.History.{waiting}
use Rattle.vfs_journal.specs.Output.{Begins}
use Rattle.vfs_journal.specs.Past.{history_of}
use Rattle.vfs_journal.specs.Starts.{Start}
use Rattle.journal_laws.specs.Viewing.{view_behind}
use Rattle.message_queues.specs.Oldest.{IsBound, NothingWaits}
use Rattle.message_queues.specs.Queues.{count}
use Rattle.message_queues.proofs.Counting.{counts_its_list}
use Rattle.session_laws.specs.Keeping.{KeepsLaws}
use Rattle.session_laws.proofs.Keeping.{lawful_keep}
use Rattle.vfs_world.specs.Conduct.{StandsForOne}
use Rattle.vfs_world.specs.Running.{IsRunning, IsWithin, whole}
use Rattle.vfs_world.specs.World.{LeadsTo, StandsFor, World}
use Rattle.vfs_world.proofs.Lasting.{lasts_more}
use Rattle.vfs_world.specs.declared.world.World.TheInside.{Inside}

-- ---- what it stands for

abbrev pub as_world : World → Bool → ℕ → World
as_world session spent frames = record session { spent = spent; frames = frames }

stands_as : (start : Start) (session : World) (spent : Bool) (frames : ℕ) (journal : Journal) → spent ≡ false → StandsFor start session journal → StandsFor start (as_world session spent frames) journal
stands_as start session spent frames journal able s = record {
  able = able;
  sound = s.sound;
  lawful = s.lawful;
  knows = s.knows;
  holds = record { servers = s.holds.servers; queues = s.holds.queues; places = s.holds.places };
}

-- ---- its places

pub within_more : (frames : ℕ) (session : World) → frames < limit.MAX_FRAMES → IsRunning (limit.FRAME_PLACES * frames + limit.FRAME_PLACES) session → IsRunning (limit.FRAME_PLACES * (frames + 1)) session × (frames + 1 ≤ limit.MAX_FRAMES)
within_more frames session few r = (lasts_more (limit.FRAME_PLACES * frames + limit.FRAME_PLACES) (limit.FRAME_PLACES * (frames + 1)) session (omega arith) r, omega (arith, few))

pub begins_within : AreDistinct → (start : Start) (session : World) → StandsFor start session [] → IsWithin session false 0
unfolding history_of
begins_within apart start session stands able = (record { apart = apart; start = start; journal = []; stands = stands; few = omega arith }, omega arith)

-- ---- a call of it: what its session counts on, and what it tells of the world

module _ (inside : Inside) {now : World} (view : as_world (whole inside.session) inside.spent inside.frames ≡ now) where
  able : now.spent ≡ false → inside.spent ≡ false
  able is = ap (λ (w : World). w.spent) view ∙ is

  pub able_of : inside.spent ≡ false → now.spent ≡ false
  able_of is = sym (ap (λ (w : World). w.spent) view) ∙ is

  pub runs_inside : IsWithin (whole inside.session) inside.spent inside.frames → now.spent ≡ false → IsRunning limit.MAX_PLACES (whole inside.session)
  runs_inside within is =
      let runs = within (able is) in
      let few : inside.frames ≤ limit.MAX_FRAMES = runs.1 in
      lasts_more (limit.FRAME_PLACES * inside.frames) limit.MAX_PLACES (whole inside.session) (omega (arith, few)) runs.0

  pub stands_inside : (start : Start) (journal : Journal) → StandsFor start now journal → StandsFor start (whole inside.session) journal
  stands_inside start journal stands =
      stands_as start (as_world (whole inside.session) inside.spent inside.frames) false 0 journal refl (subst (λ (w : World). StandsFor start w journal) (sym view) stands)

  pub leads_inside : {start : Start} {earlier later : Journal} {before after : List ℕ} (new : World) (frames : ℕ) → StandsFor start now earlier → LeadsTo start later new earlier before after →
      LeadsTo start later (as_world new inside.spent frames) earlier before after
  leads_inside {start} {earlier} {later} {before} {after} new frames stands leads =
      record { stands = stands_as start new inside.spent frames later (able stands.able) leads.stands; part = leads.part; more = leads.more; written = leads.written }

  -- one of the journals that it stands for
  pub stands_for_one : IsWithin (whole inside.session) inside.spent inside.frames → StandsForOne now
  stands_for_one within is =
      let runs = (within (able is)).0 in
      let world = as_world (whole inside.session) inside.spent inside.frames in
      (runs.apart, (runs.start, (runs.journal, subst (λ (w : World). StandsFor runs.start w runs.journal) view (stands_as runs.start (whole inside.session) inside.spent inside.frames runs.journal (able is) runs.stands))))

-- ---- the journal that a call leads to is lawful, and so keeps the laws

pub keeps_laws : {start : Start} {earlier later : Journal} {new : World} {before after : List ℕ} → AreDistinct → LeadsTo start later new earlier before after → KeepsLaws start later
keeps_laws {start} {earlier} {later} apart leads = lawful_keep apart start later leads.stands.sound leads.stands.lawful

-- ---- what waits

pub as_many_wait : (start : Start) (world : World) (journal : Journal) → StandsFor start world journal → count world.queues ≡ length (waiting (history_of start journal))
as_many_wait start world journal s = counts_its_list world.queues (view_behind start journal).waiting s.holds.queues.queue

pub nothing_waits : (start : Start) (world : World) (journal : Journal) → StandsFor start world journal → waiting (history_of start journal) ≡ [] → NothingWaits world.queues (IsBound world.queues)
nothing_waits start world journal s none endpoint bound = s.holds.queues.queue endpoint ∙ ap (filter (λ (sent : Sent). sent.endpoint == endpoint)) none

-- ---- what is taken back

-- cut back to where a call began, what is written is what was
pub taken_back : (before after : List ℕ) (begun : ℕ) → begun ≡ length before → Begins before after → take begun after ≡ before
taken_back before after begun is begins = ap (take begun) begins.1 ∙ take-append-le begun before begins.0 (omega (arith, is)) ∙ take_all begun before (omega (arith, is))
