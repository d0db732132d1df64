-- Each lawful journal keeps the laws.
use Rattle.std.proofs.Common.{◌≡◌, ◌∷◌, ◌++◌, Option, Some, None, refl, subst}
use Rattle.fidl_wire.specs.Names.{AreDistinct}
use Rattle.session_start.specs.Accepted.{AreAccepted, HasFilesOfBytes}
use Rattle.session_start.specs.Items.{Lists}
use Rattle.vfs_journal.specs.Entries.{Journal, Sent, serves}
use Rattle.vfs_journal.specs.Lawful.{Lawful, served}
use Rattle.vfs_journal.specs.Outcomes.{Forwarded}
use Rattle.vfs_journal.specs.Past.{history_of}
use Rattle.vfs_journal.specs.Serving.{outcome_of}
use Rattle.vfs_journal.specs.Session.{head, with_forward}
use Rattle.vfs_journal.specs.Starts.{Start, start_of}
use Rattle.journal_laws.specs.Soundness.{IsStart}
use Rattle.journal_laws.proofs.Below.{below}
use Rattle.journal_laws.proofs.OnTrees.{stand_at_time}
use Rattle.journal_laws.proofs.Places.{served_once}
use Rattle.journal_laws.proofs.SoundTrees.{sound_at}
use Rattle.journal_laws.proofs.Starting.{accepted_starts_are_starts}
use Rattle.journal_laws.proofs.Stepping.{IsTime, is_time, owing, time_of, whole}
use Rattle.journal_laws.proofs.TransitLaws.{in_transit}
use Rattle.frame_laws.proofs.Readings.{output_is_read_back}
use Rattle.session_laws.proofs.Answering.{answers_allowed}
use Rattle.session_laws.proofs.Changes.{changes_allowed}
use Rattle.session_laws.proofs.Knowing.{know_their_names}
use Rattle.session_laws.proofs.Narrow.{narrow_change_nothing}
use Rattle.session_laws.proofs.Seen.{die_of_no_change, told_their_sight}
use Rattle.session_laws.proofs.Settled.{replies_are_in_order, rests_are_settled, served_is_answered}
use Rattle.session_laws.proofs.Times.{flags_stay, lineages_begin, rights_stay, trails_begin}
use Rattle.session_laws.proofs.Tokens.{tokens_given}
use Rattle.session_laws.specs.Keeping.{KeepsLaws, OwesForward}
use Rattle.session_laws.specs.Laws.{IsLawfulOver}

-- ---- times

-- a serving whose Open goes on is owed that, and any other is all of its step
served_whole : (start : Start) (earlier : Journal) (one : Sent) → Lawful start earlier → head start (history_of start earlier) one.endpoint ≡ Some one →
    (OwesForward start (serves one ∷ earlier) → ⊥) → Lawful start (serves one ∷ earlier)
served_whole start earlier one h first owes_none = by_forward (outcome_of start (history_of start earlier) one).forward refl where
  by_forward : (o : Option Forwarded) → (outcome_of start (history_of start earlier) one).forward ≡ o → Lawful start (serves one ∷ earlier)
  by_forward None e = subst (λ (o : Option Forwarded). Lawful start (with_forward one.place (serves one ∷ earlier) o)) e (served earlier one h first)
  by_forward (Some forward) e = absurd (owes_none (rw e refl))

lawful_time : (start : Start) (past : Journal) → IsTime start past → (OwesForward start past → ⊥) → Lawful start past
lawful_time start past (whole _ h) owes_none = h
lawful_time start past (owing earlier one h first) owes_none = served_whole start earlier one h first owes_none

-- ---- the laws

pub lawful_keep : AreDistinct → (start : Start) (journal : Journal) → IsStart start → Lawful start journal → KeepsLaws start journal
lawful_keep apart start journal s h =
    let under = below apart in
    record {
      once = served_once start journal h;
      transit = λ later past e owes_none. in_transit under start past s (lawful_time start past (is_time start past (time_of start later past (lawful later past e))) owes_none);
      trees = λ later past e. sound_at under start past s (time_of start later past (lawful later past e));
      placed = λ later past e. stand_at_time under start past s (time_of start later past (lawful later past e));
      rights = λ later past e. rights_stay under start later past s (lawful later past e);
      ancestors = λ later past e. lineages_begin under start later past s (lawful later past e);
      trails = λ later past e. trails_begin under start later past s (lawful later past e);
      flags = λ later past e. flags_stay under start later past s (lawful later past e);
      changes = λ later past sent e. changes_allowed under start later past sent s (lawful later (serves sent ∷ past) e);
      narrow = λ later past sent e. narrow_change_nothing under start later past sent s (lawful later (serves sent ∷ past) e);
      answers = λ later past sent e. answers_allowed under start later past sent s (lawful later (serves sent ∷ past) e);
      tokens = λ later past e. tokens_given under start later past s (lawful later past e);
      sight = λ later past e. told_their_sight under start later past s (lawful later past e);
      deaths = λ later past sent e. die_of_no_change under start later past sent s (lawful later (serves sent ∷ past) e);
      names = λ later past e. know_their_names under start later past s (lawful later past e);
      replies = λ later past e endpoint. replies_are_in_order start later past endpoint (lawful later past e);
      answered = λ later past e. served_is_answered start later past (lawful later past e);
      settled = λ later past e none endpoint. rests_are_settled start later past endpoint (lawful later past e) none;
      frames = λ later past e. output_is_read_back under start later past s (lawful later past e);
    } where
      lawful : (later past : Journal) → journal ≡ later ++ past → Lawful start (later ++ past)
      lawful later past e = subst (Lawful start) e h

-- over the start of an accepted tree
pub lawful_over : AreDistinct → (lists : Lists) (journal : Journal) → AreAccepted lists → HasFilesOfBytes lists → Lawful (start_of lists) journal → IsLawfulOver lists journal
lawful_over apart lists journal accepted files h =
    let sound = accepted_starts_are_starts lists accepted files in
    record { accepted = accepted; sound = sound; lawful = h; keeps = lawful_keep apart (start_of lists) journal sound h }
