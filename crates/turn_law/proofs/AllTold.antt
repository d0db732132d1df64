-- Where nothing waits, each endpoint was told what the table says.
use Rattle.std.proofs.Common.{◌≡◌, ℕ, ◌==◌, ◌||◌, Bool, true, false, is_some, List, [], filter, flat_map, Option, Some, None, refl, sym, ap, ◌∙◌, subst}
use Rattle.fidl_names.specs.HandleNumber.{is_client}
use Rattle.link_frames.specs.Frames.{Frame}
use Rattle.link_admission.specs.Numbering.{among}
use Rattle.vfs_journal.specs.Entries.{Journal, Sent, endpoints_in}
use Rattle.vfs_journal.specs.History.{History, bound_at, is_live, position_of, travelling, waiting}
use Rattle.vfs_journal.specs.Past.{history_of}
use Rattle.vfs_journal.specs.Starts.{Bound, Start}
use Rattle.turn_law.specs.Counting.{before}
use Rattle.turn_law.specs.Invariant.{AgreesOn, IsAsTold, WhereNothingWaitsAllIsTold, queue_on, written_on}
use Rattle.journal_laws.proofs.Below.{Below}
use Rattle.turn_law.specs.Steps.{frames_in, journal_of}
use Rattle.turn_law.specs.Told.{table_of}
use Rattle.turn_law.proofs.MountEnds.{ends_stay}
use Rattle.turn_law.proofs.ArrivalsAgree.{bound_on}

told_there : (start : Start) (journal : Journal) (frames : List Frame) (n : ℕ) → AgreesOn start journal frames n → waiting (history_of start journal) ≡ [] → written_on start journal n ≡ (table_of start frames).told n
unfolding before
told_there start journal frames n agrees nothing = by_bound (bound_at start past n) refl where
  past : History
  past = history_of start journal

  by_bound : (o : Option Bound) → bound_at start past n ≡ o → written_on start journal n ≡ (table_of start frames).told n
  by_bound (Some bound) e =
      let at = bound_on start past n bound e in
      let empty : queue_on past bound.endpoint ≡ [] = ap (filter (λ (x : Sent). x.endpoint == bound.endpoint)) nothing in
      let told = subst (λ (q : List Sent). IsAsTold start frames bound q (position_of past bound.endpoint) (written_on start journal bound.endpoint)) empty (agrees.bound bound e) in
      sym (ap (λ (m : ℕ). (table_of start frames).told m) (sym at) ∙ told.told ∙ ap (written_on start journal) at)
  by_bound None e =
      let unlive : is_live start past n ≡ false =
      ap (λ (x : Option Bound). is_some x || among n (travelling past)) e ∙ ap (λ (ones : List Sent). among n (flat_map endpoints_in ones)) nothing in
      sym (agrees.gone unlive).told

pub all_told : Below → WhereNothingWaitsAllIsTold
all_told below start steps n s agrees nothing = by_client (is_client n) refl where
  by_client : (b : Bool) → is_client n ≡ b → written_on start (journal_of start steps) n ≡ (table_of start (frames_in steps)).told n
  by_client true e = told_there start (journal_of start steps) (frames_in steps) n (agrees.clients n e) nothing
  by_client false e = agrees.ends n e ∙ sym ((ends_stay below start (frames_in steps) s).told n e)
