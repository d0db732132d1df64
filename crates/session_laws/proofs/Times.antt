-- At each time of a lawful journal the rights lie within.
use Rattle.std.proofs.Common.{ℕ, ◌∷◌, Option, sym, subst, ◌++◌}
use Rattle.vfs_journal.specs.Lawful.{Lawful}
use Rattle.std.specs.Prelude.{All}
use Rattle.vfs_journal.specs.Entries.{Journal, Sent, serves}
use Rattle.vfs_journal.specs.Past.{history_of}
use Rattle.vfs_journal.specs.Starts.{Start}
use Rattle.journal_laws.specs.Soundness.{IsStart}
use Rattle.journal_laws.proofs.Below.{Below}
use Rattle.journal_laws.proofs.Stepping.{GoesOn, Stepped, at_each, onward_of, stepped, time_of, was_head}
use Rattle.session_laws.specs.Lineage.{ancestor_by, ancestors_of, lines_of, trail_by}
use Rattle.session_laws.specs.Rights.{BeginsAt, FlagsAreWithin, HasAllAsked, LineagesBegin, RightsAreWithin, TrailsBegin}
use Rattle.session_laws.proofs.LineagesHold.{Holds, begins, client_new, refused_holds, sent_holds}
use Rattle.session_laws.proofs.LineagesServed.{forward_new, served_holds}

-- ---- what holds at each

holds_on : Below → (start : Start) → IsStart start → GoesOn start (λ past. Holds start (history_of start past))
unfolding history_of
holds_on below start s = record {
  begins = begins start s;
  refuses_on = λ earlier endpoint why holds. refused_holds start (history_of start earlier) endpoint why holds;
  sends_on = λ earlier one is alone holds. sent_holds start (history_of start earlier) one (client_new start (history_of start earlier) one alone) holds;
  serves_on = λ earlier k h first holds. served_holds below start earlier k s h first holds;
  forwards_on = λ earlier k forward h first e before holds.
      sent_holds start (history_of start (serves k ∷ earlier)) (onward_of earlier k forward) (forward_new below start earlier k s h first before forward e) holds;
}

pub time_holds : Below → (start : Start) → IsStart start → (past : Journal) → Stepped start past → Holds start (history_of start past)
time_holds below start s past h = at_each start (λ journal. Holds start (history_of start journal)) (holds_on below start s) past h

-- and in the past of a serving
pub head_holds : Below → (start : Start) → IsStart start → (past : Journal) (k : Sent) → Stepped start (serves k ∷ past) → Holds start (history_of start past)
head_holds below start s past k h = time_holds below start s past (stepped start past (was_head start past k h).0)

-- ---- the laws

pub rights_stay : Below → (start : Start) (later past : Journal) → IsStart start → Lawful start (later ++ past) → RightsAreWithin start (history_of start past)
rights_stay below start later past s h bound there =
    let holds = time_holds below start s past (time_of start later past h) in (
      holds.own bound there,
      holds.rights bound there,
    )

pub lineages_begin : Below → (start : Start) (later past : Journal) → IsStart start → Lawful start (later ++ past) → LineagesBegin start (history_of start past)
lineages_begin below start later past s h = (time_holds below start s past (time_of start later past h)).begun

pub trails_begin : Below → (start : Start) (later past : Journal) → IsStart start → Lawful start (later ++ past) → TrailsBegin start (history_of start past)
trails_begin below start later past s h sent origin there from =
    let history = history_of start past in
    subst (λ (o : Option ℕ). BeginsAt start (ancestor_by (ancestors_of history) sent.endpoint o) (trail_by (lines_of start history) sent.endpoint o)) (sym from)
    ((time_holds below start s past (time_of start later past h)).trails_begun sent origin there from)

pub flags_stay : Below → (start : Start) (later past : Journal) → IsStart start → Lawful start (later ++ past) → FlagsAreWithin start (history_of start past)
flags_stay below start later past s h sent origin bytes handles txid path word attributes object there from sending read =
    let holds = time_holds below start s past (time_of start later past h) in
    subst (λ (o : Option ℕ). All (HasAllAsked word) (trail_by (lines_of start (history_of start past)) sent.endpoint o)) (sym from)
    (holds.trails sent there origin bytes handles txid path word attributes object from sending read).asked
