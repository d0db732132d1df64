-- What the table says of a client's endpoint behind what was served on it.
use Rattle.std.proofs.Common.{◌≡◌, ℕ, zero, suc, ◌<◌, Bool, true, false, List, [], ◌∷◌, ◌++◌, length, Option, Some, None, if◌then◌else◌, refl, ap, ◌∙◌, arith}
use Rattle.std.specs.Option.{option_map}
use Rattle.std.proofs.lemmas.Bool.{eq-eqb}
use Rattle.fidl_names.specs.HandleNumber.{is_client}
use Rattle.wire_laws.specs.Laws.{SpelledWhereRead}
use Rattle.link_frames.specs.Frames.{Frame}
use Rattle.link_admission.specs.Numbering.{among}
use Rattle.conn_rules.specs.Births.{Position}
use Rattle.vfs_journal.specs.Entries.{Sending, Sent, handles_of}
use Rattle.vfs_journal.specs.Outcomes.{Outcome}
use Rattle.vfs_journal.specs.Serving.{outcome_of_sending}
use Rattle.vfs_journal.specs.Session.{weight_of}
use Rattle.vfs_journal.specs.Starts.{Bound, Start}
use Rattle.vfs_journal.specs.View.{moved}
use Rattle.journal_laws.proofs.Members.{contains_here}
use Rattle.journal_laws.proofs.Weights.{something_weighs}
use Rattle.turn_law.specs.Counting.{before}
use Rattle.turn_law.specs.Tables.{SaySame}
use Rattle.turn_law.specs.Told.{Table, answered, answers, by_answer, messages_on, newborn, onward, still, table_of}
use Rattle.turn_law.proofs.Heads.{IsHead}
use Rattle.turn_law.proofs.Touching.{AreNamed, answered_named, answers_touch, onward_touches, table_named, then_same, unbound_by}
use Rattle.turn_law.proofs.Within.{StaysWithin, sending_within}

-- something weighs one at least
pub some_weight : (one : Sent) → (k : ℕ) × (weight_of one.sending ≡ suc k)
some_weight one = by_weight (weight_of one.sending) (let some = something_weighs (one ∷ []) one (contains_here one []) in omega (arith, some)) where
  by_weight : (w : ℕ) → 0 < w → (k : ℕ) × (w ≡ suc k)
  by_weight zero less = absurd (omega arith)
  by_weight (suc k) less = (k, refl)

-- the first answer, and then those on the ends of mounts
pub one_answer : (start : Start) (more : ℕ) (endpoint : ℕ) (sending : Sending) (table : Table) (pair : Bound × Position) → table.life endpoint ≡ Some pair →
    answers (suc more) start endpoint sending table ≡ onward (answers more start) (outcome_of_sending (still start pair) sending).forward (answered table endpoint (outcome_of_sending (still start pair) sending))
unfolding answers
one_answer start more endpoint sending table pair lives =
    ap (λ (o : Option (Bound × Position)). by_answer (answers more start) endpoint table (option_map (λ (p : Bound × Position). outcome_of_sending (still start p) sending) o)) lives

-- who was served stands where the answer left it, and was told its messages
pub record IsServedLine (start : Start) (frames : List Frame) (bound : Bound) (rest : List Sent) (written : List Frame) (outcome : Outcome) : Type 0 where
  pub life : (table_of start (before start bound.endpoint (length rest) frames)).life bound.endpoint ≡ (if among bound.endpoint outcome.ends then None else Some (bound, outcome.position))
  pub told : (table_of start (before start bound.endpoint (length rest) frames)).told bound.endpoint ≡ written ++ messages_on bound.endpoint outcome.frames

pub served_line : SpelledWhereRead → (start : Start) (frames : List Frame) (bound : Bound) (one : Sent) (rest : List Sent) (position : Position) (written : List Frame) → is_client bound.endpoint ≡ true →
    among bound.endpoint (handles_of one.sending) ≡ false → IsHead start frames bound one rest position written →
    IsServedLine start frames bound rest written (outcome_of_sending (still start (bound, position)) one.sending)
served_line law start frames bound one rest position written client uncarried head' =
    record { life = whole.life ∙ line_life; told = whole.told ∙ ap (λ (fs : List Frame). fs ++ messages_on bound.endpoint outcome.frames) head'.told } where
      table : Table
      table = table_of start head'.earlier

      outcome : Outcome
      outcome = outcome_of_sending (still start (bound, position)) one.sending

      within : StaysWithin bound.endpoint (handles_of one.sending) outcome
      within = sending_within law (still start (bound, position)) one.sending

      named : AreNamed table
      named = table_named start head'.earlier

      all_answers : table_of start (head'.frame ∷ head'.earlier) ≡ onward (answers (some_weight one).0 start) outcome.forward (answered table bound.endpoint outcome)
      all_answers =
          head'.behind
          ∙ ap (λ (w : ℕ). answers w start bound.endpoint one.sending table) (some_weight one).1
          ∙ one_answer start (some_weight one).0 bound.endpoint one.sending table (bound, position) head'.life

      own : SaySame bound.endpoint (onward (answers (some_weight one).0 start) outcome.forward (answered table bound.endpoint outcome)) (answered table bound.endpoint outcome)
      own =
          onward_touches start (some_weight one).0 (answered table bound.endpoint outcome) (handles_of one.sending) bound.endpoint
          (λ e s t g o u. answers_touch law (some_weight one).0 start e s t bound.endpoint client g o u)
          client uncarried (answered_named table bound.endpoint outcome named) outcome.forward within.forward

      whole : SaySame bound.endpoint (table_of start (before start bound.endpoint (length rest) frames)) (answered table bound.endpoint outcome)
      whole =
          then_same head'.steady
          (then_same (record { life = ap (λ (t : Table). t.life bound.endpoint) all_answers; told = ap (λ (t : Table). t.told bound.endpoint) all_answers }) own)

      line_life : (answered table bound.endpoint outcome).life bound.endpoint ≡ (if among bound.endpoint outcome.ends then None else Some (bound, outcome.position))
      line_life =
          ap (λ (b : Bool). if among bound.endpoint outcome.ends then None else if b then option_map newborn outcome.bound else option_map (moved bound.endpoint outcome.position) (table.life bound.endpoint))
          (unbound_by bound.endpoint (handles_of one.sending) uncarried outcome.bound within.bound)
          ∙ ap (λ (o : Option (Bound × Position)). if among bound.endpoint outcome.ends then None else option_map (moved bound.endpoint outcome.position) o) head'.life
          ∙ ap (λ (b : Bool). if among bound.endpoint outcome.ends then None else Some (if b then (bound, outcome.position) else (bound, position))) (eq-eqb bound.endpoint bound.endpoint refl)
