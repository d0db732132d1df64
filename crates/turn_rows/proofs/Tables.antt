-- The row, frame by frame: the table behind each is named by the answers that made it.
use Rattle.std.proofs.Common.{◌≡◌, ◌≢◌, ℕ, suc, ◌<◌, ◌^◌, ◌==◌, Bool, true, false, List, [], ◌∷◌, ◌++◌, Option, Some, None, codes, reverse, if◌then◌else◌, refl, ap, ◌∙◌, lit<}
use Rattle.std.specs.Option.{option_map}
use Rattle.std.proofs.lemmas.Bool.{ne_eqb}
use Rattle.fidl_names.specs.declared.methods.Method.TheVariants as method
use Rattle.fidl_names.specs.declared.statuses.Status.TheVariants as status
use Rattle.fidl_names.specs.StatusNumber.{number_of}
use Rattle.fidl_wire.specs.Epitaphs.{epitaph_bytes}
use Rattle.fidl_wire.specs.Names.{AreDistinct}
use Rattle.link_frames.specs.Frames.{Frame}
use Rattle.io_messages.specs.Asked as asks
use Rattle.io_messages.specs.Replies.{payload}
use Rattle.io_messages.specs.ReplyWriting.{event_bytes, reply_bytes}
use Rattle.io_messages.specs.declared.protocols.Protocol.TheVariants as protocol
use Rattle.io_rights.specs.Operations.{all}
use Rattle.path_walk.specs.Paths.{names_of, text_of}
use Rattle.conn_rules.specs.Onward.{onward_bytes}
use Rattle.conn_rules.specs.Acts.{act_of}
use Rattle.conn_rules.specs.Answers.{Act, binds, forwards, hangs_up, only, refuses, replies}
use Rattle.conn_rules.specs.Births.{Position, fresh}
use Rattle.vfs_journal.specs.Entries.{Sending, hang_up, message}
use Rattle.vfs_journal.specs.Outcomes.{Outcome, close_frame, outcome_with}
use Rattle.vfs_journal.specs.Serving.{Read, asker_of, context_at, outcome_of_read, outcome_of_sending}
use Rattle.vfs_journal.specs.Session.{weight_of_read}
use Rattle.vfs_journal.specs.Starts.{Bound}
use Rattle.vfs_journal.specs.View.{moved}
use Rattle.journal_laws.proofs.Below.{Below, below}
use Rattle.journal_laws.proofs.Onward.{onward_reads}
use Rattle.turn_law.specs.Told.{Table, answered, answers, behind_frame, by_answer, newborn, onward, sent_on, still, table_at_start, table_of}
use Rattle.turn_rows.specs.Rows.{Asks, EachMessageIsTold, TellsEach, frames_of, message_on, narrow, on_root, read_there, tell_and_traverse, three_servers}
use Rattle.turn_rows.proofs.Walks.{birth_of_d, one_name, read_act, read_first, read_second, told_act, told_first, told_second, two_names}

-- ---- one answer

hop : (more : ℕ) (table : Table) (endpoint : ℕ) (sending : Sending) (pair : Bound × Position) (outcome : Outcome) → table.life endpoint ≡ Some pair → outcome_of_sending (still three_servers pair) sending ≡ outcome →
    answers (suc more) three_servers endpoint sending table ≡ onward (answers more three_servers) outcome.forward (answered table endpoint outcome)
unfolding answers
hop more table endpoint sending pair outcome lives is =
    ap (λ (o : Option (Bound × Position)). by_answer (answers more three_servers) endpoint table (option_map (λ (p : Bound × Position). outcome_of_sending (still three_servers p) sending) o)) lives
    ∙ ap (λ (o : Outcome). onward (answers more three_servers) o.forward (answered table endpoint o)) is

-- ---- an Open over both mounts

abbrev on_first : Bound
on_first = on_root 1 0 all

abbrev on_second : Bound
on_second = on_root 0x40000000 1 all

abbrev on_third : Bound
on_third = on_root 0x40000001 2 narrow

abbrev over_first : ℕ → ℕ → ℕ → Outcome
over_first txid word object = outcome_with (asker_of on_first txid object) (only fresh (forwards 0 word (codes "n" ∷ codes "d" ∷ [])))

abbrev over_second : ℕ → ℕ → Outcome
over_second word object = outcome_with (asker_of on_second 0 object) (only fresh (forwards 1 word (codes "d" ∷ [])))

abbrev at_last : ℕ → Act → Outcome
at_last object act = outcome_with (asker_of on_third 0 object) act

-- the table behind an Open over both mounts
abbrev opened : Table → ℕ → ℕ → ℕ → Act → Table
opened table txid word object act =
    answered (answered (answered table 1 (over_first txid word object)) 0x40000000 (over_second word object)) 0x40000001 (at_last object act)

record Lives (table : Table) : Type 0 where
  first : table.life 1 ≡ Some (newborn on_first)
  second : table.life 0x40000000 ≡ Some (newborn on_second)
  third : table.life 0x40000001 ≡ Some (newborn on_third)

module _ (below' : Below) (bytes : List ℕ) (txid word object : ℕ) (act : Act) (small : word < 256 ^ 8) (low : object < 0x80000000)
    (reads : Asks bytes (object ∷ []) txid (asks.open_path (codes "m/n/d") word None object))
    (first : act_of (context_at (still three_servers (newborn on_first))) (asks.open_path (codes "m/n/d") word None object) ≡ only fresh (forwards 0 word (codes "n" ∷ codes "d" ∷ [])))
    (second : act_of (context_at (still three_servers (newborn on_second))) (asks.open_path (codes "n/d") word None object) ≡ only fresh (forwards 1 word (codes "d" ∷ [])))
    (third : act_of (context_at (still three_servers (newborn on_third))) (asks.open_path (codes "d") word None object) ≡ act) where
  first_outcome : outcome_of_sending (still three_servers (newborn on_first)) (message bytes (object ∷ [])) ≡ over_first txid word object
  unfolding outcome_of_sending
  first_outcome = ap (outcome_of_read (still three_servers (newborn on_first))) reads ∙ ap (outcome_with (asker_of on_first txid object)) first

  second_outcome : outcome_of_sending (still three_servers (newborn on_second)) (message (onward_bytes word (codes "n" ∷ codes "d" ∷ []) object) (object ∷ [])) ≡ over_second word object
  unfolding outcome_of_sending text_of
  second_outcome =
      ap (outcome_of_read (still three_servers (newborn on_second))) (onward_reads below' word (codes "n" ∷ codes "d" ∷ []) object two_names small low)
      ∙ ap (outcome_with (asker_of on_second 0 object)) second

  third_outcome : outcome_of_sending (still three_servers (newborn on_third)) (message (onward_bytes word (codes "d" ∷ []) object) (object ∷ [])) ≡ at_last object act
  unfolding outcome_of_sending text_of
  third_outcome =
      ap (outcome_of_read (still three_servers (newborn on_third))) (onward_reads below' word (codes "d" ∷ []) object one_name small low)
      ∙ ap (outcome_with (asker_of on_third 0 object)) third

  is_opened : (table : Table) → Lives table → (at_last object act).forward ≡ None → sent_on three_servers 1 (message bytes (object ∷ [])) table ≡ opened table txid word object act
  unfolding names_of
  is_opened table lives ends =
      let one = answered table 1 (over_first txid word object) in
      let two = answered one 0x40000000 (over_second word object) in
      ap (λ (r : Read). answers (weight_of_read r) three_servers 1 (message bytes (object ∷ [])) table) reads
      ∙ hop 3 table 1 (message bytes (object ∷ [])) (newborn on_first) (over_first txid word object) lives.first first_outcome
      ∙ hop 2 one 0x40000000 (message (onward_bytes word (codes "n" ∷ codes "d" ∷ []) object) (object ∷ [])) (newborn on_second) (over_second word object) (ap (option_map (moved 1 fresh)) lives.second) second_outcome
      ∙ hop 1 two 0x40000001 (message (onward_bytes word (codes "d" ∷ []) object) (object ∷ [])) (newborn on_third) (at_last object act)
      (ap (option_map (moved 0x40000000 fresh)) (ap (option_map (moved 1 fresh)) lives.third)) third_outcome
      ∙ ap (λ (o : Option _). onward (answers 1 three_servers) o (opened table txid word object act)) ends

-- ---- the tables of the row

abbrev on_d : Bound
on_d = record { endpoint = 5; server = 2; birth = birth_of_d; mask = 0 }

abbrev asked : ℕ → Outcome
asked txid = outcome_with (asker_of on_d txid 0) (only fresh (replies (payload method.Query (codes "fuchsia.io/Directory"))))

abbrev closed : Outcome
closed = outcome_with (asker_of on_d 0 0) (only fresh hangs_up)

-- behind the first Open, the Query, the second Open, and the Close
abbrev once : ℕ → Table
once first = opened (table_at_start three_servers) first tell_and_traverse 5 (only fresh (binds birth_of_d true))

abbrev twice : ℕ → ℕ → Table
twice first third = answered (once first) 5 (asked third)

abbrev thrice : ℕ → ℕ → ℕ → Table
thrice first second third = opened (twice first third) second read_there 6 (only fresh (refuses status.AccessDenied))

abbrev all_told : ℕ → ℕ → ℕ → Table
all_told first second third = answered (thrice first second third) 5 closed

start_lives : Lives (table_at_start three_servers)
start_lives = record { first = refl; second = refl; third = refl }

twice_lives : (first third : ℕ) → Lives (twice first third)
twice_lives first third = record { first = refl; second = refl; third = refl }

is_asked : (query : List ℕ) (third : ℕ) → Asks query [] third asks.query → outcome_of_sending (still three_servers (newborn on_d)) (message query []) ≡ asked third
unfolding outcome_of_sending act_of
is_asked query third reads = ap (outcome_of_read (still three_servers (newborn on_d))) reads

is_closed : outcome_of_sending (still three_servers (newborn on_d)) hang_up ≡ closed
unfolding outcome_of_sending
is_closed = refl

-- ---- frame by frame

module _ (below' : Below) (opens refused query : List ℕ) (first second third : ℕ)
    (opens_reads : Asks opens (5 ∷ []) first (asks.open_path (codes "m/n/d") tell_and_traverse None 5))
    (refused_reads : Asks refused (6 ∷ []) second (asks.open_path (codes "m/n/d") read_there None 6))
    (query_reads : Asks query [] third asks.query) where
  behind_first : behind_frame three_servers (message_on 1 (5 ∷ []) opens) (table_at_start three_servers) ≡ once first
  behind_first =
      is_opened below' opens first tell_and_traverse 5 (only fresh (binds birth_of_d true)) (lit< tt) (lit< tt) opens_reads (told_first 5) (told_second 5) (told_act 5) (table_at_start three_servers) start_lives refl

  behind_second : behind_frame three_servers (message_on 5 [] query) (once first) ≡ twice first third
  behind_second =
      ap (λ (r : Read). answers (weight_of_read r) three_servers 5 (message query []) (once first)) query_reads
      ∙ hop 0 (once first) 5 (message query []) (newborn on_d) (asked third) refl (is_asked query third query_reads)

  behind_third : behind_frame three_servers (message_on 1 (6 ∷ []) refused) (twice first third) ≡ thrice first second third
  behind_third =
      is_opened below' refused second read_there 6 (only fresh (refuses status.AccessDenied)) (lit< tt) (lit< tt) refused_reads (read_first 6) (read_second 6) (read_act 6) (twice first third) (twice_lives first third) refl

  behind_fourth : behind_frame three_servers (message_on 6 [] query) (thrice first second third) ≡ thrice first second third
  behind_fourth = refl

  behind_close : behind_frame three_servers (close_frame 5) (thrice first second third) ≡ all_told first second third
  behind_close = hop 0 (thrice first second third) 5 hang_up (newborn on_d) closed refl is_closed

  behind_sixth : behind_frame three_servers (message_on 5 [] query) (all_told first second third) ≡ all_told first second third
  behind_sixth = refl

  behind_last : behind_frame three_servers (message_on 1 (1 ∷ []) opens) (all_told first second third) ≡ all_told first second third
  behind_last = refl

  whole : table_of three_servers (reverse (frames_of opens refused query)) ≡ all_told first second third
  unfolding table_of
  whole =
      let last = behind_frame three_servers (message_on 1 (1 ∷ []) opens) in
      let sixth = behind_frame three_servers (message_on 5 [] query) in
      let fifth = behind_frame three_servers (close_frame 5) in
      let fourth = behind_frame three_servers (message_on 6 [] query) in
      let third' = behind_frame three_servers (message_on 1 (6 ∷ []) refused) in
      ap (λ (t : Table). last (sixth (fifth (fourth (third' (sixth t)))))) behind_first
      ∙ ap (λ (t : Table). last (sixth (fifth (fourth (third' t))))) behind_second
      ∙ ap (λ (t : Table). last (sixth (fifth (fourth t)))) behind_third
      ∙ ap (λ (t : Table). last (sixth (fifth t))) behind_fourth
      ∙ ap (λ (t : Table). last (sixth t)) behind_close
      ∙ ap last behind_sixth
      ∙ behind_last

  told_by : Bool → Bool → List Frame
  told_by is_five is_six =
      let event = message_on 5 [] (event_bytes protocol.Directory) in
      let reply = message_on 5 [] (reply_bytes third (payload method.Query (codes "fuchsia.io/Directory"))) in
      let epitaph = message_on 6 [] (epitaph_bytes (number_of status.AccessDenied)) in
      (if is_five then event ∷ [] else []) ++ (if is_five then reply ∷ [] else []) ++ [] ++ [] ++ (if is_six then epitaph ∷ [] else []) ++ []

  nothing : (endpoint : ℕ) → 5 ≢ endpoint → 6 ≢ endpoint → (all_told first second third).told endpoint ≡ []
  unfolding told_by
  nothing endpoint five six =
      ap (λ (b : Bool). told_by b (6 == endpoint)) (ne_eqb 5 endpoint five) ∙ ap (λ (b : Bool). told_by false b) (ne_eqb 6 endpoint six)

  tells_each : TellsEach (frames_of opens refused query) third
  tells_each =
      let table = λ (endpoint : ℕ). ap (λ (t : Table). t.told endpoint) whole in
      record { opened = table 5; refused = table 6; others = λ endpoint five six. table endpoint ∙ nothing endpoint five six }

pub each_message : AreDistinct → EachMessageIsTold
each_message apart opens refused query first second third opens_reads refused_reads query_reads =
    tells_each (below apart) opens refused query first second third opens_reads refused_reads query_reads
