-- What a session over a tree writes is the output of its journal, which is lawful and keeps the laws, or a front of it.
use Rattle.std.proofs.Common.{◌≡◌, ◌<◌, ℕ, ◌⊎◌, List, [], ◌∷◌, ◌++◌, Option, Some, None, All, drop, take, refl, sym, ap, ◌∙◌, subst, append-nil, take-append-drop, inl, inr}
use Rattle.std.proofs.lemmas.List.Elements.{All-nil, All-cons}
use Rattle.std.specs.Io.KnownBytes.{IsAtEnd}
use Rattle.std.specs.Option.{option_map}
use Rattle.fidl_names.specs.Numbers.{AreBytes}
use Rattle.fidl_wire.specs.Names.{AreDistinct}
use Rattle.host_io.specs.Told.{Told}
use Rattle.toml.specs.Data.{Data}
use Rattle.session_start.specs.Accepted.{AreAccepted, HasFilesOfBytes}
use Rattle.session_start.specs.Items.{Lists, NodeItem}
use Rattle.session_start.specs.RulesOnLists.{first_broken, rules_on_lists}
use Rattle.tree_file.specs.Generated.{directory_of, generated_lists}
use Rattle.tree_file.specs.Rules.{document_of, failure_of, first_failure, lists_of, start_from}
use Rattle.tree_file.proofs.Accepted.{accepted_of}
use Rattle.tree_file.proofs.GeneratedRules.{generated_accepted}
use Rattle.link_frames.specs.Frames.{Frame, Frames, IsFrame, spellings}
use Rattle.link_frames.specs.Fronts.{Begins}
use Rattle.link_frames.specs.declared.kinds.Mode.{Mode}
use Rattle.link_frames.specs.declared.kinds.Mode.TheVariants.{Auto}
use Rattle.link_frames.specs.declared.kinds.Side.TheVariants.{ToServers}
use Rattle.vfs_journal.specs.Entries.{Journal}
use Rattle.vfs_journal.specs.Lawful.{Lawful}
use Rattle.vfs_journal.specs.Session.{ended, session}
use Rattle.vfs_journal.specs.Starts.{start_of}
use Rattle.journal_laws.proofs.Below.{below}
use Rattle.journal_laws.proofs.Draining.{sessions_are_lawful, sessions_serve_all}
use Rattle.session_laws.specs.Laws.{IsLawfulOver}
use Rattle.session_laws.proofs.Keeping.{lawful_over}
use Rattle.vfs_script.specs.Scripts.{frames_of}
use Rattle.script_session.specs.Playing.{transcript}
use Rattle.script_session.proofs.Shown.{transcript_is}
use Rattle.workload.specs.Workload.{workload}
use Rattle.run_status.specs.declared.statuses.Status.{Status}
use Rattle.run_status.specs.declared.statuses.Status.TheVariants as status
use Rattle.run_status.specs.Causes.{After, Collides}
use Rattle.run_status.specs.Outside.{Outside, Streams, sink_of}
use Rattle.run_status.specs.Texts.{WritesPieces, WritesText}
use Rattle.link_session.specs.Session.{EndsBehind, IsCutOff, IsPartByEnd, IsPartSoFar, IsReadFault, SessionAnswers, Took, Wrote}
use Rattle.run_status.specs.FileCauses.{AfterTree, HasNoStart}
use Rattle.run_status.specs.Trees.{IsTree, Stands}
use Rattle.vfs_program.specs.TreeSession.{tree_course}
use Rattle.script_session.specs.ScriptCauses.{AfterReport, AfterScript, HasNoScript, IsStarved}
use Rattle.script_session.specs.Scripts.{IsPlayable, Said}
use Rattle.script_session.specs.Workloads.{IsReport, report_of}
use Rattle.vfs_program.specs.Answers.{Answers}
use Rattle.vfs_program.specs.Lawful.{IsAllByEnd, IsAllSoFar, IsEnded, IsFront, IsLawfulMaking, IsLawfulPlaying, IsLawfulRun, IsLawfulServing, IsOfJournal}
use Rattle.vfs_program.specs.Words.{Asks, FileOf, ServeOf, RunOf, CheckOf, ShowAll, MakeOf}

-- ---- a tree that stands is accepted

last_rules : (a b c d e f : Option ℕ) (rules : List (Option ℕ)) → first_broken 2 (a ∷ b ∷ c ∷ d ∷ e ∷ f ∷ rules) ≡ None → first_broken 8 rules ≡ None
last_rules None None None None None None rules h = h
last_rules None None None None None (Some x) rules h = absurd (cc)
last_rules None None None None (Some x) f rules h = absurd (cc)
last_rules None None None (Some x) e f rules h = absurd (cc)
last_rules None None (Some x) d e f rules h = absurd (cc)
last_rules None (Some x) c d e f rules h = absurd (cc)
last_rules (Some x) b c d e f rules h = absurd (cc)

some_lists : {a b : Lists} → Some a ≡ Some b → a ≡ b
some_lists e = cc

document_accepted : (read : Option Data) (lists : Lists) → failure_of read ≡ None → option_map lists_of read ≡ Some lists → AreAccepted lists
document_accepted None lists unbroken is = absurd (cc)
document_accepted (Some document) lists unbroken is =
    subst AreAccepted (some_lists is) (accepted_of document (last_rules _ _ _ _ _ _ (rules_on_lists (lists_of document)) unbroken))

text_accepted : (text : List ℕ) (lists : Lists) → first_failure text ≡ None → start_from text ≡ Some lists → AreAccepted lists
unfolding first_failure start_from
text_accepted text lists unbroken is = document_accepted (document_of text) lists unbroken is

pub stands_accepted : (told : Told) (lists : Lists) → Stands told lists → AreAccepted lists
stands_accepted told lists h = text_accepted h.text lists h.unbroken h.is

-- ---- and so is the generated one, whose files are bytes

generated_files : HasFilesOfBytes generated_lists
generated_files =
    let holds : NodeItem → Type 0 = λ node. AreBytes node.bytes in
    let none : AreBytes [] = All-nil (λ (byte : ℕ). byte < 256) in
    All-cons holds (directory_of 0) (directory_of 1 ∷ []) none (All-cons holds (directory_of 1) [] none (All-nil holds))

-- ---- fronts of the output

-- whole frames in front of what was taken
frames_in_front : (taken front more : List ℕ) (frames : List Frame) → taken ≡ front ++ more → Frames ToServers front frames [] → Begins (spellings frames) taken
frames_in_front taken front more frames e read = (more, e ∙ ap (λ l. l ++ more) (read.split ∙ append-nil (spellings frames)))

ends_begin : (taken : List ℕ) (at_end : Type 0) (frames : List Frame) → EndsBehind ToServers taken at_end frames → Begins (spellings frames) taken
ends_begin taken at_end frames (inl h) = (h.0, h.1.split)
ends_begin taken at_end frames (inr h) = frames_in_front taken (take h.0 taken) (drop h.0 taken) frames (sym (take-append-drop h.0 taken)) h.3

ends_are_frames : (taken : List ℕ) (at_end : Type 0) (frames : List Frame) → EndsBehind ToServers taken at_end frames → All (IsFrame ToServers) frames
ends_are_frames taken at_end frames (inl h) = h.1.each
ends_are_frames taken at_end frames (inr h) = h.3.each

-- ---- what a session writes

module _ (apart : AreDistinct) (told : Told) (lists : Lists) (is : IsTree told lists) (by : Mode) (before after : Streams) where
  over : (journal : Journal) → Lawful (start_of lists) journal → IsLawfulOver lists journal
  over journal h = lawful_over apart lists journal (stands_accepted told lists is.stands) is.bytes h

  abbrev of_session : (taken bytes : List ℕ) (frames : List Frame) → Took before after taken → Begins (spellings frames) taken → All (IsFrame ToServers) frames → Wrote before after bytes →
      IsOfJournal lists before after
  of_session taken bytes frames took begins each wrote = record {
    journal = session (start_of lists) by frames;
    over = over (session (start_of lists) by frames) (sessions_are_lawful (start_of lists) by frames each).0;
    taken = taken;
    took = took;
    frames = frames;
    each = each;
    begins = begins;
    bytes = bytes;
    wrote = wrote;
  }

  abbrev of_end : (taken bytes : List ℕ) (frames : List Frame) → Took before after taken → EndsBehind ToServers taken (IsAtEnd after.left) frames → Wrote before after bytes → IsOfJournal lists before after
  of_end taken bytes frames took ends wrote =
      let each = ends_are_frames taken (IsAtEnd after.left) frames ends in
      record {
        journal = ended (start_of lists) by frames;
        over = over (ended (start_of lists) by frames) (sessions_are_lawful (start_of lists) by frames each).1;
        taken = taken;
        took = took;
        frames = frames;
        each = each;
        begins = ends_begin taken (IsAtEnd after.left) frames ends;
        bytes = bytes;
        wrote = wrote;
      }

  all_by_end : (taken : List ℕ) (frames : List Frame) → Took before after taken → EndsBehind ToServers taken (IsAtEnd after.left) frames
      → Wrote before after ((tree_course (start_of lists) by).by_end frames) → IsAllByEnd lists by before after
  unfolding tree_course
  all_by_end taken frames took ends wrote =
      let written = of_end taken _ frames took ends wrote in
      record {
        written = written;
        ends = ends;
        own = refl;
        drained = sessions_serve_all (below apart) (start_of lists) by frames written.over.sound written.each;
        output = refl;
      }

  all_so_far : (same : Type 0) → IsReadFault ToServers (tree_course (start_of lists) by) before after same → IsAllSoFar lists by before after
  unfolding tree_course
  all_so_far same a = record {
    written = of_session a.taken _ a.frames a.took (a.rest, a.read.split) a.read.each a.wrote;
    rest = a.rest;
    read = a.read;
    own = refl;
    output = refl;
  }

  part_lawful : (taken part : List ℕ) → Took before after taken → Wrote before after part
      → IsPartSoFar ToServers (tree_course (start_of lists) by) taken part ⊎ IsPartByEnd ToServers (tree_course (start_of lists) by) taken (IsAtEnd after.left) part
      → IsFront lists by before after
  unfolding tree_course
  part_lawful taken part took wrote (inl h) = record {
    written = of_session taken part h.frames took (frames_in_front taken h.front h.begins.0 h.frames h.begins.1 h.read) h.read.each wrote;
    own = inl refl;
    front = h.lawful;
  }
  part_lawful taken part took wrote (inr h) = record { written = of_end taken part h.frames took h.ends wrote; own = inr (refl, h.ends); front = h.lawful }

  cut_lawful : IsCutOff ToServers (tree_course (start_of lists) by) before after → IsFront lists by before after
  cut_lawful h = part_lawful h.taken h.part h.took h.wrote h.lawful

  serving_lawful : (same : Type 0) (answer : Status) → SessionAnswers ToServers (tree_course (start_of lists) by) before after same answer → IsLawfulServing lists by before after answer
  serving_lawful same status.Done a = all_by_end a.taken a.frames a.took (inl ([], a.read, inl a.at_end)) a.wrote.0
  serving_lawful same (status.Truncated at) a = all_by_end a.taken a.frames a.took (inl (a.rest, a.read, inl a.at_end)) a.wrote.0
  serving_lawful same (status.BadFrame at why) a = all_by_end a.taken a.frames a.took (inr (at, why, a.bad, a.before_it)) a.wrote.0
  serving_lawful same status.InputTooLong a = all_by_end a.taken a.frames a.took (inl (a.rest, a.read, inr a.many)) a.wrote.0
  serving_lawful same status.ReadFault a = all_so_far same a
  serving_lawful same status.WriteFault a = cut_lawful a.0
  serving_lawful same status.NoMemory a = cut_lawful a.1
  serving_lawful same status.Usage a = absurd a
  serving_lawful same (status.TreeRefused rule item) a = absurd a
  serving_lawful same (status.ScriptRefused line) a = absurd a
  serving_lawful same (status.Collision first second) a = absurd a
  serving_lawful same status.FileFault a = absurd a
  serving_lawful same status.FileTooLarge a = absurd a

-- ---- a session that is played

abbrev is_ended : AreDistinct → (lists : Lists) (by : Mode) (frames : List Frame) → AreAccepted lists → HasFilesOfBytes lists → All (IsFrame ToServers) frames → IsEnded lists by frames
is_ended apart lists by frames accepted files each =
    let journal = ended (start_of lists) by frames in
    let over = lawful_over apart lists journal accepted files (sessions_are_lawful (start_of lists) by frames each).1 in
    record { journal = journal; own = refl; over = over; drained = sessions_serve_all (below apart) (start_of lists) by frames over.sound each }

played_lawful : (apart : AreDistinct) (tree script : Told) (lists : Lists) (said : Said) (before after : Streams) (answer : Status) → IsTree tree lists → IsPlayable script said
    → WritesPieces (transcript (start_of lists) said.by said.text) (sink_of before) (sink_of after) answer → IsLawfulPlaying lists said before after answer
played_lawful apart tree script lists said before after answer is can a = record {
  played = is_ended apart lists said.by (frames_of said.text) (stands_accepted tree lists is.stands) is.bytes can.frames;
  wrote = subst (λ text. WritesPieces text (sink_of before) (sink_of after) answer) (transcript_is (start_of lists) said.by said.text) a;
}

made_lawful : (apart : AreDistinct) (rounds : ℕ) (report : List ℕ) (before after : Streams) (answer : Status) → IsReport rounds report
    → WritesText report ⊥ (sink_of before) (sink_of after) answer → IsLawfulMaking rounds before after answer
unfolding report_of
made_lawful apart rounds report before after answer is a = record {
  played = is_ended apart generated_lists Auto (frames_of (workload rounds)) generated_accepted generated_files is.sent;
  wrote = subst (λ text. WritesText text ⊥ (sink_of before) (sink_of after) answer) is.is a;
}

-- ---- commands

-- what holds of the rest of a command holds behind the same causes
after_on : {X : Type 0} (stops : Status → Type 0) (same : Type 0) (Found : X → Type 0) (rest more : X → Status → Type 0) (answer : Status)
    → ((x : X) → Found x → rest x answer → more x answer) → After stops same Found rest answer → After stops same Found more answer
after_on stops same Found rest more answer goes (inl a) = inl a
after_on stops same Found rest more answer goes (inr a) = inr (a.0, a.1, goes a.0 a.1 a.2)

pub lawful : (asks : Asks) (before after : Outside) (source_same sink_same : Type 0) (answer : Status)
    → Answers asks before after source_same sink_same answer → IsLawfulRun asks before after source_same sink_same answer
lawful (ServeOf tree by) before after S K answer a =
    let told = before.files.told tree in
    let serves : Lists → Status → Type 0 = λ lists. SessionAnswers ToServers (tree_course (start_of lists) by) before.streams after.streams K in
    let keeps : Lists → Status → Type 0 = λ lists. IsLawfulServing lists by before.streams after.streams in
    after_on Collides (S × K) (λ (alone : Unit {0}). AreDistinct) (λ alone. AfterTree tree before.files after.files (S × K) serves) (λ alone. AfterTree tree before.files after.files (S × K) keeps) answer
    (λ alone apart. after_on (HasNoStart tree before.files after.files) (S × K) (IsTree told) serves keeps answer
    (λ lists is h. serving_lawful apart told lists is by before.streams after.streams K answer h)) a
lawful (FileOf name) before after S K answer a = tt
lawful (RunOf tree script) before after S K answer a =
    let told = before.files.told tree in
    let plays : Lists → Said → Status → Type 0 = λ lists said. WritesPieces (transcript (start_of lists) said.by said.text) (sink_of before.streams) (sink_of after.streams) in
    let keeps : Lists → Said → Status → Type 0 = λ lists said. IsLawfulPlaying lists said before.streams after.streams in
    let whole : Lists → Status → Type 0 = λ lists. AfterScript script before.files after.files K (plays lists) in
    let kept : Lists → Status → Type 0 = λ lists. AfterScript script before.files after.files K (keeps lists) in
    after_on Collides K (λ (alone : Unit {0}). AreDistinct) (λ alone. AfterTree tree before.files after.files K whole) (λ alone. AfterTree tree before.files after.files K kept) answer
    (λ alone apart. after_on (HasNoStart tree before.files after.files) K (IsTree told) whole kept answer
    (λ lists is. after_on (HasNoScript script before.files after.files) K (IsPlayable (before.files.told script)) (plays lists) (keeps lists) answer
    (λ said can h. played_lawful apart told (before.files.told script) lists said before.streams after.streams answer is can h))) a.1
lawful (CheckOf tree) before after S K answer a = tt
lawful ShowAll before after S K answer a = tt
lawful (MakeOf rounds) before after S K answer a =
    let reports : List ℕ → Status → Type 0 = λ report. WritesText report ⊥ (sink_of before.streams) (sink_of after.streams) in
    let keeps : List ℕ → Status → Type 0 = λ report. IsLawfulMaking rounds before.streams after.streams in
    after_on Collides K (λ (alone : Unit {0}). AreDistinct) (λ alone. AfterReport rounds K reports) (λ alone. AfterReport rounds K keeps) answer
    (λ alone apart. after_on IsStarved K (IsReport rounds) reports keeps answer
    (λ report is h. made_lawful apart rounds report before.streams after.streams answer is h)) a.2
