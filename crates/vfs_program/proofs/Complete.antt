-- A command that has all that it needs, and meets no fault, is done unless memory runs out.
use Rattle.std.proofs.Common.{◌≡◌, ℕ, ◌≤◌, List, [], ◌++◌, Option, Some, None, is_some, true≢false, length, sym, ap, ◌∙◌, subst, arith, append-nil, length-append, inl, inr}
use Rattle.std.specs.Io.KnownBytes.{Consumes, IsAtEnd}
use Rattle.fidl_names.specs.declared.limits.TheConstants as limit
use Rattle.fidl_wire.specs.Names.{AreDistinct}
use Rattle.host_io.specs.Causes.{Rose}
use Rattle.host_io.specs.Streams.{AppendsPart}
use Rattle.host_io.specs.Told.{Told, Holds}
use Rattle.host_io.specs.declared.files.FileFault.TheVariants as fault
use Rattle.session_start.specs.Items.{Lists}
use Rattle.link_frames.specs.Frames.{Frames, Bad}
use Rattle.link_frames.specs.declared.kinds.FrameReason.{FrameReason}
use Rattle.link_frames.specs.declared.kinds.Side.{Side}
use Rattle.link_frames.specs.declared.kinds.Side.TheVariants.{Any, ToServers}
use Rattle.link_frames.proofs.Runs.{bad_stays}
use Rattle.link_frames.proofs.Streams.{one_list, not_both}
use Rattle.script_session.specs.Playing.{transcript}
use Rattle.vfs_journal.specs.Starts.{start_of}
use Rattle.vfs_script.specs.Scripts.{bad_line}
use Rattle.run_status.specs.declared.statuses.Status.{Status}
use Rattle.run_status.specs.declared.statuses.Status.TheVariants as status
use Rattle.run_status.specs.Causes.{After, Collides}
use Rattle.run_status.specs.Outside.{FilesTold, Outside, Streams, SinkTold, sink_of}
use Rattle.run_status.specs.Texts.{WritesPieces, WritesText}
use Rattle.link_session.specs.Session.{Course, SessionAnswers, IsWhole, IsTooLong, IsTruncated, IsBad}
use Rattle.run_status.specs.FileCauses.{AfterFile, AfterTree, HasNoFile, HasNoStart, fault_in, rule_in}
use Rattle.run_status.specs.Files.{IsFileFault, IsWithin}
use Rattle.run_status.specs.Trees.{IsTree, Stands, line_of}
use Rattle.run_status.proofs.FoundFiles.{has_file, has_start, not_large, same_text}
use Rattle.file_session.specs.OneFile.{file_course}
use Rattle.vfs_program.specs.TreeSession.{tree_course}
use Rattle.vfs_program.specs.Shown.{lines_course}
use Rattle.script_session.specs.ScriptCauses.{AfterReport, AfterScript, HasNoScript, IsStarved}
use Rattle.script_session.specs.Scripts.{IsBadAt, IsPlayable, Said, Says}
use Rattle.script_session.specs.Workloads.{IsReport}
use Rattle.vfs_program.specs.Answers.{Answers, IsServable, NoFault, IsDoneOrNoMemory}
use Rattle.vfs_program.specs.Words.{Asks, FileOf, ServeOf, RunOf, CheckOf, ShowAll, MakeOf}

-- what is left behind the bytes that were taken of a told input
untaken : (input taken : List ℕ) (left : Option (List ℕ)) → Consumes (Some input) left taken
    → (rest : List ℕ) × (input ≡ taken ++ rest) × (IsAtEnd left → rest ≡ [])
untaken input taken None h = absurd h
untaken input taken (Some rest) h = (rest, h, λ e. e)

-- an input of fewer bytes isn't too long
not_long : (side : Side) (course : Course) (before after : Streams) → IsWhole side before → IsTooLong side course before after → ⊥
not_long side course before after is a =
    let left = untaken is.input a.taken after.left (subst (λ l. Consumes l after.left a.taken) is.told a.took) in
    omega (arith, is.few, a.many, ap length left.1, length-append a.taken left.0)

-- an input of whole frames ends inside none
not_truncated : (side : Side) (course : Course) (before after : Streams) (at : ℕ) → IsWhole side before → IsTruncated side course before after at → ⊥
not_truncated side course before after at is a =
    let left = untaken is.input a.taken after.left (subst (λ l. Consumes l after.left a.taken) is.told a.took) in
    let all : is.input ≡ a.taken = left.1 ∙ ap (λ l. a.taken ++ l) (left.2 a.at_end) ∙ append-nil a.taken in
    a.inside (one_list side a.taken a.frames is.frames a.rest [] a.read (subst (λ b. Frames side b is.frames []) all is.read)).1

-- and has no bad one
not_bad : (side : Side) (course : Course) (before after : Streams) (at : ℕ) (why : FrameReason) → IsWhole side before → IsBad side course before after at why → ⊥
not_bad side course before after at why is a =
    let left = untaken is.input a.taken after.left (subst (λ l. Consumes l after.left a.taken) is.told a.took) in
    not_both side is.input is.frames [] at why is.read (subst (λ b. Bad side b at why) (sym left.1) (bad_stays side a.taken left.0 at why a.bad))

-- a session over such an input without faults is done
session_done : (side : Side) (course : Course) (before after : Streams) (same : Type 0) → IsWhole side before
    → (Rose before.read_faults after.read_faults → ⊥) → (Rose before.write_faults after.write_faults → ⊥)
    → (answer : Status) → SessionAnswers side course before after same answer → IsDoneOrNoMemory answer
session_done side course before after same is source sink status.Done a = tt
session_done side course before after same is source sink status.NoMemory a = tt
session_done side course before after same is source sink status.Usage a = a
session_done side course before after same is source sink (status.TreeRefused rule item) a = a
session_done side course before after same is source sink (status.ScriptRefused line) a = a
session_done side course before after same is source sink (status.Collision first second) a = a
session_done side course before after same is source sink status.FileFault a = a
session_done side course before after same is source sink status.FileTooLarge a = a
session_done side course before after same is source sink status.ReadFault a = source a.rose
session_done side course before after same is source sink status.WriteFault a = sink a.1
session_done side course before after same is source sink status.InputTooLong a = not_long side course before after is a
session_done side course before after same is source sink (status.Truncated at) a = not_truncated side course before after at is a
session_done side course before after same is source sink (status.BadFrame at why) a = not_bad side course before after at why is a

-- a text that is written without faults is done
pub text_done : (text : List ℕ) (starved : Type 0) (before after : SinkTold) → (Rose before.faults after.faults → ⊥)
    → (answer : Status) → WritesText text starved before after answer → IsDoneOrNoMemory answer
text_done text starved before after sink status.Done a = tt
text_done text starved before after sink status.NoMemory a = tt
text_done text starved before after sink status.WriteFault a = sink a.1
text_done text starved before after sink status.Usage a = a
text_done text starved before after sink (status.TreeRefused rule item) a = a
text_done text starved before after sink (status.ScriptRefused line) a = a
text_done text starved before after sink (status.Collision first second) a = a
text_done text starved before after sink status.FileFault a = a
text_done text starved before after sink status.FileTooLarge a = a
text_done text starved before after sink status.ReadFault a = a
text_done text starved before after sink status.InputTooLong a = a
text_done text starved before after sink (status.Truncated at) a = a
text_done text starved before after sink (status.BadFrame at why) a = a

-- names that differ don't collide
pub no_collision : AreDistinct → (answer : Status) → Collides answer → IsDoneOrNoMemory answer
no_collision distinct (status.Collision first second) a = distinct first second a.order a.row a.equal
no_collision distinct status.Done a = absurd a
no_collision distinct status.NoMemory a = absurd a
no_collision distinct status.WriteFault a = absurd a
no_collision distinct status.Usage a = absurd a
no_collision distinct (status.TreeRefused rule item) a = absurd a
no_collision distinct (status.ScriptRefused line) a = absurd a
no_collision distinct status.FileFault a = absurd a
no_collision distinct status.FileTooLarge a = absurd a
no_collision distinct status.ReadFault a = absurd a
no_collision distinct status.InputTooLong a = absurd a
no_collision distinct (status.Truncated at) a = absurd a
no_collision distinct (status.BadFrame at why) a = absurd a

-- a cause of files that is want of memory
only_memory : (answer : Status) → fault_in answer ≡ Some fault.NoMemory → IsDoneOrNoMemory answer
only_memory status.NoMemory e = tt
only_memory status.FileFault e = absurd (cc)
only_memory status.FileTooLarge e = absurd (cc)
only_memory status.Done e = absurd (cc)
only_memory status.WriteFault e = absurd (cc)
only_memory status.Usage e = absurd (cc)
only_memory (status.TreeRefused rule item) e = absurd (cc)
only_memory (status.ScriptRefused line) e = absurd (cc)
only_memory (status.Collision first second) e = absurd (cc)
only_memory status.ReadFault e = absurd (cc)
only_memory status.InputTooLong e = absurd (cc)
only_memory (status.Truncated at) e = absurd (cc)
only_memory (status.BadFrame at why) e = absurd (cc)

no_file : (most : ℕ) (name : List ℕ) (before after : FilesTold) (file : List ℕ) → before.told name ≡ Holds file → length file ≤ most
    → (IsFileFault name before after → ⊥) → (answer : Status) → HasNoFile most name before after answer → IsDoneOrNoMemory answer
no_file most name before after file e few good answer lacks = only_memory answer (has_file most name file before after e few good fault_in answer lacks)

no_tree : (tree : List ℕ) (before after : FilesTold) (text : List ℕ) (lists : Lists) → before.told tree ≡ Holds text → Stands (Holds text) lists
    → (IsFileFault tree before after → ⊥) → (answer : Status) → HasNoStart tree before after answer → IsDoneOrNoMemory answer
no_tree tree before after text lists e stands good answer lacks = only_memory answer (has_start tree text lists before after e stands good rule_in fault_in answer lacks)

-- a text with a bad line isn't one that has none
no_line : (text : List ℕ) (line : ℕ) → bad_line text ≡ Some line → bad_line text ≡ None → ⊥
no_line text line some none = true≢false (ap is_some (sym some ∙ none))

-- no line of the script is bad
not_bad_at : (told : Told) (said : Said) (line : ℕ) → told ≡ Holds said.text → Says (Holds said.text) said → IsBadAt told line → ⊥
not_bad_at told said line e says bad =
    let same : bad.text ≡ said.text = same_text told said.text bad.text e bad.within.0 in
    no_line bad.text line bad.first (ap bad_line same ∙ says.good)

pub no_script : (script : List ℕ) (before after : FilesTold) (said : Said) → before.told script ≡ Holds said.text → Says (Holds said.text) said
    → (IsFileFault script before after → ⊥) → (answer : Status) → HasNoScript script before after answer → IsDoneOrNoMemory answer
no_script script before after said e says good (status.ScriptRefused line) a = not_bad_at (before.told script) said line e says a
no_script script before after said e says good status.NoMemory a = tt
no_script script before after said e says good status.FileFault a = good a
no_script script before after said e says good status.FileTooLarge a = not_large limit.MAX_TEXT (before.told script) said.text e says.within.1 a.1
no_script script before after said e says good status.Done a = absurd a
no_script script before after said e says good status.WriteFault a = absurd a
no_script script before after said e says good status.Usage a = absurd a
no_script script before after said e says good (status.TreeRefused rule item) a = absurd a
no_script script before after said e says good (status.Collision first second) a = absurd a
no_script script before after said e says good status.ReadFault a = absurd a
no_script script before after said e says good status.InputTooLong a = absurd a
no_script script before after said e says good (status.Truncated at) a = absurd a
no_script script before after said e says good (status.BadFrame at why) a = absurd a

starved : (answer : Status) → IsStarved answer → IsDoneOrNoMemory answer
starved status.NoMemory a = tt
starved status.Done a = absurd a
starved status.Usage a = absurd a
starved (status.TreeRefused rule item) a = absurd a
starved (status.ScriptRefused line) a = absurd a
starved status.ReadFault a = absurd a
starved status.WriteFault a = absurd a
starved status.FileFault a = absurd a
starved status.FileTooLarge a = absurd a
starved status.InputTooLong a = absurd a
starved (status.Collision first second) a = absurd a
starved (status.BadFrame at why) a = absurd a
starved (status.Truncated at) a = absurd a

-- causes that don't hold, and a rest that is done
pub after_done : {X : Type 0} (stops : Status → Type 0) (same : Type 0) (Found : X → Type 0) (rest : X → Status → Type 0) (answer : Status)
    → (stops answer → IsDoneOrNoMemory answer) → ((x : X) → Found x → rest x answer → IsDoneOrNoMemory answer)
    → After stops same Found rest answer → IsDoneOrNoMemory answer
after_done stops same Found rest answer stopped goes (inl a) = stopped a.0
after_done stops same Found rest answer stopped goes (inr a) = goes a.0 a.1 a.2

pub complete : (asks : Asks) (before after : Outside) (source_same sink_same : Type 0) (answer : Status)
    → Answers asks before after source_same sink_same answer → IsServable asks before → NoFault asks before after → IsDoneOrNoMemory answer
complete (FileOf name) before after S K answer a s n =
    let session : List ℕ → Status → Type 0 = λ file. SessionAnswers ToServers (file_course file) before.streams after.streams K in
    after_done Collides (S × K) (λ (none : Unit {0}). AreDistinct) (λ none. AfterFile name before.files after.files (S × K) session) answer (no_collision s.0 answer)
    (λ none distinct. after_done (HasNoFile limit.MAX_FILE name before.files after.files) (S × K) (IsWithin limit.MAX_FILE (before.files.told name)) session answer
    (no_file limit.MAX_FILE name before.files after.files s.1.0 s.1.1 s.1.2 n.file answer)
    (λ file within. session_done ToServers (file_course file) before.streams after.streams K s.2 n.source n.sink answer)) a
complete (ServeOf tree by) before after S K answer a s n =
    let session : Lists → Status → Type 0 = λ lists. SessionAnswers ToServers (tree_course (start_of lists) by) before.streams after.streams K in
    after_done Collides (S × K) (λ (none : Unit {0}). AreDistinct) (λ none. AfterTree tree before.files after.files (S × K) session) answer (no_collision s.0 answer)
    (λ none distinct. after_done (HasNoStart tree before.files after.files) (S × K) (IsTree (before.files.told tree)) session answer
    (no_tree tree before.files after.files s.1.0 s.1.1 s.1.2 s.1.3 n.file answer)
    (λ lists stands. session_done ToServers (tree_course (start_of lists) by) before.streams after.streams K s.2 n.source n.sink answer)) a
complete (RunOf tree script) before after S K answer a s n =
    let told : Lists → Said → Status → Type 0 =
    λ lists said. WritesPieces (transcript (start_of lists) said.by said.text) (sink_of before.streams) (sink_of after.streams)
    in
    let plays : Lists → Status → Type 0 = λ lists. AfterScript script before.files after.files K (told lists) in
    after_done Collides K (λ (none : Unit {0}). AreDistinct) (λ none. AfterTree tree before.files after.files K plays) answer (no_collision s.0 answer)
    (λ none distinct. after_done (HasNoStart tree before.files after.files) K (IsTree (before.files.told tree)) plays answer
    (no_tree tree before.files after.files s.1.0 s.1.1 s.1.2 s.1.3 (λ f. n.file (inl f)) answer)
    (λ lists stands. after_done (HasNoScript script before.files after.files) K (IsPlayable (before.files.told script)) (told lists) answer
    (no_script script before.files after.files s.2.said s.2.told s.2.says (λ f. n.file (inr f)) answer)
    (λ said says. text_done (transcript (start_of lists) said.by said.text)
    (AppendsPart before.streams.written after.streams.written (transcript (start_of lists) said.by said.text) × (after.streams.write_faults ≡ before.streams.write_faults))
    (sink_of before.streams) (sink_of after.streams) n.sink answer))) a.1
complete (CheckOf tree) before after S K answer a s n =
    after_done (HasNoStart tree before.files after.files) K (IsTree (before.files.told tree))
    (λ lists. WritesText (line_of lists) ⊥ (sink_of before.streams) (sink_of after.streams)) answer
    (no_tree tree before.files after.files s.0 s.1 s.2 s.3 n.file answer)
    (λ lists stands. text_done (line_of lists) ⊥ (sink_of before.streams) (sink_of after.streams) n.sink answer) a.1
complete ShowAll before after S K answer a s n =
    after_done Collides (S × K) (λ (none : Unit {0}). AreDistinct) (λ none. SessionAnswers Any lines_course before.streams after.streams K) answer (no_collision s.0 answer)
    (λ none distinct. session_done Any lines_course before.streams after.streams K s.1 n.source n.sink answer) a.1
complete (MakeOf rounds) before after S K answer a s n =
    let told : List ℕ → Status → Type 0 = λ report. WritesText report ⊥ (sink_of before.streams) (sink_of after.streams) in
    after_done Collides K (λ (none : Unit {0}). AreDistinct) (λ none. AfterReport rounds K told) answer (no_collision s answer)
    (λ none distinct. after_done IsStarved K (IsReport rounds) told answer (starved answer)
    (λ report is. text_done report ⊥ (sink_of before.streams) (sink_of after.streams) n.sink answer)) a.2
