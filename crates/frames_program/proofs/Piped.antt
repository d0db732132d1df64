-- The runs of a pipe, one by one.
use Rattle.std.proofs.Common.{◌≡◌, ◌≤◌, ◌<◌, ℕ, List, [], ◌++◌, length, Option, Some, None, sym, ap, ◌∙◌, subst, append-nil, arith, inl, inr}
use Rattle.std.specs.Prelude.{All}
use Rattle.std.specs.Io.KnownBytes.{Appends, Consumes, IsAtEnd}
use Rattle.std.specs.List.{flat_map}
use Rattle.fidl_names.specs.declared.limits.TheConstants as limit
use Rattle.fidl_wire.specs.Names.{AreDistinct}
use Rattle.host_io.specs.Told.{Told, Holds, IsAllOf}
use Rattle.link_frames.specs.Frames.{Frame, Frames, IsFrame, spellings}
use Rattle.link_frames.specs.declared.kinds.Mode.{Mode}
use Rattle.link_frames.specs.declared.kinds.Side.{Side}
use Rattle.link_frames.specs.declared.kinds.Side.TheVariants.{Any, ToServers}
use Rattle.link_frames.proofs.Streams.{one_list}
use Rattle.link_session.specs.Session.{Course, IsDone as IsSessionDone, IsWhole, SessionAnswers}
use Rattle.session_start.specs.Items.{Lists}
use Rattle.tree_file.specs.Rules.{start_from}
use Rattle.frame_laws.proofs.Readings.{sessions_are_read_back}
use Rattle.journal_laws.proofs.Below.{below}
use Rattle.vfs_journal.specs.Output.{frames_behind}
use Rattle.vfs_journal.specs.Session.{ended}
use Rattle.vfs_journal.specs.Starts.{start_of}
use Rattle.run_status.specs.Causes.{After, Collides}
use Rattle.run_status.specs.FileCauses.{AfterTree, HasNoStart}
use Rattle.run_status.specs.Files.{IsWithin}
use Rattle.run_status.specs.Outside.{SinkTold, Streams, sink_of}
use Rattle.run_status.specs.Texts.{GotAll, WritesPieces, WritesText}
use Rattle.run_status.specs.Trees.{IsTree}
use Rattle.run_status.specs.declared.statuses.Status.{Status}
use Rattle.run_status.specs.declared.statuses.Status.TheVariants as status
use Rattle.script_session.specs.Playing.{play_all, transcript}
use Rattle.script_session.specs.Answering.{count_answers}
use Rattle.script_session.specs.ScriptCauses.{AfterScript, HasNoScript}
use Rattle.script_session.specs.Scripts.{IsPlayable, Said}
use Rattle.script_session.proofs.Shown.{transcript_is}
use Rattle.vfs_program.specs.Shown.{lines_course}
use Rattle.vfs_program.specs.TreeSession.{tree_course}
use Rattle.vfs_program.specs.Words.{RunOf, ServeOf, ShowAll}
use Rattle.vfs_program.proofs.Lawful.{stands_accepted}
use Rattle.vfs_script.specs.Scripts.{calls_of, count_calls, frames_of, script_lines, script_mode}
use Rattle.vfs_script.specs.Transcripts.{counts_line, frame_line}
use Rattle.frames_program.proofs.Few.{scripts_few}
use Rattle.frames_program.specs.Pipes.{Feeds, Finds, IsButForCounts, IsDone, IsMade, IsPiped, Pipe, Run, Writes}

-- ---- what stopped nothing, and what is told

past : {X : Type 0} (stops : Status → Type 0) (same : Type 0) (Found : X → Type 0) (rest : X → Status → Type 0) → (stops status.Done → ⊥) → After stops same Found rest status.Done →
    (x : X) × Found x × rest x status.Done
past stops same Found rest none (inl a) = absurd (none a.0)
past stops same Found rest none (inr a) = a

got : (before after : SinkTold) (bytes out : List ℕ) → before.written ≡ Some [] → after.written ≡ Some out → GotAll before after bytes → out ≡ bytes
got before after bytes out none all h =
    let first : Appends (Some []) after.written bytes = subst (λ w. Appends w after.written bytes) none h.0 in
    subst (λ w. Appends (Some []) w bytes) all first

all_taken : (input taken : List ℕ) (left : Option (List ℕ)) → Consumes (Some input) left taken → IsAtEnd left → taken ≡ input
all_taken input taken None took end = absurd took
all_taken input taken (Some rest) took end = sym (took ∙ ap (λ l. taken ++ l) end ∙ append-nil taken)

same_text : (most : ℕ) (told : Told) (text file : List ℕ) → told ≡ Holds text → IsWithin most told file → file ≡ text
same_text most told text file finds within = subst (λ t. IsAllOf t file) finds within.0

some_lists : {a b : Lists} → Some a ≡ Some b → a ≡ b
some_lists e = cc

some_mode : {a b : Mode} → Some a ≡ Some b → a ≡ b
some_mode e = cc

-- ---- a session that is done

-- a session over a told input wrote what its frames make
pub record Went (side : Side) (course : Course) (input output : List ℕ) : Type 0 where
  pub frames : List Frame
  pub read : Frames side input frames []
  pub wrote : output ≡ course.by_end frames

went : (side : Side) (course : Course) (before after : Streams) (input output : List ℕ) → before.left ≡ Some input → before.written ≡ Some [] → after.written ≡ Some output →
    IsSessionDone side course before after → Went side course input output
went side course before after input output left none all is =
    let taken = all_taken input is.taken after.left (subst (λ l. Consumes l after.left is.taken) left is.took) is.at_end in
    record {
      frames = is.frames;
      read = subst (λ b. Frames side b is.frames []) taken is.read;
      wrote = got (sink_of before) (sink_of after) (course.by_end is.frames) output none all is.wrote;
    }

-- ---- the four programs

pub record Made (text bytes : List ℕ) : Type 0 where
  pub is : bytes ≡ spellings (frames_of text)
  pub each : All (IsFrame ToServers) (frames_of text)
  pub few : length text ≤ limit.MAX_TEXT

pub made : (script text bytes : List ℕ) (run : Run) → Finds script text run → IsMade script run → Writes run bytes → Made text bytes
made script text bytes run finds is writes =
    let U : Type 0 = Unit {0} in
    let told : Said → Status → Type 0 = λ said. WritesText (spellings (frames_of said.text)) ⊥ (sink_of run.before.streams) (sink_of run.after.streams) in
    let script_behind : Status → Type 0 = AfterScript script run.before.files run.after.files U told in
    let named = past Collides (U × U) (λ (none : U). AreDistinct) (λ none. script_behind) (λ a. a) is in
    let found = past (HasNoScript script run.before.files run.after.files) U (IsPlayable (run.before.files.told script)) told (λ a. a) named.2 in
    let same : found.0.text ≡ text = same_text limit.MAX_TEXT (run.before.files.told script) text found.0.text finds found.1.says.within in
    record {
      is = got (sink_of run.before.streams) (sink_of run.after.streams) (spellings (frames_of found.0.text)) bytes writes.none writes.all found.2.0 ∙ ap (λ t. spellings (frames_of t)) same;
      each = subst (λ t. All (IsFrame ToServers) (frames_of t)) same found.1.frames;
      few = subst (λ t. length t ≤ limit.MAX_TEXT) same found.1.says.within.1;
    }

-- the lists that a tree's text is
pub record Grown (nodes : List ℕ) (told : Told) (lists : Lists) : Type 0 where
  pub start : start_from nodes ≡ Some lists
  pub tree : IsTree told lists

grown : (nodes : List ℕ) (told : Told) (lists : Lists) → told ≡ Holds nodes → IsTree told lists → Grown nodes told lists
grown nodes told lists finds is = record {
  start = subst (λ t. start_from t ≡ Some lists) (same_text limit.MAX_TEXT told nodes is.stands.text finds is.stands.within) is.stands.is;
  tree = is;
}

pub record Served (nodes : List ℕ) (told : Told) (by : Mode) (input output : List ℕ) : Type 0 where
  pub distinct : AreDistinct
  pub lists : Lists
  pub grown : Grown nodes told lists
  pub went : Went ToServers (tree_course (start_of lists) by) input output

pub served : (tree nodes input output : List ℕ) (by : Mode) (run : Run) → Finds tree nodes run → IsDone (ServeOf tree by) run → run.before.streams.left ≡ Some input → Writes run output →
    Served nodes (run.before.files.told tree) by input output
served tree nodes input output by run finds is left writes =
    let U : Type 0 = Unit {0} in
    let serves : Lists → Status → Type 0 = λ lists. SessionAnswers ToServers (tree_course (start_of lists) by) run.before.streams run.after.streams U in
    let named = past Collides (U × U) (λ (none : U). AreDistinct) (λ none. AfterTree tree run.before.files run.after.files (U × U) serves) (λ a. a) is in
    let found = past (HasNoStart tree run.before.files run.after.files) (U × U) (IsTree (run.before.files.told tree)) serves (λ a. a) named.2 in
    record {
      distinct = named.1;
      lists = found.0;
      grown = grown nodes (run.before.files.told tree) found.0 finds found.1;
      went = went ToServers (tree_course (start_of found.0) by) run.before.streams run.after.streams input output left writes.none writes.all found.2;
    }

pub shown : (input output : List ℕ) (run : Run) → IsDone ShowAll run → run.before.streams.left ≡ Some input → Writes run output → Went Any lines_course input output
shown input output run is left writes =
    let U : Type 0 = Unit {0} in
    let named = past Collides (U × U) (λ (none : U). AreDistinct) (λ none. SessionAnswers Any lines_course run.before.streams run.after.streams U) (λ a. a) is.1 in
    went Any lines_course run.before.streams run.after.streams input output left writes.none writes.all named.2

pub record Played (nodes text : List ℕ) (told : Told) (by : Mode) (output : List ℕ) : Type 0 where
  pub lists : Lists
  pub grown : Grown nodes told lists
  pub is : output ≡ transcript (start_of lists) by text

pub played : (tree script nodes text output : List ℕ) (by : Mode) (run : Run) → script_mode text ≡ Some by → Finds tree nodes run → Finds script text run → IsDone (RunOf tree script) run → Writes run output →
    Played nodes text (run.before.files.told tree) by output
played tree script nodes text output by run mode finds reads is writes =
    let U : Type 0 = Unit {0} in
    let told : Lists → Said → Status → Type 0 = λ lists said. WritesPieces (transcript (start_of lists) said.by said.text) (sink_of run.before.streams) (sink_of run.after.streams) in
    let plays : Lists → Status → Type 0 = λ lists. AfterScript script run.before.files run.after.files U (told lists) in
    let named = past Collides U (λ (none : U). AreDistinct) (λ none. AfterTree tree run.before.files run.after.files U plays) (λ a. a) is.1 in
    let found = past (HasNoStart tree run.before.files run.after.files) U (IsTree (run.before.files.told tree)) plays (λ a. a) named.2 in
    let said = past (HasNoScript script run.before.files run.after.files) U (IsPlayable (run.before.files.told script)) (told found.0) (λ a. a) found.2 in
    let same : said.0.text ≡ text = same_text limit.MAX_TEXT (run.before.files.told script) text said.0.text reads said.1.says.within in
    let in_mode : said.0.by ≡ by = some_mode (sym said.1.says.mode ∙ ap script_mode same ∙ mode) in
    record {
      lists = found.0;
      grown = grown nodes (run.before.files.told tree) found.0 finds found.1;
      is = got (sink_of run.before.streams) (sink_of run.after.streams) (transcript (start_of found.0) said.0.by said.0.text) output writes.none writes.all said.2.0
          ∙ ap (λ t. transcript (start_of found.0) said.0.by t) same ∙ ap (λ m. transcript (start_of found.0) m text) in_mode;
    }

-- ---- one after another

-- the frames that were served are those of the script
whole : (text bytes : List ℕ) → Made text bytes → Frames ToServers bytes (frames_of text) []
whole text bytes m = record { split = m.is ∙ sym (append-nil (spellings (frames_of text))); each = m.each; partial = inl (omega arith) }

pub same_frames : (text bytes : List ℕ) (frames : List Frame) → Made text bytes → Frames ToServers bytes frames [] → frames ≡ frames_of text
same_frames text bytes frames m read = (one_list ToServers bytes frames (frames_of text) [] [] read (whole text bytes m)).0

pub can_be_served : (script text : List ℕ) (frames serve : Run) → Finds script text frames → IsMade script frames → Feeds frames serve → IsWhole ToServers serve.before.streams
can_be_served script text frames serve finds is fed =
    let m = made script text fed.bytes frames finds is fed.written in
    record {
      input = fed.bytes;
      frames = frames_of text;
      told = fed.input;
      few = subst (λ (b : List ℕ). length b < limit.MAX_INPUT) (sym m.is) (scripts_few text m.few m.each);
      read = whole text fed.bytes m;
    }

-- what was written, and what is read back of it
pub record Came (lists : Lists) (by : Mode) (text answers : List ℕ) : Type 0 where
  pub is : answers ≡ spellings (frames_behind (start_of lists) (ended (start_of lists) by (frames_of text)))
  pub once : (frames : List Frame) → Frames Any answers frames [] → frames ≡ frames_behind (start_of lists) (ended (start_of lists) by (frames_of text))
  pub reads : Frames Any answers (frames_behind (start_of lists) (ended (start_of lists) by (frames_of text))) []

pub came : (text bytes nodes answers : List ℕ) (told : Told) (by : Mode) → Made text bytes → (s : Served nodes told by bytes answers) → Came s.lists by text answers
unfolding tree_course
came text bytes nodes answers told by m s =
    let same = same_frames text bytes s.went.frames m s.went.read in
    let is : answers ≡ spellings (frames_behind (start_of s.lists) (ended (start_of s.lists) by (frames_of text))) =
    s.went.wrote ∙ ap (λ (fs : List Frame). spellings (frames_behind (start_of s.lists) (ended (start_of s.lists) by fs))) same in
    let back = (sessions_are_read_back (below s.distinct) s.lists by (frames_of text) (stands_accepted told s.lists s.grown.tree.stands) s.grown.tree.bytes m.each).1 in
    record {
      is = is;
      once = λ frames read. (back.once frames [] (subst (λ b. Frames Any b frames []) is read)).0;
      reads = subst (λ b. Frames Any b (frames_behind (start_of s.lists) (ended (start_of s.lists) by (frames_of text))) []) (sym is) back.reads;
    }

pub piped : (tree script : List ℕ) (pipe : Pipe) (lines all : List ℕ) → IsPiped tree script pipe → Writes pipe.show lines → Writes pipe.run all → IsButForCounts lines all
unfolding lines_course
piped tree script pipe lines all is shows runs =
    let m = made script is.text is.first.bytes pipe.frames is.script_made is.made is.first.written in
    let s = served tree is.nodes is.first.bytes is.second.bytes is.by pipe.serve is.tree_served is.served is.first.input is.second.written in
    let c = came is.text is.first.bytes is.nodes is.second.bytes (pipe.serve.before.files.told tree) is.by m s in
    let l = shown is.second.bytes lines pipe.show is.shown is.second.input shows in
    let p = played tree script is.nodes is.text all is.by pipe.run is.mode is.tree_run is.script_run is.played runs in
    let trees : p.lists ≡ s.lists = some_lists (sym p.grown.start ∙ s.grown.start) in
    let same : l.frames ≡ frames_behind (start_of s.lists) (ended (start_of s.lists) is.by (frames_of is.text)) = c.once l.frames l.read in
    let first : lines ≡ flat_map frame_line (frames_behind (start_of s.lists) (ended (start_of s.lists) is.by (frames_of is.text))) = l.wrote ∙ ap (flat_map frame_line) same in
    let told : all ≡ transcript (start_of s.lists) is.by is.text = p.is ∙ ap (λ (t : Lists). transcript (start_of t) is.by is.text) trees in
    let calls = count_calls (calls_of is.text) in
    let answered = count_answers (play_all (start_of s.lists) is.by (script_lines is.text)) in
    record {
      calls = calls;
      answered = answered;
      is = told ∙ transcript_is (start_of s.lists) is.by is.text ∙ ap (λ l. l ++ counts_line calls answered) (sym first);
    }

-- what a session wrote is whole frames, whatever its input was
pub can_be_shown : (tree : List ℕ) (by : Mode) (serve show : Run) (fed : Feeds serve show) → IsDone (ServeOf tree by) serve → length fed.bytes < limit.MAX_INPUT →
    IsWhole Any show.before.streams
unfolding tree_course
can_be_shown tree by serve show fed is few =
    let U : Type 0 = Unit {0} in
    let told = serve.before.files.told tree in
    let serves : Lists → Status → Type 0 = λ lists. SessionAnswers ToServers (tree_course (start_of lists) by) serve.before.streams serve.after.streams U in
    let named = past Collides (U × U) (λ (none : U). AreDistinct) (λ none. AfterTree tree serve.before.files serve.after.files (U × U) serves) (λ a. a) is in
    let found = past (HasNoStart tree serve.before.files serve.after.files) (U × U) (IsTree told) serves (λ a. a) named.2 in
    let wrote = frames_behind (start_of found.0) (ended (start_of found.0) by found.2.frames) in
    let is_wrote : fed.bytes ≡ spellings wrote = got (sink_of serve.before.streams) (sink_of serve.after.streams) (spellings wrote) fed.bytes fed.written.none fed.written.all found.2.wrote in
    let back = (sessions_are_read_back (below named.1) found.0 by found.2.frames (stands_accepted told found.0 found.1.stands) found.1.bytes found.2.read.each).1 in
    record {
      input = fed.bytes;
      frames = wrote;
      told = fed.input;
      few = few;
      read = subst (λ b. Frames Any b wrote []) (sym is_wrote) back.reads;
    }
