-- That frames which are written are read back.
use Rattle.std.proofs.Common.{◌≡◌, ℕ, List, [], ◌∷◌, ◌++◌, All, sym, ap, subst, ◌∙◌, arith, append-nil, append_assoc, inl}
use Rattle.std.proofs.lemmas.List.{append_cancel_left}
use Rattle.link_frames.specs.Frames.{Frame, Frames, IsFrame, spellings}
use Rattle.link_frames.specs.declared.kinds.Side.TheVariants.{Any}
use Rattle.link_frames.proofs.Runs.{spellings-append}
use Rattle.link_frames.proofs.Streams.{frames_stay, not_both, one_list}
use Rattle.vfs_journal.specs.Entries.{Journal}
use Rattle.vfs_journal.specs.Lawful.{Lawful}
use Rattle.vfs_journal.specs.Output.{frames_behind, frames_of_event}
use Rattle.vfs_journal.specs.Past.{event_of, history_of}
use Rattle.vfs_journal.specs.Session.{ended, session}
use Rattle.vfs_journal.specs.Starts.{Start, start_of}
use Rattle.journal_laws.specs.Soundness.{IsStart}
use Rattle.journal_laws.proofs.Below.{Below}
use Rattle.journal_laws.proofs.Draining.{sessions_are_lawful}
use Rattle.journal_laws.proofs.Starting.{accepted_starts_are_starts}
use Rattle.frame_laws.proofs.Fields.{All-left, All-right}
use Rattle.frame_laws.proofs.Output.{frames_written}
use Rattle.frame_laws.specs.Laws.{IsReadAs, IsReadBack, PartsAreReadBack, SessionsAreReadBack}

-- ---- frames one after another

stream_of : (frames : List Frame) → All (IsFrame Any) frames → Frames Any (spellings frames) frames []
stream_of frames each = record { split = sym (append-nil (spellings frames)); each = each; partial = inl (omega arith) }

pub read_as : (frames : List Frame) → All (IsFrame Any) frames → IsReadAs (spellings frames) frames
read_as frames each = record {
  each = each;
  reads = stream_of frames each;
  once = λ others rest reads. one_list Any (spellings frames) others frames rest [] reads (stream_of frames each);
  sound = λ at why bad. not_both Any (spellings frames) frames [] at why (stream_of frames each) bad;
}

-- ---- fronts of a journal

-- newer entries write behind
grown : (start : Start) (newer journal : Journal) → (more : List Frame) × (frames_behind start (newer ++ journal) ≡ frames_behind start journal ++ more)
unfolding history_of
grown start [] journal = ([], sym (append-nil (frames_behind start journal)))
grown start (entry ∷ newer) journal =
    let rest = grown start newer journal in
    let past = history_of start (newer ++ journal) in
    let new = frames_of_event start past (event_of start past entry) in
    (rest.0 ++ new, ap (λ (frames : List Frame). frames ++ new) rest.1 ∙ append_assoc (frames_behind start journal) rest.0 new)

-- the output is read as the frames that the journal stands for, behind each entry of a lawful journal
pub output_is_read_back : Below → (start : Start) (newer journal : Journal) → IsStart start → Lawful start (newer ++ journal) → IsReadBack start journal
output_is_read_back below start newer journal s h =
    let more = grown start newer journal in
    let all = frames_written below start s (newer ++ journal) h in
    read_as (frames_behind start journal) (All-left (IsFrame Any) (frames_behind start journal) more.0 (subst (All (IsFrame Any)) more.1 all))

-- ---- parts of an output

part_read : (earlier later : List Frame) (part : List ℕ) → All (IsFrame Any) earlier → All (IsFrame Any) later → spellings later ≡ spellings earlier ++ part →
    (more : List Frame) × (later ≡ earlier ++ more) × IsReadAs part more
part_read earlier later part before after' e =
    let on = frames_stay Any (spellings earlier) part earlier later [] [] (stream_of earlier before) (subst (λ (b : List ℕ). Frames Any b later []) e (stream_of later after')) in
    let same : part ≡ spellings on.0 = append_cancel_left (spellings earlier) part (spellings on.0) (sym e ∙ ap spellings on.1 ∙ spellings-append earlier on.0) in
    (on.0, on.1, subst (λ (b : List ℕ). IsReadAs b on.0) (sym same) (read_as on.0 (All-right (IsFrame Any) earlier on.0 (subst (All (IsFrame Any)) on.1 after'))))

pub parts_are_read_back : Below → PartsAreReadBack
parts_are_read_back below start earlier later part s h g e =
    let before = frames_written below start s earlier h in
    let after' = frames_written below start s later g in
    let read = part_read (frames_behind start earlier) (frames_behind start later) part before after' e in
    record { more = read.0; grown = read.1; read = read.2 }

-- ---- sessions over accepted trees

pub sessions_are_read_back : Below → SessionsAreReadBack
sessions_are_read_back below lists by frames accepted files each =
    let start = start_of lists in
    let sound = accepted_starts_are_starts lists accepted files in
    let lawful' = sessions_are_lawful start by frames each in (
      output_is_read_back below start [] (session start by frames) sound lawful'.0,
      output_is_read_back below start [] (ended start by frames) sound lawful'.1,
    )
