-- What every session keeps, at each of its times: a field for each law.
use Rattle.std.specs.Prelude.{◌≡◌, IsSome, ℕ, All, [], ◌∷◌, ◌++◌}
use Rattle.node_graph.specs.Tree.{IsSound}
use Rattle.vfs_journal.specs.Entries.{Journal, Sent, refuses, sends, serves}
use Rattle.vfs_journal.specs.History.{trees_of, waiting}
use Rattle.vfs_journal.specs.Past.{history_of}
use Rattle.vfs_journal.specs.Serving.{outcome_of}
use Rattle.vfs_journal.specs.Starts.{Start}
use Rattle.journal_laws.specs.Laws.{AreServedOnce}
use Rattle.journal_laws.specs.Soundness.{AreInTransit}
use Rattle.journal_laws.specs.Trees.{StandOnTrees}
use Rattle.frame_laws.specs.Laws.{IsReadBack}
use Rattle.session_laws.specs.Answering.{AnswerIsAllowed}
use Rattle.session_laws.specs.Authority.{ChangeIsAllowed, NarrowChangesNothing, TokensHaveAuthority}
use Rattle.session_laws.specs.Replies.{AreAnswered, ArePipelined, IsSettled}
use Rattle.session_laws.specs.Rights.{FlagsAreWithin, LineagesBegin, RightsAreWithin, TrailsBegin}
use Rattle.session_laws.specs.Watching.{AreToldTheirSight, DieOfNoChange, KnowTheirNames}

-- ---- times

-- at each time of a journal: before its first entry, and behind each
abbrev pub AtEachTime : Journal → (Journal → Type 0) → Type 0
AtEachTime journal Holds = (later past : Journal) → journal ≡ later ++ past → Holds past

-- its last entry is the serving of an Open that goes on, which isn't sent yet
abbrev pub OwesForward : Start → Journal → Type 0
OwesForward start [] = ⊥
OwesForward start (sends sent ∷ earlier) = ⊥
OwesForward start (serves sent ∷ earlier) = IsSome (outcome_of start (history_of start earlier) sent).forward
OwesForward start (refuses endpoint why ∷ earlier) = ⊥

-- at each time but those between such a serving and its sending
abbrev pub AtEachWholeTime : Start → Journal → (Journal → Type 0) → Type 0
AtEachWholeTime start journal Holds = AtEachTime journal (λ past. (OwesForward start past → ⊥) → Holds past)

-- of each serving in it, behind its past
abbrev pub AtEachServing : Journal → (Journal → Sent → Type 0) → Type 0
AtEachServing journal Holds = (later past : Journal) (sent : Sent) → journal ≡ later ++ serves sent ∷ past → Holds past sent

-- ---- the laws

pub record KeepsLaws (start : Start) (journal : Journal) : Type 0 where
  -- nothing is served twice, and each endpoint is served in order of sending
  pub once : AreServedOnce journal (history_of start journal)
  -- each endpoint in transit is carried by one waiting entry, without a cycle, and what waits is on an endpoint that is bound or in transit
  pub transit : AtEachWholeTime start journal (λ past. AreInTransit start (history_of start past))
  -- all trees stay sound; mounts keep their one edge, whatever was bound, a watcher too, stands on a node, and each token names a directory
  pub trees : AtEachTime journal (λ past. All IsSound (trees_of start (history_of start past)))
  pub placed : AtEachTime journal (λ past. StandOnTrees start (history_of start past))
  -- no endpoint has a right that its lineage lacks, in which its own rights stand; that of a client's
  -- begins at its ancestor; the trail of an Open that came over a mount begins at the connection that
  -- it comes from, and no such Open asks for what its trail lacks
  pub rights : AtEachTime journal (λ past. RightsAreWithin start (history_of start past))
  pub ancestors : AtEachTime journal (λ past. LineagesBegin start (history_of start past))
  pub trails : AtEachTime journal (λ past. TrailsBegin start (history_of start past))
  pub flags : AtEachTime journal (λ past. FlagsAreWithin start (history_of start past))
  -- each change of a tree was allowed all the way, and what comes from a narrow first connection changes nothing
  pub changes : AtEachServing journal (λ past sent. ChangeIsAllowed start (history_of start past) sent)
  pub narrow : AtEachServing journal (λ past sent. NarrowChangesNothing start (history_of start past) sent)
  -- each request whose method needs a right is refused, or was allowed it all the way
  pub answers : AtEachServing journal (λ past sent. AnswerIsAllowed start (history_of start past) sent)
  -- each token was given where each member of the lineage may change the directory that it names
  pub tokens : AtEachTime journal (λ past. TokensHaveAuthority start (history_of start past))
  -- watchers are told what happens in their directories, up to their deaths, and know the names there
  pub sight : AtEachTime journal (λ past. AreToldTheirSight start (history_of start past))
  pub deaths : AtEachServing journal (λ past sent. DieOfNoChange start (history_of start past) sent)
  pub names : AtEachTime journal (λ past. KnowTheirNames start (history_of start past))
  -- replies come in order of sending, one to each request that was served and asks for one; and whenever nothing waits, all that was sent on
  -- endpoints that live was served
  pub replies : AtEachTime journal (λ past. (endpoint : ℕ) → ArePipelined start (history_of start past) endpoint)
  pub answered : AtEachTime journal (λ past. AreAnswered start (history_of start past))
  pub settled : AtEachTime journal (λ past. waiting (history_of start past) ≡ [] → (endpoint : ℕ) → IsSettled start (history_of start past) endpoint)
  -- all that is written is frames, and is read as these alone
  pub frames : AtEachTime journal (λ past. IsReadBack start past)
