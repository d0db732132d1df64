-- That all that is written are frames.
use Rattle.std.proofs.Common.{◌≡◌, ℕ, zero, suc, ◌+◌, ◌^◌, ◌<◌, ◌==◌, ◌||◌, Bool, true, false, not, cond, nat_le, List, [], ◌∷◌, ◌++◌, length, filter, Option, Some, None, All, refl, sym, ap, subst, arith}
use Rattle.std.specs.Option.{option_map_or}
use Rattle.std.proofs.lemmas.Bool.{leb-false, or_parts}
use Rattle.std.proofs.lemmas.List.Elements.{All-nil, All-cons, All-append, All-filter, All-head, All-map, All-tail, All-weaker}
use Rattle.link_frames.specs.declared.kinds.Refusal.{Refusal}
use Rattle.link_frames.specs.declared.kinds.Side.TheVariants.{Any}
use Rattle.link_frames.specs.Frames.{IsFrame}
use Rattle.link_admission.specs.Numbering.{among}
use Rattle.fidl_names.specs.declared.limits.TheConstants as limit
use Rattle.node_graph.specs.Tree.{IsSound, Tree}
use Rattle.node_graph.proofs.Soundness.{bare_sound}
use Rattle.vfs_journal.specs.Entries.{Journal, Sent, hang_up, message, refuses, sends, serves}
use Rattle.vfs_journal.specs.History.{Event, History, births, is_dead, living, tree_at, trees_of}
use Rattle.vfs_journal.specs.Lawful.{Lawful}
use Rattle.vfs_journal.specs.Lawful as lawful
use Rattle.vfs_journal.specs.Outcomes.{Forwarded, close_frame}
use Rattle.vfs_journal.specs.Output.{close_frames, frames_of, frames_of_event, refused_frame, rising}
use Rattle.vfs_journal.specs.Past.{behind, event_of, history_of}
use Rattle.vfs_journal.specs.Serving.{moment_of, outcome_at, outcome_of, outcome_of_sending}
use Rattle.vfs_journal.specs.Session.{head, sent_behind, with_forward}
use Rattle.vfs_journal.specs.Starts.{Bound, Start}
use Rattle.vfs_journal.specs.Tokens.{all_given, next_token, tokens_out}
use Rattle.vfs_journal.specs.Watching.{first_frames, told_frames}
use Rattle.journal_laws.specs.Soundness.{IsStart}
use Rattle.journal_laws.proofs.Among.{carried_is}
use Rattle.journal_laws.proofs.Below.{Below}
use Rattle.journal_laws.proofs.Kept.{is_serving, lawful_kept}
use Rattle.journal_laws.proofs.Members.{found, kept_of}
use Rattle.journal_laws.proofs.Places.{waits_of_sent}
use Rattle.journal_laws.proofs.SoundTrees.{trees_sound}
use Rattle.journal_laws.proofs.Stepping.{stepped}
use Rattle.journal_laws.proofs.Steps.{refusals_change_nothing, sendings_wait_last}
use Rattle.frame_laws.proofs.Endpoints.{birth_fits, client_fits, death_fits, living_fit, rising_hold}
use Rattle.frame_laws.proofs.Outcomes.{IsWritten, sending_written}
use Rattle.frame_laws.proofs.Replies as frame
use Rattle.frame_laws.proofs.Replies.{FitsWord}
use Rattle.frame_laws.proofs.Sent.{sent_messages}
use Rattle.frame_laws.proofs.Trees.{short_names, tree_bytes, trees_bytes}
use Rattle.frame_laws.proofs.Watching.{all_told, first_told}
use Rattle.journal_laws.specs.Contents.{HasBytes}

-- ---- what a serving is ready with

-- the next token has 32 bits
token_fits : (past : History) (number : ℕ) → next_token past ≡ Some number → number < 2 ^ 32
token_fits past number e = by_test (nat_le limit.MAX_TOKENS (length (tokens_out past)) || nat_le 0x80000000 (length (all_given past))) refl e where
  by_test : (b : Bool) → (nat_le limit.MAX_TOKENS (length (tokens_out past)) || nat_le 0x80000000 (length (all_given past))) ≡ b → cond b None (Some (limit.FIRST_TOKEN + length (all_given past))) ≡ Some number → number < 2 ^ 32
  by_test true is e = absurd (cc)
  by_test false is e =
      let same : limit.FIRST_TOKEN + length (all_given past) ≡ number = cc in
      let few = leb-false 0x80000000 (length (all_given past)) (or_parts (nat_le limit.MAX_TOKENS (length (tokens_out past))) (nat_le 0x80000000 (length (all_given past))) is).1 in
      omega (arith, same, few)

-- the tree of no server is bare
tree_sound : (trees : List Tree) (server : ℕ) → All IsSound trees → IsSound (tree_at trees server)
tree_sound [] server h = bare_sound
tree_sound (tree ∷ trees) zero h = All-head IsSound tree trees h
tree_sound (tree ∷ trees) (suc server) h = tree_sound trees server (All-tail IsSound tree trees h)

-- ---- what is kept

-- the trees have bytes, and what was written are frames
record Holds (start : Start) (history : History) : Type 0 where
  trees : All HasBytes (trees_of start history)
  frames : All (IsFrame Any) (frames_of start history)

more_frames : (start : Start) (event : Event) (past : History) → All (IsFrame Any) (frames_of start past) → All (IsFrame Any) (frames_of_event start past event) → All (IsFrame Any) (frames_of start (event ∷ past))
more_frames start event past before new = All-append (IsFrame Any) (frames_of start past) (frames_of_event start past event) before new

refused_holds : (start : Start) (past : History) (endpoint : ℕ) (why : Refusal) → FitsWord endpoint → Holds start past → Holds start (behind start (refuses endpoint why) past)
unfolding event_of
refused_holds start past endpoint why fits h = record {
  trees = subst (All HasBytes) (sym (refusals_change_nothing start past endpoint why).same.trees) h.trees;
  frames = more_frames start (event_of start past (refuses endpoint why)) past h.frames (All-cons (IsFrame Any) (refused_frame endpoint why) [] (frame.refuses endpoint why fits) (All-nil (IsFrame Any)));
}

sent_holds : (start : Start) (past : History) (sent : Sent) → Holds start past → Holds start (behind start (sends sent) past)
unfolding event_of
sent_holds start past sent h = record {
  trees = subst (All HasBytes) (sym (sendings_wait_last start past sent).same.trees) h.trees;
  frames = more_frames start (event_of start past (sends sent)) past h.frames (All-nil (IsFrame Any));
}

-- ---- a serving

module _ (below : Below) (start : Start) (s : IsStart start) (journal : Journal) (sent : Sent) (h : Lawful start journal) (first : head start (history_of start journal) sent.endpoint ≡ Some sent) (trees : All HasBytes (trees_of start (history_of start journal))) where
  sound_at : (server : ℕ) → IsSound (tree_at (trees_of start (history_of start journal)) server)
  sound_at server = tree_sound (trees_of start (history_of start journal)) server (trees_sound below start journal s h)

  served_written : IsWritten (outcome_of start (history_of start journal) sent)
  served_written =
      let past = history_of start journal in
      let kept = lawful_kept below start s journal h in
      let serving' = is_serving below start journal sent s (stepped start journal h) kept.sound first in
      let bound = serving'.at in
      let lives = (found (λ (b : Bound). b.endpoint == sent.endpoint) (living start past) bound serving'.bound).0 in
      let born = (kept_of (λ (b : Bound). not (is_dead past b.endpoint)) (births start past) bound lives).0 in
      let whole : outcome_of start past sent ≡ outcome_of_sending (moment_of start past bound) sent.sending = ap (outcome_at start past sent) serving'.bound in
      subst IsWritten (sym whole)
      (sending_written below (moment_of start past bound) (birth_fits below start s journal h bound born)
      (record { sound = sound_at bound.server; bytes = tree_bytes (trees_of start past) bound.server trees; token = token_fits past })
      sent.sending (sent_messages below start s journal h sent (waits_of_sent past sent serving'.answered.waits)))

  -- what is bound
  new_fits : (bound : Bound) → (outcome_of start (history_of start journal) sent).bound ≡ Some bound → FitsWord bound.endpoint
  new_fits bound e =
      let serving' = is_serving below start journal sent s (stepped start journal h) (lawful_kept below start s journal h).sound first in
      client_fits bound.endpoint (carried_is sent bound.endpoint (serving'.answered.bound_in bound e)).0

  first_written : (o : Option Bound) → (outcome_of start (history_of start journal) sent).bound ≡ o →
      All (IsFrame Any) (option_map_or (λ bound. first_frames (tree_at (trees_of start (history_of start journal)) bound.server) bound) o [])
  first_written None e = All-nil (IsFrame Any)
  first_written (Some bound) e =
      let tree = tree_at (trees_of start (history_of start journal)) bound.server in
      first_told bound.endpoint bound.mask _ (new_fits bound e) (short_names tree bound.birth.node (sound_at bound.server) (tree_bytes (trees_of start (history_of start journal)) bound.server trees))

  closed_written : All (IsFrame Any) (close_frames (event_of start (history_of start journal) (serves sent)))
  closed_written =
      let event = event_of start (history_of start journal) (serves sent) in
      let dying = filter (λ endpoint. not (among endpoint event.outcome.ends)) event.deaths in
      All-map (IsFrame Any) close_frame (rising dying)
      (All-weaker FitsWord (λ endpoint. IsFrame Any (close_frame endpoint)) (λ endpoint fits. frame.closes endpoint fits) (rising dying)
      (rising_hold FitsWord dying (All-filter (λ endpoint. not (among endpoint event.outcome.ends)) FitsWord event.deaths (death_fits below start s journal sent h first))))

  serving_frames : All (IsFrame Any) (frames_of_event start (history_of start journal) (event_of start (history_of start journal) (serves sent)))
  unfolding event_of
  serving_frames =
      let past = history_of start journal in
      let event = event_of start past (serves sent) in
      let answer = event.outcome.frames in
      let new = option_map_or (λ (bound : Bound). first_frames (tree_at (trees_of start past) bound.server) bound) event.outcome.bound [] in
      let told = told_frames (living start past) event.outcome.server event.outcome.told in
      let written = served_written in
      All-append (IsFrame Any) (answer ++ new ++ told) (close_frames event)
      (All-append (IsFrame Any) (answer ++ new) told
      (All-append (IsFrame Any) answer new written.frames (first_written event.outcome.bound refl))
      (all_told (living start past) event.outcome.server (living_fit below start s journal h) event.outcome.told written.told))
      closed_written

  served_holds : All (IsFrame Any) (frames_of start (history_of start journal)) → Holds start (behind start (serves sent) (history_of start journal))
  unfolding event_of
  served_holds before =
      let past = history_of start journal in
      let event = event_of start past (serves sent) in
      record {
        trees = trees_bytes (trees_of start past) event.outcome.server event.outcome.change trees served_written.change;
        frames = more_frames start event past before serving_frames;
      }

-- ---- lawful journals

onward_holds : (start : Start) (journal : Journal) (origin : ℕ) (o : Option Forwarded) → Holds start (history_of start journal) → Holds start (history_of start (with_forward origin journal o))
unfolding history_of
onward_holds start journal origin None h = h
onward_holds start journal origin (Some f) h =
    sent_holds start (history_of start journal) (sent_behind journal f.endpoint (message f.bytes (f.object ∷ [])) (Some origin)) h

module _ (below : Below) (start : Start) (s : IsStart start) where
  lawful_holds : (journal : Journal) → Lawful start journal → Holds start (history_of start journal)
  unfolding history_of
  lawful_holds journal lawful.begun = record { trees = s.bytes; frames = All-nil (IsFrame Any) }
  lawful_holds journal (lawful.refused earlier frame' why h is admits) = refused_holds start (history_of start earlier) frame'.endpoint why is.endpoint (lawful_holds earlier h)
  lawful_holds journal (lawful.sent earlier frame' h is kind admits) =
      sent_holds start (history_of start earlier) (sent_behind earlier frame'.endpoint (message frame'.bytes frame'.handles) None) (lawful_holds earlier h)
  lawful_holds journal (lawful.closed earlier frame' h is kind admits) =
      sent_holds start (history_of start earlier) (sent_behind earlier frame'.endpoint hang_up None) (lawful_holds earlier h)
  lawful_holds journal (lawful.served earlier entry h first) =
      let before = lawful_holds earlier h in
      onward_holds start (serves entry ∷ earlier) entry.place (outcome_of start (history_of start earlier) entry).forward
      (served_holds below start s earlier entry h first before.trees before.frames)

  pub frames_written : (journal : Journal) → Lawful start journal → All (IsFrame Any) (frames_of start (history_of start journal))
  frames_written journal h = (lawful_holds journal h).frames
