-- Where clients send nothing that changes something, nothing changes: at each time of a session.
use Rattle.std.proofs.Common.{◌≡◌, ℕ, ◌==◌, ◌⊎◌, false, List, [], ◌∷◌, ◌++◌, Option, Some, None, All, Contains, refl, sym, ap, ◌∙◌, subst, inl, inr, append-nil}
use Rattle.std.specs.Prelude.{option_to_list}
use Rattle.std.proofs.lemmas.List.Elements.{All-nil, All-cons, All-append, All-contains, All-weaker, Contains-append_cases, Contains-append_left, Contains-append_right}
use Rattle.link_frames.specs.declared.kinds.Refusal.{Refusal}
use Rattle.io_messages.specs.Asked as asks
use Rattle.node_graph.specs.Tree.{Change, Tree}
use Rattle.vfs_journal.specs.Entries.{Journal, Sent, refuses, serves, sends}
use Rattle.vfs_journal.specs.History.{History, all_sent, births, changed, is_watcher, living, trees_of}
use Rattle.vfs_journal.specs.Lawful.{Lawful}
use Rattle.vfs_journal.specs.Outcomes.{Forwarded}
use Rattle.vfs_journal.specs.Past.{behind, event_of, history_of}
use Rattle.vfs_journal.specs.Serving.{moment_of, outcome_at, outcome_of}
use Rattle.vfs_journal.specs.Session.{head}
use Rattle.vfs_journal.specs.Starts.{Bound, Start}
use Rattle.journal_laws.specs.Soundness.{IsOnDirectory, IsStart}
use Rattle.journal_laws.proofs.Below.{Below}
use Rattle.journal_laws.proofs.Kept.{IsServing, goes_right, is_serving, lawful_kept}
use Rattle.journal_laws.proofs.Members.{contains_cases, contains_here, contains_none, found}
use Rattle.journal_laws.proofs.Stepping.{GoesOn, at_each, onward_of, stepped}
use Rattle.journal_laws.proofs.Steps.{refusals_change_nothing, sendings_wait_last, servings_take_effect, trees_stay}
use Rattle.journal_laws.proofs.Views.{is_view}
use Rattle.turn_law.specs.Premises.{Changes, makes_or_cuts}
use Rattle.turn_law.specs.Quiet.{ClientsAreQuiet, IsNoWatcher, IsQuiet, IsStill, QuietSessionsStayStill, StaysStill}
use Rattle.turn_law.proofs.QuietSends.{onward_quiet, quiet_read, sending_still}

-- where clients were quiet, all stays still
abbrev Stays : Start → History → Type 0
Stays start history = ClientsAreQuiet history → StaysStill start history

-- ---- the beginning

on_directory : (trees : List Tree) (bound : Bound) → IsOnDirectory trees bound → IsNoWatcher bound
on_directory trees bound h = ap is_watcher h.protocol

begins : (start : Start) → IsStart start → Stays start []
begins start s quiet = record {
  trees = refl;
  tokens = refl;
  born = subst (All IsNoWatcher) (sym (append-nil (start.firsts ++ start.mounts)))
      (All-weaker (IsOnDirectory start.trees) IsNoWatcher (on_directory start.trees) (start.firsts ++ start.mounts) s.placed);
  sent = λ sent h. absurd (contains_none sent h);
}

-- ---- one more entry

earlier_quiet : (now past : History) (more : List Sent) → all_sent now ≡ all_sent past ++ more → ClientsAreQuiet now → ClientsAreQuiet past
earlier_quiet now past more is quiet sent h = quiet sent (subst (λ (ones : List Sent). Contains ones sent) (sym is) (Contains-append_left (all_sent past) more sent h))

one_sent : (x y : Sent) → Contains (x ∷ []) y → x ≡ y
one_sent x y h = by_case (contains_cases y x [] h) where
  by_case : (x ≡ y) ⊎ Contains [] y → x ≡ y
  by_case (inl e) = e
  by_case (inr none) = absurd (contains_none y none)

-- a sending that is quiet leaves all still
sent_stays : (start : Start) (past : History) (one : Sent) → IsQuiet one.sending → StaysStill start past → StaysStill start (behind start (sends one) past)
sent_stays start past one quiet h =
    let is = sendings_wait_last start past one in
    record {
      trees = is.same.trees ∙ h.trees;
      tokens = is.same.tokens ∙ h.tokens;
      born = subst (All IsNoWatcher) (sym is.same.born) h.born;
      sent = λ sent there. by_case sent (Contains-append_cases (all_sent past) (one ∷ []) sent (subst (λ (ones : List Sent). Contains ones sent) is.sent_last there));
    } where
      by_case : (sent : Sent) → Contains (all_sent past) sent ⊎ Contains (one ∷ []) sent → IsQuiet sent.sending
      by_case sent (inl g) = h.sent sent g
      by_case sent (inr g) = subst (λ (x : Sent). IsQuiet x.sending) (one_sent one sent g) quiet

-- and so does a serving of which nothing changes
option_none : {X : Type 0} (o : Option X) → o ≡ None → option_to_list o ≡ []
option_none o e = ap option_to_list e

new_born : (o : Option Bound) → ((bound : Bound) → o ≡ Some bound → IsNoWatcher bound) → All IsNoWatcher (option_to_list o)
new_born None h = All-nil IsNoWatcher
new_born (Some bound) h = All-cons IsNoWatcher bound [] (h bound refl) (All-nil IsNoWatcher)

served_stays : (start : Start) (past : History) (one : Sent) → IsStill (outcome_of start past one) → StaysStill start past → StaysStill start (behind start (serves one) past)
unfolding event_of
served_stays start past one still h =
    let is = servings_take_effect start past one in
    let outcome = outcome_of start past one in
    record {
      trees = is.trees ∙ ap (λ (c : Change). changed (trees_of start past) outcome.server c) still.stays ∙ trees_stay (trees_of start past) outcome.server ∙ h.trees;
      tokens = is.tokens ∙ ap (λ tokens. tokens ++ option_to_list outcome.token) h.tokens ∙ option_none outcome.token still.ungiven;
      born = subst (All IsNoWatcher) (sym is.born) (All-append IsNoWatcher (births start past) (option_to_list outcome.bound) h.born (new_born outcome.bound (λ b e. (still.bound b e).0)));
      sent = λ sent there. h.sent sent (subst (λ (ones : List Sent). Contains ones sent) is.sent_same there);
    }

-- ---- a serving

pub serving_still : Below → (start : Start) (past : History) (one : Sent) → (serving' : IsServing start past one) → Contains (births start past) serving'.at → IsQuiet one.sending → StaysStill start past → IsStill (outcome_of start past one)
serving_still below start past one serving' born quiet h =
    subst IsStill (sym (ap (outcome_at start past one) serving'.bound))
    (sending_still below.spelled (moment_of start past serving'.at) (All-contains IsNoWatcher (births start past) serving'.at h.born born) one.sending quiet)

-- what is served was sent, and its endpoint was born
pub record Heads (start : Start) (journal : Journal) (one : Sent) : Type 0 where
  pub serving' : IsServing start (history_of start journal) one
  pub was_sent : Contains (all_sent (history_of start journal)) one
  pub born : Contains (births start (history_of start journal)) serving'.at

pub heads : Below → (start : Start) (journal : Journal) (one : Sent) → IsStart start → Lawful start journal → head start (history_of start journal) one.endpoint ≡ Some one → Heads start journal one
heads below start journal one s lawful first =
    let past = history_of start journal in
    let steps = stepped start journal lawful in
    let is = is_view start journal steps in
    let serving' = is_serving below start journal one s steps (lawful_kept below start s journal lawful).sound first in
    let lives = (found (λ (b : Bound). b.endpoint == one.endpoint) (living start past) serving'.at serving'.bound).0 in
    record { serving' = serving'; was_sent = is.waits one serving'.answered.waits; born = (is.living_born serving'.at lives).0 }

after_serving_stays : Below → (start : Start) (journal : Journal) (one : Sent) → IsStart start → Lawful start journal → head start (history_of start journal) one.endpoint ≡ Some one →
    Stays start (history_of start journal) → Stays start (behind start (serves one) (history_of start journal))
after_serving_stays below start journal one s lawful first h quiet =
    let past = history_of start journal in
    let before = h (λ sent there origin. quiet sent (subst (λ (ones : List Sent). Contains ones sent) (sym (servings_take_effect start past one).sent_same) there) origin) in
    let first' = heads below start journal one s lawful first in
    served_stays start past one (serving_still below start past one first'.serving' first'.born (before.sent one first'.was_sent) before) before

-- the Open that goes on is quiet where the one that was served is
going_on_quiet : Below → (start : Start) (journal : Journal) (one : Sent) (forward : Forwarded) → IsStart start → Lawful start journal → head start (history_of start journal) one.endpoint ≡ Some one →
    (outcome_of start (history_of start journal) one).forward ≡ Some forward → IsQuiet one.sending → ¬ (Changes forward.bytes (forward.object ∷ []))
going_on_quiet below start journal one forward s lawful first e quiet =
    let past = history_of start journal in
    let steps = stepped start journal lawful in
    let sound = (lawful_kept below start s journal lawful).sound in
    let serving' = (heads below start journal one s lawful first).serving' in
    let on = serving'.parts.goes_on forward e in
    let right = goes_right below start past one forward s sound (is_view start journal steps) serving' e in
    let still : makes_or_cuts on.word ≡ false =
    quiet_read below.spelled serving'.at.birth.protocol on.bytes on.handles on.txid (asks.open_path on.path on.word on.given forward.object) (subst IsQuiet on.sent quiet) on.read in
    onward_quiet below on.word on.onward.limit on.flags on.rest forward.object forward.bytes still on.onward.left right.path right.small on.carried.low on.bytes_are

-- ---- the whole

goes_on : Below → (start : Start) → IsStart start → GoesOn start (λ journal. Stays start (history_of start journal))
unfolding history_of
goes_on below start s = record {
  begins = begins start s;
  refuses_on = λ earlier endpoint why h quiet. refused_stays start (history_of start earlier) endpoint why h quiet;
  sends_on = λ earlier one is alone h quiet.
      let past = history_of start earlier in
      let last = (sendings_wait_last start past one).sent_last in
      sent_stays start past one
      (quiet one (subst (λ (ones : List Sent). Contains ones one) (sym last) (Contains-append_right (all_sent past) (one ∷ []) one (contains_here one []))) alone)
      (h (earlier_quiet (behind start (sends one) past) past (one ∷ []) last quiet));
  serves_on = λ earlier one lawful first h quiet. after_serving_stays below start earlier one s lawful first h quiet;
  forwards_on = λ earlier one forward lawful first e old h quiet.
      let past = history_of start earlier in
      let served = behind start (serves one) past in
      let on = onward_of earlier one forward in
      let last = (sendings_wait_last start served on).sent_last in
      let stays = h (earlier_quiet (behind start (sends on) served) served (on ∷ []) last quiet) in
      let was_sent = subst (λ (ones : List Sent). Contains ones one) (sym (servings_take_effect start past one).sent_same) (heads below start earlier one s lawful first).was_sent in
      sent_stays start served on (going_on_quiet below start earlier one forward s lawful first e (stays.sent one was_sent)) stays;
} where
  refused_stays : (start : Start) (past : History) (endpoint : ℕ) (why : Refusal) → Stays start past → Stays start (behind start (refuses endpoint why) past)
  refused_stays start past endpoint why h quiet =
      let is = refusals_change_nothing start past endpoint why in
      let before = h (λ sent there origin. quiet sent (subst (λ (ones : List Sent). Contains ones sent) (sym is.sent) there) origin) in
      record {
        trees = is.same.trees ∙ before.trees;
        tokens = is.same.tokens ∙ before.tokens;
        born = subst (All IsNoWatcher) (sym is.same.born) before.born;
        sent = λ sent there. before.sent sent (subst (λ (ones : List Sent). Contains ones sent) is.sent there);
      }

pub stay_still : Below → QuietSessionsStayStill
stay_still below start journal s lawful = at_each start (λ past. Stays start (history_of start past)) (goes_on below start s) journal (stepped start journal lawful)
