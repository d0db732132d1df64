-- Servings one after another: a Turn, a Pick and a drain.
use Rattle.std.proofs.Common.{◌≡◌, ℕ, zero, suc, ◌<◌, List, [], ◌++◌, find, Option, Some, None, refl, sym, ap, ◌∙◌, subst, append-nil, append_assoc, arith}
use Rattle.vfs_journal.specs.Entries.{Journal, Sent}
use Rattle.vfs_journal.specs.History.{History, is_bound, waiting}
use Rattle.vfs_journal.specs.Output.{output_of}
use Rattle.vfs_journal.specs.Past.{history_of}
use Rattle.vfs_journal.specs.Session.{after_serving, drained, head, next, picked, serving, serving_one, weight}
use Rattle.vfs_journal.specs.Starts.{Start}
use Rattle.vfs_world.specs.World.{LeadsTo, StandsFor, World}

-- ---- steps behind one another

pub stays : (start : Start) (journal : Journal) (world : World) (before : List ℕ) → StandsFor start world journal → LeadsTo start journal world journal before before
stays start journal world before stands = record {
  stands = stands;
  part = [];
  more = sym (append-nil (output_of start journal));
  written = sym (append-nil before);
}

pub goes_on : (start : Start) (first second third : Journal) (k new : World) (before between after : List ℕ) → LeadsTo start second k first before between → LeadsTo start third new second between after → LeadsTo start third new first before after
goes_on start first second third k new before between after one two = record {
  stands = two.stands;
  part = one.part ++ two.part;
  more = two.more ∙ ap (λ (bytes : List ℕ). bytes ++ two.part) one.more ∙ append_assoc (output_of start first) one.part two.part;
  written = two.written ∙ ap (λ (bytes : List ℕ). bytes ++ two.part) one.written ∙ append_assoc before one.part two.part;
}

-- ---- servings by their steps

pub serving_none : (times : ℕ) (start : Start) (choice : History → Option Sent) (journal : Journal) → choice (history_of start journal) ≡ None → serving times start choice journal ≡ journal
unfolding serving
serving_none zero start choice journal none = refl
serving_none (suc more) start choice journal none = ap (serving_one (serving more start choice) (after_serving start journal) journal) none

pub serving_some : (more : ℕ) (start : Start) (choice : History → Option Sent) (journal : Journal) (sent : Sent) → choice (history_of start journal) ≡ Some sent →
    serving (suc more) start choice journal ≡ serving more start choice (after_serving start journal sent)
unfolding serving
serving_some more start choice journal sent some = ap (serving_one (serving more start choice) (after_serving start journal) journal) some

pub serving_zero : (start : Start) (choice : History → Option Sent) (journal : Journal) → serving 0 start choice journal ≡ journal
unfolding serving
serving_zero start choice journal = refl

-- nothing more is served where none are left to serve, or nothing is chosen
pub serving_over : (left : ℕ) (start : Start) (choice : History → Option Sent) (journal : Journal) → (0 < left → choice (history_of start journal) ≡ None) → serving left start choice journal ≡ journal
serving_over zero start choice journal none = serving_zero start choice journal
serving_over (suc left) start choice journal none = serving_none (suc left) start choice journal (none (omega arith))

-- ---- a Pick

pub pick_none : (start : Start) (journal : Journal) (world : World) (endpoint : ℕ) (before : List ℕ) → StandsFor start world journal → head start (history_of start journal) endpoint ≡ None →
    LeadsTo start (picked start endpoint journal) world journal before before
pick_none start journal world endpoint before stands none =
    subst (λ (j : Journal). LeadsTo start j world journal before before) (sym (serving_none 1 start (λ history. head start history endpoint) journal none)) (stays start journal world before stands)

pub pick_some : (start : Start) (journal : Journal) (new : World) (endpoint : ℕ) (sent : Sent) (before after : List ℕ) → head start (history_of start journal) endpoint ≡ Some sent →
    LeadsTo start (after_serving start journal sent) new journal before after → LeadsTo start (picked start endpoint journal) new journal before after
pick_some start journal new endpoint sent before after some leads =
    subst (λ (j : Journal). LeadsTo start j new journal before after)
    (sym (serving_some 0 start (λ history. head start history endpoint) journal sent some ∙ serving_zero start (λ history. head start history endpoint) (after_serving start journal sent))) leads

-- ---- some servings are done, and some are left

-- what was served so far leads to a journal from which so many servings more make the whole
pub record Goes (start : Start) (choice : History → Option Sent) (left : ℕ) (whole journal : Journal) (world : World) (before after : List ℕ) : Type 0 where
  pub now : Journal
  pub leads : LeadsTo start now world journal before after
  pub rest : serving left start choice now ≡ whole

pub goes_first : (start : Start) (choice : History → Option Sent) (times : ℕ) (journal : Journal) (world : World) (before : List ℕ) → StandsFor start world journal → Goes start choice times (serving times start choice journal) journal world before before
goes_first start choice times journal world before stands = record { now = journal; leads = stays start journal world before stands; rest = refl }

pub goes_ended : (start : Start) (choice : History → Option Sent) (left : ℕ) (whole journal : Journal) (world : World) (before after : List ℕ) (goes : Goes start choice left whole journal world before after) →
    choice (history_of start goes.now) ≡ None → LeadsTo start whole world journal before after
goes_ended start choice left whole journal world before after goes none =
    subst (λ (j : Journal). LeadsTo start j world journal before after) (sym (serving_none left start choice goes.now none) ∙ goes.rest) goes.leads

pub goes_whole : (start : Start) (choice : History → Option Sent) (whole journal : Journal) (world : World) (before after : List ℕ) → Goes start choice 0 whole journal world before after → LeadsTo start whole world journal before after
goes_whole start choice whole journal world before after goes =
    subst (λ (j : Journal). LeadsTo start j world journal before after) (sym (serving_zero start choice goes.now) ∙ goes.rest) goes.leads

pub goes_further : (start : Start) (choice : History → Option Sent) (left : ℕ) (whole journal : Journal) (k new : World) (sent : Sent) (before between after : List ℕ) (goes : Goes start choice (suc left) whole journal k before between) →
    choice (history_of start goes.now) ≡ Some sent → LeadsTo start (after_serving start goes.now sent) new goes.now between after → Goes start choice left whole journal new before after
goes_further start choice left whole journal k new sent before between after goes chosen leads = record {
  now = after_serving start goes.now sent;
  leads = goes_on start journal goes.now (after_serving start goes.now sent) k new before between after goes.leads leads;
  rest = sym (serving_some left start choice goes.now sent chosen) ∙ goes.rest;
}

-- ---- a drain

-- some servings of a drain are left
abbrev pub Drains : Start → Journal → World → List ℕ → List ℕ → Type 0
Drains start journal world before after = (left : ℕ) × Goes start (next start) left (drained start journal) journal world before after

pub drain_begins : (start : Start) (journal : Journal) (world : World) (before : List ℕ) → StandsFor start world journal → Drains start journal world before before
drain_begins start journal world before stands = (weight (history_of start journal), goes_first start (next start) (weight (history_of start journal)) journal world before stands)

pub drain_ends : (start : Start) (journal : Journal) (world : World) (before after : List ℕ) (drains : Drains start journal world before after) → next start (history_of start drains.1.now) ≡ None →
    LeadsTo start (drained start journal) world journal before after
drain_ends start journal world before after drains none = goes_ended start (next start) drains.0 (drained start journal) journal world before after drains.1 none

nothing_next : (start : Start) (history : History) (sent : Sent) → waiting history ≡ [] → next start history ≡ Some sent → ⊥
nothing_next start history sent none h = let wrong : None ≡ Some sent = sym (ap (find (λ (one : Sent). is_bound start history one.endpoint)) none) ∙ h in absurd (cc)

drain_by : (start : Start) (left : ℕ) (journal : Journal) (k new : World) (sent : Sent) (before between after : List ℕ) → waiting (history_of start (drained start journal)) ≡ [] →
    (goes : Goes start (next start) left (drained start journal) journal k before between) → next start (history_of start goes.now) ≡ Some sent →
    LeadsTo start (after_serving start goes.now sent) new goes.now between after → Drains start journal new before after
drain_by start zero journal k new sent before between after none goes first leads =
    absurd (nothing_next start (history_of start goes.now) sent
    (ap (λ (j : Journal). waiting (history_of start j)) (sym (serving_zero start (next start) goes.now) ∙ goes.rest) ∙ none) first)
drain_by start (suc left) journal k new sent before between after none goes first leads =
    (left, goes_further start (next start) left (drained start journal) journal k new sent before between after goes first leads)

pub drain_on : (start : Start) (journal : Journal) (k new : World) (sent : Sent) (before between after : List ℕ) → waiting (history_of start (drained start journal)) ≡ [] →
    (drains : Drains start journal k before between) → next start (history_of start drains.1.now) ≡ Some sent → LeadsTo start (after_serving start drains.1.now sent) new drains.1.now between after → Drains start journal new before after
drain_on start journal k new sent before between after none drains first leads = drain_by start drains.0 journal k new sent before between after none drains.1 first leads
