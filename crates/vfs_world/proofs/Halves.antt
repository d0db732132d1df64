-- The two parts of a serving make the whole.
use Rattle.std.proofs.Common.{◌≡◌, ℕ, ◌+◌, ◌-◌, ◌≤◌, ◌<◌, ◌++◌, Bool, true, false, if◌then◌else◌, List, [], All, fold, append_assoc, refl, sym, ap, ◌∙◌, subst, arith}
use Rattle.std.proofs.lemmas.List.Elements.{All-nil, All-weaker}
use Rattle.fidl_names.specs.declared.limits.TheConstants as limit
use Rattle.link_frames.specs.Frames.{spellings}
use Rattle.link_admission.specs.Numbering.{among}
use Rattle.link_admission.specs.Standings.{Known, ended, gone}
use Rattle.vfs_journal.specs.Entries.{Sent}
use Rattle.vfs_journal.specs.Output.{Begins}
use Rattle.journal_laws.specs.Viewing.{view_behind}
use Rattle.message_queues.specs.Dying.{Buries}
use Rattle.message_queues.specs.Queues.{IsAbove, Queues, count, queue_of}
use Rattle.vfs_server.specs.declared.fate.Fate.{Fate}
use Rattle.vfs_server.specs.declared.fate.Fate.TheVariants as fates
use Rattle.vfs_world.specs.Heads.{ServesTaken, SettlesHead, Takes, TakesHead}
use Rattle.vfs_world.specs.Running.{IsRunning}
use Rattle.vfs_world.specs.Servings.{ServesHead, ServesOne}
use Rattle.vfs_world.specs.ServingSteps.{SendsOn, closed_for, end_told, is_sent_on, known_told, spent_told}
use Rattle.vfs_world.specs.World.{World}
use Rattle.vfs_world.proofs.Ending.{ended_with, with_waiting}
use Rattle.vfs_world.proofs.HeadServed.{head_served}
use Rattle.vfs_world.proofs.Lasting.{lasts_served}
use Rattle.vfs_world.proofs.OneServed.{ready_in}
use Rattle.vfs_world.proofs.Spending.{gone_with, told_with}

-- what is written behind what was
pub begins_on : (before between after : List ℕ) → Begins before between → Begins between after → Begins before after
begins_on before between after one other =
    (one.0 ++ other.0, other.1 ∙ ap (λ (bytes : List ℕ). bytes ++ other.0) one.1 ∙ append_assoc before one.0 other.0)

-- a place above all that waits lies above what is left of it, and so does the next
pub above_left : (old new : Queues) (dead : List ℕ) (place : ℕ) → IsAbove old place → Buries old dead new → IsAbove new (place + 1)
above_left old new dead place above buried n =
    subst (All (λ (one : Sent). one.place < place + 1)) (sym (buried.waiting n)) (by_test (among n dead)) where
      by_test : (b : Bool) → All (λ (one : Sent). one.place < place + 1) (if b then [] else queue_of old n)
      by_test true = All-nil (λ (one : Sent). one.place < place + 1)
      by_test false = All-weaker (λ (one : Sent). one.place < place) (λ one. one.place < place + 1) (λ one low. omega (arith, low)) (queue_of old n) (above n)

-- what is known behind tokens that go, and behind one that is given, doesn't look at how much waits
pub spent_with : (fate : Fate) (spent : List ℕ) (known : Known) (n : ℕ) → ◌≡◌ {A = Known} (known_told fate (fold gone (record known { waiting = n }) spent)) (record (known_told fate (fold gone known spent)) { waiting = n })
spent_with fate spent known n = ap (known_told fate) (gone_with spent known n) ∙ told_with fate (fold gone known spent) n

-- what is known behind deaths, tokens that go and one that is given
pub settled_known : (old mid left new : Known) (fate : Fate) (dead tokens spent : List ℕ) (n : ℕ) → mid ≡ record (fold ended old dead) { waiting = n } → tokens ≡ spent → left ≡ fold gone mid tokens → new ≡ known_told fate left →
    ◌≡◌ {A = Known} new (record (known_told fate (fold gone (fold ended old dead) spent)) { waiting = n })
settled_known old mid left new fate dead tokens spent n died same went told =
    told
    ∙ ap (known_told fate) (went ∙ ap (fold gone mid) same ∙ ap (λ (k : Known). fold gone k spent) died)
    ∙ spent_with fate spent (fold ended old dead) n

-- what is known behind deaths, and behind what is sent on then
pub known_then : (old mid new : Known) (n m : ℕ) → mid ≡ record old { waiting = n } → new ≡ record mid { waiting = m } → ◌≡◌ {A = Known} new (record old { waiting = m })
known_then old mid new n m e f = f ∙ with_waiting mid (record old { waiting = n }) m m e refl

pub one_at_most : (fate : Fate) → is_sent_on fate ≤ 1
one_at_most fates.Stays = omega arith
one_at_most fates.Ends = omega arith
one_at_most (fates.Binds object) = omega arith
one_at_most (fates.Refuses object) = omega arith
one_at_most (fates.Forwards mount object flags rest) = omega arith
one_at_most (fates.Gives token) = omega arith

both_parts : (old mid new : World) (endpoint server : ℕ) (sent : Sent) (fate : Fate) (before between after : List ℕ) → sent.endpoint ≡ endpoint →
    TakesHead old endpoint server sent fate mid before between → SettlesHead mid sent fate new between after → new.spent ≡ false → ServesHead old endpoint server sent new before after
both_parts old mid new endpoint server sent fate before between after on d e able = record {
  fate = fate;
  answered = mid.servers;
  left = e.those;
  q1 = d.left;
  q2 = mid.queues;
  q3 = e.left;
  dead = e.dead;
  between = between;
  answers = d.answers;
  taken = d.taken;
  binds = d.binds;
  died = e.died;
  buried = e.buried;
  goes = e.goes;
  forgets = e.forgets;
  closed = subst (λ (n : ℕ). after ≡ between ++ spellings (closed_for (end_told n fate) e.dead)) on e.closed;
  sends = subst (λ (n : ℕ). SendsOn (n + 1) sent.place fate e.left new.queues) d.places e.sends;
  known =
      e.known
      ∙ with_waiting (known_told fate (fold gone (fold ended mid.known e.dead) spent)) (record (known_told fate (fold gone (fold ended old.known e.dead) spent)) { waiting = old.known.waiting - 1 }) (count new.queues) (count new.queues)
      (ap (λ (k : Known). known_told fate (fold gone k spent)) (ap (λ (k : Known). fold ended k e.dead) d.known ∙ ended_with e.dead old.known (old.known.waiting - 1))
      ∙ spent_with fate spent (fold ended old.known e.dead) (old.known.waiting - 1)) refl;
  places = let a = d.places in let b = e.places in omega (arith, a, b);
  able = able;
} where
  spent : List ℕ
  spent = spent_told sent mid.queues e.dead

pub one_served : (old mid new last : World) (run : IsRunning limit.MAX_PLACES old) (endpoint server : ℕ) (sent : Sent) (fate : Fate) (before between after : List ℕ) →
    TakesHead old endpoint server sent fate mid before between → SettlesHead mid sent fate new between after → last ≡ new → last.spent ≡ false → ServesOne (λ one. one ≡ endpoint) old last before after
one_served old mid new last run endpoint server sent fate before between after d e same able = record {
  endpoint = endpoint;
  server = server;
  sent = sent;
  one_of = refl;
  bound = d.bound;
  waits = d.first;
  served = both_parts old mid last endpoint server sent fate before between after
      (ready_in (view_behind run.start run.journal) old.queues endpoint server sent run.stands.holds.queues d.bound d.first).on d
      (subst (λ (w : World). SettlesHead mid sent fate w between after) (sym same) e) able;
}

-- behind them the world goes on, and its places with those that are left stay few
pub goes_on : (most : ℕ) (old new : World) (run : IsRunning most old) (endpoint : ℕ) (before after : List ℕ) → ServesOne (λ one. one ≡ endpoint) old new before after → IsRunning most new
goes_on most old new run endpoint before after one =
    lasts_served most old new run one.sent
    (ready_in (view_behind run.start run.journal) old.queues one.endpoint one.server one.sent run.stands.holds.queues one.bound one.waits).first
    (head_served run.apart run.start run.journal old new one.endpoint one.server one.sent before after run.stands one.bound one.waits one.served).stands

-- so that what is served, whatever it was taken from, runs on as that did
pub serves_taken : (endpoint server : ℕ) (sent : Sent) (old new : World) (before after : List ℕ) →
    ((from : World) → IsRunning limit.MAX_PLACES from → Takes from endpoint server sent old → ServesOne (λ one. one ≡ endpoint) from new before after) → ServesTaken endpoint server sent old new before after
serves_taken endpoint server sent old new before after serves = record {
  served = serves;
  running = λ most from run few takes. goes_on most from new few endpoint before after (serves from run takes);
}
