-- What the parts of a serving count on, in a world that stands for a journal and where something waits on a bound endpoint.
use Rattle.std.proofs.Common.{◌≡◌, ℕ, ◌+◌, ◌-◌, ◌^◌, ◌<◌, ◌≤◌, ◌==◌, ◌⊎◌, Bool, true, false, if◌then◌else◌, List, [], ◌∷◌, ◌++◌, length, map, find, option_to_list, All, Contains, Option, Some, None, inl, inr, append-nil, drop, refl, sym, ap, ◌∙◌, subst, arith}
use Rattle.std.specs.Prelude.{slice_get}
use Rattle.std.specs.List.{list_any}
use Rattle.std.specs.Option.{option_map}
use Rattle.std.proofs.lemmas.Bool.{eqb-true}
use Rattle.std.proofs.lemmas.List.Elements.{All-contains, All-contains_itself, All-filter, All-tail, All-weaker}
use Rattle.std.proofs.lemmas.Option.{none-some, same_Some}
use Rattle.fidl_names.specs.declared.limits.TheConstants as limit
use Rattle.link_admission.specs.Numbering.{among}
use Rattle.link_admission.specs.Standings.{Known, is_live, next_token_of, standing_of}
use Rattle.fidl_names.specs.HandleNumber.{end_of_mount, is_client}
use Rattle.conn_rules.specs.Births.{Position, fresh}
use Rattle.conn_rules.specs.Onward.{onward_bytes}
use Rattle.vfs_journal.specs.Entries.{Sent, endpoints_in, handles_of}
use Rattle.vfs_journal.specs.Fit.{IsFit}
use Rattle.vfs_journal.specs.History.{tree_at}
use Rattle.vfs_journal.specs.Outcomes.{Given}
use Rattle.vfs_journal.specs.Past.{history_of}
use Rattle.vfs_journal.specs.Starts.{Bound}
use Rattle.vfs_journal.specs.View.{View, at_in, deaths_in, head_in, is_held_in, moment_in, moved, outcome_in, queue_in}
use Rattle.journal_laws.specs.Choosing.{queue_beside}
use Rattle.journal_laws.specs.Viewing.{view_behind}
use Rattle.journal_laws.proofs.Among.{among_of, carried_from, one_passes}
use Rattle.journal_laws.proofs.Below.{below}
use Rattle.journal_laws.proofs.Dying.{deaths_are_least}
use Rattle.journal_laws.proofs.Fits.{views_fit}
use Rattle.journal_laws.proofs.Growing.{trees_grow}
use Rattle.journal_laws.proofs.KnowingBehind.{spent_known}
use Rattle.journal_laws.proofs.KnowingServes.{servings_end}
use Rattle.journal_laws.proofs.LookedUp.{is_first}
use Rattle.journal_laws.proofs.ViewLaws.{same_length}
use Rattle.journal_laws.proofs.ViewParts.{deaths_are, head_is_in, token_is}
use Rattle.journal_laws.proofs.Waits.{lawful_wait}
use Rattle.message_queues.specs.Dying.{AreDeaths}
use Rattle.message_queues.specs.Queues.{Queues, count, head_of, queue_of, server_of}
use Rattle.message_queues.proofs.Counting.{counts_its_list}
use Rattle.vfs_server.specs.Holding.{if_at}
use Rattle.vfs_server.specs.declared.fate.Fate.{Fate}
use Rattle.vfs_server.specs.declared.fate.Fate.TheVariants as fates
use Rattle.vfs_server.specs.Servers.{Server}
use Rattle.vfs_server.specs.Serving.{CanTake}
use Rattle.vfs_world.specs.Heads.{CanSettle, IsUnbound, TakesHead}
use Rattle.vfs_world.specs.Running.{IsRunning}
use Rattle.vfs_world.specs.ServingSteps.{Answers, BindsThere, CanGo, bound_told, first_told, spent_told}
use Rattle.vfs_world.specs.World.{World}
use Rattle.vfs_world.proofs.EachServer.{by_length, numbered}
use Rattle.vfs_world.proofs.HeadServed.{server_low}
use Rattle.vfs_world.proofs.Leaving.{many_carry, next_is_new}
use Rattle.vfs_world.proofs.Moments.{is_moment}
use Rattle.vfs_world.proofs.Mounts.{mount_low}
use Rattle.vfs_world.proofs.OneServed.{IsReadyIn, all_die, ready_in}
use Rattle.vfs_world.proofs.QueueSteps.{BindsOne, queue_taken}
use Rattle.vfs_world.proofs.Room.{named_new, room_for}
use Rattle.vfs_world.proofs.ServerSteps.{Living, moved_found}
use Rattle.vfs_world.proofs.Spending.{are_spent, can_go, can_go_alike, spent_apart}
use Rattle.vfs_world.proofs.Telling.{first_are_told, forward_told}
use Rattle.vfs_world.proofs.Then.{Begun, Told, binds_one, carried_free, handles_are_out, new_free, told}

-- what the answer, the taking and the binding count on
pub record CanAnswerHead (world : World) (endpoint server : ℕ) (sent : Sent) : Type 0 where
  pub one : Server
  pub there : slice_get world.servers server ≡ Some one
  pub can : CanTake one endpoint (next_token_of world.known) (handles_of sent.sending)
  pub counted : count world.queues ≡ world.known.waiting
  pub one_of : server < world.queues.servers
  pub free : (fate : Fate) (new : List Server) (before after : List ℕ) → Answers world.servers server endpoint (next_token_of world.known) sent fate new before after →
      (object : ℕ) → bound_told fate ≡ Some object → server_of world.queues object ≡ None

later_all : (P : Sent → Type 0) (ones : List Sent) → All P ones → All P (drop 1 ones)
later_all P [] all = all
later_all P (one ∷ ones) all = All-tail P one ones all

beside_below : (view : View) (sent : Sent) (n place : ℕ) → All (λ one. one.place < place) view.waiting → All (λ one. one.place < place) (queue_beside view sent n)
beside_below view sent n place all = by_test (sent.endpoint == n) (All-filter (λ one. one.endpoint == n) (λ (one : Sent). one.place < place) view.waiting all) where
  by_test : (b : Bool) → All (λ one. one.place < place) (queue_in view n) → All (λ (one : Sent). one.place < place) (if b then drop 1 (queue_in view n) else queue_in view n)
  by_test true whole = later_all (λ (one : Sent). one.place < place) (queue_in view n) whole
  by_test false whole = whole

-- ---- at the server and on the endpoint that are found

module _ (old : World) (run : IsRunning limit.MAX_PLACES old) (sent : Sent) (pair : Bound × Position)
    (found : at_in (view_behind run.start run.journal) sent.endpoint ≡ Some pair) (first : head_in (view_behind run.start run.journal) sent.endpoint ≡ Some sent) where
  fit : IsFit (view_behind run.start run.journal)
  fit = views_fit (below run.apart) run.start run.journal run.stands.sound run.stands.lawful

  low : pair.0.server < length (view_behind run.start run.journal).trees
  low = server_low run.start run.journal sent.endpoint pair run.apart run.stands.sound run.stands.lawful found

  there : (one : Server) × (slice_get old.servers pair.0.server ≡ Some one)
  there = let many = run.stands.holds.servers.many in let l = low in by_length old.servers pair.0.server (omega (arith, many, l))

  begun : Begun (view_behind run.start run.journal) sent pair old.servers there.0 (next_token_of old.known)
  begun = record {
    fit = fit;
    first = first;
    found = found;
    held = numbered (view_behind run.start run.journal) old.servers run.stands.holds.servers;
    there = there.1;
    next = run.stands.knows.next ∙ token_is run.start (history_of run.start run.journal);
  }

  counts : count old.queues ≡ old.known.waiting
  counts = counts_its_list old.queues (view_behind run.start run.journal).waiting run.stands.holds.queues.queue ∙ sym run.stands.knows.waiting

  -- a node was made for each place at most, but for those of the start
  made_few : there.0.graph.made < 2 ^ 63
  made_few =
      let view = view_behind run.start run.journal in
      let held = run.stands.holds.servers in
      let tree = (held.each pair.0.server there.0 there.1).tree in
      let made : there.0.graph.made ≡ length (tree_at view.trees pair.0.server).nodes = tree.made ∙ ap (λ (n : ℕ). length (tree_at view.trees n).nodes) (held.index pair.0.server there.0 there.1) in
      let grown = trees_grow run.start run.journal pair.0.server run.stands.sound in
      let places : view.places ≡ length run.journal = same_length run.start run.journal in
      let few = run.few in
      omega (arith, made, grown, places, few)

  answered : (fate : Fate) (new : List Server) (before after : List ℕ) → Answers old.servers pair.0.server sent.endpoint (next_token_of old.known) sent fate new before after →
      Told (view_behind run.start run.journal) sent pair old.servers there.0 fate new before after
  answered fate new before after answers =
      told (view_behind run.start run.journal) sent pair old.servers there.0 (next_token_of old.known) fate new before after begun answers

  -- what is bound was bound nowhere
  no_server : (fate : Fate) (new : List Server) (before after : List ℕ) → Told (view_behind run.start run.journal) sent pair old.servers there.0 fate new before after →
      (object : ℕ) → bound_told fate ≡ Some object → server_of old.queues object ≡ None
  no_server fate new before after t object e = by_bound (outcome_in (view_behind run.start run.journal) sent).bound refl where
    by_bound : (o : Option Bound) → (outcome_in (view_behind run.start run.journal) sent).bound ≡ o → server_of old.queues object ≡ None
    by_bound None is = let told : None ≡ Some object = ap (option_map (λ (b : Bound). b.endpoint)) (sym is) ∙ t.tells.bound ∙ e in absurd (none-some object told)
    by_bound (Some b) is =
        let told : Some b.endpoint ≡ Some object = ap (option_map (λ (b : Bound). b.endpoint)) (sym is) ∙ t.tells.bound ∙ e in
        ap (server_of old.queues) (sym (same_Some b.endpoint object told))
        ∙ run.stands.holds.queues.bound b.endpoint
        ∙ ap (option_map (λ (p : Bound × Position). p.0.server)) (new_free (view_behind run.start run.journal) sent fit first b is)

  -- what comes along and is no token isn't bound
  unbound : (number : ℕ) → among number (handles_of sent.sending) ≡ true → number < limit.FIRST_TOKEN → at_in (view_behind run.start run.journal) number ≡ None
  unbound number carried low' =
      let view = view_behind run.start run.journal in
      by_kind (fit.carried number (many_carry number sent view.waiting (is_first view sent first).waits carried)) where
        by_kind : (is_client number ≡ true) ⊎ ((list_any (λ given. given.token == number) (view_behind run.start run.journal).given ≡ true) × (is_held_in (view_behind run.start run.journal) number ≡ false)) →
            at_in (view_behind run.start run.journal) number ≡ None
        by_kind (inl client) = carried_free (view_behind run.start run.journal) sent fit first number (carried_from sent number client carried)
        by_kind (inr given) =
            let view = view_behind run.start run.journal in
            let one = one_passes (λ (given : Given). given.token == number) view.given given.0 in
            let high = (All-contains (λ (given : Given). (limit.FIRST_TOKEN ≤ given.token) × (given.token < limit.FIRST_TOKEN + length view.given)) view.given one.0 fit.numbered one.1).0 in
            let same = eqb-true one.0.token number one.2 in
            absurd (omega (arith, high, same, low'))

  -- the next token was given nowhere, and there is room for it
  takes : CanTake there.0 sent.endpoint (next_token_of old.known) (handles_of sent.sending)
  takes =
      let view = view_behind run.start run.journal in
      let held = begun.held.each pair.0.server there.0 there.1 in
      record {
        moment = (
          moment_in view pair,
          is_moment view there.0 sent.endpoint pair (next_token_of old.known) (handles_of sent.sending) held found begun.next (handles_are_out view sent first),
        );
        made = made_few;
        unbound = λ number carried low'. held.bound number ∙ ap (if_at pair.0.server) (unbound number carried low');
        unnamed = λ next e. named_new view pair.0.server next there.0 held (λ other c. next_is_new view sent fit first next other (sym begun.next ∙ e) c);
        room = λ next e. room_for view pair.0.server next there.0 held fit.tokens (sym begun.next ∙ e);
      }

  pub can_answer_there : CanAnswerHead old sent.endpoint pair.0.server sent
  can_answer_there = record {
    one = there.0;
    there = there.1;
    can = takes;
    counted = counts;
    one_of = let those = run.stands.holds.queues.those in let l = low in omega (arith, those, l);
    free = λ fate new before after answers. no_server fate new before after (answered fate new before after answers);
  }

  -- behind the taking
  module _ (mid : World) (fate : Fate) (before after : List ℕ) (d : TakesHead old sent.endpoint pair.0.server sent fate mid before after) where
    t : Told (view_behind run.start run.journal) sent pair old.servers there.0 fate mid.servers before after
    t = answered fate mid.servers before after d.answers

    binds : BindsOne d.left (outcome_in (view_behind run.start run.journal) sent).bound mid.queues
    binds = binds_one sent.endpoint pair.0.server (outcome_in (view_behind run.start run.journal) sent) fate d.left mid.queues t.tells t.here d.binds

    beside : (n : ℕ) → queue_of mid.queues n ≡ queue_beside (view_behind run.start run.journal) sent n
    beside n =
        binds.waiting n
        ∙ queue_taken (view_behind run.start run.journal) sent old.queues d.left run.stands.holds.queues d.taken n

    same_deaths : (dead : List ℕ) → AreDeaths mid.queues (first_told sent fate) dead → (n : ℕ) → among n dead ≡ among n (deaths_in (view_behind run.start run.journal) sent)
    same_deaths dead died =
        deaths_are_least (view_behind run.start run.journal) sent dead fit first
        (all_die (view_behind run.start run.journal) sent mid.queues (first_told sent fate) dead beside
        (sym (first_are_told sent (outcome_in (view_behind run.start run.journal) sent) fate t.tells)) died)

    -- what is refused and was carried till then is bound nowhere
    unbound_then : (object : ℕ) → fate ≡ fates.Refuses object → among object (endpoints_in sent) ≡ true → IsUnbound mid object
    unbound_then object e carried =
        let view = view_behind run.start run.journal in
        let o = outcome_in view sent in
        let same = subst (λ (f : Fate). BindsThere pair.0.server (bound_told f) d.left mid.queues) e d.binds in
        let none_bound = subst (λ (f : Fate). option_map (λ (b : Bound). b.endpoint) o.bound ≡ bound_told f) e t.tells.bound in
        let free = carried_free view sent fit first object carried in
        record {
          waiting =
              ap (λ (queues : Queues). server_of queues object) same ∙ d.taken.bound object ∙ run.stands.holds.queues.bound object
              ∙ ap (option_map (λ (p : Bound × Position). p.0.server)) free;
          servers = λ index one at.
              (t.held.each index one at).bound object
              ∙ ap (if_at index)
              (ap (λ (l : Living). find (λ p. p.0.endpoint == object) (map (moved sent.endpoint o.position) view.living ++ l)) (none_new o.bound none_bound)
              ∙ ap (find (λ (p : Bound × Position). p.0.endpoint == object)) (append-nil (map (moved sent.endpoint o.position) view.living))
              ∙ moved_found sent.endpoint o.position object view.living ∙ ap (option_map (moved sent.endpoint o.position)) free);
        } where
          none_new : (o : Option Bound) → option_map (λ (b : Bound). b.endpoint) o ≡ None → map {B = Bound × Position} (λ (b : Bound). (b, fresh)) (option_to_list o) ≡ []
          none_new None e = refl
          none_new (Some b) e = absurd (none-some b.endpoint (sym e))

    were_live : (dead : List ℕ) → AreDeaths mid.queues (first_told sent fate) dead → (n : ℕ) → Contains dead n → is_live (standing_of mid.known n) ≡ true
    were_live dead died n c =
        let past = history_of run.start run.journal in
        let same = same_deaths dead died in
        let ends = servings_end (below run.apart) run.start run.journal sent run.stands.sound run.stands.lawful
        (head_is_in run.start past sent.endpoint ∙ first) in
        ap (λ (k : Known). is_live (standing_of k n)) d.known
        ∙ ap is_live (run.stands.knows.standing n)
        ∙ ends.were_live n (ap (among n) (deaths_are run.start past sent) ∙ sym (same n) ∙ among_of n dead c)

    can_go_then : (dead : List ℕ) → AreDeaths mid.queues (first_told sent fate) dead → CanGo mid.known (spent_told sent mid.queues dead)
    can_go_then dead died =
        let view = view_behind run.start run.journal in
        let same = same_deaths dead died in
        let list = are_spent view sent mid.queues dead fit first beside same died.once in
        can_go_alike (spent_told sent mid.queues dead) old.known mid.known (sym (ap (λ (k : Known). k.tokens) d.known))
        (can_go (spent_told sent mid.queues dead) old.known (spent_apart view sent mid.queues dead fit first beside same died.once)
        (λ n h.
        spent_known (below run.apart) run.start run.journal sent old.known n run.stands.sound run.stands.lawful
        (head_is_in run.start (history_of run.start run.journal) sent.endpoint ∙ first) run.stands.knows (sym (list.same n) ∙ h)))

    places_are : mid.places ≡ (view_behind run.start run.journal).places
    places_are = d.places ∙ run.stands.holds.places

    pub can_settle_there : CanSettle mid sent fate
    can_settle_there = record {
      live = λ dead died. All-weaker (Contains dead) (λ n. is_live (standing_of mid.known n) ≡ true) (were_live dead died) dead (All-contains_itself dead);
      unbound = unbound_then;
      out = can_go_then;
      counted = let a = d.count in let b = counts in let c : mid.known.waiting ≡ old.known.waiting - 1 = ap (λ (k : Known). k.waiting) d.known in omega (arith, a, b, c);
      low = λ mount object flags rest e.
          let goes = (fit.heads sent first).goes_to (record { endpoint = end_of_mount mount; bytes = onward_bytes flags rest object; object = object }) (t.tells.forward ∙ ap forward_told e) in
          mount_low run.start run.journal mount run.apart run.stands.sound run.stands.lawful goes.0 goes.1;
      newest = λ n. subst (λ (p : ℕ). All (λ one. one.place < p) (queue_of mid.queues n)) (sym places_are)
          (subst (λ (ones : List Sent). All (λ one. one.place < (view_behind run.start run.journal).places) ones) (sym (beside n))
          (beside_below (view_behind run.start run.journal) sent n (view_behind run.start run.journal).places fit.below));
      few = let a = d.count in let b = counts in let c = run.stands.knows.waiting in let w = lawful_wait run.start run.journal run.stands.lawful in omega (arith, a, b, c, w);
      places = let a = places_are in let few = run.few in omega (arith, a, few);
    }

-- ---- where the queues tell it

found_in : (old : World) (run : IsRunning limit.MAX_PLACES old) (endpoint server : ℕ) (sent : Sent) → server_of old.queues endpoint ≡ Some server → head_of old.queues endpoint ≡ Some sent →
    IsReadyIn (view_behind run.start run.journal) endpoint server sent
found_in old run endpoint server sent bound waits = ready_in (view_behind run.start run.journal) old.queues endpoint server sent run.stands.holds.queues bound waits

pub can_answer_head : (old : World) (run : IsRunning limit.MAX_PLACES old) (endpoint server : ℕ) (sent : Sent) → server_of old.queues endpoint ≡ Some server → head_of old.queues endpoint ≡ Some sent → CanAnswerHead old endpoint server sent
can_answer_head old run endpoint server sent bound waits =
    let r = found_in old run endpoint server sent bound waits in
    subst (λ (n : ℕ). CanAnswerHead old n server sent) r.on
    (subst (λ (n : ℕ). CanAnswerHead old sent.endpoint n sent) r.at (can_answer_there old run sent r.pair r.found r.first))

pub can_settle : (old mid : World) (run : IsRunning limit.MAX_PLACES old) (endpoint server : ℕ) (sent : Sent) (fate : Fate) (before after : List ℕ) → TakesHead old endpoint server sent fate mid before after → CanSettle mid sent fate
can_settle old mid run endpoint server sent fate before after d =
    let r = found_in old run endpoint server sent d.bound d.first in
    can_settle_there old run sent r.pair r.found r.first mid fate before after
    (subst (λ (n : ℕ). TakesHead old n r.pair.0.server sent fate mid before after) (sym r.on)
    (subst (λ (n : ℕ). TakesHead old endpoint n sent fate mid before after) (sym r.at) d))
