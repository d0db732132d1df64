-- What a world holds behind a serving is the view behind it.
use Rattle.std.proofs.Common.{◌≡◌, ◌≢◌, ℕ, zero, suc, ◌+◌, ◌==◌, ◌&&◌, Bool, true, false, not, is_some, if◌then◌else◌, List, [], ◌∷◌, ◌++◌, map, All, Contains, find, get_or, option_to_list, Option, Some, None, set, append-nil, append_assoc, refl, sym, ap, ◌∙◌, subst, arith}
use Rattle.std.specs.Prelude.{slice_get}
use Rattle.std.specs.Option.{option_map, option_map_or}
use Rattle.std.specs.List.{list_any}
use Rattle.std.proofs.lemmas.Bool.{eqb-true, eq-eqb, or_right, true≢false}
use Rattle.std.proofs.lemmas.Grind.{flat_map-append}
use Rattle.std.proofs.lemmas.Option.{same_Some}
use Rattle.std.proofs.lemmas.List.Elements.{All-cons, All-nil, All-weaker, All-contains_itself, filter_agree}
use Rattle.link_frames.specs.Frames.{Frame, spelling, spellings}
use Rattle.link_admission.specs.Numbering.{among}
use Rattle.fidl_names.specs.HandleNumber.{end_of_mount}
use Rattle.conn_rules.specs.Onward.{onward_bytes}
use Rattle.conn_rules.specs.Births.{Position, fresh}
use Rattle.vfs_journal.specs.Entries.{Sent, endpoints_in, handles_of, serves}
use Rattle.vfs_journal.specs.Fit.{IsFit}
use Rattle.vfs_journal.specs.History.{Event}
use Rattle.vfs_journal.specs.Outcomes.{Forwarded, Outcome, close_frame, no_outcome}
use Rattle.vfs_journal.specs.Output.{close_frames, rising}
use Rattle.vfs_journal.specs.Serving.{outcome_of_sending}
use Rattle.vfs_journal.specs.Starts.{Bound}
use Rattle.vfs_journal.specs.View.{View, at_in, bounds_in, deaths_in, event_in, frames_in, head_in, is_held_in, is_out_in, moment_in, moved, next_token_in, onward_in, outcome_in, serving_in, then_in}
use Rattle.journal_laws.specs.Knowing.{spent_in}
use Rattle.journal_laws.proofs.Among.{carrier_travels, passes_any}
use Rattle.journal_laws.proofs.Dying.{told_by_members}
use Rattle.journal_laws.proofs.Lists.{eqb_sym, pairs-append, pairs-map}
use Rattle.journal_laws.proofs.LookedUp.{is_first}
use Rattle.journal_laws.proofs.Members.{none_found}
use Rattle.message_queues.specs.Queues.{Queues, queue_of, server_of}
use Rattle.vfs_server.specs.declared.fate.Fate.{Fate}
use Rattle.vfs_server.specs.declared.fate.Fate.TheVariants as fates
use Rattle.vfs_server.specs.Servers.{Server}
use Rattle.vfs_server.specs.Serving.{Serves, frames_here}
use Rattle.vfs_world.specs.Holding.{HoldsEach}
use Rattle.vfs_world.specs.ServingSteps.{Answers, BindsThere, ForgetsAll, SendsOn, bound_told, closed_for, end_told, onward_told, without_in}
use Rattle.vfs_world.proofs.Between.{answered_in}
use Rattle.vfs_world.proofs.EachServer.{AreNumbered, IsNewAt, each_forgotten, each_served, indexed, numbered, served_in}
use Rattle.vfs_world.proofs.Leaving.{new_token, out_then, tokens_rise}
use Rattle.vfs_world.proofs.Moments.{IsOn, frames_same, is_moment, sending_on}
use Rattle.vfs_world.proofs.QueueSteps.{BindsOne, SendsOne}
use Rattle.vfs_world.proofs.ServerSteps.{Apart, Living, found_name, moved_found}
use Rattle.vfs_world.proofs.Telling.{Tells, forward_told, others_are_told, tells}

-- ---- the outcome

pub outcome_is : (view : View) (sent : Sent) (pair : Bound × Position) → at_in view sent.endpoint ≡ Some pair →
    outcome_in view sent ≡ outcome_of_sending (moment_in view pair) sent.sending
outcome_is view sent pair found =
    ap (λ (o : Option (Bound × Position)). option_map_or (λ pair. outcome_of_sending (moment_in view pair) sent.sending) o no_outcome) found

-- ---- no endpoint is bound twice

apart_moved : (k : ℕ) (at : Position) (living : Living) → Apart living → Apart (map (moved k at) living)
apart_moved k at living apart =
    pairs-map (λ (one other : Bound × Position). one.0.endpoint ≢ other.0.endpoint) (moved k at) living
    (λ i j d a b e. apart i j d a b (sym (name (get_or living i d)) ∙ e ∙ name (get_or living j d))) where
      name : (pair : Bound × Position) → (moved k at pair).0.endpoint ≡ pair.0.endpoint
      name pair = by_test (pair.0.endpoint == k) where
        by_test : (b : Bool) → (if b then (let one : Bound × Position = (pair.0, at) in one) else pair).0.endpoint ≡ pair.0.endpoint
        by_test true = refl
        by_test false = refl

apart_more : (living : Living) (o : Option Bound) → Apart living → ((b : Bound) → o ≡ Some b → find (λ pair. pair.0.endpoint == b.endpoint) living ≡ None) → Apart (living ++ map (λ b. (b, fresh)) (option_to_list o))
apart_more living None apart new = subst Apart (sym (append-nil living)) apart
apart_more living (Some b) apart new =
    pairs-append (λ (one other : Bound × Position). one.0.endpoint ≢ other.0.endpoint) living ((b, fresh) ∷ []) apart
    (λ i j d a c. absurd (omega arith))
    (All-weaker (Contains living) (λ x. All (λ (y : Bound × Position). x.0.endpoint ≢ y.0.endpoint) ((b, fresh) ∷ []))
    (λ x c. All-cons (λ (y : Bound × Position). x.0.endpoint ≢ y.0.endpoint) (b, fresh) []
    (λ e. true≢false (sym (eq-eqb x.0.endpoint b.endpoint e) ∙ none_found (λ (pair : Bound × Position). pair.0.endpoint == b.endpoint) living x (new b refl) c))
    (All-nil (λ (y : Bound × Position). x.0.endpoint ≢ y.0.endpoint)))
    living (All-contains_itself living))

none_is : {X : Type 0} (o : Option X) → is_some o ≡ false → o ≡ None
none_is None e = refl
none_is (Some x) e = absurd (true≢false e)

-- what a first entry carries isn't bound
pub carried_free : (view : View) (sent : Sent) → IsFit view → head_in view sent.endpoint ≡ Some sent → (endpoint : ℕ) → among endpoint (endpoints_in sent) ≡ true → at_in view endpoint ≡ None
carried_free view sent fit first endpoint carried =
    none_is (at_in view endpoint) (fit.unbound endpoint (carrier_travels endpoint view.waiting sent (is_first view sent first).waits carried))

-- what is bound wasn't bound
pub new_free : (view : View) (sent : Sent) → IsFit view → head_in view sent.endpoint ≡ Some sent → (b : Bound) → (outcome_in view sent).bound ≡ Some b → at_in view b.endpoint ≡ None
new_free view sent fit first b e = carried_free view sent fit first b.endpoint ((fit.heads sent first).binds b e)

-- ---- what is bound

set_there : {X : Type 0} (xs : List X) (i : ℕ) (one now : X) → slice_get xs i ≡ Some one → slice_get (set xs i now) i ≡ Some now
set_there [] i one now e = absurd (cc)
set_there (x ∷ xs) zero one now e = refl
set_there (x ∷ xs) (suc i) one now e = set_there xs i one now e

binds_by : (i : ℕ) (o : Option Bound) (told : Option ℕ) (q1 q2 : Queues) → option_map (λ bound. bound.endpoint) o ≡ told → ((b : Bound) → o ≡ Some b → b.server ≡ i) → BindsThere i told q1 q2 → BindsOne q1 o q2
binds_by i None None q1 q2 is on binds = record { waiting = λ n. ap (λ (q : Queues). queue_of q n) binds; bound = λ n. ap (λ (q : Queues). server_of q n) binds; those = ap (λ (q : Queues). q.servers) binds }
binds_by i (Some b) (Some object) q1 q2 is on binds = record {
  waiting = binds.waiting;
  bound = λ n.
      binds.bound n
      ∙ ap (λ (m : ℕ). if n == m then Some i else server_of q1 n) (sym (same_Some b.endpoint object is))
      ∙ ap (λ (t : Bool). if t then Some i else server_of q1 n) (eqb_sym n b.endpoint)
      ∙ ap (λ (m : ℕ). if b.endpoint == n then Some m else server_of q1 n) (sym (on b refl));
  those = binds.those;
}
binds_by i None (Some object) q1 q2 is on binds = absurd (cc)
binds_by i (Some b) None q1 q2 is on binds = absurd (cc)

pub binds_one : (endpoint i : ℕ) (outcome : Outcome) (fate : Fate) (q1 q2 : Queues) → Tells outcome endpoint fate → ((b : Bound) → outcome.bound ≡ Some b → b.server ≡ i) → BindsThere i (bound_told fate) q1 q2 → BindsOne q1 outcome.bound q2
binds_one endpoint i outcome fate q1 q2 told on binds = binds_by i outcome.bound (bound_told fate) q1 q2 told.bound on binds

-- ---- what goes on

none_sent : (view : View) (sent : Sent) (q3 q4 : Queues) → q4 ≡ q3 → SendsOne view sent q3 None q4
none_sent view sent q3 q4 e = record {
  waiting = λ n. ap (λ (q : Queues). queue_of q n) e ∙ sym (append-nil (queue_of q3 n));
  bound = λ n. ap (λ (q : Queues). server_of q n) e;
  those = ap (λ (q : Queues). q.servers) e;
}

pub sends_one : (view : View) (sent : Sent) (fate : Fate) (q3 q4 : Queues) → SendsOn (view.places + 1) sent.place fate q3 q4 → SendsOne view sent q3 (forward_told fate) q4
sends_one view sent (fates.Forwards mount object flags rest) q3 q4 sends = record {
  waiting = λ n. sends.waiting n ∙ by_test n (n == end_of_mount mount) refl;
  bound = sends.bound;
  those = sends.those;
} where
  new : Sent
  new = onward_told (view.places + 1) sent.place mount object (onward_bytes flags rest object)

  by_test : (n : ℕ) (b : Bool) → (n == end_of_mount mount) ≡ b → (if b then queue_of q3 (end_of_mount mount) ++ new ∷ [] else queue_of q3 n)
      ≡ queue_of q3 n ++ (if end_of_mount mount == n then new ∷ [] else [])
  by_test n true e =
      ap (λ (m : ℕ). queue_of q3 m ++ new ∷ []) (sym (eqb-true n (end_of_mount mount) e))
      ∙ ap (λ (b : Bool). queue_of q3 n ++ (if b then new ∷ [] else [])) (sym (eqb_sym (end_of_mount mount) n ∙ e))
  by_test n false e =
      sym (append-nil (queue_of q3 n))
      ∙ ap (λ (b : Bool). queue_of q3 n ++ (if b then new ∷ [] else [])) (sym (eqb_sym (end_of_mount mount) n ∙ e))
sends_one view sent fates.Stays q3 q4 sends = none_sent view sent q3 q4 sends
sends_one view sent fates.Ends q3 q4 sends = none_sent view sent q3 q4 sends
sends_one view sent (fates.Binds object) q3 q4 sends = none_sent view sent q3 q4 sends
sends_one view sent (fates.Refuses object) q3 q4 sends = none_sent view sent q3 q4 sends
sends_one view sent (fates.Gives token) q3 q4 sends = none_sent view sent q3 q4 sends

-- ---- the whole

onward_living : (view : View) (sent : Sent) (o : Option Forwarded) → (onward_in view sent o).living ≡ view.living
onward_living view sent None = refl
onward_living view sent (Some f) = refl

onward_trees : (view : View) (sent : Sent) (o : Option Forwarded) → (onward_in view sent o).trees ≡ view.trees
onward_trees view sent None = refl
onward_trees view sent (Some f) = refl

onward_given : (view : View) (sent : Sent) (o : Option Forwarded) → (onward_in view sent o).given ≡ view.given
onward_given view sent None = refl
onward_given view sent (Some f) = refl

-- what a serving begins with: what is served, on an endpoint that is bound at a server
pub record Begun (view : View) (sent : Sent) (pair : Bound × Position) (servers : List Server) (one : Server) (token : Option ℕ) : Type 0 where
  pub fit : IsFit view
  pub first : head_in view sent.endpoint ≡ Some sent
  pub found : at_in view sent.endpoint ≡ Some pair
  pub held : AreNumbered view servers
  pub there : slice_get servers pair.0.server ≡ Some one
  pub next : token ≡ next_token_in view

-- whatever waits next carries what is out
pub handles_are_out : (view : View) (sent : Sent) → head_in view sent.endpoint ≡ Some sent → (number : ℕ) → among number (handles_of sent.sending) ≡ true → is_out_in view number ≡ true
handles_are_out view sent first number carried =
    or_right (is_held_in view number) (list_any (λ (one : Sent). among number (handles_of one.sending)) view.waiting)
    (passes_any (λ (one : Sent). among number (handles_of one.sending)) view.waiting sent (is_first view sent first).waits carried)

-- what was answered
pub record Told (view : View) (sent : Sent) (pair : Bound × Position) (servers : List Server) (one : Server) (fate : Fate) (new : List Server) (before after : List ℕ) : Type 0 where
  pub now : Server
  pub set : new ≡ set servers pair.0.server now
  pub serves : Serves (moment_in view pair) (outcome_in view sent) fate one now before after
  pub tells : Tells (outcome_in view sent) sent.endpoint fate
  pub here : (b : Bound) → (outcome_in view sent).bound ≡ Some b → b.server ≡ pair.0.server
  pub held : AreNumbered (served_in view sent.endpoint (outcome_in view sent)) new
  pub there : slice_get new pair.0.server ≡ Some now

pub told : (view : View) (sent : Sent) (pair : Bound × Position) (servers : List Server) (one : Server) (token : Option ℕ) (fate : Fate) (new : List Server) (before after : List ℕ) → Begun view sent pair servers one token →
    Answers servers pair.0.server sent.endpoint token sent fate new before after → Told view sent pair servers one fate new before after
told view sent pair servers one token fate new before after b answers =
    let m = moment_in view pair in
    let i = pair.0.server in
    let o = outcome_in view sent in
    let name : pair.0.endpoint ≡ sent.endpoint = found_name sent.endpoint view.living pair b.found in
    let o_is = outcome_is view sent pair b.found in
    let a = answers one m b.there (is_moment view one sent.endpoint pair token (handles_of sent.sending) (b.held.each i one b.there) b.found b.next (handles_are_out view sent b.first)) in
    let serves : Serves m o fate one a.0 before after = subst (λ (o : Outcome). Serves m o fate one a.0 before after) (sym o_is) a.2 in
    let is_new : IsNewAt view i pair.0.endpoint o = record {
      server = ap (λ (o : Outcome). o.server) o_is ∙ (sending_on m sent.sending).server;
      bound = serves.here;
      given = λ one e. (serves.given one e).0;
      free = λ x e. moved_found pair.0.endpoint o.position x.endpoint view.living ∙ ap (option_map (moved pair.0.endpoint o.position)) (new_free view sent b.fit b.first x e);
      apart = λ one other e c. new_token view sent b.fit b.first one other e c;
    } in
    record {
      now = a.0;
      set = a.1;
      serves = serves;
      tells = subst (λ (n : ℕ). Tells o n fate) name (tells o pair.0.endpoint fate serves.tells);
      here = serves.here;
      held = subst (λ (n : ℕ). AreNumbered (served_in view n o) new) name
          (subst (AreNumbered (served_in view pair.0.endpoint o)) (sym a.1)
          (each_served view servers one a.0 pair m o fate before after b.held b.there (ap (at_in view) name ∙ b.found) is_new serves));
      there = subst (λ (xs : List Server). slice_get xs i ≡ Some a.0) (sym a.1) (set_there servers i one a.0 b.there);
    }

-- what the servers hold behind the whole
pub servers_then : (view : View) (sent : Sent) (pair : Bound × Position) (s0 s1 s2 s3 : List Server) (one : Server) (token : Option ℕ) (fate : Fate) (dead spent : List ℕ) (before after : List ℕ) →
    Begun view sent pair s0 one token → Told view sent pair s0 one fate s1 before after →
    ((v : View) → Apart v.living → HoldsEach v s1 → HoldsEach (without_in v dead) s2) → ForgetsAll s2 spent s3 → ((endpoint : ℕ) → among endpoint dead ≡ among endpoint (deaths_in view sent)) →
    ((number : ℕ) → among number spent ≡ among number (spent_in view sent)) → HoldsEach (then_in view sent) s3
servers_then view sent pair s0 s1 s2 s3 one token fate dead spent before after b t goes forgets same spent_same =
    let o = outcome_in view sent in
    let v1 = answered_in view sent.endpoint o in
    let v2 = served_in view sent.endpoint o in
    let free1 : (x : Bound) → o.bound ≡ Some x → at_in v1 x.endpoint ≡ None =
    (λ x e. moved_found sent.endpoint o.position x.endpoint view.living ∙ ap (option_map (moved sent.endpoint o.position)) (new_free view sent b.fit b.first x e)) in
    let h2 = goes v2 (apart_more v1.living o.bound (apart_moved sent.endpoint o.position view.living b.fit.apart) free1) (indexed v2 s1 t.held) in
    let mid = serving_in view sent (event_in view sent) in
    indexed (then_in view sent) s3
    (each_forgotten (without_in v2 dead) (then_in view sent) spent s2 s3 (tokens_rise view sent b.fit b.first) (numbered (without_in v2 dead) s2 h2) forgets
    (onward_living mid sent o.forward ∙ filter_agree (λ (p : Bound × Position). not (among p.0.endpoint (deaths_in view sent))) (λ p. not (among p.0.endpoint dead)) (λ p. ap not (sym (same p.0.endpoint))) v2.living)
    (onward_trees mid sent o.forward)
    (onward_given mid sent o.forward)
    (λ new c. ap (λ (b : Bool). not b && is_out_in v2 new.token) (spent_same new.token) ∙ out_then view sent b.fit b.first new c))

-- what is written
pub frames_then : (view : View) (sent : Sent) (pair : Bound × Position) (s0 s1 : List Server) (one : Server) (token : Option ℕ) (fate : Fate) (dead : List ℕ) (before between after : List ℕ) →
    Begun view sent pair s0 one token → Told view sent pair s0 one fate s1 before between → after ≡ between ++ spellings (closed_for (end_told sent.endpoint fate) dead) →
    ((endpoint : ℕ) → among endpoint dead ≡ among endpoint (deaths_in view sent)) → after ≡ before ++ spellings (frames_in view sent)
frames_then view sent pair s0 s1 one token fate dead before between after b t last same =
    let i = pair.0.server in
    let m = moment_in view pair in
    let o = outcome_in view sent in
    let event : Event = record { entry = serves sent; outcome = o; deaths = dead } in
    let here = frames_here m one.watchers o in
    let on = subst (λ (x : Outcome). IsOn m x) (sym (outcome_is view sent pair b.found)) (sending_on m sent.sending) in
    let closes : closed_for (end_told sent.endpoint fate) dead ≡ close_frames event =
    ap (λ (ns : List ℕ). map close_frame (rising ns)) (sym (others_are_told o sent.endpoint fate dead t.tells)) in
    let all : here ++ close_frames event ≡ frames_in view sent =
    frames_same view one pair event (b.held.each i one b.there) on ∙ (told_by_members view sent (event_in view sent) dead same).written view.trees (bounds_in view) in
    last
    ∙ ap (λ (bytes : List ℕ). bytes ++ spellings (closed_for (end_told sent.endpoint fate) dead)) t.serves.frames
    ∙ append_assoc before (spellings here) (spellings (closed_for (end_told sent.endpoint fate) dead))
    ∙ ap (λ (fs : List Frame). before ++ (spellings here ++ spellings fs)) closes
    ∙ ap (λ (bytes : List ℕ). before ++ bytes) (sym (flat_map-append spelling here (close_frames event)))
    ∙ ap (λ (fs : List Frame). before ++ spellings fs) all
