-- What the serving of an entry at its server says.
use Rattle.std.proofs.Common.{◌≡◌, ℕ, zero, suc, List, [], ◌∷◌, ◌==◌, if◌then◌else◌, cond, find, Bool, true, false, Option, Some, None, IsSome, Result, Ok, Err, IfOk, set, append-nil, refl, sym, ap, ◌∙◌, subst, arith}
use Rattle.std.specs.FinMap as finite
use Rattle.std.specs.Prelude.{slice_get}
use Rattle.std.specs.Option.{option_map}
use Rattle.std.specs.Result.{OnErr, OnOk}
use Rattle.std.proofs.lemmas.Bool.{eqb-true}
use Rattle.std.proofs.lemmas.Option.{none-some, same_Some}
use Rattle.fidl_names.specs.declared.memory.NoMemory.{NoMemory}
use Rattle.conn_rules.specs.Births.{Connection, Position, fresh}
use Rattle.vfs_journal.specs.Entries.{Sending, Sent, handles_of, hang_up, message}
use Rattle.vfs_journal.specs.Outcomes.{Outcome}
use Rattle.vfs_journal.specs.Output.{Begins}
use Rattle.vfs_journal.specs.Serving.{Moment, outcome_of_sending}
use Rattle.vfs_journal.specs.Starts.{Bound}
use Rattle.vfs_journal.specs.View.{moved}
use Rattle.vfs_server.specs.declared.fate.Fate.{Fate}
use Rattle.vfs_server.specs.declared.fate.Fate.TheVariants as fates
use Rattle.vfs_server.specs.Servers.{Server, connected, seen, seen_as}
use Rattle.vfs_server.specs.Serving.{CanTake, IsMomentOf, Serves}
use Rattle.vfs_world.specs.ServingSteps.{Answers}

pub set_same : {X : Type 0} (xs : List X) (i : ℕ) (x : X) → slice_get xs i ≡ Some x → xs ≡ set xs i x
set_same [] i x e = absurd (cc)
set_same {X} (y ∷ xs) zero x e = ap (λ (z : X). z ∷ xs) (same_Some y x e)
set_same {X} (y ∷ xs) (suc i) x e = ap (λ (zs : List X). y ∷ zs) (set_same xs i x e)

pub some_is : {X : Type 0} (o : Option X) (x : X) → o ≡ Some x → IsSome o
some_is o x e = subst IsSome (sym e) refl

-- what is so where a call is done
pub if_ok : {T E P Q : Type 0} (r : Result T E) → (P → Q) → OnOk r P → OnOk r Q
if_ok (Ok x) f h = f h
if_ok (Err e) f h = h

-- ---- a message

-- the next token as it is told, and the handles of the message
pub can_take : (one : Server) (endpoint : ℕ) (token next : Option ℕ) (sending : Sending) (bytes handles : List ℕ) → CanTake one endpoint next (handles_of sending) → token ≡ next → sending ≡ message bytes handles → CanTake one endpoint token handles
can_take one endpoint token next sending bytes handles can same is =
    subst (λ (t : Option ℕ). CanTake one endpoint t handles) (sym same) (subst (λ (s : Sending). CanTake one endpoint next (handles_of s)) is can)

pub served_answers : (servers : List Server) (at endpoint : ℕ) (token next : Option ℕ) (sent : Sent) (one now : Server) (before after : List ℕ) (r : Result Fate NoMemory) (sending : Sending) → slice_get servers at ≡ Some one →
    sent.sending ≡ sending → next ≡ token →
    ((moment : Moment) → IsMomentOf one endpoint next (handles_of sending) moment → IfOk r (λ fate. Serves moment (outcome_of_sending moment sending) fate one now before after)) →
    IfOk r (λ fate. Answers servers at endpoint token sent fate (set servers at now) before after)
served_answers servers at endpoint token next sent one now before after (Err fault) sending there is same serves = tt
served_answers servers at endpoint token next sent one now before after (Ok fate) sending there is same serves =
    λ other moment found moment_of. (
      now,
      refl,
      subst (λ (x : Sending). Serves moment (outcome_of_sending moment x) fate other now before after) (sym is)
          (subst (λ (x : Server). IsMomentOf x endpoint token (handles_of sent.sending) moment → Serves moment (outcome_of_sending moment sending) fate x now before after) (same_Some one other (sym there ∙ found))
          (λ m. serves moment (subst (λ (t : Option ℕ). IsMomentOf one endpoint t (handles_of sending) moment) (sym same) (subst (λ (x : Sending). IsMomentOf one endpoint token (handles_of x) moment) is m))) moment_of),
    )

pub begins_by : (one now : Server) (moment : Moment) (o : Outcome) (before after : List ℕ) (r : Result Fate NoMemory) → IfOk r (λ fate. Serves moment o fate one now before after) → OnErr r (after ≡ before) → Begins before after
begins_by one now moment o before after (Ok fate) serves same = (_, serves.frames)
begins_by one now moment o before after (Err fault) serves same = ([], same ∙ sym (append-nil before))

-- ---- a hang-up

watcher_name : (n : ℕ) (ws : List Bound) (b : Bound) → find (λ bound. bound.endpoint == n) ws ≡ Some b → b.endpoint ≡ n
watcher_name n [] b e = absurd (none-some b e)
watcher_name n (w ∷ ws) b e = by_test (w.endpoint == n) refl e (watcher_name n ws b) where
  by_test : (t : Bool) → (w.endpoint == n) ≡ t → cond t (Some w) (find (λ bound. bound.endpoint == n) ws) ≡ Some b → (find (λ bound. bound.endpoint == n) ws ≡ Some b → b.endpoint ≡ n) → b.endpoint ≡ n
  by_test true f g rest = ap (λ (x : Bound). x.endpoint) (sym (same_Some w b g)) ∙ eqb-true w.endpoint n f
  by_test false f g rest = rest g

watched_name : (n : ℕ) (o : Option Bound) (pair : Bound × Position) → ((b : Bound) → o ≡ Some b → b.endpoint ≡ n) → option_map (λ (b : Bound). (b, fresh)) o ≡ Some pair → pair.0.endpoint ≡ n
watched_name n None pair named e = absurd (none-some pair e)
watched_name n (Some b) pair named e = ap (λ (p : Bound × Position). p.0.endpoint) (sym (same_Some (b, fresh) pair e)) ∙ named b refl

seen_name : (one : Server) (n : ℕ) (pair : Bound × Position) → seen one n ≡ Some pair → pair.0.endpoint ≡ n
seen_name one n pair e = by_found (finite.get one.connections n) e where
  by_found : (o : Option Connection) → seen_as one.index one.watchers n o ≡ Some pair → pair.0.endpoint ≡ n
  by_found (Some connection) h = ap (λ (p : Bound × Position). p.0.endpoint) (sym (same_Some (connected one.index n connection) pair h))
  by_found None h = watched_name n (find (λ bound. bound.endpoint == n) one.watchers) pair (watcher_name n one.watchers) h

hangs_up : (one : Server) (endpoint : ℕ) (token : Option ℕ) (handles : List ℕ) (moment : Moment) (before : List ℕ) → IsMomentOf one endpoint token handles moment →
    Serves moment (outcome_of_sending moment hang_up) fates.Ends one one before before
unfolding outcome_of_sending
hangs_up one endpoint token handles moment before m = record {
  frames = sym (append-nil before);
  tells = refl;
  index = refl;
  bound = λ n. by_seen n (seen one n) refl;
  count = omega arith;
  watchers = refl;
  tokens = λ token. refl;
  tree = λ tree stands. stands;
  holds = λ number. omega arith;
  here = λ bound e. absurd (cc);
  given = λ given e. absurd (cc);
  mounted = λ mount object flags rest e. absurd (cc);
} where
  same : moment.bound.endpoint ≡ endpoint
  same = seen_name one endpoint (moment.bound, moment.position) m.bound

  by_seen : (n : ℕ) (o : Option (Bound × Position)) → seen one n ≡ o → o ≡ option_map (moved moment.bound.endpoint moment.position) o
  by_seen n None e = refl
  by_seen n (Some pair) e = ap (λ (p : Bound × Position). Some p) (sym (by_test (pair.0.endpoint == moment.bound.endpoint) refl)) where
    by_test : (t : Bool) → (pair.0.endpoint == moment.bound.endpoint) ≡ t → (if t then (let p : Bound × Position = (pair.0, moment.position) in p) else pair) ≡ pair
    by_test false f = refl
    by_test true f =
        let here : n ≡ endpoint = sym (seen_name one n pair e) ∙ eqb-true pair.0.endpoint moment.bound.endpoint f ∙ same in
        let also : pair ≡ (moment.bound, moment.position) = same_Some pair (moment.bound, moment.position) (sym e ∙ ap (seen one) here ∙ m.bound) in
        ap (λ (p : Bound × Position). let q : Bound × Position = (pair.0, p.1) in q) (sym also)

pub hang_up_answers : (servers : List Server) (at endpoint : ℕ) (token : Option ℕ) (sent : Sent) (before : List ℕ) → sent.sending ≡ hang_up → Answers servers at endpoint token sent fates.Ends servers before before
hang_up_answers servers at endpoint token sent before is =
    λ one moment there m. (
      one,
      set_same servers at one there,
      subst (λ (x : Sending). Serves moment (outcome_of_sending moment x) fates.Ends one one before before) (sym is) (hangs_up one endpoint token (handles_of sent.sending) moment before m),
    )
