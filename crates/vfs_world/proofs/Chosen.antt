-- The oldest of the queues is what is served next.
use Rattle.std.proofs.Common.{◌≡◌, ℕ, ◌≤◌, ◌==◌, Bool, true, false, if◌then◌else◌, cond, is_some, List, [], ◌∷◌, filter, find, Option, Some, None, refl, sym, ap, ◌∙◌, subst}
use Rattle.std.specs.Prelude.{slice_get}
use Rattle.std.specs.Option.{option_map, option_map_or}
use Rattle.std.proofs.lemmas.Bool.{eqb-true, eq-eqb, true≢false}
use Rattle.std.proofs.lemmas.Option.{none-some, same_Some}
use Rattle.conn_rules.specs.Births.{Position}
use Rattle.vfs_journal.specs.Entries.{Sent}
use Rattle.vfs_journal.specs.Fit.{IsFit}
use Rattle.vfs_journal.specs.Starts.{Bound}
use Rattle.vfs_journal.specs.View.{View, at_in, is_bound_in, next_in, oldest_in}
use Rattle.journal_laws.specs.Choosing.{ChoosesLeast, first_on, is_bound_at_in}
use Rattle.journal_laws.proofs.LeastPlaces.{chosen_by_place, first_of_kept}
use Rattle.journal_laws.proofs.Members.{found}
use Rattle.message_queues.specs.Oldest.{IsBound, IsBoundAt, IsOldest, NothingWaits}
use Rattle.message_queues.specs.Queues.{Queues, head_of, server_of}
use Rattle.vfs_world.specs.Holding.{HoldsQueues}

-- ---- where endpoints are bound

bound_at_by : (o : Option (Bound × Position)) (server : ℕ) → option_map (λ pair. pair.0.server) o ≡ Some server → option_map_or (λ pair. pair.0.server == server) o false ≡ true
bound_at_by None server e = absurd (none-some server e)
bound_at_by (Some pair) server e = eq-eqb pair.0.server server (same_Some pair.0.server server e)

at_bound_by : (o : Option (Bound × Position)) (server : ℕ) → option_map_or (λ pair. pair.0.server == server) o false ≡ true → option_map (λ pair. pair.0.server) o ≡ Some server
at_bound_by None server e = absurd (true≢false (sym e))
at_bound_by (Some pair) server e = ap (λ (n : ℕ). Some n) (eqb-true pair.0.server server e)

some_mapped : (o : Option (Bound × Position)) → is_some (option_map (λ pair. pair.0.server) o) ≡ is_some o
some_mapped None = refl
some_mapped (Some pair) = refl

-- ---- what is chosen

pub on_endpoint : (view : View) (endpoint : ℕ) (sent : Sent) → first_on view endpoint ≡ Some sent → sent.endpoint ≡ endpoint
on_endpoint view endpoint sent e =
    eqb-true sent.endpoint endpoint (found (λ (one : Sent). one.endpoint == endpoint) view.waiting sent (sym (first_of_kept (λ (one : Sent). one.endpoint == endpoint) view.waiting) ∙ e)).1

pub head_is : (view : View) (queues : Queues) (endpoint : ℕ) → HoldsQueues view queues → head_of queues endpoint ≡ first_on view endpoint
head_is view queues endpoint h = ap (λ (q : List Sent). slice_get q 0) (h.queue endpoint)

chosen_is : (view : View) (queues : Queues) (passes : ℕ → Bool) (These : ℕ → Type 0) (chosen : Option Sent) (endpoint : ℕ) (sent : Sent) → HoldsQueues view queues → ChoosesLeast view passes chosen →
    ((n : ℕ) → These n → passes n ≡ true) → ((n : ℕ) → passes n ≡ true → These n) → IsOldest queues These endpoint → head_of queues endpoint ≡ Some sent → chosen ≡ Some sent
chosen_is view queues passes These chosen endpoint sent h chooses to from oldest waits =
    let first : first_on view endpoint ≡ Some sent = sym (head_is view queues endpoint h) ∙ waits in
    let on = on_endpoint view endpoint sent first in
    let same : oldest.sent ≡ sent = same_Some oldest.sent sent (sym oldest.waits ∙ waits) in
    chooses.some sent
    (record {
      passing = ap passes on ∙ to endpoint oldest.one_of;
      first = ap (first_on view) on ∙ first;
      least = λ other later p e.
          subst (λ (x : Sent). x.place ≤ later.place) same (oldest.least other later (from other p) (head_is view queues other h ∙ e));
    })

none_is : (view : View) (queues : Queues) (passes : ℕ → Bool) (These : ℕ → Type 0) (chosen : Option Sent) → HoldsQueues view queues → ChoosesLeast view passes chosen → ((n : ℕ) → passes n ≡ true → These n) → NothingWaits queues These → chosen ≡ None
none_is view queues passes These chosen h chooses from none = chooses.none (λ n p. sym (h.queue n) ∙ none n (from n p))

pub oldest_is : (view : View) (queues : Queues) (server endpoint : ℕ) (sent : Sent) → IsFit view → HoldsQueues view queues → IsOldest queues (IsBoundAt queues server) endpoint → head_of queues endpoint ≡ Some sent → oldest_in view server ≡ Some sent
oldest_is view queues server endpoint sent fit h oldest waits =
    chosen_is view queues (is_bound_at_in view server) (IsBoundAt queues server) (oldest_in view server) endpoint sent h ((chosen_by_place view fit).oldest server)
    (λ n b. bound_at_by (at_in view n) server (sym (h.bound n) ∙ b)) (λ n p. h.bound n ∙ at_bound_by (at_in view n) server p) oldest waits

pub none_oldest : (view : View) (queues : Queues) (server : ℕ) → IsFit view → HoldsQueues view queues → NothingWaits queues (IsBoundAt queues server) → oldest_in view server ≡ None
none_oldest view queues server fit h none =
    none_is view queues (is_bound_at_in view server) (IsBoundAt queues server) (oldest_in view server) h ((chosen_by_place view fit).oldest server) (λ n p. h.bound n ∙ at_bound_by (at_in view n) server p) none

-- where none is found among what waits, nothing waits on an endpoint that passes
none_kept : (passes : ℕ → Bool) (endpoint : ℕ) → passes endpoint ≡ true → (waiting : List Sent) → find (λ sent. passes sent.endpoint) waiting ≡ None → filter (λ sent. sent.endpoint == endpoint) waiting ≡ []
none_kept passes endpoint p [] none = refl
none_kept passes endpoint p (sent ∷ waiting) none = by_test (none_kept passes endpoint p waiting) (passes sent.endpoint) (sent.endpoint == endpoint) refl refl none where
  by_test : (find (λ one. passes one.endpoint) waiting ≡ None → filter (λ one. one.endpoint == endpoint) waiting ≡ []) → (b : Bool) (on : Bool) → passes sent.endpoint ≡ b → (sent.endpoint == endpoint) ≡ on → cond b (Some sent) (find (λ one. passes one.endpoint) waiting) ≡ None →
      cond on (sent ∷ filter (λ one. one.endpoint == endpoint) waiting) (filter (λ one. one.endpoint == endpoint) waiting) ≡ []
  by_test rest true on e f g = absurd (none-some sent (sym g))
  by_test rest false true e f g = absurd (true≢false (sym p ∙ sym (ap passes (eqb-true sent.endpoint endpoint f)) ∙ e))
  by_test rest false false e f g = rest g

pub waits_none : (view : View) (queues : Queues) (server : ℕ) → HoldsQueues view queues → oldest_in view server ≡ None → NothingWaits queues (IsBoundAt queues server)
waits_none view queues server h none endpoint bound =
    h.queue endpoint ∙ none_kept (is_bound_at_in view server) endpoint (bound_at_by (at_in view endpoint) server (sym (h.bound endpoint) ∙ bound)) view.waiting none

pub next_is : (view : View) (queues : Queues) (endpoint : ℕ) (sent : Sent) → IsFit view → HoldsQueues view queues → IsOldest queues (IsBound queues) endpoint → head_of queues endpoint ≡ Some sent → next_in view ≡ Some sent
next_is view queues endpoint sent fit h oldest waits =
    chosen_is view queues (is_bound_in view) (IsBound queues) (next_in view) endpoint sent h (chosen_by_place view fit).next
    (λ n b. sym (some_mapped (at_in view n)) ∙ sym (ap is_some (h.bound n)) ∙ b) (λ n p. ap is_some (h.bound n) ∙ some_mapped (at_in view n) ∙ p) oldest waits

pub none_next : (view : View) (queues : Queues) → IsFit view → HoldsQueues view queues → NothingWaits queues (IsBound queues) → next_in view ≡ None
none_next view queues fit h none =
    none_is view queues (is_bound_in view) (IsBound queues) (next_in view) h (chosen_by_place view fit).next (λ n p. ap is_some (h.bound n) ∙ some_mapped (at_in view n) ∙ p) none

-- ---- an endpoint on which nothing is served

pub unbound_in : (view : View) (queues : Queues) (endpoint : ℕ) → HoldsQueues view queues → server_of queues endpoint ≡ None → is_bound_in view endpoint ≡ false
unbound_in view queues endpoint h none = sym (some_mapped (at_in view endpoint)) ∙ sym (ap is_some (h.bound endpoint)) ∙ ap is_some none

pub either_none : (b : Bool) → ◌≡◌ {A = Option Sent} (if b then None else None) None
either_none true = refl
either_none false = refl
