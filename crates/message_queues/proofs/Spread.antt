-- Who dies with the first ones, as it is found.
use Rattle.std.proofs.Common.{◌≡◌, ◌≢◌, ℕ, zero, suc, ◌+◌, ◌<◌, ◌≤◌, Bool, true, false, cond, List, [], ◌∷◌, ◌++◌, get_or, length, take, refl, sym, ap, ◌∙◌, subst, arith, length-append}
use Rattle.std.specs.Prelude.{◌||◌, ◌==◌, All, AllPairs, OnOk, Some, None, Result, Ok, Err, if◌then◌else◌, filter, flat_map, slice_get}
use Rattle.std.proofs.lemmas.Bool.Decides.{nat_tests}
use Rattle.std.proofs.lemmas.List.Elements.{All-cons, All-head, All-tail, All-nil, filter_more}
use Rattle.std.proofs.Math.ListN.{get_or-map, length-map}
use Rattle.std.proofs.lemmas.List.{take_more}
use Rattle.fidl_names.specs.declared.methods.Handle.{Handle}
use Rattle.fidl_names.specs.HandleNumber.{number_of_handle}
use Rattle.link_admission.specs.Numbering.{among}
use Rattle.vfs_journal.specs.Entries.{Sent, endpoints_in}
use Rattle.vfs_journal.specs.Handles.{numbers_of}
use Rattle.message_queues.specs.Queues.{Queues, queue_of}
use Rattle.message_queues.specs.Dying.{AreDeaths, HasAll, IsClosed}
use Rattle.message_queues.specs.Steps.{Adds}
use Rattle.message_queues.proofs.Numbers.{among-append, among-one, either, itself, same_number}

-- ---- additions

pub append_nil : (xs : List ℕ) → xs ++ [] ≡ xs
append_nil [] = refl
append_nil (x ∷ xs) = ap (λ (ys : List ℕ). x ∷ ys) (append_nil xs)

pub append_both : (xs ys zs : List ℕ) → (xs ++ ys) ++ zs ≡ xs ++ (ys ++ zs)
append_both [] ys zs = refl
append_both (x ∷ xs) ys zs = ap (λ (ws : List ℕ). x ∷ ws) (append_both xs ys zs)

or_none : (a : Bool) → a ≡ (a || false)
or_none true = refl
or_none false = refl

or_three : (a b c : Bool) → ((a || b) || c) ≡ (a || (b || c))
or_three true b c = refl
or_three false b c = refl

or_has : (a b : Bool) → (b ≡ true → a ≡ true) → a ≡ (a || b)
or_has true b h = refl
or_has false true h = absurd (let wrong : false ≡ true = h refl in cc)
or_has false false h = refl

pub adds_none : (old : List ℕ) → Adds [] old old
adds_none old = record { behind = ([], sym (append_nil old)); members = λ number. or_none (among number old) }

pub adds_one : (old new : List ℕ) (number : ℕ) → new ≡ (if among number old then old else old ++ number ∷ []) → Adds (number ∷ []) old new
adds_one old new number is = by_test (among number old) refl is
  where
    by_test : (b : Bool) → among number old ≡ b → new ≡ (if b then old else old ++ number ∷ []) → Adds (number ∷ []) old new
    by_test true there e = record {
      behind = ([], e ∙ sym (append_nil old));
      members = λ other. ap (among other) e ∙ or_has (among other old) (among other (number ∷ [])) (λ h.
          let it : number ≡ other = same_number other number (sym (among-one other number) ∙ h) in
          ap (λ (n : ℕ). among n old) (sym it) ∙ there);
    }
    by_test false there e = record { behind = (number ∷ [], e); members = λ other. ap (among other) e ∙ among-append other old (number ∷ []) }

pub adds_more : (ms ns old mid new : List ℕ) → Adds ms old mid → Adds ns mid new → Adds (ms ++ ns) old new
adds_more ms ns old mid new one two = record {
  behind = (one.behind.0 ++ two.behind.0, two.behind.1 ∙ ap (λ (xs : List ℕ). xs ++ two.behind.0) one.behind.1 ∙ append_both old one.behind.0 two.behind.0);
  members = λ number.
      two.members number
      ∙ ap (λ (b : Bool). b || among number ns) (one.members number)
      ∙ or_three (among number old) (among number ms) (among number ns)
      ∙ ap (λ (b : Bool). among number old || b) (sym (among-append number ms ns));
}

pub adds_skip : (ms old new : List ℕ) → Adds ms old new → Adds (ms ++ []) old new
adds_skip ms old new adds = subst (λ (ns : List ℕ). Adds ns old new) (sym (append_nil ms)) adds

-- one more of a list was added
pub adds_step : (xs : List ℕ) (i : ℕ) (old mid new : List ℕ) → i < length xs → Adds (take i xs) old mid
    → new ≡ (if among (get_or xs i 0) mid then mid else mid ++ get_or xs i 0 ∷ []) → Adds (take (i + 1) xs) old new
adds_step xs i old mid new low before is =
    subst (λ (ns : List ℕ). Adds ns old new) (sym (take_more xs i 0 low)) (adds_more (take i xs) (get_or xs i 0 ∷ []) old mid new before (adds_one mid new (get_or xs i 0) is))

-- one more that passes a test, and one that doesn't
module _ (test : ℕ → Bool) (handles : List Handle) (i number : ℕ) (handle : Handle) (low : i < length handles) (is : number ≡ number_of_handle (get_or handles i handle)) where
  pub numbers_more : filter test (take (i + 1) (numbers_of handles)) ≡ filter test (take i (numbers_of handles)) ++ cond (test number) (number ∷ []) []
  numbers_more =
      let below : i < length (numbers_of handles) = omega (arith, length-map handles number_of_handle) in
      let it : get_or (numbers_of handles) i (number_of_handle handle) ≡ number = get_or-map number_of_handle handles i handle ∙ sym is in
      filter_more test (numbers_of handles) i (number_of_handle handle) below
      ∙ ap (λ (n : ℕ). filter test (take i (numbers_of handles)) ++ cond (test n) (n ∷ []) []) it

  pub adds_passed : (old mid new : List ℕ) → test number ≡ true → Adds (filter test (take i (numbers_of handles))) old mid
      → new ≡ (if among number mid then mid else mid ++ number ∷ []) → Adds (filter test (take (i + 1) (numbers_of handles))) old new
  adds_passed old mid new passes before now =
      subst (λ (ns : List ℕ). Adds ns old new) (sym (numbers_more ∙ ap (λ (b : Bool). filter test (take i (numbers_of handles)) ++ cond b (number ∷ []) []) passes))
      (adds_more (filter test (take i (numbers_of handles))) (number ∷ []) old mid new before (adds_one mid new number now))

  pub adds_failed : (old mid : List ℕ) → test number ≡ false → Adds (filter test (take i (numbers_of handles))) old mid → Adds (filter test (take (i + 1) (numbers_of handles))) old mid
  adds_failed old mid fails before =
      subst (λ (ns : List ℕ). Adds ns old mid) (sym (numbers_more ∙ ap (λ (b : Bool). filter test (take i (numbers_of handles)) ++ cond b (number ∷ []) []) fails))
      (adds_skip (filter test (take i (numbers_of handles))) old mid before)

-- ---- places of a list

pub place_below : (xs : List ℕ) (i x : ℕ) → slice_get xs i ≡ Some x → i < length xs
place_below [] i x h = absurd (cc)
place_below (y ∷ xs) zero x h = omega arith
place_below (y ∷ xs) (suc i) x h = let low = place_below xs i x h in omega arith

place_among : (xs : List ℕ) (i x : ℕ) → slice_get xs i ≡ Some x → among x xs ≡ true
place_among [] i x h = absurd (cc)
place_among (y ∷ xs) zero x h =
    let is : y ≡ x = cc in ap (λ (z : ℕ). (z == x) || among x xs) is ∙ ap (λ (b : Bool). b || among x xs) (itself x)
place_among (y ∷ xs) (suc i) x h = ap (λ (b : Bool). (y == x) || b) (place_among xs i x h) ∙ or_one (y == x)
  where
    or_one : (a : Bool) → (a || true) ≡ true
    or_one true = refl
    or_one false = refl

place_front : (y x : ℕ) (xs : List ℕ) (b : Bool) → (y == x) ≡ b → (b ≡ false → (i : ℕ) × (slice_get xs i ≡ Some x)) → (i : ℕ) × (slice_get (y ∷ xs) i ≡ Some x)
place_front y x xs true e later = (zero, ap Some (same_number x y e))
place_front y x xs false e later = let at = later refl in (suc at.0, at.1)

pub among_place : (xs : List ℕ) (x : ℕ) → among x xs ≡ true → (i : ℕ) × (slice_get xs i ≡ Some x)
among_place [] x h = absurd (cc)
among_place (y ∷ xs) x h = place_front y x xs (y == x) refl (λ e. among_place xs x (either (y == x) (among x xs) h e))

pub place_append : (xs ys : List ℕ) (i : ℕ) → i < length xs → slice_get (xs ++ ys) i ≡ slice_get xs i
place_append [] ys i low = absurd (omega arith)
place_append (x ∷ xs) ys zero low = refl
place_append (x ∷ xs) ys (suc i) low = place_append xs ys i (omega arith)

pub beyond : (xs : List ℕ) (i : ℕ) → slice_get xs i ≡ None → length xs ≤ i
beyond [] i h = omega arith
beyond (x ∷ xs) zero h = absurd (cc)
beyond (x ∷ xs) (suc i) h = let low = beyond xs i h in omega arith

-- ---- what entries carry

or_first : (a b : Bool) → a ≡ true → (a || b) ≡ true
or_first true b h = refl
or_first false b h = absurd (cc)

or_second : (a b : Bool) → b ≡ true → (a || b) ≡ true
or_second true b h = refl
or_second false b h = h

all_from_flat : (set : ℕ → Bool) (queue : List Sent) → HasAll set (flat_map endpoints_in queue) → All (λ sent. HasAll set (endpoints_in sent)) queue
all_from_flat set [] has = All-nil (λ (sent : Sent). HasAll set (endpoints_in sent))
all_from_flat set (sent ∷ queue) has = All-cons (λ (s : Sent). HasAll set (endpoints_in s)) sent queue
    (λ number there. has number (among-append number (endpoints_in sent) (flat_map endpoints_in queue) ∙ or_first _ _ there))
    (all_from_flat set queue (λ number there. has number (among-append number (endpoints_in sent) (flat_map endpoints_in queue) ∙ or_second _ _ there)))

flat_from_all : (set : ℕ → Bool) (queue : List Sent) → All (λ sent. HasAll set (endpoints_in sent)) queue → HasAll set (flat_map endpoints_in queue)
flat_from_all set [] all number there = absurd (cc)
flat_from_all set (sent ∷ queue) all number there =
    let both = sym (among-append number (endpoints_in sent) (flat_map endpoints_in queue)) ∙ there in
    elim (among number (endpoints_in sent)) as (λ b. among number (endpoints_in sent) ≡ b → set number ≡ true) [
      | true ↦ λ e. All-head (λ (s : Sent). HasAll set (endpoints_in s)) sent queue all number e
      | false ↦ λ e. flat_from_all set queue (All-tail (λ (s : Sent). HasAll set (endpoints_in s)) sent queue all) number (either _ _ both e)
    ] refl

lower : (i n : ℕ) → i < n + 1 → (i == n) ≡ false → i < n
lower i n low apart = grind (arith, nat_tests)

-- ---- the work list

-- so far who dies was found: what waits on the first so many of them carries no other endpoint
pub record IsSpread (queues : Queues) (firsts found : List ℕ) (done : ℕ) : Type 0 where
  pub first : HasAll (λ endpoint. among endpoint found) firsts
  pub closed : (index endpoint : ℕ) → index < done → slice_get found index ≡ Some endpoint →
      HasAll (λ other. among other found) (flat_map endpoints_in (queue_of queues endpoint))
  pub least : (set : ℕ → Bool) → HasAll set firsts → IsClosed queues set → HasAll set found
  pub within : done ≤ length found

pub spread_first : (q : Queues) (firsts found : List ℕ) → Adds firsts [] found → IsSpread q firsts found 0
spread_first q firsts found adds = record {
  first = λ number there. adds.members number ∙ there;
  closed = λ index endpoint low there. absurd (omega arith);
  least = λ set has closed number there. has number (sym (adds.members number) ∙ there);
  within = omega arith;
}

module _ (q : Queues) (firsts found new : List ℕ) (done endpoint : ℕ) (spread : IsSpread q firsts found done) (at : slice_get found done ≡ Some endpoint) (adds : Adds (flat_map endpoints_in (queue_of q endpoint)) found new) where
  still : (number : ℕ) → among number found ≡ true → among number new ≡ true
  still number there = adds.members number ∙ or_first _ _ there

  same_place : (index : ℕ) → index < length found → slice_get new index ≡ slice_get found index
  same_place index low = ap (λ (xs : List ℕ). slice_get xs index) adds.behind.1 ∙ place_append found adds.behind.0 index low

  spread_closed : (index other : ℕ) → index < done + 1 → slice_get new index ≡ Some other → HasAll (λ number. among number new) (flat_map endpoints_in (queue_of q other))
  spread_closed index other low there number carried =
      let last = place_below found done endpoint at in
      let was : slice_get found index ≡ Some other = sym (same_place index (omega arith)) ∙ there in
      elim (index == done) as (λ b. (index == done) ≡ b → among number new ≡ true) [
        | true ↦ λ e. let i : index ≡ done = same_number done index e in
            let is : Some other ≡ Some endpoint = sym was ∙ ap (slice_get found) i ∙ at in
            let it : other ≡ endpoint = cc in
            adds.members number ∙ or_second _ _ (ap (λ (x : ℕ). among number (flat_map endpoints_in (queue_of q x))) (sym it) ∙ carried)
        | false ↦ λ e. still number (spread.closed index other (lower index done low e) was number carried)
      ] refl

  spread_least : (set : ℕ → Bool) → HasAll set firsts → IsClosed q set → HasAll set new
  spread_least set has closed number there =
      let both = sym (adds.members number) ∙ there in
      let dies : set endpoint ≡ true = spread.least set has closed endpoint (place_among found done endpoint at) in
      elim (among number found) as (λ b. among number found ≡ b → set number ≡ true) [
        | true ↦ λ e. spread.least set has closed number e
        | false ↦ λ e. flat_from_all set (queue_of q endpoint) (closed endpoint dies) number (either _ _ both e)
      ] refl

  pub spread_more : IsSpread q firsts new (done + 1)
  spread_more = record {
    first = λ number there. still number (spread.first number there);
    closed = spread_closed;
    least = spread_least;
    within = let last = place_below found done endpoint at in let longer = ap length adds.behind.1 in omega (arith, longer, length-append found adds.behind.0);
  }

pub spread_all : (q : Queues) (firsts found : List ℕ) (done : ℕ) → IsSpread q firsts found done → slice_get found done ≡ None → IsClosed q (λ endpoint. among endpoint found)
spread_all q firsts found done spread none endpoint there =
    let at = among_place found endpoint there in
    let low = place_below found at.0 endpoint at.1 in
    let end = beyond found done none in
    all_from_flat (λ other. among other found) (queue_of q endpoint) (spread.closed at.0 endpoint (omega arith) at.1)

pub on_ok_more : {A E P Q : Type 0} (r : Result A E) → (P → Q) → OnOk r P → OnOk r Q
on_ok_more (Ok v) more p = more p
on_ok_more (Err e) more p = tt

pub spread_deaths : (q : Queues) (firsts found dead : List ℕ) (done : ℕ) → IsSpread q firsts found done → slice_get found done ≡ None → dead ≡ found → AllPairs (λ one other. one ≢ other) dead → AreDeaths q firsts dead
spread_deaths q firsts found dead done spread none is once =
    let P : List ℕ → Type 0 = λ (ns : List ℕ). AllPairs (λ one other. one ≢ other) ns → AreDeaths q firsts ns in
    subst P (sym is) (λ each. record { first = spread.first; closed = spread_all q firsts found done spread none; least = spread.least; once = each }) once

-- where nothing waits nobody else dies
pub idle_deaths : (q : Queues) (firsts dead : List ℕ) → ((endpoint : ℕ) → queue_of q endpoint ≡ []) → Adds firsts [] dead → AllPairs (λ one other. one ≢ other) dead → AreDeaths q firsts dead
idle_deaths q firsts dead idle adds once = record {
  first = λ number there. adds.members number ∙ there;
  closed = λ endpoint there. subst (λ (queue : List Sent). All (λ sent. HasAll (λ other. among other dead) (endpoints_in sent)) queue) (sym (idle endpoint)) (All-nil _);
  least = λ set has closed number there. has number (sym (adds.members number) ∙ there);
  once = once;
}
