-- What is looked up behind a serving.
use Rattle.std.proofs.Common.{◌≡◌, ◌≢◌, ℕ, ◌<◌, ◌==◌, ◌⊎◌, Bool, true, false, not, cond, is_some, if◌then◌else◌, List, [], ◌∷◌, ◌++◌, map, filter, find, option_to_list, Option, Some, None, AllPairs, Contains, refl, sym, ap, ◌∙◌, inl, inr, append-nil, arith, drop}
use Rattle.std.specs.Option.{option_map, option_map_or, option_or}
use Rattle.std.proofs.lemmas.Bool.{cases_Bool, eqb-true, eq-eqb, ne_eqb, true≢false}
use Rattle.std.proofs.lemmas.List.Elements.{All-contains, filter-append}
use Rattle.std.proofs.lemmas.List.Folds.{find-append}
use Rattle.link_admission.specs.Numbering.{among}
use Rattle.conn_rules.specs.Births.{Position, fresh}
use Rattle.vfs_journal.specs.Entries.{Sent}
use Rattle.vfs_journal.specs.Fit.{IsFit}
use Rattle.vfs_journal.specs.Outcomes.{Forwarded}
use Rattle.vfs_journal.specs.Starts.{Bound}
use Rattle.vfs_journal.specs.View.{View, at_in, deaths_in, event_in, head_in, is_bound_in, moved, onward_in, onward_sent, others_in, outcome_in, queue_in, sending_in, serving_in}
use Rattle.journal_laws.specs.Behind.{IsBehind, at_behind, onward_to, queue_behind}
use Rattle.journal_laws.proofs.Among.{carrier_travels, one_place}
use Rattle.journal_laws.proofs.Lists.{pairs-head, pairs-tail}
use Rattle.journal_laws.proofs.Members.{contains_here, contains_later, found}
use Rattle.journal_laws.proofs.ViewParts.{find-map, find_agree}

-- ---- endpoints among those that live on

-- of what is named so, what is kept by its name is found where the name is kept
find_kept_by : {X : Type 0} (n : ℕ) (x : X) (m : ℕ) (keeps : ℕ → Bool) (b c : Bool) (rest kept : Option X) → (m == n) ≡ b → keeps m ≡ c → rest ≡ cond (keeps n) kept None →
    (r : List X) (name : X → ℕ) → name x ≡ m → find (λ y. name y == n) r ≡ rest → find (λ y. name y == n) (cond c (x ∷ r) r) ≡ cond (keeps n) (cond b (Some x) kept) None
find_kept_by n x m keeps b true rest kept e f h r name at is = by_test b e where
  here : find (λ y. name y == n) (x ∷ r) ≡ cond b (Some x) rest
  here = ap (λ (k : ℕ). cond (k == n) (Some x) (find (λ y. name y == n) r)) at ∙ ap (λ (t : Bool). cond t (Some x) (find (λ y. name y == n) r)) e ∙ ap (cond b (Some x)) is

  by_test : (t : Bool) → (m == n) ≡ t → find (λ y. name y == n) (x ∷ r) ≡ cond (keeps n) (cond b (Some x) kept) None
  by_test true same = here ∙ ap (λ (t : Bool). cond t (Some x) rest) (sym e ∙ same)
      ∙ sym (ap (λ (k : Bool). cond k (cond b (Some x) kept) None) (ap keeps (sym (eqb-true m n same)) ∙ f) ∙ ap (λ (t : Bool). cond t (Some x) kept) (sym e ∙ same))
  by_test false apart = here ∙ ap (λ (t : Bool). cond t (Some x) rest) (sym e ∙ apart) ∙ h
      ∙ sym (ap (λ (t : Bool). cond (keeps n) (cond t (Some x) kept) None) (sym e ∙ apart))
find_kept_by n x m keeps b false rest kept e f h r name at is = by_test (cases_Bool (m == n)) where
  by_test : ((m == n) ≡ true) ⊎ ((m == n) ≡ false) → find (λ y. name y == n) r ≡ cond (keeps n) (cond b (Some x) kept) None
  by_test (inl same) =
      let gone = ap keeps (sym (eqb-true m n same)) ∙ f in
      is ∙ h ∙ ap (λ (k : Bool). cond k kept None) gone ∙ sym (ap (λ (k : Bool). cond k (cond b (Some x) kept) None) gone)
  by_test (inr apart) = is ∙ h ∙ sym (ap (λ (t : Bool). cond (keeps n) (cond t (Some x) kept) None) (sym e ∙ apart))

pub find_kept : {X : Type 0} (n : ℕ) (keeps : ℕ → Bool) (name : X → ℕ) (xs : List X) → find (λ y. name y == n) (filter (λ y. keeps (name y)) xs) ≡ cond (keeps n) (find (λ y. name y == n) xs) None
find_kept n keeps name [] = by_test (keeps n) where
  by_test : {Y : Type 0} (b : Bool) → ◌≡◌ {A = Option Y} None (cond b None None)
  by_test true = refl
  by_test false = refl
find_kept n keeps name (x ∷ xs) =
    find_kept_by n x (name x) keeps (name x == n) (keeps (name x)) (find (λ y. name y == n) (filter (λ y. keeps (name y)) xs)) (find (λ y. name y == n) xs) refl refl
    (find_kept n keeps name xs) (filter (λ y. keeps (name y)) xs) name refl refl

filter_kept_by : {X : Type 0} (n : ℕ) (x : X) (m : ℕ) (keeps : ℕ → Bool) (b c d : Bool) (r s : List X) → (m == n) ≡ b → keeps m ≡ c → keeps n ≡ d → r ≡ cond d s [] → cond c (cond b (x ∷ r) r) r ≡ cond d (cond b (x ∷ s) s) []
filter_kept_by n x m keeps false true d r s e f g h = h
filter_kept_by n x m keeps false false d r s e f g h = h
filter_kept_by {X} n x m keeps true true true r s e f g h = ap (λ (ys : List X). x ∷ ys) h
filter_kept_by n x m keeps true true false r s e f g h = absurd (true≢false (sym f ∙ ap keeps (eqb-true m n e) ∙ g))
filter_kept_by n x m keeps true false true r s e f g h = absurd (true≢false (sym g ∙ ap keeps (sym (eqb-true m n e)) ∙ f))
filter_kept_by n x m keeps true false false r s e f g h = h

filter_cond : {X : Type 0} (p : X → Bool) (x : X) (c : Bool) (r : List X) → filter p (cond c (x ∷ r) r) ≡ cond c (cond (p x) (x ∷ filter p r) (filter p r)) (filter p r)
filter_cond p x true r = refl
filter_cond p x false r = refl

pub filter_kept : {X : Type 0} (n : ℕ) (keeps : ℕ → Bool) (name : X → ℕ) (xs : List X) → filter (λ y. name y == n) (filter (λ y. keeps (name y)) xs) ≡ cond (keeps n) (filter (λ y. name y == n) xs) []
filter_kept {X} n keeps name [] = by_test (keeps n) where
  by_test : (b : Bool) → ◌≡◌ {A = List X} [] (cond b [] [])
  by_test true = refl
  by_test false = refl
filter_kept n keeps name (x ∷ xs) =
    filter_cond (λ y. name y == n) x (keeps (name x)) (filter (λ y. keeps (name y)) xs)
    ∙ filter_kept_by n x (name x) keeps (name x == n) (keeps (name x)) (keeps n) (filter (λ y. name y == n) (filter (λ y. keeps (name y)) xs)) (filter (λ y. name y == n) xs) refl refl refl
    (filter_kept n keeps name xs)

-- ---- what is bound

moved_name : (k : ℕ) (at : Position) (pair : Bound × Position) → (moved k at pair).0 ≡ pair.0
moved_name k at pair = by_test (pair.0.endpoint == k) where
  by_test : (b : Bool) → (if b then (let one : Bound × Position = (pair.0, at) in one) else pair).0 ≡ pair.0
  by_test true = refl
  by_test false = refl

found_moved : (k : ℕ) (at : Position) (n : ℕ) (living : List (Bound × Position)) → find (λ pair. pair.0.endpoint == n) (map (moved k at) living) ≡ option_map (moved k at) (find (λ pair. pair.0.endpoint == n) living)
found_moved k at n living =
    find-map (λ pair. pair.0.endpoint == n) (moved k at) living
    ∙ ap (option_map (moved k at)) (find_agree (λ pair. (moved k at pair).0.endpoint == n) (λ pair. pair.0.endpoint == n) living (λ pair. ap (λ (b : Bound). b.endpoint == n) (moved_name k at pair)))

found_new : (n : ℕ) (o : Option Bound) → find (λ (pair : Bound × Position). pair.0.endpoint == n) (map (λ (bound : Bound). (bound, fresh)) (option_to_list o))
    ≡ (if option_map_or (λ bound. bound.endpoint == n) o false then option_map (λ (bound : Bound). (bound, fresh)) o else None)
found_new n None = refl
found_new n (Some b) = refl

-- what is bound wasn't bound
at_by : (n : ℕ) (old : Option (Bound × Position)) (o : Option Bound) → (option_map_or (λ bound. bound.endpoint == n) o false ≡ true → old ≡ None) → (b : Bool) → option_map_or (λ bound. bound.endpoint == n) o false ≡ b →
    option_or old (if b then option_map (λ (bound : Bound). (bound, fresh)) o else None) ≡ (if b then option_map (λ (bound : Bound). (bound, fresh)) o else old)
at_by n old o new true e = ap (λ (x : Option (Bound × Position)). option_or x (option_map (λ (bound : Bound). (bound, fresh)) o)) (new e)
at_by n None o new false e = refl
at_by n (Some pair) o new false e = refl

none_mapped : {X Y : Type 0} (f : X → Y) (o : Option X) → is_some o ≡ false → option_map f o ≡ None
none_mapped f None e = refl
none_mapped f (Some x) e = absurd (true≢false e)

new_unbound : (view : View) (sent : Sent) → IsFit view → head_in view sent.endpoint ≡ Some sent → Contains view.waiting sent → (n : ℕ) (o : Option Bound) → (outcome_in view sent).bound ≡ o → option_map_or (λ bound. bound.endpoint == n) o false ≡ true → is_bound_in view n ≡ false
new_unbound view sent fit first waits n None e h = absurd (true≢false (sym h))
new_unbound view sent fit first waits n (Some b) e h =
    ap (is_bound_in view) (sym (eqb-true b.endpoint n h)) ∙ fit.unbound b.endpoint (carrier_travels b.endpoint view.waiting sent waits ((fit.heads sent first).binds b e))

alive_cond : (b : Bool) (x : Option (Bound × Position)) → cond (not b) x None ≡ (if b then None else x)
alive_cond true x = refl
alive_cond false x = refl

at_served : (view : View) (sent : Sent) → IsFit view → head_in view sent.endpoint ≡ Some sent → Contains view.waiting sent → (n : ℕ) → at_in (serving_in view sent (event_in view sent)) n ≡ at_behind view sent n
at_served view sent fit first waits n =
    let o = outcome_in view sent in
    let deaths = deaths_in view sent in
    let old = map (moved sent.endpoint o.position) view.living in
    let new = map (λ (bound : Bound). (bound, fresh)) (option_to_list o.bound) in
    find_kept n (λ m. not (among m deaths)) (λ (pair : Bound × Position). pair.0.endpoint) (old ++ new)
    ∙ ap (λ (x : Option (Bound × Position)). cond (not (among n deaths)) x None)
    (find-append (λ (pair : Bound × Position). pair.0.endpoint == n) old new
    ∙ ap (λ (x : Option (Bound × Position)). option_or x (find (λ pair. pair.0.endpoint == n) new)) (found_moved sent.endpoint o.position n view.living)
    ∙ ap (option_or (option_map (moved sent.endpoint o.position) (at_in view n))) (found_new n o.bound)
    ∙ at_by n (option_map (moved sent.endpoint o.position) (at_in view n)) o.bound
    (λ h. none_mapped (moved sent.endpoint o.position) (at_in view n) (new_unbound view sent fit first waits n o.bound refl h))
    (option_map_or (λ bound. bound.endpoint == n) o.bound false) refl)
    ∙ alive_cond (among n deaths) _

at_onward : (view : View) (sent : Sent) (o : Option Forwarded) (n : ℕ) → at_in (onward_in view sent o) n ≡ at_in view n
at_onward view sent None n = refl
at_onward view sent (Some forward) n = refl

-- ---- what waits

pub filter_members : {X : Type 0} (p q : X → Bool) (xs : List X) → ((x : X) → Contains xs x → p x ≡ true → q x ≡ true) → filter p (filter q xs) ≡ filter p xs
filter_members p q [] same = refl
filter_members {X} p q (x ∷ xs) same =
    filter_cond p x (q x) (filter q xs) ∙ by_tests (p x) (q x) (same x (contains_here x xs)) (filter_members p q xs (λ y c. same y (contains_later y x xs c))) where
      by_tests : (b c : Bool) → (b ≡ true → c ≡ true) → filter p (filter q xs) ≡ filter p xs → cond c (cond b (x ∷ filter p (filter q xs)) (filter p (filter q xs))) (filter p (filter q xs)) ≡ cond b (x ∷ filter p xs) (filter p xs)
      by_tests true true s rest = ap (λ (ys : List X). x ∷ ys) rest
      by_tests true false s rest = absurd (true≢false (sym (s refl)))
      by_tests false true s rest = rest
      by_tests false false s rest = rest

not_eq : (a b : ℕ) → a ≢ b → not (a == b) ≡ true
not_eq a b apart = ap not (ne_eqb a b apart)

-- without its first entry
pub own_queue : (n : ℕ) (sent : Sent) (ones : List Sent) → AllPairs (λ one later. one.place < later.place) ones → find (λ one. one.endpoint == n) ones ≡ Some sent →
    filter (λ one. one.endpoint == n) (filter (λ one. not (one.place == sent.place)) ones) ≡ drop 1 (filter (λ one. one.endpoint == n) ones)
own_queue n sent [] rises h = absurd (cc)
own_queue n sent (one ∷ ones) rises h =
    filter_cond (λ x. x.endpoint == n) one (not (one.place == sent.place)) (filter (λ x. not (x.place == sent.place)) ones)
    ∙ by_test (one.endpoint == n) (one.place == sent.place) refl refl h (own_queue n sent ones (pairs-tail (λ x y. x.place < y.place) one ones rises)) where
      behind : one ≡ sent → filter (λ x. x.endpoint == n) (filter (λ x. not (x.place == sent.place)) ones) ≡ filter (λ x. x.endpoint == n) ones
      behind same =
          filter_members (λ x. x.endpoint == n) (λ x. not (x.place == sent.place)) ones
          (λ x c p. not_eq x.place sent.place (λ e.
          let after : one.place < x.place = All-contains (λ (y : Sent). one.place < y.place) ones x (pairs-head (λ x y. x.place < y.place) one ones rises) c in
          let at = ap (λ (y : Sent). y.place) same in
          omega (arith, after, at, e)))

      by_test : (b c : Bool) → (one.endpoint == n) ≡ b → (one.place == sent.place) ≡ c → cond b (Some one) (find (λ x. x.endpoint == n) ones) ≡ Some sent →
          (find (λ x. x.endpoint == n) ones ≡ Some sent → filter (λ x. x.endpoint == n) (filter (λ x. not (x.place == sent.place)) ones) ≡ drop 1 (filter (λ x. x.endpoint == n) ones)) →
          cond (not c) (cond b (one ∷ filter (λ x. x.endpoint == n) (filter (λ x. not (x.place == sent.place)) ones)) (filter (λ x. x.endpoint == n) (filter (λ x. not (x.place == sent.place)) ones)))
          (filter (λ x. x.endpoint == n) (filter (λ x. not (x.place == sent.place)) ones))
          ≡ drop 1 (cond b (one ∷ filter (λ x. x.endpoint == n) ones) (filter (λ x. x.endpoint == n) ones))
      by_test true true e f g rest = behind (cc)
      by_test true false e f g rest =
          let same : one ≡ sent = cc in
          absurd (true≢false (sym (eq-eqb one.place sent.place (ap (λ (y : Sent). y.place) same)) ∙ f))
      by_test false true e f g rest = rest g
      by_test false false e f g rest = rest g

-- an endpoint that isn't the served one
pub other_queue : (n : ℕ) (sent : Sent) (ones : List Sent) → AllPairs (λ one later. one.place < later.place) ones → Contains ones sent → (sent.endpoint == n) ≡ false →
    filter (λ one. one.endpoint == n) (filter (λ one. not (one.place == sent.place)) ones) ≡ filter (λ one. one.endpoint == n) ones
other_queue n sent ones rises waits apart =
    filter_members (λ one. one.endpoint == n) (λ one. not (one.place == sent.place)) ones
    (λ one c p. not_eq one.place sent.place (λ e.
    let same = one_place ones one sent rises c waits e in
    true≢false (sym p ∙ ap (λ (x : Sent). x.endpoint == n) same ∙ apart)))

pub record IsFirst (view : View) (sent : Sent) : Type 0 where
  pub first : find (λ one. one.endpoint == sent.endpoint) view.waiting ≡ Some sent
  pub waits : Contains view.waiting sent

first_by : (view : View) (sent : Sent) (b : Bool) → (if b then find (λ one. one.endpoint == sent.endpoint) view.waiting else None) ≡ Some sent → IsFirst view sent
first_by view sent true h = record { first = h; waits = (found (λ one. one.endpoint == sent.endpoint) view.waiting sent h).0 }
first_by view sent false h = absurd (cc)

pub is_first : (view : View) (sent : Sent) → head_in view sent.endpoint ≡ Some sent → IsFirst view sent
is_first view sent h = first_by view sent (is_bound_in view sent.endpoint) h

alive_queue : (b : Bool) (x : List Sent) → cond (not b) x [] ≡ (if b then [] else x)
alive_queue true x = refl
alive_queue false x = refl

queue_served : (view : View) (sent : Sent) → IsFit view → IsFirst view sent → (n : ℕ) → queue_in (serving_in view sent (event_in view sent)) n ≡ queue_behind view sent n
queue_served view sent fit first n =
    let deaths = deaths_in view sent in
    filter_kept n (λ m. not (among m deaths)) (λ (one : Sent). one.endpoint) (others_in view sent)
    ∙ alive_queue (among n deaths) (filter (λ one. one.endpoint == n) (others_in view sent))
    ∙ ap (λ (x : List Sent). if among n deaths then [] else x) (by_test (sent.endpoint == n) refl) where
      by_test : (b : Bool) → (sent.endpoint == n) ≡ b → filter (λ one. one.endpoint == n) (others_in view sent) ≡ (if b then drop 1 (queue_in view n) else queue_in view n)
      by_test true e =
          own_queue n sent view.waiting fit.rise (ap (λ (m : ℕ). find (λ one. one.endpoint == m) view.waiting) (sym (eqb-true sent.endpoint n e)) ∙ first.first)
      by_test false e = other_queue n sent view.waiting fit.rise first.waits e

pub queue_sent : (view : View) (new : Sent) (n : ℕ) → queue_in (sending_in view new) n ≡ queue_in view n ++ (if new.endpoint == n then new ∷ [] else [])
queue_sent view new n = filter-append (λ (one : Sent). one.endpoint == n) view.waiting (new ∷ [])

queue_onward : (view : View) (sent : Sent) (o : Option Forwarded) (n : ℕ) →
    queue_in (onward_in view sent o) n ≡ queue_in view n ++ option_map_or (λ forward. if forward.endpoint == n then onward_sent view.places sent forward ∷ [] else []) o []
queue_onward view sent None n = sym (append-nil (queue_in view n))
queue_onward view sent (Some forward) n = queue_sent view (onward_sent view.places sent forward) n

pub is_behind : (view : View) (sent : Sent) → IsFit view → head_in view sent.endpoint ≡ Some sent → IsBehind view sent
is_behind view sent fit h =
    let first = is_first view sent h in
    let mid = serving_in view sent (event_in view sent) in
    let o = (outcome_in view sent).forward in
    record {
      at = λ n. at_onward mid sent o n ∙ at_served view sent fit h first.waits n;
      queue = λ n.
          queue_onward mid sent o n
          ∙ ap (λ (x : List Sent). x ++ onward_to view sent n) (queue_served view sent fit first n);
    }
