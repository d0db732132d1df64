-- The watchers of each directory, behind a change of those of one.
use Rattle.std.proofs.Common.{◌≡◌, ◌≤◌, ℕ, Bool, true, false, cond, not, ◌==◌, List, [], ◌∷◌, ◌++◌, length, Option, Some, None, refl, sym, ap, subst, ◌∙◌, arith, length-append}
use Rattle.std.specs.Prelude.{◌+◌, ◌<◌, if◌then◌else◌, Result, Ok, Err, OnOk, OnErr}
use Rattle.std.specs.BTreeMap.{BTreeMap, UpdatesBy, WritesThrough, is_at, get}
use Rattle.std.specs.Cmp.{nat_cmp_total, tied_itself}
use Rattle.std.specs.FinMap as finite
use Rattle.std.specs.FinMap.Entries as entry
use Rattle.std.specs.Map.{lookup, set_value}
use Rattle.std.specs.Option.{option_map_or}
use Rattle.std.specs.Ordering.{is_eq, nat_cmp}
use Rattle.std.specs.declared.cmp.Ordering.{Ordering}
use Rattle.std.specs.declared.cmp.Ordering.TheVariants.{Less, Equal, Greater}
use Rattle.std.proofs.lemmas.Bool.{eq-eqb, eqb-true}
use Rattle.std.proofs.lemmas.List.{nil_from_length}
use Rattle.std.proofs.lemmas.List.Sums.{count_by-le-length, length-filter}
use Rattle.std.proofs.lemmas.Map.Steps.{set_value_same}
use Rattle.fidl_names.specs.declared.limits.TheConstants as limit
use Rattle.watch_events.specs.Messages.{Watcher}
use Rattle.watch_events.specs.Watching.{Adds, Removes, Watching, watchers_of}
use Rattle.watch_events.specs.Rows.{AreKept, watching_of}
use Rattle.watch_events.proofs.Registered.{without}

abbrev pub Rows : Type 0
Rows = BTreeMap ℕ (List Watcher)

-- ---- what is found

abbrev pub row_in : Option (List Watcher) → List Watcher
row_in row = option_map_or (λ watchers. watchers) row []

find_lookup : {V : Type 0} (es : List (ℕ × V)) (q : ℕ) → entry.find nat_cmp q es ≡ lookup (is_at (nat_cmp q)) es
find_lookup [] q = refl
find_lookup (e ∷ es) q = ap (cond (is_eq (nat_cmp q e.0)) (Some e.1)) (find_lookup es q)

pub found : (rows : Rows) (directory : ℕ) → finite.get (watching_of rows) directory ≡ get nat_cmp rows directory
unfolding watching_of
found rows directory = finite.get-from_entries nat_cmp_total rows.entries directory ∙ find_lookup rows.entries directory

pub row_found : (rows : Rows) (directory : ℕ) (row : Option (List Watcher)) → get nat_cmp rows directory ≡ row → watchers_of (watching_of rows) directory ≡ row_in row
row_found rows directory row is = ap row_in (found rows directory ∙ is)

pub row_seen : (rows : Rows) (now : Watching) (directory : ℕ) (row : Option (List Watcher)) → watching_of rows ≡ now → get nat_cmp rows directory ≡ row → watchers_of now directory ≡ row_in row
row_seen rows now directory row view is = ap (λ (watching : Watching). watchers_of watching directory) (sym view) ∙ row_found rows directory row is

pub same_view : (m n : Rows) → n.entries ≡ m.entries → watching_of n ≡ watching_of m
unfolding watching_of
same_view m n same = ap finite.from_entries same

pub nobody : (rows : Rows) → rows.entries ≡ [] → watching_of rows ≡ finite.empty
unfolding watching_of
nobody rows none = ap finite.from_entries none

-- ---- one directory is another or isn't

equal : (o : Ordering) → is_eq o ≡ true → o ≡ Equal
equal Less h = absurd (cc)
equal Equal h = refl
equal Greater h = absurd (cc)

at_by : (d q : ℕ) (b c : Bool) → is_eq (nat_cmp d q) ≡ b → (q == d) ≡ c → b ≡ c
at_by d q true true at is = refl
at_by d q false false at is = refl
at_by d q true false at is = absurd (let yes = eq-eqb q d (sym (finite.nat_cmp-IsAntisymmetric d q (equal (nat_cmp d q) at))) in cc)
at_by d q false true at is =
    absurd (let yes : is_eq (nat_cmp d q) ≡ true = ap (λ (x : ℕ). is_eq (nat_cmp d x)) (eqb-true q d is) ∙ ap is_eq (tied_itself nat_cmp_total d) in cc)

pub at_is : (d q : ℕ) → is_at (nat_cmp d) q ≡ (q == d)
at_is d q = at_by d q (is_eq (nat_cmp d q)) (q == d) refl refl

-- ---- the watchers of one directory changed

abbrev Changes : Watching → ℕ → List Watcher → Watching → Type 0
Changes old directory row new = (other : ℕ) → watchers_of new other ≡ (if other == directory then row else watchers_of old other)

by_place : (b : Bool) (w o : Option (List Watcher)) → row_in (cond b w o) ≡ (if b then row_in w else row_in o)
by_place true w o = refl
by_place false w o = refl

changes : (m n : Rows) (d : ℕ) (w : Option (List Watcher)) → UpdatesBy nat_cmp (nat_cmp d) m n w → Changes (watching_of m) d (row_in w) (watching_of n)
changes m n d w updates other =
    row_found n other (cond (is_at (nat_cmp d) other) w (get nat_cmp m other)) (updates.0 other)
    ∙ by_place (is_at (nat_cmp d) other) w (get nat_cmp m other)
    ∙ ap (λ b. if b then row_in w else row_in (get nat_cmp m other)) (at_is d other)
    ∙ ap (λ (row : List Watcher). if other == d then row_in w else row) (sym (row_found m other (get nat_cmp m other) refl))

adds_by : (b : Bool) (other d : ℕ) (old : Watching) (w : Watcher) (row : List Watcher) → (other == d) ≡ b → row ≡ watchers_of old d ++ w ∷ []
    → (if b then row else watchers_of old other) ≡ (if b then watchers_of old other ++ w ∷ [] else watchers_of old other)
adds_by true other d old w row here is = is ∙ ap (λ (q : ℕ). watchers_of old q ++ w ∷ []) (sym (eqb-true other d here))
adds_by false other d old w row here is = refl

pub adds : (m n : Rows) (d : ℕ) (w : Watcher) (row : List Watcher) → UpdatesBy nat_cmp (nat_cmp d) m n (Some row) → row ≡ watchers_of (watching_of m) d ++ w ∷ []
    → Adds (watching_of m) d w (watching_of n)
adds m n d w row updates is other = changes m n d (Some row) updates other ∙ adds_by (other == d) other d (watching_of m) w row refl is

removes_by : (b : Bool) (other d k : ℕ) (old : Watching) (row : List Watcher) → (other == d) ≡ b → row ≡ without k (watchers_of old d)
    → (if b then row else watchers_of old other) ≡ (if b then without k (watchers_of old other) else watchers_of old other)
removes_by true other d k old row here is = is ∙ ap (λ (q : ℕ). without k (watchers_of old q)) (sym (eqb-true other d here))
removes_by false other d k old row here is = refl

pub removes : (m n : Rows) (d k : ℕ) (w : Option (List Watcher)) → UpdatesBy nat_cmp (nat_cmp d) m n w → row_in w ≡ without k (watchers_of (watching_of m) d)
    → Removes (watching_of m) d k (watching_of n)
removes m n d k w updates is other = changes m n d w updates other ∙ removes_by (other == d) other d k (watching_of m) (row_in w) refl is

-- nobody was there
pub removes_none : (m : Rows) (d k : ℕ) → get nat_cmp m d ≡ None → Removes (watching_of m) d k (watching_of m)
removes_none m d k none other = by_test (other == d) refl where
  by_test : (b : Bool) → (other == d) ≡ b → watchers_of (watching_of m) other ≡ (if b then without k (watchers_of (watching_of m) other) else watchers_of (watching_of m) other)
  by_test false here = refl
  by_test true here =
      let empty : watchers_of (watching_of m) other ≡ [] = ap (watchers_of (watching_of m)) (eqb-true other d here) ∙ row_found m d None none in
      empty ∙ ap (without k) (sym empty)

-- a directory whose last watcher went goes itself
twice : (b : Bool) (w v o : Option (List Watcher)) → cond b w (cond b v o) ≡ cond b w o
twice true w v o = refl
twice false w v o = refl

pub written : (m n : Rows) (d : ℕ) (was row : List Watcher) → get nat_cmp m d ≡ Some was → WritesThrough nat_cmp (nat_cmp d) m row n → UpdatesBy nat_cmp (nat_cmp d) m n (Some row)
written m n d was row there writes = writes.3 (rw there refl)

pub written_back : (m n : Rows) (d : ℕ) (was now : List Watcher) → get nat_cmp m d ≡ Some was → now ≡ was → WritesThrough nat_cmp (nat_cmp d) m now n → n.entries ≡ m.entries
written_back m n d was now there same writes =
    writes.0 ∙ ap (λ (row : List Watcher). set_value (is_at (nat_cmp d)) m.entries row) same ∙ set_value_same (is_at (nat_cmp d)) m.entries was there

pub removes_last : (m n p : Rows) (d k : ℕ) (row : List Watcher) → UpdatesBy nat_cmp (nat_cmp d) m n (Some row) → UpdatesBy nat_cmp (nat_cmp d) n p None
    → [] ≡ without k (watchers_of (watching_of m) d) → Removes (watching_of m) d k (watching_of p)
removes_last m n p d k row first later is other =
    row_found p other (cond (is_at (nat_cmp d) other) None (get nat_cmp m other))
    (later.0 other ∙ ap (λ (o : Option (List Watcher)). cond (is_at (nat_cmp d) other) None o) (first.0 other) ∙ twice (is_at (nat_cmp d) other) None (Some row) (get nat_cmp m other))
    ∙ by_place (is_at (nat_cmp d) other) None (get nat_cmp m other)
    ∙ ap (λ b. if b then [] else row_in (get nat_cmp m other)) (at_is d other)
    ∙ ap (λ (r : List Watcher). if other == d then [] else r) (sym (row_found m other (get nat_cmp m other) refl))
    ∙ removes_by (other == d) other d k (watching_of m) [] refl is

-- ---- each has a watcher, and no more than it may have

abbrev IsFew : List Watcher → Type 0
IsFew row = (1 ≤ length row) × (length row ≤ limit.MAX_WATCHERS)

few_by : (b : Bool) (w o : Option (List Watcher)) (row : List Watcher) → ((r : List Watcher) → w ≡ Some r → IsFew r) → ((r : List Watcher) → o ≡ Some r → IsFew r) → cond b w o ≡ Some row → IsFew row
few_by true w o row put kept is = put row is
few_by false w o row put kept is = kept row is

no_row : (r : List Watcher) → None ≡ Some r → IsFew r
no_row r is = absurd (cc)

this_row : (row r : List Watcher) → IsFew row → Some row ≡ Some r → IsFew r
this_row row r few is = let same : row ≡ r = cc in subst IsFew same few

pub few_same : (m n : Rows) → AreKept m → n.entries ≡ m.entries → AreKept n
few_same m n kept same directory row there = kept directory row (sym (ap (λ (es : List (ℕ × List Watcher)). lookup (is_at (nat_cmp directory)) es) same) ∙ there)

pub few_put : (m n : Rows) (d : ℕ) (row : List Watcher) → AreKept m → UpdatesBy nat_cmp (nat_cmp d) m n (Some row) → 1 ≤ length row → length row ≤ limit.MAX_WATCHERS → AreKept n
few_put m n d row kept updates some few other one there =
    few_by (is_at (nat_cmp d) other) (Some row) (get nat_cmp m other) one (λ r. this_row row r (some, few)) (kept other) (sym (updates.0 other) ∙ there)

pub few_cut : (m n p : Rows) (d : ℕ) (row : List Watcher) → AreKept m → UpdatesBy nat_cmp (nat_cmp d) m n (Some row) → UpdatesBy nat_cmp (nat_cmp d) n p None → AreKept p
few_cut m n p d row kept first later other one there =
    few_by (is_at (nat_cmp d) other) None (get nat_cmp m other) one no_row (kept other)
    (sym (later.0 other ∙ ap (λ (o : Option (List Watcher)). cond (is_at (nat_cmp d) other) None o) (first.0 other) ∙ twice (is_at (nat_cmp d) other) None (Some row) (get nat_cmp m other)) ∙ there)

-- ---- a watcher was added to a row that was there, or memory was wanting

module _ {A E : Type 0} (result : Result A E) (m n : Rows) (d : ℕ) (was now : List Watcher) (w : Watcher) (there : get nat_cmp m d ≡ Some was)
    (ok : OnOk result (now ≡ was ++ w ∷ [])) (err : OnErr result (now ≡ was)) (writes : WritesThrough nat_cmp (nat_cmp d) m now n) where
  pub few_added : AreKept m → length was < limit.MAX_WATCHERS → AreKept n
  few_added kept few = by_result result ok err where
    by_result : (r : Result A E) → OnOk r (now ≡ was ++ w ∷ []) → OnErr r (now ≡ was) → AreKept n
    by_result (Ok value) is same =
        let long : length now ≡ length was + 1 = ap (λ (row : List Watcher). length row) is ∙ length-append was (w ∷ []) in
        few_put m n d now kept (written m n d was now there writes) (omega (arith, long)) (omega (arith, long, few))
    by_result (Err fault) is same = few_same m n kept (written_back m n d was now there same writes)

  pub adds_there : (old : Watching) → watching_of m ≡ old → OnOk result (Adds old d w (watching_of n))
  adds_there old view = by_result result ok where
    by_result : (r : Result A E) → OnOk r (now ≡ was ++ w ∷ []) → OnOk r (Adds old d w (watching_of n))
    by_result (Err fault) is = tt
    by_result (Ok value) is = subst (λ (watching : Watching). Adds watching d w (watching_of n)) view
        (adds m n d w now (written m n d was now there writes) (is ∙ ap (λ (row : List Watcher). row ++ w ∷ []) (sym (row_found m d (Some was) there))))

  pub same_there : (old : Watching) → watching_of m ≡ old → OnErr result (watching_of n ≡ old)
  same_there old view = by_result result err where
    by_result : (r : Result A E) → OnErr r (now ≡ was) → OnErr r (watching_of n ≡ old)
    by_result (Ok value) same = tt
    by_result (Err fault) same = same_view m n (written_back m n d was now there same writes) ∙ view

-- ---- a watcher was removed

pub removes_nobody : (m n : Rows) (old : Watching) (d k : ℕ) → watching_of m ≡ old → n ≡ m → get nat_cmp m d ≡ None → Removes old d k (watching_of n)
removes_nobody m n old d k view same none =
    subst (λ (rows : Rows). Removes old d k (watching_of rows)) (sym same) (subst (λ (watching : Watching). Removes watching d k (watching_of m)) view (removes_none m d k none))

length-without : (k : ℕ) (row : List Watcher) → length (without k row) ≤ length row
length-without k row =
    let test : Watcher → Bool = λ watcher. not (watcher.endpoint == k) in
    let counted = length-filter test row in
    let few = count_by-le-length test row in
    omega (arith, counted, few)

some_of : (row : List Watcher) (n : ℕ) → (n ≡ 0 → ⊥) → n ≡ length row → 1 ≤ length row
some_of [] n some is = absurd (some is)
some_of (w ∷ row) n some is = omega arith

module _ (m n : Rows) (d k : ℕ) (was now : List Watcher) (there : get nat_cmp m d ≡ Some was) (is : now ≡ without k was) (writes : WritesThrough nat_cmp (nat_cmp d) m now n) where
  pub few_removed : AreKept m → (len : ℕ) → (len ≡ 0 → ⊥) → len ≡ length now → AreKept n
  few_removed kept len some long =
      let most = (kept d was there).1 in
      let fewer = length-without k was in
      let same : length now ≡ length (without k was) = ap (λ (row : List Watcher). length row) is in
      few_put m n d now kept (written m n d was now there writes) (some_of now len some long) (omega (arith, most, fewer, same))

  left_there : now ≡ without k (watchers_of (watching_of m) d)
  left_there = is ∙ ap (without k) (sym (row_found m d (Some was) there))

  pub removes_there : (old : Watching) → watching_of m ≡ old → Removes old d k (watching_of n)
  removes_there old view = subst (λ (watching : Watching). Removes watching d k (watching_of n)) view (removes m n d k (Some now) (written m n d was now there writes) left_there)

  pub removes_all : (old : Watching) (p : Rows) → watching_of m ≡ old → UpdatesBy nat_cmp (nat_cmp d) n p None → (len : ℕ) → len ≡ 0 → len ≡ length now → Removes old d k (watching_of p)
  removes_all old p view later len none long =
      let empty : now ≡ [] = nil_from_length now (sym long ∙ none) in
      subst (λ (watching : Watching). Removes watching d k (watching_of p)) view
      (removes_last m n p d k now (written m n d was now there writes) later (sym empty ∙ left_there))
