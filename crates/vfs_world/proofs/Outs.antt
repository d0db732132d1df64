-- What a server holds of the tokens that are out: when one is forgotten, and when one is given.
use Rattle.std.proofs.Common.{◌≡◌, ◌≢◌, ℕ, ◌+◌, ◌-◌, ◌<◌, ◌==◌, ◌&&◌, ◌||◌, Bool, true, false, not, cond, if◌then◌else◌, List, [], ◌∷◌, ◌++◌, length, filter, find, count_by, AllPairs, Contains, Option, Some, None, append-nil, refl, sym, ap, ◌∙◌, subst, arith}
use Rattle.std.specs.List.{list_any}
use Rattle.std.specs.Option.{option_map_or, option_or}
use Rattle.std.proofs.lemmas.Bool.{eqb-true, eq-eqb, ne_eqb, true≢false}
use Rattle.std.proofs.lemmas.Grind.{common_steps}
use Rattle.std.proofs.lemmas.List.Elements.{All-contains}
use Rattle.std.proofs.lemmas.List.Folds.{find-append, list_any-append}
use Rattle.link_admission.specs.Numbering.{among}
use Rattle.node_graph.specs.Graph.{StandsFor, holds_at}
use Rattle.node_graph.specs.Tree.{Tree}
use Rattle.vfs_journal.specs.History.{is_watcher, tree_at}
use Rattle.vfs_journal.specs.Entries.{Sent, handles_of}
use Rattle.vfs_journal.specs.Outcomes.{Given}
use Rattle.vfs_journal.specs.Tokens.{directory_among}
use Rattle.vfs_journal.specs.Starts.{Bound}
use Rattle.vfs_journal.specs.View.{View, at_in, is_out_in}
use Rattle.journal_laws.proofs.Lists.{eqb_sym, pairs-head, pairs-tail}
use Rattle.journal_laws.proofs.Members.{contains_here, contains_later, found}
use Rattle.vfs_server.specs.Binding.{Forgets}
use Rattle.vfs_server.specs.Holding.{bound_to, if_at, living_at}
use Rattle.vfs_server.specs.Servers.{Server, in_use, named, seen}
use Rattle.vfs_world.proofs.Between.{given_in}
use Rattle.vfs_world.proofs.ServerSteps.{HoldsLooks, HoldsNumber, Living, Looks, bounds, one_if}

-- ---- by a test of what is out

-- the directory that a token names, where it is out by a test, and how many that are out name a directory
abbrev pub names_out : (ℕ → Bool) → List Given → ℕ → ℕ → Option ℕ
names_out out given index token = if out token then directory_among given index token else None

abbrev pub is_of : ℕ → ℕ → Given → Bool
is_of index number given = (given.server == index) && (given.node == number)

abbrev pub count_out : (ℕ → Bool) → List Given → ℕ → ℕ → ℕ
count_out out given index number = count_by (λ one. out one.token && ((one.server == index) && (one.node == number))) given

-- the same as HoldsNumber, with a test of what is out
pub record HoldsOut (view : View) (out : ℕ → Bool) (index : ℕ) (server : Server) : Type 0 where
  pub bound : (endpoint : ℕ) → seen server endpoint ≡ if_at index (at_in view endpoint)
  pub count : in_use server ≡ length (living_at view index)
  pub watchers : server.watchers ≡ filter (λ bound. is_watcher bound.birth.protocol) (living_at view index)
  pub tokens : (token : ℕ) → named server token ≡ names_out out view.given index token
  pub tree : StandsFor server.graph (tree_at view.trees index)
  pub holds : (number : ℕ) → holds_at server.graph number ≡ bound_to view index number + count_out out view.given index number

pub out_first : (view : View) (index : ℕ) (server : Server) → HoldsNumber view index server → HoldsOut view (is_out_in view) index server
out_first view index server h = record { bound = h.bound; count = h.count; watchers = h.watchers; tokens = h.tokens; tree = h.tree; holds = h.holds }

-- the same of what is looked up of a server, but for its tree
pub record HoldsOutLooks (view : View) (out : ℕ → Bool) (index : ℕ) (looks : Looks) : Type 0 where
  pub bound : (endpoint : ℕ) → looks.bound endpoint ≡ if_at index (at_in view endpoint)
  pub count : looks.count ≡ length (living_at view index)
  pub watchers : looks.watchers ≡ filter (λ bound. is_watcher bound.birth.protocol) (living_at view index)
  pub tokens : (token : ℕ) → looks.tokens token ≡ names_out out view.given index token
  pub holds : (number : ℕ) → looks.holds number ≡ bound_to view index number + count_out out view.given index number

-- no token is given twice: they rise
abbrev pub Rising : List Given → Type 0
Rising given = AllPairs (λ one later. one.token < later.token) given

-- ---- tests that agree where tokens were given

count_on : (p q : Given → Bool) (ones : List Given) → ((one : Given) → Contains ones one → p one ≡ q one) → count_by p ones ≡ count_by q ones
count_on p q [] same = refl
count_on p q (one ∷ ones) same = more (p one) (q one) refl refl (same one (contains_here one ones)) (count_on p q ones (λ x c. same x (contains_later x one ones c))) where
  more : (b c : Bool) → p one ≡ b → q one ≡ c → p one ≡ q one → count_by p ones ≡ count_by q ones → count_by p (one ∷ ones) ≡ count_by q (one ∷ ones)
  more true true e f s rest = ap (λ (n : ℕ). n) (grind (arith, common_steps))
  more false false e f s rest = ap (λ (n : ℕ). n) (grind (arith, common_steps))
  more true false e f s rest = absurd (true≢false (sym e ∙ s ∙ f))
  more false true e f s rest = absurd (true≢false (sym f ∙ sym s ∙ e))

counts_agree : (out other : ℕ → Bool) (given : List Given) (index number : ℕ) → ((one : Given) → Contains given one → out one.token ≡ other one.token) → count_out out given index number ≡ count_out other given index number
counts_agree out other given index number same =
    count_on (λ one. out one.token && ((one.server == index) && (one.node == number))) (λ one. other one.token && ((one.server == index) && (one.node == number))) given
    (λ one c. ap (λ (b : Bool). b && ((one.server == index) && (one.node == number))) (same one c))

abbrev directory_by : ℕ → Option Given → Option ℕ
directory_by index o = option_map_or (λ given. if given.server == index then Some given.node else None) o None

names_agree : (out other : ℕ → Bool) (given : List Given) (index token : ℕ) → ((one : Given) → Contains given one → out one.token ≡ other one.token) → names_out out given index token ≡ names_out other given index token
names_agree out other given index token same = by_found (find (λ one. one.token == token) given) refl where
  none_either : (b c : Bool) → ◌≡◌ {A = Option ℕ} (if b then None else None) (if c then None else None)
  none_either true true = refl
  none_either true false = refl
  none_either false true = refl
  none_either false false = refl

  by_found : (o : Option Given) → find (λ one. one.token == token) given ≡ o → (if out token then directory_by index (find (λ one. one.token == token) given) else None) ≡ (if other token then directory_by index (find (λ one. one.token == token) given) else None)
  by_found None e =
      ap (λ (o : Option Given). if out token then directory_by index o else None) e
      ∙ none_either (out token) (other token)
      ∙ sym (ap (λ (o : Option Given). if other token then directory_by index o else None) e)
  by_found (Some one) e =
      let at = found (λ (one : Given). one.token == token) given one e in
      let is : out token ≡ other token = subst (λ (n : ℕ). out n ≡ other n) (eqb-true one.token token at.1) (same one at.0) in
      ap (λ (b : Bool). if b then directory_by index (find (λ one. one.token == token) given) else None) is

pub out_agree : (view : View) (out other : ℕ → Bool) (index : ℕ) (server : Server) → ((one : Given) → Contains view.given one → out one.token ≡ other one.token) → HoldsOut view out index server → HoldsOut view other index server
out_agree view out other index server same h = record {
  bound = h.bound;
  count = h.count;
  watchers = h.watchers;
  tokens = λ token. h.tokens token ∙ names_agree out other view.given index token same;
  tree = h.tree;
  holds = λ number. h.holds number ∙ ap (λ (n : ℕ). bound_to view index number + n) (counts_agree out other view.given index number same);
}

-- ---- without one token

abbrev pub but : ℕ → (ℕ → Bool) → ℕ → Bool
but token out n = not (n == token) && out n

names_but : (out : ℕ → Bool) (given : List Given) (index token n : ℕ) → (if n == token then None else names_out out given index n) ≡ names_out (but token out) given index n
names_but out given index token n = by_test (n == token) where
  by_test : (b : Bool) → (if b then None else names_out out given index n) ≡ (if not b && out n then directory_among given index n else None)
  by_test true = refl
  by_test false = refl

-- whether a token names a directory
abbrev is_named : Option ℕ → ℕ → Bool
is_named o number = option_map_or (λ n. n == number) o false

named_one : (b s n : Bool) (node number : ℕ) → (node == number) ≡ n → is_named (if b then (if s then Some node else None) else None) number ≡ (b && (s && n))
named_one false s n node number e = refl
named_one true false n node number e = refl
named_one true true n node number e = e

front : (p : Given → Bool) (one : Given) (ones : List Given) (b : Bool) → p one ≡ b → count_by p (one ∷ ones) ≡ one_if b + count_by p ones
front p one ones true e = ap (λ (n : ℕ). n) (grind (arith, common_steps))
front p one ones false e = ap (λ (n : ℕ). n) (grind (arith, common_steps))

-- as many less as the token names it
count_but : (out : ℕ → Bool) (index number token : ℕ) (given : List Given) → Rising given →
    count_out (but token out) given index number + one_if (is_named (names_out out given index token) number) ≡ count_out out given index number
count_but out index number token [] rises = let z = by_test (out token) in omega (arith, z) where
  by_test : (b : Bool) → one_if (is_named (if b then None else None) number) ≡ 0
  by_test true = refl
  by_test false = refl
count_but out index number token (one ∷ given) rises = by_test (one.token == token) refl (count_but out index number token given (pairs-tail (λ (x y : Given). x.token < y.token) one given rises)) where
  passes : Given → Bool
  passes x = out x.token && ((x.server == index) && (x.node == number))

  left : Given → Bool
  left x = (not (x.token == token) && out x.token) && ((x.server == index) && (x.node == number))

  same_later : one.token ≡ token → count_by left given ≡ count_by passes given
  same_later same =
      count_on left passes given
      (λ x c.
      let above : one.token < x.token = All-contains (λ (y : Given). one.token < y.token) given x (pairs-head (λ (x y : Given). x.token < y.token) one given rises) c in
      ap (λ (b : Bool). (not b && out x.token) && ((x.server == index) && (x.node == number))) (ne_eqb x.token token (λ e. omega (arith, above, e, same))))

  by_test : (b : Bool) → (one.token == token) ≡ b →
      count_by left given + one_if (is_named (names_out out given index token) number) ≡ count_by passes given →
      count_by left (one ∷ given) + one_if (is_named (if out token then directory_by index (cond (one.token == token) (Some one) (find (λ x. x.token == token) given)) else None) number) ≡ count_by passes (one ∷ given)
  by_test true e rest =
      let same = eqb-true one.token token e in
      let gone = front left one given false (ap (λ (b : Bool). (not b && out one.token) && ((one.server == index) && (one.node == number))) e) in
      let there = front passes one given (passes one) refl in
      let later = same_later same in
      let is : one_if (is_named (if out token then directory_by index (cond (one.token == token) (Some one) (find (λ x. x.token == token) given)) else None) number) ≡ one_if (passes one) =
      ap (λ (b : Bool). one_if (is_named (if out token then directory_by index (cond b (Some one) (find (λ x. x.token == token) given)) else None) number)) e
      ∙ ap one_if (named_one (out token) (one.server == index) (one.node == number) one.node number refl)
      ∙ ap (λ (n : ℕ). one_if (out n && ((one.server == index) && (one.node == number)))) (sym same) in
      omega (arith, gone, there, later, is)
  by_test false e rest =
      let here = front left one given (passes one) (ap (λ (b : Bool). (not b && out one.token) && ((one.server == index) && (one.node == number))) e) in
      let there = front passes one given (passes one) refl in
      let is : one_if (is_named (if out token then directory_by index (cond (one.token == token) (Some one) (find (λ x. x.token == token) given)) else None) number) ≡ one_if (is_named (names_out out given index token) number) =
      ap (λ (b : Bool). one_if (is_named (if out token then directory_by index (cond b (Some one) (find (λ x. x.token == token) given)) else None) number)) e in
      omega (arith, here, there, rest, is)

-- what it holds when it has forgotten a token
pub out_forgets : (view : View) (out : ℕ → Bool) (index token : ℕ) (one now : Server) → Rising view.given → HoldsOut view out index one → Forgets one token now → HoldsOut view (but token out) index now
out_forgets view out index token one now rises h s = record {
  bound = λ n. seen_same n ∙ h.bound n;
  count = in_use_same ∙ h.count;
  watchers = s.watchers ∙ h.watchers;
  tokens = λ n. s.tokens n ∙ ap (λ (o : Option ℕ). if n == token then None else o) (h.tokens n) ∙ names_but out view.given index token n;
  tree = s.tree (tree_at view.trees index) h.tree;
  holds = λ number. by_named number (named one token) refl;
} where
  seen_same : (n : ℕ) → seen now n ≡ seen one n
  seen_same n = λ i. seen (record one { index = s.index i; watchers = s.watchers i; connections = s.bound i }) n

  in_use_same : in_use now ≡ in_use one
  in_use_same = λ i. in_use (record one { watchers = s.watchers i; connections = s.bound i })

  fewer : (number : ℕ) → count_out (but token out) view.given index number + one_if (is_named (named one token) number) ≡ count_out out view.given index number
  fewer number = ap (λ (o : Option ℕ). count_out (but token out) view.given index number + one_if (is_named o number)) (h.tokens token) ∙ count_but out index number token view.given rises

  by_named : (number : ℕ) (o : Option ℕ) → named one token ≡ o → holds_at now.graph number ≡ bound_to view index number + count_out (but token out) view.given index number
  by_named number None e =
      let f = fewer number in
      let z : one_if (is_named (named one token) number) ≡ 0 = ap (λ (o : Option ℕ). one_if (is_named o number)) e in
      let c = h.holds number in
      let g : holds_at now.graph number ≡ holds_at one.graph number = ap (λ (x : Server). holds_at x.graph number) (s.idle e) in
      omega (arith, f, z, c, g)
  by_named number (Some node) e = by_test (number == node) refl where
    is : one_if (is_named (named one token) number) ≡ one_if (node == number)
    is = ap (λ (o : Option ℕ). one_if (is_named o number)) e

    by_test : (b : Bool) → (number == node) ≡ b → holds_at now.graph number ≡ bound_to view index number + count_out (but token out) view.given index number
    by_test true t =
        let a = s.holds node e number ∙ ap (λ (b : Bool). if b then holds_at one.graph node - 1 else holds_at one.graph number) t in
        let same = eqb-true number node t in
        let at : holds_at one.graph node ≡ holds_at one.graph number = ap (holds_at one.graph) (sym same) in
        let f = fewer number in
        let z : one_if (is_named (named one token) number) ≡ 1 = is ∙ ap one_if (eq-eqb node number (sym same)) in
        let c = h.holds number in
        omega (arith, a, at, f, z, c)
    by_test false t =
        let a = s.holds node e number ∙ ap (λ (b : Bool). if b then holds_at one.graph node - 1 else holds_at one.graph number) t in
        let f = fewer number in
        let z : one_if (is_named (named one token) number) ≡ 0 = is ∙ ap one_if (eqb_sym node number ∙ t) in
        let c = h.holds number in
        omega (arith, a, f, z, c)

-- ---- with one token more

abbrev pub looks_given : Option Given → Looks → Looks
looks_given None looks = looks
looks_given (Some new) looks =
    record looks { tokens = λ n. if n == new.token then Some new.node else looks.tokens n; holds = λ number. looks.holds number + one_if (new.node == number) }

abbrev pub with_token : ℕ → (ℕ → Bool) → ℕ → Bool
with_token token out n = (token == n) || out n

or_none : (b : Bool) → (b || false) ≡ b
or_none true = refl
or_none false = refl

-- a token that was not given is not found
not_found : (given : List Given) (token : ℕ) → ((one : Given) → Contains given one → one.token ≢ token) → find (λ one. one.token == token) given ≡ None
not_found [] token apart = refl
not_found (one ∷ given) token apart =
    ap (λ (b : Bool). cond b (Some one) (find (λ x. x.token == token) given)) (ne_eqb one.token token (apart one (contains_here one given)))
    ∙ not_found given token (λ x c. apart x (contains_later x one given c))

option_none : (o : Option Given) → option_or o None ≡ o
option_none None = refl
option_none (Some x) = refl

count_more : (p : Given → Bool) (ones : List Given) (new : Given) → count_by p (ones ++ new ∷ []) ≡ count_by p ones + one_if (p new)
count_more p [] new = let a = front p new [] (p new) refl in omega (arith, a)
count_more p (one ∷ ones) new =
    let a = front p one (ones ++ new ∷ []) (p one) refl in
    let b = front p one ones (p one) refl in
    let c = count_more p ones new in
    omega (arith, a, b, c)

module _ (view : View) (out : ℕ → Bool) (new : Given) (apart : (one : Given) → Contains view.given one → one.token ≢ new.token) where
  found_more : (n : ℕ) → find (λ one. one.token == n) (view.given ++ new ∷ []) ≡ option_or (find (λ one. one.token == n) view.given) (cond (new.token == n) (Some new) None)
  found_more n = find-append (λ (one : Given). one.token == n) view.given (new ∷ [])

  -- another token names what it named
  names_other : (index n : ℕ) → (new.token == n) ≡ false → names_out out view.given index n ≡ names_out (with_token new.token out) (view.given ++ new ∷ []) index n
  names_other index n e =
      ap (λ (o : Option Given). if out n then directory_by index o else None)
      (sym (found_more n ∙ ap (λ (b : Bool). option_or (find (λ one. one.token == n) view.given) (cond b (Some new) None)) e ∙ option_none (find (λ one. one.token == n) view.given)))
      ∙ sym (ap (λ (b : Bool). if b || out n then directory_among (view.given ++ new ∷ []) index n else None) e)

  -- it named nothing
  named_nothing : (index n : ℕ) → (new.token == n) ≡ true → names_out out view.given index n ≡ None
  named_nothing index n e =
      let same = eqb-true new.token n e in
      ap (λ (o : Option Given). if out n then directory_by index o else None) (not_found view.given n (λ one c f. apart one c (f ∙ sym same))) ∙ either (out n) where
        either : (b : Bool) → ◌≡◌ {A = Option ℕ} (if b then None else None) None
        either true = refl
        either false = refl

  -- and names its directory, at its server
  names_new : (index n : ℕ) → (new.token == n) ≡ true → names_out (with_token new.token out) (view.given ++ new ∷ []) index n ≡ (if new.server == index then Some new.node else None)
  names_new index n e =
      let same = eqb-true new.token n e in
      ap (λ (b : Bool). if b || out n then directory_among (view.given ++ new ∷ []) index n else None) e
      ∙ ap (directory_by index)
      (found_more n
      ∙ ap (λ (o : Option Given). option_or o (cond (new.token == n) (Some new) None)) (not_found view.given n (λ one c f. apart one c (f ∙ sym same)))
      ∙ ap (λ (b : Bool). cond b (Some new) None) e)

  counts_more : (index number : ℕ) → count_out (with_token new.token out) (view.given ++ new ∷ []) index number ≡ count_out out view.given index number + one_if (is_of index number new)
  counts_more index number =
      count_more (λ one. (((new.token == one.token) || out one.token) && ((one.server == index) && (one.node == number)))) view.given new
      ∙ ap (λ (n : ℕ). n + one_if (((new.token == new.token) || out new.token) && ((new.server == index) && (new.node == number))))
      (counts_agree (with_token new.token out) out view.given index number (λ one c. ap (λ (b : Bool). b || out one.token) (ne_eqb new.token one.token (λ e. apart one c (sym e)))))
      ∙ ap (λ (b : Bool). count_out out view.given index number + one_if ((b || out new.token) && ((new.server == index) && (new.node == number)))) (eq-eqb new.token new.token refl)

  -- at the server whose directory it names
  pub out_names : (index : ℕ) (looks : Looks) → HoldsOutLooks view out index looks → new.server ≡ index → HoldsOutLooks (given_in view (Some new)) (with_token new.token out) index (looks_given (Some new) looks)
  out_names index looks h at = record {
    bound = h.bound;
    count = h.count;
    watchers = h.watchers;
    tokens = λ n. by_token n (n == new.token) refl;
    holds = λ number.
        let c = h.holds number in
        let m = counts_more index number in
        let z : one_if (is_of index number new) ≡ one_if (new.node == number) = ap (λ (b : Bool). one_if (b && (new.node == number))) (eq-eqb new.server index at) in
        omega (arith, c, m, z);
  } where
    by_token : (n : ℕ) (b : Bool) → (n == new.token) ≡ b → (if b then Some new.node else looks.tokens n) ≡ names_out (with_token new.token out) (view.given ++ new ∷ []) index n
    by_token n true e = sym (names_new index n (eqb_sym new.token n ∙ e) ∙ ap (λ (b : Bool). if b then Some new.node else None) (eq-eqb new.server index at))
    by_token n false e = h.tokens n ∙ names_other index n (eqb_sym new.token n ∙ e)

  -- and at any other
  pub out_others : (index : ℕ) (one : Server) → HoldsOut view out index one → new.server ≢ index → HoldsOut (given_in view (Some new)) (with_token new.token out) index one
  out_others index one h away = record {
    bound = h.bound;
    count = h.count;
    watchers = h.watchers;
    tokens = λ n. h.tokens n ∙ by_token n (new.token == n) refl;
    tree = h.tree;
    holds = λ number.
        h.holds number
        ∙ ap (λ (n : ℕ). bound_to view index number + n)
        (let m = counts_more index number in let z : one_if (is_of index number new) ≡ 0 = ap (λ (b : Bool). one_if (b && (new.node == number))) (ne_eqb new.server index away) in
        let f : count_out out view.given index number ≡ count_out (with_token new.token out) (view.given ++ new ∷ []) index number = omega (arith, m, z) in f);
  } where
    by_token : (n : ℕ) (b : Bool) → (new.token == n) ≡ b → names_out out view.given index n ≡ names_out (with_token new.token out) (view.given ++ new ∷ []) index n
    by_token n true e = named_nothing index n e ∙ sym (names_new index n e ∙ ap (λ (b : Bool). if b then Some new.node else None) (ne_eqb new.server index away))
    by_token n false e = names_other index n e

-- ---- as views have it

held_more : (view : View) (new : Given) (n : ℕ) → with_token new.token (is_out_in view) n ≡ is_out_in (given_in view (Some new)) n
held_more view new n =
    turned (new.token == n) (list_any (λ one. one.token == n) view.held) (list_any (λ sent. among n (handles_of sent.sending)) view.waiting)
    ∙ ap (λ (b : Bool). b || list_any (λ (sent : Sent). among n (handles_of sent.sending)) view.waiting) (ap (λ (b : Bool). list_any (λ one. one.token == n) view.held || b) (sym (or_none (new.token == n))) ∙ sym (list_any-append (λ (one : Given). one.token == n) view.held (new ∷ []))) where
      turned : (a b c : Bool) → (a || (b || c)) ≡ ((b || a) || c)
      turned true true c = refl
      turned true false c = refl
      turned false true c = refl
      turned false false c = refl

-- what a view says is what another says that has the same of who lives, the trees and what was given, where the same is out
pub out_last : (view later : View) (out : ℕ → Bool) (index : ℕ) (server : Server) → later.living ≡ view.living → later.trees ≡ view.trees → later.given ≡ view.given → ((one : Given) → Contains view.given one → out one.token ≡ is_out_in later one.token) →
    HoldsOut view out index server → HoldsNumber later index server
out_last view later out index server living trees given same h =
    let a = out_agree view out (is_out_in later) index server same h in
    record {
      bound = λ n. a.bound n ∙ ap (λ (l : Living). if_at index (find (λ pair. pair.0.endpoint == n) l)) (sym living);
      count = a.count ∙ ap (λ (l : Living). length (filter (λ (b : Bound). b.server == index) (bounds l))) (sym living);
      watchers = a.watchers ∙ ap (λ (l : Living). filter (λ (b : Bound). is_watcher b.birth.protocol) (filter (λ (b : Bound). b.server == index) (bounds l))) (sym living);
      tokens = λ n. a.tokens n ∙ ap (λ (gs : List Given). names_out (is_out_in later) gs index n) (sym given);
      tree = subst (λ (ts : List Tree). StandsFor server.graph (tree_at ts index)) (sym trees) a.tree;
      holds = λ number.
          a.holds number
          ∙ ap (λ (l : Living). count_by (λ (b : Bound). b.birth.node == number) (filter (λ (b : Bound). b.server == index) (bounds l)) + count_out (is_out_in later) view.given index number) (sym living)
          ∙ ap (λ (gs : List Given). bound_to later index number + count_out (is_out_in later) gs index number) (sym given);
    }

-- the same of what is looked up
looks_last : (view : View) (new : Given) (index : ℕ) (looks : Looks) → HoldsOutLooks (given_in view (Some new)) (with_token new.token (is_out_in view)) index looks → HoldsLooks (given_in view (Some new)) index looks
looks_last view new index looks h =
    let later = given_in view (Some new) in
    let same : (one : Given) → Contains later.given one → with_token new.token (is_out_in view) one.token ≡ is_out_in later one.token = (λ one c. held_more view new one.token) in
    record {
      bound = h.bound;
      count = h.count;
      watchers = h.watchers;
      tokens = λ token. h.tokens token ∙ names_agree (with_token new.token (is_out_in view)) (is_out_in later) later.given index token same;
      holds = λ number. h.holds number ∙ ap (λ (n : ℕ). bound_to later index number + n) (counts_agree (with_token new.token (is_out_in view)) (is_out_in later) later.given index number same);
    }

-- where none is given
given_none : (view : View) (n : ℕ) → is_out_in view n ≡ is_out_in (given_in view None) n
given_none view n = ap (λ (held : List Given). list_any (λ (one : Given). one.token == n) held || list_any (λ (sent : Sent). among n (handles_of sent.sending)) view.waiting) (sym (append-nil view.held))

pub named_here : (view : View) (looks : Looks) (index : ℕ) (o : Option Given) → HoldsLooks view index looks → ((new : Given) → o ≡ Some new → new.server ≡ index) →
    ((new other : Given) → o ≡ Some new → Contains view.given other → other.token ≢ new.token) → HoldsLooks (given_in view o) index (looks_given o looks)
named_here view looks index None h at apart =
    subst (λ (held : List Given). HoldsLooks (record view { given = view.given ++ []; held = held }) index looks) (sym (append-nil view.held))
    (subst (λ (given : List Given). HoldsLooks (record view { given = given }) index looks) (sym (append-nil view.given)) h)
named_here view looks index (Some new) h at apart =
    looks_last view new index (looks_given (Some new) looks)
    (out_names view (is_out_in view) new (λ other c. apart new other refl c) index looks
    (record { bound = h.bound; count = h.count; watchers = h.watchers; tokens = h.tokens; holds = h.holds }) (at new refl))

pub named_there : (view : View) (index : ℕ) (one : Server) (o : Option Given) → HoldsNumber view index one → ((new : Given) → o ≡ Some new → new.server ≢ index) →
    ((new other : Given) → o ≡ Some new → Contains view.given other → other.token ≢ new.token) → HoldsNumber (given_in view o) index one
named_there view index one None h away apart =
    out_last view (given_in view None) (is_out_in view) index one refl refl (append-nil view.given) (λ other c. given_none view other.token) (out_first view index one h)
named_there view index one (Some new) h away apart =
    out_last (given_in view (Some new)) (given_in view (Some new)) (with_token new.token (is_out_in view)) index one refl refl refl (λ other c. held_more view new other.token)
    (out_others view (is_out_in view) new (λ other c. apart new other refl c) index one (out_first view index one h) (away new refl))
