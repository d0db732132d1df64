-- That a server has room for the next token, which names nothing there yet.
use Rattle.std.proofs.Common.{◌≡◌, ◌≢◌, ℕ, ◌+◌, ◌<◌, ◌≤◌, ◌==◌, ◌||◌, Bool, true, false, is_some, if◌then◌else◌, nat_le, List, [], ◌∷◌, length, map, filter, find, Contains, Option, Some, None, T, refl, sym, ap, ◌∙◌, subst, arith}
use Rattle.std.specs.FinMap as finite
use Rattle.std.specs.FinMap.{contains_key-keys, entries_sorted, len-entries}
use Rattle.std.specs.FinMap.Entries as entries
use Rattle.std.specs.List.{list_any}
use Rattle.std.specs.Option.{option_map, option_map_or}
use Rattle.std.specs.Ordering.{nat_cmp, eq_by_cmp, is_lt}
use Rattle.std.proofs.lemmas.Bool.{and_parts, eqb-true, leb-false, true≢false}
use Rattle.std.proofs.lemmas.Bool.Decides.{nat_tests}
use Rattle.std.proofs.lemmas.List.{length-map}
use Rattle.fidl_names.specs.declared.limits.TheConstants as limit
use Rattle.link_admission.specs.Numbering.{among}
use Rattle.node_graph.specs.declared.nodes.NodeRef.{NodeRef}
use Rattle.node_graph.specs.Graph.{number_of}
use Rattle.vfs_journal.specs.Outcomes.{Given}
use Rattle.vfs_journal.specs.View.{View, is_out_in, next_token_in}
use Rattle.journal_laws.proofs.Among.{among_of}
use Rattle.journal_laws.proofs.KnowingLists.{Apart, no_more}
use Rattle.journal_laws.proofs.Members.{contains_map, found, kept}
use Rattle.vfs_server.specs.Holding.{named_in}
use Rattle.vfs_server.specs.Servers.{Server, named}
use Rattle.vfs_world.proofs.Outs.{Rising}
use Rattle.vfs_world.proofs.ServerSteps.{HoldsNumber}

-- ---- it names nothing

not_found : (given : List Given) (token : ℕ) → ((one : Given) → Contains given one → one.token ≢ token) → (o : Option Given) → find (λ one. one.token == token) given ≡ o → o ≡ None
not_found given token apart None e = refl
not_found given token apart (Some one) e = let at = found (λ (x : Given). x.token == token) given one e in absurd (apart one at.0 (eqb-true one.token token at.1))

pub named_new : (view : View) (index token : ℕ) (one : Server) → HoldsNumber view index one → ((other : Given) → Contains view.given other → other.token ≢ token) → named one token ≡ None
named_new view index token one h apart =
    h.tokens token
    ∙ ap (λ (o : Option Given). if is_out_in view token then option_map_or (λ given. if given.server == index then Some given.node else None) o None else None)
    (not_found view.given token apart (find (λ given. given.token == token) view.given) refl)
    ∙ either (is_out_in view token) where
      either : (b : Bool) → ◌≡◌ {A = Option ℕ} (if b then None else None) None
      either true = refl
      either false = refl

-- ---- the tokens of a map are apart

same_number : (a b : ℕ) → eq_by_cmp nat_cmp a b ≡ (b == a)
same_number a b = grind (arith, nat_tests)

above_same : (q x : ℕ) → is_lt (nat_cmp q x) ≡ true → (x == q) ≡ false
above_same q x h = grind (arith, nat_tests)

none_above : (q : ℕ) (es : List (ℕ × NodeRef)) → entries.below_all nat_cmp q es ≡ true → among q (map (λ e. e.0) es) ≡ false
none_above q [] h = refl
none_above q (e ∷ es) h =
    let parts = and_parts (is_lt (nat_cmp q e.0)) (entries.below_all nat_cmp q es) h in
    ap (λ (b : Bool). b || among q (map (λ x. x.0) es)) (above_same q e.0 parts.0) ∙ none_above q es parts.1

keys_apart : (es : List (ℕ × NodeRef)) → entries.is_sorted nat_cmp es ≡ true → Apart (map (λ e. e.0) es)
keys_apart [] h = tt
keys_apart (e ∷ es) h =
    let parts = and_parts (entries.below_all nat_cmp e.0 es) (entries.is_sorted nat_cmp es) h in
    (none_above e.0 es parts.0, keys_apart es parts.1)

is_true : (b : Bool) → T b → b ≡ true
is_true true h = refl
is_true false h = absurd h

any_among : (n : ℕ) (ns : List ℕ) → list_any (eq_by_cmp nat_cmp n) ns ≡ among n ns
any_among n [] = refl
any_among n (m ∷ ns) = λ i. same_number n m i || any_among n ns i

-- ---- there are no more than are out

is_named : (o : Option NodeRef) → is_some o ≡ true → is_some (option_map number_of o) ≡ true
is_named None h = h
is_named (Some node) h = refl

-- whatever names a directory was given and is out
given_out : (view : View) (index n : ℕ) → is_some (named_in view index n) ≡ true → (one : Given) × Contains view.given one × (one.token ≡ n) × (is_out_in view n ≡ true)
given_out view index n h = by_test (is_out_in view n) refl (find (λ given. given.token == n) view.given) refl h where
  by_test : (b : Bool) → is_out_in view n ≡ b → (o : Option Given) → find (λ given. given.token == n) view.given ≡ o →
      is_some (if b then option_map_or (λ given. if given.server == index then Some given.node else None) o None else None) ≡ true → (one : Given) × Contains view.given one × (one.token ≡ n) × (is_out_in view n ≡ true)
  by_test false e o f g = absurd (true≢false (sym g))
  by_test true e None f g = absurd (true≢false (sym g))
  by_test true e (Some one) f g = let at = found (λ (x : Given). x.token == n) view.given one f in (one, at.0, eqb-true one.token n at.1, e)

few_tokens : (view : View) (index : ℕ) (one : Server) → HoldsNumber view index one → finite.len one.tokens ≤ length (filter (λ given. is_out_in view given.token) view.given)
few_tokens view index one h =
    let es = finite.entries one.tokens in
    let outs = filter (λ (given : Given). is_out_in view given.token) view.given in
    let many = no_more (map (λ (e : ℕ × NodeRef). e.0) es) (map (λ (given : Given). given.token) outs) (keys_apart es (is_true (entries.is_sorted nat_cmp es) (entries_sorted one.tokens))) within in
    let a = len-entries one.tokens in
    let b = length-map es (λ (e : ℕ × NodeRef). e.0) in
    let c = length-map outs (λ (given : Given). given.token) in
    omega (arith, many, a, b, c) where
      within : (n : ℕ) → among n (map (λ (e : ℕ × NodeRef). e.0) (finite.entries one.tokens)) ≡ true → among n (map (λ (given : Given). given.token) (filter (λ (given : Given). is_out_in view given.token) view.given)) ≡ true
      within n among' =
          let there : is_some (finite.get one.tokens n) ≡ true = contains_key-keys one.tokens n ∙ any_among n (finite.keys one.tokens) ∙ among' in
          let names : is_some (named_in view index n) ≡ true = ap is_some (sym (h.tokens n)) ∙ is_named (finite.get one.tokens n) there in
          let at = given_out view index n names in
          let outs = filter (λ (given : Given). is_out_in view given.token) view.given in
          among_of n (map (λ (given : Given). given.token) outs)
          (subst (Contains (map (λ (given : Given). given.token) outs)) at.2
          (contains_map (λ (given : Given). given.token) outs at.0 (kept (λ (given : Given). is_out_in view given.token) view.given at.0 at.1 (ap (is_out_in view) at.2 ∙ at.3))))

few_by : (out given n : ℕ) (b : Bool) → (nat_le limit.MAX_TOKENS out || nat_le 0x80000000 given) ≡ b → (if b then None else Some (limit.FIRST_TOKEN + given)) ≡ Some n → out < limit.MAX_TOKENS
few_by out given n true e f = absurd (cc)
few_by out given n false e f = leb-false limit.MAX_TOKENS out (none_left (nat_le limit.MAX_TOKENS out) (nat_le 0x80000000 given) e) where
  none_left : (a b : Bool) → (a || b) ≡ false → a ≡ false
  none_left false b h = refl
  none_left true b h = absurd (true≢false h)

pub room_for : (view : View) (index token : ℕ) (one : Server) → HoldsNumber view index one → Rising view.given → next_token_in view ≡ Some token → finite.len one.tokens < limit.MAX_TOKENS
room_for view index token one h rises next =
    let few = few_tokens view index one h in
    let room = few_by (length (filter (λ given. is_out_in view given.token) view.given)) (length view.given) token (nat_le limit.MAX_TOKENS (length (filter (λ given. is_out_in view given.token) view.given)) || nat_le 0x80000000 (length view.given)) refl next in
    omega (arith, few, room)
