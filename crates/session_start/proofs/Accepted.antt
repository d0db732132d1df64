-- What the lists of an accepted tree have, item by item, and how many there are.
use Rattle.std.proofs.Common.{◌≡◌, ℕ, zero, suc, ◌+◌, ◌*◌, ◌<◌, ◌≤◌, ◌==◌, Bool, true, false, cond, nat_le, nat_lt, List, [], ◌∷◌, ◌++◌, length, filter, take, get_or, Option, Some, None, All, refl, sym, ap, ◌∙◌, arith, append_assoc, append-nil}
use Rattle.std.specs.List.{count_by}
use Rattle.std.proofs.Math.Nat.{suc-mul}
use Rattle.std.proofs.lemmas.Bool.{leb-true}
use Rattle.std.proofs.lemmas.Bool.Decides.{nat_tests}
use Rattle.std.proofs.lemmas.List.{length-take-le}
use Rattle.std.proofs.lemmas.List.Sums.{length-filter}
use Rattle.std.proofs.lemmas.List.Elements.{All-head, All-tail, All-weaker}
use Rattle.fidl_names.specs.declared.limits.TheConstants as limit
use Rattle.session_start.specs.Accepted.{AreAccepted, IsNode, IsMount, IsClient}
use Rattle.session_start.specs.Items.{NodeItem, MountItem, ClientItem, Lists}
use Rattle.session_start.specs.RulesOnLists.{first_broken, first_failing, names_held, names_fit, connections_held, connections_fit, rule_8, rule_9, rule_10, rule_11, rule_12, rule_13}

-- ---- the rules one by one

pub record KeepRules (lists : Lists) : Type 0 where
  pub nodes : rule_8 lists ≡ None
  pub mounts : rule_9 lists ≡ None
  pub clients : rule_10 lists ≡ None
  pub bytes : rule_11 lists ≡ None
  pub names : rule_12 lists ≡ None
  pub connections : rule_13 lists ≡ None

all_pass : (a b c d e f : Option ℕ) → first_broken 8 (a ∷ b ∷ c ∷ d ∷ e ∷ f ∷ []) ≡ None → (a ≡ None) × (b ≡ None) × (c ≡ None) × (d ≡ None) × (e ≡ None) × (f ≡ None)
all_pass None None None None None None h = (refl, refl, refl, refl, refl, refl)
all_pass None None None None None (Some x) h = absurd (cc)
all_pass None None None None (Some x) f h = absurd (cc)
all_pass None None None (Some x) e f h = absurd (cc)
all_pass None None (Some x) d e f h = absurd (cc)
all_pass None (Some x) c d e f h = absurd (cc)
all_pass (Some x) b c d e f h = absurd (cc)

pub rules_kept : (lists : Lists) → AreAccepted lists → KeepRules lists
rules_kept l accepted =
    let all = all_pass (rule_8 l) (rule_9 l) (rule_10 l) (rule_11 l) (rule_12 l) (rule_13 l) accepted.placed in
    record { nodes = all.0; mounts = all.1; clients = all.2; bytes = all.3; names = all.4; connections = all.5 }

-- ---- items that pass one by one

pub passing : {X : Type 0} (passes : List X → X → Bool) (earlier : List X) (x : X) (xs : List X) → first_failing passes earlier (x ∷ xs) ≡ None → (passes earlier x ≡ true) × (first_failing passes (earlier ++ x ∷ []) xs ≡ None)
unfolding first_failing
passing {X} passes earlier x xs h = by_test (passes earlier x) refl h where
  by_test : (b : Bool) → passes earlier x ≡ b → cond b (first_failing passes (earlier ++ x ∷ []) xs) (Some (length earlier)) ≡ None → (passes earlier x ≡ true) × (first_failing passes (earlier ++ x ∷ []) xs ≡ None)
  by_test true is e = (is, e)
  by_test false is e = absurd (cc)

pub each_passes : {X : Type 0} (passes : List X → X → Bool) (earlier xs : List X) → first_failing passes earlier xs ≡ None → (i : ℕ) (d : X) → i < length xs → passes (earlier ++ take i xs) (get_or xs i d) ≡ true
each_passes passes earlier [] h i d within = absurd (omega arith)
each_passes passes earlier (x ∷ xs) h zero d within = ap (λ before. passes before x) (append-nil earlier) ∙ (passing passes earlier x xs h).0
each_passes passes earlier (x ∷ xs) h (suc i) d within =
    ap (λ before. passes before (get_or xs i d)) (sym (append_assoc earlier (x ∷ []) (take i xs)))
    ∙ each_passes passes (earlier ++ x ∷ []) xs (passing passes earlier x xs h).1 i d (omega arith)

-- ---- how many there are

pub few_names : (lists : Lists) → AreAccepted lists → (server : ℕ) → server < length lists.servers → names_held lists.nodes lists.mounts server ≤ limit.MAX_NAMES
few_names lists accepted server within =
    leb-true (names_held lists.nodes lists.mounts server) limit.MAX_NAMES (at_server (take server lists.servers) (length-take-le server lists.servers (omega arith)) (each_passes (names_fit lists.nodes lists.mounts) [] lists.servers (rules_kept lists accepted).names server [] within))
  where
    at_server : (earlier : List (List ℕ)) → length earlier ≡ server → nat_le (names_held lists.nodes lists.mounts (length earlier)) limit.MAX_NAMES ≡ true → nat_le (names_held lists.nodes lists.mounts server) limit.MAX_NAMES ≡ true
    at_server earlier is h = ap (λ (n : ℕ). nat_le (names_held lists.nodes lists.mounts n) limit.MAX_NAMES) (sym is) ∙ h

pub few_connections : (lists : Lists) → AreAccepted lists → (server : ℕ) → server < length lists.servers → connections_held lists.mounts lists.clients server ≤ limit.MAX_CONNECTIONS
few_connections lists accepted server within =
    leb-true (connections_held lists.mounts lists.clients server) limit.MAX_CONNECTIONS (at_server (take server lists.servers) (length-take-le server lists.servers (omega arith)) (each_passes (connections_fit lists.mounts lists.clients) [] lists.servers (rules_kept lists accepted).connections server [] within))
  where
    at_server : (earlier : List (List ℕ)) → length earlier ≡ server → nat_le (connections_held lists.mounts lists.clients (length earlier)) limit.MAX_CONNECTIONS ≡ true → nat_le (connections_held lists.mounts lists.clients server) limit.MAX_CONNECTIONS ≡ true
    at_server earlier is h = ap (λ (n : ℕ). nat_le (connections_held lists.mounts lists.clients n) limit.MAX_CONNECTIONS) (sym is) ∙ h

-- those of the first servers are those of all but the last, and those of the last
below_more : {X : Type 0} (server : X → ℕ) (xs : List X) (n : ℕ) → length (filter (λ x. nat_lt (server x) (suc n)) xs) ≡ length (filter (λ x. nat_lt (server x) n) xs) + length (filter (λ x. server x == n) xs)
below_more server [] n = refl
below_more {X} server (x ∷ xs) n =
    by_tests (nat_lt (server x) (suc n)) (nat_lt (server x) n) (server x == n) refl refl refl (filter (λ x. nat_lt (server x) (suc n)) xs) (filter (λ x. nat_lt (server x) n) xs) (filter (λ x. server x == n) xs) (below_more server xs n)
  where
    one_way : (at n : ℕ) (a b c : Bool) → nat_lt at (suc n) ≡ a → nat_lt at n ≡ b → (at == n) ≡ c → cond a 1 0 ≡ cond b 1 0 + cond c 1 0
    one_way at n true true true e f g = absurd (grind (arith, nat_tests))
    one_way at n true true false e f g = refl
    one_way at n true false true e f g = refl
    one_way at n true false false e f g = absurd (grind (arith, nat_tests))
    one_way at n false true true e f g = absurd (grind (arith, nat_tests))
    one_way at n false true false e f g = absurd (grind (arith, nat_tests))
    one_way at n false false true e f g = absurd (grind (arith, nat_tests))
    one_way at n false false false e f g = refl

    counted : (b : Bool) (ys : List X) → length (cond b (x ∷ ys) ys) ≡ cond b 1 0 + length ys
    counted true ys = omega arith
    counted false ys = omega arith

    by_tests : (a b c : Bool) → nat_lt (server x) (suc n) ≡ a → nat_lt (server x) n ≡ b → (server x == n) ≡ c → (more bs cs : List X) → length more ≡ length bs + length cs →
        length (cond a (x ∷ more) more) ≡ length (cond b (x ∷ bs) bs) + length (cond c (x ∷ cs) cs)
    by_tests a b c e f g more bs cs rest =
        let is = one_way (server x) n a b c e f g in
        let ca = counted a more in
        let cb = counted b bs in
        let cd = counted c cs in
        omega (arith, is, rest, ca, cb, cd)

none_below : {X : Type 0} (server : X → ℕ) (xs : List X) → length (filter (λ x. nat_lt (server x) 0) xs) ≡ 0
none_below server [] = refl
none_below {X} server (x ∷ xs) = by_test (nat_lt (server x) 0) refl (none_below server xs) where
  by_test : (b : Bool) → nat_lt (server x) 0 ≡ b → length (filter (λ x. nat_lt (server x) 0) xs) ≡ 0 → length (cond b (x ∷ filter (λ x. nat_lt (server x) 0) xs) (filter (λ x. nat_lt (server x) 0) xs)) ≡ 0
  by_test true e rest = absurd (grind (arith, nat_tests))
  by_test false e rest = rest

all_below : {X : Type 0} (server : X → ℕ) (n : ℕ) (xs : List X) → All (λ x. server x < n) xs → length (filter (λ x. nat_lt (server x) n) xs) ≡ length xs
all_below server n [] h = refl
all_below {X} server n (x ∷ xs) h = by_test (nat_lt (server x) n) refl (All-head (λ y. server y < n) x xs h) (all_below server n xs (All-tail (λ y. server y < n) x xs h)) where
  by_test : (b : Bool) → nat_lt (server x) n ≡ b → server x < n → length (filter (λ x. nat_lt (server x) n) xs) ≡ length xs → length (cond b (x ∷ filter (λ x. nat_lt (server x) n) xs) (filter (λ x. nat_lt (server x) n) xs)) ≡ suc (length xs)
  by_test true e here rest = ap suc rest
  by_test false e here rest = absurd (grind (arith, nat_tests))

few_below : {X : Type 0} (server : X → ℕ) (xs : List X) (most n : ℕ) → ((s : ℕ) → s < n → count_by (λ x. server x == s) xs ≤ most) → length (filter (λ x. nat_lt (server x) n) xs) ≤ n * most
few_below server xs most zero each = let none = none_below server xs in omega (arith, none)
few_below server xs most (suc n) each =
    let more = below_more server xs n in
    let rest = few_below server xs most n (λ s l. each s (omega arith)) in
    let last = each n (omega arith) in
    let kept = length-filter (λ x. server x == n) xs in
    let product = suc-mul n most in
    omega (arith, more, rest, last, kept, product)

-- each of a few servers has few items, so there are few
pub few_items : {X : Type 0} (server : X → ℕ) (xs : List X) (n : ℕ) → n ≤ 8 → All (λ x. server x < n) xs → ((s : ℕ) → s < n → count_by (λ x. server x == s) xs ≤ 4096) → length xs ≤ 32768
few_items server xs n few all each =
    let below = all_below server n xs all in
    let count = few_below server xs 4096 n each in
    omega (arith, few, below, count)

pub record AreFew (lists : Lists) : Type 0 where
  pub servers : length lists.servers ≤ limit.MAX_SERVERS
  pub nodes : length lists.nodes ≤ limit.MAX_SERVERS * limit.MAX_NAMES
  pub mounts : length lists.mounts ≤ limit.MAX_SERVERS * limit.MAX_NAMES
  pub clients : length lists.clients ≤ limit.MAX_SERVERS * limit.MAX_CONNECTIONS

pub few_of : (lists : Lists) → AreAccepted lists → AreFew lists
few_of lists accepted =
    let n = length lists.servers in
    let servers = accepted.items.servers.few in
    record {
      servers = servers;
      nodes = few_items (λ (node : NodeItem). node.server) lists.nodes n servers
          (All-weaker (IsNode n) (λ (node : NodeItem). node.server < n) (λ node h. h.at.server) lists.nodes accepted.items.nodes)
          (λ s within. let held = few_names lists accepted s within in omega (arith, held));
      mounts = few_items (λ (mount : MountItem). mount.server) lists.mounts n servers
          (All-weaker (IsMount n) (λ (mount : MountItem). mount.server < n) (λ mount h. h.at.server) lists.mounts accepted.items.mounts)
          (λ s within. let held = few_names lists accepted s within in omega (arith, held));
      clients = few_items (λ (client : ClientItem). client.server) lists.clients n servers
          (All-weaker (IsClient n) (λ (client : ClientItem). client.server < n) (λ client h. h.at.server) lists.clients accepted.items.clients)
          (λ s within. let held = few_connections lists accepted s within in omega (arith, held));
    }
