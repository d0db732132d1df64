use Rattle.std.proofs.Common.{◌≡◌, ◌∙◌, [], List, ℕ, None, Some, ap, sym}
use Rattle.session_start.specs.Items.{NodeItem, MountItem, ClientItem, Lists}
use Rattle.session_start.specs.RulesOnLists.{first_failing, bytes_fit, names_fit, connections_fit, rule_11, rule_12, rule_13}
use Rattle.tree_file.proofs.First.{third-broken}
use Rattle.tree_file.proofs.start.check_counts.Goals as goal

-- a rule that asks three lists, of the same lists
same-asked : {A B C D : Type 0} (ask : A → B → C → D) (a a' : A) (b b' : B) (c c' : C) → a ≡ a' → b ≡ b' → c ≡ c' → ask a b c ≡ ask a' b' c'
same-asked ask a a' b b' c c' e f g = cc

pub returns-in-Some-busy_server-clause-refused : goal.returns-in-Some-busy_server-clause-refused
returns-in-Some-busy_server-clause-refused c =
    let lists = c.args.parts.now in
    let small : rule_11 lists ≡ None =
    ap (λ (nodes : List NodeItem). first_failing bytes_fit [] nodes) (sym (c.deref.ensures.value ∙ ap (λ (l : Lists). l.nodes) c.parts.view_is)) ∙ sym c.large_node.ensures.first ∙ c.in_default.is in
    let few : rule_12 lists ≡ None =
    same-asked (λ (nodes : List NodeItem) (mounts : List MountItem) (servers : List (List ℕ)). first_failing (names_fit nodes mounts) [] servers)
    lists.nodes c.deref-3.result.now lists.mounts c.deref-4.result.now lists.servers c.deref-2.result.now
    (sym (c.deref-3.ensures.value ∙ ap (λ (l : Lists). l.nodes) c.parts.view_is)) (sym (c.deref-4.ensures.value ∙ ap (λ (l : Lists). l.mounts) c.parts.view_is)) (sym (c.deref-2.ensures.value ∙ ap (λ (l : Lists). l.servers) c.parts.view_is))
    ∙ sym c.crowded_server.ensures ∙ c.in_default-crowded_server.is in
    let busy : rule_13 lists ≡ Some c.in-Some-busy_server.item =
    same-asked (λ (mounts : List MountItem) (clients : List ClientItem) (servers : List (List ℕ)). first_failing (connections_fit mounts clients) [] servers)
    lists.mounts c.deref-6.result.now lists.clients c.deref-7.result.now lists.servers c.deref-5.result.now
    (sym (c.deref-6.ensures.value ∙ ap (λ (l : Lists). l.mounts) c.parts.view_is)) (sym (c.deref-7.ensures.value ∙ ap (λ (l : Lists). l.clients) c.parts.view_is)) (sym (c.deref-5.ensures.value ∙ ap (λ (l : Lists). l.servers) c.parts.view_is))
    ∙ sym c.busy_server.ensures ∙ c.in-Some-busy_server.is in
    third-broken (rule_11 lists) (rule_12 lists) (rule_13 lists) c.in-Some-busy_server.item c.broken-in-Some-busy_server.result small few busy c.broken-in-Some-busy_server.ensures
