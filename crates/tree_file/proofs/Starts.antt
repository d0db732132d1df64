-- What a text that is read stands for.
use Rattle.std.proofs.Common.{◌≡◌, ℕ, List, [], ◌∷◌, Option, Some, None, Result, Ok, Err, IfOk, IfErr, OnOk, ap, ◌∙◌, sym}
use Rattle.std.specs.Result.{result_err}
use Rattle.toml.specs.Data.{Data}
use Rattle.session_start.specs.Items.{NodeItem, MountItem, ClientItem, Lists}
use Rattle.session_start.specs.RulesOnLists.{first_broken}
use Rattle.tree_file.specs.declared.faults.TreeFault.{TreeFault}
use Rattle.tree_file.specs.Faults.{Breaks, IsFirst}
use Rattle.tree_file.specs.Rules.{document_of, all_or_none, servers_of, read_servers, read_nodes, read_mounts, read_clients, lists_of, rule_2, rule_3, rule_4, rule_5, rule_6, rule_7, rules_on_form, broken_in, failure_of, first_failure, start_from}
use Rattle.tree_file.proofs.First.{first-here, first-later}

pub start-read : (text : List ℕ) (document : Data) → document_of text ≡ Some document → start_from text ≡ Some (lists_of document)
unfolding start_from
start-read text document read = rw read

pub failure-read : (text : List ℕ) (document : Data) → document_of text ≡ Some document → first_failure text ≡ broken_in document
unfolding first_failure
failure-read text document read = ap failure_of read

pub ok_start : (result : Result Lists TreeFault) (document : Data) (text : List ℕ) → start_from text ≡ Some (lists_of document) → IfOk result (λ start. start ≡ lists_of document) → IfOk result (λ start. start_from text ≡ Some start)
ok_start (Ok start) document text read is = read ∙ ap Some (sym is)
ok_start (Err fault) document text read is = is

-- the lists of a document, list by list
gathered : Result (List (List ℕ)) ℕ → Result (List NodeItem) ℕ → Result (List MountItem) ℕ → Result (List ClientItem) ℕ → Lists
gathered servers nodes mounts clients = record { servers = all_or_none servers; nodes = all_or_none nodes; mounts = all_or_none mounts; clients = all_or_none clients }

gathered-same : (s s' : Result (List (List ℕ)) ℕ) (n n' : Result (List NodeItem) ℕ) (m m' : Result (List MountItem) ℕ) (c c' : Result (List ClientItem) ℕ)
    → s ≡ s' → n ≡ n' → m ≡ m' → c ≡ c' → gathered s n m c ≡ gathered s' n' m' c'
gathered-same s s' n n' m m' c c' d e f g = cc

pub lists-read : {X : Type 0} (result : Result X TreeFault) (document : Data) (servers : List (List ℕ)) (nodes : List NodeItem) (mounts : List MountItem) (clients : List ClientItem)
    → read_servers document ≡ Ok servers → read_nodes document ≡ Ok nodes → read_mounts document ≡ Ok mounts → OnOk result (read_clients document ≡ Ok clients)
    → OnOk result (record { servers = servers; nodes = nodes; mounts = mounts; clients = clients } ≡ lists_of document)
unfolding gathered
lists-read (Ok x) document servers nodes mounts clients s n m c =
    sym (gathered-same (read_servers document) (Ok servers) (read_nodes document) (Ok nodes) (read_mounts document) (Ok mounts) (read_clients document) (Ok clients) s n m c)
lists-read (Err fault) document servers nodes mounts clients s n m c = tt

-- the rules on the form hold
passed : (a b c d e f : Option ℕ) → first_broken 2 (a ∷ b ∷ []) ≡ None → c ≡ None → d ≡ None → e ≡ None → f ≡ None → first_broken 2 (a ∷ b ∷ c ∷ d ∷ e ∷ f ∷ []) ≡ None
passed None None c d e f form third fourth fifth sixth = rw (third, fourth, fifth, sixth)
passed (Some x) b c d e f form third fourth fifth sixth = absurd (cc)
passed None (Some x) c d e f form third fourth fifth sixth = absurd (cc)

-- what is broken first behind the rules on the document itself
behind : (a b : Option ℕ) (rules : List (Option ℕ)) (fault : TreeFault) → first_broken 2 (a ∷ b ∷ []) ≡ None → IsFirst (first_broken 4 rules) fault → IsFirst (first_broken 2 (a ∷ b ∷ rules)) fault
behind None None rules fault form first = first
behind (Some x) b rules fault form first = absurd (cc)
behind None (Some x) rules fault form first = absurd (cc)

none_broken : {Y : Type 0} (whole : Result (List Y) ℕ) (ys : List Y) → whole ≡ Ok ys → result_err whole ≡ None
none_broken whole ys is = rw is

pub form-read : {X : Type 0} (result : Result X TreeFault) (document : Data) (servers : List (List ℕ)) (nodes : List NodeItem) (mounts : List MountItem) (clients : List ClientItem)
    → first_broken 2 (rule_2 document ∷ rule_3 document ∷ []) ≡ None
    → read_servers document ≡ Ok servers → read_nodes document ≡ Ok nodes → read_mounts document ≡ Ok mounts → OnOk result (read_clients document ≡ Ok clients)
    → OnOk result (first_broken 2 (rules_on_form document) ≡ None)
form-read (Ok x) document servers nodes mounts clients form s n m c =
    passed (rule_2 document) (rule_3 document) (rule_4 document) (rule_5 document) (rule_6 document) (rule_7 document) form (none_broken (read_servers document) servers s) (none_broken (read_nodes document) nodes n) (none_broken (read_mounts document) mounts m) (none_broken (read_clients document) clients c)
form-read (Err fault) document servers nodes mounts clients form s n m c = tt

-- the rule on each list, where it is broken first
module _ (document : Data) (fault : TreeFault) (form : first_broken 2 (rule_2 document ∷ rule_3 document ∷ []) ≡ None) where
  pub servers-broken : Breaks 4 (rule_4 document) fault → IsFirst (first_broken 2 (rules_on_form document)) fault
  servers-broken breaks =
      behind (rule_2 document) (rule_3 document) (rule_4 document ∷ rule_5 document ∷ rule_6 document ∷ rule_7 document ∷ []) fault form
      (first-here 4 (rule_4 document) (rule_5 document ∷ rule_6 document ∷ rule_7 document ∷ []) fault breaks)

  module _ (servers : List (List ℕ)) (s : read_servers document ≡ Ok servers) where
    pub nodes-broken : Breaks 5 (rule_5 document) fault → IsFirst (first_broken 2 (rules_on_form document)) fault
    nodes-broken breaks =
        behind (rule_2 document) (rule_3 document) (rule_4 document ∷ rule_5 document ∷ rule_6 document ∷ rule_7 document ∷ []) fault form
        (first-later 4 (rule_4 document) (rule_5 document ∷ rule_6 document ∷ rule_7 document ∷ []) fault (none_broken (read_servers document) servers s)
        (first-here 5 (rule_5 document) (rule_6 document ∷ rule_7 document ∷ []) fault breaks))

    module _ (nodes : List NodeItem) (n : read_nodes document ≡ Ok nodes) where
      pub mounts-broken : Breaks 6 (rule_6 document) fault → IsFirst (first_broken 2 (rules_on_form document)) fault
      mounts-broken breaks =
          behind (rule_2 document) (rule_3 document) (rule_4 document ∷ rule_5 document ∷ rule_6 document ∷ rule_7 document ∷ []) fault form
          (first-later 4 (rule_4 document) (rule_5 document ∷ rule_6 document ∷ rule_7 document ∷ []) fault (none_broken (read_servers document) servers s)
          (first-later 5 (rule_5 document) (rule_6 document ∷ rule_7 document ∷ []) fault (none_broken (read_nodes document) nodes n)
          (first-here 6 (rule_6 document) (rule_7 document ∷ []) fault breaks)))

      pub clients-broken : (mounts : List MountItem) → read_mounts document ≡ Ok mounts → Breaks 7 (rule_7 document) fault → IsFirst (first_broken 2 (rules_on_form document)) fault
      clients-broken mounts m breaks =
          behind (rule_2 document) (rule_3 document) (rule_4 document ∷ rule_5 document ∷ rule_6 document ∷ rule_7 document ∷ []) fault form
          (first-later 4 (rule_4 document) (rule_5 document ∷ rule_6 document ∷ rule_7 document ∷ []) fault (none_broken (read_servers document) servers s)
          (first-later 5 (rule_5 document) (rule_6 document ∷ rule_7 document ∷ []) fault (none_broken (read_nodes document) nodes n)
          (first-later 6 (rule_6 document) (rule_7 document ∷ []) fault (none_broken (read_mounts document) mounts m)
          (first-here 7 (rule_7 document) [] fault breaks))))

pub form-broken : {X : Type 0} (result : Result X TreeFault) (document : Data) (servers : List (List ℕ)) (nodes : List NodeItem) (mounts : List MountItem)
    → first_broken 2 (rule_2 document ∷ rule_3 document ∷ []) ≡ None
    → read_servers document ≡ Ok servers → read_nodes document ≡ Ok nodes → read_mounts document ≡ Ok mounts → IfErr result (Breaks 7 (rule_7 document))
    → IfErr result (IsFirst (first_broken 2 (rules_on_form document)))
form-broken (Ok x) document servers nodes mounts form s n m c = tt
form-broken (Err fault) document servers nodes mounts form s n m breaks = clients-broken document fault form servers s nodes n mounts m breaks

-- what holds whatever a call answers
pub anyway : {X P : Type 0} (result : Result X TreeFault) → P → OnOk result P
anyway (Ok x) holds = holds
anyway (Err fault) holds = tt

-- the servers of a document whose list is read
pub servers-are : (document : Data) (servers names : List (List ℕ)) → read_servers document ≡ Ok servers → names ≡ servers → servers_of document ≡ names
servers-are document servers names read same = ap (λ (found : Result (List (List ℕ)) ℕ). all_or_none found) read ∙ sym same
