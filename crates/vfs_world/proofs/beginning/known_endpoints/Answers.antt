use Rattle.std.proofs.Common.{◌≡◌, ◌∙◌, ℕ, All, IfOk, List, Ok, Err, Result, arith, length, map, subst, sym, true}
use Rattle.fidl_names.specs.HandleNumber.{is_client}
use Rattle.link_admission.specs.Standings.{Known, Starts}
use Rattle.link_admission.specs.Tables.{AreEachOnce}
use Rattle.vfs_journal.specs.Starts.{Bound, start_of}
use Rattle.vfs_world.proofs.Begun.{clients_are, clients_distinct, few_live, knows}
use Rattle.vfs_world.proofs.beginning.known_endpoints.Goals as goal

if_ok : {X E : Type 0} (r : Result X E) (P Q : X → Type 0) → ((x : X) → P x → Q x) → IfOk r P → IfOk r Q
if_ok (Ok x) P Q f p = f x p
if_ok (Err e) P Q f p = tt

pub new-requires-clause-clients : goal.new-requires-clause-clients
new-requires-clause-clients c =
    subst (All (λ n. is_client n ≡ true)) (sym (c.deref.ensures.value ∙ c.in_ok-firsts.ensures)) (clients_are c.args.start.now c.requires.accepted)

pub new-requires-clause-distinct : goal.new-requires-clause-distinct
new-requires-clause-distinct c =
    subst AreEachOnce (sym (c.deref.ensures.value ∙ c.in_ok-firsts.ensures)) (clients_distinct c.args.start.now c.requires.accepted)

pub new-requires-clause-few : goal.new-requires-clause-few
new-requires-clause-few c =
    let few = few_live c.args.start.now c.requires.accepted in
    let mounts = c.mounts.ensures in
    rw (c.deref.ensures.value ∙ c.in_ok-firsts.ensures) (omega (arith, few, mounts))

pub returns : goal.returns
returns c =
    let lists = c.args.start.now in
    if_ok c.new.result (Starts c.deref.result.now c.mounts.result c.servers.result) _ (λ (known : Known) starts.
    knows lists c.requires.accepted known
    (subst (λ (m : ℕ). Starts (map (λ (bound : Bound). bound.endpoint) (start_of lists).firsts) m (length lists.servers) known) c.mounts.ensures
    (subst (λ (n : ℕ). Starts (map (λ (bound : Bound). bound.endpoint) (start_of lists).firsts) c.mounts.result n known) c.servers.ensures.count
    (subst (λ (firsts : List ℕ). Starts firsts c.mounts.result c.servers.result known) (c.deref.ensures.value ∙ c.in_ok-firsts.ensures) starts)))) c.new.ensures
