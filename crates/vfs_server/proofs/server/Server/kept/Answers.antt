use Rattle.std.proofs.Common.{◌∙◌, ◌+◌, ◌≤◌, ℕ, ap, sym, subst}
use Rattle.std.specs.Prelude.{count_by}
use Rattle.std.specs.FinMap as finite
use Rattle.fidl_names.specs.declared.limits.TheConstants as limit
use Rattle.node_graph.specs.Graph.{Kept, is_kept, numbers_to}
use Rattle.vfs_server.specs.Servers.{Server}
use Rattle.vfs_server.proofs.KeptNodes.{as_many_kept, few_kept}
use Rattle.vfs_server.proofs.server.Server.kept.Goals as goal

pub returns-clause-kept : goal.returns-clause-kept
returns-clause-kept c =
    λ view holds.
    c.kept.ensures.count
    ∙ ap (λ (server : Server). count_by (is_kept server.graph) (numbers_to server.graph.made)) c.self.view_is
    ∙ as_many_kept view c.args.self.now holds

pub returns-clause-few : goal.returns-clause-few
returns-clause-few c =
    let Few : ℕ → Kept → Type 0 = λ count graph. count ≤ 1 + finite.len graph.edges + limit.MAX_CONNECTIONS + limit.MAX_TOKENS in
    subst (Few c.kept.result) (ap (λ (server : Server). server.graph) c.self.view_is)
    (subst (λ (count : ℕ). Few count c.self.inside.graph) (sym c.kept.ensures.count) (few_kept c.self.invariant))
