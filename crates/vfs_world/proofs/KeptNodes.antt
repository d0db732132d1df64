-- The servers of a world that runs, and that each keeps few nodes.
use Rattle.std.proofs.Common.{◌≡◌, ℕ, zero, suc, ◌+◌, ◌^◌, ◌<◌, ◌≤◌, List, [], ◌∷◌, All, Some, length, refl, sym, ap, ◌∙◌, arith}
use Rattle.std.specs.Prelude.{slice_get, slice_index_or}
use Rattle.std.specs.FinMap as finite
use Rattle.std.proofs.lemmas.List.Elements.{All-head, All-tail}
use Rattle.std.proofs.lemmas.Option.{slice_get_read}
use Rattle.fidl_names.specs.declared.limits.TheConstants as limit
use Rattle.node_graph.specs.Tree.{EdgeTo, Edges, IsSound, Tree, edge_cmp}
use Rattle.vfs_journal.specs.Entries.{Journal}
use Rattle.vfs_journal.specs.History.{tree_at, trees_of}
use Rattle.vfs_journal.specs.Past.{history_of}
use Rattle.vfs_journal.specs.Starts.{Start}
use Rattle.vfs_journal.specs.View.{View}
use Rattle.journal_laws.specs.Viewing.{view_behind}
use Rattle.journal_laws.proofs.Below.{below}
use Rattle.journal_laws.proofs.SoundTrees.{trees_sound}
use Rattle.vfs_server.specs.KeptNodes.{kept_in}
use Rattle.vfs_server.specs.Holding.{HoldsAt}
use Rattle.vfs_server.specs.Servers.{Server}
use Rattle.vfs_world.specs.Running.{IsRunning}
use Rattle.vfs_world.specs.World.{StandsFor, World}

-- it has as many servers as its queues tell
pub many_servers : {most : ℕ} (world : World) → IsRunning most world → length world.servers ≡ world.queues.servers
many_servers world r = r.stands.holds.servers.many ∙ sym r.stands.holds.queues.those

few_in : (trees : List Tree) (server : ℕ) → All IsSound trees → finite.len (tree_at trees server).edges ≤ limit.MAX_NAMES
few_in [] server sound = let none = finite.len-empty edge_cmp EdgeTo in omega (arith, none)
few_in (tree ∷ trees) zero sound = (All-head IsSound tree trees sound).few_names
few_in (tree ∷ trees) (suc server) sound = few_in trees server (All-tail IsSound tree trees sound)

-- few names are at each of them
pub few_names : {most : ℕ} (world : World) → IsRunning most world → (index : ℕ) (server : Server) → slice_get world.servers index ≡ Some server →
    finite.len server.graph.edges ≤ limit.MAX_NAMES
few_names world r index server there =
    let few = few_in (trees_of r.start (history_of r.start r.journal)) server.index (trees_sound (below r.apart) r.start r.journal r.stands.sound r.stands.lawful) in
    let same = ap (λ (edges : Edges). finite.len edges) (r.stands.holds.servers.each index server there).tree.edges in
    omega (arith, few, same)

-- what a server counts as its own view has it, it counts for its index
pub kept_there : (start : Start) (world : World) (journal : Journal) → StandsFor start world journal → (index : ℕ) (server : Server) (count : ℕ) → slice_get world.servers index ≡ Some server →
    (HoldsAt (view_behind start journal) server → count ≡ kept_in (view_behind start journal) server.index) → count ≡ kept_in (view_behind start journal) index
kept_there start world journal stands index server count there counts =
    counts (stands.holds.servers.each index server there) ∙ ap (kept_in (view_behind start journal)) (stands.holds.servers.index index server there)

-- ---- in a session that runs

module _ (world : World) (run : (most : ℕ) × IsRunning most world) (index : ℕ) (known : index < world.queues.servers) where
  pub is_there : index < length world.servers
  is_there = let many = many_servers world run.1 in omega (arith, many, known)

  -- the one that is found there
  found : (server : Server) → server ≡ slice_index_or world.servers index server → slice_get world.servers index ≡ Some server
  found server is = slice_get_read world.servers _ index server refl is_there is

  pub count_low : (server : Server) (count : ℕ) → server ≡ slice_index_or world.servers index server →
      count ≤ 1 + finite.len server.graph.edges + limit.MAX_CONNECTIONS + limit.MAX_TOKENS → count < 2 ^ 32
  count_low server count is few = let names = few_names world run.1 index server (found server is) in omega (arith, few, names)

  pub counted_there : (start : Start) (journal : Journal) → StandsFor start world journal → (server : Server) (count : ℕ) → server ≡ slice_index_or world.servers index server →
      ((v : View) → HoldsAt v server → count ≡ kept_in v server.index) → count ≡ kept_in (view_behind start journal) index
  counted_there start journal stands server count is counts =
      kept_there start world journal stands index server count (found server is) (counts (view_behind start journal))
