-- What serves the first entry of a bound endpoint leads to the journal behind that serving.
use Rattle.std.proofs.Common.{◌≡◌, ℕ, ◌<◌, ◌==◌, ◌⊎◌, List, [], ◌∷◌, length, map, Contains, Some, inl, inr, sym, ap, subst, arith}
use Rattle.std.proofs.lemmas.List.Elements.{All-contains}
use Rattle.conn_rules.specs.Births.{Position}
use Rattle.fidl_wire.specs.Names.{AreDistinct}
use Rattle.vfs_journal.specs.Entries.{Journal, Sent}
use Rattle.vfs_journal.specs.History.{living, trees_of}
use Rattle.vfs_journal.specs.Lawful.{Lawful}
use Rattle.vfs_journal.specs.Past.{history_of}
use Rattle.vfs_journal.specs.Session.{after_serving}
use Rattle.vfs_journal.specs.Starts.{Bound, Start}
use Rattle.vfs_journal.specs.View.{at_in}
use Rattle.journal_laws.specs.Soundness.{IsStart}
use Rattle.journal_laws.specs.Trees.{IsOnNode}
use Rattle.journal_laws.specs.Viewing.{view_behind}
use Rattle.journal_laws.proofs.Below.{below}
use Rattle.journal_laws.proofs.Members.{contains_cases, contains_here, contains_later, contains_none, found}
use Rattle.journal_laws.proofs.OnTrees.{stand_on_trees}
use Rattle.journal_laws.proofs.ViewParts.{bounds_are}
use Rattle.message_queues.specs.Queues.{head_of, server_of}
use Rattle.vfs_world.specs.Servings.{ServesHead}
use Rattle.vfs_world.specs.World.{LeadsTo, StandsFor, World}
use Rattle.vfs_world.proofs.EachServer.{by_length}
use Rattle.vfs_world.proofs.OneServed.{IsReadyIn, ready_in, serving_leads}

-- ---- whoever is bound is at one of the servers

mapped_has : (pairs : List (Bound × Position)) (pair : Bound × Position) → Contains pairs pair → Contains (map (λ p. p.0) pairs) pair.0
mapped_has [] pair h = absurd (contains_none pair h)
mapped_has (one ∷ pairs) pair h = by_place (mapped_has pairs pair) (contains_cases pair one pairs h) where
  by_place : (Contains pairs pair → Contains (map (λ p. p.0) pairs) pair.0) → (one ≡ pair) ⊎ Contains pairs pair → Contains (map (λ p. p.0) (one ∷ pairs)) pair.0
  by_place rest (inl e) = subst (λ (b : Bound). Contains (one.0 ∷ map (λ p. p.0) pairs) b) (ap (λ (p : Bound × Position). p.0) e) (contains_here one.0 (map (λ p. p.0) pairs))
  by_place rest (inr q) = contains_later pair.0 one.0 (map (λ p. p.0) pairs) (rest q)

pub server_low : (start : Start) (journal : Journal) (endpoint : ℕ) (pair : Bound × Position) → AreDistinct → IsStart start → Lawful start journal → at_in (view_behind start journal) endpoint ≡ Some pair →
    pair.0.server < length (view_behind start journal).trees
server_low start journal endpoint pair apart sound lawful' e =
    let past = history_of start journal in
    let view = view_behind start journal in
    let lives : Contains (living start past) pair.0 =
    subst (λ (bs : List Bound). Contains bs pair.0) (bounds_are start past)
    (mapped_has view.living pair (found (λ (p : Bound × Position). p.0.endpoint == endpoint) view.living pair e).0) in
    (All-contains (IsOnNode (trees_of start past)) (living start past) pair.0 (stand_on_trees (below apart) start journal sound lawful').placed lives).server

-- ---- the whole

pub head_served : AreDistinct →
    (start : Start) (journal : Journal) (old new : World) (endpoint server : ℕ) (sent : Sent) (before after : List ℕ) → StandsFor start old journal → server_of old.queues endpoint ≡ Some server → head_of old.queues endpoint ≡ Some sent →
    ServesHead old endpoint server sent new before after → LeadsTo start (after_serving start journal sent) new journal before after
head_served apart start journal old new endpoint server sent before after s bound waits d =
    let view = view_behind start journal in
    let r : IsReadyIn view endpoint server sent = ready_in view old.queues endpoint server sent s.holds.queues bound waits in
    let low = server_low start journal sent.endpoint r.pair apart s.sound s.lawful r.found in
    let many = s.holds.servers.many in
    let first_server = by_length old.servers r.pair.0.server (omega (arith, low, many)) in
    serving_leads (below apart) start journal old new sent r.pair first_server.0 before after s r.found r.first first_server.1
    (subst (λ (n : ℕ). ServesHead old n r.pair.0.server sent new before after) (sym r.on)
    (subst (λ (n : ℕ). ServesHead old endpoint n sent new before after) (sym r.at) d))
