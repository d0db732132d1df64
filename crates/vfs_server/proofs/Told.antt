-- What a server tells its watchers is what the journal says.
use Rattle.std.proofs.Common.{◌≡◌, ◌∙◌, ℕ, ◌==◌, Bool, true, false, ◌&&◌, cond, List, [], ◌∷◌, ◌++◌, map, filter, Option, None, refl, sym, ap, append_assoc}
use Rattle.std.specs.FinMap as finite
use Rattle.std.specs.Option.{option_map_or}
use Rattle.std.proofs.lemmas.Bool.{eq-eqb}
use Rattle.std.proofs.lemmas.List.Elements.{filter_agree}
use Rattle.link_frames.specs.Frames.{Frame, spellings}
use Rattle.link_frames.proofs.Runs.{spellings-append}
use Rattle.node_graph.specs.declared.nodes.NodeRef.{NodeRef}
use Rattle.node_graph.specs.Graph.{Kept, Listed, StandsFor, listed_after, number_of}
use Rattle.node_graph.specs.Tree.{Change, EdgeKey, EdgeTo, Edges, Tree, after, names_in, stay}
use Rattle.path_walk.specs.Names.{dot}
use Rattle.conn_rules.specs.Answers.{Happening}
use Rattle.conn_rules.specs.Answers as news
use Rattle.watch_events.specs.Messages.{Watcher, added, deleted, removed, told}
use Rattle.watch_events.specs.Messages as messages
use Rattle.vfs_journal.specs.History.{watches_node}
use Rattle.vfs_journal.specs.Starts.{Bound}
use Rattle.vfs_journal.specs.Watching.{first_frames, told_frames}
use Rattle.vfs_journal.specs.Watching as journal
use Rattle.vfs_server.specs.declared.deed.Deed.{Deed}
use Rattle.vfs_server.specs.declared.deed.Deed.TheVariants as deeds
use Rattle.vfs_server.specs.Effects.{effects_done}
use Rattle.vfs_server.specs.Seats.{Seats, is_at, watcher_of, watchers_at}
use Rattle.vfs_server.specs.Telling.{told_of, told_to}
use Rattle.vfs_server.specs.Watched.{bound_at, bounds_at, first_of}

-- ---- changes

-- the watchers of a directory
watching_there : (index directory : ℕ) (seats : Seats) → map journal.watcher_of (filter (watches_node index directory) (bounds_at index seats)) ≡ watchers_at directory seats
watching_there index directory [] = refl
watching_there index directory (e ∷ es) =
    ap
    (λ b. map journal.watcher_of (cond (b && is_at directory e) (bound_at index e ∷ filter (watches_node index directory) (bounds_at index es)) (filter (watches_node index directory) (bounds_at index es))))
    (eq-eqb index index refl)
    ∙ by_place (is_at directory e) (watching_there index directory es)
  where
    by_place : (b : Bool) → map journal.watcher_of (filter (watches_node index directory) (bounds_at index es)) ≡ watchers_at directory es →
        map journal.watcher_of (cond b (bound_at index e ∷ filter (watches_node index directory) (bounds_at index es)) (filter (watches_node index directory) (bounds_at index es)))
        ≡ map watcher_of (cond b (e ∷ filter (is_at directory) es) (filter (is_at directory) es))
    by_place true rest = ap (λ later. watcher_of e ∷ later) rest
    by_place false rest = rest

pub told_is : (index : ℕ) (seats : Seats) (happenings : List Happening) → told_frames (bounds_at index seats) index happenings ≡ told_of seats happenings
told_is index seats [] = refl
told_is index seats (happening ∷ later) = λ i. one happening i ++ told_is index seats later i where
  one : (happening : Happening) → journal.told_by (bounds_at index seats) index happening ≡ told_to seats happening
  one (news.removed name) = ap (λ (ws : List Watcher). told ws removed name.name) (watching_there index name.directory seats)
  one (news.added name) = ap (λ (ws : List Watcher). told ws added name.name) (watching_there index name.directory seats)
  one (news.deleted directory) = ap (λ (ws : List Watcher). told ws deleted dot) (watching_there index directory seats)

-- ---- a new watcher

-- the names of a whole listing are those of the directory
pub names_are : (edges : Edges) (directory : ℕ) (views : List Listed) → map (λ view. (view.name, view.number)) views ≡ listed_after edges directory None → map (λ view. view.name) views ≡ names_in edges directory
names_are edges directory views is =
    firsts views ∙ ap (map (λ (pair : List ℕ × ℕ). pair.0)) is
    ∙ names_alone (filter (λ entry. (entry.0.directory == directory) && true) (finite.entries edges))
    ∙ ap (map (λ entry. entry.0.name)) (filter_agree (λ entry. (entry.0.directory == directory) && true) (λ entry. entry.0.directory == directory) (λ entry. whole (entry.0.directory == directory)) (finite.entries edges))
  where
    firsts : (vs : List Listed) → map (λ view. view.name) vs ≡ map (λ (pair : List ℕ × ℕ). pair.0) (map (λ view. (view.name, view.number)) vs)
    firsts [] = refl
    firsts (v ∷ vs) = ap (λ later. v.name ∷ later) (firsts vs)

    names_alone : (es : List (EdgeKey × EdgeTo)) → map (λ (pair : List ℕ × ℕ). pair.0) (map (λ entry. (entry.0.name, entry.1.child)) es) ≡ map (λ entry. entry.0.name) es
    names_alone [] = refl
    names_alone (e ∷ es) = ap (λ later. e.0.name ∷ later) (names_alone es)

    whole : (b : Bool) → (b && true) ≡ b
    whole true = refl
    whole false = refl

-- the edges stay where it is told of the names
pub first_is : (tree : Tree) (changed : Kept) (change : Change) (endpoint server : ℕ) (fate : Deed) (bound : Option Bound) → StandsFor changed (after tree change) →
    ((object mask : ℕ) (directory : NodeRef) → fate ≡ deeds.Watches object directory mask → change ≡ stay) →
    bound ≡ (effects_done endpoint server fate).bound → option_map_or (λ one. first_frames tree one) bound [] ≡ first_of changed.edges fate
first_is tree changed change endpoint server deeds.Stays bound stands still is = rw is refl
first_is tree changed change endpoint server deeds.Ends bound stands still is = rw is refl
first_is tree changed change endpoint server (deeds.Binds object birth) bound stands still is = rw is refl
first_is tree changed change endpoint server (deeds.Watches object directory mask) bound stands still is =
    ap (λ o. option_map_or (λ one. first_frames tree one) o []) is
    ∙ ap (λ (edges : Edges). messages.first_frames object mask (names_in edges (number_of directory))) (ap (λ c. (after tree c).edges) (sym (still object mask directory refl)) ∙ sym stands.edges)
first_is tree changed change endpoint server (deeds.Refuses object) bound stands still is = rw is refl
first_is tree changed change endpoint server (deeds.Forwards mount object flags rest) bound stands still is = rw is refl
first_is tree changed change endpoint server (deeds.Gives token directory) bound stands still is = rw is refl

-- ---- one behind the other

pub one_behind : (before between behind : List ℕ) (one other : List Frame) → between ≡ before ++ spellings one → behind ≡ between ++ spellings other → behind ≡ before ++ spellings (one ++ other)
one_behind before between behind one other first second =
    second ∙ ap (λ (bs : List ℕ). bs ++ spellings other) first ∙ append_assoc before (spellings one) (spellings other) ∙ ap (λ (bs : List ℕ). before ++ bs) (sym (spellings-append one other))
