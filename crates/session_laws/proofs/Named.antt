-- The names that events stand for, one event after the other.
use Rattle.std.proofs.Common.{◌≡◌, ℕ, ◌==◌, ◌&&◌, ◌||◌, Bool, true, false, cond, is_some, find, reverse, List, [], ◌∷◌, ◌++◌, filter, map, Some, None, Contains, refl, sym, ap, ◌∙◌, subst, append_assoc, eq-eqb, eqb-true}
use Rattle.std.specs.List.{list_any}
use Rattle.std.specs.Option.{option_map_or}
use Rattle.std.specs.Str.{bytes_eq}
use Rattle.std.specs.FinMap as finite
use Rattle.std.specs.FinMap.Entries as entry
use Rattle.std.specs.Ordering.{eq_by_cmp}
use Rattle.std.proofs.Math.Bool.{and-false, and-true, or-false, or-true}
use Rattle.std.proofs.lemmas.Bool.{and_parts, false_from_ne_true}
use Rattle.std.proofs.lemmas.List.{append-nil, map-append, reverse-append}
use Rattle.std.proofs.lemmas.List.Elements.{filter-append}
use Rattle.std.proofs.lemmas.Slice.Eq.{bytes_eq-Decides}
use Rattle.node_graph.specs.Refusals.{is_same_name}
use Rattle.node_graph.specs.Tree.{EdgeKey, EdgeTo, Edges, edge_cmp, names_in}
use Rattle.node_graph.proofs.Ordered.{Same, same, other, same_or_other}
use Rattle.path_walk.specs.Names.{dot}
use Rattle.path_walk.proofs.PathLemmas.{same_bytes}
use Rattle.conn_rules.specs.Answers.{Happening}
use Rattle.conn_rules.specs.Answers as news
use Rattle.conn_rules.specs.NameRows.{name_in}
use Rattle.watch_events.specs.Events.{Event}
use Rattle.watch_events.specs.Messages.{added, asks_for, deleted, existing, idle, removed}
use Rattle.watch_events.specs.NamesNow.{puts_in, tells_of}
use Rattle.vfs_journal.specs.History.{is_watcher, watches_node}
use Rattle.vfs_journal.specs.Starts.{Bound}
use Rattle.journal_laws.proofs.Among.{one_passes, passes_any}
use Rattle.journal_laws.proofs.Lists.{eqb_sym}
use Rattle.session_laws.specs.Watching.{AsksForNames}
use Rattle.vfs_journal.specs.Watching.{told_as}
use Rattle.session_laws.specs.Sight.{is_told}
use Rattle.session_laws.proofs.Names.{is_there, left_behind, left_by}

-- ---- tests

pub bytes_same : (a b : List ℕ) → a ≡ b → bytes_eq a b ≡ true
bytes_same a b = (bytes_eq-Decides a b).1

-- one name is another where the directories and the names are the same
pub same_name : (directory : ℕ) (name : List ℕ) (key : EdgeKey) → is_same_name (name_in directory name) key ≡ ((directory == key.directory) && bytes_eq key.name name)
same_name directory name key = by_key (same_or_other (name_in directory name) key) where
  by_key : Same (name_in directory name) key → is_same_name (name_in directory name) key ≡ ((directory == key.directory) && bytes_eq key.name name)
  by_key (same e b) =
      b
      ∙ sym
      (ap (λ (x : Bool). x && bytes_eq key.name name) (eq-eqb directory key.directory (ap (λ (k : EdgeKey). k.directory) e))
      ∙ bytes_same key.name name (sym (ap (λ (k : EdgeKey). k.name) e)))
  by_key (other apart b) =
      b
      ∙ sym
      (false_from_ne_true ((directory == key.directory) && bytes_eq key.name name)
      (λ both.
      let parts = and_parts (directory == key.directory) (bytes_eq key.name name) both in
      apart (ap (λ (d : ℕ). name_in d name) (eqb-true directory key.directory parts.0) ∙ ap (λ (n : List ℕ). name_in key.directory n) (sym (same_bytes key.name name parts.1)))))

-- ---- one more event

-- the last event that tells of a name put it in
abbrev pub last_puts : List Event → List ℕ → Bool
last_puts events name = option_map_or puts_in (find (tells_of name) (reverse events)) false

more_puts : (events : List Event) (one : Event) (name : List ℕ) → last_puts (events ++ one ∷ []) name ≡ cond (tells_of name one) (puts_in one) (last_puts events name)
more_puts events one name = ap (λ es. option_map_or puts_in (find (tells_of name) es) false) (reverse-append events (one ∷ [])) ∙ by_test (tells_of name one) where
  by_test : (b : Bool) → option_map_or puts_in (cond b (Some one) (find (tells_of name) (reverse events))) false ≡ cond b (puts_in one) (last_puts events name)
  by_test true = refl
  by_test false = refl

-- ---- what a watcher that asks for names is told

module _ (server : ℕ) (watcher : Bound) (is : is_watcher watcher.birth.protocol ≡ true) (at : (watcher.server == server) ≡ true) (asks : AsksForNames watcher) (name : List ℕ) where
  abbrev its_name : EdgeKey
  its_name = name_in watcher.birth.node name

  -- it is told of what happens in its directory and its mask has
  told_here : (place event : ℕ) → asks_for watcher.mask event ≡ true → (watches_node server place watcher && asks_for watcher.mask event) ≡ (watcher.birth.node == place)
  told_here place event has =
      ap (λ (b : Bool). watches_node server place watcher && b) has
      ∙ and-true (watches_node server place watcher)
      ∙ ap (λ (b : Bool). b && ((watcher.server == server) && (watcher.birth.node == place))) is
      ∙ ap (λ (b : Bool). b && (watcher.birth.node == place)) at

  removed_puts : (events : List Event) (key : EdgeKey) (here : Bool) →
      last_puts (events ++ map told_as (cond here (news.removed key ∷ []) [])) name ≡ cond (here && bytes_eq key.name name) false (last_puts events name)
  removed_puts events key true =
      more_puts events (told_as (news.removed key)) name ∙ ap (λ (b : Bool). cond b false (last_puts events name)) (and-true (bytes_eq key.name name))
  removed_puts events key false = ap (λ es. last_puts es name) (append-nil events)

  added_puts : (events : List Event) (key : EdgeKey) (here : Bool) →
      last_puts (events ++ map told_as (cond here (news.added key ∷ []) [])) name ≡ cond (here && bytes_eq key.name name) true (last_puts events name)
  added_puts events key true =
      more_puts events (told_as (news.added key)) name ∙ ap (λ (b : Bool). cond b true (last_puts events name)) (and-true (bytes_eq key.name name))
  added_puts events key false = ap (λ es. last_puts es name) (append-nil events)

  deleted_puts : (events : List Event) (directory : ℕ) (here : Bool) → last_puts (events ++ map told_as (cond here (news.deleted directory ∷ []) [])) name ≡ last_puts events name
  deleted_puts events directory true =
      more_puts events (told_as (news.deleted directory)) name ∙ ap (λ (b : Bool). cond b false (last_puts events name)) (and-false (bytes_eq dot name))
  deleted_puts events directory false = ap (λ es. last_puts es name) (append-nil events)

  one_puts : (events : List Event) (happening : Happening) →
      last_puts (events ++ map told_as (filter (is_told server watcher) (happening ∷ []))) name ≡ left_by its_name (last_puts events name) happening
  one_puts events (news.removed key) =
      ap (λ (b : Bool). last_puts (events ++ map told_as (cond b (news.removed key ∷ []) [])) name) (told_here key.directory removed asks.removals)
      ∙ removed_puts events key (watcher.birth.node == key.directory)
      ∙ sym (ap (λ (b : Bool). cond b false (last_puts events name)) (same_name watcher.birth.node name key))
  one_puts events (news.added key) =
      ap (λ (b : Bool). last_puts (events ++ map told_as (cond b (news.added key ∷ []) [])) name) (told_here key.directory added asks.additions)
      ∙ added_puts events key (watcher.birth.node == key.directory)
      ∙ sym (ap (λ (b : Bool). cond b true (last_puts events name)) (same_name watcher.birth.node name key))
  one_puts events (news.deleted directory) = deleted_puts events directory (watches_node server directory watcher && asks_for watcher.mask deleted)

  pub told_puts : (events : List Event) (happenings : List Happening) →
      last_puts (events ++ map told_as (filter (is_told server watcher) happenings)) name ≡ left_behind its_name (last_puts events name) happenings
  told_puts events [] = ap (λ es. last_puts es name) (append-nil events)
  told_puts events (happening ∷ later) =
      let here = map told_as (filter (is_told server watcher) (happening ∷ [])) in
      let others = map told_as (filter (is_told server watcher) later) in
      ap (λ happened. last_puts (events ++ map told_as happened) name) (filter-append (is_told server watcher) (happening ∷ []) later)
      ∙ ap (λ es. last_puts (events ++ es) name) (map-append told_as (filter (is_told server watcher) (happening ∷ [])) (filter (is_told server watcher) later))
      ∙ ap (λ es. last_puts es name) (sym (append_assoc events here others))
      ∙ told_puts (events ++ here) later
      ∙ ap (λ (was : Bool). left_behind its_name was later) (one_puts events happening)

-- ---- a snapshot

abbrev pub is_existing : List ℕ → Event
is_existing name = record { event = existing; name = name }

abbrev pub all_said : Event
all_said = record { event = idle; name = [] }

existing_puts : (names : List (List ℕ)) (events : List Event) (name : List ℕ) →
    last_puts (events ++ map is_existing names) name ≡ (last_puts events name || list_any (λ (n : List ℕ). bytes_eq n name) names)
existing_puts [] events name = ap (λ es. last_puts es name) (append-nil events) ∙ sym (or-false (last_puts events name))
existing_puts (one ∷ names) events name =
    ap (λ es. last_puts es name) (sym (append_assoc events (is_existing one ∷ []) (map is_existing names)))
    ∙ existing_puts names (events ++ is_existing one ∷ []) name
    ∙ ap (λ (b : Bool). b || list_any (λ (n : List ℕ). bytes_eq n name) names)
    (more_puts events (is_existing one) name ∙ ap (λ (b : Bool). cond b true (last_puts events name)) (and-true (bytes_eq one name)))
    ∙ by_test (bytes_eq one name) (last_puts events name) where
      by_test : (b was : Bool) → (cond b true was || list_any (λ (n : List ℕ). bytes_eq n name) names) ≡ (was || (b || list_any (λ (n : List ℕ). bytes_eq n name) names))
      by_test true was = sym (or-true was)
      by_test false was = refl

-- that these are all puts nothing in, and takes nothing out
said_puts : (events : List Event) (name : List ℕ) (said : Bool) → last_puts (events ++ cond said (all_said ∷ []) []) name ≡ last_puts events name
said_puts events name true = more_puts events all_said name ∙ ap (λ (b : Bool). cond b false (last_puts events name)) (and-false (bytes_eq [] name))
said_puts events name false = ap (λ es. last_puts es name) (append-nil events)

-- `.` and these names, and that these are all where it is said
pub snapshot_puts : (names : List (List ℕ)) (name : List ℕ) (said : Bool) → bytes_eq dot name ≡ false →
    last_puts ((is_existing dot ∷ map is_existing names) ++ cond said (all_said ∷ []) []) name ≡ list_any (λ (n : List ℕ). bytes_eq n name) names
snapshot_puts names name said no_dot =
    said_puts (is_existing dot ∷ map is_existing names) name said
    ∙ existing_puts names (is_existing dot ∷ []) name
    ∙ ap (λ (b : Bool). option_map_or puts_in (cond (b && true) (Some (is_existing dot)) None) false || list_any (λ (n : List ℕ). bytes_eq n name) names) no_dot

-- ---- the names of a directory

among_names : (directory : ℕ) (name : List ℕ) (es : List (EdgeKey × EdgeTo)) →
    list_any (λ (n : List ℕ). bytes_eq n name) (map (λ (e : EdgeKey × EdgeTo). e.0.name) (filter (λ (e : EdgeKey × EdgeTo). e.0.directory == directory) es))
    ≡ list_any (eq_by_cmp edge_cmp (name_in directory name)) (map (λ (e : EdgeKey × EdgeTo). e.0) es)
among_names directory name [] = refl
among_names directory name (e ∷ es) =
    by_test (e.0.directory == directory) (among_names directory name es)
    ∙ ap (λ (b : Bool). b || list_any (eq_by_cmp edge_cmp (name_in directory name)) (map (λ (x : EdgeKey × EdgeTo). x.0) es))
    (ap (λ (b : Bool). b && bytes_eq e.0.name name) (eqb_sym e.0.directory directory) ∙ sym (same_name directory name e.0)) where
      by_test : (b : Bool) →
          list_any (λ (n : List ℕ). bytes_eq n name) (map (λ (x : EdgeKey × EdgeTo). x.0.name) (filter (λ (x : EdgeKey × EdgeTo). x.0.directory == directory) es))
          ≡ list_any (eq_by_cmp edge_cmp (name_in directory name)) (map (λ (x : EdgeKey × EdgeTo). x.0) es) →
          list_any (λ (n : List ℕ). bytes_eq n name)
          (map (λ (x : EdgeKey × EdgeTo). x.0.name) (cond b (e ∷ filter (λ (x : EdgeKey × EdgeTo). x.0.directory == directory) es) (filter (λ (x : EdgeKey × EdgeTo). x.0.directory == directory) es)))
          ≡ ((b && bytes_eq e.0.name name) || list_any (eq_by_cmp edge_cmp (name_in directory name)) (map (λ (x : EdgeKey × EdgeTo). x.0) es))
      by_test true rest = ap (λ (b : Bool). bytes_eq e.0.name name || b) rest
      by_test false rest = rest

pub named_there : (edges : Edges) (directory : ℕ) (name : List ℕ) → list_any (λ (n : List ℕ). bytes_eq n name) (names_in edges directory) ≡ is_there edges (name_in directory name)
named_there edges directory name =
    among_names directory name (finite.entries edges)
    ∙ sym (ap is_some (finite.get-entries edges (name_in directory name)) ∙ entry.is_some-find edge_cmp (name_in directory name) (finite.entries edges))

pub there_is_among : (edges : Edges) (directory : ℕ) (name : List ℕ) → is_there edges (name_in directory name) ≡ true → Contains (names_in edges directory) name
there_is_among edges directory name there =
    let one = one_passes (λ (n : List ℕ). bytes_eq n name) (names_in edges directory) (named_there edges directory name ∙ there) in
    subst (Contains (names_in edges directory)) (same_bytes one.0 name one.2) one.1

pub among_is_there : (edges : Edges) (directory : ℕ) (name : List ℕ) → Contains (names_in edges directory) name → is_there edges (name_in directory name) ≡ true
among_is_there edges directory name there =
    sym (named_there edges directory name) ∙ passes_any (λ (n : List ℕ). bytes_eq n name) (names_in edges directory) name there (bytes_same name name refl)
