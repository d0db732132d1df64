-- A watcher that asks for names knows the names of its directory.
use Rattle.std.proofs.Common.{◌≡◌, ℕ, zero, suc, ◌<◌, ◌==◌, ◌&&◌, ◌⊎◌, Bool, true, false, not, cond, List, [], ◌∷◌, ◌++◌, length, filter, map, option_to_list, Option, Some, None, All, Contains, refl, sym, ap, ◌∙◌, subst, inl, inr, eq-eqb, eqb-true, lit<, arith}
use Rattle.vfs_journal.specs.Lawful.{Lawful}
use Rattle.std.specs.Option.{option_map_or}
use Rattle.std.specs.Str.{bytes_eq}
use Rattle.std.specs.FinMap as finite
use Rattle.std.proofs.lemmas.Bool.{eqb-false, false_from_ne_true, not-true, or_parts, true≢false}
use Rattle.std.proofs.lemmas.List.{append-nil, get_or-set_other, get_or-set_same}
use Rattle.std.proofs.lemmas.List.Elements.{All-contains, All-filter, All-head, All-map, All-nil, All-tail, All-weaker, Contains-append_cases}
use Rattle.link_admission.specs.Numbering.{among}
use Rattle.node_graph.specs.Tree.{Tree, after, bare_tree, edge_cmp, names_in, stay}
use Rattle.path_walk.specs.Names.{IsName, dot}
use Rattle.path_walk.proofs.NameLemmas.{dot_is_no_name}
use Rattle.path_walk.proofs.PartLemmas.{name_short}
use Rattle.path_walk.proofs.PathLemmas.{same_bytes}
use Rattle.conn_rules.specs.Answers.{Happening}
use Rattle.conn_rules.specs.Answers as news
use Rattle.conn_rules.specs.NameRows.{name_in}
use Rattle.watch_events.specs.Events.{Event, bytes_of}
use Rattle.watch_events.specs.Messages.{asks_for, idle}
use Rattle.watch_events.specs.NamesNow.{is_named_now}
use Rattle.vfs_journal.specs.Entries.{Journal, Sent, sends, serves, refuses}
use Rattle.vfs_journal.specs.History as past_of
use Rattle.vfs_journal.specs.History.{History, binds_endpoint, births, changed, is_dead, is_watcher, living, tree_at, trees_of}
use Rattle.vfs_journal.specs.Outcomes.{Outcome}
use Rattle.vfs_journal.specs.Past.{event_of, history_of}
use Rattle.vfs_journal.specs.Serving.{context_at, moment_of, outcome_of}
use Rattle.vfs_journal.specs.Starts.{Bound, Start}
use Rattle.vfs_journal.specs.Watching.{first_messages, place_of, told_as}
use Rattle.journal_laws.specs.Soundness.{IsOnDirectory, IsStart}
use Rattle.journal_laws.specs.Trees.{IsOnNode}
use Rattle.journal_laws.proofs.Below.{Below}
use Rattle.journal_laws.proofs.Filters.{all_of, none_kept}
use Rattle.journal_laws.proofs.OnTrees.{stand_on_trees}
use Rattle.journal_laws.proofs.Members.{kept, kept_of}
use Rattle.journal_laws.proofs.Stepping.{Stepped, none as begun, refusing, sending, serving, time_of}
use Rattle.journal_laws.proofs.Steps.{births-more, trees_stay}
use Rattle.journal_laws.specs.Contents.{HasNames}
use Rattle.session_laws.specs.Watching.{AsksForNames, KnowTheirNames}
use Rattle.session_laws.specs.Sight.{AreWritten, events_for, is_told, messages_on, sight}
use Rattle.session_laws.proofs.Acts.{acts}
use Rattle.session_laws.proofs.Messages.{BindsOther, sending_holds}
use Rattle.session_laws.proofs.Named.{all_said, among_is_there, bytes_same, is_existing, last_puts, named_there, snapshot_puts, there_is_among, told_puts}
use Rattle.session_laws.proofs.Names.{AreTold, IsOfName, found_by, is_there, left_behind, names_stay}
use Rattle.session_laws.proofs.Seen.{binds_not, new_one, same_births, sight_on, sight_still, times_seen}
use Rattle.session_laws.proofs.WatchersServing.{IsServedOn, served_on}
use Rattle.session_laws.proofs.Spelled.{AreSpelled, IsShort, first_events, first_spelled, joined, singles, written, written_once}

-- ---- the events of a sight

abbrev pub events_seen : Start → Bound → History → List Event
events_seen start watcher [] = []
events_seen start watcher (event ∷ past) =
    cond (binds_endpoint watcher.endpoint event) (first_events watcher.mask (names_in (tree_at (trees_of start (event ∷ past)) watcher.server).edges watcher.birth.node))
    (cond (is_dead past watcher.endpoint) (events_seen start watcher past) (events_seen start watcher past ++ events_for watcher event.outcome))

events_on : (start : Start) (watcher : Bound) (event : past_of.Event) (past : History) → BindsOther watcher.endpoint event.outcome.bound →
    events_seen start watcher (event ∷ past) ≡ cond (is_dead past watcher.endpoint) (events_seen start watcher past) (events_seen start watcher past ++ events_for watcher event.outcome)
events_on start watcher event past other =
    ap
    (λ (b : Bool).
    cond b (first_events watcher.mask (names_in (tree_at (trees_of start (event ∷ past)) watcher.server).edges watcher.birth.node))
    (cond (is_dead past watcher.endpoint) (events_seen start watcher past) (events_seen start watcher past ++ events_for watcher event.outcome)))
    (binds_not watcher.endpoint event.outcome.bound other)

-- ---- what is kept

abbrev KnowsNames : Start → History → Bound → Type 0
KnowsNames start history watcher =
    (name : List ℕ) → bytes_eq dot name ≡ false → last_puts (events_seen start watcher history) name ≡ is_there (tree_at (trees_of start history) watcher.server).edges (name_in watcher.birth.node name)

-- names are names; the messages of a watcher's sight are its events; and these stand for the names of its directory, where it lives and asks
-- for names
pub record AreKnown (start : Start) (history : History) : Type 0 where
  pub named : (server : ℕ) → HasNames (tree_at (trees_of start history) server)
  pub spelled : (watcher : Bound) → Contains (births start history) watcher → is_watcher watcher.birth.protocol ≡ true → AreSpelled (sight start watcher history) (events_seen start watcher history)
  pub knows : (watcher : Bound) → Contains (living start history) watcher → is_watcher watcher.birth.protocol ≡ true → AsksForNames watcher → KnowsNames start history watcher

-- ---- an event that tells nothing

events_still : (start : Start) (watcher : Bound) (event : past_of.Event) (past : History) → event.outcome.bound ≡ None → event.outcome.told ≡ [] → events_seen start watcher (event ∷ past) ≡ events_seen start watcher past
events_still start watcher event past none quiet =
    events_on start watcher event past (λ new e. absurd (let wrong : None ≡ Some new = sym none ∙ e in cc))
    ∙ ap (λ (told : List Happening). cond (is_dead past watcher.endpoint) (events_seen start watcher past) (events_seen start watcher past ++ map told_as (filter (is_told event.outcome.server watcher) told))) quiet
    ∙ by_test (is_dead past watcher.endpoint) where
      by_test : (b : Bool) → cond b (events_seen start watcher past) (events_seen start watcher past ++ []) ≡ events_seen start watcher past
      by_test true = refl
      by_test false = append-nil (events_seen start watcher past)

-- who lives was born, and isn't dead
lives_born : (start : Start) (history : History) (b : Bound) → Contains (living start history) b → Contains (births start history) b × (is_dead history b.endpoint ≡ false)
lives_born start history b lives =
    let at = kept_of (λ (x : Bound). not (is_dead history x.endpoint)) (births start history) b lives in
    (at.0, not-true (is_dead history b.endpoint) at.1)

born_lives : (start : Start) (history : History) (b : Bound) → Contains (births start history) b → is_dead history b.endpoint ≡ false → Contains (living start history) b
born_lives start history b born alive = kept (λ (x : Bound). not (is_dead history x.endpoint)) (births start history) b born (ap not alive)

idle_known : (start : Start) (past : History) (event : past_of.Event) → event.outcome.bound ≡ None → event.outcome.told ≡ [] → event.outcome.change ≡ stay → event.deaths ≡ [] → AreKnown start past → AreKnown start (event ∷ past)
idle_known start past event none quiet stays alive h = record {
  named = λ server. subst (λ (trees : List Tree). HasNames (tree_at trees server)) (sym trees') (h.named server);
  spelled = λ watcher born is.
      subst (λ (messages : List (List ℕ)). AreSpelled messages (events_seen start watcher (event ∷ past))) (sym (sight_still start watcher event past none quiet))
      (subst (AreSpelled (sight start watcher past)) (sym (events_still start watcher event past none quiet)) (h.spelled watcher (before watcher born) is));
  knows = λ watcher lives is asks name other.
      let now = lives_born start (event ∷ past) watcher lives in
      let alive' = (or_parts (among watcher.endpoint event.deaths) (is_dead past watcher.endpoint) now.1).1 in
      ap (λ (events : List Event). last_puts events name) (events_still start watcher event past none quiet)
      ∙ h.knows watcher (born_lives start past watcher (before watcher now.0) alive') is asks name other
      ∙ ap (λ (trees : List Tree). is_there (tree_at trees watcher.server).edges (name_in watcher.birth.node name)) (sym trees');
} where
  trees' : trees_of start (event ∷ past) ≡ trees_of start past
  trees' = ap (changed (trees_of start past) event.outcome.server) stays ∙ trees_stay (trees_of start past) event.outcome.server

  before : (watcher : Bound) → Contains (births start (event ∷ past)) watcher → Contains (births start past) watcher
  before watcher born = subst (λ bounds. Contains bounds watcher) (same_births start event past none) born

-- ---- a serving

-- what an outcome tells is what it changes, at the server of the connection
pub record TellsOf (server : ℕ) (tree : Tree) (outcome : Outcome) : Type 0 where
  pub at : outcome.server ≡ server
  pub tells : AreTold tree outcome.change outcome.told
  pub named : All IsOfName outcome.told

outcome_tells : Below → (start : Start) (past : History) (k : Sent) (on : IsServedOn start past k) → TellsOf on.at.server (tree_at (trees_of start past) on.at.server) (outcome_of start past k)
outcome_tells below start past k on =
    let moment = moment_of start past on.at in
    let P : Outcome → Type 0 = TellsOf on.at.server (tree_at (trees_of start past) on.at.server) in
    subst P (sym on.whole)
    (sending_holds P moment
    (λ txid request plain. let act = acts below.sound (context_at moment) request plain in record { at = refl; tells = act.tells; named = act.named })
    (λ txid answer idle. record { at = refl; tells = λ key. refl; named = All-nil IsOfName }) k.sending)

bare_names : HasNames bare_tree
bare_names from to there = absurd (let wrong : None ≡ Some to = sym (finite.get-empty edge_cmp from) ∙ there in cc)

-- a name is short enough to be read
short_name : (name : List ℕ) → IsName name → length name < 256
short_name name is = let short = (name_short name is).1 in omega (arith, short)

short_told : (happening : Happening) → IsOfName happening → IsShort (told_as happening)
short_told (news.removed key) is = short_name key.name is
short_told (news.added key) is = short_name key.name is
short_told (news.deleted directory) is = lit< tt

short_events : (watcher : Bound) (outcome : Outcome) → All IsOfName outcome.told → All IsShort (events_for watcher outcome)
short_events watcher outcome named =
    let told = filter (is_told outcome.server watcher) outcome.told in
    All-map IsShort told_as told (All-weaker IsOfName (λ happening. IsShort (told_as happening)) short_told told (All-filter (is_told outcome.server watcher) IsOfName outcome.told named))

-- the names of a directory are short enough
short_names : (tree : Tree) (directory : ℕ) → HasNames tree → All IsShort (map is_existing (names_in tree.edges directory))
short_names tree directory names =
    All-map IsShort is_existing (names_in tree.edges directory)
    (all_of (λ name. IsShort (is_existing name)) (names_in tree.edges directory)
    (λ name there.
    let edge = found_by (finite.get tree.edges (name_in directory name)) (among_is_there tree.edges directory name there) in
    short_name name (names (name_in directory name) edge.0 edge.1)))

-- a watcher at another server is told nothing
told_elsewhere : (server : ℕ) (watcher : Bound) (happenings : List Happening) → (watcher.server == server) ≡ false → filter (is_told server watcher) happenings ≡ []
told_elsewhere server watcher happenings other = none_kept (is_told server watcher) happenings (all_of (λ happening. is_told server watcher happening ≡ false) happenings (λ happening there. by_test (is_watcher watcher.birth.protocol) happening)) where
  by_test : (b : Bool) (happening : Happening) → ((b && ((watcher.server == server) && (watcher.birth.node == place_of happening))) && asks_for watcher.mask (told_as happening).event) ≡ false
  by_test true happening = ap (λ (s : Bool). (s && (watcher.birth.node == place_of happening)) && asks_for watcher.mask (told_as happening).event) other
  by_test false happening = refl

module _ (below : Below) (start : Start) (past : History) (k : Sent) (on : IsServedOn start past k) (within : on.at.server < length (trees_of start past)) (h : AreKnown start past) where
  abbrev outcome : Outcome
  outcome = outcome_of start past k

  abbrev trees : List Tree
  trees = trees_of start past

  tells : TellsOf on.at.server (tree_at trees on.at.server) outcome
  tells = outcome_tells below start past k on

  -- the trees then
  tree_here : tree_at (changed trees outcome.server outcome.change) outcome.server ≡ after (tree_at trees outcome.server) outcome.change
  tree_here = get_or-set_same trees outcome.server (after (tree_at trees outcome.server) outcome.change) bare_tree (subst (λ (server : ℕ). server < length trees) (sym tells.at) within)

  tree_elsewhere : (server : ℕ) → (server == outcome.server) ≡ false → tree_at (changed trees outcome.server outcome.change) server ≡ tree_at trees server
  tree_elsewhere server other = get_or-set_other trees outcome.server server (after (tree_at trees outcome.server) outcome.change) bare_tree (eqb-false server outcome.server other)

  told_there : AreTold (tree_at trees outcome.server) outcome.change outcome.told
  told_there = subst (λ (server : ℕ). AreTold (tree_at trees server) outcome.change outcome.told) (sym tells.at) tells.tells

  named_then : (server : ℕ) → HasNames (tree_at (changed trees outcome.server outcome.change) server)
  named_then server = by_test (server == outcome.server) refl where
    by_test : (b : Bool) → (server == outcome.server) ≡ b → HasNames (tree_at (changed trees outcome.server outcome.change) server)
    by_test true e =
        subst (λ (n : ℕ). HasNames (tree_at (changed trees outcome.server outcome.change) n)) (sym (eqb-true server outcome.server e))
        (subst HasNames (sym tree_here) (names_stay (tree_at trees outcome.server) outcome.change outcome.told told_there tells.named (h.named outcome.server)))
    by_test false e = subst HasNames (sym (tree_elsewhere server e)) (h.named server)

  -- a watcher that lives on knows the names as they are then
  still_knows : (watcher : Bound) → Contains (living start past) watcher → is_watcher watcher.birth.protocol ≡ true → AsksForNames watcher → (name : List ℕ) → bytes_eq dot name ≡ false →
      last_puts (events_seen start watcher past ++ events_for watcher outcome) name ≡ is_there (tree_at (changed trees outcome.server outcome.change) watcher.server).edges (name_in watcher.birth.node name)
  still_knows watcher lives is asks name other = by_test (watcher.server == outcome.server) refl where
    knew : last_puts (events_seen start watcher past) name ≡ is_there (tree_at trees watcher.server).edges (name_in watcher.birth.node name)
    knew = h.knows watcher lives is asks name other

    by_test : (b : Bool) → (watcher.server == outcome.server) ≡ b →
        last_puts (events_seen start watcher past ++ events_for watcher outcome) name ≡ is_there (tree_at (changed trees outcome.server outcome.change) watcher.server).edges (name_in watcher.birth.node name)
    by_test true e =
        let same = eqb-true watcher.server outcome.server e in
        let key = name_in watcher.birth.node name in
        told_puts outcome.server watcher is e asks name (events_seen start watcher past) outcome.told
        ∙ ap (λ (was : Bool). left_behind key was outcome.told) (knew ∙ ap (λ (server : ℕ). is_there (tree_at trees server).edges key) same)
        ∙ sym (told_there key)
        ∙ ap (λ (tree : Tree). is_there tree.edges key) (sym tree_here)
        ∙ ap (λ (server : ℕ). is_there (tree_at (changed trees outcome.server outcome.change) server).edges key) (sym same)
    by_test false e =
        ap (λ (happenings : List Happening). last_puts (events_seen start watcher past ++ map told_as happenings) name) (told_elsewhere outcome.server watcher outcome.told e)
        ∙ ap (λ (events : List Event). last_puts events name) (append-nil (events_seen start watcher past))
        ∙ knew
        ∙ ap (λ (tree : Tree). is_there tree.edges (name_in watcher.birth.node name)) (sym (tree_elsewhere watcher.server e))

  -- who was born goes on; who is bound begins
  spelled_born : (watcher : Bound) → Contains (births start past) watcher → is_watcher watcher.birth.protocol ≡ true →
      AreSpelled (sight start watcher (event_of start past (serves k) ∷ past)) (events_seen start watcher (event_of start past (serves k) ∷ past))
  unfolding event_of
  spelled_born watcher born is =
      let event = event_of start past (serves k) in
      let seen = sight start watcher past in
      let events = events_seen start watcher past in
      let more = events_for watcher outcome in
      subst (λ (messages : List (List ℕ)). AreSpelled messages (events_seen start watcher (event ∷ past))) (sym (sight_on start watcher event past (on.binds_other watcher born)))
      (subst (AreSpelled (cond (is_dead past watcher.endpoint) seen (seen ++ map bytes_of more))) (sym (events_on start watcher event past (on.binds_other watcher born)))
      (elim (is_dead past watcher.endpoint) as (λ b. AreSpelled (cond b seen (seen ++ map bytes_of more)) (cond b events (events ++ more))) [
        | true ↦ h.spelled watcher born is
        | false ↦ joined seen (map bytes_of more) events more (h.spelled watcher born is) (singles more (short_events watcher outcome tells.named))
      ]))

  -- an event that binds a watcher
  binds_it : (watcher : Bound) → outcome.bound ≡ Some watcher → option_map_or (λ (bound : Bound). bound.endpoint == watcher.endpoint) outcome.bound false ≡ true
  binds_it watcher e = ap (λ (o : Option Bound). option_map_or (λ (bound : Bound). bound.endpoint == watcher.endpoint) o false) e ∙ eq-eqb watcher.endpoint watcher.endpoint refl

  events_new : (watcher : Bound) → outcome.bound ≡ Some watcher →
      events_seen start watcher (event_of start past (serves k) ∷ past) ≡ first_events watcher.mask (names_in (tree_at (changed trees outcome.server outcome.change) watcher.server).edges watcher.birth.node)
  unfolding event_of
  events_new watcher e =
      ap
      (λ (b : Bool).
      cond b (first_events watcher.mask (names_in (tree_at (changed trees outcome.server outcome.change) watcher.server).edges watcher.birth.node))
      (cond (is_dead past watcher.endpoint) (events_seen start watcher past) (events_seen start watcher past ++ events_for watcher outcome)))
      (binds_it watcher e)

  spelled_new : (watcher : Bound) → outcome.bound ≡ Some watcher → AreSpelled (sight start watcher (event_of start past (serves k) ∷ past)) (events_seen start watcher (event_of start past (serves k) ∷ past))
  unfolding event_of
  spelled_new watcher e =
      let tree = tree_at (changed trees outcome.server outcome.change) watcher.server in
      let begins : sight start watcher (event_of start past (serves k) ∷ past) ≡ first_messages tree watcher =
      ap
      (λ (b : Bool).
      cond b (first_messages tree watcher) (cond (is_dead past watcher.endpoint) (sight start watcher past) (sight start watcher past ++ map bytes_of (events_for watcher outcome)))) (binds_it watcher e) in
      subst (λ (messages : List (List ℕ)). AreSpelled messages (events_seen start watcher (event_of start past (serves k) ∷ past))) (sym begins)
      (subst (AreSpelled (first_messages tree watcher)) (sym (events_new watcher e))
      (first_spelled watcher.mask (names_in tree.edges watcher.birth.node) (short_names tree watcher.birth.node (named_then watcher.server))))

  knows_new : (watcher : Bound) → outcome.bound ≡ Some watcher → AsksForNames watcher → (name : List ℕ) → bytes_eq dot name ≡ false →
      last_puts (events_seen start watcher (event_of start past (serves k) ∷ past)) name ≡ is_there (tree_at (changed trees outcome.server outcome.change) watcher.server).edges (name_in watcher.birth.node name)
  knows_new watcher e asks name other =
      let tree = tree_at (changed trees outcome.server outcome.change) watcher.server in
      let names = names_in tree.edges watcher.birth.node in
      ap (λ (events : List Event). last_puts events name) (events_new watcher e)
      ∙ ap (λ (b : Bool). last_puts (cond b (is_existing dot ∷ map is_existing names) [] ++ cond (asks_for watcher.mask idle) (all_said ∷ []) []) name) asks.snapshot
      ∙ snapshot_puts names name (asks_for watcher.mask idle) other
      ∙ named_there tree.edges watcher.birth.node name

  knows_born : (watcher : Bound) → Contains (births start past) watcher → is_dead past watcher.endpoint ≡ false → is_watcher watcher.birth.protocol ≡ true → AsksForNames watcher → (name : List ℕ) → bytes_eq dot name ≡ false →
      last_puts (events_seen start watcher (event_of start past (serves k) ∷ past)) name ≡ is_there (tree_at (changed trees outcome.server outcome.change) watcher.server).edges (name_in watcher.birth.node name)
  unfolding event_of
  knows_born watcher born alive is asks name other =
      ap (λ (events : List Event). last_puts events name)
      (events_on start watcher (event_of start past (serves k)) past (on.binds_other watcher born)
      ∙ ap (λ (b : Bool). cond b (events_seen start watcher past) (events_seen start watcher past ++ events_for watcher outcome)) alive)
      ∙ still_knows watcher (born_lives start past watcher born alive) is asks name other

  pub served_known : AreKnown start (event_of start past (serves k) ∷ past)
  unfolding event_of
  served_known = record {
    named = named_then;
    spelled = λ watcher born is. spelled_by watcher is (born_by watcher born);
    knows = λ watcher lives is asks name other.
        let now = lives_born start (event_of start past (serves k) ∷ past) watcher lives in
        let alive = (or_parts (among watcher.endpoint (event_of start past (serves k)).deaths) (is_dead past watcher.endpoint) now.1).1 in
        knows_by watcher alive is asks name other (born_by watcher now.0);
  } where
    born_by : (watcher : Bound) → Contains (births start (event_of start past (serves k) ∷ past)) watcher → Contains (births start past) watcher ⊎ (outcome.bound ≡ Some watcher)
    born_by watcher born =
        elim (Contains-append_cases (births start past) (option_to_list outcome.bound) watcher (subst (λ bounds. Contains bounds watcher) (births-more start (event_of start past (serves k)) past) born)) [
          | inl before ↦ inl before
          | inr new ↦ inr (new_one outcome.bound watcher new)
        ]

    spelled_by : (watcher : Bound) → is_watcher watcher.birth.protocol ≡ true → Contains (births start past) watcher ⊎ (outcome.bound ≡ Some watcher) →
        AreSpelled (sight start watcher (event_of start past (serves k) ∷ past)) (events_seen start watcher (event_of start past (serves k) ∷ past))
    spelled_by watcher is (inl born) = spelled_born watcher born is
    spelled_by watcher is (inr e) = spelled_new watcher e

    knows_by : (watcher : Bound) → is_dead past watcher.endpoint ≡ false → is_watcher watcher.birth.protocol ≡ true → AsksForNames watcher → (name : List ℕ) → bytes_eq dot name ≡ false →
        Contains (births start past) watcher ⊎ (outcome.bound ≡ Some watcher) →
        last_puts (events_seen start watcher (event_of start past (serves k) ∷ past)) name ≡ is_there (tree_at (changed trees outcome.server outcome.change) watcher.server).edges (name_in watcher.birth.node name)
    knows_by watcher alive is asks name other (inl born) = knows_born watcher born alive is asks name other
    knows_by watcher alive is asks name other (inr e) = knows_new watcher e asks name other

-- ---- entry by entry

-- no watcher was born at the start
first_known : (start : Start) → IsStart start → AreKnown start []
first_known start s = record {
  named = λ server. at_start start.trees server s.names;
  spelled = λ watcher born is. refl;
  knows = λ watcher lives is.
      let born = subst (λ bounds. Contains bounds watcher) (append-nil (start.firsts ++ start.mounts)) (lives_born start [] watcher lives).0 in
      let directory = (All-contains (IsOnDirectory start.trees) (start.firsts ++ start.mounts) watcher s.placed born).protocol in
      absurd (true≢false (sym is ∙ ap is_watcher directory));
} where
  at_start : (trees : List Tree) (server : ℕ) → All HasNames trees → HasNames (tree_at trees server)
  at_start [] server h = bare_names
  at_start (tree ∷ trees) zero h = All-head HasNames tree trees h
  at_start (tree ∷ trees) (suc server) h = at_start trees server (All-tail HasNames tree trees h)

times_known : Below → (start : Start) (journal : Journal) → IsStart start → Stepped start journal → AreKnown start (history_of start journal)
unfolding history_of event_of
times_known below start journal s begun = first_known start s
times_known below start journal s (refusing earlier endpoint why h all) =
    idle_known start (history_of start earlier) (event_of start (history_of start earlier) (refuses endpoint why)) refl refl refl refl (times_known below start earlier s h)
times_known below start journal s (sending earlier one h next) =
    idle_known start (history_of start earlier) (event_of start (history_of start earlier) (sends one)) refl refl refl refl (times_known below start earlier s h)
times_known below start journal s (serving earlier one h all first) =
    let past = history_of start earlier in
    let on = served_on below start earlier one s all first in
    let placed = All-contains (IsOnNode (trees_of start past)) (living start past) on.at (stand_on_trees below start earlier s all).placed on.lives in
    served_known below start past one on placed.server (times_known below start earlier s h)

-- ---- the law

-- what events say of a name is what is there, and `.` is no name
named_now : (tree : Tree) (directory : ℕ) (events : List Event) → HasNames tree → ((name : List ℕ) → bytes_eq dot name ≡ false → last_puts events name ≡ is_there tree.edges (name_in directory name)) →
    (name : List ℕ) → is_named_now events name ≡ is_there tree.edges (name_in directory name)
named_now tree directory events names knows name = by_test (bytes_eq name dot) refl where
  no_dot : name ≡ dot → is_there tree.edges (name_in directory name) ≡ false
  no_dot same = false_from_ne_true (is_there tree.edges (name_in directory name))
      (λ there.
      let edge = found_by (finite.get tree.edges (name_in directory name)) there in
      dot_is_no_name (subst IsName same (names (name_in directory name) edge.0 edge.1)))

  by_test : (b : Bool) → bytes_eq name dot ≡ b → (not b && last_puts events name) ≡ is_there tree.edges (name_in directory name)
  by_test true e = sym (no_dot (same_bytes name dot e))
  by_test false e = knows name (false_from_ne_true (bytes_eq dot name) (λ same. true≢false (sym (bytes_same name dot (sym (same_bytes dot name same))) ∙ e)))

pub know_their_names : Below → (start : Start) (later past : Journal) → IsStart start → Lawful start (later ++ past) → KnowTheirNames start (history_of start past)
know_their_names below start later past s h watcher lives is asks =
    let time = time_of start later past h in
    let history = history_of start past in
    let tree = tree_at (trees_of start history) watcher.server in
    let known = times_known below start past s time in
    let born = (lives_born start history watcher lives).0 in
    let seen = (times_seen below start past s time).seen watcher born is in
    let events = events_seen start watcher history in
    let written' = subst (λ frames. AreWritten frames events) (sym seen) (written watcher.endpoint (sight start watcher history) events (known.spelled watcher born is)) in
    let named = named_now tree watcher.birth.node events (known.named watcher.server) (known.knows watcher lives is asks) in
    record {
      events = events;
      written = written';
      alone = λ others these. written_once (messages_on start history watcher.endpoint) others events these written';
      named = λ name. (
        λ now. there_is_among tree.edges watcher.birth.node name (sym (named name) ∙ now),
        λ there. named name ∙ among_is_there tree.edges watcher.birth.node name there,
      );
    }
