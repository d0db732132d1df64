-- What is found by looking back behind one more event.
use Rattle.std.proofs.Common.{◌≡◌, ℕ, ◌+◌, set, length, count_by, nat_le, is_some, if◌then◌else◌, ◌==◌, ◌&&◌, ◌||◌, Bool, true, false, not, List, [], ◌∷◌, ◌++◌, Some, None, filter, flat_map, find, option_to_list, refl, sym, ap, ◌∙◌, append-nil, append_assoc}
use Rattle.std.specs.List.{list_any}
use Rattle.std.specs.Option.{option_map_or}
use Rattle.std.proofs.lemmas.List.{set-get_or}
use Rattle.std.proofs.lemmas.List.Concat.{flat_map-append}
use Rattle.std.proofs.lemmas.List.Elements.{filter-append, filter_agree}
use Rattle.std.proofs.lemmas.List.Folds.{list_any-append}
use Rattle.fidl_names.specs.declared.limits.TheConstants as limit
use Rattle.link_frames.specs.declared.kinds.Refusal.{Refusal}
use Rattle.link_admission.specs.declared.kinds.Standing.TheVariants as standing
use Rattle.link_admission.specs.Admission.{LookUps}
use Rattle.link_admission.specs.Numbering.{among}
use Rattle.node_graph.specs.Tree.{Tree, bare_tree}
use Rattle.conn_rules.specs.Births.{Position}
use Rattle.vfs_journal.specs.Deaths.{others}
use Rattle.vfs_journal.specs.Entries.{Sent, sends, serves, refuses, handles_of, endpoints_in, is_hang_up}
use Rattle.vfs_journal.specs.History.{Event, History, sent_by, all_sent, was_served, is_dead, births, living, waits, waiting, travelling, trees_of, tree_at, position_of, watches_node}
use Rattle.journal_laws.specs.Laws.{HasSameEndpoints, IsUnchanged, IsSent, IsServed, but_for, newly_living}
use Rattle.vfs_journal.specs.Past.{event_of, behind}
use Rattle.vfs_journal.specs.Session.{look_ups}
use Rattle.vfs_journal.specs.Serving.{Moment, moment_of}
use Rattle.vfs_journal.specs.Starts.{Bound, Start}
use Rattle.vfs_journal.specs.Outcomes.{Given}
use Rattle.vfs_journal.specs.Tokens.{all_given}
use Rattle.journal_laws.proofs.Lists.{filter_map-more, filter-filter, eqb_sym}

-- ---- what is read in order

pub all_sent-more : (event : Event) (past : History) → all_sent (event ∷ past) ≡ all_sent past ++ option_to_list (sent_by event.entry)
all_sent-more event past = filter_map-more (λ e. sent_by e.entry) event past

pub births-more : (start : Start) (event : Event) (past : History) → births start (event ∷ past) ≡ births start past ++ option_to_list event.outcome.bound
births-more start event past =
    ap (λ bounds. start.firsts ++ start.mounts ++ bounds) (filter_map-more (λ e. e.outcome.bound) event past)
    ∙ sym (append_assoc (start.firsts ++ start.mounts) _ (option_to_list event.outcome.bound))

pub all_given-more : (event : Event) (past : History) → all_given (event ∷ past) ≡ all_given past ++ option_to_list event.outcome.token
all_given-more event past = filter_map-more (λ e. e.outcome.token) event past

-- ---- a refusal, and a sending: no endpoint is another one

-- an event that serves nothing leaves the trees
pub trees_stay : (trees : List Tree) (server : ℕ) → set trees server (tree_at trees server) ≡ trees
trees_stay trees server = set-get_or trees server bare_tree

refusal_keeps : (start : Start) (past : History) (endpoint : ℕ) (why : Refusal) → HasSameEndpoints start (behind start (refuses endpoint why) past) past
unfolding event_of
refusal_keeps start past endpoint why =
    let now = behind start (refuses endpoint why) past in
    let same_births : births start now ≡ births start past = births-more start (event_of start past (refuses endpoint why)) past ∙ append-nil (births start past) in
    let same_living : living start now ≡ living start past = ap (filter (λ bound. not (is_dead past bound.endpoint))) same_births in
    record {
      dead = λ e. refl;
      born = same_births;
      alive = same_living;
      bound = λ e. ap (find (λ bound. bound.endpoint == e)) same_living;
      positions = λ e. refl;
      trees = trees_stay (trees_of start past) 0;
      tokens = all_given-more (event_of start past (refuses endpoint why)) past ∙ append-nil (all_given past);
    }

pub sending_keeps : (start : Start) (past : History) (sent : Sent) → HasSameEndpoints start (behind start (sends sent) past) past
unfolding event_of
sending_keeps start past sent =
    let now = behind start (sends sent) past in
    let same_births : births start now ≡ births start past = births-more start (event_of start past (sends sent)) past ∙ append-nil (births start past) in
    let same_living : living start now ≡ living start past = ap (filter (λ bound. not (is_dead past bound.endpoint))) same_births in
    record {
      dead = λ e. refl;
      born = same_births;
      alive = same_living;
      bound = λ e. ap (find (λ bound. bound.endpoint == e)) same_living;
      positions = λ e. refl;
      trees = trees_stay (trees_of start past) 0;
      tokens = all_given-more (event_of start past (sends sent)) past ∙ append-nil (all_given past);
    }

refusal_sends : (start : Start) (past : History) (endpoint : ℕ) (why : Refusal) → all_sent (behind start (refuses endpoint why) past) ≡ all_sent past
unfolding event_of
refusal_sends start past endpoint why = all_sent-more (event_of start past (refuses endpoint why)) past ∙ append-nil (all_sent past)

sending_sends : (start : Start) (past : History) (sent : Sent) → all_sent (behind start (sends sent) past) ≡ all_sent past ++ sent ∷ []
unfolding event_of
sending_sends start past sent = all_sent-more (event_of start past (sends sent)) past

serving_sends : (start : Start) (past : History) (sent : Sent) → all_sent (behind start (serves sent) past) ≡ all_sent past
unfolding event_of
serving_sends start past sent = all_sent-more (event_of start past (serves sent)) past ∙ append-nil (all_sent past)

-- ---- a refusal

refusal_waits : (start : Start) (past : History) (endpoint : ℕ) (why : Refusal) → waiting (behind start (refuses endpoint why) past) ≡ waiting past
unfolding event_of
refusal_waits start past endpoint why = ap (filter (waits past)) (refusal_sends start past endpoint why)

-- what admission looks up, from its parts
abbrev looked_by : Start → (ℕ → Bool) → List Bound → List Sent → List Sent → List Given → LookUps
looked_by start dead living sent waiting given =
    record {
      standing = λ e. if dead e then standing.Dead
          else if is_some (find (λ bound. bound.endpoint == e) living) || among e (flat_map endpoints_in waiting)
          then (if list_any (λ one. is_hang_up one.sending && (one.endpoint == e)) sent then standing.HungUp else standing.Live)
          else standing.Unused;
      used = λ n. list_any (λ bound. bound.endpoint == n) start.firsts || list_any (λ one. among n (handles_of one.sending)) sent;
      holds = λ n. list_any (λ one. one.token == n) given && not (list_any (λ one. among n (handles_of one.sending)) sent);
      waiting = length waiting;
      live = length living + length (flat_map endpoints_in waiting);
      servers = length start.trees;
    }

looked_same : (start : Start) (dead : ℕ → Bool) (l m : List Bound) (s t w x : List Sent) (g h : List Given) → l ≡ m → s ≡ t → w ≡ x → g ≡ h → looked_by start dead l s w g ≡ looked_by start dead m t x h
looked_same start dead l m s t w x g h p q r u =
    ap (λ a. looked_by start dead a s w g) p ∙ ap (λ a. looked_by start dead m a w g) q ∙ ap (λ a. looked_by start dead m t a g) r
    ∙ ap (λ a. looked_by start dead m t x a) u

refusal_looks : (start : Start) (past : History) (endpoint : ℕ) (why : Refusal) → look_ups start (behind start (refuses endpoint why) past) ≡ look_ups start past
unfolding event_of
refusal_looks start past endpoint why =
    let now = behind start (refuses endpoint why) past in
    let kept = refusal_keeps start past endpoint why in
    looked_same start (is_dead past) (living start now) (living start past) (all_sent now) (all_sent past) (waiting now) (waiting past) (all_given now) (all_given past)
    kept.alive (refusal_sends start past endpoint why) (refusal_waits start past endpoint why) kept.tokens

-- what a serving sees, from its parts
abbrev seen_by : Bound → Position → Tree → List Bound → List Sent → List Sent → List Given → Moment
seen_by bound position tree living sent waiting given =
    record {
      bound = bound;
      position = position;
      room = record {
        connections = count_by (λ one. one.server == bound.server) living;
        watchers = length (filter (watches_node bound.server bound.birth.node) living);
        token = (if nat_le limit.MAX_TOKENS
            (length
            (filter
            (λ one. (list_any (λ other. other.token == one.token) given && not (list_any (λ other. among one.token (handles_of other.sending)) sent))
            || list_any (λ other. among one.token (handles_of other.sending)) waiting)
            given))
            || nat_le 0x80000000 (length given)
            then None else Some (limit.FIRST_TOKEN + length given));
      };
      tree = tree;
      directory = λ token. option_map_or (λ one. if one.server == bound.server then Some one.node else None) (find (λ one. one.token == token) given) None;
    }

seen_same : (bound : Bound) (position : Position) (a b : Tree) (l m : List Bound) (s t w x : List Sent) (g h : List Given) → a ≡ b → l ≡ m → s ≡ t → w ≡ x → g ≡ h → seen_by bound position a l s w g ≡ seen_by bound position b m t x h
seen_same bound position a b l m s t w x g h o p q r u =
    ap (λ c. seen_by bound position c l s w g) o ∙ ap (λ c. seen_by bound position b c s w g) p ∙ ap (λ c. seen_by bound position b m c w g) q
    ∙ ap (λ c. seen_by bound position b m t c g) r
    ∙ ap (λ c. seen_by bound position b m t x c) u

refusal_shows : (start : Start) (past : History) (endpoint : ℕ) (why : Refusal) (bound : Bound) → moment_of start (behind start (refuses endpoint why) past) bound ≡ moment_of start past bound
unfolding event_of
refusal_shows start past endpoint why bound =
    let now = behind start (refuses endpoint why) past in
    let kept = refusal_keeps start past endpoint why in
    seen_same bound (position_of past bound.endpoint) (tree_at (trees_of start now) bound.server) (tree_at (trees_of start past) bound.server)
    (living start now) (living start past) (all_sent now) (all_sent past) (waiting now) (waiting past) (all_given now) (all_given past)
    (ap (λ trees. tree_at trees bound.server) kept.trees) kept.alive (refusal_sends start past endpoint why) (refusal_waits start past endpoint why) kept.tokens

pub refusals_change_nothing : (start : Start) (past : History) (endpoint : ℕ) (why : Refusal) → IsUnchanged start (behind start (refuses endpoint why) past) past
unfolding event_of
refusals_change_nothing start past endpoint why = record {
  same = refusal_keeps start past endpoint why;
  sent = refusal_sends start past endpoint why;
  served = λ sent. refl;
  queue = refusal_waits start past endpoint why;
  looked_up = refusal_looks start past endpoint why;
  seen = refusal_shows start past endpoint why;
}

-- ---- a sending

sending_waits : (start : Start) (past : History) (sent : Sent) → waiting (behind start (sends sent) past) ≡ waiting past ++ (if waits past sent then sent ∷ [] else [])
unfolding event_of
sending_waits start past sent = ap (filter (waits past)) (sending_sends start past sent) ∙ filter-append (waits past) (all_sent past) (sent ∷ [])

carried_by_one : (sent : Sent) (b : Bool) → flat_map endpoints_in (if b then sent ∷ [] else []) ≡ (if b then endpoints_in sent else [])
carried_by_one sent true = append-nil (endpoints_in sent)
carried_by_one sent false = refl

sending_travels : (start : Start) (past : History) (sent : Sent) → travelling (behind start (sends sent) past) ≡ travelling past ++ (if waits past sent then endpoints_in sent else [])
sending_travels start past sent =
    ap (flat_map endpoints_in) (sending_waits start past sent)
    ∙ flat_map-append endpoints_in (waiting past) (if waits past sent then sent ∷ [] else [])
    ∙ ap (λ ends. travelling past ++ ends) (carried_by_one sent (waits past sent))

or-false : (b : Bool) → (b || false) ≡ b
or-false true = refl
or-false false = refl

any_more : {X : Type 0} (p : X → Bool) (xs ys : List X) (x : X) → ys ≡ xs ++ x ∷ [] → list_any p ys ≡ (list_any p xs || p x)
any_more p xs ys x e = ap (list_any p) e ∙ list_any-append p xs (x ∷ []) ∙ ap (λ b. list_any p xs || b) (or-false (p x))

pub sendings_wait_last : (start : Start) (past : History) (sent : Sent) → IsSent start sent (behind start (sends sent) past) past
unfolding event_of
sendings_wait_last start past sent =
    let now = behind start (sends sent) past in
    record {
      same = sending_keeps start past sent;
      sent_last = sending_sends start past sent;
      served = λ other. refl;
      queue = sending_waits start past sent;
      travels = sending_travels start past sent;
      carried = λ number. any_more (λ one. among number (handles_of one.sending)) (all_sent past) (all_sent now) sent (sending_sends start past sent);
      closed = λ endpoint. any_more (λ one. is_hang_up one.sending && (one.endpoint == endpoint)) (all_sent past) (all_sent now) sent (sending_sends start past sent);
    }

-- ---- a serving

left_by : (a b c d : Bool) → (not (a || b) && not (c || d)) ≡ ((not b && not d) && (not a && not c))
left_by true b c d = and-false_last (not b && not d) where
  and-false_last : (x : Bool) → false ≡ (x && false)
  and-false_last true = refl
  and-false_last false = refl
left_by false true c d = refl
left_by false false true true = refl
left_by false false true false = refl
left_by false false false true = refl
left_by false false false false = refl

but_left : (a b : Bool) → not (a || b) ≡ (not b && not a)
but_left true true = refl
but_left true false = refl
but_left false true = refl
but_left false false = refl

serving_waits : (start : Start) (past : History) (sent : Sent) →
    waiting (behind start (serves sent) past) ≡ filter (λ other. not (among other.endpoint (event_of start past (serves sent)).deaths)) (others past sent)
unfolding event_of
serving_waits start past sent =
    let event = event_of start past (serves sent) in
    ap (filter (waits (event ∷ past))) (serving_sends start past sent)
    ∙ filter_agree (waits (event ∷ past)) (λ other. waits past other && (not (other.place == sent.place) && not (among other.endpoint event.deaths)))
    (λ other. left_by (sent.place == other.place) (was_served past other) (among other.endpoint event.deaths) (is_dead past other.endpoint)
    ∙ ap (λ b. waits past other && (not b && not (among other.endpoint event.deaths))) (eqb_sym sent.place other.place))
    (all_sent past)
    ∙ sym (filter-filter (λ other. not (other.place == sent.place) && not (among other.endpoint event.deaths)) (waits past) (all_sent past))
    ∙ sym (filter-filter (λ other. not (among other.endpoint event.deaths)) (λ other. not (other.place == sent.place)) (waiting past))

serving_lives : (start : Start) (past : History) (sent : Sent) (event : Event) → event ≡ event_of start past (serves sent) →
    living start (event ∷ past) ≡ but_for event.deaths (living start past) ++ newly_living (event ∷ past) event.outcome.bound
serving_lives start past sent event e =
    let alive : Bound → Bool = λ bound. not (is_dead (event ∷ past) bound.endpoint) in
    ap (filter alive) (births-more start event past)
    ∙ filter-append alive (births start past) (option_to_list event.outcome.bound)
    ∙ ap (λ bounds. bounds ++ newly_living (event ∷ past) event.outcome.bound)
    (filter_agree alive (λ bound. not (is_dead past bound.endpoint) && not (among bound.endpoint event.deaths))
    (λ bound. but_left (among bound.endpoint event.deaths) (is_dead past bound.endpoint)) (births start past)
    ∙ sym (filter-filter (λ bound. not (among bound.endpoint event.deaths)) (λ bound. not (is_dead past bound.endpoint)) (births start past)))

pub servings_take_effect : (start : Start) (past : History) (sent : Sent) → IsServed start sent (event_of start past (serves sent)) (behind start (serves sent) past) past
unfolding event_of
servings_take_effect start past sent =
    let event = event_of start past (serves sent) in
    record {
      sent_same = serving_sends start past sent;
      served = λ other. refl;
      dead = λ endpoint. refl;
      queue = serving_waits start past sent;
      born = births-more start event past;
      alive = serving_lives start past sent event refl;
      positions = λ endpoint. refl;
      trees = refl;
      tokens = all_given-more event past;
      carried = λ number. ap (list_any (λ one. among number (handles_of one.sending))) (serving_sends start past sent);
      closed = λ endpoint. ap (list_any (λ one. is_hang_up one.sending && (one.endpoint == endpoint))) (serving_sends start past sent);
    }
