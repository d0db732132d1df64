-- The views of a history behind one more event.
use Rattle.std.proofs.Common.{◌≡◌, ℕ, zero, suc, ◌-◌, ◌<◌, ◌≤◌, ◌==◌, ◌&&◌, ◌⊎◌, Bool, true, false, not, if◌then◌else◌, slice_get, set, List, [], ◌∷◌, ◌++◌, length, Option, Some, None, All, Contains, option_to_list, unwrap_or, refl, sym, ap, ◌∙◌, subst, inl, inr, arith}
use Rattle.std.specs.Option.{option_map, option_map_or}
use Rattle.std.proofs.lemmas.Bool.{cases_lt, or_from, ne_eqb}
use Rattle.std.proofs.lemmas.List.{get_or_past}
use Rattle.std.proofs.lemmas.List.Elements.{All-nil, All-cons, All-set, All-push, All-contains, Contains-append_left, Contains-append_right, Contains-append_cases}
use Rattle.link_frames.specs.declared.kinds.Refusal.{Refusal}
use Rattle.link_admission.specs.Numbering.{among}
use Rattle.node_graph.specs.declared.nodes.NodeKind.{NodeKind}
use Rattle.node_graph.specs.declared.nodes.NodeKind.TheVariants.{Directory, File, Service, Mount}
use Rattle.node_graph.specs.Tree.{Tree, NodeRow, Change, make, add, cut, move, fill, stay, after, filled, bare_tree, row_of}
use Rattle.fidl_names.specs.HandleNumber.{end_of_mount}
use Rattle.conn_rules.specs.Nodes.{kind_here}
use Rattle.vfs_journal.specs.Deaths.{others}
use Rattle.vfs_journal.specs.Entries.{Sent, Journal, sends, serves, refuses}
use Rattle.vfs_journal.specs.History.{History, all_sent, births, living, waiting, waits, is_dead, was_served, trees_of, tree_at, changed}
use Rattle.journal_laws.specs.Laws.{but_for, newly_living}
use Rattle.vfs_journal.specs.Outcomes.{Given}
use Rattle.vfs_journal.specs.Past.{event_of, behind, history_of}
use Rattle.vfs_journal.specs.Serving.{outcome_of}
use Rattle.journal_laws.specs.Soundness.{HasEnd, AreMounted, mount_ends}
use Rattle.vfs_journal.specs.Starts.{Bound, Start}
use Rattle.vfs_journal.specs.Tokens.{all_given}
use Rattle.journal_laws.proofs.Acts.{KeepsMounts, IsMade}
use Rattle.journal_laws.proofs.Members.{contains_here, contains_later, contains_cases, contains_none, kept, kept_of}
use Rattle.journal_laws.proofs.Places.{head_is, waits_of_sent, waiting_rises, waited, waited_or_sent, in_order, unserved}
use Rattle.journal_laws.proofs.Served.{Serves, dying, is_other}
use Rattle.journal_laws.proofs.Sound.{View, view, IsView, Adds}
use Rattle.journal_laws.proofs.Stepping.{Stepped, none, refusing, sending, serving}
use Rattle.journal_laws.proofs.Steps.{refusals_change_nothing, sendings_wait_last, servings_take_effect}

alive_of : (b : Bool) → not b ≡ true → b ≡ false
alive_of true h = sym h
alive_of false h = refl

pub is_view : (start : Start) (journal : Journal) → Stepped start journal → IsView (view start (history_of start journal))
is_view start journal h =
    let history = history_of start journal in
    record {
      waits = λ one p. waits_of_sent history one p;
      rises = waiting_rises start journal h;
      living_born = λ b p. let at = kept_of (λ bound. not (is_dead history bound.endpoint)) (births start history) b p in (at.0, alive_of (is_dead history b.endpoint) at.1);
      born_living = λ b p e. kept (λ bound. not (is_dead history bound.endpoint)) (births start history) b p (ap not e);
    }

-- ---- a refusal

pub refused_view : (start : Start) (past : History) (endpoint : ℕ) (why : Refusal) → view start past ≡ view start (behind start (refuses endpoint why) past)
unfolding event_of
refused_view start past endpoint why =
    let now = behind start (refuses endpoint why) past in
    let h = refusals_change_nothing start past endpoint why in
    let step : List Sent → List Sent → List Bound → List Bound → List Given → List Tree → View =
    λ s w l b g t. record { sent = s; waiting = w; living = l; births = b; given = g; trees = t; dead = is_dead past } in
    ap (λ s. step s (waiting past) (living start past) (births start past) (all_given past) (trees_of start past)) (sym h.sent)
    ∙ ap (λ w. step (all_sent now) w (living start past) (births start past) (all_given past) (trees_of start past)) (sym h.queue)
    ∙ ap (λ l. step (all_sent now) (waiting now) l (births start past) (all_given past) (trees_of start past)) (sym h.same.alive)
    ∙ ap (λ b. step (all_sent now) (waiting now) (living start now) b (all_given past) (trees_of start past)) (sym h.same.born)
    ∙ ap (λ g. step (all_sent now) (waiting now) (living start now) (births start now) g (trees_of start past)) (sym h.same.tokens)
    ∙ ap (λ t. step (all_sent now) (waiting now) (living start now) (births start now) (all_given now) t) (sym h.same.trees)

-- ---- a sending

pub sent_view : (start : Start) (past : History) (new : Sent) → Adds (view start past) new (view start (behind start (sends new) past))
sent_view start past new =
    let h = sendings_wait_last start past new in
    record {
      sent = h.sent_last;
      waited = λ one p. waited_or_sent start past new one p;
      still = λ one p. subst (λ ones. Contains ones one) (sym h.queue) (Contains-append_left (waiting past) (if waits past new then new ∷ [] else []) one p);
      living = h.same.alive;
      births = h.same.born;
      given = h.same.tokens;
      trees = h.same.trees;
      dead = h.same.dead;
    }

-- it waits, where it wasn't served and its endpoint isn't dead
pub new_waits : (start : Start) (past : History) (new : Sent) → was_served past new ≡ false → is_dead past new.endpoint ≡ false → Contains (waiting (behind start (sends new) past)) new
new_waits start past new unserved alive =
    let it_waits : waits past new ≡ true = ap (λ (b : Bool). not b && not (is_dead past new.endpoint)) unserved ∙ ap not alive in
    subst (λ ones. Contains ones new) (sym (sendings_wait_last start past new).queue)
    (Contains-append_right (waiting past) (if waits past new then new ∷ [] else []) new
    (subst (λ (b : Bool). Contains (if b then new ∷ [] else []) new) (sym it_waits) (contains_here new [])))

-- nothing was served that is sent at the next place
pub fresh_unserved : (start : Start) (journal : Journal) (one : Sent) → Stepped start journal → length journal ≤ one.place → was_served (history_of start journal) one ≡ false
unfolding history_of event_of
fresh_unserved start journal one none h = refl
fresh_unserved start journal one (refusing earlier endpoint why s all) h = fresh_unserved start earlier one s (omega arith)
fresh_unserved start journal one (sending earlier new s next) h = fresh_unserved start earlier one s (omega arith)
fresh_unserved start journal one (serving earlier new s all is) h =
    let first = head_is start (history_of start earlier) new is in
    let below : new.place < length earlier =
    All-contains (λ (sent : Sent). sent.place < length earlier) (all_sent (history_of start earlier)) new (in_order start earlier s).below (waits_of_sent (history_of start earlier) new first.waits) in
    or_from (new.place == one.place) (was_served (history_of start earlier) one) (ne_eqb new.place one.place (λ e. omega arith))
    (fresh_unserved start earlier one s (omega arith))

-- ---- mounts of trees

bare_mounted : (start : Start) → AreMounted start bare_tree
bare_mounted start = All-cons (HasEnd start) _ [] (λ index e. absurd (cc)) (All-nil (HasEnd start))

at_mounted : (start : Start) (trees : List Tree) (server : ℕ) → All (AreMounted start) trees → AreMounted start (tree_at trees server)
at_mounted start trees server h = by_place (cases_lt server (length trees)) where
  by_place : (server < length trees) ⊎ (length trees ≤ server) → AreMounted start (tree_at trees server)
  by_place (inl l) = h server bare_tree l
  by_place (inr l) = subst (AreMounted start) (sym (get_or_past trees server bare_tree l)) (bare_mounted start)

pub tree_mounted : (start : Start) (trees : List Tree) (server : ℕ) → All (AreMounted start) trees → AreMounted start (tree_at trees server)
tree_mounted start trees server h = at_mounted start trees server h

row_there : (rows : List NodeRow) (place : ℕ) (row : NodeRow) → slice_get rows place ≡ Some row → Contains rows row
row_there [] zero row e = absurd (cc)
row_there [] (suc place) row e = absurd (cc)
row_there (r ∷ rows) zero row e = let same : r ≡ row = cc in subst (λ (x : NodeRow). Contains (x ∷ rows) row) (sym same) (contains_here row rows)
row_there (r ∷ rows) (suc place) row e = contains_later row r rows (row_there rows place row e)

row_in : (rows : List NodeRow) (number : ℕ) (row : NodeRow) → row_of rows number ≡ Some row → Contains rows row
row_in rows zero row e = absurd (cc)
row_in rows (suc place) row e = row_there rows place row e

filled_mounted : (start : Start) (rows : List NodeRow) (number : ℕ) (bytes : List ℕ) → All (HasEnd start) rows → All (HasEnd start) (filled rows number bytes)
filled_mounted start rows number bytes h = by_row (row_of rows number) refl where
  by_row : (o : Option NodeRow) → row_of rows number ≡ o → All (HasEnd start) (option_map_or (λ row. set rows (number - 1) (record { kind = row.kind; bytes = bytes })) o rows)
  by_row None e = h
  by_row (Some row) e =
      All-set (HasEnd start) rows (number - 1) (record { kind = row.kind; bytes = bytes })
      (All-contains (HasEnd start) rows row h (row_in rows number row e)) h

no_mount : (kind : NodeKind) → IsMade kind → (index : ℕ) → kind ≡ Mount index → ⊥
no_mount Directory h index e = cc
no_mount File h index e = cc
no_mount Service h index e = cc
no_mount (Mount i) h index e = h

after_mounted : (start : Start) (tree : Tree) (change : Change) → KeepsMounts change → AreMounted start tree → AreMounted start (after tree change)
after_mounted start tree (make key row mask) keeps h = All-push (HasEnd start) tree.nodes _ h (λ index e. absurd (no_mount row.kind keeps index e))
after_mounted start tree (add key to) keeps h = h
after_mounted start tree (cut key) keeps h = h
after_mounted start tree (move from to) keeps h = h
after_mounted start tree (fill number bytes) keeps h = filled_mounted start tree.nodes number bytes h
after_mounted start tree stay keeps h = h

changed_mounted : (start : Start) (trees : List Tree) (server : ℕ) (change : Change) → KeepsMounts change → All (AreMounted start) trees → All (AreMounted start) (changed trees server change)
changed_mounted start trees server change keeps h =
    All-set (AreMounted start) trees server (after (tree_at trees server) change) (after_mounted start (tree_at trees server) change keeps (at_mounted start trees server h)) h

-- a mount that a tree has leads to its end
mount_by : (start : Start) (tree : Tree) (number index : ℕ) → AreMounted start tree → (o : Option NodeRow) → row_of tree.nodes number ≡ o → unwrap_or (option_map (λ row. row.kind) o) Directory ≡ Mount index → Contains (mount_ends start) (end_of_mount index)
mount_by start tree number index h None e is = absurd (cc)
mount_by start tree number index h (Some row) e is = All-contains (HasEnd start) tree.nodes row h (row_in tree.nodes number row e) index is

pub mount_there : (start : Start) (tree : Tree) (number index : ℕ) → AreMounted start tree → kind_here tree number ≡ Mount index → Contains (mount_ends start) (end_of_mount index)
mount_there start tree number index h is = mount_by start tree number index h (row_of tree.nodes number) refl is

-- ---- a serving

given_one : {X : Type 0} (o : Option X) (x : X) → Contains (option_to_list o) x → o ≡ Some x
given_one None x h = absurd (contains_none x h)
given_one {X} (Some y) x h = by_place (contains_cases x y [] h) where
  by_place : (y ≡ x) ⊎ Contains [] x → Some y ≡ Some x
  by_place (inl e) = ap (λ (z : X). Some z) e
  by_place (inr h) = absurd (contains_none x h)

one_given : {X : Type 0} (o : Option X) (x : X) → o ≡ Some x → Contains (option_to_list o) x
one_given o x e = subst (λ p. Contains (option_to_list p) x) (sym e) (contains_here x [])

more_given : {X : Type 0} (xs ys : List X) (o : Option X) (x : X) → ys ≡ xs ++ option_to_list o → Contains ys x → Contains xs x ⊎ (o ≡ Some x)
more_given xs ys o x e h = by_side (Contains-append_cases xs (option_to_list o) x (subst (λ zs. Contains zs x) e h)) where
  by_side : Contains xs x ⊎ Contains (option_to_list o) x → Contains xs x ⊎ (o ≡ Some x)
  by_side (inl h) = inl h
  by_side (inr h) = inr (given_one o x h)

lived_by : (start : Start) (past now : History) (deaths : List ℕ) (o : Option Bound) (b : Bound) → living start now ≡ but_for deaths (living start past) ++ newly_living now o → Contains (living start now) b → Contains (living start past) b ⊎ (o ≡ Some b)
lived_by start past now deaths o b e h = by_side (Contains-append_cases (but_for deaths (living start past)) (newly_living now o) b (subst (λ bs. Contains bs b) e h)) where
  by_side : Contains (but_for deaths (living start past)) b ⊎ Contains (newly_living now o) b → Contains (living start past) b ⊎ (o ≡ Some b)
  by_side (inl h) = inl (kept_of (λ bound. not (among bound.endpoint deaths)) (living start past) b h).0
  by_side (inr h) = inr (given_one o b (kept_of (λ bound. not (is_dead now bound.endpoint)) (option_to_list o) b h).0)

pub served_view : (start : Start) (past : History) (k : Sent) → KeepsMounts (outcome_of start past k).change →
    Serves start (view start past) k (outcome_of start past k) (view start (behind start (serves k) past))
unfolding event_of
served_view start past k keeps =
    let o = outcome_of start past k in
    let now = behind start (serves k) past in
    let deaths = dying (waiting past) k o in
    let h = servings_take_effect start past k in
    record {
      sent = h.sent_same;
      waited = λ one p. waited start past k one p;
      still = λ one p apart alive.
          subst (λ ones. Contains ones one) (sym h.queue)
          (kept (λ other. not (among other.endpoint deaths)) (others past k) one (is_other (waiting past) k one p apart) (ap not alive));
      lived = λ b p. lived_by start past now deaths o.bound b h.alive p;
      lives = λ b p alive.
          subst (λ bs. Contains bs b) (sym h.alive)
          (Contains-append_left (but_for deaths (living start past)) (newly_living now o.bound) b (kept (λ bound. not (among bound.endpoint deaths)) (living start past) b p (ap not alive)));
      new_lives = λ b e alive.
          subst (λ bs. Contains bs b) (sym h.alive)
          (Contains-append_right (but_for deaths (living start past)) (newly_living now o.bound) b (kept (λ bound. not (is_dead now bound.endpoint)) (option_to_list o.bound) b (one_given o.bound b e) (ap not alive)));
      births = λ b p. more_given (births start past) (births start now) o.bound b h.born p;
      given = λ g p. more_given (all_given past) (all_given now) o.token g h.tokens p;
      trees = λ mounted. changed_mounted start (trees_of start past) o.server o.change keeps mounted;
      dead = λ n. refl;
    }
