-- What lives behind a serving: all that lived and doesn't die of it.
use Rattle.std.proofs.Common.{◌≡◌, ℕ, suc, ◌≤◌, ◌==◌, ◌&&◌, ◌||◌, ◌⊎◌, Bool, true, false, not, List, [], ◌∷◌, ◌++◌, length, filter, Option, Some, None, Contains, refl, sym, ap, ◌∙◌, subst, inl, inr, arith}
use Rattle.std.specs.List.{list_any}
use Rattle.std.specs.Option.{option_map_or}
use Rattle.std.proofs.lemmas.Bool.{eqb-true, eq-eqb, or_cases, or_parts, or_left, or_right, or_from, cases_Bool, cases_eq, false_from_ne_true, true≢false}
use Rattle.std.proofs.lemmas.List.Elements.{Contains-append_right}
use Rattle.std.proofs.lemmas.List.Folds.{list_any-append}
use Rattle.fidl_names.specs.HandleNumber.{is_client}
use Rattle.link_admission.specs.Numbering.{among}
use Rattle.vfs_journal.specs.Deaths.{first_deaths, is_settled, deaths_of}
use Rattle.vfs_journal.specs.Entries.{Sent, Journal, message, handles_of, endpoints_in, sends, serves}
use Rattle.vfs_journal.specs.History.{History, all_sent, waiting, is_dead, is_live, is_used, hung_up}
use Rattle.vfs_journal.specs.Lawful.{Lawful, served}
use Rattle.vfs_journal.specs.Outcomes.{Outcome, Forwarded}
use Rattle.vfs_journal.specs.Past.{behind, history_of}
use Rattle.vfs_journal.specs.Serving.{outcome_of}
use Rattle.vfs_journal.specs.Session.{head, sent_behind, with_forward, after_serving}
use Rattle.journal_laws.specs.Soundness.{IsStart}
use Rattle.vfs_journal.specs.Starts.{Bound, Start}
use Rattle.journal_laws.proofs.Among.{member_of, among_of, carried_is, carried_from, carrier_of, carrier_travels, some_found, is_found, one_place}
use Rattle.journal_laws.proofs.Below.{Below}
use Rattle.journal_laws.proofs.Kept.{IsKept, lawful_kept, is_serving, end_lives, mounts_born}
use Rattle.journal_laws.proofs.KnowingLists.{or-none}
use Rattle.journal_laws.proofs.Members.{contains_here, kept}
use Rattle.journal_laws.proofs.Requests.{among_here}
use Rattle.journal_laws.proofs.Served.{IsAnswered, Serves, Dies, ended, carried, dropped, dying, others_of, how_it_dies, is_other, deaths_closed, goes_on_with, gone_on, serving_sound, serving_transit}
use Rattle.journal_laws.proofs.Sound.{View, view, IsView, Adds, Sound, Transit, used, bound_in, travels, nothing_left, carried_used}
use Rattle.journal_laws.proofs.Spreading.{spread_keeps, among_front, among_back}
use Rattle.journal_laws.proofs.Stepping.{Stepped, stepped, served_next}
use Rattle.journal_laws.proofs.Steps.{sendings_wait_last, servings_take_effect}
use Rattle.journal_laws.proofs.Views.{is_view, sent_view, served_view, new_waits, fresh_unserved}

-- ---- what lives in a view

abbrev pub live_in : View → ℕ → Bool
live_in v n = bound_in v.living n || travels v.waiting n

pub bound_lives : (v : View) (b : Bound) (n : ℕ) → Contains v.living b → b.endpoint ≡ n → live_in v n ≡ true
bound_lives v b n there at = or_left (bound_in v.living n) (travels v.waiting n) (is_found (λ bound. bound.endpoint == n) v.living b there (eq-eqb b.endpoint n at))

pub carried_lives : (v : View) (one : Sent) (n : ℕ) → Contains v.waiting one → among n (endpoints_in one) ≡ true → live_in v n ≡ true
carried_lives v one n there h = or_right (bound_in v.living n) (travels v.waiting n) (carrier_travels n v.waiting one there h)

-- an endpoint that lives is bound, or carried
pub data Lives (v : View) (n : ℕ) : Type 0 where
  by_binding : (b : Bound) → Contains v.living b → b.endpoint ≡ n → Lives v n
  by_carrier : (one : Sent) → Contains v.waiting one → among n (endpoints_in one) ≡ true → Lives v n

pub how_it_lives : (v : View) (n : ℕ) → live_in v n ≡ true → Lives v n
how_it_lives v n h = by_side (or_cases (bound_in v.living n) (travels v.waiting n) h) where
  by_side : (bound_in v.living n ≡ true) ⊎ (travels v.waiting n ≡ true) → Lives v n
  by_side (inl g) = let b = some_found (λ bound. bound.endpoint == n) v.living g in by_binding b.0 b.2 (eqb-true b.0.endpoint n b.3)
  by_side (inr g) = let c = carrier_of n v.waiting g in by_carrier c.0 c.1 c.2

-- ---- behind a serving

-- what is carried, and nothing is done with
abbrev pub unsettled : Sent → Outcome → List ℕ
unsettled k o = filter (λ endpoint. not (is_settled o endpoint)) (endpoints_in k)

-- what lives there lived before and doesn't die; what lived and doesn't die lives there, or goes on; and what dies lived
record Leaves (v w : View) (k : Sent) (o : Outcome) : Type 0 where
  was : (n : ℕ) → live_in w n ≡ true → live_in v n ≡ true
  spared : (n : ℕ) → live_in w n ≡ true → among n (dying v.waiting k o) ≡ false
  left : (n : ℕ) → live_in v n ≡ true → among n (dying v.waiting k o) ≡ false → (live_in w n ≡ true) ⊎ goes_on_with o n
  died : (n : ℕ) → among n (dying v.waiting k o) ≡ true → live_in v n ≡ true

was_by : (start : Start) (v w : View) (k : Sent) (o : Outcome) (n : ℕ) → IsAnswered v k o → Serves start v k o w → Lives w n → live_in v n ≡ true
was_by start v w k o n answered serves' (by_binding b there at) = by_birth (serves'.lived b there) where
  by_birth : Contains v.living b ⊎ (o.bound ≡ Some b) → live_in v n ≡ true
  by_birth (inl lived) = bound_lives v b n lived at
  by_birth (inr e) = carried_lives v k n answered.waits (ap (λ (m : ℕ). among m (endpoints_in k)) (sym at) ∙ answered.bound_in b e)
was_by start v w k o n answered serves' (by_carrier one there h) = carried_lives v one n (serves'.waited one there).0 h

undead : (w : View) (start : Start) (left : ℕ → Type 0) (n : ℕ) → IsView w → Transit start w left → Lives w n → w.dead n ≡ false
undead w start left n is transit (by_binding b there at) = ap w.dead (sym at) ∙ (is.living_born b there).1
undead w start left n is transit (by_carrier one there h) = transit.alive one n there h

-- what lives isn't dead
pub lives_undead : (start : Start) (v : View) (n : ℕ) → IsView v → Transit start v nothing_left → live_in v n ≡ true → v.dead n ≡ false
lives_undead start v n is transit h = undead v start nothing_left n is transit (how_it_lives v n h)

settled_lives : (start : Start) (v w : View) (k : Sent) (o : Outcome) (n : ℕ) → Serves start v k o w → w.dead n ≡ false → among n (dying v.waiting k o) ≡ false → is_settled o n ≡ true → (live_in w n ≡ true) ⊎ goes_on_with o n
settled_lives start v w k o n serves' alive spared h = by_bound o.bound refl (or_cases (option_map_or (λ bound. bound.endpoint == n) o.bound false) _ h) where
  by_forward : (x : Option Forwarded) → o.forward ≡ x → option_map_or (λ forward. forward.object == n) x false ≡ true → (live_in w n ≡ true) ⊎ goes_on_with o n
  by_forward None e g = absurd (true≢false (sym g))
  by_forward (Some f) e g = inr (f, e, eqb-true f.object n g)

  ends : among n o.ends ≡ true → among n (dying v.waiting k o) ≡ true
  ends g = spread_keeps n (first_deaths k o) (others_of v.waiting k) (among_front n o.ends (unsettled k o) g)

  by_rest : (among n o.ends ≡ true) ⊎ (option_map_or (λ forward. forward.object == n) o.forward false ≡ true) → (live_in w n ≡ true) ⊎ goes_on_with o n
  by_rest (inl g) = absurd (true≢false (sym (ends g) ∙ spared))
  by_rest (inr g) = by_forward o.forward refl g

  by_bound : (x : Option Bound) → o.bound ≡ x → (option_map_or (λ bound. bound.endpoint == n) x false ≡ true) ⊎ ((among n o.ends || option_map_or (λ forward. forward.object == n) o.forward false) ≡ true) → (live_in w n ≡ true) ⊎ goes_on_with o n
  by_bound None e (inl g) = absurd (true≢false (sym g))
  by_bound (Some x) e (inl g) =
      let at = eqb-true x.endpoint n g in
      inl (bound_lives w x n (serves'.new_lives x e (ap w.dead at ∙ alive)) at)
  by_bound x e (inr g) = by_rest (or_cases (among n o.ends) _ g)

left_dies : (v : View) (k : Sent) (o : Outcome) (n : ℕ) → among n (endpoints_in k) ≡ true → is_settled o n ≡ false → among n (dying v.waiting k o) ≡ true
left_dies v k o n h left =
    spread_keeps n (first_deaths k o) (others_of v.waiting k)
    (among_back n o.ends (unsettled k o) (among_of n (unsettled k o) (kept (λ endpoint. not (is_settled o endpoint)) (endpoints_in k) n (member_of n (endpoints_in k) h) (ap not left))))

left_by : (start : Start) (v w : View) (k : Sent) (o : Outcome) (n : ℕ) → IsStart start → Sound start v → IsView v → Transit start v nothing_left → IsAnswered v k o → Serves start v k o w →
    among n (dying v.waiting k o) ≡ false → Lives v n → (live_in w n ≡ true) ⊎ goes_on_with o n
left_by start v w k o n s past is transit answered serves' spared (by_binding b there at) =
    inl (bound_lives w b n (serves'.lives b there (ap (λ (m : ℕ). among m (dying v.waiting k o)) at ∙ spared)) at)
left_by start v w k o n s past is transit answered serves' spared (by_carrier u there h) = by_place (cases_eq u.place k.place) where
  alive : among n (endpoints_in k) ≡ true → w.dead n ≡ false
  alive g = serves'.dead n ∙ or_from (among n (dying v.waiting k o)) (v.dead n) spared (transit.alive k n answered.waits g)

  by_test : among n (endpoints_in k) ≡ true → (is_settled o n ≡ true) ⊎ (is_settled o n ≡ false) → (live_in w n ≡ true) ⊎ goes_on_with o n
  by_test g (inl settles) = settled_lives start v w k o n serves' (alive g) spared settles
  by_test g (inr left) = absurd (true≢false (sym (left_dies v k o n g left) ∙ spared))

  by_place : (u.place ≡ k.place) ⊎ (u.place ≡ k.place → ⊥) → (live_in w n ≡ true) ⊎ goes_on_with o n
  by_place (inl e) =
      let same : u ≡ k = one_place v.waiting u k is.rises there answered.waits e in
      let g : among n (endpoints_in k) ≡ true = ap (λ (x : Sent). among n (endpoints_in x)) (sym same) ∙ h in
      by_test g (cases_Bool (is_settled o n))
  by_place (inr apart) =
      let lives : among u.endpoint (dying v.waiting k o) ≡ false =
      false_from_ne_true (among u.endpoint (dying v.waiting k o))
      (λ dead. true≢false (sym (deaths_closed start v k o s past is answered u (is_other v.waiting k u there apart) dead n h) ∙ spared)) in
      inl (carried_lives w u n (serves'.still u there apart lives) h)

died_by : (v : View) (k : Sent) (o : Outcome) (n : ℕ) → IsAnswered v k o → Dies v k o n → live_in v n ≡ true
died_by v k o n answered (ended h) = by_side (answered.ends_in n h) where
  by_side : ((n ≡ k.endpoint) × (is_client n ≡ true)) ⊎ (among n (endpoints_in k) ≡ true) → live_in v n ≡ true
  by_side (inl own) = bound_lives v answered.bound n answered.lives (answered.at ∙ sym own.0)
  by_side (inr g) = carried_lives v k n answered.waits g
died_by v k o n answered (carried h left) = carried_lives v k n answered.waits h
died_by v k o n answered (dropped one there apart on h) = carried_lives v one n there h

leaves : (start : Start) (v w : View) (k : Sent) (o : Outcome) → IsStart start → Sound start v → IsView v → IsView w → Transit start v nothing_left → Transit start w (goes_on_with o) → IsAnswered v k o → Serves start v k o w → Leaves v w k o
leaves start v w k o s past is is_now transit transit_now answered serves' = record {
  was = λ n h. was_by start v w k o n answered serves' (how_it_lives w n h);
  spared = λ n h. (or_parts (among n (dying v.waiting k o)) (v.dead n) (sym (serves'.dead n) ∙ undead w start (goes_on_with o) n is_now transit_now (how_it_lives w n h))).0;
  left = λ n h spared. left_by start v w k o n s past is transit answered serves' spared (how_it_lives v n h);
  died = λ n h. died_by v k o n answered (how_it_dies v k o n h);
}

-- ---- behind a serving and what goes on

-- what is dead, lives, was closed and was known behind a serving with its forwarded message
pub record After (start : Start) (past now : History) (deaths : List ℕ) : Type 0 where
  pub dead : (n : ℕ) → is_dead now n ≡ (among n deaths || is_dead past n)
  pub live : (n : ℕ) → is_live start now n ≡ (is_live start past n && not (among n deaths))
  pub closed : (n : ℕ) → hung_up now n ≡ hung_up past n
  pub died : (n : ℕ) → among n deaths ≡ true → is_live start past n ≡ true
  pub known : (n : ℕ) → is_used start now n ≡ true → is_used start past n ≡ true

lives_by : (a b d : Bool) → (a ≡ true → b ≡ true) → (a ≡ true → d ≡ false) → (b ≡ true → d ≡ false → a ≡ true) → a ≡ (b && not d)
lives_by a false d was spared left = false_from_ne_true a (λ h. true≢false (sym (was h)))
lives_by a true true was spared left = false_from_ne_true a (λ h. true≢false (spared h))
lives_by a true false was spared left = left refl refl

no_forward : (o : Outcome) (n : ℕ) → o.forward ≡ None → goes_on_with o n → ⊥
no_forward o n none on = never (sym none ∙ on.1) where
  never : {f : Forwarded} → None ≡ Some f → ⊥
  never e = cc

stays_by : {A : Type 0} (o : Outcome) (n : ℕ) → o.forward ≡ None → A ⊎ goes_on_with o n → A
stays_by o n none (inl h) = h
stays_by o n none (inr on) = absurd (no_forward o n none on)

object_same : {x y : Forwarded} → Some x ≡ Some y → x.object ≡ y.object
object_same e = cc

one_handle : (n m : ℕ) → among n (m ∷ []) ≡ true → n ≡ m
one_handle n m h = by_test (cases_Bool (m == n)) where
  by_test : ((m == n) ≡ true) ⊎ ((m == n) ≡ false) → n ≡ m
  by_test (inl e) = sym (eqb-true m n e)
  by_test (inr e) = absurd (true≢false (sym h ∙ ap (λ (b : Bool). b || false) e))

-- what was known or is carried by one more
pub used_more : (start : Start) (sent' : List Sent) (new : Sent) (n : ℕ) → used start (sent' ++ new ∷ []) n ≡ true → (used start sent' n ≡ true) ⊎ (among n (handles_of new.sending) ≡ true)
used_more start sent' new n h = by_first (or_cases (list_any (λ (bound : Bound). bound.endpoint == n) start.firsts) _ h) where
  by_sent : (list_any (λ (one : Sent). among n (handles_of one.sending)) sent' ≡ true) ⊎ ((among n (handles_of new.sending) || false) ≡ true) → (used start sent' n ≡ true) ⊎ (among n (handles_of new.sending) ≡ true)
  by_sent (inl g) = inl (or_right _ _ g)
  by_sent (inr g) = inr (sym (or-none (among n (handles_of new.sending))) ∙ g)

  by_first : (list_any (λ (bound : Bound). bound.endpoint == n) start.firsts ≡ true) ⊎ (list_any (λ (one : Sent). among n (handles_of one.sending)) (sent' ++ new ∷ []) ≡ true) → (used start sent' n ≡ true) ⊎ (among n (handles_of new.sending) ≡ true)
  by_first (inl g) = inl (or_left _ _ g)
  by_first (inr g) =
      by_sent (or_cases (list_any (λ (one : Sent). among n (handles_of one.sending)) sent') (list_any (λ (one : Sent). among n (handles_of one.sending)) (new ∷ []))
      (sym (list_any-append (λ (one : Sent). among n (handles_of one.sending)) sent' (new ∷ [])) ∙ g))

-- what lives behind one more that is sent and waits
pub sent_lives : (v w : View) (new : Sent) (n : ℕ) → Adds v new w → Contains w.waiting new → live_in w n ≡ (live_in v n || among n (endpoints_in new))
sent_lives v w new n adds waits =
    same (live_in w n) (live_in v n) (among n (endpoints_in new)) (λ h. from (how_it_lives w n h)) (λ h. still (how_it_lives v n h)) (λ h. carried_lives w new n waits h) where
      by_waiting : (one : Sent) → among n (endpoints_in one) ≡ true → Contains v.waiting one ⊎ (new ≡ one) → (live_in v n ≡ true) ⊎ (among n (endpoints_in new) ≡ true)
      by_waiting one h (inl there) = inl (carried_lives v one n there h)
      by_waiting one h (inr e) = inr (ap (λ (x : Sent). among n (endpoints_in x)) e ∙ h)

      from : Lives w n → (live_in v n ≡ true) ⊎ (among n (endpoints_in new) ≡ true)
      from (by_binding b there at) = inl (bound_lives v b n (subst (λ bs. Contains bs b) adds.living there) at)
      from (by_carrier one there h) = by_waiting one h (adds.waited one there)

      still : Lives v n → live_in w n ≡ true
      still (by_binding b there at) = bound_lives w b n (subst (λ bs. Contains bs b) (sym adds.living) there) at
      still (by_carrier one there h) = carried_lives w one n (adds.still one there) h

      same : (a b c : Bool) → (a ≡ true → (b ≡ true) ⊎ (c ≡ true)) → (b ≡ true → a ≡ true) → (c ≡ true → a ≡ true) → a ≡ (b || c)
      same a true c f g h = g refl
      same a false true f g h = h refl
      same a false false f g h = false_from_ne_true a (λ e. never (f e)) where
        never : (false ≡ true) ⊎ (false ≡ true) → ⊥
        never (inl e) = true≢false (sym e)
        never (inr e) = true≢false (sym e)

-- what is dead, known and alive behind a serving that forwards nothing
after_alone : Below → (start : Start) (earlier : Journal) (k : Sent) → IsStart start → Lawful start earlier → IsKept start earlier → head start (history_of start earlier) k.endpoint ≡ Some k →
    (outcome_of start (history_of start earlier) k).forward ≡ None →
    After start (history_of start earlier) (behind start (serves k) (history_of start earlier)) (dying (waiting (history_of start earlier)) k (outcome_of start (history_of start earlier) k))
unfolding history_of
after_alone below start earlier k s lawful past h none =
    let steps = stepped start earlier lawful in
    let history = history_of start earlier in
    let o = outcome_of start history k in
    let now = behind start (serves k) history in
    let is = is_view start earlier steps in
    let serving' = is_serving below start earlier k s steps past.sound h in
    let serves' = served_view start history k serving'.keeps in
    let is_now = is_view start (serves k ∷ earlier) (served_next start earlier k lawful h) in
    let transit_now = serving_transit start (view start history) (view start now) k o s past.sound is past.transit serving'.answered serves' in
    let h = leaves start (view start history) (view start now) k o s past.sound is is_now past.transit transit_now serving'.answered serves' in
    record {
      dead = λ n. serves'.dead n;
      live = λ n. lives_by (live_in (view start now) n) (live_in (view start history) n) (among n (dying (waiting history) k o)) (h.was n) (h.spared n) (λ a b. stays_by o n none (h.left n a b));
      closed = λ n. (servings_take_effect start history k).closed n;
      died = λ n d. h.died n d;
      known = λ n u. subst (λ sent'. used start sent' n ≡ true) serves'.sent u;
    }

-- and behind one that forwards a message
after_forward : Below → (start : Start) (earlier : Journal) (k : Sent) (f : Forwarded) → IsStart start → Lawful start earlier → head start (history_of start earlier) k.endpoint ≡ Some k →
    (outcome_of start (history_of start earlier) k).forward ≡ Some f → IsKept start (with_forward k.place (serves k ∷ earlier) (Some f)) →
    After start (history_of start earlier) (history_of start (with_forward k.place (serves k ∷ earlier) (Some f))) (dying (waiting (history_of start earlier)) k (outcome_of start (history_of start earlier) k))
unfolding history_of
after_forward below start earlier k f s lawful h e kept_now =
    let steps = stepped start earlier lawful in
    let past = lawful_kept below start s earlier lawful in
    let history = history_of start earlier in
    let o = outcome_of start history k in
    let deaths = dying (waiting history) k o in
    let mid = behind start (serves k) history in
    let new = sent_behind (serves k ∷ earlier) f.endpoint (message f.bytes (f.object ∷ [])) (Some k.place) in
    let now = behind start (sends new) mid in
    let is = is_view start earlier steps in
    let mid_steps : Stepped start (serves k ∷ earlier) = served_next start earlier k lawful h in
    let serving' = is_serving below start earlier k s steps past.sound h in
    let serves' = served_view start history k serving'.keeps in
    let is_mid = is_view start (serves k ∷ earlier) mid_steps in
    let mid_sound = serving_sound start (view start history) (view start mid) k o s past.sound is serving'.answered serves' in
    let mid_transit = serving_transit start (view start history) (view start mid) k o s past.sound is past.transit serving'.answered serves' in
    let l = leaves start (view start history) (view start mid) k o s past.sound is is_mid past.transit mid_transit serving'.answered serves' in
    let adds = sent_view start mid new in
    let sent_now : Contains (all_sent now) new = subst (λ ones. Contains ones new) (sym adds.sent) (Contains-append_right (all_sent mid) (new ∷ []) new (contains_here new [])) in
    let forwarded = (kept_now.sound.right new sent_now).by_origin in
    let lives = end_lives start (view start mid) f.endpoint s mid_sound is_mid (mounts_born start mid) forwarded.end in
    let waits = new_waits start mid new (fresh_unserved start (serves k ∷ earlier) new mid_steps (le_refl_of (suc (length earlier)))) lives.0 in
    let on = serving'.answered.goes_on f e in
    let gone = gone_on start (view start history) (view start mid) k o f past.transit serving'.answered serves' e in
    let client : is_client f.object ≡ true = (carried_is k f.object on.0).0 in
    let carried_k : live_in (view start history) f.object ≡ true = carried_lives (view start history) k f.object serving'.answered.waits on.0 in
    let spared_k : among f.object deaths ≡ false = (or_parts (among f.object deaths) (is_dead history f.object) (sym (serves'.dead f.object) ∙ gone.2)).0 in
    let object_of : (n : ℕ) → among n (endpoints_in new) ≡ true → n ≡ f.object = λ n c. one_handle n f.object (carried_is new n c).1 in
    let carries : (n : ℕ) → n ≡ f.object → among n (endpoints_in new) ≡ true = λ n at. carried_from new n (ap is_client at ∙ client) (among_here n f.object [] (sym at)) in
    record {
      dead = λ n. adds.dead n ∙ serves'.dead n;
      live = λ n. sent_lives (view start mid) (view start now) new n adds waits
          ∙ with_object (live_in (view start mid) n) (among n (endpoints_in new)) (live_in (view start history) n) (among n deaths) (l.was n) (l.spared n)
          (λ c. ap (live_in (view start history)) (object_of n c) ∙ carried_k) (λ c. ap (λ (m : ℕ). among m deaths) (object_of n c) ∙ spared_k)
          (λ a b. goes_by n (carries n) (l.left n a b));
      closed = λ n. (sendings_wait_last start mid new).closed n ∙ or-none (hung_up mid n) ∙ (servings_take_effect start history k).closed n;
      died = λ n d. l.died n d;
      known = λ n u. known_by n (λ c. carried_used start (all_sent history) k n (is.waits k serving'.answered.waits) (ap (λ (m : ℕ). among m (handles_of k.sending)) (one_handle n f.object c) ∙ (carried_is k f.object on.0).1))
          (used_more start (all_sent mid) new n (subst (λ sent'. used start sent' n ≡ true) adds.sent u)) serves'.sent;
    } where
      le_refl_of : (n : ℕ) → n ≤ n
      le_refl_of n = omega arith

      with_object : (a c b d : Bool) → (a ≡ true → b ≡ true) → (a ≡ true → d ≡ false) → (c ≡ true → b ≡ true) → (c ≡ true → d ≡ false) → (b ≡ true → d ≡ false → (a ≡ true) ⊎ (c ≡ true)) → (a || c) ≡ (b && not d)
      with_object a c b d f g h i j = lives_by (a || c) b d (λ e. by_or f h (or_cases a c e)) (λ e. by_or g i (or_cases a c e)) (λ p q. or_by (j p q)) where
        by_or : {A : Type 0} → (a ≡ true → A) → (c ≡ true → A) → (a ≡ true) ⊎ (c ≡ true) → A
        by_or p q (inl e) = p e
        by_or p q (inr e) = q e

        or_by : (a ≡ true) ⊎ (c ≡ true) → (a || c) ≡ true
        or_by (inl e) = or_left a c e
        or_by (inr e) = or_right a c e

      goes_by : {A C : Type 0} (n : ℕ) → (n ≡ f.object → C) → A ⊎ goes_on_with (outcome_of start (history_of start earlier) k) n → A ⊎ C
      goes_by n carries (inl a) = inl a
      goes_by n carries (inr on) = inr (carries (sym on.2 ∙ object_same (sym on.1 ∙ e)))

      known_by : {sent' : List Sent} {A : Type 0} (n : ℕ) → (A → used start (all_sent (history_of start earlier)) n ≡ true) → (used start sent' n ≡ true) ⊎ A → sent' ≡ all_sent (history_of start earlier) → used start (all_sent (history_of start earlier)) n ≡ true
      known_by n by_k (inl u) same = subst (λ sents. used start sents n ≡ true) same u
      known_by n by_k (inr c) same = by_k c

-- what is dead, known and alive behind a serving and what it forwards
pub after_served : Below → (start : Start) (earlier : Journal) (k : Sent) → IsStart start → Lawful start earlier → head start (history_of start earlier) k.endpoint ≡ Some k →
    After start (history_of start earlier) (history_of start (after_serving start earlier k)) (deaths_of (history_of start earlier) k (outcome_of start (history_of start earlier) k))
unfolding history_of
after_served below start earlier k s lawful h = by_forward (outcome_of start (history_of start earlier) k).forward refl where
  by_forward : (x : Option Forwarded) → (outcome_of start (history_of start earlier) k).forward ≡ x →
      After start (history_of start earlier) (history_of start (with_forward k.place (serves k ∷ earlier) x)) (deaths_of (history_of start earlier) k (outcome_of start (history_of start earlier) k))
  by_forward None e = after_alone below start earlier k s lawful (lawful_kept below start s earlier lawful) h e
  by_forward (Some f) e =
      after_forward below start earlier k f s lawful h e
      (lawful_kept below start s (with_forward k.place (serves k ∷ earlier) (Some f)) (subst (λ x. Lawful start (with_forward k.place (serves k ∷ earlier) x)) e (served earlier k lawful h)))
