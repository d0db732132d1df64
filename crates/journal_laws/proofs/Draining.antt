-- Servings of heads keep a journal lawful, and a drain leaves nothing that waits.
use Rattle.std.proofs.Common.{◌≡◌, ℕ, zero, suc, ◌<◌, ◌≤◌, ◌==◌, ◌&&◌, ◌⊎◌, Bool, true, false, not, cond, if◌then◌else◌, is_some, List, [], ◌∷◌, fold, Option, Some, None, find, All, AllPairs, Contains, refl, sym, ap, ◌∙◌, subst, inl, inr, arith}
use Rattle.std.specs.Option.{option_map_or}
use Rattle.std.proofs.lemmas.Bool.{eqb-true, eq-eqb, true≢false}
use Rattle.std.proofs.lemmas.List.Elements.{All-head, All-tail, All-contains}
use Rattle.link_frames.specs.declared.kinds.FrameKind.{FrameKind}
use Rattle.link_frames.specs.declared.kinds.FrameKind.TheVariants as kind
use Rattle.link_frames.specs.declared.kinds.Mode.{Mode}
use Rattle.link_frames.specs.declared.kinds.Mode.TheVariants as mode
use Rattle.link_frames.specs.declared.kinds.Refusal.{Refusal}
use Rattle.link_frames.specs.declared.kinds.Side.TheVariants.{ToServers}
use Rattle.link_admission.specs.Admission.{admission}
use Rattle.link_frames.specs.Frames.{Frame, IsFrame}
use Rattle.link_admission.specs.Numbering.{among}
use Rattle.link_frames.specs.Numbers.{word_in}
use Rattle.vfs_journal.specs.Entries.{Sent, Journal}
use Rattle.vfs_journal.specs.History.{History, all_sent, waiting, waits, travelling, was_served, is_bound, is_dead, bound_at}
use Rattle.vfs_journal.specs.Lawful.{Lawful}
use Rattle.vfs_journal.specs.Lawful as lawful
use Rattle.vfs_journal.specs.Past.{history_of}
use Rattle.vfs_journal.specs.Session.{head, oldest, next, is_bound_at, after_serving, serving, serving_one, drained, weight, look_ups, admitted, by_refusal, arrives, steps, session, ended}
use Rattle.journal_laws.specs.Soundness.{IsStart, AreInTransit, IsDrained}
use Rattle.vfs_journal.specs.Starts.{Bound, Start}
use Rattle.journal_laws.proofs.Among.{carried_is, carrier_of}
use Rattle.journal_laws.proofs.Below.{Below}
use Rattle.journal_laws.proofs.Kept.{lawful_kept}
use Rattle.journal_laws.proofs.Lists.{pairs-head}
use Rattle.journal_laws.proofs.Members.{contains_here, contains_cases, found, none_found, kept}
use Rattle.journal_laws.proofs.Places.{waiting_rises}
use Rattle.journal_laws.proofs.Stepping.{stepped}
use Rattle.journal_laws.proofs.TransitLaws.{in_transit, no_origin}
use Rattle.journal_laws.proofs.Weights.{serving_weighs, something_weighs}

-- ---- what is chosen is a head

narrow_by : {X : Type 0} (p q : X → Bool) (x y : X) (xs : List X) → (find q xs ≡ Some x → find p xs ≡ Some x) → p x ≡ true → (p y ≡ true → q y ≡ true) → (a b : Bool) → q y ≡ a → p y ≡ b →
    cond a (Some y) (find q xs) ≡ Some x → cond b (Some y) (find p xs) ≡ Some x
narrow_by p q x y xs rest passes wide true true e f h = h
narrow_by p q x y xs rest passes wide true false e f h =
    let same : y ≡ x = cc in
    let wrong : true ≡ false = sym passes ∙ ap p (sym same) ∙ f in
    absurd (cc)
narrow_by p q x y xs rest passes wide false true e f h = absurd (true≢false (sym (wide f) ∙ e))
narrow_by p q x y xs rest passes wide false false e f h = rest h

-- the first that passes a wide test, and a narrow one, is the first that passes the narrow one
find_narrow : {X : Type 0} (p q : X → Bool) (x : X) (xs : List X) → p x ≡ true → ((y : X) → p y ≡ true → q y ≡ true) → find q xs ≡ Some x → find p xs ≡ Some x
find_narrow p q x [] passes wide h = absurd (cc)
find_narrow p q x (y ∷ xs) passes wide h = narrow_by p q x y xs (find_narrow p q x xs passes wide) passes (wide y) (q y) (p y) refl refl h

-- a choice of entries takes heads alone
abbrev pub ChoosesHeads : Start → (History → Option Sent) → Type 0
ChoosesHeads start choice = (history : History) (one : Sent) → choice history ≡ Some one → head start history one.endpoint ≡ Some one

head_from : (start : Start) (history : History) (one : Sent) → is_bound start history one.endpoint ≡ true → find (λ sent. sent.endpoint == one.endpoint) (waiting history) ≡ Some one → head start history one.endpoint ≡ Some one
head_from start history one bound first =
    ap (λ (b : Bool). if b then find (λ sent. sent.endpoint == one.endpoint) (waiting history) else None) bound ∙ first

pub next_is_head : (start : Start) → ChoosesHeads start (next start)
next_is_head start history one h =
    let bound = (found (λ sent. is_bound start history sent.endpoint) (waiting history) one h).1 in
    head_from start history one bound
    (find_narrow (λ sent. sent.endpoint == one.endpoint) (λ sent. is_bound start history sent.endpoint) one (waiting history) (eq-eqb one.endpoint one.endpoint refl)
    (λ y same. ap (is_bound start history) (eqb-true y.endpoint one.endpoint same) ∙ bound) h)

bound_somewhere : (server : ℕ) (o : Option Bound) → option_map_or (λ bound. bound.server == server) o false ≡ true → is_some o ≡ true
bound_somewhere server None h = absurd (cc)
bound_somewhere server (Some b) h = refl

pub oldest_is_head : (start : Start) (server : ℕ) → ChoosesHeads start (λ history. oldest start history server)
oldest_is_head start server history one h =
    let there = (found (λ sent. is_bound_at start history server sent.endpoint) (waiting history) one h).1 in
    head_from start history one (bound_somewhere server (bound_at start history one.endpoint) there)
    (find_narrow (λ sent. sent.endpoint == one.endpoint) (λ sent. is_bound_at start history server sent.endpoint) one (waiting history) (eq-eqb one.endpoint one.endpoint refl)
    (λ y same. ap (is_bound_at start history server) (eqb-true y.endpoint one.endpoint same) ∙ there) h)

picked_by : (start : Start) (history : History) (endpoint : ℕ) (one : Sent) (b : Bool) → (if b then find (λ sent. sent.endpoint == endpoint) (waiting history) else None) ≡ Some one → one.endpoint ≡ endpoint
picked_by start history endpoint one true h = eqb-true one.endpoint endpoint (found (λ sent. sent.endpoint == endpoint) (waiting history) one h).1
picked_by start history endpoint one false h = absurd (cc)

pub pick_is_head : (start : Start) (endpoint : ℕ) → ChoosesHeads start (λ history. head start history endpoint)
pick_is_head start endpoint history one h = ap (head start history) (picked_by start history endpoint one (is_bound start history endpoint) h) ∙ h

-- ---- journals stay lawful

served_one : (start : Start) (choice : History → Option Sent) (journal : Journal) (on : Journal → Journal) → ChoosesHeads start choice → Lawful start journal → ((j : Journal) → Lawful start j → Lawful start (on j)) →
    (o : Option Sent) → choice (history_of start journal) ≡ o → Lawful start (serving_one on (after_serving start journal) journal o)
served_one start choice journal on heads h rest None e = h
served_one start choice journal on heads h rest (Some one) e = rest (after_serving start journal one) (lawful.served journal one h (heads (history_of start journal) one e))

pub serving_lawful : (times : ℕ) (start : Start) (choice : History → Option Sent) (journal : Journal) → ChoosesHeads start choice → Lawful start journal → Lawful start (serving times start choice journal)
unfolding serving
serving_lawful zero start choice journal heads h = h
serving_lawful (suc more) start choice journal heads h =
    served_one start choice journal (serving more start choice) heads h (λ j g. serving_lawful more start choice j heads g) (choice (history_of start journal)) refl

pub drained_lawful : (start : Start) (journal : Journal) → Lawful start journal → Lawful start (drained start journal)
drained_lawful start journal h = serving_lawful (weight (history_of start journal)) start (next start) journal (next_is_head start) h

admitted_lawful : (start : Start) (journal : Journal) (frame : Frame) → Lawful start journal → IsFrame ToServers frame → admission (look_ups start (history_of start journal)) frame ≡ None →
    (k : FrameKind) → frame.kind ≡ k → Lawful start (admitted start journal k frame)
admitted_lawful start journal frame h is admits kind.Message e = lawful.sent journal frame h is e admits
admitted_lawful start journal frame h is admits kind.Close e = lawful.closed journal frame h is e admits
admitted_lawful start journal frame h is admits kind.Turn e =
    serving_lawful (word_in frame.bytes) start (λ history. oldest start history frame.endpoint) journal (oldest_is_head start frame.endpoint) h
admitted_lawful start journal frame h is admits kind.Pick e =
    serving_lawful 1 start (λ history. head start history frame.endpoint) journal (pick_is_head start frame.endpoint) h
admitted_lawful start journal frame h is admits kind.Refused e = h

arrives_by : (start : Start) (journal : Journal) (frame : Frame) → Lawful start journal → IsFrame ToServers frame → (o : Option Refusal) → admission (look_ups start (history_of start journal)) frame ≡ o →
    Lawful start (by_refusal start journal frame o)
arrives_by start journal frame h is (Some why) e = lawful.refused journal frame why h is e
arrives_by start journal frame h is None e = admitted_lawful start journal frame h is e frame.kind refl

arrives_lawful : (start : Start) (journal : Journal) (frame : Frame) → Lawful start journal → IsFrame ToServers frame → Lawful start (arrives start journal frame)
arrives_lawful start journal frame h is = arrives_by start journal frame h is (admission (look_ups start (history_of start journal)) frame) refl

steps_lawful : (start : Start) (by : Mode) (journal : Journal) (frame : Frame) → Lawful start journal → IsFrame ToServers frame → Lawful start (steps start by journal frame)
steps_lawful start mode.Auto journal frame h is = drained_lawful start (arrives start journal frame) (arrives_lawful start journal frame h is)
steps_lawful start mode.Given journal frame h is = arrives_lawful start journal frame h is

frames_lawful : (start : Start) (by : Mode) (frames : List Frame) (journal : Journal) → Lawful start journal → All (IsFrame ToServers) frames → Lawful start (fold (steps start by) journal frames)
frames_lawful start by [] journal h are = h
frames_lawful start by (frame ∷ frames) journal h are =
    frames_lawful start by frames (steps start by journal frame) (steps_lawful start by journal frame h (All-head (IsFrame ToServers) frame frames are)) (All-tail (IsFrame ToServers) frame frames are)

pub sessions_are_lawful : (start : Start) (by : Mode) (frames : List Frame) → All (IsFrame ToServers) frames → Lawful start (session start by frames) × Lawful start (ended start by frames)
sessions_are_lawful start by frames are =
    let whole = frames_lawful start by frames [] lawful.begun are in
    (whole, drained_lawful start (session start by frames) whole)

-- ---- a drain serves all

none_next_by : (start : Start) (history : History) (o : Option Sent) → next start history ≡ o → weight history ≤ 0 → o ≡ None
none_next_by start history None e h = refl
none_next_by start history (Some one) e h =
    let some = something_weighs (waiting history) one (found (λ sent. is_bound start history sent.endpoint) (waiting history) one e).0 in
    absurd (omega arith)

emptied_by : Below → (start : Start) (journal : Journal) (more : ℕ) (on : Journal → Journal) → IsStart start → Lawful start journal → weight (history_of start journal) ≤ suc more →
    ((j : Journal) → Lawful start j → weight (history_of start j) ≤ more → next start (history_of start (on j)) ≡ None) →
    (o : Option Sent) → next start (history_of start journal) ≡ o → next start (history_of start (serving_one on (after_serving start journal) journal o)) ≡ None
emptied_by below start journal more on s h enough rest None e = e
emptied_by below start journal more on s h enough rest (Some one) e =
    let first = next_is_head start (history_of start journal) one e in
    let less = serving_weighs below start journal one s (stepped start journal h) (lawful_kept below start s journal h) first in
    rest (after_serving start journal one) (lawful.served journal one h first) (omega arith)

emptied : Below → (times : ℕ) (start : Start) (journal : Journal) → IsStart start → Lawful start journal → weight (history_of start journal) ≤ times → next start (history_of start (serving times start (next start) journal)) ≡ None
unfolding serving
emptied below zero start journal s h enough = none_next_by start (history_of start journal) (next start (history_of start journal)) refl enough
emptied below (suc more) start journal s h enough =
    emptied_by below start journal more (serving more start (next start)) s h enough (λ j g less. emptied below more start j s g less) (next start (history_of start journal)) refl

-- where nothing can be served, nothing waits
unbound : (start : Start) (history : History) → next start history ≡ None → (one : Sent) → Contains (waiting history) one → is_bound start history one.endpoint ≡ false
unbound start history h one p = none_found (λ sent. is_bound start history sent.endpoint) (waiting history) one h p

travels : (start : Start) (history : History) → next start history ≡ None → AreInTransit start history → (one : Sent) → Contains (waiting history) one → among one.endpoint (travelling history) ≡ true
travels start history h transit one p = by_side (transit.reached one p) where
  by_side : (is_bound start history one.endpoint ≡ true) ⊎ (among one.endpoint (travelling history) ≡ true) → among one.endpoint (travelling history) ≡ true
  by_side (inl bound) = absurd (true≢false (sym bound ∙ unbound start history h one p))
  by_side (inr t) = t

-- the first that waits can't be carried: its carrier is carried too, so that it has no origin and stands before it
first_waits : (start : Start) (history : History) → IsStart start → next start history ≡ None → AreInTransit start history → (one : Sent) → Contains (waiting history) one → ((other : Sent) → Contains (waiting history) other → one.place ≤ other.place) → ⊥
first_waits start history s h transit one p least =
    let u = carrier_of one.endpoint (waiting history) (travels start history h transit one p) in
    let w = carrier_of u.0.endpoint (waiting history) (travels start history h transit u.0 u.1) in
    let plain = no_origin start u.0 s (carried_is w.0 u.0.endpoint w.2).0 (λ from e. transit.onward u.0 from u.1 e) in
    let before = transit.before u.0 one (u.1, u.2) p plain in
    let low = least u.0 u.1 in
    absurd (omega (arith, before, low))

least_by : (one other : Sent) (ones : List Sent) → All (λ x. one.place < x.place) ones → (one ≡ other) ⊎ Contains ones other → one.place ≤ other.place
least_by one other ones behind (inl e) = let same = ap (λ (x : Sent). x.place) e in omega arith
least_by one other ones behind (inr h) = let after = All-contains (λ (x : Sent). one.place < x.place) ones other behind h in omega arith

none_by : (start : Start) (history : History) → IsStart start → next start history ≡ None → AreInTransit start history → (ones : List Sent) → waiting history ≡ ones → AllPairs (λ x y. x.place < y.place) ones → ones ≡ []
none_by start history s h transit [] e rises = refl
none_by start history s h transit (one ∷ ones) e rises =
    absurd
    (first_waits start history s h transit one (subst (λ xs. Contains xs one) (sym e) (contains_here one ones))
    (λ other q. least_by one other ones (pairs-head (λ x y. x.place < y.place) one ones rises) (contains_cases other one ones (subst (λ xs. Contains xs other) e q))))

-- where nothing waits each thing that was sent was served, or its endpoint is dead
pub served_or_dead : (history : History) → waiting history ≡ [] → (one : Sent) → Contains (all_sent history) one → (was_served history one ≡ true) ⊎ (is_dead history one.endpoint ≡ true)
served_or_dead history none one p = by_tests (was_served history one) (is_dead history one.endpoint) refl refl where
  by_tests : (a b : Bool) → was_served history one ≡ a → is_dead history one.endpoint ≡ b → (was_served history one ≡ true) ⊎ (is_dead history one.endpoint ≡ true)
  by_tests true b e f = inl e
  by_tests false true e f = inr f
  by_tests false false e f =
      let it_waits : waits history one ≡ true = ap (λ (c : Bool). not c && not (is_dead history one.endpoint)) e ∙ ap not f in
      let there = subst (λ xs. Contains xs one) none (kept (waits history) (all_sent history) one p it_waits) in
      absurd (omega (arith, there.1))

pub drains_serve_all : Below → (start : Start) (journal : Journal) → IsStart start → Lawful start journal →
    Lawful start (drained start journal) × IsDrained (history_of start (drained start journal))
drains_serve_all below start journal s h =
    let all = drained_lawful start journal h in
    let history = history_of start (drained start journal) in
    let over = emptied below (weight (history_of start journal)) start journal s h (same_le (weight (history_of start journal))) in
    let none = none_by start history s over (in_transit below start (drained start journal) s all) (waiting history) refl (waiting_rises start (drained start journal) (stepped start (drained start journal) all)) in
    (all, record { none = none; each = λ sent p. served_or_dead history none sent p }) where
      same_le : (n : ℕ) → n ≤ n
      same_le n = omega arith

pub sessions_serve_all : Below → (start : Start) (by : Mode) (frames : List Frame) → IsStart start → All (IsFrame ToServers) frames → IsDrained (history_of start (ended start by frames))
sessions_serve_all below start by frames s are = (drains_serve_all below start (session start by frames) s (sessions_are_lawful start by frames are).0).1

pub servings_lower_the_weight : Below → (start : Start) (journal : Journal) (sent : Sent) → IsStart start → Lawful start journal → head start (history_of start journal) sent.endpoint ≡ Some sent →
    weight (history_of start (after_serving start journal sent)) < weight (history_of start journal)
servings_lower_the_weight below start journal sent s h first = serving_weighs below start journal sent s (stepped start journal h) (lawful_kept below start s journal h) first
