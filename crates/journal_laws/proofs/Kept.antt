-- Each lawful journal keeps what is sound.
use Rattle.std.proofs.Common.{◌≡◌, ◌≢◌, AllPairs, ℕ, suc, ◌^◌, ◌<◌, ◌≤◌, ◌==◌, ◌&&◌, ◌||◌, ◌⊎◌, Bool, true, false, not, if◌then◌else◌, is_some, List, [], ◌∷◌, ◌++◌, length, Option, Some, None, Ok, Contains, refl, sym, ap, ◌∙◌, subst, inl, inr, arith}
use Rattle.std.proofs.lemmas.Bool.{eqb-false, eqb-true, eq-eqb, or_cases, or_left, and_parts, ltb-true, not-true, not-false, cases_Bool, true≢false, false_from_ne_true}
use Rattle.std.proofs.lemmas.List.Kept.{AllPairs-cons}
use Rattle.std.proofs.lemmas.List.Elements.{All-weaker, All-contains_itself, All-contains, Contains-append_left, Contains-append_right, Contains-append_cases}
use Rattle.link_frames.specs.declared.kinds.FrameKind.{FrameKind}
use Rattle.link_frames.specs.declared.kinds.FrameKind.TheVariants as kind
use Rattle.link_frames.specs.declared.kinds.Refusal.{Refusal}
use Rattle.link_frames.specs.declared.kinds.Refusal.TheVariants as refusal
use Rattle.link_admission.specs.declared.kinds.Standing.TheVariants as standing
use Rattle.link_admission.specs.Admission.{LookUps, admission, refusal_by, by_standing, may_travel, all_may_travel}
use Rattle.fidl_names.specs.First.{cause_if, first_of}
use Rattle.link_frames.specs.Frames.{Frame}
use Rattle.fidl_names.specs.HandleNumber.{is_client}
use Rattle.link_admission.specs.Numbering.{among}
use Rattle.io_messages.specs.declared.protocols.Protocol.{Protocol}
use Rattle.io_messages.specs.declared.protocols.Protocol.TheVariants as protocol
use Rattle.io_messages.specs.Asked.{Asked}
use Rattle.io_messages.specs.Asked as asks
use Rattle.node_graph.specs.Tree.{Tree}
use Rattle.path_walk.specs.Paths.{IsPath, text_of, names_of}
use Rattle.vfs_journal.specs.Entries.{Sent, Sending, Journal, message, hang_up, handles_of, endpoints_in, sends, serves, refuses}
use Rattle.vfs_journal.specs.History.{History, all_sent, births, living, waiting, travelling, is_dead, is_bound, is_live, hung_up, bound_at, standing_of, trees_of, tree_at}
use Rattle.vfs_journal.specs.Lawful.{Lawful, begun, refused, sent, closed, served}
use Rattle.vfs_journal.specs.Outcomes.{Forwarded}
use Rattle.conn_rules.specs.Onward.{onward_bytes}
use Rattle.vfs_journal.specs.Past.{behind, history_of}
use Rattle.vfs_journal.specs.Serving.{Read, read_by, outcome_of}
use Rattle.vfs_journal.specs.Session.{head, look_ups, sent_behind, with_forward}
use Rattle.journal_laws.specs.Soundness.{IsOnDirectory, IsStart, mount_ends}
use Rattle.vfs_journal.specs.Starts.{Bound, Start}
use Rattle.vfs_journal.specs.Tokens.{all_given, is_held, next_token, was_given}
use Rattle.journal_laws.proofs.Acts.{KeepsMounts}
use Rattle.journal_laws.proofs.Among.{one_passes, passes_any, carried_is, carried_from, carrier_of, some_found, is_found}
use Rattle.journal_laws.proofs.Below.{Below}
use Rattle.journal_laws.proofs.Members.{none_passes, contains_none}
use Rattle.journal_laws.proofs.Onward.{AreBytes, flags_small, onward_small, onward_reads, path_left}
use Rattle.journal_laws.proofs.Outcomes.{HasParts, IsOpened, outcome_is, opened_ends, token_is_high}
use Rattle.journal_laws.proofs.Places.{head_is, in_order}
use Rattle.journal_laws.proofs.Requests.{IsCarried, among_here}
use Rattle.journal_laws.proofs.Served.{IsAnswered, goes_on_with, gone_on, serving_sound, serving_transit}
use Rattle.journal_laws.proofs.Sound.{View, view, IsView, Sound, Transit, IsRight, IsForwarded, ByOrigin, IsKnown, used, bound_in, travels, bytes_in, nothing_left, still_used, carried_used, end_apart, end_born, sending_sound, sending_transit}
use Rattle.journal_laws.proofs.Stepping.{Stepped, stepped, served_next}
use Rattle.journal_laws.proofs.Views.{is_view, refused_view, sent_view, served_view, new_waits, fresh_unserved, tree_mounted, mount_there}

-- ---- numbers of clients

pub client_low : (n : ℕ) → is_client n ≡ true → n < 0x40000000
client_low n h = ltb-true n 0x40000000 (and_parts _ _ h).1

-- what a sending carries, and is no token, is a client's endpoint
carried_client : (start : Start) (ones : List Sent) (one : Sent) (n : ℕ) → IsRight start ones one → IsCarried n (handles_of one.sending) → among n (endpoints_in one) ≡ true
carried_client start ones one n right c = by_kind (right.handles n c.here) where
  by_kind : (is_client n ≡ true) ⊎ (0x80000000 ≤ n) → among n (endpoints_in one) ≡ true
  by_kind (inl client) = carried_from one n client c.here
  by_kind (inr high) = let low = c.low in absurd (omega arith)

-- ---- a serving

pub record IsServing (start : Start) (history : History) (k : Sent) : Type 0 where
  pub answered : IsAnswered (view start history) k (outcome_of start history k)
  pub keeps : KeepsMounts (outcome_of start history k).change
  pub at : Bound
  pub bound : bound_at start history k.endpoint ≡ Some at
  pub parts : HasParts (next_token history) (tree_at (trees_of start history) at.server) at k.sending (outcome_of start history k).ends (outcome_of start history k).bound (outcome_of start history k).forward (outcome_of start history k).token

-- the connection that serves what was forwarded is a directory
forwarded_to : (start : Start) (history : History) (b : Bound) (k : Sent) → IsStart start → Sound start (view start history) → Contains (births start history) b → b.endpoint ≡ k.endpoint → IsForwarded start k → b.birth.protocol ≡ protocol.Directory
forwarded_to start history b k s past born at f = by_birth (past.born b born) where
  by_birth : Contains start.mounts b ⊎ IsKnown start (all_sent history) b.endpoint → b.birth.protocol ≡ protocol.Directory
  by_birth (inl h) = (All-contains (IsOnDirectory start.trees) (start.firsts ++ start.mounts) b s.placed (Contains-append_right start.firsts start.mounts b h)).protocol
  by_birth (inr h) = absurd (true≢false (sym h.0 ∙ ap is_client at ∙ end_apart start k.endpoint s f.end))

-- it reads as the Open that went on
forwarded_read : Below → (start : Start) (k : Sent) (f : IsForwarded start k) → read_by protocol.Directory (onward_bytes f.flags f.rest f.object) (f.object ∷ []) ≡ Ok (0, asks.open_path (text_of f.rest) f.flags None f.object)
forwarded_read below start k f = onward_reads below f.flags f.rest f.object f.path f.small (let low = client_low f.object f.client in omega arith)

ends_by : Below → (start : Start) (history : History) (k : Sent) (b : Bound) → IsStart start → Sound start (view start history) → Contains (births start history) b → b.endpoint ≡ k.endpoint → bound_at start history k.endpoint ≡ Some b →
    IsRight start (all_sent history) k → (o : Option ℕ) → ByOrigin start (all_sent history) k o → (n : ℕ) → (n ≡ b.endpoint) ⊎ IsCarried n (handles_of k.sending) → among n (outcome_of start history k).ends ≡ true →
    ((n ≡ k.endpoint) × (is_client n ≡ true)) ⊎ (among n (endpoints_in k) ≡ true)
ends_by below start history k b s past born at is right o origin n (inr c) h = inr (carried_client start (all_sent history) k n right c)
ends_by below start history k b s past born at is right None origin n (inl e) h = inl (e ∙ at, ap is_client (e ∙ at) ∙ origin.client)
ends_by below start history k b s past born at is right (Some from) origin n (inl e) h =
    let c = opened_ends below start history k b (onward_bytes origin.flags origin.rest origin.object) (origin.object ∷ []) 0 (text_of origin.rest) origin.flags None origin.object is
    (forwarded_to start history b k s past born at origin) origin.sent (forwarded_read below start k origin)
    (record { here = among_here origin.object origin.object [] refl; low = let low = client_low origin.object origin.client in omega arith }) n h in
    inr (carried_client start (all_sent history) k n right (subst (λ (x : Sending). IsCarried n (handles_of x)) (sym origin.sent) c))

pub is_serving : Below → (start : Start) (journal : Journal) (k : Sent) → IsStart start → Stepped start journal → Sound start (view start (history_of start journal)) →
    head start (history_of start journal) k.endpoint ≡ Some k → IsServing start (history_of start journal) k
is_serving below start journal k s steps past h =
    let history = history_of start journal in
    let first = head_is start history k h in
    let b = some_found (λ bound. bound.endpoint == k.endpoint) (living start history) first.bound in
    let at : b.0.endpoint ≡ k.endpoint = eqb-true b.0.endpoint k.endpoint b.3 in
    let is = is_view start journal steps in
    let right = past.right k (is.waits k first.waits) in
    let parts = outcome_is below start history k b.0 b.1 in
    record {
      answered = record {
        waits = first.waits;
        bound = b.0;
        lives = b.2;
        at = at;
        ends_in = λ n e. ends_by below start history k b.0 s past (is.living_born b.0 b.2).0 at b.1 right k.origin right.by_origin n (parts.0.ends_in n e) e;
        bound_in = λ x e. carried_client start (all_sent history) k x.endpoint right (parts.0.bound_in x e);
        token_in = λ g e. token_is_high history g.token (parts.0.token_next g e);
        goes_on = λ f e.
            let on = parts.0.goes_on f e in
            let none = parts.0.alone f e in
            (carried_client start (all_sent history) k f.object right (subst (λ (x : Sending). IsCarried f.object (handles_of x)) (sym on.sent) on.carried), none.1, none.0);
      };
      keeps = parts.1;
      at = b.0;
      bound = b.1;
      parts = parts.0;
    }

-- ---- what goes on

word_by : Below → (start : Start) (history : History) (k : Sent) (b : Bound) (f : Forwarded) (tree : Tree) → IsStart start → Sound start (view start history) → Contains (births start history) b → b.endpoint ≡ k.endpoint →
    (on : IsOpened tree b.birth.protocol k.sending f) → (o : Option ℕ) → ByOrigin start (all_sent history) k o → on.word < 256 ^ 8
word_by below start history k b f tree s past born at on None origin =
    flags_small below b.birth.protocol on.bytes on.handles on.txid on.path on.word on.given f.object on.read
    (subst (λ (x : Sending). AreBytes (bytes_in x)) on.sent origin.bytes)
word_by below start history k b f tree s past born at on (Some from) origin =
    let same : message on.bytes on.handles ≡ message (onward_bytes origin.flags origin.rest origin.object) (origin.object ∷ []) = sym on.sent ∙ origin.sent in
    let read : read_by protocol.Directory on.bytes on.handles ≡ Ok (on.txid, asks.open_path on.path on.word on.given f.object) =
    ap (λ (p : Protocol). read_by p on.bytes on.handles) (sym (forwarded_to start history b k s past born at origin)) ∙ on.read in
    let again : read_by protocol.Directory on.bytes on.handles ≡ Ok (0, asks.open_path (text_of origin.rest) origin.flags None origin.object) =
    read_same same ∙ forwarded_read below start k origin in
    let whole : Ok (on.txid, asks.open_path on.path on.word on.given f.object) ≡ Ok (0, asks.open_path (text_of origin.rest) origin.flags None origin.object) = sym read ∙ again in
    let small = origin.small in
    subst (λ (n : ℕ). n < 256 ^ 8) (sym (word_same whole)) small where
      read_of : Sending → Read
      read_of (message bytes handles) = read_by protocol.Directory bytes handles
      read_of hang_up = read_by protocol.Directory [] []

      read_same : {a b c d : List ℕ} → message a b ≡ message c d → read_by protocol.Directory a b ≡ read_by protocol.Directory c d
      read_same e = ap read_of e

      word_of : Read → ℕ
      word_of (Ok (txid, asks.open_path path word given object)) = word
      word_of _ = 0

      word_same : {t u : ℕ} {p q : List ℕ} {v w : ℕ} {g h : Option ℕ} {m n : ℕ} → (let r : Read = Ok (t, asks.open_path p v g m) in r) ≡ Ok (u, asks.open_path q w h n) → v ≡ w
      word_same e = ap word_of e

path_onward : Below → (path : List ℕ) (front rest : List (List ℕ)) → IsPath path (names_of path) → names_of path ≡ front ++ rest → IsPath (text_of rest) rest
path_onward below path front rest h split =
    path_left front rest (subst (λ names. IsPath (text_of names) names) split (subst (λ (t : List ℕ). IsPath t (names_of path)) h.spelled h))

-- the names and the flags that go on
pub record GoesRight (flags : ℕ) (rest : List (List ℕ)) : Type 0 where
  pub path : IsPath (text_of rest) rest
  pub small : flags < 256 ^ 8

some_same : {x y : Bound} → Some x ≡ Some y → x ≡ y
some_same e = cc

pub goes_right : (below : Below) (start : Start) (history : History) (k : Sent) (f : Forwarded) (s : IsStart start) (past : Sound start (view start history)) (is : IsView (view start history)) (serving' : IsServing start history k)
    (e : (outcome_of start history k).forward ≡ Some f) → GoesRight (serving'.parts.goes_on f e).flags (serving'.parts.goes_on f e).rest
goes_right below start history k f s past is serving' e =
    let on = serving'.parts.goes_on f e in
    let b = serving'.at in
    let found_b = some_found (λ bound. bound.endpoint == k.endpoint) (living start history) (ap is_some serving'.bound) in
    let same_b : found_b.0 ≡ b = some_same (sym found_b.1 ∙ serving'.bound) in
    let lives : Contains (living start history) b = subst (Contains (living start history)) same_b found_b.2 in
    let b_at : b.endpoint ≡ k.endpoint = ap (λ (x : Bound). x.endpoint) (sym same_b) ∙ eqb-true found_b.0.endpoint k.endpoint found_b.3 in
    let word = word_by below start history k b f (tree_at (trees_of start history) b.server) s past (is.living_born b lives).0 b_at on k.origin (past.right k (is.waits k serving'.answered.waits)).by_origin in
    record {
      path = path_onward below on.path on.onward.walked.front on.rest (below.sound on.path on.onward.good) on.onward.walked.split;
      small = subst (λ (n : ℕ). n < 256 ^ 8) (sym on.onward.left) (onward_small on.word on.onward.limit word);
    }

pub is_forwarded : Below → (start : Start) (history : History) (k new : Sent) (f : Forwarded) → IsStart start → Sound start (view start history) → IsView (view start history) → IsServing start history k →
    (outcome_of start history k).forward ≡ Some f → new.endpoint ≡ f.endpoint → new.sending ≡ message f.bytes (f.object ∷ []) → IsForwarded start new
is_forwarded below start history k new f s past is serving' e at sending' =
    let on = serving'.parts.goes_on f e in
    let b = serving'.at in
    let right = goes_right below start history k f s past is serving' e in
    record {
      end = subst (Contains (mount_ends start)) (sym (at ∙ on.to))
          (mount_there start (tree_at (trees_of start history) b.server) on.onward.walked.node on.mount (tree_mounted start (trees_of start history) b.server past.mounted) on.onward.walked.kind);
      rest = on.rest;
      flags = on.flags;
      object = f.object;
      sent = sending' ∙ ap (λ bytes. message bytes (f.object ∷ [])) on.bytes_are;
      path = right.path;
      small = right.small;
      client = (carried_is k f.object (serving'.answered.goes_on f e).0).0;
    }

-- the end of a mount lives
pub end_lives : (start : Start) (v : View) (n : ℕ) → IsStart start → Sound start v → IsView v → ((b : Bound) → Contains start.mounts b → Contains v.births b) → Contains (mount_ends start) n → (v.dead n ≡ false) × (bound_in v.living n ≡ true)
end_lives start v n s past is born h =
    let m = end_born start n h in
    let alive : v.dead n ≡ false = false_from_ne_true (v.dead n) (λ dead. true≢false (sym (past.dead n dead).0 ∙ end_apart start n s h)) in
    (alive, is_found (λ bound. bound.endpoint == n) v.living m.0 (is.born_living m.0 (born m.0 m.1) (ap v.dead m.2 ∙ alive)) (eq-eqb m.0.endpoint n m.2))

pub mounts_born : (start : Start) (history : History) (b : Bound) → Contains start.mounts b → Contains (births start history) b
mounts_born start history b h = Contains-append_left (start.firsts ++ start.mounts) _ b (Contains-append_right start.firsts start.mounts b h)

-- ---- what is kept

pub record IsKept (start : Start) (journal : Journal) : Type 0 where
  pub sound : Sound start (view start (history_of start journal))
  pub transit : Transit start (view start (history_of start journal)) nothing_left

pub one_handle : (n m : ℕ) → among n (m ∷ []) ≡ true → n ≡ m
one_handle n m h = by_test (cases_Bool (m == n)) where
  by_test : ((m == n) ≡ true) ⊎ ((m == n) ≡ false) → n ≡ m
  by_test (inl e) = sym (eqb-true m n e)
  by_test (inr e) = let wrong : false ≡ true = sym (ap (λ (b : Bool). b || false) e) ∙ h in absurd (cc)

forward_kept : Below → (start : Start) (earlier : Journal) (k : Sent) (f : Forwarded) → IsStart start → Lawful start earlier → IsKept start earlier → head start (history_of start earlier) k.endpoint ≡ Some k →
    (outcome_of start (history_of start earlier) k).forward ≡ Some f → IsKept start (with_forward k.place (serves k ∷ earlier) (Some f))
unfolding history_of
forward_kept below start earlier k f s lawful past h e =
    let steps = stepped start earlier lawful in
    let history = history_of start earlier in
    let o = outcome_of start history k in
    let is = is_view start earlier steps in
    let serving' = is_serving below start earlier k s steps past.sound h in
    let serves' = served_view start history k serving'.keeps in
    let mid = behind start (serves k) history in
    let mid_steps : Stepped start (serves k ∷ earlier) = served_next start earlier k lawful h in
    let mid_sound = serving_sound start (view start history) (view start mid) k o s past.sound is serving'.answered serves' in
    let mid_transit = serving_transit start (view start history) (view start mid) k o s past.sound is past.transit serving'.answered serves' in
    let mid_is = is_view start (serves k ∷ earlier) mid_steps in
    let new = sent_behind (serves k ∷ earlier) f.endpoint (message f.bytes (f.object ∷ [])) (Some k.place) in
    let adds = sent_view start mid new in
    let forwarded = is_forwarded below start history k new f s past.sound is serving' e refl refl in
    let places = in_order start (serves k ∷ earlier) mid_steps in
    let gone = gone_on start (view start history) (view start mid) k o f past.transit serving'.answered serves' e in
    let lives = end_lives start (view start mid) f.endpoint s mid_sound mid_is (mounts_born start mid) forwarded.end in
    let client : is_client f.object ≡ true = (carried_is k f.object (serving'.answered.goes_on f e).0).0 in
    let object_of : (n : ℕ) → among n (endpoints_in new) ≡ true → n ≡ f.object = λ n c. one_handle n f.object (carried_is new n c).1 in
    record {
      sound = sending_sound start (view start mid) (view start (behind start (sends new) mid)) new s mid_sound
          (record {
            last = λ one p. All-contains (λ (x : Sent). x.place < suc (length earlier)) (all_sent mid) one places.below p;
            right = record {
              handles = λ n c. inl (ap is_client (one_handle n f.object c) ∙ client);
              by_origin = forwarded;
            };
            on = λ none. absurd (cc);
            unknown = λ n c none. absurd (cc);
          })
          adds;
      transit = sending_transit start (view start mid) (view start (behind start (sends new) mid)) new (goes_on_with o) mid_transit adds
          (record {
            alone = λ n c one p d. gone.0 one p (ap (λ (m : ℕ). among m (endpoints_in one)) (sym (object_of n c)) ∙ d);
            unbound = λ n c. ap (bound_in (living start mid)) (object_of n c) ∙ gone.1;
            alive = λ n c. ap (is_dead mid) (object_of n c) ∙ gone.2;
            reached = inl lives.1;
            fills = λ n (g, eg, at).
                carried_from new n (ap is_client (sym at ∙ object_same (sym eg ∙ e)) ∙ client)
                (among_here n f.object [] (sym (sym at ∙ object_same (sym eg ∙ e))));
            waits = λ n left. new_waits start mid new (fresh_unserved start (serves k ∷ earlier) new mid_steps (le_refl_of (suc (length earlier)))) lives.0;
          });
    } where
      object_same : {x y : Forwarded} → Some x ≡ Some y → x.object ≡ y.object
      object_same e = cc

      le_refl_of : (n : ℕ) → n ≤ n
      le_refl_of n = omega arith

-- ---- an admitted sending

pub record IsAdmitted (start : Start) (history : History) (endpoint : ℕ) (handles : List ℕ) : Type 0 where
  pub alive : is_dead history endpoint ≡ false
  pub live : is_live start history endpoint ≡ true
  pub client : is_client endpoint ≡ true
  pub travel : (n : ℕ) → among n handles ≡ true → may_travel (look_ups start history) n ≡ true
  pub distinct : AllPairs (λ one other. one ≢ other) handles

first_none : (o : Option Refusal) (rest : List (Option Refusal)) → first_of (o ∷ rest) ≡ None → (o ≡ None) × (first_of rest ≡ None)
first_none None rest h = (refl, h)
first_none (Some why) rest h = absurd (cc)

not_refused : (b : Bool) (why : Refusal) → cause_if b why ≡ None → b ≡ false
not_refused true why h = absurd (cc)
not_refused false why h = refl

standing_live : (dead live closed' : Bool) → by_standing (if dead then standing.Dead else if live then (if closed' then standing.HungUp else standing.Live) else standing.Unused) ≡ None → (dead ≡ false) × (live ≡ true)
standing_live true live closed' h = absurd (cc)
standing_live false true closed' h = (refl, refl)
standing_live false false closed' h = absurd (cc)

three : (a b c : Bool) → a && b && c ≡ true → (a ≡ true) × (c ≡ true)
three true true true h = (refl, refl)
three true true false h = absurd (cc)
three true false c h = absurd (cc)
three false b c h = absurd (cc)

travel_by : (l : LookUps) (n m : ℕ) → may_travel l m ≡ true → (b : Bool) → (m == n) ≡ b → (among' : Bool) → (among' ≡ true → may_travel l n ≡ true) → (b || among') ≡ true → may_travel l n ≡ true
travel_by l n m may true e rest later h = ap (may_travel l) (sym (eqb-true m n e)) ∙ may
travel_by l n m may false e rest later h = later h

travel_each : (l : LookUps) (handles : List ℕ) → all_may_travel l handles ≡ true → (n : ℕ) → among n handles ≡ true → may_travel l n ≡ true
travel_each l [] all n h = absurd (cc)
travel_each l (m ∷ ms) all n h =
    let parts = three (may_travel l m) (not (among m ms)) (all_may_travel l ms) all in
    travel_by l n m parts.0 (m == n) refl (among n ms) (λ g. travel_each l ms parts.1 n g) h

-- none of the handles stands twice
middle : (a b c : Bool) → a && not b && c ≡ true → (b ≡ false) × (c ≡ true)
middle true false true h = (refl, refl)
middle true false false h = absurd (cc)
middle true true c h = absurd (cc)
middle false b c h = absurd (cc)

handles_apart : (l : LookUps) (handles : List ℕ) → all_may_travel l handles ≡ true → AllPairs (λ one other. one ≢ other) handles
handles_apart l [] all = λ i j d a b. absurd (omega arith)
handles_apart l (m ∷ ms) all =
    let parts = middle (may_travel l m) (among m ms) (all_may_travel l ms) all in
    AllPairs-cons (λ (one other : ℕ). one ≢ other) m ms
    (All-weaker (Contains ms) (λ n. m ≢ n) (λ n there same. eqb-false n m (none_passes (λ (x : ℕ). x == m) ms n parts.0 there) (sym same)) ms (All-contains_itself ms))
    (handles_apart l ms parts.1)

pub message_admitted : (start : Start) (history : History) (endpoint : ℕ) (handles : List ℕ) → refusal_by kind.Message (look_ups start history) endpoint handles ≡ None → IsAdmitted start history endpoint handles
message_admitted start history endpoint handles h =
    let a = first_none (by_standing (standing_of start history endpoint)) _ h in
    let b = first_none (cause_if (not (is_client endpoint)) refusal.BadHandle) _ a.1 in
    let c = first_none (cause_if (not (all_may_travel (look_ups start history) handles)) refusal.BadHandle) _ b.1 in
    let live = standing_live (is_dead history endpoint) (is_live start history endpoint) (hung_up history endpoint) a.0 in
    record {
      alive = live.0;
      live = live.1;
      client = not-false (is_client endpoint) (not_refused (not (is_client endpoint)) refusal.BadHandle b.0);
      travel = travel_each (look_ups start history) handles (not-false (all_may_travel (look_ups start history) handles) (not_refused _ refusal.BadHandle c.0));
      distinct = handles_apart (look_ups start history) handles (not-false (all_may_travel (look_ups start history) handles) (not_refused _ refusal.BadHandle c.0));
    }

pub close_admitted : (start : Start) (history : History) (endpoint : ℕ) (handles : List ℕ) → refusal_by kind.Close (look_ups start history) endpoint handles ≡ None → IsAdmitted start history endpoint []
close_admitted start history endpoint handles h =
    let a = first_none (by_standing (standing_of start history endpoint)) _ h in
    let b = first_none (cause_if (not (is_client endpoint)) refusal.BadHandle) _ a.1 in
    let live = standing_live (is_dead history endpoint) (is_live start history endpoint) (hung_up history endpoint) a.0 in
    record {
      alive = live.0;
      live = live.1;
      client = not-false (is_client endpoint) (not_refused (not (is_client endpoint)) refusal.BadHandle b.0);
      travel = λ n none. absurd (cc);
      distinct = λ i j d a b. absurd (omega arith);
    }

-- a token that is held is no endpoint
held_high : (start : Start) (history : History) (n : ℕ) → Sound start (view start history) → is_held history n ≡ true → 0x80000000 ≤ n
held_high start history n past h =
    let given = one_passes (λ given. given.token == n) (all_given history) (and_parts (was_given history n) _ h).0 in
    subst (λ (m : ℕ). 0x80000000 ≤ m) (eqb-true given.0.token n given.2) (past.tokens given.0 given.1)

abbrev May : Start → History → ℕ → Type 0
May start history n = ((is_client n ≡ true) × (used start (all_sent history) n ≡ false)) ⊎ (0x80000000 ≤ n)

may_by : (start : Start) (history : History) (n : ℕ) → Sound start (view start history) → may_travel (look_ups start history) n ≡ true → May start history n
may_by start history n past h = by_side (or_cases (is_client n && not (used start (all_sent history) n)) (is_held history n) h) where
  by_side : ((is_client n && not (used start (all_sent history) n)) ≡ true) ⊎ (is_held history n ≡ true) → May start history n
  by_side (inl h) = let parts = and_parts (is_client n) (not (used start (all_sent history) n)) h in inl (parts.0, not-true (used start (all_sent history) n) parts.1)
  by_side (inr h) = inr (held_high start history n past h)

-- an endpoint that is live was known
live_known : (start : Start) (history : History) (n : ℕ) → IsStart start → Sound start (view start history) → IsView (view start history) → is_client n ≡ true → is_live start history n ≡ true →
    ((bound_in (living start history) n ≡ true) ⊎ (travels (waiting history) n ≡ true)) × (used start (all_sent history) n ≡ true)
live_known start history n s past is client h = by_side (or_cases (is_bound start history n) (among n (travelling history)) h) where
  by_birth : (b : Bound) → b.endpoint ≡ n → Contains start.mounts b ⊎ IsKnown start (all_sent history) b.endpoint → used start (all_sent history) n ≡ true
  by_birth b at (inl m) = absurd (true≢false (sym client ∙ ap is_client (sym at) ∙ All-contains (λ (bound : Bound). is_client bound.endpoint ≡ false) start.mounts b s.ends m))
  by_birth b at (inr known) = ap (used start (all_sent history)) (sym at) ∙ known.1

  by_side : (is_bound start history n ≡ true) ⊎ (among n (travelling history) ≡ true) → ((bound_in (living start history) n ≡ true) ⊎ (travels (waiting history) n ≡ true)) × (used start (all_sent history) n ≡ true)
  by_side (inl h) =
      let b = some_found (λ bound. bound.endpoint == n) (living start history) h in
      (inl h, by_birth b.0 (eqb-true b.0.endpoint n b.3) (past.born b.0 (is.living_born b.0 b.2).0))
  by_side (inr h) =
      let w = carrier_of n (waiting history) h in
      (inr h, carried_used start (all_sent history) w.0 n (is.waits w.0 w.1) (carried_is w.0 n w.2).1)

bound_known : (start : Start) (history : History) (n : ℕ) → IsStart start → Sound start (view start history) → IsView (view start history) → is_client n ≡ true → bound_in (living start history) n ≡ true → used start (all_sent history) n ≡ true
bound_known start history n s past is client h = (live_known start history n s past is client (or_left (is_bound start history n) (among n (travelling history)) h)).1

admitted_kept : (start : Start) (earlier : Journal) (endpoint : ℕ) (sending' : Sending) → IsStart start → Stepped start earlier → IsKept start earlier →
    IsAdmitted start (history_of start earlier) endpoint (handles_of sending') → AreBytes (bytes_in sending') → IsKept start (sends (sent_behind earlier endpoint sending' None) ∷ earlier)
unfolding history_of
admitted_kept start earlier endpoint sending' s steps past admitted bytes =
    let history = history_of start earlier in
    let new = sent_behind earlier endpoint sending' None in
    let is = is_view start earlier steps in
    let adds = sent_view start history new in
    let live = live_known start history endpoint s past.sound is admitted.client admitted.live in
    let places = in_order start earlier steps in
    let fresh : (n : ℕ) → among n (endpoints_in new) ≡ true → used start (all_sent history) n ≡ false =
    λ n c. let at = carried_is new n c in unused n at.0 (may_by start history n past.sound (admitted.travel n at.1)) in
    record {
      sound = sending_sound start (view start history) (view start (behind start (sends new) history)) new s past.sound
          (record {
            last = λ one p. All-contains (λ (x : Sent). x.place < length earlier) (all_sent history) one places.below p;
            right = record {
              handles = λ n c. kind_of_handle n (may_by start history n past.sound (admitted.travel n c));
              by_origin = record { client = admitted.client; known = still_used start (all_sent history) (new ∷ []) endpoint live.1; bytes = bytes };
            };
            on = λ none. live.1;
            unknown = λ n c none. fresh n c;
          })
          adds;
      transit = sending_transit start (view start history) (view start (behind start (sends new) history)) new nothing_left past.transit adds
          (record {
            alone = λ n c one p d. true≢false (sym (carried_used start (all_sent history) one n (is.waits one p) (carried_is one n d).1) ∙ fresh n c);
            unbound = λ n c. false_from_ne_true (bound_in (living start history) n) (λ yes. true≢false (sym (bound_known start history n s past.sound is (carried_is new n c).0 yes) ∙ fresh n c));
            alive = λ n c. false_from_ne_true (is_dead history n) (λ yes. true≢false (sym (past.sound.dead n yes).1 ∙ fresh n c));
            reached = live.0;
            fills = λ n left. absurd left;
            waits = λ n left. absurd left;
          });
    } where
      unused : (n : ℕ) → is_client n ≡ true → May start (history_of start earlier) n → used start (all_sent (history_of start earlier)) n ≡ false
      unused n client (inl may) = may.1
      unused n client (inr high) = let low = client_low n client in absurd (omega arith)

      kind_of_handle : (n : ℕ) → May start (history_of start earlier) n → (is_client n ≡ true) ⊎ (0x80000000 ≤ n)
      kind_of_handle n (inl may) = inl may.0
      kind_of_handle n (inr high) = inr high

-- ---- every lawful journal

served_kept : Below → (start : Start) (earlier : Journal) (k : Sent) → IsStart start → Lawful start earlier → IsKept start earlier → head start (history_of start earlier) k.endpoint ≡ Some k →
    (o : Option Forwarded) → (outcome_of start (history_of start earlier) k).forward ≡ o → IsKept start (with_forward k.place (serves k ∷ earlier) o)
unfolding history_of
served_kept below start earlier k s lawful past h (Some f) e = forward_kept below start earlier k f s lawful past h e
served_kept below start earlier k s lawful past h None e =
    let steps = stepped start earlier lawful in
    let history = history_of start earlier in
    let o = outcome_of start history k in
    let is = is_view start earlier steps in
    let serving' = is_serving below start earlier k s steps past.sound h in
    let serves' = served_view start history k serving'.keeps in
    let transit = serving_transit start (view start history) (view start (behind start (serves k) history)) k o s past.sound is past.transit serving'.answered serves' in
    record {
      sound = serving_sound start (view start history) (view start (behind start (serves k) history)) k o s past.sound is serving'.answered serves';
      transit = record {
        once = transit.once;
        unbound = transit.unbound;
        alive = transit.alive;
        reached = λ one p. reached one (transit.reached one p);
      };
    } where
      reached : {A : Type 0} (one : Sent) → A ⊎ goes_on_with (outcome_of start (history_of start earlier) k) one.endpoint → A ⊎ nothing_left one.endpoint
      reached one (inl h) = inl h
      reached one (inr left) = absurd (none_left (sym e ∙ left.1)) where
        none_left : {f : Forwarded} → None ≡ Some f → ⊥
        none_left g = cc

begun_kept : (start : Start) → IsStart start → IsKept start []
unfolding history_of
begun_kept start s = record {
  sound = record {
    right = λ one p. absurd (contains_none one p);
    order = λ one other p q none h. absurd (contains_none one p);
    dead = λ n h. absurd (cc);
    born = λ b p. born_first b (Contains-append_cases (start.firsts ++ start.mounts) [] b p);
    tokens = λ g p. absurd (contains_none g p);
    mounted = s.mounted;
  };
  transit = record {
    once = λ one other n p q h g. absurd (contains_none one p);
    unbound = λ one n p h. absurd (contains_none one p);
    alive = λ one n p h. absurd (contains_none one p);
    reached = λ one p. absurd (contains_none one p);
  };
} where
  by_list : (b : Bound) → Contains start.firsts b ⊎ Contains start.mounts b → Contains start.mounts b ⊎ IsKnown start [] b.endpoint
  by_list b (inl h) = inr (
    All-contains (λ (bound : Bound). is_client bound.endpoint ≡ true) start.firsts b s.firsts h,
    or_left _ _ (passes_any (λ (bound : Bound). bound.endpoint == b.endpoint) start.firsts b h (eq-eqb b.endpoint b.endpoint refl)),
  )
  by_list b (inr h) = inl h

  born_first : (b : Bound) → Contains (start.firsts ++ start.mounts) b ⊎ Contains [] b → Contains start.mounts b ⊎ IsKnown start [] b.endpoint
  born_first b (inl h) = by_list b (Contains-append_cases start.firsts start.mounts b h)
  born_first b (inr h) = absurd (contains_none b h)

refused_kept : (start : Start) (earlier : Journal) (endpoint : ℕ) (why : Refusal) → IsKept start earlier → IsKept start (refuses endpoint why ∷ earlier)
unfolding history_of
refused_kept start earlier endpoint why past =
    let same = refused_view start (history_of start earlier) endpoint why in
    record {
      sound = subst (Sound start) same past.sound;
      transit = subst (λ v. Transit start v nothing_left) same past.transit;
    }

pub refusal_of : (l : LookUps) (frame : Frame) (k : FrameKind) → frame.kind ≡ k → admission l frame ≡ None → refusal_by k l frame.endpoint frame.handles ≡ None
refusal_of l frame k is h = ap (λ (x : FrameKind). refusal_by x l frame.endpoint frame.handles) (sym is) ∙ h

pub lawful_kept : Below → (start : Start) → IsStart start → (journal : Journal) → Lawful start journal → IsKept start journal
lawful_kept below start s journal begun = begun_kept start s
lawful_kept below start s journal (refused earlier frame why h is admits) = refused_kept start earlier frame.endpoint why (lawful_kept below start s earlier h)
lawful_kept below start s journal (sent earlier frame h is at admits) =
    admitted_kept start earlier frame.endpoint (message frame.bytes frame.handles) s (stepped start earlier h) (lawful_kept below start s earlier h)
    (message_admitted start (history_of start earlier) frame.endpoint frame.handles (refusal_of (look_ups start (history_of start earlier)) frame kind.Message at admits)) is.bytes
lawful_kept below start s journal (closed earlier frame h is at admits) =
    admitted_kept start earlier frame.endpoint hang_up s (stepped start earlier h) (lawful_kept below start s earlier h)
    (close_admitted start (history_of start earlier) frame.endpoint frame.handles (refusal_of (look_ups start (history_of start earlier)) frame kind.Close at admits)) (λ k d l. absurd (omega arith))
lawful_kept below start s journal (served earlier entry h is) =
    served_kept below start earlier entry s h (lawful_kept below start s earlier h) is
    (outcome_of start (history_of start earlier) entry).forward refl
