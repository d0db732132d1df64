-- A serving keeps births within their lineages, and flags that go on within their trails.
use Rattle.std.proofs.Common.{◌≡◌, ◌≢◌, ℕ, ◌^◌, ◌<◌, ◌==◌, ◌⊎◌, Bool, true, false, not, if◌then◌else◌, List, [], ◌∷◌, option_to_list, Option, Some, None, Ok, Contains, refl, sym, ap, ◌∙◌, subst, inl, inr, arith, ◌++◌}
use Rattle.std.specs.List.{list_any}
use Rattle.std.specs.Option.{option_map_or}
use Rattle.std.specs.Prelude.{All, IsTrue}
use Rattle.std.proofs.lemmas.Bool.{eq-eqb, eqb-true, false_from_ne_true, or_left, or_right, true≢false}
use Rattle.std.proofs.lemmas.List.Elements.{All-append, All-cons, All-contains, All-nil, Contains-append_cases, Contains-append_right}
use Rattle.fidl_names.specs.HandleNumber.{is_client}
use Rattle.io_messages.specs.Asked.{Asked}
use Rattle.io_messages.specs.Asked as asks
use Rattle.io_messages.specs.declared.protocols.Protocol.{Protocol}
use Rattle.io_messages.specs.declared.protocols.Protocol.TheVariants as protocol
use Rattle.io_flags.proofs.GrantLemmas.{within_self}
use Rattle.io_rights.specs.Operations.{OperationSet, is_within}
use Rattle.path_walk.specs.Paths.{text_of}
use Rattle.conn_rules.specs.Onward.{onward_bytes}
use Rattle.vfs_journal.specs.Entries.{Sent, Sending, Journal, message, hang_up, serves}
use Rattle.vfs_journal.specs.History.{all_sent, births, bound_at, is_dead, living, serves_place, trees_of, was_served}
use Rattle.vfs_journal.specs.Lawful.{Lawful}
use Rattle.vfs_journal.specs.Outcomes.{Forwarded, Outcome}
use Rattle.vfs_journal.specs.Past.{behind, event_of, history_of}
use Rattle.vfs_journal.specs.Serving.{Moment, Read, moment_of, outcome_at, outcome_of, outcome_of_sending, read_by}
use Rattle.vfs_journal.specs.Session.{head, sent_behind}
use Rattle.vfs_journal.specs.Starts.{Bound, Start}
use Rattle.journal_laws.specs.Soundness.{IsOnDirectory, IsStart}
use Rattle.journal_laws.proofs.Among.{carried_is, is_found, some_found}
use Rattle.journal_laws.proofs.Below.{Below}
use Rattle.journal_laws.proofs.Carrying.{bind_what_they_carry}
use Rattle.journal_laws.proofs.Kept.{client_low, is_serving, lawful_kept}
use Rattle.journal_laws.proofs.Members.{contains_cases, contains_here, contains_none, kept, kept_of}
use Rattle.journal_laws.proofs.Onward.{AreBytes, flags_small, onward_reads}
use Rattle.journal_laws.proofs.OnTrees.{stand_on_trees}
use Rattle.journal_laws.proofs.Places.{head_is, waits_of_sent, waits_unserved}
use Rattle.journal_laws.proofs.Requests.{opens_directory}
use Rattle.journal_laws.proofs.Sound.{ByOrigin, IsForwarded, IsKnown, bytes_in, end_apart}
use Rattle.journal_laws.proofs.Stepping.{stepped}
use Rattle.journal_laws.proofs.Steps.{servings_take_effect}
use Rattle.journal_laws.proofs.TransitLaws.{in_transit}
use Rattle.session_laws.specs.Lineage.{ancestor_of, ancestors_of, asked_by, at_serving, request_in, lineage_given, lines_of, lineage_of, sent_from, trail_given}
use Rattle.session_laws.specs.Rights.{AreWithinEach, BeginsAt, HasAllAsked}
use Rattle.session_laws.proofs.Beginning.{IsOpen, begins_more, binds_asked, forwards_asked, lineage_given_begins, trail_given_begins}
use Rattle.session_laws.proofs.LineagesHold.{Holds, IsNew}
use Rattle.session_laws.proofs.Requests.{end_is_passed}
use Rattle.session_laws.proofs.LineagesServing.{AreTrailed, IsTrailed, bound_within, onward_within, found}

pub the_one : {X : Type 0} (o : Option X) (x : X) → Contains (option_to_list o) x → o ≡ Some x
the_one None x there = absurd (contains_none x there)
the_one (Some y) x there = by_case (contains_cases x y [] there) where
  by_case : (y ≡ x) ⊎ Contains [] x → Some y ≡ Some x
  by_case (inl e) = ap Some e
  by_case (inr there) = absurd (contains_none x there)

-- rights that lie within each of some sets do so with themselves behind these
within_more : (rights : OperationSet) (members : List OperationSet) → AreWithinEach rights members → AreWithinEach rights (members ++ rights ∷ [])
within_more rights members h =
    All-append (λ member. IsTrue (is_within rights member)) members (rights ∷ []) h
    (All-cons (λ member. IsTrue (is_within rights member)) rights [] (within_self rights) (All-nil (λ member. IsTrue (is_within rights member))))

-- what two readings of one message say
read_of : Sending → Read
read_of (message bytes handles) = read_by protocol.Directory bytes handles
read_of hang_up = read_by protocol.Directory [] []

word_of : Read → ℕ
word_of (Ok (txid, asks.open_path path word given object)) = word
word_of _ = 0

same_read : {a b c d : List ℕ} → message a b ≡ message c d → read_by protocol.Directory a b ≡ read_by protocol.Directory c d
unfolding read_of
same_read e = ap read_of e

same_word : {t u : ℕ} {p q : List ℕ} {v w : ℕ} {g h : Option ℕ} {m n : ℕ} → (let r : Read = Ok (t, asks.open_path p v g m) in r) ≡ Ok (u, asks.open_path q w h n) → v ≡ w
unfolding word_of
same_word e = ap word_of e

module _ (below : Below) (start : Start) (journal : Journal) (k : Sent) (s : IsStart start) (lawful' : Lawful start journal) (first : head start (history_of start journal) k.endpoint ≡ Some k) (holds : Holds start (history_of start journal)) where
  waits : Contains (all_sent (history_of start journal)) k × (was_served (history_of start journal) k ≡ false)
  waits =
      let is = head_is start (history_of start journal) k first in
      (waits_of_sent (history_of start journal) k is.waits, waits_unserved (history_of start journal) k is.waits)

  -- ---- the connection that serves it

  pub record IsBoundTo (b : Bound) : Type 0 where
    pub born : Contains (births start (history_of start journal)) b
    pub on : b.endpoint ≡ k.endpoint
    pub at : bound_at start (history_of start journal) k.endpoint ≡ Some b
    pub within : AreWithinEach b.birth.rights ((lines_of start (history_of start journal)).lineage k.endpoint)

  pub bound_to : (b : Bound) × IsBoundTo b
  bound_to =
      let is = head_is start (history_of start journal) k first in
      let b = some_found (λ bound. bound.endpoint == k.endpoint) (living start (history_of start journal)) is.bound in
      let born = (kept_of (λ bound. not (is_dead (history_of start journal) bound.endpoint)) (births start (history_of start journal)) b.0 b.2).0 in (
        b.0,
        record {
          born = born;
          on = eqb-true b.0.endpoint k.endpoint b.3;
          at = b.1;
          within = subst (λ (n : ℕ). AreWithinEach b.0.birth.rights (lineage_of start (history_of start journal) n)) (eqb-true b.0.endpoint k.endpoint b.3) (holds.rights b.0 born);
        },
      )

  whole : (b : Bound) → IsBoundTo b → outcome_of start (history_of start journal) k ≡ outcome_of_sending (moment_of start (history_of start journal) b) k.sending
  whole b is = ap (outcome_at start (history_of start journal) k) is.at

  seen : (b : Bound) → IsBoundTo b → (given : Moment → Asked → List OperationSet) →
      at_serving given start (history_of start journal) k ≡ found (given (moment_of start (history_of start journal) b)) (asked_by (moment_of start (history_of start journal) b) k.sending)
  seen b is given =
      ap
      (λ (o : Option Bound).
      option_map_or (λ bound. option_map_or (given (moment_of start (history_of start journal) bound)) (asked_by (moment_of start (history_of start journal) bound) k.sending) []) o [])
      is.at

  -- ---- what is bound

  -- it was never born
  new_born : (x : Bound) → (outcome_of start (history_of start journal) k).bound ≡ Some x → (b : Bound) → Contains (births start (history_of start journal)) b → b.endpoint ≢ x.endpoint
  new_born x e b there same =
      let transit = in_transit below start journal s lawful' in
      let carried = bind_what_they_carry below start journal k x s lawful' first e in
      let alive : is_dead (history_of start journal) b.endpoint ≡ false = ap (is_dead (history_of start journal)) same ∙ transit.alive k x.endpoint carried in
      let lives = kept (λ bound. not (is_dead (history_of start journal) bound.endpoint)) (births start (history_of start journal)) b there (ap not alive) in
      true≢false (sym (is_found (λ bound. bound.endpoint == x.endpoint) (living start (history_of start journal)) b lives (eq-eqb b.endpoint x.endpoint same)) ∙ transit.unbound k x.endpoint carried)

  old_line : (bound : Bound) → Contains (births start (history_of start journal)) bound → (o : Option Bound) → (outcome_of start (history_of start journal) k).bound ≡ o → option_map_or (λ b. b.endpoint == bound.endpoint) o false ≡ false
  old_line bound there None e = refl
  old_line bound there (Some x) e = false_from_ne_true (x.endpoint == bound.endpoint) (λ same. new_born x e bound there (sym (eqb-true x.endpoint bound.endpoint same)))

  abbrev own_rights : Option Bound → List OperationSet
  own_rights o = option_map_or (λ b. b.birth.rights ∷ []) o []

  -- what holds of the lineage of a birth holds of it still
  old_then : (P : List OperationSet → Type 0) (bound : Bound) → Contains (births start (history_of start journal)) bound → P (lineage_of start (history_of start journal) bound.endpoint) → P (lineage_of start (behind start (serves k) (history_of start journal)) bound.endpoint)
  unfolding event_of lines_of
  old_then P bound there h =
      subst (λ (b : Bool). P (if b then at_serving (lineage_given (lines_of start (history_of start journal)) k) start (history_of start journal) k ++ own_rights (outcome_of start (history_of start journal) k).bound else lineage_of start (history_of start journal) bound.endpoint))
      (sym (old_line bound there _ refl)) h

  -- what holds of the lineage that is given, and then of the rights of what is bound, holds of its lineage
  new_then : (P : List OperationSet → Type 0) (x : Bound) → (outcome_of start (history_of start journal) k).bound ≡ Some x → (b : Bound) → IsBoundTo b →
      P (found (lineage_given (lines_of start (history_of start journal)) k (moment_of start (history_of start journal) b)) (asked_by (moment_of start (history_of start journal) b) k.sending) ++ x.birth.rights ∷ []) →
      P (lineage_of start (behind start (serves k) (history_of start journal)) x.endpoint)
  unfolding event_of lines_of
  new_then P x e b to h =
      let lines = lines_of start (history_of start journal) in
      let binds : option_map_or (λ bound. bound.endpoint == x.endpoint) (outcome_of start (history_of start journal) k).bound false ≡ true =
      ap (λ (o : Option Bound). option_map_or (λ bound. bound.endpoint == x.endpoint) o false) e ∙ eq-eqb x.endpoint x.endpoint refl in
      subst
      (λ (t : Bool).
      P (if t then at_serving (lineage_given lines k) start (history_of start journal) k ++ own_rights (outcome_of start (history_of start journal) k).bound else lineage_of start (history_of start journal) x.endpoint))
      (sym binds)
      (subst (λ (o : Option Bound). P (at_serving (lineage_given lines k) start (history_of start journal) k ++ own_rights o)) (sym e)
      (subst (λ (members : List OperationSet). P (members ++ x.birth.rights ∷ [])) (sym (seen b to (lineage_given lines k))) h))

  new_within : (x : Bound) → (outcome_of start (history_of start journal) k).bound ≡ Some x → AreWithinEach x.birth.rights (lineage_of start (behind start (serves k) (history_of start journal)) x.endpoint)
  new_within x e =
      let to = bound_to in
      let b = to.0 in
      new_then (AreWithinEach x.birth.rights) x e b to.1
      (within_more x.birth.rights _
      (bound_within below (moment_of start (history_of start journal) b) (lines_of start (history_of start journal)) k to.1.within (holds.trails k waits.0) x
      (sym (ap (λ (o : Outcome). o.bound) (whole b to.1)) ∙ e)))

  new_own : (x : Bound) → (outcome_of start (history_of start journal) k).bound ≡ Some x → Contains (lineage_of start (behind start (serves k) (history_of start journal)) x.endpoint) x.birth.rights
  new_own x e =
      let to = bound_to in
      new_then (λ members. Contains members x.birth.rights) x e to.0 to.1
      (Contains-append_right (found (lineage_given (lines_of start (history_of start journal)) k (moment_of start (history_of start journal) to.0)) (asked_by (moment_of start (history_of start journal) to.0) k.sending)) (x.birth.rights ∷ []) x.birth.rights
      (contains_here x.birth.rights []))

  -- ---- where it begins

  own_by : (b : Bound) → IsBoundTo b → (o : Option ℕ) → ByOrigin start (all_sent (history_of start journal)) k o → o ≡ None → BeginsAt start (ancestor_of (history_of start journal) k.endpoint) (lineage_of start (history_of start journal) k.endpoint)
  own_by b to None origin e =
      subst (λ (n : ℕ). BeginsAt start (ancestor_of (history_of start journal) n) (lineage_of start (history_of start journal) n)) to.on (holds.begun b to.born (ap is_client to.on ∙ origin.client))
  own_by b to (Some place) origin e = absurd (cc)

  pub own_begun : (b : Bound) → IsBoundTo b → k.origin ≡ None → BeginsAt start (ancestor_of (history_of start journal) k.endpoint) (lineage_of start (history_of start journal) k.endpoint)
  own_begun b to e = own_by b to k.origin ((lawful_kept below start s journal lawful').sound.right k waits.0).by_origin e

  pub over_begun : (origin : ℕ) → k.origin ≡ Some origin → BeginsAt start ((ancestors_of (history_of start journal)).onward origin) ((lines_of start (history_of start journal)).onward origin)
  over_begun origin e = holds.trails_begun k origin waits.0 e

  -- the connection that serves what came over a mount is a directory
  on_mount : (b : Bound) → IsBoundTo b → IsForwarded start k → b.birth.protocol ≡ protocol.Directory
  on_mount b to f = by_birth ((lawful_kept below start s journal lawful').sound.born b to.born) where
    by_birth : Contains start.mounts b ⊎ IsKnown start (all_sent (history_of start journal)) b.endpoint → b.birth.protocol ≡ protocol.Directory
    by_birth (inl there) = (All-contains (IsOnDirectory start.trees) (start.firsts ++ start.mounts) b s.placed (Contains-append_right start.firsts start.mounts b there)).protocol
    by_birth (inr known) = absurd (true≢false (sym known.0 ∙ ap is_client to.on ∙ end_apart start k.endpoint s f.end))

  open_by : (b : Bound) → IsBoundTo b → (o : Option ℕ) → ByOrigin start (all_sent (history_of start journal)) k o → (origin : ℕ) → o ≡ Some origin → IsOpen (asked_by (moment_of start (history_of start journal) b) k.sending)
  open_by b to None from origin e = absurd (cc)
  open_by b to (Some place) f origin e =
      let reads = onward_reads below f.flags f.rest f.object f.path f.small (let low = client_low f.object f.client in omega arith) in
      let directory = ap (λ (p : Protocol). read_by p (onward_bytes f.flags f.rest f.object) (f.object ∷ [])) (on_mount b to f) in
      record {
        path = text_of f.rest;
        word = f.flags;
        attributes = None;
        object = f.object;
        is = ap (asked_by (moment_of start (history_of start journal) b)) f.sent ∙ ap request_in (directory ∙ reads);
      }

  pub opens : (b : Bound) → IsBoundTo b → (origin : ℕ) → k.origin ≡ Some origin → IsOpen (asked_by (moment_of start (history_of start journal) b) k.sending)
  opens b to origin e = open_by b to k.origin ((lawful_kept below start s journal lawful').sound.right k waits.0).by_origin origin e

  -- what is bound comes from where what is served does, and the others from where they did
  new_ancestor : (x : Bound) → (outcome_of start (history_of start journal) k).bound ≡ Some x → ancestor_of (behind start (serves k) (history_of start journal)) x.endpoint ≡ sent_from (history_of start journal) k
  unfolding event_of ancestors_of
  new_ancestor x e =
      let binds : option_map_or (λ bound. bound.endpoint == x.endpoint) (outcome_of start (history_of start journal) k).bound false ≡ true =
      ap (λ (o : Option Bound). option_map_or (λ bound. bound.endpoint == x.endpoint) o false) e ∙ eq-eqb x.endpoint x.endpoint refl in
      ap (λ (t : Bool). if t then sent_from (history_of start journal) k else ancestor_of (history_of start journal) x.endpoint) binds

  old_ancestor : (bound : Bound) → Contains (births start (history_of start journal)) bound → ancestor_of (behind start (serves k) (history_of start journal)) bound.endpoint ≡ ancestor_of (history_of start journal) bound.endpoint
  unfolding event_of ancestors_of
  old_ancestor bound there =
      ap (λ (t : Bool). if t then sent_from (history_of start journal) k else ancestor_of (history_of start journal) bound.endpoint) (old_line bound there _ refl)

  new_begun : (x : Bound) → (outcome_of start (history_of start journal) k).bound ≡ Some x →
      BeginsAt start (ancestor_of (behind start (serves k) (history_of start journal)) x.endpoint) (lineage_of start (behind start (serves k) (history_of start journal)) x.endpoint)
  new_begun x e =
      let to = bound_to in
      let b = to.0 in
      let moment = moment_of start (history_of start journal) b in
      let request = binds_asked moment k.sending x (sym (ap (λ (o : Outcome). o.bound) (whole b to.1)) ∙ e) in
      new_then (BeginsAt start (ancestor_of (behind start (serves k) (history_of start journal)) x.endpoint)) x e b to.1
      (subst (λ (n : ℕ). BeginsAt start n (found (lineage_given (lines_of start (history_of start journal)) k moment) (asked_by moment k.sending) ++ x.birth.rights ∷ [])) (sym (new_ancestor x e))
      (begins_more start (sent_from (history_of start journal) k) (found (lineage_given (lines_of start (history_of start journal)) k moment) (asked_by moment k.sending)) (x.birth.rights ∷ [])
      (lineage_given_begins start moment (lines_of start (history_of start journal)) (ancestors_of (history_of start journal)) k (own_begun b to.1) over_begun request.0 request.1 (opens b to.1))))

  -- ---- what went on before

  other_place : (origin : ℕ) → list_any (serves_place origin) (history_of start journal) ≡ true → (k.place == origin) ≡ false
  other_place origin served =
      false_from_ne_true (k.place == origin)
      (λ same. true≢false (sym (ap (λ (n : ℕ). list_any (serves_place n) (history_of start journal)) (eqb-true k.place origin same) ∙ served) ∙ waits.1))

  still_trailed : (sent : Sent) → Contains (all_sent (history_of start journal)) sent → AreTrailed (lines_of start (behind start (serves k) (history_of start journal))) sent
  unfolding event_of lines_of
  still_trailed sent there origin bytes handles txid path word attributes object from sending read =
      let h = holds.trails sent there origin bytes handles txid path word attributes object from sending read in
      let lines = lines_of start (history_of start journal) in
      record {
        small = h.small;
        asked = subst (λ (t : Bool). All (HasAllAsked word) (if t then at_serving (trail_given start lines k) start (history_of start journal) k else lines.onward origin))
            (sym (other_place origin (holds.origins sent origin there from))) h.asked;
      }

  still_begun : (sent : Sent) (origin : ℕ) → Contains (all_sent (history_of start journal)) sent → sent.origin ≡ Some origin →
      BeginsAt start ((ancestors_of (behind start (serves k) (history_of start journal))).onward origin) ((lines_of start (behind start (serves k) (history_of start journal))).onward origin)
  unfolding event_of lines_of ancestors_of
  still_begun sent origin there from =
      let lines = lines_of start (history_of start journal) in
      subst
      (λ (t : Bool).
      BeginsAt start (if t then sent_from (history_of start journal) k else (ancestors_of (history_of start journal)).onward origin)
      (if t then at_serving (trail_given start lines k) start (history_of start journal) k else lines.onward origin))
      (sym (other_place origin (holds.origins sent origin there from))) (holds.trails_begun sent origin there from)

  pub served_holds : Holds start (behind start (serves k) (history_of start journal))
  unfolding event_of
  served_holds =
      let effect = servings_take_effect start (history_of start journal) k in
      record {
        own = λ bound there. own_kept bound (Contains-append_cases (births start (history_of start journal)) (option_to_list (outcome_of start (history_of start journal) k).bound) bound (subst (λ (bounds : List Bound). Contains bounds bound) effect.born there));
        rights = λ bound there. rights_by bound (Contains-append_cases (births start (history_of start journal)) (option_to_list (outcome_of start (history_of start journal) k).bound) bound (subst (λ (bounds : List Bound). Contains bounds bound) effect.born there));
        begun = λ bound there client. begun_by bound client (Contains-append_cases (births start (history_of start journal)) (option_to_list (outcome_of start (history_of start journal) k).bound) bound (subst (λ (bounds : List Bound). Contains bounds bound) effect.born there));
        trails_begun = λ sent origin there e. still_begun sent origin (subst (λ (ones : List Sent). Contains ones sent) effect.sent_same there) e;
        origins = λ sent origin there e. or_right (k.place == origin) _ (holds.origins sent origin (subst (λ (ones : List Sent). Contains ones sent) effect.sent_same there) e);
        trails = λ sent there. still_trailed sent (subst (λ (ones : List Sent). Contains ones sent) effect.sent_same there);
      } where
        own_kept : (bound : Bound) → Contains (births start (history_of start journal)) bound ⊎ Contains (option_to_list (outcome_of start (history_of start journal) k).bound) bound →
            Contains (lineage_of start (behind start (serves k) (history_of start journal)) bound.endpoint) bound.birth.rights
        own_kept bound (inl there) = old_then (λ members. Contains members bound.birth.rights) bound there (holds.own bound there)
        own_kept bound (inr there) = new_own bound (the_one (outcome_of start (history_of start journal) k).bound bound there)

        rights_by : (bound : Bound) → Contains (births start (history_of start journal)) bound ⊎ Contains (option_to_list (outcome_of start (history_of start journal) k).bound) bound →
            AreWithinEach bound.birth.rights (lineage_of start (behind start (serves k) (history_of start journal)) bound.endpoint)
        rights_by bound (inl there) = old_then (AreWithinEach bound.birth.rights) bound there (holds.rights bound there)
        rights_by bound (inr there) = new_within bound (the_one (outcome_of start (history_of start journal) k).bound bound there)

        begun_by : (bound : Bound) → is_client bound.endpoint ≡ true → Contains (births start (history_of start journal)) bound ⊎ Contains (option_to_list (outcome_of start (history_of start journal) k).bound) bound →
            BeginsAt start (ancestor_of (behind start (serves k) (history_of start journal)) bound.endpoint) (lineage_of start (behind start (serves k) (history_of start journal)) bound.endpoint)
        begun_by bound client (inl there) =
            old_then (BeginsAt start (ancestor_of (behind start (serves k) (history_of start journal)) bound.endpoint)) bound there
            (subst (λ (n : ℕ). BeginsAt start n (lineage_of start (history_of start journal) bound.endpoint)) (sym (old_ancestor bound there)) (holds.begun bound there client))
        begun_by bound client (inr there) = new_begun bound (the_one (outcome_of start (history_of start journal) k).bound bound there)

  -- ---- what goes on

  small_by : (b : Bound) (o : Option ℕ) → k.origin ≡ o → ByOrigin start (all_sent (history_of start journal)) k o → (bytes handles : List ℕ) (txid : ℕ) (path : List ℕ) (word : ℕ) (attributes : Option ℕ) (object : ℕ) → k.sending ≡ message bytes handles →
      read_by b.birth.protocol bytes handles ≡ Ok (txid, asks.open_path path word attributes object) → word < 256 ^ 8
  small_by b None e origin bytes handles txid path word attributes object sending read =
      flags_small below b.birth.protocol bytes handles txid path word attributes object read (subst (λ (x : Sending). AreBytes (bytes_in x)) sending origin.bytes)
  small_by b (Some place) e origin bytes handles txid path word attributes object sending read =
      (holds.trails k waits.0 place bytes handles txid path word attributes object e sending
      (opens_directory below.spelled below.reads below.apart b.birth.protocol bytes handles txid path word attributes object read)).small

  object_low : (f : Forwarded) → (outcome_of start (history_of start journal) k).forward ≡ Some f → f.object < 0x80000000
  object_low f e =
      let sound = (lawful_kept below start s journal lawful').sound in
      let serving' = is_serving below start journal k s (stepped start journal lawful') sound first in
      let low = client_low f.object (carried_is k f.object (serving'.answered.goes_on f e).0).0 in
      omega arith

  pub forward_new : (f : Forwarded) → (outcome_of start (history_of start journal) k).forward ≡ Some f →
      IsNew start (behind start (serves k) (history_of start journal)) (sent_behind (serves k ∷ journal) f.endpoint (message f.bytes (f.object ∷ [])) (Some k.place))
  unfolding event_of lines_of ancestors_of
  forward_new f e =
      let to = bound_to in
      let b = to.0 in
      let lines = lines_of start (history_of start journal) in
      let right = (lawful_kept below start s journal lawful').sound.right k waits.0 in
      let on = onward_within below (moment_of start (history_of start journal) b) lines k to.1.within (holds.trails k waits.0) start f (small_by b k.origin refl right.by_origin)
      (λ word mount masks passes end there. end_is_passed start (trees_of start (history_of start journal)) b.server word mount masks (stand_on_trees below start journal s lawful').mounts passes end there)
      (sym (ap (λ (o : Outcome). o.forward) (whole b to.1)) ∙ e) in
      record {
        begun = λ origin from.
            subst
            (λ (t : Bool).
            BeginsAt start (if t then sent_from (history_of start journal) k else (ancestors_of (history_of start journal)).onward origin)
            (if t then at_serving (trail_given start lines k) start (history_of start journal) k else lines.onward origin))
            (sym (eq-eqb k.place origin (same_place from))) (subst (BeginsAt start (sent_from (history_of start journal) k)) (sym (seen b to.1 (trail_given start lines k)))
            (trail_given_begins start (moment_of start (history_of start journal) b) lines (ancestors_of (history_of start journal)) k (own_begun b to.1) over_begun
            (forwards_asked (moment_of start (history_of start journal) b) k.sending f (sym (ap (λ (o : Outcome). o.forward) (whole b to.1)) ∙ e))));
        origin = λ origin from. or_left (k.place == origin) _ (eq-eqb k.place origin (same_place from));
        trail = λ origin bytes handles txid path word attributes object from sending read.
            let again = ap (λ bs. read_by protocol.Directory bs (f.object ∷ [])) on.bytes ∙ onward_reads below on.flags on.rest f.object on.path on.small (object_low f e) in
            let same : on.flags ≡ word = same_word (sym again ∙ same_read sending ∙ read) in
            let here : (k.place == origin) ≡ true = eq-eqb k.place origin (same_place from) in
            subst (λ (w : ℕ). IsTrailed (lines_of start (behind start (serves k) (history_of start journal))) w origin) same
            (record {
              small = on.small;
              asked = subst (λ (t : Bool). All (HasAllAsked on.flags) (if t then at_serving (trail_given start lines k) start (history_of start journal) k else lines.onward origin))
                  (sym here) (subst (All (HasAllAsked on.flags)) (sym (seen b to.1 (trail_given start lines k))) on.asked);
            });
      } where
        same_place : {a b : ℕ} → Some a ≡ Some b → a ≡ b
        same_place e = cc
