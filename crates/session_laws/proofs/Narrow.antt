-- What comes from a first connection without the rights to change changes nothing.
use Rattle.std.proofs.Common.{◌≡◌, ◌≢◌, ℕ, ◌==◌, ◌⊎◌, true, false, true≢false, List, ◌∷◌, ◌++◌, find, Option, Some, None, Contains, refl, sym, ◌∙◌, subst, inl, inr}
use Rattle.std.specs.Prelude.{AllPairs, IsTrue}
use Rattle.std.proofs.lemmas.Bool.{eq-eqb, eqb-true}
use Rattle.std.proofs.lemmas.List.Elements.{All-contains, Contains-append_left}
use Rattle.io_messages.specs.Asked.{Asked}
use Rattle.io_messages.specs.Asked as asks
use Rattle.io_rights.specs.declared.operations.Operation.{Operation}
use Rattle.io_rights.specs.declared.operations.Operation.TheVariants as op
use Rattle.io_rights.specs.Operations.{OperationSet, bit_of, has, single, is_within}
use Rattle.io_rights.proofs.OperationSets.{has-single, within_each}
use Rattle.node_graph.specs.Tree.{Change, make, add, cut, move, fill, stay}
use Rattle.vfs_journal.specs.Entries.{Sent, Journal, serves}
use Rattle.vfs_journal.specs.History.{bound_at}
use Rattle.vfs_journal.specs.Lawful.{Lawful}
use Rattle.vfs_journal.specs.Past.{event_of, history_of}
use Rattle.vfs_journal.specs.Serving.{Moment, moment_of, outcome_of}
use Rattle.vfs_journal.specs.Session.{head}
use Rattle.vfs_journal.specs.Starts.{Bound, Start}
use Rattle.journal_laws.specs.Soundness.{IsStart, OtherEndpoint}
use Rattle.journal_laws.proofs.Below.{Below}
use Rattle.journal_laws.proofs.Lists.{pairs-left}
use Rattle.journal_laws.proofs.Members.{contains_here, first_found, found, none_found}
use Rattle.session_laws.specs.Authority.{EachHas, HasAuthority, IsAllowed, IsNarrow, NarrowChangesNothing}
use Rattle.session_laws.specs.Lineage.{ancestors_of, lineage_of, lines_of, masks_along, rights_bound, sent_from, trail_of, walk_at}
use Rattle.session_laws.specs.Rights.{BeginsAt}
use Rattle.session_laws.proofs.Beginning.{IsOpen, own_begins, trail_begins}
use Rattle.session_laws.proofs.Changes.{changes_allowed}
use Rattle.session_laws.proofs.LineagesHold.{Holds}
use Rattle.session_laws.proofs.LineagesServed.{IsBoundTo, bound_to, opens, over_begun, own_begun}
use Rattle.journal_laws.proofs.Stepping.{time_of, was_head}
use Rattle.session_laws.proofs.Times.{head_holds}

-- ---- what has the right

has_of : (operation : Operation) (set : OperationSet) → IsTrue (is_within (single operation) set) → has set operation ≡ true
has_of operation set h =
    within_each (single operation) set h operation (has-single operation operation ∙ eq-eqb (bit_of operation) (bit_of operation) refl)

lacking : (operation : Operation) (members : List OperationSet) (set : OperationSet) → has set operation ≡ false → Contains members set → EachHas operation members → ⊥
lacking operation members set lacks there each =
    true≢false (sym (has_of operation set (All-contains (λ member. IsTrue (is_within (single operation) member)) members set each there)) ∙ lacks)

-- no request has the authority, where the trail has the rights of a narrow connection, and so the lineage where it is no Open
module _ (start : Start) (journal : Journal) (k : Sent) (moment : Moment) (first : Bound) (narrow : IsNarrow first) (trail : Contains (trail_of start (history_of start journal) k) first.birth.rights) where
  abbrev OnOwn : Type 0
  OnOwn = Contains (lineage_of start (history_of start journal) k.endpoint) first.birth.rights

  by_writes : OnOwn → EachHas op.WriteBytes (lineage_of start (history_of start journal) k.endpoint) → ⊥
  by_writes own h = lacking op.WriteBytes _ first.birth.rights narrow.writes own h

  by_names : OnOwn → EachHas op.ModifyDirectory (lineage_of start (history_of start journal) k.endpoint) → ⊥
  by_names own h = lacking op.ModifyDirectory _ first.birth.rights narrow.modifies own h

  by_open : (path : List ℕ) (word : ℕ) (attributes : Option ℕ) (object : ℕ) (change : Change) → HasAuthority start (history_of start journal) k moment (asks.open_path path word attributes object) change → ⊥
  by_open path word attributes object (make key row mask) h = lacking op.ModifyDirectory _ first.birth.rights narrow.modifies trail h.0
  by_open path word attributes object (fill node bytes) h =
      let given = trail_of start (history_of start journal) k ++ masks_along (walk_at moment path word) in
      let own = rights_bound (event_of start (history_of start journal) (serves k)) in
      lacking op.WriteBytes (given ++ own) first.birth.rights narrow.writes
      (Contains-append_left given own first.birth.rights
      (Contains-append_left (trail_of start (history_of start journal) k) (masks_along (walk_at moment path word)) first.birth.rights trail)) h
  by_open path word attributes object change h = absurd h

  denied : (request : Asked) (change : Change) → ((IsOpen (Some request) → ⊥) → OnOwn) → HasAuthority start (history_of start journal) k moment request change → ⊥
  denied (asks.write bytes) change own h = by_writes (own (λ o. let wrong = o.is in absurd (cc))) h
  denied (asks.write_at bytes offset) change own h = by_writes (own (λ o. let wrong = o.is in absurd (cc))) h
  denied (asks.resize size) change own h = by_writes (own (λ o. let wrong = o.is in absurd (cc))) h
  denied (asks.unlink name flags) change own h = by_names (own (λ o. let wrong = o.is in absurd (cc))) h
  denied (asks.link src token dst) change own h = by_names (own (λ o. let wrong = o.is in absurd (cc))) h.0
  denied (asks.rename src token dst) change own h = by_names (own (λ o. let wrong = o.is in absurd (cc))) h.0
  denied (asks.open_path path word attributes object) change own h = by_open path word attributes object change h
  denied request change own h = absurd h

-- ---- first connections

one_first : (start : Start) (one other : Bound) → IsStart start → Contains start.firsts one → Contains start.firsts other → one.endpoint ≡ other.endpoint → one ≡ other
one_first start one other s here there same = by_found (find (λ b. b.endpoint == other.endpoint) start.firsts) refl where
  apart : AllPairs OtherEndpoint start.firsts
  apart = pairs-left OtherEndpoint start.firsts start.mounts s.apart

  by_side : (x z : Bound) → Contains start.firsts z → z.endpoint ≡ other.endpoint → find (λ b. b.endpoint == other.endpoint) start.firsts ≡ Some x → x ≡ z
  by_side x z in_them on e = by_case (first_found OtherEndpoint (λ b. b.endpoint == other.endpoint) start.firsts x z apart e in_them (eq-eqb z.endpoint other.endpoint on)) where
    by_case : (x ≡ z) ⊎ (x.endpoint ≢ z.endpoint) → x ≡ z
    by_case (inl is) = is
    by_case (inr differs) = absurd (differs (eqb-true x.endpoint other.endpoint (found (λ b. b.endpoint == other.endpoint) start.firsts x e).1 ∙ sym on))

  by_found : (o : Option Bound) → find (λ b. b.endpoint == other.endpoint) start.firsts ≡ o → one ≡ other
  by_found None e = absurd (true≢false (sym (eq-eqb one.endpoint other.endpoint same) ∙ none_found (λ b. b.endpoint == other.endpoint) start.firsts one e here))
  by_found (Some x) e = sym (by_side x one here same e) ∙ by_side x other there refl e

-- what begins at a first connection has its rights
begun_in : (start : Start) (first : Bound) (ancestor : ℕ) (members : List OperationSet) → IsStart start → Contains start.firsts first → ancestor ≡ first.endpoint → BeginsAt start ancestor members → Contains members first.birth.rights
begun_in start first ancestor members s there from h =
    let same = one_first start h.first first s h.there there (h.on ∙ from) in
    subst (λ (ms : List OperationSet). Contains ms first.birth.rights) (sym h.is)
    (subst (λ (b : Bound). Contains (h.first.birth.rights ∷ h.rest) b.birth.rights) same (contains_here h.first.birth.rights h.rest))

same_bound : {a b : Bound} → Some a ≡ Some b → a ≡ b
same_bound e = cc

-- ---- the law

module _ (below : Below) (start : Start) (journal : Journal) (k : Sent) (s : IsStart start) (all : Lawful start journal) (at : head start (history_of start journal) k.endpoint ≡ Some k) (holds : Holds start (history_of start journal)) (first : Bound) (there : Contains start.firsts first) (from : sent_from (history_of start journal) k ≡ first.endpoint) (narrow : IsNarrow first) where
  to_bound : (b : Bound) → bound_at start (history_of start journal) k.endpoint ≡ Some b → IsBoundTo below start journal k s all at holds b
  to_bound b e =
      let to = bound_to below start journal k s all at holds in
      subst (IsBoundTo below start journal k s all at holds) (same_bound (sym to.1.at ∙ e)) to.1

  nothing_allowed : (change : Change) → IsAllowed start (history_of start journal) k change → ⊥
  nothing_allowed change h =
      let moment = moment_of start (history_of start journal) h.bound in
      let lines = lines_of start (history_of start journal) in
      let ancestors = ancestors_of (history_of start journal) in
      let to = to_bound h.bound h.at in
      let own = own_begun below start journal k s all at holds h.bound to in
      let over = over_begun below start journal k s all at holds in
      let origins = opens below start journal k s all at holds h.bound to in
      denied start journal k moment first narrow
      (begun_in start first (sent_from (history_of start journal) k) (trail_of start (history_of start journal) k) s there from (trail_begins start moment lines ancestors k own over k.origin refl))
      h.request change
      (λ other.
      begun_in start first (sent_from (history_of start journal) k) (lineage_of start (history_of start journal) k.endpoint) s there from
      (own_begins start moment lines ancestors k own over h.request h.asked origins other k.origin refl))
      h.authority

stays_unless : (change : Change) → ((change ≢ stay) → ⊥) → change ≡ stay
stays_unless stay h = refl
stays_unless (make key row mask) h = absurd (h (λ e. cc))
stays_unless (add key to) h = absurd (h (λ e. cc))
stays_unless (cut key) h = absurd (h (λ e. cc))
stays_unless (move from to) h = absurd (h (λ e. cc))
stays_unless (fill node bytes) h = absurd (h (λ e. cc))

pub narrow_change_nothing : Below → (start : Start) (later past : Journal) (sent : Sent) → IsStart start → Lawful start (later ++ serves sent ∷ past) → NarrowChangesNothing start (history_of start past) sent
narrow_change_nothing below start later past k s h first there from is =
    let time = time_of start later (serves k ∷ past) h in
    let at = was_head start past k time in
    let holds = head_holds below start s past k time in
    stays_unless (outcome_of start (history_of start past) k).change
    (λ changes. nothing_allowed below start past k s at.0 at.1 holds first there from is (outcome_of start (history_of start past) k).change (changes_allowed below start later past k s h changes))
