-- What holds at each time: births lie within their lineages, and flags that went on within their trails.
use Rattle.std.proofs.Common.{◌≡◌, ◌≢◌, AllPairs, ℕ, ◌==◌, ◌⊎◌, true, List, [], ◌∷◌, ◌++◌, find, Option, Some, None, Contains, refl, sym, ap, ◌∙◌, subst, inl, inr, append-nil, true≢false, false}
use Rattle.std.specs.List.{list_any}
use Rattle.std.specs.Option.{option_map_or}
use Rattle.std.specs.Prelude.{IsTrue}
use Rattle.std.proofs.lemmas.Bool.{eq-eqb, eqb-true}
use Rattle.std.proofs.lemmas.List.Elements.{All-nil, All-cons, Contains-append_cases, All-contains}
use Rattle.link_frames.specs.declared.kinds.Refusal.{Refusal}
use Rattle.io_rights.specs.Operations.{OperationSet, is_within}
use Rattle.io_flags.proofs.GrantLemmas.{within_self}
use Rattle.vfs_journal.specs.Entries.{Sent, sends, refuses}
use Rattle.vfs_journal.specs.History.{History, all_sent, births, serves_place}
use Rattle.vfs_journal.specs.Past.{behind, event_of}
use Rattle.vfs_journal.specs.Starts.{Bound, Start}
use Rattle.journal_laws.specs.Soundness.{IsStart, OtherEndpoint}
use Rattle.journal_laws.proofs.Members.{contains_cases, contains_here, contains_none, found, first_found, none_found}
use Rattle.journal_laws.proofs.Steps.{refusals_change_nothing, sendings_wait_last}
use Rattle.session_laws.specs.Lineage.{ancestor_of, ancestors_of, lines_of, lineage_of, first_lineage}
use Rattle.session_laws.specs.Rights.{AreWithinEach, BeginsAt}
use Rattle.session_laws.proofs.LineagesServing.{AreTrailed}
use Rattle.fidl_names.specs.HandleNumber.{is_client}

pub record Holds (start : Start) (history : History) : Type 0 where
  -- the rights of whatever was bound stand in its lineage, and lie within it
  pub own : (bound : Bound) → Contains (births start history) bound → Contains (lineage_of start history bound.endpoint) bound.birth.rights
  pub rights : (bound : Bound) → Contains (births start history) bound → AreWithinEach bound.birth.rights (lineage_of start history bound.endpoint)
  -- that of a client's endpoint begins at its ancestor
  pub begun : (bound : Bound) → Contains (births start history) bound → is_client bound.endpoint ≡ true → BeginsAt start (ancestor_of history bound.endpoint) (lineage_of start history bound.endpoint)
  -- what came over a mount has an origin that was served
  pub origins : (sent : Sent) (origin : ℕ) → Contains (all_sent history) sent → sent.origin ≡ Some origin → list_any (serves_place origin) history ≡ true
  -- and what its flags can get lies within its trail
  pub trails : (sent : Sent) → Contains (all_sent history) sent → AreTrailed (lines_of start history) sent
  pub trails_begun : (sent : Sent) (origin : ℕ) → Contains (all_sent history) sent → sent.origin ≡ Some origin → BeginsAt start ((ancestors_of history).onward origin) ((lines_of start history).onward origin)

-- ---- the start

first_found_alone : (start : Start) (bound : Bound) (o : Option Bound) → AllPairs OtherEndpoint (start.firsts ++ start.mounts) → Contains (start.firsts ++ start.mounts) bound →
    find (λ b. b.endpoint == bound.endpoint) (start.firsts ++ start.mounts) ≡ o → option_map_or (λ b. b.birth.rights ∷ []) o [] ≡ bound.birth.rights ∷ []
first_found_alone start bound None apart there e =
    absurd (true≢false (sym (eq-eqb bound.endpoint bound.endpoint refl) ∙ none_found (λ b. b.endpoint == bound.endpoint) (start.firsts ++ start.mounts) bound e there))
first_found_alone start bound (Some other) apart there e =
    by_case (first_found OtherEndpoint (λ b. b.endpoint == bound.endpoint) (start.firsts ++ start.mounts) other bound apart e there (eq-eqb bound.endpoint bound.endpoint refl)) where
      by_case : (other ≡ bound) ⊎ (other.endpoint ≢ bound.endpoint) → other.birth.rights ∷ [] ≡ bound.birth.rights ∷ []
      by_case (inl same) = ap (λ (b : Bound). b.birth.rights ∷ []) same
      by_case (inr apart) =
          absurd (apart (eqb-true other.endpoint bound.endpoint (found (λ b. b.endpoint == bound.endpoint) (start.firsts ++ start.mounts) other e).1))

-- a first connection, or the end of a mount, has its rights alone
first_alone : (start : Start) → IsStart start → (bound : Bound) → Contains (births start []) bound → first_lineage start bound.endpoint ≡ bound.birth.rights ∷ []
first_alone start s bound there =
    first_found_alone start bound (find (λ b. b.endpoint == bound.endpoint) (start.firsts ++ start.mounts)) s.apart (subst (λ (bounds : List Bound). Contains bounds bound) (append-nil (start.firsts ++ start.mounts)) there) refl

first_begins : (start : Start) → IsStart start → (bound : Bound) → Contains (births start []) bound → is_client bound.endpoint ≡ true → BeginsAt start bound.endpoint (first_lineage start bound.endpoint)
first_begins start s bound there client =
    by_side (Contains-append_cases start.firsts start.mounts bound (subst (λ (bounds : List Bound). Contains bounds bound) (append-nil (start.firsts ++ start.mounts)) there)) where
      by_side : Contains start.firsts bound ⊎ Contains start.mounts bound → BeginsAt start bound.endpoint (first_lineage start bound.endpoint)
      by_side (inl first) = record { first = bound; there = first; on = refl; rest = []; is = first_alone start s bound there }
      by_side (inr mount) = absurd (true≢false (sym client ∙ All-contains (λ (b : Bound). is_client b.endpoint ≡ false) start.mounts bound s.ends mount))

pub begins : (start : Start) → IsStart start → Holds start []
unfolding lines_of ancestors_of
begins start s = record {
  own = λ bound there. subst (λ (members : List OperationSet). Contains members bound.birth.rights) (sym (first_alone start s bound there)) (contains_here bound.birth.rights []);
  rights = λ bound there. subst (AreWithinEach bound.birth.rights) (sym (first_alone start s bound there))
      (All-cons (λ member. IsTrue (is_within bound.birth.rights member)) bound.birth.rights [] (within_self bound.birth.rights) (All-nil (λ member. IsTrue (is_within bound.birth.rights member))));
  begun = λ bound there client. first_begins start s bound there client;
  origins = λ sent origin there e. absurd (contains_none sent there);
  trails = λ sent there. absurd (contains_none sent there);
  trails_begun = λ sent origin there e. absurd (contains_none sent there);
}

-- ---- a refusal

pub refused_holds : (start : Start) (past : History) (endpoint : ℕ) (why : Refusal) → Holds start past → Holds start (behind start (refuses endpoint why) past)
unfolding event_of lines_of ancestors_of
refused_holds start past endpoint why h =
    let same = refusals_change_nothing start past endpoint why in
    record {
      own = λ bound there. h.own bound (subst (λ (bounds : List Bound). Contains bounds bound) same.same.born there);
      rights = λ bound there. h.rights bound (subst (λ (bounds : List Bound). Contains bounds bound) same.same.born there);
      begun = λ bound there client. h.begun bound (subst (λ (bounds : List Bound). Contains bounds bound) same.same.born there) client;
      origins = λ sent origin there e. h.origins sent origin (subst (λ (ones : List Sent). Contains ones sent) same.sent there) e;
      trails = λ sent there. h.trails sent (subst (λ (ones : List Sent). Contains ones sent) same.sent there);
      trails_begun = λ sent origin there e. h.trails_begun sent origin (subst (λ (ones : List Sent). Contains ones sent) same.sent there) e;
    }

-- ---- a sending

last_of : {X : Type 0} (xs : List X) (x y : X) → Contains (xs ++ x ∷ []) y → Contains xs y ⊎ (x ≡ y)
last_of {X} xs x y h = by_side (Contains-append_cases xs (x ∷ []) y h) where
  only : (x ≡ y) ⊎ Contains [] y → x ≡ y
  only (inl e) = e
  only (inr h) = absurd (contains_none y h)

  by_side : Contains xs y ⊎ Contains (x ∷ []) y → Contains xs y ⊎ (x ≡ y)
  by_side (inl h) = inl h
  by_side (inr h) = inr (only (contains_cases y x [] h))

-- what is new has a served origin, if it has one, and its trail has what it can get
pub record IsNew (start : Start) (past : History) (new : Sent) : Type 0 where
  pub origin : (origin : ℕ) → new.origin ≡ Some origin → list_any (serves_place origin) past ≡ true
  pub trail : AreTrailed (lines_of start past) new
  pub begun : (origin : ℕ) → new.origin ≡ Some origin → BeginsAt start ((ancestors_of past).onward origin) ((lines_of start past).onward origin)

pub sent_holds : (start : Start) (past : History) (new : Sent) → IsNew start past new → Holds start past → Holds start (behind start (sends new) past)
unfolding event_of lines_of ancestors_of
sent_holds start past new is h =
    let step = sendings_wait_last start past new in
    record {
      own = λ bound there. h.own bound (subst (λ (bounds : List Bound). Contains bounds bound) step.same.born there);
      rights = λ bound there. h.rights bound (subst (λ (bounds : List Bound). Contains bounds bound) step.same.born there);
      begun = λ bound there client. h.begun bound (subst (λ (bounds : List Bound). Contains bounds bound) step.same.born there) client;
      origins = λ sent origin there e. origin_by sent origin e (last_of (all_sent past) new sent (subst (λ (ones : List Sent). Contains ones sent) step.sent_last there));
      trails_begun = λ sent origin there e. begun_by sent origin e (last_of (all_sent past) new sent (subst (λ (ones : List Sent). Contains ones sent) step.sent_last there));
      trails = λ sent there. trail_by' sent (last_of (all_sent past) new sent (subst (λ (ones : List Sent). Contains ones sent) step.sent_last there));
    } where
      origin_by : (sent : Sent) (origin : ℕ) → sent.origin ≡ Some origin → Contains (all_sent past) sent ⊎ (new ≡ sent) → list_any (serves_place origin) past ≡ true
      origin_by sent origin e (inl there) = h.origins sent origin there e
      origin_by sent origin e (inr same) = is.origin origin (ap (λ (s : Sent). s.origin) same ∙ e)

      begun_by : (sent : Sent) (origin : ℕ) → sent.origin ≡ Some origin → Contains (all_sent past) sent ⊎ (new ≡ sent) → BeginsAt start ((ancestors_of past).onward origin) ((lines_of start past).onward origin)
      begun_by sent origin e (inl there) = h.trails_begun sent origin there e
      begun_by sent origin e (inr same) = is.begun origin (ap (λ (s : Sent). s.origin) same ∙ e)

      trail_by' : (sent : Sent) → Contains (all_sent past) sent ⊎ (new ≡ sent) → AreTrailed (lines_of start past) sent
      trail_by' sent (inl there) = h.trails sent there
      trail_by' sent (inr same) = subst (AreTrailed (lines_of start past)) same is.trail

-- a client's has no origin
pub client_new : (start : Start) (past : History) (new : Sent) → new.origin ≡ None → IsNew start past new
client_new start past new none = record {
  origin = λ origin e. absurd (no_origin origin (sym none ∙ e));
  trail = λ origin bytes handles txid path word attributes object e sending read. absurd (no_origin origin (sym none ∙ e));
  begun = λ origin e. absurd (no_origin origin (sym none ∙ e));
} where
  no_origin : (origin : ℕ) → None ≡ Some origin → ⊥
  no_origin origin e = cc
