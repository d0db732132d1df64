-- Which sets have what flags ask for, and what flags get of it.
use Rattle.std.proofs.Common.{◌≡◌, ℕ, Bool, true, false, ◌&&◌, if◌then◌else◌, List, [], ◌∷◌, refl, sym, ap, ◌∙◌, inl, inr}
use Rattle.std.specs.Prelude.{IsTrue}
use Rattle.std.proofs.lemmas.Bool.{and_parts, both_ways, or_cases, or_right}
use Rattle.std.proofs.lemmas.List.Elements.{All-nil, All-cons}
use Rattle.io_flags.specs.Grants.{asked_rights, explicit_rights, write_set, execute_set, added, granted_to, left_by_kind, granted, granted_kind, onward}
use Rattle.io_flags.specs.Words.{FlagSet, has as has_flag, flags_of, holds}
use Rattle.io_flags.specs.declared.names.Flag.TheVariants as flag
use Rattle.io_flags.proofs.GrantLemmas.{onward-asked, onward-set, within_self}
use Rattle.io_rights.specs.declared.operations.Operation.TheVariants as op
use Rattle.io_rights.specs.Operations.{OperationSet, has, none, all, single, meet, join, is_within}
use Rattle.io_rights.proofs.OperationSets.{has-join, has-set_of, within_each, within_from_each, within_trans, meet_within_left, meet_within_right}
use Rattle.conn_rules.proofs.EveryWalk.{named_in_asked}
use Rattle.conn_rules.specs.Walks.{limit_of}
use Rattle.conn_rules.specs.Laws.{IsWithinAll}
use Rattle.session_laws.specs.Rights.{AreWithinEach, HasAllAsked}

-- ---- joins

within_join : (a b c : OperationSet) → is_within a c ≡ true → is_within b c ≡ true → is_within (join a b) c ≡ true
within_join a b c p q =
    within_from_each (join a b) c
    (λ o h.
    elim (or_cases (has a o) (has b o) (sym (has-join a b o) ∙ h)) [
      | inl left ↦ within_each a c p o left
      | inr right ↦ within_each b c q o right
    ])

pub within_join_right : (a b : OperationSet) → is_within b (join a b) ≡ true
within_join_right a b = within_from_each b (join a b) (λ o h. has-join a b o ∙ or_right (has a o) (has b o) h)

pub none_within : (c : OperationSet) → is_within none c ≡ true
none_within c = within_from_each none c (λ o h. absurd (both_ways (has none o) (has-set_of (λ _. false) o) h))

pub within_all : (a : OperationSet) → is_within a all ≡ true
within_all a = within_from_each a all (λ o h. has-set_of (λ _. true) o)

pub none_within_each : (members : List OperationSet) → AreWithinEach none members
none_within_each [] = All-nil (λ member. IsTrue (is_within none member))
none_within_each (member ∷ members) =
    All-cons (λ member. IsTrue (is_within none member)) member members (none_within member) (none_within_each members)

-- ---- limits

abbrev Has : OperationSet → OperationSet → Type 0
Has some member = IsTrue (is_within some member)

from_limit : (some rights : OperationSet) (masks : List OperationSet) → is_within some (limit_of rights masks) ≡ true → IsWithinAll some rights masks
from_limit some rights [] h = (h, All-nil (Has some))
from_limit some rights (mask ∷ masks) h =
    let below = from_limit some (meet rights mask) masks h in (
      within_trans some (meet rights mask) rights below.0 (meet_within_left rights mask),
      All-cons (Has some) mask masks (within_trans some (meet rights mask) mask below.0 (meet_within_right rights mask)) below.1,
    )

-- the limit lies within the rights and within each mask
pub limit_within : (rights : OperationSet) (masks : List OperationSet) → IsWithinAll (limit_of rights masks) rights masks
limit_within rights masks = from_limit (limit_of rights masks) rights masks (within_self (limit_of rights masks))

-- ---- what flags get

added_within : (flagged : Bool) (limit rights member : OperationSet) → (flagged ≡ true → is_within rights member ≡ true) → is_within (added flagged limit rights) member ≡ true
added_within false limit rights member h = none_within member
added_within true limit rights member h = by_test (is_within rights limit) where
  by_test : (b : Bool) → is_within (if b then rights else none) member ≡ true
  by_test true = h refl
  by_test false = none_within member

left_within : (b : Bool) (rights member : OperationSet) → is_within rights member ≡ true → is_within (if b then meet rights (single op.GetAttributes) else rights) member ≡ true
left_within true rights member h =
    within_trans (meet rights (single op.GetAttributes)) rights member (meet_within_left rights (single op.GetAttributes)) h
left_within false rights member h = h

set_within : (set : FlagSet) (limit member : OperationSet) → is_within set.rights member ≡ true → (set.inherit_write ≡ true → is_within write_set member ≡ true) → (set.inherit_execute ≡ true → is_within execute_set member ≡ true) →
    is_within (left_by_kind set (granted_to set limit)) member ≡ true
set_within set limit member named write execute =
    left_within set.protocol_node (granted_to set limit) member
    (within_join set.rights _ member named
    (within_join _ _ member (added_within set.inherit_write limit write_set member write) (added_within set.inherit_execute limit execute_set member execute)))

-- a set that has all that a word can get has what it gets, under whatever limit
pub granted_within : (word : ℕ) (limit member : OperationSet) → HasAllAsked word member → is_within (granted_kind word (granted word limit)) member ≡ true
unfolding granted granted_kind explicit_rights
granted_within word limit member h =
    set_within (flags_of word) limit member
    (within_trans (explicit_rights word) (asked_rights word) member (named_in_asked word) h.asked)
    h.write h.execute

-- ---- what goes on

goes_on_with : (word : ℕ) (limit : OperationSet) → has_flag (onward word limit) flag.InheritWrite ≡ (has_flag word flag.InheritWrite && is_within write_set limit)
goes_on_with word limit = ap (λ (set : FlagSet). holds set flag.InheritWrite) (onward-set word limit)

goes_on_to_run : (word : ℕ) (limit : OperationSet) → has_flag (onward word limit) flag.InheritExecute ≡ (has_flag word flag.InheritExecute && is_within execute_set limit)
goes_on_to_run word limit = ap (λ (set : FlagSet). holds set flag.InheritExecute) (onward-set word limit)

-- what has the rights that a word asks for, and the limit, has all that goes on
pub limit_has_onward : (word : ℕ) (limit member : OperationSet) → is_within (asked_rights word) member ≡ true → is_within limit member ≡ true → HasAllAsked (onward word limit) member
limit_has_onward word limit member asked within = record {
  asked = ap (λ (some : OperationSet). is_within some member) (onward-asked word limit) ∙ asked;
  write = λ h. within_trans write_set limit member (and_parts _ _ (sym (goes_on_with word limit) ∙ h)).1 within;
  execute = λ h. within_trans execute_set limit member (and_parts _ _ (sym (goes_on_to_run word limit) ∙ h)).1 within;
}

-- what has all that a word can get has all that goes on
pub has_onward : (word : ℕ) (limit member : OperationSet) → HasAllAsked word member → HasAllAsked (onward word limit) member
has_onward word limit member h = record {
  asked = ap (λ (some : OperationSet). is_within some member) (onward-asked word limit) ∙ h.asked;
  write = λ f. h.write (and_parts _ _ (sym (goes_on_with word limit) ∙ f)).0;
  execute = λ f. h.execute (and_parts _ _ (sym (goes_on_to_run word limit) ∙ f)).0;
}
