-- The endpoints that an entry carries, but one.
use Rattle.std.proofs.Common.{◌≡◌, ℕ, ◌+◌, ◌<◌, ◌&&◌, ◌||◌, Bool, true, false, not, cond, List, [], ◌∷◌, ◌++◌, append_assoc, filter, get_or, length, take, Option, None, Some, refl, sym, ap, ◌∙◌}
use Rattle.fidl_names.specs.HandleNumber.{is_client, number_of_handle}
use Rattle.fidl_names.specs.declared.methods.Handle.{Handle}
use Rattle.std.proofs.lemmas.Bool.{eq-eqb}
use Rattle.std.proofs.lemmas.List.{append-nil, map-append, take_more}
use Rattle.std.proofs.lemmas.List.Elements.{filter-append}
use Rattle.link_admission.specs.Numbering.{among}
use Rattle.vfs_journal.specs.Handles.{numbers_of}
use Rattle.vfs_journal.specs.Entries.{Sent, handles_of, tokens_in}
use Rattle.vfs_server.specs.declared.fate.Fate.TheVariants as fates
use Rattle.vfs_world.specs.ServingSteps.{IsLoneEnd, IsLoneGift, IsLoneRefusal, IsLoneToken, IsQuiet, carried_but, is_it}

-- the endpoints among these numbers, but one
abbrev pub carried_of : Option ℕ → List ℕ → List ℕ
carried_of but numbers = filter (λ number. is_client number && not (is_it but number)) numbers

by_tests : {X : Type 0} (a b : Bool) (x : X) (xs ys : List X) → xs ≡ ys → cond (a && b) (x ∷ xs) xs ≡ cond a (cond b (x ∷ ys) ys) ys
by_tests true true x xs ys e = ap (λ zs. x ∷ zs) e
by_tests true false x xs ys e = e
by_tests false b x xs ys e = e

cond_filter : {X : Type 0} (p : X → Bool) (b : Bool) (x : X) (xs : List X) → filter p (cond b (x ∷ xs) xs) ≡ cond b (cond (p x) (x ∷ filter p xs) (filter p xs)) (filter p xs)
cond_filter p true x xs = refl
cond_filter p false x xs = refl

filter_both : {X : Type 0} (p q : X → Bool) (xs : List X) → filter (λ x. p x && q x) xs ≡ filter q (filter p xs)
filter_both p q [] = refl
filter_both p q (x ∷ xs) = by_tests (p x) (q x) x _ _ (filter_both p q xs) ∙ sym (cond_filter q (p x) x (filter p xs))

pub carried_all : (but : Option ℕ) (sent : Sent) → carried_but but sent ≡ carried_of but (handles_of sent.sending)
carried_all but sent = sym (filter_both is_client (λ number. not (is_it but number)) (handles_of sent.sending))

-- ---- an entry that carries one endpoint, or nothing

carried_alone : (object : ℕ) (sent : Sent) → handles_of sent.sending ≡ object ∷ [] → is_client object ≡ true → carried_but (Some object) sent ≡ []
carried_alone object sent is client =
    ap (λ (numbers : List ℕ). filter (λ number. not (is_it (Some object) number)) (filter is_client numbers)) is
    ∙ ap (λ (b : Bool). filter (λ number. not (is_it (Some object) number)) (cond b (object ∷ []) [])) client
    ∙ ap (λ (b : Bool). cond (not b) (object ∷ []) []) (eq-eqb object object refl)

no_tokens : (object : ℕ) (sent : Sent) → handles_of sent.sending ≡ object ∷ [] → is_client object ≡ true → tokens_in sent ≡ []
no_tokens object sent is client =
    ap (λ (numbers : List ℕ). filter (λ number. not (is_client number)) numbers) is ∙ ap (λ (b : Bool). cond (not b) (object ∷ []) []) client

none_carried : (one : Option ℕ) (sent : Sent) → handles_of sent.sending ≡ [] → carried_but one sent ≡ []
none_carried one sent none = ap (λ (numbers : List ℕ). filter (λ number. not (is_it one number)) (filter is_client numbers)) none

nothing_spent : (sent : Sent) → handles_of sent.sending ≡ [] → tokens_in sent ≡ []
nothing_spent sent none = ap (λ (numbers : List ℕ). filter (λ number. not (is_client number)) numbers) none

pub quiet_stays : (sent : Sent) → handles_of sent.sending ≡ [] → IsQuiet sent fates.Stays
quiet_stays sent none = record { first = none_carried None sent none; tokens = nothing_spent sent none; here = refl }

pub quiet_binds : (sent : Sent) (object : ℕ) → handles_of sent.sending ≡ object ∷ [] → is_client object ≡ true → IsQuiet sent (fates.Binds object)
quiet_binds sent object is client = record { first = carried_alone object sent is client; tokens = no_tokens object sent is client; here = refl }

pub lone_gives : (sent : Sent) (token : ℕ) → handles_of sent.sending ≡ [] → IsLoneGift sent (fates.Gives token)
lone_gives sent token none = record { first = none_carried None sent none; tokens = nothing_spent sent none; sends = refl }

-- a token is no endpoint
pub lone_spends : (sent : Sent) (token : ℕ) → handles_of sent.sending ≡ token ∷ [] → is_client token ≡ false → IsLoneToken sent fates.Stays token
lone_spends sent token is client = record {
  first =
      ap (λ (numbers : List ℕ). filter (λ number. not (is_it None number)) (filter is_client numbers)) is
      ∙ ap (λ (b : Bool). filter (λ number. not (is_it None number)) (cond b (token ∷ []) [])) client;
  tokens =
      ap (λ (numbers : List ℕ). filter (λ number. not (is_client number)) numbers) is ∙ ap (λ (b : Bool). cond (not b) (token ∷ []) []) client;
  here = refl;
}

pub lone_ends : (sent : Sent) → handles_of sent.sending ≡ [] → IsLoneEnd sent fates.Ends sent.endpoint
lone_ends sent none = record {
  first = ap (λ (others : List ℕ). sent.endpoint ∷ others) (none_carried (Some sent.endpoint) sent none);
  told = refl;
  tokens = nothing_spent sent none;
  here = refl;
}

pub lone_refuses : (sent : Sent) (object : ℕ) → handles_of sent.sending ≡ object ∷ [] → is_client object ≡ true → IsLoneRefusal sent (fates.Refuses object) object
lone_refuses sent object is client = record {
  lone = record {
    first = ap (λ (others : List ℕ). object ∷ others) (carried_alone object sent is client);
    told = refl;
    tokens = no_tokens object sent is client;
    here = refl;
  };
  refuses = refl;
  carried =
      ap (λ (numbers : List ℕ). among object (filter is_client numbers)) is
      ∙ ap (λ (b : Bool). among object (cond b (object ∷ []) [])) client
      ∙ ap (λ (b : Bool). b || false) (eq-eqb object object refl);
}

-- ---- with one more handle

carried_next : (but : Option ℕ) (handles : List Handle) (at n : ℕ) (d : Handle) → at < length handles → n ≡ number_of_handle (get_or handles at d) →
    carried_of but (numbers_of (take (at + 1) handles)) ≡ carried_of but (numbers_of (take at handles)) ++ cond (is_client n && not (is_it but n)) (n ∷ []) []
carried_next but handles at n d within is =
    ap (λ (taken : List Handle). carried_of but (numbers_of taken)) (take_more handles at d within)
    ∙ ap (carried_of but) (map-append number_of_handle (take at handles) (get_or handles at d ∷ []))
    ∙ filter-append (λ number. is_client number && not (is_it but number)) (numbers_of (take at handles)) (number_of_handle (get_or handles at d) ∷ [])
    ∙ ap (λ (m : ℕ). carried_of but (numbers_of (take at handles)) ++ cond (is_client m && not (is_it but m)) (m ∷ []) []) (sym is)

pub carried_with : (but : Option ℕ) (handles : List Handle) (at n : ℕ) (d : Handle) (before kept more : List ℕ) → at < length handles → n ≡ number_of_handle (get_or handles at d) →
    is_client n ≡ true → is_it but n ≡ false → kept ≡ before ++ carried_of but (numbers_of (take at handles)) → more ≡ kept ++ n ∷ [] →
    more ≡ before ++ carried_of but (numbers_of (take (at + 1) handles))
carried_with but handles at n d before kept more within is client other so longer =
    longer ∙ ap (λ (xs : List ℕ). xs ++ n ∷ []) so ∙ append_assoc before (carried_of but (numbers_of (take at handles))) (n ∷ [])
    ∙ ap (λ (xs : List ℕ). before ++ xs)
    (sym (carried_next but handles at n d within is
    ∙ ap (λ (a : Bool). carried_of but (numbers_of (take at handles)) ++ cond (a && not (is_it but n)) (n ∷ []) []) client
    ∙ ap (λ (b : Bool). carried_of but (numbers_of (take at handles)) ++ cond (not b) (n ∷ []) []) other))

pub carried_without : (but : Option ℕ) (handles : List Handle) (at n : ℕ) (d : Handle) (before kept more : List ℕ) → at < length handles → n ≡ number_of_handle (get_or handles at d) →
    (is_client n && not (is_it but n)) ≡ false → kept ≡ before ++ carried_of but (numbers_of (take at handles)) → more ≡ kept →
    more ≡ before ++ carried_of but (numbers_of (take (at + 1) handles))
carried_without but handles at n d before kept more within is none so same =
    same ∙ so
    ∙ ap (λ (xs : List ℕ). before ++ xs)
    (sym (carried_next but handles at n d within is
    ∙ ap (λ (b : Bool). carried_of but (numbers_of (take at handles)) ++ cond b (n ∷ []) []) none
    ∙ append-nil (carried_of but (numbers_of (take at handles)))))

pub not_both : (a b : Bool) → a ≡ true → b ≡ true → (a && not b) ≡ false
not_both true true p q = refl
not_both true false p q = cc
not_both false b p q = refl

pub not_one : (a b : Bool) → a ≡ false → (a && b) ≡ false
not_one false b p = refl
not_one true b p = cc
