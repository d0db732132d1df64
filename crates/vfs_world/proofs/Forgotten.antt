-- Tokens are forgotten one after another, each at one server after another.
use Rattle.std.proofs.Common.{◌≡◌, ◌≢◌, ℕ, zero, suc, ◌+◌, ◌<◌, ◌≤◌, ◌⊎◌, Bool, true, false, not, cond, append-nil, List, [], ◌∷◌, ◌++◌, length, get_or, take, drop, fold, filter, Some, set, inl, inr, refl, sym, ap, ◌∙◌, subst, arith, length-set}
use Rattle.std.specs.FinMap as finite
use Rattle.std.specs.Prelude.{slice_get}
use Rattle.std.proofs.lemmas.List.{map_more, take_more}
use Rattle.std.proofs.lemmas.List.Elements.{filter-append}
use Rattle.std.proofs.lemmas.Option.{same_Some, slice_get_within}
use Rattle.fidl_names.specs.declared.methods.Handle.{Handle}
use Rattle.fidl_names.specs.HandleNumber.{is_client, number_of_handle}
use Rattle.link_admission.specs.Standings.{Known, gone}
use Rattle.vfs_journal.specs.Handles.{numbers_of}
use Rattle.vfs_server.specs.Binding.{Forgets}
use Rattle.vfs_server.specs.Servers.{Server}
use Rattle.vfs_world.specs.ServingSteps.{CanGo, ForgetsAll, ForgetsEach}
use Rattle.vfs_world.proofs.EachServer.{set_cases}

-- ---- one token, at one server after another

-- the servers before a place have forgotten it, and the others are as they were
pub record AreHalfForgotten (old : List Server) (token at : ℕ) (new : List Server) : Type 0 where
  pub many : length new ≡ length old
  pub before : (index : ℕ) (one now : Server) → index < at → slice_get old index ≡ Some one → slice_get new index ≡ Some now → Forgets one token now
  pub later : (index : ℕ) (now : Server) → at ≤ index → slice_get new index ≡ Some now → slice_get old index ≡ Some now

pub none_forgotten : (servers : List Server) (token : ℕ) → AreHalfForgotten servers token 0 servers
none_forgotten servers token = record {
  many = refl;
  before = λ index one now low e f. absurd (omega (arith, low));
  later = λ index now high e. e;
}

pub one_forgotten : (old : List Server) (token at : ℕ) (servers : List Server) (one now : Server) → AreHalfForgotten old token at servers → slice_get servers at ≡ Some one → Forgets one token now → AreHalfForgotten old token (at + 1) (set servers at now)
one_forgotten old token at servers one now h there forgets = record {
  many = length-set servers at now ∙ h.many;
  before = λ index was is low e f. by_before index was is low e (set_cases servers at now index is f);
  later = λ index is high f. by_later index is high (set_cases servers at now index is f);
} where
  by_before : (index : ℕ) (was is : Server) → index < at + 1 → slice_get old index ≡ Some was → ((index ≡ at) × (is ≡ now)) ⊎ ((index ≢ at) × (slice_get servers index ≡ Some is)) → Forgets was token is
  by_before index was is low e (inl f) =
      let same : one ≡ was = same_Some one was (sym (h.later at one (omega arith) there) ∙ ap (slice_get old) (sym f.0) ∙ e) in
      subst (λ (s : Server). Forgets was token s) (sym f.1) (subst (λ (s : Server). Forgets s token now) same forgets)
  by_before index was is low e (inr f) = h.before index was is (less index low f.0) e f.1 where
    less : (i : ℕ) → i < at + 1 → i ≢ at → i < at
    less i low apart = omega (arith, low, apart)

  by_later : (index : ℕ) (is : Server) → at + 1 ≤ index → ((index ≡ at) × (is ≡ now)) ⊎ ((index ≢ at) × (slice_get servers index ≡ Some is)) → slice_get old index ≡ Some is
  by_later index is high (inl f) = absurd (let e = f.0 in omega (arith, high, e))
  by_later index is high (inr f) = h.later index is (omega (arith, high)) f.1

pub each_forgotten : (old : List Server) (token at : ℕ) (servers : List Server) → length servers ≤ at → AreHalfForgotten old token at servers → ForgetsEach old token servers
each_forgotten old token at servers over h = record {
  many = h.many;
  each = λ index one now e f. let within = slice_get_within servers index now f in h.before index one now (omega (arith, over, within)) e f;
}

-- ---- many tokens

pub all_then : (old mid new : List Server) (tokens more : List ℕ) → ForgetsAll old tokens mid → ForgetsAll mid more new → ForgetsAll old (tokens ++ more) new
all_then old mid new [] more same rest = subst (λ (s : List Server). ForgetsAll s more new) same rest
all_then old mid new (token ∷ tokens) more h rest = (h.0, (h.1.0, all_then h.0 mid new tokens more h.1.1 rest))

one_then : (old mid new : List Server) (tokens : List ℕ) (token : ℕ) → ForgetsAll old tokens mid → ForgetsEach mid token new → ForgetsAll old (tokens ++ token ∷ []) new
one_then old mid new tokens token h last = all_then old mid new tokens (token ∷ []) h (new, (last, refl))

pub gone_then : (tokens more : List ℕ) (known : Known) → fold gone known (tokens ++ more) ≡ fold gone (fold gone known tokens) more
gone_then [] more known = refl
gone_then (token ∷ tokens) more known = gone_then tokens more (gone known token)

-- ---- one of them after another

drop_next : {X : Type 0} (xs : List X) (i : ℕ) (d : X) → i < length xs → drop i xs ≡ get_or xs i d ∷ drop (i + 1) xs
drop_next [] i d low = absurd (omega (arith, low))
drop_next (x ∷ xs) zero d low = refl
drop_next {X} (x ∷ xs) (suc i) d low = let next : suc (i + 1) ≡ suc i + 1 = omega arith in drop_next xs i d (omega (arith, low)) ∙ ap (λ (n : ℕ). get_or xs i d ∷ drop n (x ∷ xs)) next

-- tokens that are gone over, with what is left of them
pub record AreGoing (old : List Server) (first : Known) (done left : List ℕ) (servers : List Server) (now : Known) : Type 0 where
  pub out : CanGo now left
  pub forgets : ForgetsAll old done servers
  pub known : now ≡ fold gone first done

pub none_gone : (servers : List Server) (known : Known) (tokens : List ℕ) → CanGo known tokens → AreGoing servers known [] tokens servers known
none_gone servers known tokens out = record { out = out; forgets = refl; known = refl }

pub next_out : (old : List Server) (known : Known) (tokens : List ℕ) (i token : ℕ) (servers : List Server) (now : Known) → i < length tokens → token ≡ get_or tokens i 0 → AreGoing old known (take i tokens) (drop i tokens) servers now →
    finite.get now.tokens token ≡ Some false
next_out old known tokens i token servers now within is h =
    subst (λ (n : ℕ). finite.get now.tokens n ≡ Some false) (sym is) (subst (CanGo now) (drop_next tokens i 0 within) h.out).0

one_goes : (old : List Server) (known : Known) (done left : List ℕ) (token : ℕ) (servers new : List Server) (now : Known) → AreGoing old known done (token ∷ left) servers now → ForgetsEach servers token new →
    AreGoing old known (done ++ token ∷ []) left new (gone now token)
one_goes old known done left token servers new now h f = record {
  out = h.out.1;
  forgets = one_then old servers new done token h.forgets f;
  known = ap (λ (k : Known). gone k token) h.known ∙ sym (gone_then done (token ∷ []) known);
}

pub next_goes : (old : List Server) (known : Known) (tokens : List ℕ) (i token : ℕ) (servers new : List Server) (now then : Known) → i < length tokens → token ≡ get_or tokens i 0 → AreGoing old known (take i tokens) (drop i tokens) servers now →
    ForgetsEach servers token new → then ≡ gone now token → AreGoing old known (take (i + 1) tokens) (drop (i + 1) tokens) new then
next_goes old known tokens i token servers new now then within is h f e =
    let more : take i tokens ++ token ∷ [] ≡ take (i + 1) tokens = ap (λ (n : ℕ). take i tokens ++ n ∷ []) is ∙ sym (take_more tokens i 0 within) in
    let here : AreGoing old known (take i tokens) (token ∷ drop (i + 1) tokens) servers now =
    subst (λ (left : List ℕ). AreGoing old known (take i tokens) left servers now) (drop_next tokens i 0 within ∙ ap (λ (n : ℕ). n ∷ drop (i + 1) tokens) (sym is)) h in
    subst (λ (k : Known). AreGoing old known (take (i + 1) tokens) (drop (i + 1) tokens) new k) (sym e)
    (subst (λ (done : List ℕ). AreGoing old known done (drop (i + 1) tokens) new (gone now token)) more
    (one_goes old known (take i tokens) (drop (i + 1) tokens) token servers new now here f))

-- ---- the tokens among the handles of an entry

abbrev pub tokens_of : List Handle → List ℕ
tokens_of handles = filter (λ number. not (is_client number)) (numbers_of handles)

module _ (handles : List Handle) (i : ℕ) (d : Handle) (number : ℕ) (within : i < length handles) (is : number ≡ number_of_handle (get_or handles i d)) where
  with_token : (b : Bool) → is_client number ≡ b → (rest : List ℕ) → cond (not (is_client (number_of_handle (get_or handles i d)))) (number_of_handle (get_or handles i d) ∷ rest) rest ≡ cond (not b) (number ∷ rest) rest
  with_token b e rest = ap (λ (n : ℕ). cond (not (is_client n)) (n ∷ rest) rest) (sym is) ∙ ap (λ (c : Bool). cond (not c) (number ∷ rest) rest) e

  -- what is gone over, and what is left
  done_more : (b : Bool) → is_client number ≡ b → tokens_of (take (i + 1) handles) ≡ tokens_of (take i handles) ++ cond (not b) (number ∷ []) []
  done_more b e =
      ap (filter (λ number. not (is_client number))) (map_more number_of_handle handles i d within)
      ∙ filter-append (λ number. not (is_client number)) (numbers_of (take i handles)) (number_of_handle (get_or handles i d) ∷ [])
      ∙ ap (λ (ns : List ℕ). tokens_of (take i handles) ++ ns) (with_token b e [])

  left_more : (b : Bool) → is_client number ≡ b → tokens_of (drop i handles) ≡ cond (not b) (number ∷ tokens_of (drop (i + 1) handles)) (tokens_of (drop (i + 1) handles))
  left_more b e = ap tokens_of (drop_next handles i d within) ∙ with_token b e (tokens_of (drop (i + 1) handles))

  module _ (old : List Server) (known : Known) (servers : List Server) (now : Known) (h : AreGoing old known (tokens_of (take i handles)) (tokens_of (drop i handles)) servers now) where
    here : (b : Bool) → is_client number ≡ b → AreGoing old known (tokens_of (take i handles)) (cond (not b) (number ∷ tokens_of (drop (i + 1) handles)) (tokens_of (drop (i + 1) handles))) servers now
    here b e = subst (λ (left : List ℕ). AreGoing old known (tokens_of (take i handles)) left servers now) (left_more b e) h

    pub handle_out : is_client number ≡ false → finite.get now.tokens number ≡ Some false
    handle_out e = (here false e).out.0

    pub handle_goes : (new : List Server) (then : Known) → is_client number ≡ false → ForgetsEach servers number new → then ≡ gone now number → AreGoing old known (tokens_of (take (i + 1) handles)) (tokens_of (drop (i + 1) handles)) new then
    handle_goes new then e f g =
        subst (λ (k : Known). AreGoing old known (tokens_of (take (i + 1) handles)) (tokens_of (drop (i + 1) handles)) new k) (sym g)
        (subst (λ (done : List ℕ). AreGoing old known done (tokens_of (drop (i + 1) handles)) new (gone now number)) (sym (done_more false e))
        (one_goes old known (tokens_of (take i handles)) (tokens_of (drop (i + 1) handles)) number servers new now (here false e) f))

    pub handle_stays : is_client number ≡ true → AreGoing old known (tokens_of (take (i + 1) handles)) (tokens_of (drop (i + 1) handles)) servers now
    handle_stays e =
        subst (λ (done : List ℕ). AreGoing old known done (tokens_of (drop (i + 1) handles)) servers now) (sym (done_more true e ∙ append-nil (tokens_of (take i handles)))) (here true e)

-- servers and what is known that are the same
pub still_going : (old : List Server) (known : Known) (done left : List ℕ) (servers other : List Server) (now then : Known) → other ≡ servers → then ≡ now → AreGoing old known done left servers now → AreGoing old known done left other then
still_going old known done left servers other now then same is h =
    subst (λ (k : Known). AreGoing old known done left other k) (sym is) (subst (λ (s : List Server). AreGoing old known done left s now) (sym same) h)

-- ---- two parts

pub both_out : (tokens more : List ℕ) (known : Known) → CanGo known (tokens ++ more) → CanGo known tokens × CanGo (fold gone known tokens) more
both_out [] more known out = (tt, out)
both_out (token ∷ tokens) more known out = let rest = both_out tokens more (gone known token) out.1 in ((out.0, rest.0), rest.1)
