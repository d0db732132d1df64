-- What is known behind a serving: its deaths, the tokens that are gone, the one that is given, and what waits.
use Rattle.std.proofs.Common.{◌≡◌, ◌≢◌, ℕ, ◌+◌, ◌-◌, ◌<◌, ◌≤◌, ◌==◌, ◌&&◌, ◌||◌, ◌⊎◌, Bool, true, false, cond, not, is_some, List, [], ◌∷◌, ◌++◌, length, map, fold, option_to_list, Option, Some, None, AllPairs, Contains, refl, sym, ap, ◌∙◌, subst, inl, inr, if◌then◌else◌, arith, length-append}
use Rattle.std.specs.Prelude.{unwrap_or}
use Rattle.std.specs.List.{list_any}
use Rattle.std.specs.FinMap as finite
use Rattle.std.specs.FinMap.{get-insert, get-remove}
use Rattle.std.specs.Ordering.{nat_cmp, eq_by_cmp}
use Rattle.std.proofs.lemmas.Bool.{and_from, and_parts, cases_Bool, eq-eqb, eqb-true, false_from_ne_true, or_cases, or_right, true≢false}
use Rattle.std.proofs.lemmas.Bool.Decides.{nat_tests}
use Rattle.std.proofs.lemmas.Cmp.{nat_cmp_total}
use Rattle.std.proofs.lemmas.List.{length-map}
use Rattle.std.proofs.lemmas.List.Elements.{All-contains}
use Rattle.std.proofs.lemmas.List.Folds.{list_any-append}
use Rattle.std.proofs.lemmas.List.Kept.{AllPairs-filter}
use Rattle.fidl_names.specs.HandleNumber.{is_client}
use Rattle.fidl_names.specs.declared.limits.TheConstants as limit
use Rattle.link_admission.specs.declared.kinds.Standing.{Standing}
use Rattle.link_admission.specs.declared.kinds.Standing.TheVariants as standing
use Rattle.link_admission.specs.Numbering.{among}
use Rattle.link_admission.specs.Standings.{Known, standing_of as known_standing, ended as ended_in, given, gone}
use Rattle.vfs_journal.specs.Entries.{Sent, Journal, message, handles_of, serves}
use Rattle.vfs_journal.specs.Deaths.{deaths_of}
use Rattle.vfs_journal.specs.History.{History, all_sent, waiting, was_carried}
use Rattle.vfs_journal.specs.Lawful.{Lawful}
use Rattle.vfs_journal.specs.Lawful as lawful
use Rattle.vfs_journal.specs.Outcomes.{Forwarded, Given, Outcome}
use Rattle.vfs_journal.specs.Past.{behind, history_of}
use Rattle.vfs_journal.specs.Serving.{outcome_of}
use Rattle.vfs_journal.specs.Session.{after_serving, head, sent_behind, with_forward}
use Rattle.vfs_journal.specs.Starts.{Start}
use Rattle.vfs_journal.specs.Tokens.{all_given, is_held, tokens_out, waits_with, was_given}
use Rattle.vfs_journal.specs.View.{View, deaths_in, event_in, head_in, onward_in, outcome_in, serving_in, then_in}
use Rattle.journal_laws.specs.Choosing.{IsListOf}
use Rattle.journal_laws.specs.Knowing.{Knows, known_served, spent_in, token_out}
use Rattle.journal_laws.specs.Soundness.{IsStart}
use Rattle.journal_laws.specs.Viewing.{view_behind}
use Rattle.journal_laws.proofs.Among.{among_of, carried_is, member_of, one_passes, passes_any}
use Rattle.journal_laws.proofs.Below.{Below}
use Rattle.journal_laws.proofs.KnowingCount.{same_bool}
use Rattle.journal_laws.proofs.Fits.{views_fit}
use Rattle.journal_laws.proofs.Kept.{is_serving, lawful_kept, one_handle}
use Rattle.journal_laws.proofs.KnowingLists.{Apart, apart_append, apart_one, no_more, from_pairs}
use Rattle.journal_laws.proofs.KnowingSent.{no_token}
use Rattle.journal_laws.proofs.KnowingServes.{ended_live, ended_same, ended_standing, servings_end}
use Rattle.journal_laws.proofs.KnowingTokens.{holds_from, next_from, out_of}
use Rattle.journal_laws.proofs.Lists.{pairs-head, pairs-tail}
use Rattle.journal_laws.proofs.LookedUp.{is_first}
use Rattle.journal_laws.proofs.Members.{contains_map, mapped_member, kept, kept_of}
use Rattle.journal_laws.proofs.Places.{waits_of_sent}
use Rattle.journal_laws.proofs.Spent.{carry, spent_by, spent_waits, waits_unspent}
use Rattle.journal_laws.proofs.Spreading.{among-append}
use Rattle.journal_laws.proofs.Stepping.{stepped}
use Rattle.journal_laws.proofs.Steps.{sendings_wait_last, servings_take_effect}
use Rattle.journal_laws.proofs.TokensGiven.{lawful_given, next_is_length}
use Rattle.journal_laws.proofs.ViewLaws.{brings_new, served_behind_viewed}
use Rattle.journal_laws.proofs.ViewParts.{deaths_are, head_is_in, outcome_is_in}

-- ---- lists of numbers

-- two lists that are apart and have the same members are equally long
pub as_long : (xs ys : List ℕ) → Apart xs → Apart ys → ((n : ℕ) → among n xs ≡ among n ys) → length xs ≡ length ys
as_long xs ys a b same =
    let up = no_more xs ys a (λ n h. sym (same n) ∙ h) in
    let down = no_more ys xs b (λ n h. same n ∙ h) in
    omega (arith, up, down)

-- ---- what is known when tokens are gone

number_test : (a b : ℕ) → eq_by_cmp nat_cmp a b ≡ (b == a)
number_test a b = grind (arith, nat_tests)

record IsGone (known : Known) (spent : List ℕ) (new : Known) : Type 0 where
  standings : new.standings ≡ known.standings
  live : new.live ≡ known.live
  tokens : (n : ℕ) → finite.get new.tokens n ≡ (if among n spent then None else finite.get known.tokens n)
  out : new.out ≡ known.out - length spent
  next : new.next ≡ known.next
  servers : new.servers ≡ known.servers

are_gone : (spent : List ℕ) (known : Known) → IsGone known spent (fold gone known spent)
are_gone [] known = record { standings = refl; live = refl; tokens = λ n. refl; out = omega arith; next = refl; servers = refl }
are_gone (t ∷ spent) known =
    let rest = are_gone spent (gone known t) in
    record {
      standings = rest.standings;
      live = rest.live;
      tokens = λ n.
          rest.tokens n
          ∙ ap (λ (o : Option Bool). if among n spent then None else o) (get-remove nat_cmp_total known.tokens t n ∙ ap (λ (b : Bool). cond b None (finite.get known.tokens n)) (number_test n t))
          ∙ either (among n spent) (t == n) (finite.get known.tokens n);
      out = let more = rest.out in omega (arith, more);
      next = rest.next;
      servers = rest.servers;
    } where
      either : (b c : Bool) (o : Option Bool) → (if b then None else cond c None o) ≡ (if c || b then None else o)
      either true true o = refl
      either true false o = refl
      either false true o = refl
      either false false o = refl

-- one token more, or none
abbrev given_if : Option Given → Known → Known
given_if token known = if is_some token then given known else known

abbrev pub is_given_now : Option Given → ℕ → Bool
is_given_now token n = list_any (λ (g : Given). g.token == n) (option_to_list token)

record IsGiven (known : Known) (token : Option Given) (new : Known) : Type 0 where
  standings : new.standings ≡ known.standings
  live : new.live ≡ known.live
  tokens : (n : ℕ) → finite.get new.tokens n ≡ (if is_given_now token n then Some true else finite.get known.tokens n)
  out : new.out ≡ known.out + length (option_to_list token)
  next : new.next ≡ known.next + length (option_to_list token)
  servers : new.servers ≡ known.servers

is_given : (token : Option Given) (known : Known) → ((g : Given) → token ≡ Some g → g.token ≡ known.next) → IsGiven known token (given_if token known)
is_given None known next = record { standings = refl; live = refl; tokens = λ n. refl; out = omega arith; next = omega arith; servers = refl }
is_given (Some g) known next = record {
  standings = refl;
  live = refl;
  tokens = λ n.
      get-insert nat_cmp_total known.tokens known.next true n
      ∙ ap (λ (b : Bool). cond b (Some true) (finite.get known.tokens n)) (number_test n known.next ∙ ap (λ (m : ℕ). m == n) (sym (next g refl)) ∙ sym (or_no (g.token == n)));
  out = refl;
  next = refl;
  servers = refl;
} where
  or_no : (b : Bool) → (b || false) ≡ b
  or_no true = refl
  or_no false = refl

-- ---- what looking back says of tokens then

abbrev pub Precedes : Given → Given → Type 0
Precedes one later = one.token < later.token

pub record IsTold (past now : History) (token : Option Given) (spent : ℕ → Bool) : Type 0 where
  pub given : all_given now ≡ all_given past ++ option_to_list token
  pub carried : (n : ℕ) → is_client n ≡ false → was_carried now n ≡ was_carried past n
  pub waits : (n : ℕ) → is_client n ≡ false → waits_with now n ≡ (waits_with past n && not (spent n))
  pub gone : (n : ℕ) → spent n ≡ true → (is_client n ≡ false) × (was_given past n ≡ true) × (waits_with past n ≡ true)
  pub waiting_carried : (n : ℕ) → waits_with past n ≡ true → was_carried past n ≡ true
  pub next : (g : Given) → token ≡ Some g → g.token ≡ limit.FIRST_TOKEN + length (all_given past)
  pub fresh : (g : Given) → token ≡ Some g → (was_given past g.token ≡ false) × (was_carried past g.token ≡ false)
  pub clients_past : (n : ℕ) → is_client n ≡ true → was_given past n ≡ false
  pub clients_now : (n : ℕ) → is_client n ≡ true → was_given now n ≡ false
  pub rise_past : AllPairs (λ one later. one.token < later.token) (all_given past)
  pub rise_now : AllPairs (λ one later. one.token < later.token) (all_given now)

pub given_now : (past now : History) (token : Option Given) (spent : ℕ → Bool) → IsTold past now token spent → (n : ℕ) → was_given now n ≡ (was_given past n || is_given_now token n)
given_now past now token spent told n = ap (list_any (λ g. g.token == n)) told.given ∙ list_any-append (λ (g : Given). g.token == n) (all_given past) (option_to_list token)

-- of the token that is given
the_given : (token : Option Given) (n : ℕ) → is_given_now token n ≡ true → (g : Given) × (token ≡ Some g) × (g.token ≡ n)
the_given None n h = absurd (true≢false (sym h))
the_given (Some g) n h = (g, refl, by_side (or_cases (g.token == n) false h)) where
  by_side : ((g.token == n) ≡ true) ⊎ (false ≡ true) → g.token ≡ n
  by_side (inl e) = eqb-true g.token n e
  by_side (inr e) = absurd (true≢false (sym e))

new_uncarried : (past now : History) (token : Option Given) (spent : ℕ → Bool) → IsTold past now token spent → (n : ℕ) → is_given_now token n ≡ true → (was_given past n ≡ false) × (was_carried past n ≡ false)
new_uncarried past now token spent told n h =
    let at = the_given token n h in
    let fresh = told.fresh at.0 at.1 in
    (subst (λ (m : ℕ). was_given past m ≡ false) at.2 fresh.0, subst (λ (m : ℕ). was_carried past m ≡ false) at.2 fresh.1)

out_then : (g t c w s : Bool) → (t ≡ true → c ≡ false) → (s ≡ true → (g ≡ true) × (c ≡ true)) → out_of (g || t) c (w && not s) ≡ (if t then Some true else if s then None else out_of g c w)
out_then true true false w s new spent = refl
out_then false true false w s new spent = refl
out_then g true true w s new spent = absurd (true≢false (new refl))
out_then true false true true true new spent = refl
out_then true false true false true new spent = refl
out_then false false c w true new spent = absurd (true≢false (sym (spent refl).0))
out_then true false false w true new spent = absurd (true≢false (sym (spent refl).1))
out_then true false c true false new spent = refl
out_then true false c false false new spent = refl
out_then false false c w false new spent = refl

none_so : (b : Bool) → b ≡ false → (c w : Bool) → out_of b c w ≡ None
none_so false e c w = refl
none_so true e c w = absurd (true≢false e)

-- whether it is a client's number
data IsNumber (n : ℕ) : Type 0 where
  client : is_client n ≡ true → IsNumber n
  other : is_client n ≡ false → IsNumber n

number_is : (n : ℕ) → IsNumber n
number_is n = by_test (cases_Bool (is_client n)) where
  by_test : (is_client n ≡ true) ⊎ (is_client n ≡ false) → IsNumber n
  by_test (inl e) = client e
  by_test (inr e) = other e

never_given : (past now : History) (token : Option Given) (spent : ℕ → Bool) → IsTold past now token spent → (n : ℕ) → is_client n ≡ true → is_given_now token n ≡ false
never_given past now token spent told n c = by_or (was_given past n) (is_given_now token n) (sym (given_now past now token spent told n) ∙ told.clients_now n c) where
  by_or : (a b : Bool) → (a || b) ≡ false → b ≡ false
  by_or false b e = e
  by_or true b e = absurd (true≢false e)

never_spent : (past now : History) (token : Option Given) (spent : ℕ → Bool) → IsTold past now token spent → (n : ℕ) → is_client n ≡ true → spent n ≡ false
never_spent past now token spent told n c = false_from_ne_true (spent n) (λ h. true≢false (sym c ∙ (told.gone n h).0))

token_told : (past now : History) (token : Option Given) (spent : ℕ → Bool) → IsTold past now token spent → (n : ℕ) → (if is_given_now token n then Some true else if spent n then None else token_out past n) ≡ token_out now n
token_told past now token spent told n = by_kind (number_is n) where
  by_kind : IsNumber n → (if is_given_now token n then Some true else if spent n then None else token_out past n) ≡ token_out now n
  by_kind (client c) =
      ap (λ (b : Bool). if b then Some true else if spent n then None else token_out past n) (never_given past now token spent told n c)
      ∙ ap (λ (b : Bool). if b then None else token_out past n) (never_spent past now token spent told n c)
      ∙ none_so (was_given past n) (told.clients_past n c) (was_carried past n) (waits_with past n)
      ∙ sym (none_so (was_given now n) (told.clients_now n c) (was_carried now n) (waits_with now n))
  by_kind (other o) =
      sym (out_then (was_given past n) (is_given_now token n) (was_carried past n) (waits_with past n) (spent n) (λ h. (new_uncarried past now token spent told n h).1)
      (λ h. let at = told.gone n h in (at.1, told.waiting_carried n at.2)))
      ∙ ap (λ (g : Bool). out_of g (was_carried past n) (waits_with past n && not (spent n))) (sym (given_now past now token spent told n))
      ∙ ap (λ (c : Bool). out_of (was_given now n) c (waits_with past n && not (spent n))) (sym (told.carried n o))
      ∙ ap (λ (w : Bool). out_of (was_given now n) (was_carried now n) w) (sym (told.waits n o))

-- ---- how many are out

abbrev pub out_numbers : History → List ℕ
out_numbers history = map (λ g. g.token) (tokens_out history)

abbrev pub is_out : History → ℕ → Bool
is_out history n = is_held history n || waits_with history n

pub number_out : (history : History) (n : ℕ) → among n (out_numbers history) ≡ (was_given history n && is_out history n)
number_out history n =
    same_bool (among n (out_numbers history)) (was_given history n && is_out history n)
    (λ h.
    let at = mapped_member (λ (g : Given). g.token) n (tokens_out history) (member_of n (out_numbers history) h) in
    let parts = kept_of (λ (g : Given). is_out history g.token) (all_given history) at.0 at.1 in
    and_from (was_given history n) (is_out history n) (passes_any (λ (g : Given). g.token == n) (all_given history) at.0 parts.0 (eq-eqb at.0.token n at.2)) (ap (is_out history) (sym at.2) ∙ parts.1))
    (λ h.
    let parts = and_parts (was_given history n) (is_out history n) h in
    let one = one_passes (λ (g : Given). g.token == n) (all_given history) parts.0 in
    let at = eqb-true one.0.token n one.2 in
    among_of n (out_numbers history) (subst (Contains (out_numbers history)) at
    (contains_map (λ (g : Given). g.token) (tokens_out history) one.0 (kept (λ (g : Given). is_out history g.token) (all_given history) one.0 one.1 (ap (is_out history) at ∙ parts.1)))))

-- tokens that rise are apart
pub rising_apart : (gs : List Given) → AllPairs (λ one later. one.token < later.token) gs → Apart (map (λ g. g.token) gs)
rising_apart [] h = tt
rising_apart (g ∷ gs) h = (
  false_from_ne_true (among g.token (map (λ (x : Given). x.token) gs)) (λ there.
      let at = mapped_member (λ (x : Given). x.token) g.token gs (member_of g.token (map (λ (x : Given). x.token) gs) there) in
      let after : g.token < at.0.token = All-contains (λ (x : Given). g.token < x.token) gs at.0 (pairs-head Precedes g gs h) at.1 in
      let equal : at.0.token ≡ g.token = at.2 in
      omega (arith, after, equal)),
  rising_apart gs (pairs-tail Precedes g gs h),
)

pub out_apart : (history : History) → AllPairs (λ one later. one.token < later.token) (all_given history) → Apart (out_numbers history)
out_apart history h = rising_apart (tokens_out history) (AllPairs-filter Precedes (λ (g : Given). is_out history g.token) (all_given history) h)

abbrev pub given_numbers : Option Given → List ℕ
given_numbers token = map (λ g. g.token) (option_to_list token)

pub given_among : (token : Option Given) (n : ℕ) → among n (given_numbers token) ≡ is_given_now token n
given_among None n = refl
given_among (Some g) n = refl

pub given_apart : (token : Option Given) → Apart (given_numbers token)
given_apart None = tt
given_apart (Some g) = apart_one g.token

abbrev counted : Bool → Bool → Bool → Bool
counted g c w = g && ((g && not c) || w)

same_counted : (g t c w s : Bool) → (t ≡ true → (g ≡ false) × (c ≡ false)) → (w ≡ true → c ≡ true) → (s ≡ true → (g ≡ true) × (w ≡ true)) → (counted (g || t) c (w && not s) || s) ≡ (counted g c w || t)
same_counted true true c w s new w_c spent = absurd (true≢false (new refl).0)
same_counted false true true w s new w_c spent = absurd (true≢false (new refl).1)
same_counted false true false true s new w_c spent = absurd (true≢false (sym (w_c refl)))
same_counted false true false false s new w_c spent = refl
same_counted false false c w true new w_c spent = absurd (true≢false (sym (spent refl).0))
same_counted true false c false true new w_c spent = absurd (true≢false (sym (spent refl).1))
same_counted true false false true true new w_c spent = absurd (true≢false (sym (w_c refl)))
same_counted true false true true true new w_c spent = refl
same_counted false false c w false new w_c spent = refl
same_counted true false true true false new w_c spent = refl
same_counted true false true false false new w_c spent = refl
same_counted true false false true false new w_c spent = refl
same_counted true false false false false new w_c spent = refl

spent_uncounted : (g t c w s : Bool) → (t ≡ true → (g ≡ false) × (c ≡ false)) → (w ≡ true → c ≡ true) → s ≡ true → (g ≡ true) × (w ≡ true) → counted (g || t) c (w && not s) ≡ false
spent_uncounted g t c w false new w_c e spent = absurd (true≢false (sym e))
spent_uncounted false t c w true new w_c e spent = absurd (true≢false (sym spent.0))
spent_uncounted true t c false true new w_c e spent = absurd (true≢false (sym spent.1))
spent_uncounted true t false true true new w_c e spent = absurd (true≢false (sym (w_c refl)))
spent_uncounted true true true true true new w_c e spent = absurd (true≢false (new refl).0)
spent_uncounted true false true true true new w_c e spent = refl

module _ (past now : History) (token : Option Given) (spent : List ℕ) (told : IsTold past now token (λ n. among n spent)) where
  fresh_parts : (n : ℕ) → is_given_now token n ≡ true → (was_given past n ≡ false) × (was_carried past n ≡ false)
  fresh_parts n h = new_uncarried past now token (λ m. among m spent) told n h

  gone_parts : (n : ℕ) → among n spent ≡ true → (was_given past n ≡ true) × (waits_with past n ≡ true)
  gone_parts n h = let at = told.gone n h in (at.1, at.2)

  -- of no client's number
  counted_now : (n : ℕ) → is_client n ≡ false → among n (out_numbers now) ≡ counted (was_given past n || is_given_now token n) (was_carried past n) (waits_with past n && not (among n spent))
  counted_now n o =
      number_out now n
      ∙ ap (λ (g : Bool). counted g (was_carried now n) (waits_with now n)) (given_now past now token (λ m. among m spent) told n)
      ∙ ap (λ (c : Bool). counted (was_given past n || is_given_now token n) c (waits_with now n)) (told.carried n o)
      ∙ ap (λ (w : Bool). counted (was_given past n || is_given_now token n) (was_carried past n) w) (told.waits n o)

  never_out : (history : History) (n : ℕ) → was_given history n ≡ false → among n (out_numbers history) ≡ false
  never_out history n none = number_out history n ∙ ap (λ (g : Bool). g && is_out history n) none

  same_numbers : (n : ℕ) → among n (out_numbers now ++ spent) ≡ among n (out_numbers past ++ given_numbers token)
  same_numbers n =
      among-append n (out_numbers now) spent ∙ by_kind (number_is n)
      ∙ sym (among-append n (out_numbers past) (given_numbers token) ∙ ap (λ (b : Bool). among n (out_numbers past) || b) (given_among token n)) where
        by_kind : IsNumber n → (among n (out_numbers now) || among n spent) ≡ (among n (out_numbers past) || is_given_now token n)
        by_kind (client c) =
            ap (λ (b : Bool). b || among n spent) (never_out now n (told.clients_now n c))
            ∙ never_spent past now token (λ m. among m spent) told n c
            ∙ sym (ap (λ (b : Bool). b || is_given_now token n) (never_out past n (told.clients_past n c)) ∙ never_given past now token (λ m. among m spent) told n c)
        by_kind (other o) =
            ap (λ (b : Bool). b || among n spent) (counted_now n o)
            ∙ same_counted (was_given past n) (is_given_now token n) (was_carried past n) (waits_with past n) (among n spent) (fresh_parts n) (told.waiting_carried n) (gone_parts n)
            ∙ ap (λ (b : Bool). b || is_given_now token n) (sym (number_out past n))

  apart_now : Apart spent → Apart (out_numbers now ++ spent)
  apart_now apart =
      apart_append (out_numbers now) spent (out_apart now told.rise_now) apart
      (λ n h. false_from_ne_true (among n spent) (λ g.
      true≢false (sym h ∙ counted_now n (told.gone n g).0
      ∙ spent_uncounted (was_given past n) (is_given_now token n) (was_carried past n) (waits_with past n) (among n spent) (fresh_parts n) (told.waiting_carried n) g (gone_parts n g))))

  apart_past : Apart (out_numbers past ++ given_numbers token)
  apart_past =
      apart_append (out_numbers past) (given_numbers token) (out_apart past told.rise_past) (given_apart token)
      (λ n h. false_from_ne_true (among n (given_numbers token)) (λ g.
      true≢false (sym h ∙ never_out past n (fresh_parts n (sym (given_among token n) ∙ g)).0)))

  spent_out : (n : ℕ) → among n spent ≡ true → among n (out_numbers past) ≡ true
  spent_out n h =
      let at = gone_parts n h in
      number_out past n ∙ and_from (was_given past n) (is_out past n) at.0 (or_right (is_held past n) (waits_with past n) at.1)

  -- as many are out as were, with the one that is given, but for those that are gone
  pub count_told : Apart spent → (length (tokens_out now) + length spent ≡ length (tokens_out past) + length (option_to_list token)) × (length spent ≤ length (tokens_out past))
  count_told apart =
      let same = as_long (out_numbers now ++ spent) (out_numbers past ++ given_numbers token) (apart_now apart) apart_past same_numbers in
      let few = no_more spent (out_numbers past) apart spent_out in
      let a = length-append (out_numbers now) spent in
      let b = length-append (out_numbers past) (given_numbers token) in
      let c = length-map (tokens_out now) (λ (g : Given). g.token) in
      let d = length-map (tokens_out past) (λ (g : Given). g.token) in
      let e = length-map (option_to_list token) (λ (g : Given). g.token) in
      (omega (arith, same, a, b, c, d, e), omega (arith, few, d))

-- ---- behind a serving

carry_onward : (view : View) (sent : Sent) (o : Option Forwarded) (n : ℕ) → ((f : Forwarded) → o ≡ Some f → among n (f.object ∷ []) ≡ false) → carry n (onward_in view sent o).waiting ≡ carry n view.waiting
carry_onward view sent None n apart = refl
carry_onward view sent (Some f) n apart =
    list_any-append (λ (one : Sent). among n (handles_of one.sending)) view.waiting _
    ∙ ap (λ (b : Bool). carry n view.waiting || (b || false)) (apart f refl)
    ∙ or_none (carry n view.waiting) where
      or_none : (b : Bool) → (b || (false || false)) ≡ b
      or_none true = refl
      or_none false = refl

given_onward : (view : View) (sent : Sent) (o : Option Forwarded) → (onward_in view sent o).given ≡ view.given
given_onward view sent None = refl
given_onward view sent (Some f) = refl

carried_then : (start : Start) (journal : Journal) (sent : Sent) (n : ℕ) (o : Option Forwarded) → ((f : Forwarded) → o ≡ Some f → among n (f.object ∷ []) ≡ false) →
    was_carried (history_of start (with_forward sent.place (serves sent ∷ journal) o)) n ≡ was_carried (history_of start journal) n
unfolding history_of
carried_then start journal sent n None apart = (servings_take_effect start (history_of start journal) sent).carried n
carried_then start journal sent n (Some f) apart =
    let past = history_of start journal in
    let mid = behind start (serves sent) past in
    let new = sent_behind (serves sent ∷ journal) f.endpoint (message f.bytes (f.object ∷ [])) (Some sent.place) in
    (sendings_wait_last start mid new).carried n
    ∙ ap (λ (b : Bool). was_carried mid n || b) (apart f refl)
    ∙ or_none (was_carried mid n)
    ∙ (servings_take_effect start past sent).carried n where
      or_none : (b : Bool) → (b || false) ≡ b
      or_none true = refl
      or_none false = refl

pub told_behind : Below → (start : Start) (journal : Journal) (sent : Sent) (spent : List ℕ) → IsStart start → Lawful start journal → head start (history_of start journal) sent.endpoint ≡ Some sent →
    ((n : ℕ) → among n spent ≡ among n (spent_in (view_behind start journal) sent)) →
    IsTold (history_of start journal) (history_of start (after_serving start journal sent)) (outcome_in (view_behind start journal) sent).token (λ n. among n spent)
told_behind below start journal sent spent s h first same =
    let past = history_of start journal in
    let after = after_serving start journal sent in
    let now = history_of start after in
    let view = view_behind start journal in
    let mid = serving_in view sent (event_in view sent) in
    let on = (outcome_in view sent).forward in
    let on_is : (outcome_of start past sent).forward ≡ on = ap (λ (o : Outcome). o.forward) (outcome_is_in start past sent) in
    let token_is_in : (outcome_of start past sent).token ≡ (outcome_in view sent).token = ap (λ (o : Outcome). o.token) (outcome_is_in start past sent) in
    let seen = served_behind_viewed below start journal sent s h first in
    let fit = views_fit below start journal s h in
    let first_in : head_in view sent.endpoint ≡ Some sent = sym (head_is_in start past sent.endpoint) ∙ first in
    let waits = (is_first view sent first_in).waits in
    let kept = lawful_kept below start s journal h in
    let later = lawful.served journal sent h first in
    let kept_now = lawful_kept below start s after later in
    let tokens_past = lawful_given below start s journal h in
    let serving' = is_serving below start journal sent s (stepped start journal h) kept.sound first in
    let object_apart = λ (n : ℕ) (o : is_client n ≡ false) (f : Forwarded) (e : on ≡ Some f).
    false_from_ne_true (among n (f.object ∷ [])) (λ there.
    true≢false (sym (carried_is sent f.object ((fit.heads sent first_in).sends_on f e)).0 ∙ ap is_client (sym (one_handle n f.object there)) ∙ o)) in
    let carried_waits = λ (n : ℕ) (w : waits_with past n ≡ true).
    let one = one_passes (λ (x : Sent). among n (handles_of x.sending)) (waiting past) w in
    passes_any (λ (x : Sent). among n (handles_of x.sending)) (all_sent past) one.0 (waits_of_sent past one.0 one.1) one.2 in
    let next = λ (g : Given) (e : (outcome_in view sent).token ≡ Some g). next_is_length past g.token (serving'.parts.token_next g (token_is_in ∙ e)) in
    record {
      given = ap (λ (v : View). v.given) seen ∙ given_onward mid sent on;
      carried = λ n o.
          ap (λ (x : Option Forwarded). was_carried (history_of start (with_forward sent.place (serves sent ∷ journal) x)) n) on_is
          ∙ carried_then start journal sent n on (object_apart n o);
      waits = λ n o.
          ap (λ (v : View). carry n v.waiting) seen
          ∙ carry_onward mid sent on n (object_apart n o)
          ∙ waits_unspent view sent n fit first_in o
          ∙ ap (λ (b : Bool). carry n view.waiting && not b) (sym (same n));
      gone = λ n g.
          let by = spent_by view sent n waits (sym (same n) ∙ g) in
          let w = spent_waits view sent n waits (sym (same n) ∙ g) in
          (by.other, was_given_by past n by.other (carried_waits n w) (tokens_past.given n) ((kept.sound.right by.one (waits_of_sent past by.one by.waits)).handles n by.carries), w);
      waiting_carried = carried_waits;
      next = next;
      fresh = λ g e. (
        false_from_ne_true (was_given past g.token) (λ there.
            let one = one_passes (λ (x : Given). x.token == g.token) (all_given past) there in
            let low : one.0.token < limit.FIRST_TOKEN + length (all_given past) = All-contains (λ x. x.token < limit.FIRST_TOKEN + length (all_given past)) (all_given past) one.0 tokens_past.below one.1 in
            let at = eqb-true one.0.token g.token one.2 in
            let is = next g e in
            omega (arith, low, at, is)),
        (brings_new below start journal sent s h first).uncarried g (token_is_in ∙ e),
      );
      clients_past = λ n c. no_token start past n kept.sound c;
      clients_now = λ n c. no_token start now n kept_now.sound c;
      rise_past = tokens_past.rise;
      rise_now = (lawful_given below start s after later).rise;
    } where
      was_given_by : (past : History) (n : ℕ) → is_client n ≡ false → was_carried past n ≡ true → (limit.FIRST_TOKEN ≤ n → was_carried past n ≡ true → was_given past n ≡ true) → (is_client n ≡ true) ⊎ (0x80000000 ≤ n) → was_given past n ≡ true
      was_given_by past n apart carried from (inl c) = absurd (true≢false (sym c ∙ apart))
      was_given_by past n apart carried from (inr high) = from high carried

pub servings_keep : Below → (start : Start) (journal : Journal) (sent : Sent) (known : Known) (deaths spent : List ℕ) → IsStart start → Lawful start journal →
    head start (history_of start journal) sent.endpoint ≡ Some sent → Knows start (history_of start journal) known →
    IsListOf (deaths_in (view_behind start journal) sent) deaths → IsListOf (spent_in (view_behind start journal) sent) spent →
    Knows start (history_of start (after_serving start journal sent))
    (known_served known deaths spent (outcome_in (view_behind start journal) sent).token (length (then_in (view_behind start journal) sent).waiting))
servings_keep below start journal sent known deaths spent s h first k dead gone' =
    let past = history_of start journal in
    let now = history_of start (after_serving start journal sent) in
    let view = view_behind start journal in
    let token = (outcome_in view sent).token in
    let all = deaths_in view sent in
    let deaths_same = deaths_are start past sent in
    let died = servings_end below start journal sent s h first in
    let told = told_behind below start journal sent spent s h first gone'.same in
    let ended' = fold ended_in known deaths in
    let same = ended_same deaths known in
    let spent' = are_gone spent ended' in
    let mid = fold gone ended' spent in
    let given' = is_given token mid (λ g e. told.next g e ∙ sym (spent'.next ∙ same.next ∙ k.given)) in
    let new = known_served known deaths spent token (length (then_in view sent).waiting) in
    let as_many : length deaths ≡ length all =
    as_long deaths all (from_pairs deaths dead.once) (from_pairs all (subst (AllPairs (λ one other. one ≢ other)) deaths_same died.distinct)) dead.same in
    let counts = count_told past now token spent told (from_pairs spent gone'.once) in
    let tokens : (n : ℕ) → finite.get new.tokens n ≡ token_out now n = λ n.
    given'.tokens n
    ∙ ap (λ (o : Option Bool). if is_given_now token n then Some true else o)
    (spent'.tokens n ∙ ap (λ (m : finite.FinMap nat_cmp Bool). if among n spent then None else finite.get m n) same.tokens ∙ ap (λ (o : Option Bool). if among n spent then None else o) (k.tokens n))
    ∙ token_told past now token (λ m. among m spent) told n in
    let out : new.out ≡ length (tokens_out now) =
    (let a = given'.out in let b = spent'.out in let c = same.out in let d = k.out in let e = counts.0 in let f = counts.1 in omega (arith, a, b, c, d, e, f)) in
    let given'' : new.next ≡ limit.FIRST_TOKEN + length (all_given now) =
    (let a = given'.next in let b = spent'.next in let c = same.next in let d = k.given in let e = ap length told.given in let f = length-append (all_given past) (option_to_list token) in omega (arith, a, b, c, d, e, f)) in
    record {
      standing = λ n.
          ap (λ (m : finite.FinMap nat_cmp Standing). unwrap_or (finite.get m n) standing.Unused) (given'.standings ∙ spent'.standings)
          ∙ ended_standing deaths known n
          ∙ ap (λ (b : Bool). if b then standing.Dead else known_standing known n) (dead.same n ∙ ap (among n) (sym deaths_same))
          ∙ ap (λ (x : Standing). if among n (deaths_of past sent (outcome_of start past sent)) then standing.Dead else x) (k.standing n)
          ∙ sym (died.stand n);
      live =
          let a = given'.live in let b = spent'.live in let c = ended_live deaths known in let d = k.live in let e = died.count in let f = as_many in let g = ap length deaths_same in
          omega (arith, a, b, c, d, e, f, g);
      waiting = sym (ap (λ (v : View). length v.waiting) (served_behind_viewed below start journal sent s h first));
      servers = given'.servers ∙ spent'.servers ∙ same.servers ∙ k.servers;
      holds = λ n. holds_from now new n (tokens n);
      next = next_from now new out given'';
      tokens = tokens;
      out = out;
      given = given'';
    }

-- ---- each token that is gone was known to be out

gone_out : (g c w : Bool) → g ≡ true → c ≡ true → w ≡ true → out_of g c w ≡ Some false
gone_out true true true a b d = refl
gone_out false c w a b d = absurd (true≢false (sym a))
gone_out true false w a b d = absurd (true≢false (sym b))
gone_out true true false a b d = absurd (true≢false (sym d))

pub spent_known : Below → (start : Start) (journal : Journal) (sent : Sent) (known : Known) (token : ℕ) → IsStart start → Lawful start journal →
    head start (history_of start journal) sent.endpoint ≡ Some sent → Knows start (history_of start journal) known →
    among token (spent_in (view_behind start journal) sent) ≡ true → finite.get known.tokens token ≡ Some false
spent_known below start journal sent known token s h first k gone' =
    let past = history_of start journal in
    let told = told_behind below start journal sent (spent_in (view_behind start journal) sent) s h first (λ n. refl) in
    let at = told.gone token gone' in
    k.tokens token ∙ gone_out (was_given past token) (was_carried past token) (waits_with past token) at.1 (told.waiting_carried token at.2) at.2
