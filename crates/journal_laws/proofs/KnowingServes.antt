-- What is known behind a serving's deaths, and at the start.
use Rattle.std.proofs.Common.{◌≡◌, ℕ, ◌-◌, ◌==◌, ◌&&◌, ◌||◌, Bool, true, false, not, nat_le, List, [], ◌∷◌, ◌++◌, length, map, filter, fold, Option, Some, None, refl, sym, ap, ◌∙◌, if◌then◌else◌, arith, append-nil, length-append}
use Rattle.std.specs.Prelude.{unwrap_or}
use Rattle.std.proofs.lemmas.List.{length-map, map-append}
use Rattle.std.specs.Ordering.{nat_cmp}
use Rattle.std.specs.FinMap as finite
use Rattle.std.specs.FinMap.{get-empty}
use Rattle.link_admission.specs.declared.kinds.Standing.{Standing}
use Rattle.link_admission.specs.declared.kinds.Standing.TheVariants as standing
use Rattle.fidl_names.specs.HandleNumber.{is_mount_end}
use Rattle.link_admission.specs.Numbering.{among}
use Rattle.link_admission.specs.Standings.{Known, Starts, is_live as is_live_standing, standing_of as known_standing, ended as ended_in}
use Rattle.vfs_journal.specs.Entries.{Sent, Journal}
use Rattle.vfs_journal.specs.History.{births, living, is_dead, is_live, hung_up}
use Rattle.journal_laws.specs.Knowing.{Knows, IsNumbered, AreDeaths, deaths_at}
use Rattle.vfs_journal.specs.Lawful.{Lawful}
use Rattle.vfs_journal.specs.Past.{history_of}
use Rattle.vfs_journal.specs.Session.{head, after_serving}
use Rattle.journal_laws.specs.Soundness.{IsStart}
use Rattle.vfs_journal.specs.Starts.{Bound, Start}
use Rattle.journal_laws.proofs.Below.{Below}
use Rattle.journal_laws.proofs.Kept.{lawful_kept}
use Rattle.journal_laws.proofs.KnowingCount.{named_is_bound, mounts_among, deaths_apart, fewer_live}
use Rattle.journal_laws.proofs.KnowingLists.{or-none, apart_pairs, ends_of}
use Rattle.journal_laws.proofs.KnowingSent.{stands, stands_then}
use Rattle.journal_laws.proofs.KnowingServed.{after_served, lives_undead}
use Rattle.journal_laws.proofs.Sound.{view, bound_in}
use Rattle.journal_laws.proofs.Spreading.{among-append}
use Rattle.journal_laws.proofs.Stepping.{stepped}
use Rattle.journal_laws.proofs.Views.{is_view}

-- ---- the deaths of a serving

death_stands : (d l c m : Bool) → stands (m || d) (l && not m) c ≡ (if m then standing.Dead else stands d l c)
death_stands d l c true = refl
death_stands d true c false = refl
death_stands d false c false = refl

-- what lives and isn't dead is live
lives_so : {dead live : Bool} (closed' : Bool) → dead ≡ false → live ≡ true → is_live_standing (stands dead live closed') ≡ true
lives_so closed' p q = rw (p, q, either closed') where
  either : (c : Bool) → is_live_standing (if c then standing.HungUp else standing.Live) ≡ true
  either true = refl
  either false = refl

pub servings_end : Below → (start : Start) (journal : Journal) (sent : Sent) → IsStart start → Lawful start journal → head start (history_of start journal) sent.endpoint ≡ Some sent →
    AreDeaths start (history_of start journal) (history_of start (after_serving start journal sent)) (deaths_at start journal sent)
servings_end below start journal sent s lawful h =
    let past = history_of start journal in
    let now = history_of start (after_serving start journal sent) in
    let deaths = deaths_at start journal sent in
    let after = after_served below start journal sent s lawful h in
    let transit = (lawful_kept below start s journal lawful).transit in
    let is = is_view start journal (stepped start journal lawful) in
    record {
      distinct = apart_pairs deaths (deaths_apart below start journal sent s lawful h);
      were_live = λ n h. lives_so (hung_up past n) (lives_undead start (view start past) n is transit (after.died n h)) (after.died n h);
      stand = λ n.
          ap (λ (b : Bool). stands b (is_live start now n) (hung_up now n)) (after.dead n)
          ∙ ap (λ (b : Bool). stands (among n deaths || is_dead past n) b (hung_up now n)) (after.live n)
          ∙ ap (λ (b : Bool). stands (among n deaths || is_dead past n) (is_live start past n && not (among n deaths)) b) (after.closed n)
          ∙ death_stands (is_dead past n) (is_live start past n) (hung_up past n) (among n deaths);
      count = fewer_live below start journal sent s lawful h;
    }

-- ---- what is known behind deaths

pub ended_standing : (deaths : List ℕ) (known : Known) (n : ℕ) → known_standing (fold ended_in known deaths) n ≡ (if among n deaths then standing.Dead else known_standing known n)
ended_standing [] known n = refl
ended_standing (e ∷ deaths) known n =
    ended_standing deaths (ended_in known e) n
    ∙ ap (λ (x : Standing). if among n deaths then standing.Dead else x) (stands_then known.standings e n standing.Dead)
    ∙ either (among n deaths) (e == n) where
      either : (b c : Bool) → (if b then standing.Dead else if c then standing.Dead else known_standing known n) ≡ (if c || b then standing.Dead else known_standing known n)
      either true true = refl
      either true false = refl
      either false true = refl
      either false false = refl

pub ended_live : (deaths : List ℕ) (known : Known) → (fold ended_in known deaths).live ≡ known.live - length deaths
ended_live [] known = omega arith
ended_live (e ∷ deaths) known = let rest = ended_live deaths (ended_in known e) in omega arith

-- the tokens, and the servers, are as they were
pub record IsSame (old new : Known) : Type 0 where
  pub tokens : new.tokens ≡ old.tokens
  pub out : new.out ≡ old.out
  pub next : new.next ≡ old.next
  pub servers : new.servers ≡ old.servers

pub ended_same : (deaths : List ℕ) (known : Known) → IsSame known (fold ended_in known deaths)
ended_same [] known = record { tokens = refl; out = refl; next = refl; servers = refl }
ended_same (e ∷ deaths) known =
    let rest = ended_same deaths (ended_in known e) in
    record { tokens = rest.tokens; out = rest.out; next = rest.next; servers = rest.servers }

-- ---- at the start

all_kept : {X : Type 0} (xs : List X) → filter (λ x. true) xs ≡ xs
all_kept [] = refl
all_kept {X} (x ∷ xs) = ap (λ (ys : List X). x ∷ ys) (all_kept xs)

first_living : (start : Start) → living start [] ≡ start.firsts ++ start.mounts
first_living start = all_kept (births start []) ∙ append-nil (start.firsts ++ start.mounts)

first_live : (start : Start) (n : ℕ) → IsNumbered start → (among n (ends_of start.firsts) || is_mount_end (length start.mounts) n) ≡ is_live start [] n
first_live start n numbered =
    ap (λ (b : Bool). among n (ends_of start.firsts) || b) (sym (mounts_among start n numbered.mounts))
    ∙ sym (among-append n (ends_of start.firsts) (ends_of start.mounts))
    ∙ ap (among n) (sym (map-append (λ (bound : Bound). bound.endpoint) start.firsts start.mounts))
    ∙ named_is_bound (start.firsts ++ start.mounts) n
    ∙ ap (λ bounds. bound_in bounds n) (sym (first_living start))
    ∙ sym (or-none (bound_in (living start []) n))

pub starts_known : (start : Start) (known : Known) → IsNumbered start → Starts (map (λ bound. bound.endpoint) start.firsts) (length start.mounts) (length start.trees) known → Knows start [] known
starts_known start known numbered h = record {
  standing = λ n. h.standing n ∙ ap (λ (b : Bool). if b then standing.Live else standing.Unused) (first_live start n numbered);
  live =
      let a = h.live in
      let b = length-map start.firsts (λ (bound : Bound). bound.endpoint) in
      let c = ap length (first_living start) in
      let d = length-append start.firsts start.mounts in
      omega arith;
  waiting = h.waiting;
  servers = h.servers;
  holds = λ n.
      ap (λ (tokens : finite.FinMap nat_cmp Bool). unwrap_or (finite.get tokens n) false) h.tokens
      ∙ ap (λ (o : Option Bool). unwrap_or o false) (get-empty nat_cmp n);
  next =
      ap (λ (out : ℕ). if nat_le 4096 out || nat_le 0x100000000 known.next then None else Some known.next) h.out
      ∙ ap (λ (next : ℕ). if nat_le 4096 0 || nat_le 0x100000000 next then None else Some next) h.next;
  tokens = λ n. ap (λ (tokens : finite.FinMap nat_cmp Bool). finite.get tokens n) h.tokens ∙ get-empty nat_cmp n;
  out = h.out;
  given = h.next;
}
