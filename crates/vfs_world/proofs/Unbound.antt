-- An endpoint that is bound nowhere dies alone while nothing waits.
use Rattle.std.proofs.Common.{◌≡◌, ℕ, ◌==◌, ◌||◌, Bool, true, false, cond, if◌then◌else◌, All, List, [], ◌∷◌, ◌++◌, length, Option, None, Some, refl, sym, ap, ◌∙◌, subst, arith}
use Rattle.std.specs.Prelude.{flat_map, sum_by}
use Rattle.std.specs.FinMap as finite
use Rattle.std.specs.FinMap.Entries as entry
use Rattle.std.specs.Map.{values_of}
use Rattle.std.specs.Option.{option_map_or}
use Rattle.std.specs.Ordering.{eq_by_cmp, nat_cmp}
use Rattle.std.proofs.lemmas.Bool.{eqb-true}
use Rattle.std.proofs.lemmas.List.Elements.{All-nil}
use Rattle.std.proofs.lemmas.List.Sums.{sum_by-cons}
use Rattle.link_admission.specs.Numbering.{among}
use Rattle.link_admission.specs.Standings.{Known, ended}
use Rattle.vfs_journal.specs.Entries.{Sent, endpoints_in, tokens_in}
use Rattle.message_queues.specs.Dying.{AreDeaths, Buries, HasAll}
use Rattle.message_queues.specs.Queues.{Mailbox, Queues, count, queue_of, server_of}
use Rattle.vfs_world.specs.Heads.{DiesAlone, IsUnbound}
use Rattle.vfs_world.specs.World.{World}
use Rattle.vfs_world.proofs.LettingGo.{all_stay}

-- ---- where none are counted, nothing waits on any endpoint

none_of : (ones : List Sent) → length ones ≡ 0 → ones ≡ []
none_of [] e = refl
none_of (one ∷ ones) e = absurd (omega (arith, e))

idle_in : (entries : List (ℕ × Mailbox)) (n : ℕ) → sum_by (λ box. length box.queue) (values_of entries) ≡ 0 → option_map_or (λ box. box.queue) (entry.find nat_cmp n entries) [] ≡ []
idle_in [] n none = refl
idle_in (e ∷ entries) n none =
    let parts = sum_by-cons (λ (box : Mailbox). length box.queue) e.1 (values_of entries) in
    by_test (eq_by_cmp nat_cmp n e.0) (none_of e.1.queue (omega (arith, none, parts))) (idle_in entries n (omega (arith, none, parts))) where
      by_test : (b : Bool) → e.1.queue ≡ [] → option_map_or (λ box. box.queue) (entry.find nat_cmp n entries) [] ≡ [] →
          option_map_or (λ (box : Mailbox). box.queue) (cond b (Some e.1) (entry.find nat_cmp n entries)) [] ≡ []
      by_test true here later = here
      by_test false here later = later

idle : (queues : Queues) → count queues ≡ 0 → (n : ℕ) → queue_of queues n ≡ []
idle queues none n =
    ap (λ (box : Option Mailbox). option_map_or (λ box. box.queue) box []) (finite.get-entries queues.boxes n) ∙ idle_in (finite.entries queues.boxes) n none

-- ---- one endpoint

pub alone : (queues : Queues) (d : ℕ) → count queues ≡ 0 → AreDeaths queues (d ∷ []) (d ∷ [])
alone queues d none = record {
  first = λ n h. h;
  closed = λ n h. subst (All (λ sent. HasAll (λ endpoint. among endpoint (d ∷ [])) (endpoints_in sent))) (sym (idle queues none n)) (All-nil (λ sent. HasAll (λ endpoint. among endpoint (d ∷ [])) (endpoints_in sent)));
  least = λ set first closed n h. first n h;
  once = λ i j x a b. absurd (omega arith);
}

buried : (queues : Queues) (d : ℕ) → count queues ≡ 0 → server_of queues d ≡ None → Buries queues (d ∷ []) queues
buried queues d none free = record {
  waiting = λ n. queue_by (among n (d ∷ [])) (queue_of queues n) (idle queues none n);
  bound = λ n. bound_by n (d == n) refl;
  those = refl;
} where
  queue_by : (b : Bool) (queue : List Sent) → queue ≡ [] → queue ≡ (if b then [] else queue)
  queue_by true queue e = e
  queue_by false queue e = refl

  bound_by : (n : ℕ) (b : Bool) → (d == n) ≡ b → server_of queues n ≡ (if b || false then None else server_of queues n)
  bound_by n true e = ap (server_of queues) (sym (eqb-true d n e)) ∙ free
  bound_by n false e = refl

pub dies_unbound : (old : World) (known : Known) (d : ℕ) → count old.queues ≡ 0 → IsUnbound old d → known ≡ ended old.known d → DiesAlone old d (record old { known = known })
dies_unbound old known d none free is = record {
  died = alone old.queues d none;
  buried = buried old.queues d none free.waiting;
  tokens = ap (λ (queue : List Sent). flat_map tokens_in queue ++ []) (idle old.queues none d);
  goes = λ view apart h. all_stay view old.servers d apart free.servers h;
  known = is;
  count = refl;
  places = refl;
}
