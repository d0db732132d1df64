-- What entries carry, as it is added to those who die.
use Rattle.std.proofs.Common.{◌≡◌, ℕ, ◌+◌, ◌<◌, List, [], ◌∷◌, ◌++◌, get_or, length, take, sym, ap, ◌∙◌, subst, arith, length-append}
use Rattle.std.specs.Prelude.{None, Some, flat_map, slice_get}
use Rattle.std.proofs.lemmas.Grind.{flat_map-append}
use Rattle.std.proofs.lemmas.List.{flat_map_more, take-append-le, take_all, take_more}
use Rattle.std.proofs.lemmas.Option.{get_or_from_slice_get}
use Rattle.vfs_journal.specs.Entries.{Sent, endpoints_in, tokens_in}
use Rattle.message_queues.specs.Queues.{Queues, queue_of}
use Rattle.message_queues.specs.Dying.{tokens_on}
use Rattle.message_queues.specs.Steps.{Adds, Doomed, Gathers}
use Rattle.message_queues.proofs.PutBehind.{put_none}
use Rattle.message_queues.proofs.Spread.{IsSpread, adds_more, adds_none, adds_skip, append_both, append_nil, beyond, place_append, place_below, spread_first, spread_more}

pub gathers_none : (old : Doomed) → Gathers [] old old
gathers_none old = record { found = adds_none old.found; tokens = put_none old.tokens }

pub gathers_one : (sent : Sent) (old new : Doomed) → Adds (endpoints_in sent) old.found new.found → new.tokens ≡ old.tokens ++ tokens_in sent → Gathers (sent ∷ []) old new
gathers_one sent old new found tokens = record { found = adds_skip (endpoints_in sent) old.found new.found found; tokens = tokens ∙ ap (λ (ns : List ℕ). old.tokens ++ ns) (sym (append_nil (tokens_in sent))) }

pub gathers_more : (one other : List Sent) (old mid new : Doomed) → Gathers one old mid → Gathers other mid new → Gathers (one ++ other) old new
gathers_more one other old mid new first then = record {
  found = subst (λ (ns : List ℕ). Adds ns old.found new.found) (sym (flat_map-append endpoints_in one other)) (adds_more (flat_map endpoints_in one) (flat_map endpoints_in other) old.found mid.found new.found first.found then.found);
  tokens = then.tokens ∙ ap (λ (ns : List ℕ). ns ++ flat_map tokens_in other) first.tokens ∙ append_both old.tokens (flat_map tokens_in one) (flat_map tokens_in other)
      ∙ ap (λ (ns : List ℕ). old.tokens ++ ns) (sym (flat_map-append tokens_in one other));
}

pub gathers_step : (entries : List Sent) (i : ℕ) (sent : Sent) (old mid new : Doomed) → i < length entries → Gathers (take i entries) old mid → Gathers (get_or entries i sent ∷ []) mid new → Gathers (take (i + 1) entries) old new
gathers_step entries i sent old mid new low before now =
    subst (λ (sents : List Sent). Gathers sents old new) (sym (take_more entries i sent low)) (gathers_more (take i entries) (get_or entries i sent ∷ []) old mid new before now)

-- who dies was found so far, with the tokens of what waits on the first so many of them
pub record IsGathered (queues : Queues) (firsts : List ℕ) (doomed : Doomed) (done : ℕ) : Type 0 where
  pub spread : IsSpread queues firsts doomed.found done
  pub tokens : doomed.tokens ≡ tokens_on queues (take done doomed.found)

pub gathered_first : (q : Queues) (firsts : List ℕ) (doomed : Doomed) → Adds firsts [] doomed.found → doomed.tokens ≡ [] → IsGathered q firsts doomed 0
gathered_first q firsts doomed adds none = record { spread = spread_first q firsts doomed.found adds; tokens = none }

module _ (q : Queues) (firsts : List ℕ) (doomed new : Doomed) (done endpoint : ℕ) (gathered : IsGathered q firsts doomed done) (at : slice_get doomed.found done ≡ Some endpoint) (gathers : Gathers (queue_of q endpoint) doomed new) where
  low : done < length doomed.found
  low = place_below doomed.found done endpoint at

  one_more : take (done + 1) new.found ≡ take done doomed.found ++ (endpoint ∷ [])
  one_more =
      let more : List ℕ = gathers.found.behind.0 in
      let longer = length-append doomed.found more in
      let below : done < length (doomed.found ++ more) = omega (arith, low, longer) in
      let there : get_or (doomed.found ++ more) done 0 ≡ endpoint = get_or_from_slice_get (doomed.found ++ more) done endpoint 0 (place_append doomed.found more done low ∙ at) in
      ap (λ (ns : List ℕ). take (done + 1) ns) gathers.found.behind.1
      ∙ take_more (doomed.found ++ more) done 0 below
      ∙ ap (λ (ns : List ℕ). ns ++ get_or (doomed.found ++ more) done 0 ∷ []) (take-append-le done doomed.found more (omega (arith, low)))
      ∙ ap (λ (n : ℕ). take done doomed.found ++ n ∷ []) there

  pub gathered_more : IsGathered q firsts new (done + 1)
  gathered_more = record {
    spread = spread_more q firsts doomed.found new.found done endpoint gathered.spread at gathers.found;
    tokens = gathers.tokens
        ∙ ap (λ (ns : List ℕ). ns ++ flat_map tokens_in (queue_of q endpoint)) gathered.tokens
        ∙ flat_map_more (λ (one : ℕ). flat_map tokens_in (queue_of q one)) [] (take done doomed.found) endpoint
        ∙ ap (tokens_on q) (sym one_more);
  }

pub gathered_all : (q : Queues) (firsts : List ℕ) (doomed : Doomed) (done : ℕ) → IsGathered q firsts doomed done → slice_get doomed.found done ≡ None → doomed.tokens ≡ tokens_on q doomed.found
gathered_all q firsts doomed done gathered none = gathered.tokens ∙ ap (tokens_on q) (take_all done doomed.found (beyond doomed.found done none))
