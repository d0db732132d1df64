-- A frame of the script is sent: what is known of calls behind it.
use Rattle.std.proofs.Common.{◌≡◌, ℕ, ◌<◌, ◌≤◌, ◌+◌, Bool, true, false, cond, List, [], ◌∷◌, Option, Some, None, Result, Ok, Err, OnOk, refl, sym, ap, ◌∙◌, subst, arith, add-zero}
use Rattle.std.specs.Prelude.{◌&&◌, ◌||◌, ◌==◌, is_some}
use Rattle.std.specs.FinMap as finite
use Rattle.std.specs.FinSet as set
use Rattle.std.proofs.lemmas.Bool.{eqb-true}
use Rattle.fidl_names.specs.declared.methods.Method.{Method}
use Rattle.io_client.specs.Calls.{Calls, call_at, call_cmp, is_waiting, is_watched, noted, none_yet, with_watched}
use Rattle.vfs_script.specs.Noting.{IsFree, with_noted}
use Rattle.vfs_script.specs.declared.calls.Call.{Call}
use Rattle.script_session.specs.Answering.{Past, sends, count_answers, count_calls, is_call, is_open, is_watch_of, one_of, was_watched}
use Rattle.script_session.specs.Telling.{IsOver, IsWithin, Knows, last_of}
use Rattle.script_session.proofs.Keys.{one_more, waits_more, watched_more}

or_false : (a b : Bool) → a || b ≡ false → b ≡ false
or_false true b h = cc
or_false false b h = h

-- the calls that wait are those of the call's own table
kept_waiting : (calls : Calls) (watcher : Option ℕ) → (with_watched calls watcher).waiting ≡ calls.waiting
kept_waiting calls None = refl
kept_waiting calls (Some watcher) = refl

watched_by : (calls : Calls) (endpoint txid : ℕ) (method : Method) (watcher : Option ℕ) (e : ℕ) →
    is_watched (noted calls endpoint txid method watcher) e ≡ is_watch_of e (Some (record { endpoint = endpoint; txid = txid; method = method; watcher = watcher })) || is_watched calls e
watched_by calls endpoint txid method None e = refl
watched_by calls endpoint txid method (Some watcher) e = watched_more calls.watched watcher e

module _ (past : Past) (calls : Calls) (call : Call) (knows : Knows past calls) (free : call_at calls call.endpoint call.txid ≡ None) where
  abbrev then_ : Calls
  then_ = noted calls call.endpoint call.txid call.method call.watcher

  table : then_.waiting ≡ finite.insert calls.waiting (call.endpoint, call.txid) call.method
  table = kept_waiting (record calls { waiting = finite.insert calls.waiting (call.endpoint, call.txid) call.method }) call.watcher

  waits : (e x : ℕ) → was_watched (sends (Some call) ∷ past) e ≡ false → is_waiting then_ e x ≡ is_open (sends (Some call) ∷ past) e x
  waits e x h =
      ap (λ w. is_some (finite.get w (e, x))) table
      ∙ waits_more calls.waiting call.endpoint call.txid e x call.method
      ∙ ap (λ b. ((e == call.endpoint) && (x == call.txid)) || b) (knows.waits e x (or_false (is_watch_of e (Some call)) (was_watched past e) h))

  counted : finite.len then_.waiting + count_answers past ≡ count_calls past + 1
  counted =
      let more = one_more calls.waiting call.endpoint call.txid call.method free in
      let same = ap finite.len table in
      let before = knows.count in
      omega (arith, more, same, before)

  call_known : Knows (sends (Some call) ∷ past) then_
  call_known = record {
    watched = λ e. watched_by calls call.endpoint call.txid call.method call.watcher e ∙ ap (λ b. is_watch_of e (Some call) || b) (knows.watched e);
    waits = waits;
    count = counted;
  }

-- what is known behind a line
sent_known : (past : Past) (calls : Calls) (call : Option Call) → Knows past calls → IsFree calls (Some call) → Knows (sends call ∷ past) (with_noted calls (Some call))
sent_known past calls None knows free = record {
  watched = knows.watched;
  waits = knows.waits;
  count = knows.count ∙ sym (add-zero (count_calls past));
}
sent_known past calls (Some call) knows free = call_known past calls call knows free

-- ---- which calls wait

low_or : (low txid x : ℕ) (here there : Bool) → here || there ≡ true → (here ≡ true → x ≤ txid) → (there ≡ true → x ≤ low) → low < txid → x ≤ txid
low_or low txid x true there h this that up = this refl
low_or low txid x false there h this that up = let below = that h in omega (arith, below, up)

and_right : (a b : Bool) → a && b ≡ true → b ≡ true
and_right true b h = h
and_right false b h = cc

-- no more than before and one more, none of them with a higher transaction id than the last call
call_within : (low most : ℕ) (calls : Calls) (call : Call) → low < call.txid → call_at calls call.endpoint call.txid ≡ None → IsWithin low most calls →
    IsWithin call.txid (most + 1) (noted calls call.endpoint call.txid call.method call.watcher)
call_within low most calls call up free within =
    let table = kept_waiting (record calls { waiting = finite.insert calls.waiting (call.endpoint, call.txid) call.method }) call.watcher in
    record {
      below = λ e x h.
          low_or low call.txid x ((e == call.endpoint) && (x == call.txid)) (is_waiting calls e x)
          (sym (waits_more calls.waiting call.endpoint call.txid e x call.method) ∙ sym (ap (λ w. is_some (finite.get w (e, x))) table) ∙ h)
          (λ here. let same = eqb-true x call.txid (and_right (e == call.endpoint) (x == call.txid) here) in omega (arith, same))
          (within.below e x) up;
      few =
          let more = one_more calls.waiting call.endpoint call.txid call.method free in
          let same = ap finite.len table in
          let few = within.few in
          omega (arith, more, same, few);
    }

sent_within : (low most : ℕ) (calls : Calls) (call : Option Call) → IsOver low call → IsFree calls (Some call) → IsWithin low most calls →
    IsWithin (last_of low call) (most + one_of call) (with_noted calls (Some call))
sent_within low most calls None up free within = record { below = within.below; few = let few = within.few in omega (arith, few) }
sent_within low most calls (Some call) up free within = call_within low most calls call up free within

-- ---- answers

module _ (old new : Calls) (at : Option (Option Call)) (call : Option Call) (is : at ≡ Some call) (free : IsFree old at) where
  free_there : IsFree old (Some call)
  free_there = subst (IsFree old) is free

  same : new ≡ with_noted old at → with_noted old (Some call) ≡ new
  same noted = ap (with_noted old) (sym is) ∙ sym noted

  pub answer_known : {X E : Type 0} (past : Past) (r : Result X E) → OnOk r (new ≡ with_noted old at) → Knows past old → OnOk r (Knows (sends call ∷ past) new)
  answer_known past (Ok x) noted knows = subst (Knows (sends call ∷ past)) (same noted) (sent_known past old call knows free_there)
  answer_known past (Err e) noted knows = tt

  pub answer_within : {X E : Type 0} (low most : ℕ) (r : Result X E) → OnOk r (new ≡ with_noted old at) → IsOver low call → IsWithin low most old →
      OnOk r (IsWithin (last_of low call) (most + one_of call) new)
  answer_within low most (Ok x) noted up within = subst (IsWithin (last_of low call) (most + one_of call)) (same noted) (sent_within low most old call up free_there within)
  answer_within low most (Err e) noted up within = tt
