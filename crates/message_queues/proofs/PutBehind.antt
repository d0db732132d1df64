-- What entries carry, put behind what is there already.
use Rattle.std.proofs.Common.{◌≡◌, ℕ, ◌+◌, ◌<◌, Bool, false, true, cond, List, [], ◌∷◌, ◌++◌, get_or, length, take, refl, sym, ap, ◌∙◌}
use Rattle.std.specs.Prelude.{filter, flat_map}
use Rattle.std.proofs.lemmas.List.Concat.{flat_map-cons}
use Rattle.fidl_names.specs.declared.methods.Handle.{Handle}
use Rattle.fidl_names.specs.HandleNumber.{number_of_handle}
use Rattle.vfs_journal.specs.Handles.{numbers_of}
use Rattle.vfs_journal.specs.Entries.{Sent, tokens_in}
use Rattle.message_queues.specs.Dying.{tokens_on}
use Rattle.message_queues.specs.Queues.{Queues, queue_of}
use Rattle.message_queues.proofs.Spread.{append_both, append_nil, numbers_more}

pub put_none : (old : List ℕ) → old ≡ old ++ []
put_none old = sym (append_nil old)

-- one more handle whose number passes a test was put behind, or it doesn't pass
module _ (test : ℕ → Bool) (handles : List Handle) (i number : ℕ) (handle : Handle) (low : i < length handles) (is : number ≡ number_of_handle (get_or handles i handle)) where
  more_by : (b : Bool) → test number ≡ b → filter test (take (i + 1) (numbers_of handles)) ≡ filter test (take i (numbers_of handles)) ++ cond b (number ∷ []) []
  more_by b passes = numbers_more test handles i number handle low is ∙ ap (λ (c : Bool). filter test (take i (numbers_of handles)) ++ cond c (number ∷ []) []) passes

  pub put_passed : (old mid new : List ℕ) → test number ≡ true → mid ≡ old ++ filter test (take i (numbers_of handles)) → new ≡ mid ++ number ∷ [] → new ≡ old ++ filter test (take (i + 1) (numbers_of handles))
  put_passed old mid new passes before now =
      now
      ∙ ap (λ (xs : List ℕ). xs ++ number ∷ []) before
      ∙ append_both old (filter test (take i (numbers_of handles))) (number ∷ [])
      ∙ ap (λ (xs : List ℕ). old ++ xs) (sym (more_by true passes))

  pub put_failed : (old mid : List ℕ) → test number ≡ false → mid ≡ old ++ filter test (take i (numbers_of handles)) → mid ≡ old ++ filter test (take (i + 1) (numbers_of handles))
  put_failed old mid fails before =
      before ∙ ap (λ (xs : List ℕ). old ++ xs) (sym (more_by false fails ∙ append_nil (filter test (take i (numbers_of handles)))))

-- where nothing waits no tokens wait
pub idle_tokens : (q : Queues) (endpoints : List ℕ) → ((endpoint : ℕ) → queue_of q endpoint ≡ []) → tokens_on q endpoints ≡ []
idle_tokens q [] idle = refl
idle_tokens q (endpoint ∷ endpoints) idle =
    flat_map-cons (λ (one : ℕ). flat_map tokens_in (queue_of q one)) endpoint endpoints
    ∙ ap (λ (queue : List Sent). flat_map tokens_in queue ++ tokens_on q endpoints) (idle endpoint)
    ∙ idle_tokens q endpoints idle
