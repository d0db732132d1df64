-- Whatever its handles are, it is served with them.
use Rattle.std.proofs.Common.{◌≡◌, ◌∙◌, ◌∷◌, [], ℕ, Bool, true, false, if◌then◌else◌, List, ap, get_or, length, map, refl, subst, sym}
use Rattle.std.proofs.lemmas.List.{nil_from_length}
use Rattle.fidl_names.specs.declared.methods.Handle.{Handle}
use Rattle.fidl_names.specs.declared.methods.Handle.TheVariants.{Endpoint, Token}
use Rattle.fidl_names.specs.HandleNumber.{handle_with, number_of_handle}
use Rattle.vfs_journal.specs.Handles.{numbers_of}
use Rattle.vfs_world.proofs.arriving.serve_admitted.Goals as goal

-- a handle that was made of a number has it
has_its_number : (n : ℕ) (b : Bool) → number_of_handle (if b then Token n else Endpoint n) ≡ n
has_its_number n true = refl
has_its_number n false = refl

-- the only one of a list
alone : (numbers : List ℕ) → length numbers ≡ 1 → get_or numbers 0 0 ∷ [] ≡ numbers
alone [] one = absurd (cc)
alone (n ∷ []) one = refl
alone (n ∷ m ∷ more) one = absurd (cc)

pub serve_with-requires-in-1-clause-handles : goal.serve_with-requires-in-1-clause-handles
serve_with-requires-in-1-clause-handles c =
    ap (λ (handle : Handle). numbers_of (handle ∷ [])) c.with_number-handle.ensures ∙ ap (λ (n : ℕ). n ∷ []) (has_its_number c.at.result _ ∙ c.at.ensures) ∙ alone _ (sym c.len.ensures ∙ c.in-1.is)

pub serve_with-requires-in-1-clause-by_number : goal.serve_with-requires-in-1-clause-by_number
serve_with-requires-in-1-clause-by_number c =
    subst (λ (handle : Handle). map handle_with (numbers_of (handle ∷ [])) ≡ handle ∷ []) (sym c.with_number-handle.ensures) (ap (λ (n : ℕ). handle_with n ∷ []) (has_its_number c.at.result _))

pub serve_with-requires-clause-handles : goal.serve_with-requires-clause-handles
serve_with-requires-clause-handles c = sym (nil_from_length _ (sym c.len.ensures ∙ c.in-0.is))

pub returns-in-0-clause-reached : goal.returns-in-0-clause-reached
returns-in-0-clause-reached c = c.serve_with.ensures.reached

pub returns-in-0-clause-running : goal.returns-in-0-clause-running
returns-in-0-clause-running c = c.serve_with.ensures.running

pub returns-in-1-clause-reached : goal.returns-in-1-clause-reached
returns-in-1-clause-reached c = c.serve_with-in-1.ensures.reached

pub returns-in-1-clause-running : goal.returns-in-1-clause-running
returns-in-1-clause-running c = c.serve_with-in-1.ensures.running

pub returns-in_ok-handles-in_default-clause-reached : goal.returns-in_ok-handles-in_default-clause-reached
returns-in_ok-handles-in_default-clause-reached c = c.serve_with-in_default.ensures.reached

pub returns-in_ok-handles-in_default-clause-running : goal.returns-in_ok-handles-in_default-clause-running
returns-in_ok-handles-in_default-clause-running c = c.serve_with-in_default.ensures.running
