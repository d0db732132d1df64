-- A request that changes the tree has the authority for it.
use Rattle.std.proofs.Common.{◌≡◌, ℕ, ◌⊎◌, Bool, true, false, not, List, [], ◌∷◌, Option, Some, None, refl, sym, ap, ◌∙◌, inl, inr}
use Rattle.std.specs.Option.{option_map_or}
use Rattle.fidl_names.specs.First.{cause_if, first_of}
use Rattle.fidl_names.specs.declared.methods.Method.{Method}
use Rattle.fidl_names.specs.declared.methods.Method.TheVariants as method
use Rattle.fidl_names.specs.declared.statuses.Status.{Status}
use Rattle.fidl_names.specs.declared.statuses.Status.TheVariants as status
use Rattle.io_messages.specs.Asked.{Asked, method_of}
use Rattle.io_messages.specs.Asked as asks
use Rattle.io_rights.specs.Needs.{needed_by}
use Rattle.io_rights.specs.declared.operations.Operation.{Operation}
use Rattle.io_rights.specs.Operations.{OperationSet, single, is_within}
use Rattle.node_graph.specs.Tree.{stay}
use Rattle.conn_rules.specs.Acts.{act_of, is_beyond, lacks_right, method_refusals, row_act}
use Rattle.conn_rules.specs.Answers.{Act}
use Rattle.conn_rules.specs.Contexts.{Context}
use Rattle.conn_rules.specs.NameRows.{link_into, rename_into, two_names_refusal}
use Rattle.conn_rules.specs.Refusals.{lacks, unless}
use Rattle.journal_laws.proofs.Acts.{unless_holds}

-- ---- the right of a method

second_passes : (a : Option Status) (x : Bool) (s : Status) → first_of (a ∷ cause_if x s ∷ []) ≡ None → x ≡ false
second_passes (Some f) x s e = absurd (cc)
second_passes None true s e = absurd (cc)
second_passes None false s e = refl

pub has_right : (b : Bool) → not b ≡ false → b ≡ true
has_right true e = refl
has_right false e = absurd (cc)

-- a method that isn't refused has the rights that it needs
pub rights_there : (context : Context) (request : Asked) (needed : OperationSet) → needed_by (method_of request) ≡ Some needed → first_of (method_refusals context.birth (method_of request)) ≡ None → is_within needed context.birth.rights ≡ true
rights_there context request needed needs e =
    let lacks' : lacks_right context.birth (method_of request) ≡ not (is_within needed context.birth.rights) = ap (λ (o : Option OperationSet). option_map_or (lacks context.birth.rights) o false) needs in
    let passes = second_passes (cause_if (is_beyond context.birth.protocol (method_of request)) status.BadHandle) (lacks_right context.birth (method_of request)) status.BadHandle e in
    has_right (is_within needed context.birth.rights) (sym lacks' ∙ passes)

pub right_there : (context : Context) (request : Asked) (operation : Operation) → needed_by (method_of request) ≡ Some (single operation) → first_of (method_refusals context.birth (method_of request)) ≡ None → is_within (single operation) context.birth.rights ≡ true
right_there context request operation = rights_there context request (single operation)

-- what changes a tree, or has this
abbrev StaysOr : Type 0 → Act → Type 0
StaysOr A act = (act.change ≡ stay) ⊎ A

pub stays_or_right : (context : Context) (request : Asked) (operation : Operation) → needed_by (method_of request) ≡ Some (single operation) → ((act_of context request).change ≡ stay) ⊎ (is_within (single operation) context.birth.rights ≡ true)
unfolding act_of
stays_or_right context request operation needs =
    unless_holds (StaysOr (is_within (single operation) context.birth.rights ≡ true)) (first_of (method_refusals context.birth (method_of request))) context.position (method_of request) (row_act context request)
    (λ s. inl refl) (λ e. inr (right_there context request operation needs e))

-- ---- the directory of a token

abbrev HasTarget : Context → ℕ → Act → Type 0
HasTarget context token act = (act.change ≡ stay) ⊎ ((target : ℕ) × (context.directory token ≡ Some target))

-- a token that has no directory leads to no change
target_of : (context : Context) (token : ℕ) (into : Option ℕ → Act) → (into None).change ≡ stay → (o : Option ℕ) → context.directory token ≡ o → HasTarget context token (into o)
target_of context token into none None is = inl none
target_of context token into none (Some target) is = inr (target, is)

-- of Link and Rename alike
two_names_target : (context : Context) (src dst : List ℕ) (token : ℕ) (method' : Method) (into : Option ℕ → Act) → (into None).change ≡ stay → (refused : Option Status) →
    HasTarget context token (unless refused context.position method' (unless (two_names_refusal src dst (context.directory token)) context.position method' (into (context.directory token))))
two_names_target context src dst token method' into none refused =
    unless_holds (HasTarget context token) refused context.position method' _ (λ s. inl refl)
    (λ e. unless_holds (HasTarget context token) (two_names_refusal src dst (context.directory token)) context.position method' (into (context.directory token))
    (λ s. inl refl) (λ f. target_of context token into none (context.directory token) refl))

pub link_has_target : (context : Context) (src dst : List ℕ) (token : ℕ) → ((act_of context (asks.link src token dst)).change ≡ stay) ⊎ ((target : ℕ) × (context.directory token ≡ Some target))
unfolding act_of
link_has_target context src dst token = two_names_target context src dst token method.Link (link_into context src dst) refl (first_of (method_refusals context.birth method.Link))

pub rename_has_target : (context : Context) (src dst : List ℕ) (token : ℕ) → ((act_of context (asks.rename src token dst)).change ≡ stay) ⊎ ((target : ℕ) × (context.directory token ≡ Some target))
unfolding act_of
rename_has_target context src dst token = two_names_target context src dst token method.Rename (rename_into context src dst) refl (first_of (method_refusals context.birth method.Rename))
