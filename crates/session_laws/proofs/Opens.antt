-- What an Open binds, and what goes on of one that crosses a mount.
use Rattle.std.proofs.Common.{◌≡◌, ℕ, Bool, true, false, not, List, [], ◌∷◌, Option, Some, None, refl, sym, ap, ◌∙◌}
use Rattle.std.specs.Option.{option_map}
use Rattle.std.specs.Prelude.{◌&&◌, is_some}
use Rattle.std.specs.Str.{bytes_eq}
use Rattle.fidl_names.specs.First.{cause_if, first_of}
use Rattle.fidl_names.specs.declared.methods.Method.TheVariants as method
use Rattle.fidl_names.specs.declared.statuses.Status.{Status}
use Rattle.fidl_names.specs.declared.statuses.Status.TheVariants as status
use Rattle.io_flags.specs.Faults.{flag_fault, status_of}
use Rattle.io_flags.specs.Grants.{asked_rights, granted, granted_kind, onward}
use Rattle.io_rights.specs.declared.operations.Operation.TheVariants as op
use Rattle.io_rights.specs.Operations.{OperationSet, single, is_within}
use Rattle.node_graph.specs.Tree.{name_in}
use Rattle.path_walk.specs.Names.{dot}
use Rattle.path_walk.specs.Paths.{names_of, path_fault}
use Rattle.conn_rules.specs.Answers.{Answer, Act, binds, forwards}
use Rattle.conn_rules.specs.Births.{Birth}
use Rattle.conn_rules.specs.Contexts.{Context}
use Rattle.conn_rules.specs.Nodes.{kind_here}
use Rattle.conn_rules.specs.Opens.{arrival_refusals, by_walk, entry_refusals, making_refusals, open_act}
use Rattle.conn_rules.specs.Refusals.{lacks}
use Rattle.conn_rules.specs.Walks.{Walk, arrives, missing, crosses, stops, walk, limit_of}
use Rattle.journal_laws.proofs.Acts.{path_passes, unless_holds}

-- ---- what is bound

-- it has what its flags get under some limit
pub record IsGranted (word : ℕ) (found : Birth) : Type 0 where
  pub limit : OperationSet
  pub rights : found.rights ≡ granted_kind word (granted word limit)

abbrev rights_in : OperationSet → Answer → OperationSet
rights_in other (binds birth announced) = birth.rights
rights_in other _ = other

abbrev Binds : ℕ → Birth → Bool → Act → Type 0
Binds word found announced act = act.answer ≡ binds found announced → IsGranted word found

walk_grants : (context : Context) (word : ℕ) (w : Walk) (found : Birth) (announced : Bool) → Binds word found announced (by_walk context word w)
walk_grants context word (arrives node masks) found announced =
    unless_holds (Binds word found announced) (first_of (arrival_refusals context.room word (kind_here context.tree node))) context.position method.OpenPath _ (λ s e. absurd (cc))
    (λ passes e. record { limit = limit_of context.birth.rights masks; rights = sym (ap (rights_in found.rights) e) })
walk_grants context word (missing directory name masks) found announced =
    unless_holds (Binds word found announced) (first_of (making_refusals context.tree context.room word (name_in directory name))) context.position method.OpenPath _ (λ s e. absurd (cc))
    (λ passes e. record { limit = limit_of context.birth.rights masks; rights = sym (ap (rights_in found.rights) e) })
walk_grants context word (crosses mount rest masks) found announced = λ e. absurd (cc)
walk_grants context word (stops status) found announced = λ e. absurd (cc)

pub open_grants : (context : Context) (path : List ℕ) (word : ℕ) (found : Birth) (announced : Bool) → (open_act context path word).answer ≡ binds found announced → IsGranted word found
open_grants context path word found announced =
    unless_holds (Binds word found announced) (first_of (entry_refusals context.birth word path)) context.position method.OpenPath _ (λ s e. absurd (cc))
    (λ passes. walk_grants context word (walk context.tree word (names_of path) context.birth.node) found announced)

-- ---- what goes on

-- the walk crosses the mount, the connection has what the flags ask for, and those that go on are cleared by what it let through
pub record Crosses (context : Context) (path : List ℕ) (word mount flags : ℕ) (rest : List (List ℕ)) : Type 0 where
  pub good : path_fault path ≡ None
  pub asked : is_within (asked_rights word) context.birth.rights ≡ true
  pub masks : List OperationSet
  pub walked : walk context.tree word (names_of path) context.birth.node ≡ crosses mount rest masks
  pub left : flags ≡ onward word (limit_of context.birth.rights masks)

fourth_passes : (a b c : Option Status) (x : Bool) (s : Status) → first_of (a ∷ b ∷ c ∷ cause_if (not x) s ∷ []) ≡ None → x ≡ true
fourth_passes (Some f) b c x s e = absurd (cc)
fourth_passes None (Some f) c x s e = absurd (cc)
fourth_passes None None (Some f) x s e = absurd (cc)
fourth_passes None None None true s e = refl
fourth_passes None None None false s e = absurd (cc)

pub asked_passes : (birth : Birth) (word : ℕ) (path : List ℕ) → first_of (entry_refusals birth word path) ≡ None → is_within (asked_rights word) birth.rights ≡ true
asked_passes birth word path e =
    fourth_passes (option_map status_of (flag_fault word)) (cause_if (is_some (path_fault path)) status.InvalidArgs)
    (cause_if (not (bytes_eq path dot) && lacks birth.rights (single op.Traverse)) status.AccessDenied)
    (is_within (asked_rights word) birth.rights) status.AccessDenied e

abbrev GoesOn : Context → List ℕ → ℕ → ℕ → ℕ → List (List ℕ) → Act → Type 0
GoesOn context path word mount flags rest act = act.answer ≡ forwards mount flags rest → Crosses context path word mount flags rest

walk_crosses : (context : Context) (path : List ℕ) (word : ℕ) (w : Walk) (mount flags : ℕ) (rest : List (List ℕ)) → first_of (entry_refusals context.birth word path) ≡ None →
    walk context.tree word (names_of path) context.birth.node ≡ w → GoesOn context path word mount flags rest (by_walk context word w)
walk_crosses context path word (arrives node masks) mount flags rest passes is =
    unless_holds (GoesOn context path word mount flags rest) (first_of (arrival_refusals context.room word (kind_here context.tree node))) context.position method.OpenPath _ (λ s e. absurd (cc)) (λ f e. absurd (cc))
walk_crosses context path word (missing directory name masks) mount flags rest passes is =
    unless_holds (GoesOn context path word mount flags rest) (first_of (making_refusals context.tree context.room word (name_in directory name))) context.position method.OpenPath _ (λ s e. absurd (cc)) (λ f e. absurd (cc))
walk_crosses context path word (crosses index names masks) mount flags rest passes is = λ e.
    let same : index ≡ mount = mount_of e in
    let left : names ≡ rest = rest_of e in
    record {
      good = path_passes context.birth word path passes;
      asked = asked_passes context.birth word path passes;
      masks = masks;
      walked = is ∙ ap (λ (n : ℕ). crosses n names masks) same ∙ ap (λ (ns : List (List ℕ)). crosses mount ns masks) left;
      left = sym (flags_of e);
    } where
      mount_of : {a b f g : ℕ} {r s : List (List ℕ)} → forwards a f r ≡ forwards b g s → a ≡ b
      mount_of e = cc

      rest_of : {a b f g : ℕ} {r s : List (List ℕ)} → forwards a f r ≡ forwards b g s → r ≡ s
      rest_of e = cc

      flags_of : {a b f g : ℕ} {r s : List (List ℕ)} → forwards a f r ≡ forwards b g s → f ≡ g
      flags_of e = cc
walk_crosses context path word (stops status) mount flags rest passes is = λ e. absurd (cc)

pub open_crosses : (context : Context) (path : List ℕ) (word mount flags : ℕ) (rest : List (List ℕ)) → (open_act context path word).answer ≡ forwards mount flags rest → Crosses context path word mount flags rest
open_crosses context path word mount flags rest =
    unless_holds (GoesOn context path word mount flags rest) (first_of (entry_refusals context.birth word path)) context.position method.OpenPath _ (λ s e. absurd (cc))
    (λ passes. walk_crosses context path word (walk context.tree word (names_of path) context.birth.node) mount flags rest passes refl)
