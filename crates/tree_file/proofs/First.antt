-- The first rule that is broken.
use Rattle.std.proofs.Common.{◌≡◌, ℕ, ◌+◌, List, [], ◌∷◌, ◌++◌, Option, Some, None, Result, Ok, Err, IfErr, refl, sym, subst}
use Rattle.std.specs.Result.{IsErrAnd}
use Rattle.session_start.specs.RulesOnLists.{first_broken}
use Rattle.tree_file.specs.declared.faults.TreeFault.{TreeFault}
use Rattle.tree_file.specs.declared.faults.TreeFault.TheVariants.{Rule, NoMemory}
use Rattle.tree_file.specs.Faults.{Breaks, IsFirst}

-- a rule that is broken is the first of those from it on
pub first-here : (rule : ℕ) (found : Option ℕ) (rules : List (Option ℕ)) (fault : TreeFault) → Breaks rule found fault → IsFirst (first_broken rule (found ∷ rules)) fault
first-here rule found rules (Rule told item) breaks = rw (breaks.1, breaks.0)
first-here rule found rules NoMemory breaks = tt

-- one that holds is passed
pub first-later : (rule : ℕ) (found : Option ℕ) (rules : List (Option ℕ)) (fault : TreeFault) → found ≡ None → IsFirst (first_broken (rule + 1) rules) fault → IsFirst (first_broken rule (found ∷ rules)) fault
first-later rule found rules fault none first = rw none first

-- the first of some rules is the first of more
pub first-before : (rule : ℕ) (rules more : List (Option ℕ)) (fault : TreeFault) → IsFirst (first_broken rule rules) fault → IsFirst (first_broken rule (rules ++ more)) fault
first-before rule rules more NoMemory first = tt
first-before rule [] more (Rule told item) first = cc
first-before rule (None ∷ rules) more (Rule told item) first = first-before (rule + 1) rules more (Rule told item) first
first-before rule (Some at ∷ rules) more (Rule told item) first = first

-- what is told of a fault that a call passes on is told of the call's own
pub passed-on : {X : Type 0} (result : Result X TreeFault) (fault : TreeFault) (P : TreeFault → Type 0) → IsErrAnd result (λ told. told ≡ fault) → P fault → IfErr result P
passed-on (Ok x) fault P is h = tt
passed-on (Err told) fault P is h = subst P (sym is) h

-- six rules that hold are passed
pub six-pass : (a b c d e f : Option ℕ) (more : List (Option ℕ)) → first_broken 2 (a ∷ b ∷ c ∷ d ∷ e ∷ f ∷ []) ≡ None → first_broken 2 ((a ∷ b ∷ c ∷ d ∷ e ∷ f ∷ []) ++ more) ≡ first_broken 8 more
six-pass None None None None None None more hold = refl
six-pass None None None None None (Some x) more hold = cc
six-pass None None None None (Some x) f more hold = cc
six-pass None None None (Some x) e f more hold = cc
six-pass None None (Some x) d e f more hold = cc
six-pass None (Some x) c d e f more hold = cc
six-pass (Some x) b c d e f more hold = cc

-- three rules that hold are passed
pub three-pass : (a b c : Option ℕ) (more : List (Option ℕ)) → first_broken 8 (a ∷ b ∷ c ∷ []) ≡ None → first_broken 8 ((a ∷ b ∷ c ∷ []) ++ more) ≡ first_broken 11 more
three-pass None None None more hold = refl
three-pass None None (Some x) more hold = cc
three-pass None (Some x) c more hold = cc
three-pass (Some x) b c more hold = cc

-- two of three rules that hold are passed
pub third-broken : (a b c : Option ℕ) (item : ℕ) (fault : TreeFault) → a ≡ None → b ≡ None → c ≡ Some item → fault ≡ Rule 13 item → IsFirst (first_broken 11 (a ∷ b ∷ c ∷ [])) fault
third-broken a b c item fault first second third told = rw (first, second, third, told)
