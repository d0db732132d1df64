use Rattle.std.proofs.Common.{◌≡◌, ℕ, sym, subst, Option, None, IfErr, OnOk}
use Rattle.session_start.specs.RulesOnLists.{rule_8, rule_9, rule_10, rules_on_counts}
use Rattle.tree_file.specs.Faults.{IsFirst}
use Rattle.tree_file.proofs.First.{three-pass}
use Rattle.tree_file.proofs.start.check_lists.Goals as goal

pub returns-clause-hold : goal.returns-clause-hold
returns-clause-hold c =
    let lists = c.args.parts.now in
    let P : Option (ℕ × ℕ) → Type 0 = λ broken. OnOk c.check_counts.result (broken ≡ None) in
    subst P (sym (three-pass (rule_8 lists) (rule_9 lists) (rule_10 lists) (rules_on_counts lists) c.in_ok-check_places.ensures.hold)) c.check_counts.ensures.hold

pub returns-clause-refused : goal.returns-clause-refused
returns-clause-refused c =
    let lists = c.args.parts.now in
    let P : Option (ℕ × ℕ) → Type 0 = λ broken. IfErr c.check_counts.result (IsFirst broken) in
    subst P (sym (three-pass (rule_8 lists) (rule_9 lists) (rule_10 lists) (rules_on_counts lists) c.in_ok-check_places.ensures.hold)) c.check_counts.ensures.refused
