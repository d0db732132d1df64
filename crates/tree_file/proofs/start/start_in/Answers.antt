use Rattle.std.proofs.Common.{◌≡◌, ◌∙◌, ℕ, Option, None, sym, subst}
use Rattle.toml.specs.View.{view}
use Rattle.session_start.specs.Accepted.{AreAccepted}
use Rattle.session_start.specs.Items.{Lists}
use Rattle.session_start.specs.RulesOnLists.{first_broken, rules_on_lists}
use Rattle.tree_file.specs.Faults.{IsFirst}
use Rattle.tree_file.specs.Rules.{broken_in, lists_of, rule_2, rule_3, rule_4, rule_5, rule_6, rule_7, rules_on_form}
use Rattle.tree_file.proofs.Accepted.{accepted_of}
use Rattle.tree_file.proofs.First.{first-before, passed-on, six-pass}
use Rattle.tree_file.proofs.start.start_in.Goals as goal

pub new-requires : goal.new-requires
new-requires c =
    let same = c.in_ok-read_lists.ensures.lists in
    record {
      accepted =
          subst AreAccepted (sym same)
          (accepted_of (view c.args.document.now) (subst (λ (l : Lists). first_broken 8 (rules_on_lists l) ≡ None) same c.in_ok-check_lists.ensures.hold));
      bytes = c.in_ok-check_lists.ensures.bytes;
    }

pub returns-clause-accepted : goal.returns-clause-accepted
returns-clause-accepted c =
    let same = c.new.ensures ∙ c.in_ok-read_lists.ensures.lists in
    subst AreAccepted (sym same)
    (accepted_of (view c.args.document.now) (subst (λ (l : Lists). first_broken 8 (rules_on_lists l) ≡ None) c.in_ok-read_lists.ensures.lists c.in_ok-check_lists.ensures.hold))

pub returns-clause-start : goal.returns-clause-start
returns-clause-start c = c.new.ensures ∙ c.in_ok-read_lists.ensures.lists

pub returns-clause-sound : goal.returns-clause-sound
returns-clause-sound c =
    let document = view c.args.document.now in
    six-pass (rule_2 document) (rule_3 document) (rule_4 document) (rule_5 document) (rule_6 document) (rule_7 document) (rules_on_lists (lists_of document)) c.in_ok-read_lists.ensures.hold
    ∙ subst (λ (l : Lists). first_broken 8 (rules_on_lists l) ≡ None) c.in_ok-read_lists.ensures.lists c.in_ok-check_lists.ensures.hold

pub returns-in_err-read_lists-clause-refused : goal.returns-in_err-read_lists-clause-refused
returns-in_err-read_lists-clause-refused c =
    let document = view c.args.document.now in
    passed-on c.from_residual.result c.in_err-read_lists.field-0.0 (IsFirst (broken_in document)) c.from_residual.ensures.1
    (first-before 2 (rules_on_form document) (rules_on_lists (lists_of document)) c.in_err-read_lists.field-0.0 c.in_err-read_lists.ensures.refused)

pub returns-in_err-check_lists-clause-refused : goal.returns-in_err-check_lists-clause-refused
returns-in_err-check_lists-clause-refused c =
    let document = view c.args.document.now in
    let fault = c.in_err-check_lists.field-0.0 in
    let form = six-pass (rule_2 document) (rule_3 document) (rule_4 document) (rule_5 document) (rule_6 document) (rule_7 document) (rules_on_lists (lists_of document)) c.in_ok-read_lists.ensures.hold in
    let later = subst (λ (l : Lists). IsFirst (first_broken 8 (rules_on_lists l)) fault) c.in_ok-read_lists.ensures.lists c.in_err-check_lists.ensures.refused in
    passed-on c.from_residual-in_err-check_lists.result fault (IsFirst (broken_in document)) c.from_residual-in_err-check_lists.ensures.1
    (subst (λ (first : Option (ℕ × ℕ)). IsFirst first fault) (sym form) later)
