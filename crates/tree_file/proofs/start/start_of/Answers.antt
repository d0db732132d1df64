use Rattle.std.proofs.Common.{◌≡◌, ℕ, sym, subst, Option, None, IfErr, OnOk}
use Rattle.toml.specs.View.{view}
use Rattle.tree_file.specs.Faults.{IsFirst}
use Rattle.tree_file.proofs.Starts.{start-read, failure-read, ok_start}
use Rattle.tree_file.proofs.start.start_of.Goals as goal

pub returns-clause-start : goal.returns-clause-start
returns-clause-start c =
    ok_start c.start_in.result (view c.in_ok-document.document) c.args.text.now (start-read c.args.text.now (view c.in_ok-document.document) c.in_ok-document.ensures.read) c.start_in.ensures.start

pub returns-clause-sound : goal.returns-clause-sound
returns-clause-sound c =
    let P : Option (ℕ × ℕ) → Type 0 = λ broken. OnOk c.start_in.result (broken ≡ None) in
    subst P (sym (failure-read c.args.text.now (view c.in_ok-document.document) c.in_ok-document.ensures.read)) c.start_in.ensures.sound

pub returns-clause-refused : goal.returns-clause-refused
returns-clause-refused c =
    let P : Option (ℕ × ℕ) → Type 0 = λ broken. IfErr c.start_in.result (IsFirst broken) in
    subst P (sym (failure-read c.args.text.now (view c.in_ok-document.document) c.in_ok-document.ensures.read)) c.start_in.ensures.refused
