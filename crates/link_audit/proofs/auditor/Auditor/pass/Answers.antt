use Rattle.std.proofs.Common.{◌≡◌, ◌∙◌, ◌++◌, ℕ, List, ap, drop, length, sym, true, false}
use Rattle.std.proofs.lemmas.Bool.Decides.{Decides-eqb}
use Rattle.std.proofs.lemmas.Slice.Eq.{starts_is}
use Rattle.link_frames.specs.Frames.{spelling}
use Rattle.link_audit.specs.Auditing.{Auditing}
use Rattle.link_audit.proofs.Reasons.{wrong_first}
use Rattle.link_audit.proofs.Stepping.{next_in_front, passed_on}
use Rattle.link_audit.proofs.auditor.Auditor.pass.Goals as goal

pub returns-then-not-starts_with : goal.returns-then-not-starts_with
returns-then-not-starts_with c = λ start before frame audits is spelled.
    let told = starts_is Decides-eqb c.owed.result.now c.args.spelled.now c.starts_with.result c.starts_with.ensures.value in
    wrong_first start before frame (λ next.
    let front = next_in_front start before c.args.self.now audits frame next in
    let yes : c.starts_with.result ≡ true = told.1 front.0 (c.owed.ensures ∙ (front.1 ∙ ap (λ (l : List ℕ). l ++ front.0) (sym spelled))) in
    let no' : c.starts_with.result ≡ false = c.if-not-starts_with.true in
    cc)

pub returns : goal.returns
returns c = λ start before frame audits is spelled.
    let told = starts_is Decides-eqb c.owed.result.now c.args.spelled.now c.starts_with.result c.starts_with.ensures.value in
    let cut : c.owed.result.now ≡ c.args.spelled.now ++ drop (length c.args.spelled.now) c.owed.result.now = told.0 c.if-not-starts_with.false in
    let view = c.let_go.ensures in
    passed_on start before frame c.args.self.now c.let_go.new.self audits is (ap (λ (a : Auditing). a.world) view)
    (sym c.owed.ensures ∙ (cut ∙ (ap (λ (l : List ℕ). l ++ drop (length c.args.spelled.now) c.owed.result.now) spelled
    ∙ (ap (λ (l : List ℕ). spelling frame ++ drop (length c.args.spelled.now) l) c.owed.ensures ∙ ap (λ (a : Auditing). spelling frame ++ a.owed) (sym view)))))
