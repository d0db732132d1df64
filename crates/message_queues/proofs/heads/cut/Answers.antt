use Rattle.std.proofs.Common.{rules, List, ℕ, sym, ◌∙◌, subst}
use Rattle.std.proofs.lemmas.Fn.{filter_same}
use Rattle.message_queues.specs.Steps.{IsRising}
use Rattle.message_queues.proofs.Least.{empty_line, first_behind, first_there, popped_rises, without_rises}
use Rattle.message_queues.proofs.heads.cut.Goals as goal

pub returns-in_default-clause-cut : goal.returns-in_default-clause-cut
returns-in_default-clause-cut c = empty_line c.args.place c.args.line.now.items (sym c.first_of.ensures ∙ c.in_default.is)

pub returns-then-first-place-clause-cut : goal.returns-then-first-place-clause-cut
returns-then-first-place-clause-cut c =
    first_behind c.args.place c.args.line.now.items (c.in-Some.first, c.in-Some.field-0-1) c.requires (sym c.first_of.ensures ∙ c.in-Some.is) c.if-first-place.true

pub returns-then-first-place-2-clause-cut : goal.returns-then-first-place-2-clause-cut
returns-then-first-place-2-clause-cut c =
    first_there c.args.place c.args.line.now.items c.pop_front.new.self.items (c.in-Some.first, c.in-Some.field-0-1) c.requires (sym c.first_of.ensures ∙ c.in-Some.is) c.if-first-place-2.true c.pop_front.ensures.rest

pub returns-then-first-place-2-clause-rising : goal.returns-then-first-place-2-clause-rising
returns-then-first-place-2-clause-rising c = popped_rises c.args.line.now.items c.pop_front.new.self.items c.requires c.pop_front.ensures.rest

pub returns-clause-cut : goal.returns-clause-cut
returns-clause-cut c = filter_same _ _ _ (λ x b f' k. search rules) _ _ c.retain.ensures.filtered

pub returns-clause-rising : goal.returns-clause-rising
returns-clause-rising c =
    subst (λ (line : List (ℕ × ℕ)). IsRising line) (sym (filter_same _ _ _ (λ x b f' k. search rules) _ _ c.retain.ensures.filtered)) (without_rises c.args.place c.args.line.now.items c.requires)
