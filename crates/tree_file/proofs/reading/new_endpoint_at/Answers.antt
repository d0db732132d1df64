use Rattle.std.proofs.Common.{◌≡◌, ◌==◌, ◌∙◌, ℕ, Bool, true, false, cond, List, Option, Some, None, sym}
use Rattle.std.specs.List.{list_any}
use Rattle.toml.specs.View.{view}
use Rattle.session_start.specs.Items.{ClientItem}
use Rattle.tree_file.specs.Reading.{is_new_endpoint, endpoint_at}
use Rattle.tree_file.specs.Texts.{only}
use Rattle.tree_file.proofs.reading.new_endpoint_at.Goals as goal

-- a number that is read is passed unless an earlier client has it
new-or-taken : (found : Option ℕ) (number : ℕ) (earlier : List ClientItem) (taken : Bool) → found ≡ Some number
    → list_any (λ client. client.endpoint == number) earlier ≡ taken → only (is_new_endpoint earlier) found ≡ cond taken None (Some number)
new-or-taken found number earlier true is has = rw (is, has)
new-or-taken found number earlier false is has = rw (is, has)

pub returns-then-contains : goal.returns-then-contains
returns-then-contains c earlier has =
    sym
    (new-or-taken (endpoint_at (view c.args.value.now)) c.in_ok-endpoint.endpoint earlier true (sym c.endpoint_at.ensures ∙ c.in_ok-endpoint.was)
    (sym (has c.in_ok-endpoint.endpoint) ∙ (sym c.contains.ensures ∙ c.if-contains.true)))

pub returns-else-contains : goal.returns-else-contains
returns-else-contains c earlier has =
    sym
    (new-or-taken (endpoint_at (view c.args.value.now)) c.in_ok-endpoint.endpoint earlier false (sym c.endpoint_at.ensures ∙ c.in_ok-endpoint.was)
    (sym (has c.in_ok-endpoint.endpoint) ∙ (sym c.contains.ensures ∙ c.if-contains.false)))
