use Rattle.std.proofs.Common.{ap, map, string_bytes, sym, ◌∙◌}
use Rattle.audit_program.proofs.WordLists.{both_same, two_items}
use Rattle.audit_program.proofs.run.answer.Goals as goal

pub returns-in-len2-clause-usage : goal.returns-in-len2-clause-usage
returns-in-len2-clause-usage g c = λ others.
    let words = two_items _ _ _ c.in-len2.len_at_least c.in-len2.len_below c.tree-item.is c.recording-item.is in
    absurd (others _ _ (ap (map string_bytes) words))

pub returns-in-len2-clause-answers : goal.returns-in-len2-clause-answers
returns-in-len2-clause-answers g c = λ tree recording e.
    let words = two_items _ _ _ c.in-len2.len_at_least c.in-len2.len_below c.tree-item.is c.recording-item.is in
    let both = both_same _ _ _ _ (sym e ∙ ap (map string_bytes) words) in
    rw (both.0 ∙ sym c.as_str.ensures.value, both.1 ∙ sym c.as_str-in-len2.ensures.value) c.audit_files.ensures.answers

pub returns-in-len2-clause-reads : goal.returns-in-len2-clause-reads
returns-in-len2-clause-reads g c = λ tree recording e.
    let words = two_items _ _ _ c.in-len2.len_at_least c.in-len2.len_below c.tree-item.is c.recording-item.is in
    let both = both_same _ _ _ _ (sym e ∙ ap (map string_bytes) words) in
    rw (both.0 ∙ sym c.as_str.ensures.value, both.1 ∙ sym c.as_str-in-len2.ensures.value) c.audit_files.ensures.reads
