use Rattle.std.proofs.Common.{◌≡◌, ◌∙◌, List, ℕ, ◌++◌, ap, sym, drop, get_or, take-append-drop}
use Rattle.dirents.proofs.entries.EntriesIterator.next.Goals as goal

pub returns-clause-steps : goal.returns-clause-steps
returns-clause-steps c =
    let all = c.args.self.now.bytes.now in
    let head = c.in_ok-head.head.now in
    let rest = c.in_ok-head.rest.now in
    let name = c.in_ok-name.name.now in
    let others = c.in_ok-name.others.now in
    let first = c.in_ok-head.ensures.cases in
    let second = c.in_ok-name.ensures.cases in
    let whole : all ≡ head ++ rest =
    sym (take-append-drop 10 all) ∙ ap (λ (xs : List ℕ). xs ++ drop 10 all) (sym first.1) ∙ ap (λ (xs : List ℕ). head ++ xs) (sym first.2) in
    let behind : rest ≡ name ++ others =
    sym (take-append-drop (get_or head 8 0) rest) ∙ ap (λ (xs : List ℕ). xs ++ drop (get_or head 8 0) rest) (sym second.1) ∙ ap (λ (xs : List ℕ). name ++ xs) (sym second.2) in
    (whole ∙ ap (λ (xs : List ℕ). head ++ xs) behind ∙ c.entry_in.ensures.bytes others, c.entry_in.ensures.fits)
