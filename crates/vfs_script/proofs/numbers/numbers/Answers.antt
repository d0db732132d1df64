use Rattle.std.proofs.Common.{[], ◌∙◌, sym, ap}
use Rattle.vfs_script.proofs.NumberLemmas.{so_far, so_far-start, so_far-more, so_far-bad, so_far-end}
use Rattle.vfs_script.proofs.numbers.numbers.Goals as goal

pub loop-piece-init : goal.loop-piece-init
loop-piece-init c = so_far-start c.args.word.now ∙ (ap (so_far []) (sym c.new-pieces.ensures.pieces) ∙ ap (λ numbers. so_far numbers c.new-pieces.result) (sym c.new-numbers.ensures.items))

pub returns-in_default-short : goal.returns-in_default-short
returns-in_default-short c =
    sym
    (c.loop-piece.invariant
    ∙ (ap (so_far c.loop-piece.numbers.items) c.in-Some.ensures.piece
    ∙ so_far-bad c.loop-piece.numbers.items c.in-Some.piece.now c.next_short.new.self (sym c.short.ensures ∙ c.in_default-short.is)))

pub loop-piece-preserved : goal.loop-piece-preserved
loop-piece-preserved c =
    c.loop-piece.invariant
    ∙ (ap (so_far c.loop-piece.numbers.items) c.in-Some.ensures.piece
    ∙ (so_far-more c.loop-piece.numbers.items c.in-Some.piece.now c.next_short.new.self c.in-Some-short.number (sym c.short.ensures ∙ c.in-Some-short.is)
    ∙ ap (λ numbers. so_far numbers c.next_short.new.self) (sym c.in_ok-push.ensures.items)))

pub returns : goal.returns
returns c =
    sym
    (c.loop-piece.invariant
    ∙ (ap (so_far c.loop-piece.numbers.items) c.in_default.ensures.none ∙ so_far-end c.loop-piece.numbers.items))
