-- A piece without a fault leaves the first fault to those behind it.
use Rattle.std.proofs.Common.{◌≡◌, ap, sym, ◌∙◌, take, ◌<◌, ◌≤◌, length, arith, ℕ, List, ◌+◌}
use Rattle.std.proofs.lemmas.Result.{err_from_is_err_and}
use Rattle.std.proofs.Math.Seq.{take-length}
use Rattle.path_walk.specs.Names.{holds, name_fault}
use Rattle.path_walk.proofs.PathLemmas.{take_no_zero, drop_no_zero, front_no_slash, piece_bad, piece_good, last_piece_good, piece_fault}
use Rattle.path_walk.proofs.walk.check_pieces.Goals as goal

take_all : (text : List ℕ) (end : ℕ) → end ≡ length text → take end text ≡ text
take_all text end e = rw e (take-length text)

below_end : (end size : ℕ) → end ≤ size → (end ≡ size → ⊥) → end < size
below_end end size h other = omega arith

pub check_piece-requires-clause-no_zero : goal.check_piece-requires-clause-no_zero
check_piece-requires-clause-no_zero c =
    take_no_zero c.loop-rest.rest.now c.until_slash-end.result c.loop-rest.invariant.no_zero

pub check_piece-requires-clause-no_slash : goal.check_piece-requires-clause-no_slash
check_piece-requires-clause-no_slash c =
    rw c.until_slash-end.ensures.place (front_no_slash c.loop-rest.rest.now)

pub returns-in_err-check_piece : goal.returns-in_err-check_piece
returns-in_err-check_piece c =
    let p = err_from_is_err_and c.from_residual.result c.from_residual.ensures.1 in
    rw (p.1, p.2)
    (sym
    (c.loop-rest.invariant.to_come
    ∙ piece_bad c.loop-rest.rest.now c.until_slash-end.result _ c.until_slash-end.ensures.place c.until_slash-end.ensures.within (sym c.in_err-check_piece.ensures)))

pub returns-then-end-rest : goal.returns-then-end-rest
returns-then-end-rest c =
    sym
    (c.loop-rest.invariant.to_come
    ∙ last_piece_good c.loop-rest.rest.now
    (sym c.until_slash-end.ensures.place ∙ c.if-end-rest.true)
    (ap name_fault (sym (take_all c.loop-rest.rest.now c.until_slash-end.result c.if-end-rest.true))
    ∙ sym c.in_ok-check_piece.ensures))

pub loop-rest-preserved : goal.loop-rest-preserved
loop-rest-preserved c =
    let within : c.until_slash-end.result < length c.loop-rest.rest.now =
    below_end c.until_slash-end.result _ c.until_slash-end.ensures.within c.if-end-rest.false in
    record {
      to_come =
          c.loop-rest.invariant.to_come
          ∙ piece_good c.loop-rest.rest.now c.until_slash-end.result c.until_slash-end.ensures.place within (sym c.in_ok-check_piece.ensures)
          ∙ sym (ap piece_fault c.behind-rest.ensures);
      no_zero =
          ap (holds 0) c.behind-rest.ensures
          ∙ drop_no_zero c.loop-rest.rest.now (c.until_slash-end.result + 1) c.loop-rest.invariant.no_zero;
    }
