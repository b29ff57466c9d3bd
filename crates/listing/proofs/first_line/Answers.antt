-- The word, the count and the line feed are laid one behind the other. Assumes nothing.
use native.Mathlib.Omega.{arith}
use Rattle.pieces.proofs.Laws.{laid_more}
use Rattle.listing.proofs.first_line.Goals as goal

pub returns-clause-laid : goal.returns-clause-laid
returns-clause-laid c =
    laid_more _ _ _ _ _ _ _ _ (omega arith)
    (laid_more _ _ _ _ _ _ _ _ (omega arith) c.put-word.ensures c.decimal-number.ensures)
    c.put.ensures
