-- The digits of the quotient, and behind them the last one. Assumes nothing.
use Rattle.std.proofs.Common.{arith}
use Rattle.print.proofs.Laws.{laid_behind}
use Rattle.print.proofs.+decimal.Goals as goal

pub returns : goal.returns
returns t c =
    laid_behind _ _ _ _ _ _ _ (omega arith) (omega (arith, c.requires)) c.decimal-last.ensures c.put_last_digit-2.ensures
