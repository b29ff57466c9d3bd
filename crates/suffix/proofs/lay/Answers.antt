-- File, front and sum are put one behind the other. Assumes nothing.
use Rattle.suffix.proofs.Laws.{laid_by}
use Rattle.suffix.proofs.lay.Goals as goal

pub returns : goal.returns
returns c =
    laid_by _ _ _ _ _ _ _ _ _ _ _
    c.front-front.ensures
    c.sum_bytes-sum.ensures
    c.put-behind.ensures
    c.put-end.ensures
    c.put.ensures
