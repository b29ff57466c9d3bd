-- The block sums anew, and the whole joined from them (Renewed). Assumes nothing.
use Rattle.sums.proofs.Renewed.{refreshed-by}
use Rattle.sums.proofs.refresh.Goals as goal

pub returns : goal.returns
returns c = refreshed-by _ _ _ _ _ _ c.renew.ensures c.whole_of.ensures
