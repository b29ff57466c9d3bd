-- Count, entries and images are laid one behind the other. Assumes nothing.
use Rattle.bundle.proofs.Laws.{laid_bundle}
use Rattle.bundle.proofs.lay.Goals as goal

pub returns : goal.returns
returns c = laid_bundle _ _ _ _ _ _ _ _ _ _ c.low-count.ensures c.put.ensures c.lay_entries-behind.ensures c.put-2.ensures
