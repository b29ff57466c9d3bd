-- A refresh of all application blocks over zeros (Laws). Assumes nothing.
use mathlib.Core.Path.{refl, ◌∙◌}
use Rattle.sums.proofs.Laws.{fresh_from_none}
use Rattle.sums.proofs.fresh.Goals as goal

pub returns : goal.returns
returns c = c.refresh.ensures ∙ fresh_from_none _ _ _ _ refl c.requires.ordered c.requires.counted c.requires.inside
