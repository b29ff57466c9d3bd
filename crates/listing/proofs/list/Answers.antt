-- One line for what is not listed; else the first line and those of the images. Assumes nothing.
use mathlib.Core.Path.{sym, ◌∙◌}
use Rattle.listing.proofs.Laws.{laid_refused, laid_list}
use Rattle.listing.proofs.list.Goals as goal

pub returns-in_default-clause-laid : goal.returns-in_default-clause-laid
returns-in_default-clause-laid c = laid_refused _ _ _ _ (sym c.images.ensures ∙ c.in_default.is) c.put.ensures

pub returns-clause-laid : goal.returns-clause-laid
returns-clause-laid c = laid_list _ _ _ _ _ _ _ (sym c.images.ensures ∙ c.in-Some.is) c.first_line-first.ensures.laid c.lines.ensures.laid
