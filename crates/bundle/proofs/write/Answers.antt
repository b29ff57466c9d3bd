-- Every test is passed, and what was laid is the bundle. Assumes nothing.
use mathlib.Core.Path.{sym, ◌∙◌}
use native.Mathlib.Omega.{arith}
use Rattle.bundle.proofs.Laws.{sum_is_total, wrote}
use Rattle.bundle.proofs.write.Goals as goal

pub returns : goal.returns
returns c =
    sym
    (wrote _ _ _ (sym c.can_count.ensures ∙ c.if-not-can_count.false)
    (sym c.contains.ensures.value ∙ c.if-contains.false)
    (sym c.fits_in.ensures ∙ c.if-not-fits_in.false)
    (omega (arith, sum_is_total c.args.lengths.now))
    _ _ c.lay.ensures)
