-- Offset and length of the next entry fit, since what is left fits; and where it is laid, the others are left. Assumes nothing.
use native.Mathlib.Omega.{arith}
use Rattle.pieces.proofs.Laws.{owed_less, owed_none}
use Rattle.bundle.proofs.Laws.{fits_on, entries_next, entries_none}
use Rattle.bundle.proofs.lay_entries.Goals as goal

pub overflow_cast-entry : goal.overflow_cast-entry
overflow_cast-entry c = omega (arith, (fits_on _ c.loop-length.length-index _ _ (omega arith) c.loop-length.invariant.1).0.0)

pub overflow_cast-entry-in-loop-length : goal.overflow_cast-entry-in-loop-length
overflow_cast-entry-in-loop-length c = omega (arith, (fits_on _ c.loop-length.length-index _ _ (omega arith) c.loop-length.invariant.1).0.1)

pub overflow_add-offset : goal.overflow_add-offset
overflow_add-offset c =
    let small = (fits_on _ c.loop-length.length-index _ _ (omega arith) c.loop-length.invariant.1).0 in
    omega (arith, small.0, small.1)

pub loop-length-preserved : goal.loop-length-preserved
loop-length-preserved c =
    let on = fits_on _ c.loop-length.length-index _ _ (omega arith) c.loop-length.invariant.1 in (
      omega arith,
      on.1,
      owed_less _ _ _ _ _ _ _ _ _ _
          (entries_next _ c.loop-length.length-index _ _ (omega arith) c.to_bytes.ensures)
          (omega arith) c.loop-length.invariant.2 c.put-at.ensures,
    )

pub returns : goal.returns
returns c = owed_none _ _ _ _ _ _ (entries_none _ c.loop-length.length-index _ (omega arith)) c.loop-length.invariant.2
