-- One more block anew, and none left (Renewed). Assumes nothing.
use mathlib.Core.Path.{sym, ◌∙◌}
use native.Mathlib.Omega.{arith}
use Rattle.sums.proofs.Renewed.{renewed_turn, renewed-done}
use Rattle.sums.proofs.renew.Goals as goal

pub sum_of-requires : goal.sum_of-requires
sum_of-requires c = record { ordered = omega arith; counted = omega arith; inside = omega arith }

pub loop-k-preserved : goal.loop-k-preserved
loop-k-preserved c =
    let l = c.loop-k in
    renewed_turn _ _ l.k _ _ c.loop-k-test.true c.sum_of.ensures ∙ l.invariant

pub returns : goal.returns
returns c =
    let l = c.loop-k in
    sym (renewed-done l.block _ l.k _ c.loop-k-test.false) ∙ l.invariant
