-- What was passed over is erased, and eight bytes more are, wherever the number that they make is the greatest (Unerased).
-- Assumes nothing.
use Prim.Native.Nat.{◌-◌}
use Rattle.flash.specs.Flash.{Passed}
use Rattle.flash.proofs.past_eights.Given as goal

abbrev pub invariant-loop-at : goal.invariant-loop-at
invariant-loop-at l = Passed l.flash l.from l.to l.at

abbrev pub decreases-loop-at : goal.decreases-loop-at
decreases-loop-at l = l.to - l.at
