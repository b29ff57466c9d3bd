-- The loop keeps a write in progress (Writing): the first i bytes are in place. Assumes nothing.
use mathlib.Core.Path.{◌≡◌}
use lib.Seq.{paste}
use Rattle.flash.specs.Flash.{blank}
use Rattle.flash.proofs.wipe.Given as goal

abbrev pub invariant-loop-i : goal.invariant-loop-i
invariant-loop-i l = l.flash ≡ paste l.initial.flash l.at.0 (blank l.n) l.i
