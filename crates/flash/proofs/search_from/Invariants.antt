-- Both loops keep that what is left of the range holds the answer (Unerased), also behind what is passed over eight bytes at a time; the
-- label is left at the first byte that is not erased.
-- Assumes nothing.
use mathlib.Core.Path.{◌≡◌}
use Rattle.std.proofs.Common.{None, min}
use Rattle.flash.proofs.Unerased.{Ahead}
use Rattle.flash.proofs.search_from.Given as goal

abbrev pub invariant-search : goal.invariant-search
invariant-search l = (l.found ≡ None) × Ahead l.flash l.start l.n (min l.block l.end)

abbrev pub invariant-loop-at : goal.invariant-loop-at
invariant-loop-at l = (l.found ≡ None) × Ahead l.flash l.start l.n l.at
