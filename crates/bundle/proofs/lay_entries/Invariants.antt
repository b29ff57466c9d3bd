-- The invariant: the entries that are left, laid from here on, give what all of them give. Assumes nothing.
use mathlib.Core.Path.{◌≡◌}
use mathlib.Core.Bool.{true}
use lib.ListN.{length, drop}
use Rattle.pieces.proofs.Laws.{Owed}
use Rattle.bundle.specs.Bundle.{head_size, fits_in, entries_of}
use Rattle.bundle.proofs.lay_entries.Given as goal

abbrev pub invariant-loop-length : goal.invariant-loop-length
invariant-loop-length l =
    (l.at ≡ head_size l.length-index)
    × (fits_in (length l.initial.buffer) l.offset (drop l.length-index l.lengths) ≡ true)
    × Owed l.initial.buffer l.buffer 2 l.at (entries_of (head_size (length l.lengths)) l.lengths) (entries_of l.offset (drop l.length-index l.lengths))
