-- The invariant: the lengths that are left fit from here on if and only if all do from the first image on. Assumes nothing.
use mathlib.Core.Path.{◌≡◌}
use lib.ListN.{length, drop}
use Rattle.bundle.specs.Bundle.{head_size, fits_in}
use Rattle.bundle.proofs.fits_in.Given as goal

abbrev pub invariant-loop-length : goal.invariant-loop-length
invariant-loop-length l = fits_in l.room l.at (drop l.length-index l.lengths) ≡ fits_in l.room (head_size (length l.lengths)) l.lengths
