-- An image below the count of what was read has its entry within the file. Assumes nothing.
use mathlib.Core.Path.{sym}
use native.Mathlib.Omega.{arith}
use Rattle.bundle.proofs.Meaning.{image_inside}
use Rattle.bundle.proofs.part_of.Goals as goal

pub read-entry-requires : goal.read-entry-requires
read-entry-requires c = omega (arith, (image_inside c.args.file.now c.args.k (rw (sym c.read.ensures) (omega arith))).0)
