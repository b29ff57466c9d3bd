-- Number, length and sum are laid one behind the other, and are no longer than a line may be. Assumes nothing.
use native.Mathlib.Omega.{arith}
use lib.ListN.{length, length-append}
use Rattle.print.specs.Decimal.{decimal_of}
use Rattle.listing.specs.Listing.{space}
use Rattle.listing.proofs.Laws.{short_number, long_number, laid_line}
use Rattle.listing.proofs.line.Goals as goal

pub number-second-requires : goal.number-second-requires
number-second-requires c =
    let n = length c.args.image.now in
    omega (
      arith,
      short_number c.args.k c.requires.number,
      long_number n c.requires.size,
      c.number-first.ensures.behind,
      length-append (decimal_of n) space,
    )

pub returns-clause-laid : goal.returns-clause-laid
returns-clause-laid c =
    laid_line _ _ _ _ _ _ _ _ _ _ (omega (arith, c.requires.room)) c.number-first.ensures c.number-second.ensures c.sum.ensures
