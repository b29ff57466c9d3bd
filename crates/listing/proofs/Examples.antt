-- The worked example's text, and that of bytes that are no bundle. Assumes nothing.
use mathlib.Core.List.{[], ◌∷◌}
use mathlib.Core.Path.{◌≡◌, refl}
use Rattle.crc.specs.Crc.{bit_step, bit_steps, byte_step, crc_from, crc_of}
use Rattle.print.specs.Decimal.{digits_of, decimal_of}
use Rattle.print.specs.Hex.{digit_of}
use Rattle.bundle.specs.Bundle.{read_from, read_of, part_of, image_of}
use Rattle.bundle.proofs.Examples.{file}
use Rattle.listing.specs.Listing.{line_of, lines_from, list_of}

-- "images 1", "0 9 340BC6D9", each ended by a line feed
pub listed_example :
    list_of file
    ≡ 105 ∷ 109 ∷ 97 ∷ 103 ∷ 101 ∷ 115 ∷ 32 ∷ 49 ∷ 10
    ∷ 48 ∷ 32 ∷ 57 ∷ 32 ∷ 51 ∷ 52 ∷ 48 ∷ 66 ∷ 67 ∷ 54 ∷ 68 ∷ 57 ∷ 10 ∷ []
unfolding list_of lines_from line_of read_of read_from part_of image_of decimal_of digits_of digit_of crc_of crc_from byte_step bit_steps bit_step
listed_example = refl

-- "refused"
pub refused_example : list_of [] ≡ 114 ∷ 101 ∷ 102 ∷ 117 ∷ 115 ∷ 101 ∷ 100 ∷ 10 ∷ []
unfolding list_of read_of
refused_example = refl
