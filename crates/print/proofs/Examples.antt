-- Numbers and their digits: none but zero begins with a zero, and the most significant digit stands first. Assumes nothing.
use mathlib.Core.List.{[], ◌∷◌}
use mathlib.Core.Path.{◌≡◌, refl}
use Rattle.print.specs.Decimal.{digits_of, decimal_of}

pub record Printed : Type 0 where
  zero_is : decimal_of 0 ≡ 48 ∷ []
  nine_is : decimal_of 9 ≡ 57 ∷ []
  ten_is : decimal_of 10 ≡ 49 ∷ 48 ∷ []
  most_is : decimal_of 65536 ≡ 54 ∷ 53 ∷ 53 ∷ 51 ∷ 54 ∷ []

pub printed_examples : Printed
unfolding decimal_of digits_of
printed_examples = record { zero_is = refl; nine_is = refl; ten_is = refl; most_is = refl }
