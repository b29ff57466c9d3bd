-- The entries that many bits make, in few steps: k squarings of the bit step's 32 columns are 2 ^ k bit steps. Assumes nothing.
use mathlib.Core.Path.{◌≡◌, refl, sym, ap, ap₂, ◌∙◌, subst}
use mathlib.Core.Bool.{cond}
use mathlib.Core.List.{List, [], ◌∷◌, map}
use Prim.Native.Nat.{ℕ, zero, suc, ◌+◌, ◌*◌, ◌/◌, ◌%◌, ◌^◌, ◌≤◌, ◌<◌}
use native.Mathlib.Nat.{zero-mul, one-mul, mul-one, lt_of_lt_of_le, two-pow-succ}
use native.Mathlib.Numerals.{add-one}
use native.Mathlib.Omega.{arith}
use lib.Dec.{eqb}
use lib.Pow.{pow_mono, pow-lt, shl_lt, shr_lt}
use lib.Bits.{bit_xor}
use Rattle.crc.specs.Values.{values}
use Rattle.crc.specs.Crc.{bit_step, bit_steps}
use Rattle.crc.specs.Join.{half_rows, past_halves}
use Rattle.crc.proofs.Values.{values_same, map-values}
use Rattle.crc.proofs.Bits.{of_digits, low_digit, parted}
use Rattle.crc.proofs.Laws.{bits_fit, bits_xor}
use Rattle.crc.proofs.Joins.{bits_add, bits_none}

-- what a list of columns makes of a number: the xor of those whose bit is set, the lowest bit's first
unfoldable pub through : List ℕ → ℕ → ℕ
through [] n = 0
through (column ∷ columns) n = bit_xor (cond (eqb (n % 2) 1) column 0) (through columns (n / 2))

-- the columns of doing twice what these do
unfoldable pub squared : List ℕ → List ℕ
squared columns = map (through columns) columns

-- the columns of so many squarings of the bit step
unfoldable pub columns_of : ℕ → List ℕ
columns_of zero = values (λ j. bit_step (2 ^ j)) 0 32
columns_of (suc k) = squared (columns_of k)

-- what columns make of each half byte at each of its places
unfoldable pub halves : List ℕ → List (List ℕ)
halves columns = half_rows (through columns) 0 8

-- the columns of m bit steps make of a number what the steps make of it
abbrev of_steps : ℕ → ℕ → ℕ
of_steps m j = bit_steps m (2 ^ j)

through_steps : (m n j x : ℕ) → x < 2 ^ n → through (values (of_steps m) j n) x ≡ bit_steps m (x * 2 ^ j)
unfolding through values
through_steps m zero j x h =
    let none : x ≡ 0 = omega arith in
    sym (ap (λ (y : ℕ). bit_steps m (y * 2 ^ j)) none ∙ ap (bit_steps m) (zero-mul (2 ^ j)) ∙ bits_none m)
through_steps m (suc n) j x h =
    ap₂ bit_xor
    (of_digits (λ (d : ℕ). cond (eqb d 1) (of_steps m j) 0 ≡ bit_steps m (d * 2 ^ j))
    (sym (ap (bit_steps m) (zero-mul (2 ^ j)) ∙ bits_none m))
    (ap (bit_steps m) (sym (one-mul (2 ^ j))))
    (x % 2) (low_digit x))
    (through_steps m n (j + 1) (x / 2) (shr_lt n 1 (subst (λ (k : ℕ). x < 2 ^ k) (sym (add-one n)) h)))
    ∙ sym (bits_xor m (x % 2 * 2 ^ j) (x / 2 * 2 ^ (j + 1)))
    ∙ ap (bit_steps m) (parted 1 j x)

-- k squarings of the bit step are 2 ^ k of it
one_step : columns_of 0 ≡ values (of_steps 1) 0 32
unfolding columns_of bit_steps
one_step = refl

columns_are : (k : ℕ) → columns_of k ≡ values (of_steps (2 ^ k)) 0 32
unfolding columns_of squared
columns_are zero = one_step
columns_are (suc k) =
    let m : ℕ = 2 ^ k in
    ap squared (columns_are k)
    ∙ map-values (through (values (of_steps m) 0 32)) (of_steps m) 0 32
    ∙ values_same _ (of_steps (2 ^ suc k)) 32 λ j lt.
    through_steps m 32 0 (of_steps m j) (bits_fit m (2 ^ j) (pow-lt lt))
    ∙ ap (bit_steps m) (mul-one (of_steps m j))
    ∙ sym (bits_add m m (2 ^ j))
    ∙ ap (λ (n : ℕ). bit_steps n (2 ^ j)) (sym (two-pow-succ k))

-- two functions that make the same of all numbers of 32 bits have the same rows
rows_same :
    (f g : ℕ → ℕ) (n place : ℕ) → place + n ≡ 8 → ((x : ℕ) → x < 2 ^ 32 → f x ≡ g x) → half_rows f place n ≡ half_rows g place n
unfolding half_rows
rows_same f g zero place e h = refl
rows_same f g (suc n) place e h =
    ap₂ (λ (row : List ℕ) (rows : List (List ℕ)). row ∷ rows)
    (values_same _ _ 16 λ digit lt.
    let narrow : 4 + place * 4 ≤ 32 = omega arith in
    h (digit * 2 ^ (place * 4)) (lt_of_lt_of_le (shl_lt 4 (place * 4) lt) (pow_mono narrow)))
    (rows_same f g n (place + 1) (omega arith) h)

pub halves_are : (k : ℕ) → halves (columns_of k) ≡ past_halves (2 ^ k)
unfolding halves past_halves
halves_are k =
    rows_same (through (columns_of k)) (bit_steps (2 ^ k)) 8 0 refl λ x lt.
    ap (λ (columns : List ℕ). through columns x) (columns_are k) ∙ through_steps (2 ^ k) 32 0 x lt ∙ ap (bit_steps (2 ^ k)) (mul-one x)
