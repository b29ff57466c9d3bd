-- A worked example: the bundle of the one image 123456789; one damage for each refusal; and that such images may be in a bundle.
-- Assumes nothing.
use Prim.Native.Nat.{ℕ, zero, suc, ◌+◌, ◌-◌, ◌^◌, ◌≤◌, ◌<◌}
use mathlib.Core.Bool.{true, false}
use mathlib.Core.List.{List, [], ◌∷◌, ◌++◌}
use mathlib.Core.Path.{◌≡◌, refl}
use native.Mathlib.Omega.{arith}
use lib.ListN.{get_or, take, set, replicate}
use Rattle.bundle.specs.declared.Refusal.TheVariants.{Short, Count, Table, Offset, Empty, Past, LeftOver}
use Rattle.std.specs.Prelude.{Ok, Err}
use Rattle.bundle.specs.declared.reasons.Unwritten.TheVariants.{WrongCount, EmptyImage, NoRoom, WrongLengths}
use Rattle.bundle.specs.Bundle.{entries_of, bundle_of, read_from, read_of, part_of, image_of, fits_in, total, left, write_of}
use Rattle.bundle.specs.Claims.{Legal, bundled}

-- the ASCII bytes 123456789
abbrev pub digits : List ℕ
digits = 49 ∷ 50 ∷ 51 ∷ 52 ∷ 53 ∷ 54 ∷ 55 ∷ 56 ∷ 57 ∷ []

abbrev pub file : List ℕ
file = 1 ∷ 0 ∷ 10 ∷ 0 ∷ 0 ∷ 0 ∷ 9 ∷ 0 ∷ 0 ∷ 0 ∷ 49 ∷ 50 ∷ 51 ∷ 52 ∷ 53 ∷ 54 ∷ 55 ∷ 56 ∷ 57 ∷ []

pub written_example : bundled (digits ∷ []) ≡ file
unfolding bundle_of entries_of
written_example = refl

pub read_example : read_of file ≡ Ok 1
unfolding read_of read_from
read_example = refl

pub image_example : image_of file 0 ≡ digits
unfolding read_of read_from part_of image_of
image_example = refl

pub record Refusals : Type 0 where
  short : read_of (take 1 file) ≡ Err Short
  no_image : read_of (set file 0 0) ≡ Err Count
  too_many : read_of (set file 0 33) ≡ Err Count
  table : read_of (take 9 file) ≡ Err Table
  offset : read_of (set file 2 11) ≡ Err Offset
  empty : read_of (set file 6 0) ≡ Err Empty
  past : read_of (set file 6 10) ≡ Err Past
  left_over : read_of (set file 6 8) ≡ Err LeftOver

pub refusal_examples : Refusals
unfolding read_of read_from
refusal_examples =
    record {
      short = refl;
      no_image = refl;
      too_many = refl;
      table = refl;
      offset = refl;
      empty = refl;
      past = refl;
      left_over = refl;
    }

-- the borders of 32 bits, for the only image and for the one behind it; and the most images
pub record Borders : Type 0 where
  longest : fits_in (2 ^ 33) 10 ((2 ^ 32 - 1) ∷ []) ≡ true
  too_long : fits_in (2 ^ 33) 10 ((2 ^ 32) ∷ []) ≡ false
  farthest : fits_in (2 ^ 33) 18 ((2 ^ 32 - 19) ∷ 1 ∷ []) ≡ true
  too_far : fits_in (2 ^ 33) 18 ((2 ^ 32 - 18) ∷ 1 ∷ []) ≡ false
  most : read_of (bundled (replicate 32 (7 ∷ []))) ≡ Ok 32

pub border_examples : Borders
unfolding fits_in bundle_of entries_of read_of read_from
border_examples = record { longest = refl; too_long = refl; farthest = refl; too_far = refl; most = refl }

-- the writer: each refusal, the first of those that hold, and what it writes
pub record Writings : Type 0 where
  no_image : write_of [] [] [] ≡ left (Err WrongCount) []
  too_many : write_of (replicate 33 0) [] [] ≡ left (Err WrongCount) []
  empty : write_of (9 ∷ 0 ∷ []) digits [] ≡ left (Err EmptyImage) []
  no_room : write_of (9 ∷ []) [] (replicate 18 255) ≡ left (Err NoRoom) (replicate 18 255)
  lengths : write_of (8 ∷ []) digits (replicate 19 255) ≡ left (Err WrongLengths) (replicate 19 255)
  written : write_of (9 ∷ []) digits (replicate 20 255) ≡ left (Ok 19) (file ++ 255 ∷ [])

pub writing_examples : Writings
unfolding fits_in total bundle_of entries_of write_of
writing_examples =
    record { no_image = refl; too_many = refl; empty = refl; no_room = refl; lengths = refl; written = refl }

-- what holds for nine holds for the length of the only image
only_length : (P : ℕ → Type 0) → P 9 → (k : ℕ) → k < 1 → P (get_or (9 ∷ []) k 0)
only_length P p zero h = p
only_length P p (suc k) h = absurd (omega arith)

only_start : (k : ℕ) → k < 1 → 10 + total (take k (9 ∷ [])) < 2 ^ 32
unfolding total
only_start zero h = omega arith
only_start (suc k) h = absurd (omega arith)

pub legal_example : Legal (digits ∷ [])
legal_example =
    record {
      counted = record { some = omega arith; few = omega arith };
      full = only_length (λ (n : ℕ). 1 ≤ n) (omega arith);
      narrow = record { starts = only_start; sizes = only_length (λ (n : ℕ). n < 2 ^ 32) (omega arith) };
    }
