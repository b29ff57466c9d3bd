-- The laws of the sum: bytes in a row, its bound, its check value, and the table step. Assumes nothing.
use mathlib.Core.Path.{◌≡◌, refl, sym, ap, ap₂, ◌∙◌}
use mathlib.Core.Bool.{cond}
use mathlib.Core.List.{List, [], ◌∷◌, ◌++◌, foldl-append}
use Prim.Native.Nat.{ℕ, zero, suc, ◌*◌, ◌/◌, ◌%◌, ◌^◌, ◌<◌}
use native.Mathlib.Nat.{div-le_self, div-eq_of_lt, lt_of_le_of_lt, mod-lt}
use native.Mathlib.Omega.{arith}
use lib.Dec.{eqb}
use lib.ListN.{get_or}
use lib.Bits.{bit_xor, differ, xor_lt, xor_shr, xor_zero_r, shifted_half, shifted_even}
use Rattle.crc.specs.Crc.{polynomial, start, bit_step, bit_steps, byte_step, crc_from, crc_of, remainders}
use Rattle.crc.proofs.Values.{values_at}
use Rattle.crc.proofs.Bits.{of_digits, low_digit, xor_low, xor_swap, high_xor_low}

-- bytes in a row are summed one list after the other
pub crc_append : (c : ℕ) (xs ys : List ℕ) → crc_from c (xs ++ ys) ≡ crc_from (crc_from c xs) ys
unfolding crc_from
crc_append c xs ys = foldl-append byte_step c xs ys

-- a sum goes on over further bytes
pub crc_of-append : (s : ℕ) (xs ys : List ℕ) → s ≡ crc_of xs → crc_from s ys ≡ crc_of (xs ++ ys)
unfolding crc_of
crc_of-append s xs ys e = rw e (sym (crc_append start xs ys))

-- the published check: the sum of the ASCII bytes 123456789
pub check_value : crc_of (49 ∷ 50 ∷ 51 ∷ 52 ∷ 53 ∷ 54 ∷ 55 ∷ 56 ∷ 57 ∷ []) ≡ 0x340B_C6D9
unfolding crc_of crc_from byte_step bit_steps bit_step
check_value = refl

-- ---- the sum has 32 bits

-- what a bit step takes in beside the half
abbrev added : ℕ → ℕ
added digit = cond (eqb digit 1) polynomial 0

bit_fits : (c : ℕ) → c < 2 ^ 32 → bit_step c < 2 ^ 32
unfolding bit_step
bit_fits c h =
    xor_lt 32 (c / 2) (added (c % 2)) (lt_of_le_of_lt (div-le_self c 2) h)
    (of_digits (λ (d : ℕ). added d < 2 ^ 32) (omega arith) (omega arith) (c % 2) (low_digit c))

pub bits_fit : (n c : ℕ) → c < 2 ^ 32 → bit_steps n c < 2 ^ 32
unfolding bit_steps
bits_fit zero c h = h
bits_fit (suc n) c h = bits_fit n (bit_step c) (bit_fits c h)

-- taking in a byte keeps to 32 bits, and so do the sums
pub byte_fits : (c x : ℕ) → c < 2 ^ 32 → x < 256 → byte_step c x < 2 ^ 32
unfolding byte_step
byte_fits c x h b = bits_fit 8 (bit_xor c x) (xor_lt 32 c x h (omega arith))

pub crc_fits : (c : ℕ) (xs : List ℕ) → c < 2 ^ 32 → ((i : ℕ) → get_or xs i 0 < 256) → crc_from c xs < 2 ^ 32
unfolding crc_from
crc_fits c [] h b = h
crc_fits c (x ∷ xs) h b = crc_fits (byte_step c x) xs (byte_fits c x h (b 0)) (λ i. b (suc i))

pub crc_of_fits : (xs : List ℕ) → ((i : ℕ) → get_or xs i 0 < 256) → crc_of xs < 2 ^ 32
unfolding crc_of
crc_of_fits xs b = crc_fits start xs (omega arith) b

-- ---- the table step: bit steps are linear over xor, and a byte of zeros only moves the rest down

added_differ : (x y : ℕ) → x < 2 → y < 2 → added (differ x y) ≡ bit_xor (added x) (added y)
added_differ x y hx hy =
    of_digits (λ (a : ℕ). added (differ a y) ≡ bit_xor (added a) (added y)) refl
    (of_digits (λ (b : ℕ). added (differ 1 b) ≡ bit_xor (added 1) (added b)) refl refl y hy) x hx

-- linear over xor: a bit, and so many bits
pub bit_xor_lem : (a b : ℕ) → bit_step (bit_xor a b) ≡ bit_xor (bit_step a) (bit_step b)
unfolding bit_step
bit_xor_lem a b =
    ap₂ (λ (h d : ℕ). bit_xor h (added d)) (xor_shr a b 1) (xor_low a b)
    ∙ ap (bit_xor (bit_xor (a / 2) (b / 2))) (added_differ (a % 2) (b % 2) (low_digit a) (low_digit b))
    ∙ xor_swap (a / 2) (b / 2) (added (a % 2)) (added (b % 2))

pub bits_xor : (n a b : ℕ) → bit_steps n (bit_xor a b) ≡ bit_xor (bit_steps n a) (bit_steps n b)
unfolding bit_steps
bits_xor zero a b = refl
bits_xor (suc n) a b = ap (bit_steps n) (bit_xor_lem a b) ∙ bits_xor n (bit_step a) (bit_step b)

-- digits that are all clear go away, and the rest moves down
bit_shifted : (a k : ℕ) → bit_step (a * 2 ^ suc k) ≡ a * 2 ^ k
unfolding bit_step
bit_shifted a k =
    ap₂ (λ (h d : ℕ). bit_xor h (added d)) (shifted_half a k) (shifted_even a k) ∙ xor_zero_r (a * 2 ^ k)

pub bits_shifted : (k a : ℕ) → bit_steps k (a * 2 ^ k) ≡ a
unfolding bit_steps
bits_shifted zero a = omega arith
bits_shifted (suc k) a = ap (bit_steps k) (bit_shifted a k) ∙ bits_shifted k a

-- each entry of the table is the remainder of its place
pub remainder_at : (i : ℕ) → i < 256 → get_or remainders i 0 ≡ bit_steps 8 i
unfolding remainders
remainder_at i h = values_at (bit_steps 8) 256 i h

-- eight bits at once: the low byte picks its remainder
pub table_step : (c x : ℕ) → x < 256 → byte_step c x ≡ bit_xor (c / 256) (get_or remainders (bit_xor c x % 256) 0)
unfolding byte_step
table_step c x h =
    ap (bit_steps 8) (high_xor_low (bit_xor c x))
    ∙ bits_xor 8 (bit_xor c x / 256 * 256) (bit_xor c x % 256)
    ∙ ap₂ bit_xor (bits_shifted 8 (bit_xor c x / 256) ∙ high) (sym (remainder_at (bit_xor c x % 256) (mod-lt (bit_xor c x) (omega arith))))
  where
    high : bit_xor c x / 256 ≡ c / 256
    high = xor_shr c x 8 ∙ ap (bit_xor (c / 256)) (div-eq_of_lt h) ∙ xor_zero_r (c / 256)
