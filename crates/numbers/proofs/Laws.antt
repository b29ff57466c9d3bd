-- A number that was written is read back: from its bytes alone, and from the place where they stand among others.
-- Assumes nothing.
use Prim.Native.Nat.{ℕ, ◌+◌, ◌*◌, ◌/◌, ◌%◌, ◌^◌, ◌≤◌, ◌<◌}
use mathlib.Core.List.{List, [], ◌∷◌, ◌++◌, append_assoc}
use mathlib.Core.Path.{◌≡◌, sym, ap, ap₂, ◌∙◌}
use native.Mathlib.Nat.{zero-add, add-mul-div_right, add-mul-mod_self_right, div-div-eq-div-mul, div-eq_of_lt, mod-add-div', mod-eq_of_lt}
use native.Mathlib.Numerals.{add-one}
use native.Mathlib.Omega.{arith}
use lib.ListN.{length, get_or, take, drop}
use lib.Seq.{get_or-append-add, drop-cons, drop-drop, take-add}
use Rattle.numbers.specs.Numbers.{word_at, long_at, bytes2, bytes3, bytes4}

-- a number is its low bytes, if it has no more
pub two_bytes : (n : ℕ) → n < 2 ^ 16 → word_at (bytes2 n) 0 ≡ n
two_bytes n h = omega arith

pub three_bytes : (n : ℕ) → n < 2 ^ 24 → word_at (bytes3 n) 0 + get_or (bytes3 n) 2 0 * 65536 ≡ n
three_bytes n h = let high : n / 256 / 256 ≡ n / 65536 = div-div-eq-div-mul n 256 256 in omega arith

joined :
    (n a b d w x y z : ℕ) → w + a * 256 ≡ n → x + b * 256 ≡ a → y + d * 256 ≡ b → z ≡ d
    → w + x * 256 + (y + z * 256) * 65536 ≡ n
joined n a b d w x y z e f g h = omega arith

pub four_bytes : (n : ℕ) → n < 2 ^ 32 → long_at (bytes4 n) 0 ≡ n
four_bytes n h =
    let high : n / 256 / 256 ≡ n / 65536 = div-div-eq-div-mul n 256 256 in
    let top : n / 65536 / 256 ≡ n / 16777216 = div-div-eq-div-mul n 65536 256 in
    joined n (n / 256) (n / 65536) (n / 16777216) _ _ _ _
    (mod-add-div' n 256)
    (rw high at (mod-add-div' (n / 256) 256))
    (rw top at (mod-add-div' (n / 65536) 256))
    (mod-eq_of_lt (omega arith))

-- a low byte and the rest come apart again
module _ (x q : ℕ) (h : x < 256) where
  low_of : (x + q * 256) % 256 ≡ x
  low_of = add-mul-mod_self_right x q 256 ∙ mod-eq_of_lt h

  high_of : (x + q * 256) / 256 ≡ q
  high_of = add-mul-div_right x q (omega arith) ∙ ap (λ (d : ℕ). d + q) (div-eq_of_lt h) ∙ zero-add q

-- so bytes are those of the number that they make
pub of_two_bytes : (x y : ℕ) → x < 256 → y < 256 → bytes2 (x + y * 256) ≡ x ∷ y ∷ []
of_two_bytes x y hx hy =
    ap₂ (λ (a b : ℕ). a ∷ b ∷ []) (low_of x y hx) (ap (λ (n : ℕ). n % 256) (high_of x y hx) ∙ mod-eq_of_lt hy)

pub of_four_bytes :
    (x y z w : ℕ) → x < 256 → y < 256 → z < 256 → w < 256
    → bytes4 (x + y * 256 + (z + w * 256) * 65536) ≡ x ∷ y ∷ z ∷ w ∷ []
of_four_bytes x y z w hx hy hz hw =
    let b : ℕ = z + w * 256 in
    let a : ℕ = y + b * 256 in
    let n : ℕ = x + y * 256 + b * 65536 in
    let joined : n ≡ x + a * 256 = omega arith in
    let one : n / 256 ≡ a = ap (λ (k : ℕ). k / 256) joined ∙ high_of x a hx in
    let two : n / 65536 ≡ b = sym (div-div-eq-div-mul n 256 256) ∙ ap (λ (k : ℕ). k / 256) one ∙ high_of y b hy in
    let three : n / 16777216 ≡ w = sym (div-div-eq-div-mul n 65536 256) ∙ ap (λ (k : ℕ). k / 256) two ∙ high_of z w hz in
    ap₂ ◌++◌
    (ap₂ (λ (k l : ℕ). k ∷ l ∷ []) (ap (λ (k : ℕ). k % 256) joined ∙ low_of x a hx) (ap (λ (k : ℕ). k % 256) one ∙ low_of y b hy))
    (ap₂ (λ (k l : ℕ). k ∷ l ∷ []) (ap (λ (k : ℕ). k % 256) two ∙ low_of z w hz) (ap (λ (k : ℕ). k % 256) three ∙ mod-eq_of_lt hw))

-- what stands at a place where a second list has begun stands in that list
module _ (before after : List ℕ) where
  byte_on : (at k : ℕ) → at ≡ length before + k → get_or (before ++ after) at 0 ≡ get_or after k 0
  byte_on at k e = ap (λ (i : ℕ). get_or (before ++ after) i 0) e ∙ get_or-append-add before after k 0

  pub word_on : (at k : ℕ) → at ≡ length before + k → word_at (before ++ after) at ≡ word_at after k
  word_on at k e = ap₂ (λ (x y : ℕ). x + y * 256) (byte_on at k e) (byte_on (at + 1) (k + 1) (omega arith))

  pub long_on : (at k : ℕ) → at ≡ length before + k → long_at (before ++ after) at ≡ long_at after k
  long_on at k e = ap₂ (λ (x y : ℕ). x + y * 65536) (word_on at k e) (word_on (at + 2) (k + 2) (omega arith))

-- what was written is read back, whatever stands around it
module _ (before after : List ℕ) (n : ℕ) where
  pub word_back : n < 2 ^ 16 → word_at (before ++ bytes2 n ++ after) (length before) ≡ n
  word_back h =
      ap (λ (l : List ℕ). word_at l (length before)) (append_assoc before (bytes2 n) after)
      ∙ word_on before (bytes2 n ++ after) (length before) 0 (omega arith)
      ∙ two_bytes n h

  pub long_back : n < 2 ^ 32 → long_at (before ++ bytes4 n ++ after) (length before) ≡ n
  long_back h =
      ap (λ (l : List ℕ). long_at l (length before)) (append_assoc before (bytes4 n) after)
      ∙ long_on before (bytes4 n ++ after) (length before) 0 (omega arith)
      ∙ four_bytes n h

-- what stands at a place is the number that is read there, in bytes
module _ (bytes : List ℕ) (b : (i : ℕ) → get_or bytes i 0 < 256) where
  two_at : (at : ℕ) → at + 2 ≤ length bytes → take 2 (drop at bytes) ≡ get_or bytes at 0 ∷ get_or bytes (at + 1) 0 ∷ []
  two_at at h =
      ap (take 2) (drop-cons bytes at 0 (omega arith))
      ∙ ap (λ (l : List ℕ). get_or bytes at 0 ∷ take 1 l)
      (ap (λ (i : ℕ). drop i bytes) (sym (add-one at)) ∙ drop-cons bytes (at + 1) 0 (omega arith))

  pub word_taken : (at : ℕ) → at + 2 ≤ length bytes → bytes2 (word_at bytes at) ≡ take 2 (drop at bytes)
  word_taken at h = of_two_bytes _ _ (b at) (b (at + 1)) ∙ sym (two_at at h)

  pub long_taken : (at : ℕ) → at + 4 ≤ length bytes → bytes4 (long_at bytes at) ≡ take 4 (drop at bytes)
  long_taken at h =
      of_four_bytes _ _ _ _ (b at) (b (at + 1)) (b (at + 2)) (b (at + 2 + 1))
      ∙ sym
      (take-add 2 2 (drop at bytes)
      ∙ ap₂ ◌++◌ (two_at at (omega arith)) (ap (take 2) (drop-drop 2 at bytes) ∙ two_at (at + 2) (omega arith)))

  pub long_fits : (at : ℕ) → long_at bytes at < 2 ^ 32
  long_fits at = omega (arith, b at, b (at + 1), b (at + 2), b (at + 2 + 1))
