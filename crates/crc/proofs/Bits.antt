-- Xor, one binary digit at a time. Assumes nothing.
use mathlib.Core.Path.{◌≡◌, sym, ap, ◌∙◌}
use Prim.Native.Nat.{ℕ, zero, suc, ◌+◌, ◌*◌, ◌/◌, ◌%◌, ◌^◌, ◌<◌}
use native.Mathlib.Nat.{mod-lt, zero-lt-suc, div-add-mod', add_comm, mul-one, mul_assoc, add-mul}
use native.Mathlib.Omega.{arith}
use lib.Arith.{digits_mod}
use lib.Pow.{pow_pos, pow-add, shl_lt}
use lib.Bits.{bit_xor, differ, xor_assoc, xor_step, xor_comm, xor_shifted}

-- what holds of 0 and of 1 holds of every digit
pub of_digits : (P : ℕ → Type 0) → P 0 → P 1 → (x : ℕ) → x < 2 → P x
of_digits P p q zero h = p
of_digits P p q (suc zero) h = q
of_digits P p q (suc (suc x)) h = absurd (omega arith)

pub low_digit : (n : ℕ) → n % 2 < 2
low_digit n = mod-lt n (zero-lt-suc 1)

differ_digit : (x y : ℕ) → x < 2 → y < 2 → differ x y < 2
differ_digit x y hx hy =
    of_digits (λ (a : ℕ). differ a y < 2) hy (of_digits (λ (b : ℕ). differ 1 b < 2) (omega arith) (omega arith) y hy) x hx

low_differ : (a b : ℕ) → differ (a % 2) (b % 2) < 2
low_differ a b = differ_digit (a % 2) (b % 2) (low_digit a) (low_digit b)

-- the low digit of a xor
pub xor_low : (a b : ℕ) → bit_xor a b % 2 ≡ differ (a % 2) (b % 2)
xor_low a b = ap (λ (x : ℕ). x % 2) (xor_step a b) ∙ digits_mod (bit_xor (a / 2) (b / 2)) (low_differ a b)

-- the two in the middle change places
pub xor_swap : (a b c d : ℕ) → bit_xor (bit_xor a b) (bit_xor c d) ≡ bit_xor (bit_xor a c) (bit_xor b d)
xor_swap a b c d =
    xor_assoc a b (bit_xor c d)
    ∙ ap (bit_xor a) (sym (xor_assoc b c d) ∙ ap (λ (x : ℕ). bit_xor x d) (xor_comm b c) ∙ xor_assoc c b d)
    ∙ sym (xor_assoc a c (bit_xor b d))

-- w digits of a number and the rest of it, wherever they stand
pub parted : (w k n : ℕ) → bit_xor (n % 2 ^ w * 2 ^ k) (n / 2 ^ w * 2 ^ (k + w)) ≡ n * 2 ^ k
parted w k n =
    let low : ℕ = n % 2 ^ w in
    let high : ℕ = n / 2 ^ w in
    ap (λ (p : ℕ). bit_xor (low * 2 ^ k) (high * 2 ^ p)) (add_comm k w)
    ∙ xor_comm (low * 2 ^ k) (high * 2 ^ (w + k))
    ∙ xor_shifted high (w + k) (low * 2 ^ k) (shl_lt w k (mod-lt n (pow_pos w)))
    ∙ ap (λ (p : ℕ). high * p + low * 2 ^ k) (pow-add 2 w k)
    ∙ ap (λ (m : ℕ). m + low * 2 ^ k) (sym (mul_assoc high (2 ^ w) (2 ^ k)))
    ∙ sym (add-mul (high * 2 ^ w) low (2 ^ k))
    ∙ ap (λ (m : ℕ). m * 2 ^ k) (div-add-mod' n (2 ^ w))

-- a number is the xor of its high part and its low byte
pub high_xor_low : (n : ℕ) → n ≡ bit_xor (n / 256 * 256) (n % 256)
high_xor_low n =
    sym (parted 8 0 n ∙ mul-one n) ∙ xor_comm (n % 256 * 1) (n / 256 * 256) ∙ ap (bit_xor (n / 256 * 256)) (mul-one (n % 256))
