-- The digits of a number are those of its quotient by ten and its last one, however many they may be. Assumes nothing.
use Prim.Native.Nat.{ℕ, zero, suc, ◌+◌, ◌*◌, ◌/◌, ◌^◌, ◌≤◌, ◌<◌}
use mathlib.Core.List.{List, ◌++◌}
use mathlib.Core.Path.{◌≡◌, refl, sym, ap, subst, ◌∙◌}
use native.Mathlib.Decide.{dec_lt}
use native.Mathlib.Numerals.{unary_clauses}
use native.Mathlib.Omega.{arith}
use lib.ListN.{length, length-append}
use borrow.Author.Tests.{lt-ltb, le-ltb}
use Rattle.pieces.specs.Pieces.{Laid}
use Rattle.pieces.proofs.Laws.{laid_more}
use Rattle.print.specs.Decimal.{last_digit, digits_of, decimal_of}

-- a number below ten is its digit, any other has more
digits_one : (most n : ℕ) → n < 10 → digits_of (suc most) n ≡ last_digit n
unfolding digits_of
digits_one most n h = rw (lt-ltb n 10 h)

digits_more : (most n : ℕ) → 10 ≤ n → digits_of (suc most) n ≡ digits_of most (n / 10) ++ last_digit n
unfolding digits_of
digits_more most n h = rw (le-ltb n 10 h)

-- any bound will do
digits_same : (most other n : ℕ) → n < most → n < other → digits_of most n ≡ digits_of other n
digits_same zero other n h k = absurd (omega arith)
digits_same (suc most) zero n h k = absurd (omega arith)
digits_same (suc most) (suc other) n h k =
    elim (dec_lt n 10) [
      | yes l ↦ digits_one most n l ∙ sym (digits_one other n l)
      | no l ↦
          let ten : 10 ≤ n = omega arith in
          digits_more most n ten
          ∙ ap (λ (x : List ℕ). x ++ last_digit n) (digits_same most other (n / 10) (omega arith) (omega arith))
          ∙ sym (digits_more other n ten)
    ]

pub decimal_one : (n : ℕ) → n < 10 → decimal_of n ≡ last_digit n
unfolding decimal_of
decimal_one n h = digits_one n n h

pub decimal_more : (n : ℕ) → 10 ≤ n → decimal_of n ≡ decimal_of (n / 10) ++ last_digit n
unfolding decimal_of
decimal_more n h =
    digits_more n n h
    ∙ ap (λ (x : List ℕ). x ++ last_digit n) (digits_same n (suc (n / 10)) (n / 10) (omega arith) (omega arith))

length_one : (n : ℕ) → n < 10 → length (decimal_of n) ≡ 1
length_one n h = ap length (decimal_one n h)

pub length_more : (n : ℕ) → 10 ≤ n → length (decimal_of n) ≡ length (decimal_of (n / 10)) + 1
length_more n h = ap length (decimal_more n h) ∙ length-append (decimal_of (n / 10)) (last_digit n)

-- so the last digit is laid behind the others
pub laid_behind :
    (b c d : List ℕ) (at m r n : ℕ) → 10 ≤ n → at ≤ length b → Laid b c at m (decimal_of (n / 10)) → Laid c d m r (last_digit n)
    → Laid b d at r (decimal_of n)
laid_behind b c d at m r n h room higher last =
    subst (λ (l : List ℕ). Laid b d at r l) (sym (decimal_more n h))
    (laid_more b c d at m r (decimal_of (n / 10)) (last_digit n) room higher last)

-- a number below a power of ten has no more digits than that
pub decimal_short : (d n : ℕ) → n < 10 ^ suc d → length (decimal_of n) ≤ suc d
decimal_short zero n h = omega (arith, length_one n (omega arith))
decimal_short (suc d) n h =
    elim (dec_lt n 10) [
      | yes l ↦ omega (arith, length_one n l)
      | no l ↦
          let p : ℕ = 10 ^ suc d in
          let e : 10 ^ suc (suc d) ≡ p * 10 = simp unary_clauses refl in
          let fewer : length (decimal_of (n / 10)) ≤ suc d = decimal_short d (n / 10) (omega arith) in
          omega (arith, length_more n (omega arith))
    ]
