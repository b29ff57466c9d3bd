-- Digits as a text that is printed: hexadecimal ones are UTF-8, and decimal ones are those that std writes for `{}`. Assumes nothing.
use Prim.Native.Nat.{ℕ, zero, suc, ◌+◌, ◌/◌, ◌%◌, ◌^◌, ◌≤◌, ◌<◌}
use mathlib.Core.List.{List, [], ◌∷◌, ◌++◌}
use mathlib.Core.Path.{◌≡◌, ap, ◌∙◌}
use native.Mathlib.Omega.{arith}
use Rattle.std.specs.Fmt.{decimal}
use Rattle.std.specs.Str.{IsAscii, IsUtf8}
use Rattle.std.proofs.lemmas.Bool.Decides.{nat_tests}
use Rattle.std.proofs.lemmas.Fmt.{decimal_by_steps}
use Rattle.std.proofs.lemmas.Str.{IsUtf8-from_ascii}
use Rattle.print.specs.Decimal.{last_digit, decimal_of}
use Rattle.print.specs.Hex.{digit_of, hex_of}
use Rattle.print.proofs.Laws.{decimal_one, decimal_more}

digit_ascii : (n : ℕ) → digit_of n < 128
unfolding digit_of
digit_ascii n = grind (arith, nat_tests)

hex_ascii : (n : ℕ) → IsAscii (hex_of n)
hex_ascii n zero = digit_ascii (n / 16 ^ 7)
hex_ascii n (suc zero) = digit_ascii (n / 16 ^ 6)
hex_ascii n (suc (suc zero)) = digit_ascii (n / 16 ^ 5)
hex_ascii n (suc (suc (suc zero))) = digit_ascii (n / 16 ^ 4)
hex_ascii n (suc (suc (suc (suc zero)))) = digit_ascii (n / 16 ^ 3)
hex_ascii n (suc (suc (suc (suc (suc zero))))) = digit_ascii (n / 16 ^ 2)
hex_ascii n (suc (suc (suc (suc (suc (suc zero)))))) = digit_ascii (n / 16)
hex_ascii n (suc (suc (suc (suc (suc (suc (suc zero))))))) = digit_ascii n
hex_ascii n (suc (suc (suc (suc (suc (suc (suc (suc i)))))))) = omega arith

pub hex_text : (n : ℕ) → IsUtf8 (hex_of n)
hex_text n = IsUtf8-from_ascii (hex_of n) (hex_ascii n)

pub decimal_text : (n : ℕ) → n < 2 ^ 64 → decimal_of n ≡ decimal n
decimal_text =
    decimal_by_steps (λ n ds. decimal_of n ≡ ds) one more
  where
    one : (n : ℕ) → n < 10 → decimal_of n ≡ (48 + n) ∷ []
    one n h = let e : 48 + n % 10 ≡ 48 + n = omega arith in decimal_one n h ∙ ap (λ (d : ℕ). d ∷ []) e

    more : (n : ℕ) (ds : List ℕ) → 10 ≤ n → decimal_of (n / 10) ≡ ds → decimal_of n ≡ ds ++ (48 + n % 10) ∷ []
    more n ds h e = decimal_more n h ∙ ap (λ (x : List ℕ). x ++ last_digit n) e
