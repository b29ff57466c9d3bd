use Rattle.std.specs.Prelude.{ℕ, ◌+◌, ◌/◌, ◌%◌, ◌^◌, cond, List, [], ◌∷◌, ltb}

-- the ASCII code of the last hexadecimal digit of n: 0 to 9, then A to F
unfoldable pub digit_of : ℕ → ℕ
digit_of n = cond (ltb (n % 16) 10) (48 + n % 16) (55 + n % 16)

-- the eight digits of x, the most significant first
abbrev pub hex_of : ℕ → List ℕ
hex_of x =
    digit_of (x / 16 ^ 7) ∷ digit_of (x / 16 ^ 6) ∷ digit_of (x / 16 ^ 5) ∷ digit_of (x / 16 ^ 4)
    ∷ digit_of (x / 16 ^ 3) ∷ digit_of (x / 16 ^ 2) ∷ digit_of (x / 16) ∷ digit_of x ∷ []
