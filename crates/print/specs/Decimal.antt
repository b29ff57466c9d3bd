-- A number's decimal digits in ASCII, the most significant first.
use Rattle.std.specs.Prelude.{ℕ, zero, suc, ◌+◌, ◌/◌, ◌%◌, cond, List, [], ◌∷◌, ◌++◌, ltb}

-- the last digit of a number
abbrev pub last_digit : ℕ → List ℕ
last_digit n = (48 + n % 10) ∷ []

-- it stands behind those of the quotient by ten; `most` is a bound on how many there are
unfoldable pub digits_of : ℕ → ℕ → List ℕ
digits_of zero n = []
digits_of (suc most) n = cond (ltb n 10) (last_digit n) (digits_of most (n / 10) ++ last_digit n)

-- no number has more digits than one more than itself
unfoldable pub decimal_of : ℕ → List ℕ
decimal_of n = digits_of (suc n) n
