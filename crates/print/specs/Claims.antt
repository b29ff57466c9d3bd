-- What is promised of decimal digits, of any way to print a number.
use Rattle.std.specs.Prelude.{ℕ, ◌+◌, ◌-◌, ◌*◌, ◌≤◌, ◌<◌, List, [], ◌∷◌, ◌≡◌, length, get_or}

-- the number that digits make behind those that make `high`: the most significant stand first
unfoldable pub value_from : ℕ → List ℕ → ℕ
value_from high [] = high
value_from high (d ∷ ds) = value_from (high * 10 + (d - 48)) ds

-- digits 0 to 9 in ASCII that make a number, with no zero in front but where it is the only one
pub record Prints (digits : List ℕ) (n : ℕ) : Type 0 where
  pub value : value_from 0 digits ≡ n
  pub ascii : (k : ℕ) → k < length digits → (48 ≤ get_or digits k 0) × (get_or digits k 0 < 58)
  pub some : 1 ≤ length digits
  pub no_zero : 1 < length digits → get_or digits 0 0 ≡ 48 → ⊥

-- every number is printed so
abbrev pub PrintsAll : (ℕ → List ℕ) → Type 0
PrintsAll print = (n : ℕ) → Prints (print n) n

-- and there is one way to do it
abbrev pub OneWay : (ℕ → List ℕ) → Type 0
OneWay print = (digits : List ℕ) (n : ℕ) → Prints digits n → digits ≡ print n
