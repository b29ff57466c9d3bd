-- Numbers in bytes, little-endian: read from a place of a list, and as a list.
use Rattle.std.specs.Prelude.{ℕ, ◌+◌, ◌*◌, ◌/◌, ◌%◌, List, [], ◌∷◌, get_or}

-- the 16-bit number at a place
abbrev pub word_at : List ℕ → ℕ → ℕ
word_at bytes at = get_or bytes at 0 + get_or bytes (at + 1) 0 * 256

-- the 32-bit number at a place
abbrev pub long_at : List ℕ → ℕ → ℕ
long_at bytes at = word_at bytes at + word_at bytes (at + 2) * 65536

-- the low two, three and four bytes of a number
abbrev pub bytes2 : ℕ → List ℕ
bytes2 n = n % 256 ∷ n / 256 % 256 ∷ []

abbrev pub bytes3 : ℕ → List ℕ
bytes3 n = n % 256 ∷ n / 256 % 256 ∷ n / 65536 % 256 ∷ []

abbrev pub bytes4 : ℕ → List ℕ
bytes4 n = n % 256 ∷ n / 256 % 256 ∷ n / 65536 % 256 ∷ n / 16777216 % 256 ∷ []
