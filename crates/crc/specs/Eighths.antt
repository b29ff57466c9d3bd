-- A part's sum by its eighths: eight sums side by side over one part, joined where the part ends.
use Rattle.std.specs.Prelude.{ℕ, zero, suc, ◌+◌, ◌*◌, ◌<◌, ◌≡◌, length, get_or, set, drop}
use mathlib.Core.List.{List, [], ◌∷◌, foldl}
use Rattle.std.specs.Int.Bits.{bit_xor}
use Rattle.numbers.specs.Numbers.{long_at}
use Rattle.crc.specs.Crc.{bit_steps, byte_step, crc_from}

-- n numbers of a list, from place k on, each by its place and itself
unfoldable pub each_from : (ℕ → ℕ → ℕ) → List ℕ → ℕ → ℕ → List ℕ
each_from f l k zero = l
each_from f l k (suc n) = each_from f (set l k (f k (get_or l k 0))) (k + 1) n

-- the sum of eighth s with the next four bytes of it put in, where the first eighth's stand at a place
abbrev pub with_four : List ℕ → ℕ → ℕ → ℕ → ℕ → ℕ
with_four bytes at eighth s sum = bit_xor sum (long_at bytes (at + s * eighth))

-- a byte of what was put in is gone through
abbrev pub one_byte_on : ℕ → ℕ → ℕ
one_byte_on s sum = byte_step sum 0

-- eight sums of which the first goes on from a running value and the others start from nothing
abbrev pub first_sums : ℕ → List ℕ
first_sums running = running ∷ 0 ∷ 0 ∷ 0 ∷ 0 ∷ 0 ∷ 0 ∷ 0 ∷ []

-- each sum has taken in n bytes of its eighth: the rest of the bytes, from behind them, gives what all from before them gave
pub record Ahead (bytes : List ℕ) (at eighth n : ℕ) (before after : List ℕ) : Type 0 where
  pub long : length after ≡ length before
  pub each :
      (s : ℕ) → s < 8 → s < length before
      → crc_from (get_or after s 0) (drop (at + s * eighth + n) bytes) ≡ crc_from (get_or before s 0) (drop (at + s * eighth) bytes)

-- what was joined so far goes through so many bits, and then comes the next
abbrev pub joined_past : ℕ → ℕ → ℕ → ℕ
joined_past bits before eighth = bit_xor (bit_steps bits before) eighth

-- sums joined, one after the other
abbrev pub eighths_join : ℕ → List ℕ → ℕ
eighths_join bits sums = foldl (joined_past bits) (get_or sums 0 0) (drop 1 sums)
