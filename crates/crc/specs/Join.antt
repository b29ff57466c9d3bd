-- The join: the sum of some bytes and of a block behind them, from their two sums alone. The sum is linear over xor, so it needs no byte.
use Rattle.std.specs.Prelude.{ℕ, zero, suc, ◌+◌, ◌*◌, ◌^◌}
use mathlib.Core.List.{List, [], ◌∷◌, foldl}
use Rattle.std.specs.Int.Bits.{bit_xor}
use Rattle.crc.specs.Values.{values}
use Rattle.crc.specs.Crc.{start, bit_steps}

-- the bits of a block, which has 1,024 bytes
abbrev pub block_bits : ℕ
block_bits = 8192

-- the sum of some bytes and a block behind them: where the bytes' sum differs from the start, the difference goes through the
-- block's bits
unfoldable pub joined : ℕ → ℕ → ℕ
joined before block = bit_xor (bit_steps block_bits (bit_xor before start)) block

-- a running value after blocks with these sums
unfoldable pub joined_from : ℕ → List ℕ → ℕ
joined_from c blocks = foldl joined c blocks

-- the sum of blocks in a row, from their sums
unfoldable pub joined_of : List ℕ → ℕ
joined_of blocks = joined_from start blocks

-- ---- so many bits by the half bytes of a number, where bit by bit a block's are 8,192 steps

-- what a function makes of each half byte at n places of a number, from one place on: a row of sixteen for each place
unfoldable pub half_rows : (ℕ → ℕ) → ℕ → ℕ → List (List ℕ)
half_rows f place zero = []
half_rows f place (suc n) = values (λ digit. f (digit * 2 ^ (place * 4))) 0 16 ∷ half_rows f (place + 1) n

-- what so many bits make of each half byte at each of its eight places
unfoldable pub past_halves : ℕ → List (List ℕ)
past_halves bits = half_rows (bit_steps bits) 0 8
