use Rattle.std.specs.Prelude.{ℕ, zero, suc, ◌/◌, ◌%◌, cond, eqb}
use mathlib.Core.List.{List, foldl}
use Rattle.std.specs.Int.Bits.{bit_xor}
use Rattle.crc.specs.Values.{values}

-- the polynomial of the DFU file suffix, reflected: the lowest bit is that of the highest power
abbrev pub polynomial : ℕ
polynomial = 0xEDB8_8320

-- where a sum starts
abbrev pub start : ℕ
start = 0xFFFF_FFFF

-- one bit of the division: half of it, xor the polynomial if the low bit was set
unfoldable pub bit_step : ℕ → ℕ
bit_step c = bit_xor (c / 2) (cond (eqb (c % 2) 1) polynomial 0)

-- so many bits of the division
unfoldable pub bit_steps : ℕ → ℕ → ℕ
bit_steps zero c = c
bit_steps (suc n) c = bit_steps n (bit_step c)

-- a byte is taken in: the eight bits of the running value xor the byte
unfoldable pub byte_step : ℕ → ℕ → ℕ
byte_step c x = bit_steps 8 (bit_xor c x)

-- a running value after the bytes of a list
unfoldable pub crc_from : ℕ → List ℕ → ℕ
crc_from c xs = foldl byte_step c xs

-- the sum of a list of bytes, without a final complement
unfoldable pub crc_of : List ℕ → ℕ
crc_of xs = crc_from start xs

-- the table: the bitwise remainder of each of the 256 bytes
unfoldable pub remainders : List ℕ
remainders = values (bit_steps 8) 0 256
