-- Flash as a list of bytes, and what erasing, programming and searching leave of it or find in it.
use Rattle.std.specs.Prelude.{ℕ, ◌+◌, ◌-◌, ◌*◌, ◌/◌, ◌^◌, ◌≤◌, ◌<◌, Bool, cond, ◌&&◌, ◌≡◌, List, [], ◌∷◌, ◌++◌, ltb, leb, eqb, length, take, drop, replicate, set, Option, Some, None, is_none}
use Rattle.numbers.specs.Numbers.{long_at}
use Rattle.flash.specs.declared.Addr.{Addr}

-- the bytes of a block
abbrev pub block_size : ℕ
block_size = 1024

-- what an erased byte holds
abbrev pub erased_byte : ℕ
erased_byte = 255

-- the address of a block's first byte
abbrev pub start_of : ℕ → ℕ
start_of block = block * block_size

-- whether a block's start has a 32-bit address
abbrev pub in_reach : ℕ → Bool
in_reach block = ltb (start_of block) (2 ^ 32)

-- the checked conversion: a block in reach has its address, any other has none
abbrev pub reach_of : ℕ → Option Addr
reach_of block = cond (in_reach block) (Some (record { 0 = start_of block })) None

-- whether the n bytes from address at on lie in blocks first to stop − 1; out of reach is out of range
abbrev pub lies_in : ℕ → ℕ → ℕ → ℕ → Bool
lies_in at n first stop =
    in_reach first && in_reach stop && leb (start_of first) at && leb (at + n) (start_of stop)

-- whether a flash of so many bytes ends where a block starts; none ends at a block out of reach
abbrev pub ends_at : ℕ → ℕ → Bool
ends_at block len = in_reach block && eqb len (start_of block)

-- the block that holds the byte at an address
abbrev pub holder_of : ℕ → ℕ
holder_of at = at / block_size

-- the first block that starts at an address or after it
abbrev pub next_start : ℕ → ℕ
next_start at = (at + (block_size - 1)) / block_size

-- n bytes from address at on lie in flash, and each has a 32-bit address
pub record Within (flash : List ℕ) (at n : ℕ) : Type 0 where
  pub inside : at + n ≤ length flash
  pub addressed : at + n < 2 ^ 32

-- the n bytes from address at on
unfoldable pub range : List ℕ → ℕ → ℕ → List ℕ
range flash at n = take n (drop at flash)

-- flash with other bytes from address at on
unfoldable pub spliced : List ℕ → ℕ → List ℕ → List ℕ
spliced flash at bytes = take at flash ++ bytes ++ drop (at + length bytes) flash

-- n erased bytes
unfoldable pub blank : ℕ → List ℕ
blank n = replicate n erased_byte

-- flash with count blocks erased, from block first on
unfoldable pub erased : List ℕ → ℕ → ℕ → List ℕ
erased flash first count = spliced flash (start_of first) (blank (start_of count))

-- whether a search found nothing
abbrev pub nothing : Option Addr → Bool
nothing found = is_none found

-- the first of some bytes that is not erased, where the first of them has address at
unfoldable pub first_in : ℕ → List ℕ → Option Addr
first_in at [] = None
first_in at (b ∷ bs) = cond (eqb b erased_byte) (first_in (at + 1) bs) (Some (record { 0 = at }))

-- the first byte that is not erased among the n bytes from block first on
unfoldable pub searched : List ℕ → ℕ → ℕ → Option Addr
searched flash first n = first_in (start_of first) (range flash (start_of first) n)

-- the number that says there is none
abbrev pub nowhere : ℕ
nowhere = 0xFFFFFFFF

-- the number of what a search found: the address, or that there is none
abbrev pub found_number : Option Addr → ℕ
found_number (Some at) = at.0
found_number None = nowhere

-- the eight bytes from address at on as one number, low byte first
abbrev pub eight_at : List ℕ → ℕ → ℕ
eight_at flash at = long_at flash at + long_at flash (at + 4) * 2 ^ 32

-- how far a search on its way from address at to stop may pass over bytes at once: to address next, if all from at up to it are erased
pub record Passed (flash : List ℕ) (at stop next : ℕ) : Type 0 where
  pub low : at ≤ next
  pub high : next ≤ stop
  pub over : range flash at (next - at) ≡ blank (next - at)

-- one store of a byte
pub record Store : Type 0 where
  pub at : ℕ
  pub byte : ℕ

-- flash after the stores of a list, the first of them first
unfoldable pub carried : List ℕ → List Store → List ℕ
carried flash [] = flash
carried flash (s ∷ ss) = carried (set flash s.at s.byte) ss

-- the stores that put bytes to address at and upward
unfoldable pub stores : ℕ → List ℕ → List Store
stores at [] = []
stores at (b ∷ bs) = record { at = at; byte = b } ∷ stores (at + 1) bs
