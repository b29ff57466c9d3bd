-- The kept sums: one to a block number, which is zero where the block is not of the application, and one of the application as a
-- whole, from its lowest address up. The application is blocks a to e − 1.
use Rattle.std.specs.Prelude.{ℕ, zero, suc, ◌+◌, ◌-◌, ◌≤◌, ◌<◌, Bool, cond, ◌&&◌, List, ◌⊎◌, ◌≡◌, leb, ltb, length, get_or, set, take, drop}
use Rattle.crc.specs.Values.{values}
use Rattle.crc.specs.Crc.{crc_of}
use Rattle.crc.specs.Join.{joined_of}
use Rattle.flash.specs.Flash.{start_of, range}
use Rattle.sums.specs.declared.Sums.{Sums}

-- the most blocks that a flash may have
abbrev pub most_blocks : ℕ
most_blocks = 256

-- the bytes of blocks first to stop − 1
unfoldable pub blocks_of : List ℕ → ℕ → ℕ → List ℕ
blocks_of flash first stop = range flash (start_of first) (start_of stop - start_of first)

-- whether block k is one of blocks first to stop − 1
abbrev pub among : ℕ → ℕ → ℕ → Bool
among first stop k = leb first k && ltb k stop

-- the sum of block k's bytes
unfoldable pub block_sum : List ℕ → ℕ → ℕ
block_sum flash k = crc_of (blocks_of flash k (k + 1))

-- what is kept for block number k: its sum if it is an application block, else zero
unfoldable pub sum_for : List ℕ → ℕ → ℕ → ℕ → ℕ
sum_for flash a e k = cond (among a e k) (block_sum flash k) 0

-- the sum of the application
unfoldable pub whole_sum : List ℕ → ℕ → ℕ → ℕ
whole_sum flash a e = crc_of (blocks_of flash a e)

-- the same from the sums of the blocks, kept by block number
unfoldable pub joined_sum : List ℕ → ℕ → ℕ → ℕ
joined_sum block a e = joined_of (take (e - a) (drop a block))

-- the sums worked out afresh
unfoldable pub fresh_sums : List ℕ → ℕ → ℕ → Sums
fresh_sums flash a e = record { block = values (sum_for flash a e) 0 most_blocks; whole = whole_sum flash a e }

-- n block sums anew, from block k on, the others as kept
unfoldable pub renewed : List ℕ → List ℕ → ℕ → ℕ → List ℕ
renewed kept flash k zero = kept
renewed kept flash k (suc n) = renewed (set kept k (block_sum flash k)) flash (k + 1) n

-- the sums after blocks first to stop − 1 changed: those anew, the others as kept, and the whole joined from these
unfoldable pub refreshed : Sums → List ℕ → ℕ → ℕ → ℕ → ℕ → Sums
refreshed kept flash a e first stop =
    let block : List ℕ = renewed kept.block flash first (stop - first) in
    record { block = block; whole = joined_sum block a e }

-- an application that lies in flash, with 32-bit addresses
pub record Split (flash : List ℕ) (a e : ℕ) : Type 0 where
  pub ordered : a ≤ e
  pub counted : e ≤ most_blocks
  pub inside : start_of e ≤ length flash

-- the kept sums are those of the flash
pub record Right (sums : Sums) (flash : List ℕ) (a e : ℕ) : Type 0 where
  pub long : length sums.block ≡ most_blocks
  pub each : (k : ℕ) → k < most_blocks → get_or sums.block k 0 ≡ sum_for flash a e k
  pub whole : sums.whole ≡ whole_sum flash a e

-- two flashes differ in blocks first to stop − 1 alone
pub record SameBut (f g : List ℕ) (first stop : ℕ) : Type 0 where
  pub apart : (k : ℕ) → (k < first) ⊎ (stop ≤ k) → blocks_of g k (k + 1) ≡ blocks_of f k (k + 1)
