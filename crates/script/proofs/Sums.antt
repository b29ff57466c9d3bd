-- The sum of the kept sums, one of them after the other. Assumes nothing.
use Prim.Native.Nat.{ℕ, suc, ◌+◌, ◌-◌, ◌≤◌, ◌<◌}
use mathlib.Core.List.{List}
use mathlib.Core.Path.{◌≡◌, sym}
use native.Mathlib.Omega.{arith}
use lib.ListN.{get_or}
use Rattle.crc.specs.Crc.{crc_from}
use Rattle.crc.proofs.Laws.{crc_append}
use Rattle.numbers.specs.Numbers.{bytes4}
use Rattle.script.specs.Turn.{sums_from}

-- a turn takes in the four bytes of the next
pub next_sum : (c s : ℕ) (block : List ℕ) (i n : ℕ) → i < n → s ≡ crc_from c (bytes4 (get_or block i 0))
    → crc_from s (sums_from block (i + 1) (n - (i + 1))) ≡ crc_from c (sums_from block i (n - i))
unfolding sums_from
next_sum c s block i n h e =
    let left : n - i ≡ suc (n - (i + 1)) = omega arith in
    rw (e, left) (sym (crc_append c (bytes4 (get_or block i 0)) _))

-- past the last one nothing is left
pub no_sum_left : (c : ℕ) (block : List ℕ) (i n : ℕ) → n ≤ i → crc_from c (sums_from block i (n - i)) ≡ c
unfolding sums_from crc_from
no_sum_left c block i n h = let left : n - i ≡ 0 = omega arith in rw left
