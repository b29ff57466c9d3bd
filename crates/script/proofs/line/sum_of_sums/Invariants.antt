-- The sums that are left, summed from the running value, give the whole sum.
use Prim.Native.Nat.{◌-◌}
use mathlib.Core.Path.{◌≡◌}
use Rattle.sums.specs.Sum.{most_blocks}
use Rattle.crc.specs.Crc.{crc_from, crc_of}
use Rattle.script.specs.Turn.{sums_from, sum_bytes}
use Rattle.script.proofs.line.sum_of_sums.Given as goal

abbrev pub invariant-loop-kept : goal.invariant-loop-kept
invariant-loop-kept l = crc_from l.sum (sums_from l.block l.kept-index (most_blocks - l.kept-index)) ≡ crc_of (sum_bytes l.block)
