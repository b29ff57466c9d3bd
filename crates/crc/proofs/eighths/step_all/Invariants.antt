-- The loop keeps that stepping the rest gives what stepping all gives (Streams).
use Prim.Native.Nat.{◌-◌}
use mathlib.Core.Path.{◌≡◌}
use Rattle.crc.specs.Eighths.{each_from, one_byte_on}
use Rattle.crc.proofs.eighths.step_all.Given as goal

abbrev pub invariant-loop-sum : goal.invariant-loop-sum
invariant-loop-sum l = each_from one_byte_on l.sums l.sum-index (8 - l.sum-index) ≡ each_from one_byte_on l.initial.sums 0 8
