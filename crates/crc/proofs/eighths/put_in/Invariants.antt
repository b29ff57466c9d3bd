-- The loop keeps that putting bytes into the rest gives what putting them into all gives (Streams).
use Prim.Native.Nat.{◌-◌}
use mathlib.Core.Path.{◌≡◌}
use Rattle.crc.specs.Eighths.{each_from, with_four}
use Rattle.crc.proofs.eighths.put_in.Given as goal

abbrev pub invariant-loop-s : goal.invariant-loop-s
invariant-loop-s l = each_from (with_four l.bytes l.at l.eighth) l.sums l.s (8 - l.s) ≡ each_from (with_four l.bytes l.at l.eighth) l.initial.sums 0 8
