-- Turn after turn, four bytes more of each eighth (Streams).
use Prim.Native.Nat.{◌*◌, ◌/◌}
use Rattle.crc.specs.Eighths.{Ahead}
use Rattle.crc.proofs.eighths.eighths.Given as goal

abbrev pub invariant-loop-turn : goal.invariant-loop-turn
invariant-loop-turn g l = Ahead l.part 0 (g.row.PART / 8) (l.turn * 4) l.initial.sums l.sums
