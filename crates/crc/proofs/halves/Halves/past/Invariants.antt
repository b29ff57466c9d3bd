-- What is picked so far and what is left to pick give all that is picked (Joins).
use mathlib.Core.Path.{◌≡◌}
use lib.ListN.{drop}
use lib.Bits.{bit_xor}
use Rattle.crc.proofs.Joins.{picked}
use Rattle.crc.proofs.halves.Halves.past.Given as goal

abbrev pub invariant-loop-row : goal.invariant-loop-row
invariant-loop-row g l = bit_xor l.past (picked (drop l.row-index l.self.rows.now) l.left) ≡ picked l.self.rows.now l.number
