use native.Mathlib.Omega.{arith}
use Rattle.crc.proofs.Streams.{turn_ahead, ahead_more}
use Rattle.crc.proofs.eighths.eighths.Goals as goal

pub loop-turn-preserved : goal.loop-turn-preserved
loop-turn-preserved g c =
    ahead_more (omega arith) (omega arith) c.loop-turn.invariant
    (turn_ahead (λ k. omega (arith, c.type_inv.part k)) (omega arith) c.put_in.ensures c.step_all.ensures
    c.step_all-in-loop-turn.ensures c.step_all-in-loop-turn-2.ensures c.step_all-in-loop-turn-3.ensures)
