-- A call was counted, and what follows its record is left. Assumes nothing.
use Rattle.script.proofs.Counting.{one_counted}
use Rattle.script.proofs.play_calls.Goals as goal

pub loop-call-preserved : goal.loop-call-preserved
loop-call-preserved g c = one_counted _ _ _ _ c.in-Some.ensures.call c.in-Some.ensures.onward c.loop-call.invariant
