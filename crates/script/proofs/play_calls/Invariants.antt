-- What is left of the script's calls is less after each of them, and with those that were played it makes all of them.
use Rattle.std.proofs.Common.{length}
use Rattle.script.proofs.Counting.{Counted}
use Rattle.script.proofs.play_calls.Given as goal

abbrev pub invariant-loop-call : goal.invariant-loop-call
invariant-loop-call g l = Counted l.calls l.rest l.played

abbrev pub decreases-loop-call : goal.decreases-loop-call
decreases-loop-call g l = length l.rest
