-- The first i bytes are at the front of the reply. Assumes nothing.
use Rattle.std.proofs.Common.{◌≡◌, ◌++◌, take, drop}
use Rattle.stream.proofs.put.Given as goal

abbrev pub invariant-loop-i : goal.invariant-loop-i
invariant-loop-i l = l.reply ≡ take l.i l.byte-items ++ drop l.i l.initial.reply
