-- The places passed hold their values.
use Rattle.std.proofs.Common.{ℕ, ◌<◌, ◌≡◌, get_or}
use Rattle.script.specs.Tape.{first_byte}
use Rattle.script.proofs.tape.fill.Given as goal

abbrev pub invariant-loop-i : goal.invariant-loop-i
invariant-loop-i l = (k : ℕ) → k < l.i → get_or l.flash k 0 ≡ first_byte l.a k
