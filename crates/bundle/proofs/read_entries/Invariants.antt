-- The invariant: what is read from here on is what is read from the first entry on. Assumes nothing.
use Prim.Native.Nat.{◌-◌}
use mathlib.Core.Path.{◌≡◌}
use Rattle.bundle.specs.Bundle.{head_size, read_from}
use Rattle.bundle.proofs.read_entries.Given as goal

abbrev pub invariant-loop-k : goal.invariant-loop-k
invariant-loop-k l = read_from l.file l.count (l.count - l.k) l.k l.at ≡ read_from l.file l.count l.count 0 (head_size l.count)
