-- The loop keeps that making the rest anew gives what making all anew gives (Renewed). Assumes nothing.
use Prim.Native.Nat.{◌-◌}
use mathlib.Core.Path.{◌≡◌}
use Rattle.sums.specs.Sum.{renewed}
use Rattle.sums.proofs.renew.Given as goal

abbrev pub invariant-loop-k : goal.invariant-loop-k
invariant-loop-k l =
    let all = l.fn.changed in
    renewed l.block l.flash l.k (all.stop.0 - l.k) ≡ renewed l.initial.block l.flash all.first.0 (all.stop.0 - all.first.0)
