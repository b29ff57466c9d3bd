-- An entry that is judged wrong is what the file is refused for. Assumes nothing.
use Prim.Native.Nat.{◌+◌, ◌-◌}
use mathlib.Core.Path.{sym, ◌∙◌}
use native.Mathlib.Omega.{arith}
use Rattle.std.proofs.lemmas.Result.{err_from_is_err_and}
use Rattle.bundle.proofs.Walk.{turned_away}
use Rattle.bundle.proofs.read_entries.Goals as goal

pub returns-in_err-at : goal.returns-in_err-at
returns-in_err-at c =
    let p = err_from_is_err_and c.from_residual.result c.from_residual.ensures.1 in
    let left = c.args.count - (c.loop-k.k + 1) in
    rw (p.1, p.2)
    (sym (turned_away _ _ _ left _ _ _ (omega arith) c.read.ensures _ (sym c.judge.ensures ∙ c.in_err-at.was)) ∙ c.loop-k.invariant)
