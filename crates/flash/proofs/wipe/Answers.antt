-- As `program`, with the bytes that an erase puts. Assumes nothing.
use Prim.Native.Nat.{◌+◌}
use mathlib.Core.Path.{ap, ◌∙◌}
use native.Mathlib.Omega.{arith}
use lib.ListN.{set}
use Rattle.flash.specs.Flash.{blank}
use Rattle.flash.proofs.Laws.{length-blank}
use Rattle.flash.proofs.Writing.{put_none, put_more, put_all, blank_byte}
use Rattle.flash.proofs.wipe.Goals as goal

pub loop-i-preserved : goal.loop-i-preserved
loop-i-preserved c =
    let l = c.loop-i in
    let n = length-blank c.args.n in
    c.store.ensures
    ∙ ap (set l.flash (c.args.at.0 + l.i)) (blank_byte c.args.n l.i (omega arith))
    ∙ put_more _ _ (blank c.args.n) _ l.i (omega arith) (omega arith) l.invariant

pub returns : goal.returns
returns c = let l = c.loop-i in put_all _ _ (blank c.args.n) _ l.i (omega (arith, length-blank c.args.n)) l.invariant
