-- Both loops keep that what is left of the range holds the answer (Unerased), also behind what is passed over eight bytes at a time; the
-- label is left at the first byte that is not erased.
-- Assumes nothing.
use mathlib.Core.Path.{◌∙◌, refl}
use native.Mathlib.Omega.{arith}
use Rattle.flash.proofs.Unerased.{ahead_same, ahead_one, ahead_passed, ahead_found, ahead_none}
use Rattle.flash.proofs.search_from.Goals as goal

pub loop-at-init : goal.loop-at-init
loop-at-init c =
    let a = c.args in
    let before = ahead_same a.flash.now _ a.n _ c.search.block (omega arith) c.search.invariant.1 in
    (c.search.invariant.0, ahead_passed a.flash.now _ a.n (omega arith) _ _ _ (omega arith) c.past_eights-at.ensures before)

pub loop-at-preserved : goal.loop-at-preserved
loop-at-preserved c =
    let l = c.loop-at in
    let a = c.args in
    (l.invariant.0, ahead_one a.flash.now _ a.n (omega arith) l.at (omega arith) c.if-flash-at.false l.invariant.1)

pub returns : goal.returns
returns c =
    let l = c.search in
    let a = c.args in
    l.invariant.0 ∙ ahead_none a.flash.now _ a.n (omega arith) _ refl _ (omega arith) l.invariant.1

pub returns-then-flash-at : goal.returns-then-flash-at
returns-then-flash-at c =
    let l = c.loop-at in
    let a = c.args in
    ahead_found a.flash.now _ a.n (omega arith) _ refl l.at (omega arith) c.if-flash-at.true l.invariant.1

pub returns-2 : goal.returns-2
returns-2 c =
    let l = c.loop-at in
    let a = c.args in
    l.invariant.0 ∙ ahead_none a.flash.now _ a.n (omega arith) _ refl l.at (omega arith) l.invariant.1
