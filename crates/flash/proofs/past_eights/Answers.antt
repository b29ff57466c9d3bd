-- What was passed over is erased, and eight bytes more are, wherever the number that they make is the greatest (Unerased).
-- Assumes nothing.
use Prim.Native.Nat.{◌+◌}
use mathlib.Core.Path.{refl, sym, ◌∙◌}
use native.Mathlib.Omega.{arith}
use Rattle.flash.proofs.Unerased.{passed_none, passed_eight}
use Rattle.flash.proofs.past_eights.Goals as goal

pub loop-at-init : goal.loop-at-init
loop-at-init c = passed_none _ _ _ (omega arith)

pub returns-then-eight-2 : goal.returns-then-eight-2
returns-then-eight-2 c =
    let byte = c.type_inv.flash in
    let all = sym c.eight.ensures ∙ c.if-eight.false in
    passed_eight _ (λ k. omega (arith, byte k)) _ _ c.loop-at.at _ (omega arith) (omega arith) (omega arith) all c.loop-at.invariant

pub loop-at-preserved : goal.loop-at-preserved
loop-at-preserved c =
    let byte = c.type_inv.flash in
    let all = sym c.eight.ensures ∙ c.if-eight.false in
    let more = sym c.eight-in-loop-at.ensures ∙ c.if-eight-2.false in
    let at = c.loop-at.at in
    let pass = passed_eight c.args.flash.now (λ k. omega (arith, byte k)) in
    pass _ _ (at + 8) _ (omega arith) (omega arith) (omega arith)
    more
    (pass _ _ at (at + 8) (omega arith) (omega arith) refl all c.loop-at.invariant)

pub returns : goal.returns
returns c =
    let byte = c.type_inv.flash in
    let all = sym c.eight-2.ensures ∙ c.if-eight-3.false in
    passed_eight _ (λ k. omega (arith, byte k)) _ _ c.loop-at.at _ (omega arith) (omega arith) (omega arith) all c.loop-at.invariant
