-- What was sent is of the header, or of nothing, and then of the range. Assumes nothing.
use mathlib.Core.Path.{sym, ap₂, ◌∙◌}
use mathlib.Core.List.{◌++◌}
use native.Mathlib.Omega.{arith}
use Rattle.stream.proofs.Giving.{to_the_end}
use Rattle.stream.proofs.Laws.{parts_sum, prefix_on, prefix_off}
use Rattle.stream.proofs.send_range.Goals as goal

pub slice_bounds-put-count : goal.slice_bounds-put-count
slice_bounds-put-count c =
    let a = c.args in
    let n =
    parts_sum a.up a.flash.now _ _ c.requires.within.inside (sym (prefix_off a.up c.if-up-eq1.false)) c.read_range-body.ensures
    in
    omega (arith, c.requires.from_le_length, n)

pub slice_bounds-put-start : goal.slice_bounds-put-start
slice_bounds-put-start c =
    let a = c.args in
    let n =
    parts_sum a.up a.flash.now _ _ c.requires.within.inside (sym (prefix_off a.up c.if-up-eq1.false)) c.read_range-body.ensures
    in
    omega (arith, c.requires.from_le_length, n)

pub returns-then-up-eq1 : goal.returns-then-up-eq1
returns-then-up-eq1 c =
    let both = ap₂ ◌++◌ (c.header.ensures ∙ sym (prefix_on c.args.up c.if-up-eq1.true)) c.read_range-body.ensures in
    rw (sym both) c.put_both.ensures

pub returns-else-up-eq1 : goal.returns-else-up-eq1
returns-else-up-eq1 c =
    let both = ap₂ ◌++◌ (sym (prefix_off c.args.up c.if-up-eq1.false)) c.read_range-body.ensures in
    rw (sym both) (rw (sym (to_the_end c.args.from c.read_range-body.result.now)) c.put.ensures)
