-- What is left of the first part, and then of the second. Assumes nothing.
use Rattle.std.proofs.Common.{ℕ, List, ◌++◌, sym, ap, ap₂, ◌∙◌, drop}
use mathlib.Core.List.{append-nil}
use Rattle.stream.proofs.Giving.{sent_both, drop_both, drop_min, to_the_end, nothing_behind}
use Rattle.stream.proofs.put_both.Goals as goal

pub returns : goal.returns
returns c =
    let head = c.args.head.now in
    let body = c.args.body.now in
    let n = c.put-n.result in
    let mid = c.put-n.new.reply in
    let first = to_the_end _ head ∙ ap (λ (k : ℕ). drop k head) c.min.ensures ∙ drop_min c.args.from head in
    let second =
    to_the_end _ body
    ∙ ap (λ (k : ℕ). drop k body) c.min-2.ensures
    ∙ drop_min _ body
    ∙ ap (λ (k : ℕ). drop k body) c.saturating_sub-behind.ensures
    in
    let tail = ap (λ (l : List ℕ). c.put.new.reply ++ l) (nothing_behind n mid) ∙ append-nil _ in
    rw tail
    (sent_both c.args.reply.now mid _ c.put.new.reply _ _ _ n _ (to_the_end n mid)
    (drop_both c.args.from head body ∙ sym (ap₂ ◌++◌ first second)) c.put-n.ensures c.put.ensures)
