-- What `if_erased` answers of the write, by both tests passed, is `prog_of`. Assumes nothing.
use mathlib.Core.Bool.{not}
use Prim.Native.Nat.{ℕ, ◌-◌}
use mathlib.Core.Path.{ap, ◌∙◌}
use borrow.Author.Tests.{le-leb}
use Rattle.jobs.proofs.Picks.{yes_is, passed}
use Rattle.command.specs.Download.{wrote_of, if_erased, prog_of}
use Rattle.command.proofs.Laws.{erased_wrote}
use Rattle.command.proofs.Site.prog.Goals as goal

pub returns : goal.returns
unfolding prog_of
returns c =
    let a = c.args in
    let s = a.self.now.session.now in
    let f = a.self.now.flash.now in
    yes_is _ _ _ _ (passed _ _ c.in_application.ensures (ap not c.if-not-in_application.false))
    (yes_is _ _ _ _ (le-leb _ _ c.if-len-n.false)
    (c.if_erased.ensures
    ∙ ap (if_erased s f a.block.0 a.len)
    (c.write-x.ensures ∙ ap (λ (at : ℕ). wrote_of s at 8 a.n (a.len - a.n)) c.start.ensures)
    ∙ erased_wrote s f a.block.0 a.len _ 8 a.n (a.len - a.n)))
