-- What `if_erased` answers of the plan that CHECK goes to is `check_of`. Assumes nothing.
use mathlib.Core.Bool.{not}
use mathlib.Core.Path.{refl, ap, ◌∙◌}
use Rattle.answers.specs.declared.Outcome.{Outcome}
use Rattle.answers.proofs.Laws.{taken_at}
use Rattle.jobs.specs.declared.Job.{Job}
use Rattle.jobs.specs.Job.{plan_of}
use Rattle.jobs.proofs.Laws.{only_at}
use Rattle.jobs.proofs.Picks.{yes_is, passed}
use Rattle.command.specs.Download.{if_erased, check_of}
use Rattle.command.proofs.Laws.{erased_sync}
use Rattle.command.proofs.Site.check.Goals as goal

pub returns : goal.returns
unfolding check_of
returns c =
    let a = c.args in
    let s = a.self.now.session.now in
    let f = a.self.now.flash.now in
    c.if_erased.ensures
    ∙ ap (if_erased s f a.block.0 a.len)
    (only_at s _ _ _ c.only-x.ensures (taken_at s _ _ _ c.taken.ensures c.sync.ensures))
    ∙ erased_sync s f a.block.0 a.len
    ∙ ap (λ (o : Outcome). plan_of o Job.Nothing)
    (yes_is _ _ _ _ (passed _ _ c.in_application.ensures (ap not c.if-not-in_application.false)) refl)
