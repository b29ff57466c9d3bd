-- By what `read`, `data_asked` and `fit` answer; a B that is fit is in reach. Assumes nothing.
use mathlib.Core.Path.{refl}
use borrow.Author.Tests.{eq-eqb}
use lib.Dec.{eqb, leb}
use Rattle.request.specs.Request.{data_asked}
use Rattle.session.specs.Rules.{fit_of}
use Rattle.loader.specs.Step.{ready}
use Rattle.loader.proofs.Laws.{same_before, fit_ends, then_some-IsSome}
use Rattle.loader.proofs.prepared.Goals as goal

pub returns-clause-ready : goal.returns-clause-ready
unfolding ready data_asked
returns-clause-ready c =
    let a = c.args in
    let read = c.in_ok-parts.ensures in
    then_some-IsSome _ _ _ _ c.then_some.ensures
    (rw (eq-eqb _ _ (read.eight.0 refl), c.ends.ensures, c.data_asked.ensures, c.is_fit.ensures, read.parts)
    (same_before (leb 1024 a.reply_len) (eqb a.data_len (data_asked a.setup.now)) (fit_of a.s) _ _ (fit_ends a.s a.flash_len)))
