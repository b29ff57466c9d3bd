-- What is decided can be carried out, and is, and its sums are made of the flash that is left. Assumes nothing.
use Rattle.jobs.proofs.Laws.{can_reaches, can_still}
use Rattle.loader.specs.Step.{step_of}
use Rattle.loader.proofs.Laws.{decision_can, so_settled}
use Rattle.loader.proofs.step.Goals as goal

pub carry_out-requires : goal.carry_out-requires
carry_out-requires c =
    let f = c.args.flash.now in
    let d = c.args.d.now in
    can_reaches c.decide-decision.result.job c.args.s.board f d
    (decision_can c.args.s f c.args.setup.now d c.args.reply.now _ _ c.decide-decision.ensures)

pub finished-requires : goal.finished-requires
finished-requires c =
    let f = c.args.flash.now in
    let d = c.args.d.now in
    can_still c.decide-decision.result.job c.args.s.board f _ d c.carry_out.auto.flash
    (decision_can c.args.s f c.args.setup.now d c.args.reply.now _ _ c.decide-decision.ensures)

pub returns : goal.returns
unfolding step_of
returns c =
    let f = c.args.flash.now in
    let d = c.args.d.now in
    so_settled c.args.s c.decide-decision.result _ f d _ _ _
    (decision_can c.args.s f c.args.setup.now d c.args.reply.now _ _ c.decide-decision.ensures)
    c.carry_out.ensures
    c.finished.ensures
    c.decide-decision.ensures
