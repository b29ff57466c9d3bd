-- By whether the call is ready and the request allowed, from which `serve` has what it asks. Assumes nothing.
use mathlib.Core.Bool.{not}
use mathlib.Core.Path.{refl, ap}
use lib.ListN.{length}
use Rattle.std.proofs.lemmas.Bool.{false_from_ne_true, false≢true}
use Rattle.jobs.proofs.Picks.{yes_is, no_is, refused, passed}
use Rattle.loader.specs.Step.{decided_of}
use Rattle.loader.proofs.Laws.{ready_fit, ready_room, asked_none, asked_yes, asked_no, asked_few, only_told}
use Rattle.loader.proofs.decide.Goals as goal

pub returns-in_default : goal.returns-in_default
unfolding decided_of
returns-in_default c =
    no_is _ _ _ _ (false_from_ne_true _ (λ e. false≢true (c.in_default.ensures.ready.1 e)))
    (only_told c.args.s _ _ _ c.only.ensures _ c.unfit.ensures)

pub returns-in_default-request : goal.returns-in_default-request
unfolding decided_of
returns-in_default-request c =
    let read = c.in-Some.ensures in
    yes_is _ _ _ _ (read.ready.0 refl)
    (asked_none c.args.s c.args.flash.now c.args.d.now _ _ _ _ read.parts c.in_default-request.ensures
    (only_told c.args.s _ _ _ c.only-in_default-request.ensures _ c.stalled.ensures))

pub returns-then-not-allowed : goal.returns-then-not-allowed
unfolding decided_of
returns-then-not-allowed c =
    let read = c.in-Some.ensures in
    yes_is _ _ _ _ (read.ready.0 refl)
    (asked_no c.args.s c.args.flash.now c.args.d.now _ _ _ _ read.parts _ c.in-Some-request.ensures
    (refused _ _ c.allowed.ensures (ap not c.if-not-allowed.true))
    (only_told c.args.s _ _ _ c.only-then-not-allowed.ensures _ c.stalled-then-not-allowed.ensures))

pub serve-requires : goal.serve-requires
serve-requires c =
    let a = c.args in
    let read = c.in-Some.ensures in
    let long = length a.d.now in
    record {
      prepared = ready_fit a.s a.flash.now a.setup.now long (length a.reply.now) (read.ready.0 refl);
      permitted = passed _ _ c.allowed.ensures (ap not c.if-not-allowed.false);
      few = asked_few _ _ _ read.parts c.in-Some-request.ensures;
      roomy = ready_room a.s a.flash.now a.setup.now long _ (read.ready.0 refl);
    }

pub returns : goal.returns
unfolding decided_of
returns c =
    let read = c.in-Some.ensures in
    yes_is _ _ _ _ (read.ready.0 refl)
    (asked_yes c.args.s c.args.flash.now c.args.d.now _ _ _ _ read.parts _ c.in-Some-request.ensures
    (passed _ _ c.allowed.ensures (ap not c.if-not-allowed.false)) c.serve.ensures)
