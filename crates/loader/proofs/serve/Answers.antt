-- Each arm by its request. Assumes nothing.
use mathlib.Core.Path.{sym, ap, ◌∙◌}
use Rattle.request.specs.Request.{allowed_of}
use Rattle.request.specs.declared.Request.{Request}
use Rattle.answers.proofs.Laws.{taken_at}
use Rattle.jobs.specs.Job.{Plan}
use Rattle.loader.specs.Step.{decided, served}
use Rattle.loader.proofs.Laws.{allowed_loading, as_told, only_told, answer_told}
use Rattle.loader.proofs.serve.Goals as goal

pub dnload-requires : goal.dnload-requires
dnload-requires c =
    let told = sym c.in-Dnload.is in
    let at = ap (λ (q : Request). allowed_of q c.args.asked c.args.s.phase.state.0) told in
    record { ready = c.requires.prepared; loading = allowed_loading _ c.args.asked (at ∙ c.requires.permitted) }

pub returns-in-Dnload : goal.returns-in-Dnload
unfolding served
returns-in-Dnload c = as_told _ _ _ _ _ _ _ _ c.in-Dnload.is (ap (λ (x : Plan). decided x c.args.reply.now) c.dnload.ensures)

pub returns-in-Upload : goal.returns-in-Upload
unfolding served
returns-in-Upload c =
    let s = c.args.s in
    as_told _ _ _ _ _ _ _ _ c.in-Upload.is
    (answer_told s _ _ _ c.only.ensures _ c.upload.ensures)

pub returns-in-GetStatus : goal.returns-in-GetStatus
unfolding served
returns-in-GetStatus c =
    let s = c.args.s in
    as_told _ _ _ _ _ _ _ _ c.in-GetStatus.is
    (answer_told s _ _ _ c.only-in-GetStatus.ensures _ c.getstatus.ensures)

pub returns-in-ClrStatus : goal.returns-in-ClrStatus
unfolding served
returns-in-ClrStatus c =
    let s = c.args.s in
    as_told _ _ _ _ _ _ _ _ c.in-ClrStatus.is
    (only_told s _ _ _ c.only-in-ClrStatus.ensures _ (taken_at s _ _ _ c.taken.ensures c.idle.ensures))

pub returns-in-GetState : goal.returns-in-GetState
unfolding served
returns-in-GetState c =
    let s = c.args.s in
    as_told _ _ _ _ _ _ _ _ c.in-GetState.is
    (answer_told s _ _ _ c.only-in-GetState.ensures _ c.getstate.ensures)

pub returns-in-Abort : goal.returns-in-Abort
unfolding served
returns-in-Abort c =
    let s = c.args.s in
    as_told _ _ _ _ _ _ _ _ c.in-Abort.is
    (only_told s _ _ _ c.only-in-Abort.ensures _ (taken_at s _ _ _ c.taken-in-Abort.ensures c.idle-in-Abort.ensures))

pub returns-in-Query : goal.returns-in-Query
unfolding served
returns-in-Query c =
    let s = c.args.s in
    as_told _ _ _ _ _ _ _ _ c.in-Query.is
    (answer_told s _ _ _ c.only-in-Query.ensures _ c.query.ensures)
