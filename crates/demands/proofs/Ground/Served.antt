-- What a call leaves once it is known to be sound and allowed, or not. Assumes nothing.
use mathlib.Core.Bool.{true, false}
use mathlib.Core.Path.{◌≡◌, refl}
use Rattle.answers.specs.Answers.{Leaves, leaves}
use Rattle.answers.specs.Moves.{stall_of}
use Rattle.std.specs.Prelude.{Option, Some, None}
use Rattle.request.specs.Request.{request_of, w_length, allowed_of, permitted}
use Rattle.request.specs.declared.Request.{Request}
use Rattle.jobs.specs.Job.{job_done}
use Rattle.loader.specs.Step.{served, asked_of, decided_of, settled, step_of}
use Rattle.demands.specs.Calls.{Call, Site, called, after_call}
use Rattle.demands.specs.Asked.{Prepared}
use Rattle.demands.proofs.Ground.Prepared.{prepared_ready}

module _ (at : Site) (c : Call) (k : Prepared at c) where
  -- an allowed request is served
  pub sound_served :
      (r : Request) → request_of c.setup ≡ Some r → allowed_of r (w_length c.setup) at.session.phase.state.0 ≡ true
      → called step_of at c ≡ settled (served r at.session at.flash (w_length c.setup) c.bytes c.reply) at.flash c.bytes
  unfolding called step_of decided_of
  sound_served r is e = rw (prepared_ready at c k, is, e)

  -- any other is stalled
  pub sound_stalled :
      permitted (request_of c.setup) (w_length c.setup) at.session.phase.state.0 ≡ false
      → called step_of at c ≡ leaves (stall_of at.session) at.flash c.reply
  unfolding called step_of decided_of settled job_done
  sound_stalled e = rw (prepared_ready at c k) (go (request_of c.setup) e)
    where
      go :
          (q : Option Request) → permitted q (w_length c.setup) at.session.phase.state.0 ≡ false
          → settled (asked_of q at.session at.flash (w_length c.setup) c.bytes c.reply) at.flash c.bytes
          ≡ leaves (stall_of at.session) at.flash c.reply
      go (Some r) h = rw h
      go None h = refl

-- the site after a call, from what the call leaves
pub after_call_from :
    (at : Site) (c : Call) (l : Leaves) → called step_of at c ≡ l → after_call step_of at c
    ≡ record { session = l.session; flash = l.flash }
unfolding after_call
after_call_from at c l e = rw e
