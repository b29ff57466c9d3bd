-- The premises of what is safe can be met: on the small board, a call for each row of the answer table. Assumes nothing.
use Prim.Native.Nat.{ℕ}
use mathlib.Core.List.{List, [], ◌∷◌}
use mathlib.Core.Logic.{inl, inr}
use mathlib.Core.Path.{◌≡◌, refl, sym, ap, ◌∙◌}
use native.Mathlib.Omega.{arith}
use lib.ListN.{length}
use Rattle.flash.specs.Flash.{start_of}
use Rattle.sums.specs.Sum.{fresh_sums}
use Rattle.session.specs.Session.{app_end, fresh_of}
use Rattle.session.specs.Fit.{Fit}
use Rattle.session.specs.declared.Board.{Board}
use Rattle.session.proofs.Laws.{fit_facts, fresh_fit}
use Rattle.numbers.specs.Numbers.{word_at}
use Rattle.request.specs.Request.{allowed_of, form_of, setup_of}
use Rattle.request.specs.declared.Request.{Request}
use Rattle.answers.specs.Moves.{stall_of, fault_of, reset_of}
use Rattle.jobs.specs.Job.{job_done}
use Rattle.command.specs.Download.{well_formed, by_number, command_of, dnload_of}
use Rattle.loader.specs.Step.{served, step_of, settled}
use Rattle.demands.specs.Calls.{heard, Call, Site, called, after_call}
use Rattle.demands.specs.Asked.{SaysDnload, Prepared, Form, Allowed, NoRequest}
use Rattle.demands.specs.Asked.Form.{dnload}
use Rattle.demands.specs.Safe.Outside.{OutsideApp}
use Rattle.demands.specs.Safe.Refused.{InError}
use Rattle.demands.specs.Safe.Fit.{AllowedStart}
use Rattle.demands.proofs.Ground.SmallBoard.{small_board, small_flash, small_long, small_session, lent, roomy}
use Rattle.demands.proofs.Does.Forms.{no_request}
use Rattle.demands.proofs.Safe.Outside.{outside_holds}
use Rattle.demands.proofs.Safe.Refused.{refused_holds, unfit_exactly_holds, goes_on}
use Rattle.demands.proofs.Safe.Fit.{stays_fit_holds}

-- where a start leads to
unfoldable pub small : Site
small = record { session = small_session; flash = small_flash }

-- the sizes that a start allows, and others
pub allowed_met : AllowedStart small_flash 1 3
allowed_met =
    record {
      some_loader = omega arith;
      some_application = omega arith;
      few_blocks = omega arith;
      sized = small_long;
    }

pub not_allowed_met : AllowedStart small_flash 3 3 → ⊥
not_allowed_met h = omega (arith, h.some_application)

-- addresses outside the application, on both sides of it
pub outside_met : OutsideApp small_board 1023 × OutsideApp small_board 3072
unfolding app_end
outside_met = (inl (omega arith), inr (omega arith))

-- a fit session
pub stays_fit_met : Fit small.session
unfolding small
stays_fit_met = fit_facts small.session (fresh_fit small_board (fresh_sums small_flash 1 3) refl)

-- CLRSTATUS in state 2, a command of one byte, RESET, no setup
abbrev pub clrstatus : Call
clrstatus = lent (0x21 ∷ 4 ∷ 0 ∷ 0 ∷ 0 ∷ 0 ∷ 0 ∷ 0 ∷ []) []

abbrev pub one_byte : Call
one_byte = lent (0x21 ∷ 1 ∷ 0 ∷ 0 ∷ 0 ∷ 0 ∷ 1 ∷ 0 ∷ []) (4 ∷ [])

abbrev pub reset_command : Call
reset_command = lent (0x21 ∷ 1 ∷ 0 ∷ 0 ∷ 0 ∷ 0 ∷ 8 ∷ 0 ∷ []) (7 ∷ 0 ∷ 0 ∷ 0 ∷ 0 ∷ 0 ∷ 0 ∷ 0 ∷ [])

abbrev pub no_setup : Call
no_setup = lent [] []

-- what is the same for calls with the small site
small_sized : length small.flash ≡ start_of small.session.board.b.0
unfolding small fresh_of
small_sized = small_long

pub prepared_met : Prepared small clrstatus
prepared_met =
    record {
      setup_bytes = refl;
      room = roomy;
      flash_length = small_sized;
      dnload_data = λ h. absurd (omega (arith, h.1));
      other_data = λ _. refl;
      rules = stays_fit_met;
    }

dnload_prepared :
    (setup bytes : List ℕ) → length setup ≡ 8 → SaysDnload setup → length bytes ≡ word_at setup 6
    → Prepared small (lent setup bytes)
dnload_prepared setup bytes eight says brought =
    record {
      setup_bytes = eight;
      room = roomy;
      flash_length = small_sized;
      dnload_data = λ _. brought;
      other_data = λ n. absurd (n says);
      rules = stays_fit_met;
    }

one_byte_prepared : Prepared small one_byte
one_byte_prepared = dnload_prepared _ _ refl (refl, refl) refl

reset_prepared : Prepared small reset_command
reset_prepared = dnload_prepared _ _ refl (refl, refl) refl

pub not_prepared_met : Prepared small no_setup → ⊥
not_prepared_met p = omega (arith, p.setup_bytes)

-- a call that is no request which its state allows, and one that is
pub no_request_met : NoRequest small clrstatus
unfolding small fresh_of form_of setup_of allowed_of
no_request_met = no_request small clrstatus prepared_met refl

pub allowed_call_met : Form one_byte.setup 1 Request.Dnload × Allowed Request.Dnload 1 2
allowed_call_met = (dnload (record { typed = refl; numbered = refl; no_index = refl; long = refl }) (omega arith), inl (refl, omega arith))

-- each row's answer
pub stalled_met : heard (called step_of small clrstatus) ≡ 1
unfolding small fresh_of form_of setup_of allowed_of stall_of settled job_done
stalled_met = ap heard (goes_on small clrstatus prepared_met)

pub unfit_met : heard (called step_of small no_setup) ≡ 2
unfit_met = unfit_exactly_holds.unprepared small no_setup not_prepared_met

pub faulted_met : heard (called step_of small one_byte) ≡ 3
unfolding small fresh_of form_of setup_of allowed_of served dnload_of command_of well_formed fault_of settled job_done
faulted_met = ap heard (goes_on small one_byte one_byte_prepared)

pub reset_asked_met : heard (called step_of small reset_command) ≡ 4
unfolding small fresh_of form_of setup_of allowed_of served dnload_of command_of well_formed by_number settled job_done reset_of
reset_asked_met = ap heard (goes_on small reset_command reset_prepared)

-- a stall in state 10: the call after the stall above, ABORT
abbrev pub abort : Call
abort = lent (0x21 ∷ 6 ∷ 0 ∷ 0 ∷ 0 ∷ 0 ∷ 0 ∷ 0 ∷ []) []

stalled_once : InError small.session (after_call step_of small clrstatus).session 0x0F small.session.unerased
unfolding after_call small fresh_of
stalled_once = ((refused_holds small clrstatus).stalled stalled_met).elsewhere (λ e. omega (arith, e))

abort_prepared : Prepared (after_call step_of small clrstatus) abort
abort_prepared =
    record {
      setup_bytes = refl;
      room = roomy;
      flash_length =
          (outside_holds small clrstatus).as_long
          ∙ small_sized
          ∙ ap (λ (b : Board). start_of b.b.0) (sym stalled_once.board);
      dnload_data = λ h. absurd (omega (arith, h.1));
      other_data = λ _. refl;
      rules = stays_fit_holds small clrstatus stays_fit_met;
    }

pub in_ten_met :
    ((after_call step_of small clrstatus).session.phase.state.0 ≡ 10) × (heard (called step_of (after_call step_of small clrstatus) abort) ≡ 1)
unfolding form_of setup_of allowed_of stall_of settled job_done
in_ten_met =
    let e = stalled_once.in_state in
    (e, ap heard (goes_on (after_call step_of small clrstatus) abort abort_prepared) ∙ rw e)
