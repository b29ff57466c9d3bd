-- The premises of what is kept can be met, what is noted of a PROG is what the next piece may change, and a CHECK over a zero byte is a
-- call that searches. Assumes nothing.
use Prim.Native.Nat.{ℕ}
use mathlib.Core.List.{[], ◌∷◌}
use mathlib.Core.Path.{◌≡◌, refl}
use native.Mathlib.Omega.{arith}
use lib.ListN.{get_or}
use Rattle.flash.specs.Flash.{blank, range, spliced, first_in, searched}
use Rattle.session.specs.Session.{app_end, stream_length, whole_upload, fresh_of}
use Rattle.session.specs.Rules.{fit_of}
use Rattle.request.specs.Request.{form_of, setup_of, data_asked, allowed_of}
use Rattle.answers.specs.Moves.{moved_to}
use Rattle.jobs.specs.Job.{sums_after, job_done}
use Rattle.command.specs.Download.{all_erased, prog_of, well_formed, by_number, command_of, piece_of, dnload_of, wrote_of}
use Rattle.loader.specs.Reply.{answered, entered, polled, poll_time, getstatus_of}
use Rattle.loader.specs.Step.{startable, fresh_start, start_outcome, ready, served, step_of, settled, decided_of}
use Rattle.demands.specs.Calls.{begun, Call, Site, called, after_call, after_calls}
use Rattle.demands.specs.Commanded.{Searches, check}
use Rattle.demands.specs.Kept.Named.{NamedRange, none, command_names, took_dnload, may_change, note_of, noted_after}
use Rattle.demands.proofs.Ground.SmallBoard.{small_flash, lent}
use Rattle.demands.proofs.Does.Examples.{on_one, brings, marred, unerased_met}

-- PROG of two bytes in block 1, the first of them with it; a poll; the second byte
abbrev pub prog : Call
prog = lent (0x21 ∷ 1 ∷ 0 ∷ 0 ∷ 0 ∷ 0 ∷ 9 ∷ 0 ∷ []) (1 ∷ 0 ∷ 1 ∷ 0 ∷ 2 ∷ 0 ∷ 0 ∷ 0 ∷ 7 ∷ [])

abbrev pub poll : Call
poll = lent (0xA1 ∷ 3 ∷ 0 ∷ 0 ∷ 0 ∷ 0 ∷ 6 ∷ 0 ∷ []) []

abbrev pub piece : Call
piece = lent (0x21 ∷ 1 ∷ 0 ∷ 0 ∷ 0 ∷ 0 ∷ 1 ∷ 0 ∷ []) (9 ∷ [])

unfoldable pub start_site : Site
start_site = begun start_outcome small_flash 1 3 0 0

-- before the piece
unfoldable pub before : Site
before = after_calls step_of start_site (prog ∷ poll ∷ [])

-- what is noted by then, what the piece may change, and a byte that it does change
pub record Continues : Type 0 where
  pub noted : noted_after step_of none start_site (prog ∷ poll ∷ []) ≡ record { at = 1024; size = 2 }
  pub may : (r : NamedRange) → may_change r before.session piece (called step_of before piece) ≡ r
  pub erased_yet : get_or before.flash 1025 0 ≡ 255
  pub written : get_or (after_call step_of before piece).flash 1025 0 ≡ 9

pub only_named_met : Continues
unfolding before start_site begun blank range spliced first_in searched app_end stream_length whole_upload fresh_of fit_of form_of setup_of
    data_asked allowed_of moved_to all_erased sums_after wrote_of decided_of prog_of well_formed by_number settled job_done command_of
    piece_of dnload_of answered entered polled poll_time getstatus_of startable fresh_start start_outcome ready served step_of called after_call
    after_calls command_names took_dnload may_change note_of noted_after
only_named_met = record { noted = refl; may = λ r. refl; erased_yet = refl; written = refl }

-- a search that finds the second of three bytes, and a poll, which searches nothing
pub searches_met : Searches marred (brings (on_one 3 3 0)) 1 3
searches_met = check (unerased_met 3).0 (record { block_is = refl; len_is = refl }) (unerased_met 3).1

pub no_search_met : (block len : ℕ) → Searches start_site poll block len → ⊥
no_search_met block len (Searches.prog n is long named legal few) = omega (arith, is.command)
no_search_met block len (check is named legal) = omega (arith, is.command)
