-- The starred examples hold: each call's outcome is computed at a session that stands written out, whatever its part numbers and sums.
-- Assumes nothing.
use Prim.Native.Nat.{ℕ, ◌+◌, ◌≤◌}
use mathlib.Core.Bool.{true, false}
use mathlib.Core.List.{List, [], ◌∷◌, ◌++◌}
use mathlib.Core.Path.{◌≡◌, refl, sym, ap, subst, ◌∙◌}
use native.Mathlib.Omega.{arith}
use lib.ListN.{length, get_or, drop}
use borrow.Author.Tests.{eq-eqb}
use Rattle.flash.specs.Flash.{start_of, blank, searched, found_number}
use Rattle.std.proofs.Common.{None}
use Rattle.flash.proofs.Laws.{length-blank, spliced-length}
use Rattle.sums.specs.Sum.{refreshed, fresh_sums}
use Rattle.sums.specs.declared.Sums.{Sums}
use Rattle.session.specs.Session.{board_of, phase_of, down_of, app_end, stream_length, with_phase, with_down, with_unerased, whole_upload, fresh_of}
use Rattle.session.specs.Rules.{fit_of}
use Rattle.session.specs.declared.Session.{Session}
use Rattle.std.specs.Prelude.{Some}
use Rattle.request.specs.declared.Request.{Request}
use Rattle.request.specs.Request.{setup_of, form_of, request_of, w_length, data_asked, allowed_of, permitted}
use Rattle.answers.specs.declared.Answer.{Answer}
use Rattle.answers.specs.Answers.{Leaves, outcome, leaves}
use Rattle.answers.specs.Moves.{moved_to, stall_of, fault_of}
use Rattle.jobs.specs.Job.{sums_after, job_done, sums_wiped}
use Rattle.command.specs.Download.{all_erased, prog_of, erase_of, well_formed, wrote_of}
use Rattle.command.specs.Download.{by_number, command_of, closed_of, piece_of, dnload_of}
use Rattle.loader.specs.Reply.{answered, entered, polled, poll_time, getstatus_of, getstate_of, query_of}
use Rattle.loader.specs.Step.{startable, fresh_start, start_outcome, served, step_of, settled}
use Rattle.demands.specs.Calls.{heard, Call, Site, begun, called, after_call, after_calls}
use Rattle.demands.specs.Asked.{Prepared}
use Rattle.demands.proofs.Ground.Prepared.{prepared_from}
use Rattle.demands.specs.Exact.Desk.{Case, Meets, Expected, All, none, ◌and◌, Desk, fresh_site, get_status}
use Rattle.demands.specs.Exact.Desk.{erase_all, wiped, marred, prog_one, prog_zero, seven, close, case, desk_cases}
use Rattle.demands.proofs.Ground.Bytes.{erased-length, erased_part, not_erased, spliced_none, spliced_byte}
use Rattle.demands.proofs.Ground.Unerased.{none_found}
use Rattle.demands.proofs.Ground.Served.{sound_served, sound_stalled, after_call_from}

-- no call, and one call more
ended : (at : Site) → after_calls step_of at [] ≡ at
unfolding after_calls
ended at = refl

onward :
    (at on end : Site) (c : Call) (cs : List Call) → after_call step_of at c ≡ on → after_calls step_of on cs ≡ end
    → after_calls step_of at (c ∷ cs) ≡ end
unfolding after_calls
onward at on end c cs e h = ap (λ (x : Site). after_calls step_of x cs) e ∙ h

module _ (p q : ℕ) (f buffer : List ℕ) (sized : length f ≡ start_of 64) (room : 1024 ≤ length buffer) where
  -- the session of the examples in a state, with a status, a state after sync, a download and its sums
  abbrev held : ℕ → ℕ → ℕ → ℕ → ℕ → Sums → Session
  held state status after place left sums =
      with_down (with_phase (fresh_of (board_of 16 64 p q) sums) (phase_of state status after)) (down_of place left)

  abbrev site : Session → List ℕ → Site
  site s g = record { session = s; flash = g }

  begins : fresh_site start_outcome p q f ≡ site (held 2 0 2 0 0 (fresh_sums f 16 64)) f
  unfolding begun start_outcome startable fresh_start fresh_of whole_upload app_end
  begins = rw (eq-eqb _ _ sized)

  -- a call at such a session, which is sound where its own numbers are
  module _
      (s : Session) (g : List ℕ) (c : Call) (b : s.board.b.0 ≡ 64) (long : length g ≡ start_of 64) (lent : c.reply ≡ buffer)
      (eight : length c.setup ≡ 8) (brought : length c.bytes ≡ data_asked c.setup) (fit : fit_of s ≡ true) where
    sound : Prepared (site s g) c
    sound = prepared_from (site s g) c eight (rw lent room) (rw b long) brought fit

    serves :
        {r : Request} → request_of c.setup ≡ Some r → allowed_of r (w_length c.setup) s.phase.state.0 ≡ true
        → called step_of (site s g) c ≡ settled (served r s g (w_length c.setup) c.bytes c.reply) g c.bytes
    serves is e = sound_served (site s g) c sound _ is e

    stalls :
        permitted (request_of c.setup) (w_length c.setup) s.phase.state.0 ≡ false → called step_of (site s g) c
        ≡ leaves (stall_of s) g c.reply
    stalls = sound_stalled (site s g) c sound

  -- the flash after an erase of the application, and with a zero byte at its start
  abbrev w : List ℕ
  w = wiped f

  abbrev z : List ℕ
  z = marred f

  w_long : length w ≡ start_of 64
  w_long = erased-length f 16 48 (omega arith) ∙ sized

  z_long : length z ≡ start_of 64
  z_long = spliced-length w (start_of 16) (0x00 ∷ []) (rw w_long (omega arith)) ∙ w_long

  w_erased : (block n : ℕ) → 16 ≤ block → start_of block + n ≤ start_of 64 → all_erased w block n ≡ true
  w_erased block n low high = erased_part f 16 48 block n (omega arith) low (omega arith)

  w_found : (block n : ℕ) → 16 ≤ block → start_of block + n ≤ start_of 64 → searched w block n ≡ None
  w_found block n low high = none_found (site (held 2 0 2 0 0 (fresh_sums f 16 64)) w) block n (w_erased block n low high)

  z_unerased : all_erased z 16 1024 ≡ false
  z_unerased =
      let here : get_or z (start_of 16 + 0) 0 ≡ 0 = spliced_byte w (start_of 16) (0x00 ∷ []) (rw w_long (omega arith)) 0 (omega arith) in
      not_erased z 16 1024 (rw z_long (omega arith)) 0 (omega arith) (λ e. omega (arith, here, e))

  -- where the calls lead to
  module _ (sums : Sums) where
    after_erase : after_call step_of (site (held 2 0 2 0 0 sums) f) (erase_all buffer) ≡ site (held 3 0 2 0 0 (refreshed sums w 16 64 16 64)) w
    unfolding fit_of stream_length fresh_of whole_upload app_end data_asked setup_of form_of allowed_of served dnload_of command_of well_formed
        by_number settled job_done erase_of sums_wiped moved_to
    after_erase = after_call_from _ _ _ (serves (held 2 0 2 0 0 sums) f (erase_all buffer) refl sized refl refl refl refl refl refl)

    after_seven : after_call step_of (site (held 2 0 2 0 0 sums) f) (seven buffer) ≡ site (held 10 0x0B 2 0 0 sums) f
    unfolding fit_of stream_length fresh_of whole_upload app_end data_asked setup_of form_of allowed_of served settled job_done dnload_of
        command_of well_formed fault_of moved_to
    after_seven = after_call_from _ _ _ (serves (held 2 0 2 0 0 sums) f (seven buffer) refl sized refl refl refl refl refl refl)

    after_poll :
        (g : List ℕ) → length g ≡ start_of 64 → after_call step_of (site (held 3 0 2 0 0 sums) g) (get_status buffer)
        ≡ site (held 2 0 2 0 0 sums) g
    unfolding fit_of stream_length fresh_of whole_upload app_end data_asked setup_of form_of allowed_of served settled job_done getstatus_of
        answered polled entered poll_time
    after_poll g long = after_call_from _ _ _ (serves (held 3 0 2 0 0 sums) g (get_status buffer) refl long refl refl refl refl refl refl)

    -- a PROG of one byte that brings none, and one that brings a zero
    one_sums : Sums
    one_sums = sums_after (board_of 16 64 p q) sums w (start_of 16) 0

    after_one : after_call step_of (site (held 2 0 2 0 0 sums) w) (prog_one buffer) ≡ site (held 3 0 5 16384 1 one_sums) w
    unfolding one_sums fit_of stream_length fresh_of whole_upload app_end data_asked setup_of form_of allowed_of served dnload_of command_of
        well_formed by_number settled job_done prog_of wrote_of moved_to
    after_one =
        after_call_from _ _ (leaves (outcome Answer.Taken 0 (held 3 0 5 16384 1 one_sums)) w buffer)
        (serves (held 2 0 2 0 0 sums) w (prog_one buffer) refl w_long refl refl refl refl refl refl
        ∙ rw (w_erased 16 1 (omega arith) (omega arith), w_found 16 1 (omega arith) (omega arith), spliced_none w (start_of 16)))

    zero_sums : Sums
    zero_sums = sums_after (board_of 16 64 p q) sums z (start_of 16) 1

    after_zero : after_call step_of (site (held 2 0 2 0 0 sums) w) (prog_zero buffer) ≡ site (held 3 0 5 16385 0 zero_sums) z
    unfolding zero_sums fit_of stream_length fresh_of whole_upload app_end data_asked setup_of form_of allowed_of served dnload_of command_of
        well_formed by_number settled job_done prog_of wrote_of moved_to
    after_zero =
        after_call_from _ _ (leaves (outcome Answer.Taken 0 (held 3 0 5 16385 0 zero_sums)) z buffer)
        (serves (held 2 0 2 0 0 sums) w (prog_zero buffer) refl w_long refl refl refl refl refl refl
        ∙ rw (w_erased 16 1 (omega arith) (omega arith), w_found 16 1 (omega arith) (omega arith)))

    one_polled : after_call step_of (site (held 3 0 5 16384 1 sums) w) (get_status buffer) ≡ site (held 5 0 2 16384 1 sums) w
    unfolding fit_of stream_length fresh_of whole_upload app_end data_asked setup_of form_of allowed_of served settled job_done getstatus_of
        answered polled entered poll_time
    one_polled = after_call_from _ _ _ (serves (held 3 0 5 16384 1 sums) w (get_status buffer) refl w_long refl refl refl refl refl refl)

    zero-polled : after_call step_of (site (held 3 0 5 16385 0 sums) z) (get_status buffer) ≡ site (held 5 0 2 16385 0 sums) z
    unfolding fit_of stream_length fresh_of whole_upload app_end data_asked setup_of form_of allowed_of served settled job_done getstatus_of
        answered polled entered poll_time
    zero-polled = after_call_from _ _ _ (serves (held 3 0 5 16385 0 sums) z (get_status buffer) refl z_long refl refl refl refl refl refl)

    zero_closed : after_call step_of (site (held 5 0 2 16385 0 sums) z) (close buffer) ≡ site (held 6 0 2 0 0 sums) z
    unfolding fit_of stream_length fresh_of whole_upload app_end data_asked setup_of form_of allowed_of served settled job_done dnload_of
        piece_of closed_of moved_to
    zero_closed = after_call_from _ _ _ (serves (held 5 0 2 16385 0 sums) z (close buffer) refl z_long refl refl refl refl refl refl)

    closed_polled : after_call step_of (site (held 6 0 2 0 0 sums) z) (get_status buffer) ≡ site (held 2 0 2 0 0 sums) z
    unfolding fit_of stream_length fresh_of whole_upload app_end data_asked setup_of form_of allowed_of served settled job_done getstatus_of
        answered polled entered poll_time
    closed_polled = after_call_from _ _ _ (serves (held 6 0 2 0 0 sums) z (get_status buffer) refl z_long refl refl refl refl refl refl)

  -- where the examples stand: fresh, fresh with all erased, a download of one byte open, one closed, and in error
  sums0 : Sums
  sums0 = fresh_sums f 16 64

  sums1 : Sums
  sums1 = refreshed sums0 w 16 64 16 64

  at_start : after_calls step_of (fresh_site start_outcome p q f) [] ≡ site (held 2 0 2 0 0 sums0) f
  unfolding after_calls sums0
  at_start = begins

  through_erase :
      (cs : List Call) (end : Site) → after_calls step_of (site (held 2 0 2 0 0 sums1) w) cs ≡ end
      → after_calls step_of (fresh_site start_outcome p q f) (erase_all buffer ∷ get_status buffer ∷ cs) ≡ end
  unfolding sums0 sums1
  through_erase cs end e =
      onward _ _ _ _ _ (ap (λ (x : Site). after_call step_of x (erase_all buffer)) begins ∙ after_erase sums0)
      (onward _ _ _ _ _ (after_poll sums1 w w_long) e)

  at_erased : after_calls step_of (fresh_site start_outcome p q f) (erase_all buffer ∷ get_status buffer ∷ []) ≡ site (held 2 0 2 0 0 sums1) w
  at_erased = through_erase [] _ (ended _)

  at_one :
      after_calls step_of (fresh_site start_outcome p q f) (erase_all buffer ∷ get_status buffer ∷ prog_one buffer ∷ get_status buffer ∷ [])
      ≡ site (held 5 0 2 16384 1 (one_sums sums1)) w
  at_one = through_erase _ _ (onward _ _ _ _ _ (after_one sums1) (onward _ _ _ _ _ (one_polled (one_sums sums1)) (ended _)))

  at_zero :
      after_calls step_of (fresh_site start_outcome p q f)
      (erase_all buffer ∷ get_status buffer ∷ prog_zero buffer ∷ get_status buffer ∷ close buffer ∷ get_status buffer ∷ [])
      ≡ site (held 2 0 2 0 0 (zero_sums sums1)) z
  at_zero =
      let x = zero_sums sums1 in
      through_erase _ _
      (onward _ _ _ _ _ (after_zero sums1)
      (onward _ _ _ _ _ (zero-polled x) (onward _ _ _ _ _ (zero_closed x) (onward _ _ _ _ _ (closed_polled x) (ended _)))))

  at_error : after_calls step_of (fresh_site start_outcome p q f) (seven buffer ∷ []) ≡ site (held 10 0x0B 2 0 0 sums0) f
  unfolding sums0
  at_error = onward _ _ _ _ _ (ap (λ (x : Site). after_call step_of x (seven buffer)) begins ∙ after_seven sums0) (ended _)

  -- the examples, by their places in the list
  abbrev nth : ℕ → Case
  nth n = get_or (desk_cases start_outcome p q f buffer) n (case start_outcome p q f [] (close buffer) 0 0 0 [] [])

  -- what an example expects, one by one
  example :
      (n : ℕ) (at : Site) (l : Leaves) → after_calls step_of (nth n).at (nth n).before ≡ at → called step_of at (nth n).call ≡ l
      → heard l ≡ (nth n).answer → l.count ≡ length (nth n).reply
      → l.session.phase.state.0 ≡ (nth n).state → l.session.phase.status.0 ≡ (nth n).status
      → l.reply ≡ (nth n).reply ++ drop (length (nth n).reply) (nth n).call.reply → l.flash ≡ (nth n).flash
      → Expected step_of (nth n)
  example n at l e h answer count state status reply flash =
      subst (λ (x : Leaves). Meets x (nth n)) (sym (ap (λ (x : Site). called step_of x (nth n).call) e ∙ h))
      (record { answer = answer; count = count; state = state; status = status; reply = reply; flash = flash })

  -- what a PROG of the last block leaves, and one over a zero byte
  abbrev opened : Leaves
  opened =
      leaves
      (outcome Answer.Taken 0 (held 3 0 5 64512 1024 (sums_after (board_of 16 64 p q) sums1 w (start_of 63) 0))) w buffer

  abbrev unerased : Leaves
  unerased =
      leaves
      (outcome Answer.Faulted 0 (with_unerased (held 10 0x05 2 0 0 (zero_sums sums1)) (found_number (searched z 16 1024)))) z buffer

  -- all that each asks and expects is computed where it stands
  desk : All (Expected step_of) (desk_cases start_outcome p q f buffer)
  unfolding fit_of stream_length fresh_of whole_upload app_end data_asked setup_of form_of allowed_of served stall_of fault_of moved_to answered
      getstate_of query_of getstatus_of polled entered poll_time dnload_of command_of well_formed by_number settled job_done erase_of
      sums_wiped prog_of wrote_of piece_of closed_of
  desk =
      example 0 _ _ at_start (serves _ f _ refl sized refl refl refl refl refl refl) refl refl refl refl refl refl
      and example 1 _ _ at_start (serves _ f _ refl sized refl refl refl refl refl refl) refl refl refl refl refl refl
      and example 2 _ _ at_start (serves _ f _ refl sized refl refl refl refl refl refl) refl refl refl refl refl refl
      and example 3 _ _ at_start (serves _ f _ refl sized refl refl refl refl refl refl) refl refl refl refl refl refl
      and example 4 _ _ at_start (serves _ f _ refl sized refl refl refl refl refl refl) refl refl refl refl refl refl
      and example 5 _ opened at_erased
      (serves _ w _ refl w_long refl refl refl refl refl refl
      ∙ rw (w_erased 63 1024 (omega arith) (omega arith), w_found 63 1024 (omega arith) (omega arith), spliced_none w (start_of 63)))
      refl refl refl refl refl refl
      and example 6 _ _ at_erased (serves _ w _ refl w_long refl refl refl refl refl refl) refl refl refl refl refl refl
      and example 7 _ _ at_start (serves _ f _ refl sized refl refl refl refl refl refl) refl refl refl refl refl refl
      and example 8 _ _ at_start (serves _ f _ refl sized refl refl refl refl refl refl) refl refl refl refl refl refl
      and example 9 _ _ at_start (serves _ f _ refl sized refl refl refl refl refl refl) refl refl refl refl refl refl
      and example 10 _ _ at_error (serves _ f _ refl sized refl refl refl refl refl refl) refl refl refl refl refl refl
      and example 11 _ _ at_start (stalls _ f _ refl sized refl refl refl refl refl) refl refl refl refl refl refl
      and example 12 _ _ at_one (serves _ w _ refl w_long refl refl refl refl refl refl) refl refl refl refl refl refl
      and example 13 _ unerased at_zero
      (serves _ z _ refl z_long refl refl refl refl refl refl ∙ rw z_unerased) refl refl refl refl refl refl
      and example 14 _ _ at_error (serves _ f _ refl sized refl refl refl refl refl refl) refl refl refl refl refl refl
      and example 15 _ _ at_start (stalls _ f _ refl sized refl refl refl refl refl) refl refl refl refl refl refl
      and none

pub Desk_holds : Desk start_outcome step_of
Desk_holds = desk

-- a flash and a reply buffer as the examples ask for them
pub Desk_met : (flash : List ℕ) × (buffer : List ℕ) × (length flash ≡ start_of 64) × (1024 ≤ length buffer)
Desk_met = (blank (start_of 64), blank 1024, length-blank (start_of 64), rw (length-blank 1024) (omega arith))
