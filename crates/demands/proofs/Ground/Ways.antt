-- The ways through a call: what holds of each of them holds of the call. Every demand goes by these cases, so that the tests of the
-- step are taken apart once. Assumes nothing.
use Prim.Native.Nat.{ℕ, ◌+◌, ◌-◌, ◌≤◌}
use mathlib.Core.Bool.{true, false, ◌&&◌, ◌||◌}
use mathlib.Core.List.{List}
use mathlib.Core.Logic.{⊎_elim}
use mathlib.Core.Path.{◌≡◌, refl, sym, subst, subst⁻¹}
use native.Mathlib.Omega.{arith}
use borrow.Author.Tests.{eqb-true, eqb-false, ne_eqb, leb-true}
use lib.Dec.{eqb, leb}
use lib.ListN.{length, get_or, drop, length-drop}
use Rattle.flash.specs.Flash.{start_of}
use Rattle.numbers.specs.Numbers.{word_at, long_at}
use Rattle.session.specs.Codes.{idle, download_idle, manifest_sync, ok, check_erased, address, not_done, vendor}
use Rattle.session.specs.Session.{phase_of, no_download, up_of, flash_stream, with_up}
use Rattle.session.specs.Rules.{in_application}
use Rattle.session.specs.declared.Session.{Session}
use Rattle.session.proofs.Tests.{left_of, right_of, unless}
use Rattle.request.specs.Commands.{prog, read, check, erase, info, bin, reset}
use Rattle.std.specs.Prelude.{Option, Some, None}
use Rattle.request.specs.Request.{w_length, request_of, allowed_of, permitted}
use Rattle.request.specs.declared.Request.{Request}
use Rattle.answers.specs.declared.Outcome.{Outcome}
use Rattle.answers.specs.Answers.{Leaves, leaves}
use Rattle.answers.specs.Moves.{moved_to, to_idle, to_sync, taken_of, stall_of, unfit_of, fault_of, reset_of}
use Rattle.jobs.specs.declared.Job.{Job}
use Rattle.jobs.specs.Job.{Plan, plan_of, job_done}
use Rattle.command.specs.Ready.{Ready}
use Rattle.command.specs.Download.{all_erased, noted, prog_of, read_of, check_of, erase_of, info_of, bin_of, well_formed, by_number, command_of}
use Rattle.command.specs.Download.{closed_of, piece_of, dnload_of}
use Rattle.command.proofs.Laws.{pick, long_enough}
use Rattle.loader.specs.Reply.{getstatus_of, getstate_of, query_of}
use Rattle.loader.specs.Upload.{upload_of}
use Rattle.loader.specs.Step.{ready, Decided, with_reply, served, asked_of, decided_of, settled, step_of}
use Rattle.loader.proofs.Laws.{ready_fit, allowed_loading}
use Rattle.demands.specs.Safe.Refused.{FaultStatus, out_of_range, bytes_missing, bad_command}
use Rattle.demands.proofs.Ground.Finished.{finished, with_flash, stored_of, wiped_of, bytes_finished, wipe_finished}

-- a DNLOAD that is served in a state
pub record Loads (s : Session) (f setup : List ℕ) (state : ℕ) : Type 0 where
  pub fit : Ready s f
  pub is_dnload_lem : request_of setup ≡ Some Request.Dnload
  pub here : s.phase.state.0 ≡ state

-- a well-formed command that is none of the six before it is RESET, of eight bytes
module _ (d : List ℕ) (g : well_formed d ≡ true) where
  others_eight : (get_or d 0 0 ≡ prog → ⊥) → length d ≡ 8
  unfolding well_formed
  others_eight n =
      let known = leb 8 (length d) && leb prog (get_or d 0 0) && leb (get_or d 0 0) reset in
      let alone = eqb (get_or d 0 0) prog || eqb (length d) 8 in
      eqb-true _ _ (unless (eqb (get_or d 0 0) prog) (eqb (length d) 8) (right_of known alone g) (ne_eqb _ _ n))

  known_command : (1 ≤ get_or d 0 0) × (get_or d 0 0 ≤ 7)
  unfolding well_formed
  known_command =
      let eight = leb 8 (length d) in
      let some = leb prog (get_or d 0 0) in
      let few = leb (get_or d 0 0) reset in
      let alone = eqb (get_or d 0 0) prog || eqb (length d) 8 in
      let l = left_of (eight && some && few) alone g in
      (leb-true _ _ (right_of eight some (left_of (eight && some) few l)), leb-true _ _ (right_of (eight && some) few l))

  last_reset :
      (get_or d 0 0 ≡ prog → ⊥) → (get_or d 0 0 ≡ read → ⊥) → (get_or d 0 0 ≡ check → ⊥) → (get_or d 0 0 ≡ erase → ⊥)
      → (get_or d 0 0 ≡ info → ⊥) → (get_or d 0 0 ≡ bin → ⊥) → get_or d 0 0 ≡ reset
  last_reset n1 n2 n3 n4 n5 n6 = let k = known_command in omega arith

-- a command that comes to the search: PROG with not more data than its length, or CHECK of eight bytes
pub data ComesTo (d : List ℕ) : Type 0 where
  by-prog : get_or d 0 0 ≡ prog → 8 ≤ length d → length d ≤ 8 + long_at d 4 → ComesTo d
  by-check : get_or d 0 0 ≡ check → length d ≡ 8 → ComesTo d

-- what P must hold of: each way's outcome, with what was found on the way
pub record Ways (s : Session) (f setup d reply : List ℕ) (P : Leaves → Type 0) : Type 0 where
  pub unfits : ready s (length f) setup (length d) (length reply) ≡ false → P (leaves (unfit_of s) f reply)
  pub stalls :
      Ready s f → permitted (request_of setup) (w_length setup) s.phase.state.0 ≡ false
      → P (leaves (stall_of s) f reply)
  pub faults :
      Ready s f → request_of setup ≡ Some Request.Dnload → (status : ℕ) → FaultStatus status
      → P (leaves (fault_of s status) f reply)
  pub unerased :
      Loads s f setup idle → ComesTo d → in_application s.board (word_at d 2) (long_at d 4) ≡ true
      → all_erased f (word_at d 2) (long_at d 4) ≡ false
      → P (leaves (fault_of (noted s f (word_at d 2) (long_at d 4)) check_erased) f reply)
  pub programs :
      Loads s f setup idle → get_or d 0 0 ≡ prog → in_application s.board (word_at d 2) (long_at d 4) ≡ true
      → length (drop 8 d) ≤ long_at d 4
      → P
      (with_reply
      (stored_of (noted s f (word_at d 2) (long_at d 4)) f (start_of (word_at d 2)) (drop 8 d) (long_at d 4 - length (drop 8 d)))
      reply)
  pub pieces :
      Loads s f setup download_idle → length d ≤ s.down.left
      → P (with_reply (stored_of s f s.down.place.0 d (s.down.left - length d)) reply)
  pub closes :
      Loads s f setup download_idle
      → P (leaves (taken_of (moved_to s (phase_of manifest_sync ok idle) no_download)) f reply)
  pub reads :
      Loads s f setup idle → in_application s.board (word_at d 2) (long_at d 4) ≡ true
      → P
      (leaves
      (taken_of
      (to_sync (with_up s (up_of flash_stream s.up.«prefix» (word_at d 2) (long_at d 4) 0)) idle no_download)) f reply)
  pub checks :
      Loads s f setup idle → P (leaves (taken_of (to_sync (noted s f (word_at d 2) (long_at d 4)) idle no_download)) f reply)
  pub erases :
      Loads s f setup idle → get_or d 0 0 ≡ erase → in_application s.board (word_at d 2) (start_of (word_at d 4)) ≡ true
      → P (with_reply (wiped_of s f (word_at d 2) (word_at d 4)) reply)
  pub informs : Loads s f setup idle → P (leaves (info_of s) f reply)
  pub bins : Loads s f setup idle → P (leaves (bin_of s (get_or d 1 0)) f reply)
  pub resets : Loads s f setup idle → length d ≡ 8 → get_or d 0 0 ≡ reset → P (leaves (reset_of s) f reply)
  pub uploads :
      Ready s f → request_of setup ≡ Some Request.Upload → P (with_flash (upload_of s f (w_length setup) reply) f)
  pub polls : Ready s f → request_of setup ≡ Some Request.GetStatus → P (with_flash (getstatus_of s reply) f)
  pub tells : Ready s f → request_of setup ≡ Some Request.GetState → P (with_flash (getstate_of s reply) f)
  pub queries : Ready s f → request_of setup ≡ Some Request.Query → P (with_flash (query_of s reply) f)
  pub idles : Ready s f → P (leaves (taken_of (to_idle s)) f reply)

module _ (s : Session) (f setup d reply : List ℕ) (P : Leaves → Type 0) (w : Ways s f setup d reply P) where
  -- what is to be shown of a plan: it holds of what the plan leaves
  Finishes : Plan → Type 0
  Finishes p = P (finished p f d reply)

  -- and of an outcome that leaves flash alone
  Only : Outcome → Type 0
  Only o = P (leaves o f reply)

  -- which a plan without a job does
  alone : (o : Outcome) → Only o → Finishes (plan_of o Job.Nothing)
  unfolding Finishes Only settled job_done
  alone o x = x

  faulty : Loads s f setup idle → (status : ℕ) → FaultStatus status → Finishes (plan_of (fault_of s status) Job.Nothing)
  unfolding Only
  faulty l status why = alone _ (w.faults l.fit l.is_dnload_lem status why)

  prog_ways :
      Loads s f setup idle → get_or d 0 0 ≡ prog → 8 ≤ length d → Finishes (prog_of s f (word_at d 2) (long_at d 4) (length d - 8))
  unfolding prog_of Finishes Only
  prog_ways l c eight =
      let n = length d - 8 in
      let t = noted s f (word_at d 2) (long_at d 4) in
      pick Finishes (in_application s.board (word_at d 2) (long_at d 4)) _ _
      (λ i.
      pick Finishes (leb n (long_at d 4)) _ _
      (λ e.
      let few : n ≤ long_at d 4 = leb-true _ _ e in
      let long = length-drop 8 d in
      pick Finishes (all_erased f (word_at d 2) (long_at d 4)) _ _
      (λ b.
      subst⁻¹ P (bytes_finished t f d reply (start_of (word_at d 2)) 8 n (long_at d 4 - n) (sym long))
      (subst (λ (m : ℕ). P (with_reply (stored_of t f (start_of (word_at d 2)) (drop 8 d) (long_at d 4 - m)) reply)) long
      (w.programs l c i (omega (arith, few, long)))))
      (λ b. alone _ (w.unerased l (by-prog c eight (omega (arith, few, eight))) i b)))
      (λ n. faulty l address (out_of_range refl)))
      (λ i. faulty l address (out_of_range refl))

  read_ways : Loads s f setup idle → Only (read_of s (word_at d 2) (long_at d 4))
  unfolding read_of Only
  read_ways l =
      pick Only (in_application s.board (word_at d 2) (long_at d 4)) _ _ (λ i. w.reads l i)
      (λ i. w.faults l.fit l.is_dnload_lem address (out_of_range refl))

  check_ways :
      Loads s f setup idle → get_or d 0 0 ≡ check → length d ≡ 8 → Only (check_of s f (word_at d 2) (long_at d 4))
  unfolding check_of Only
  check_ways l c eight =
      pick Only (in_application s.board (word_at d 2) (long_at d 4)) _ _
      (λ i.
      pick Only (all_erased f (word_at d 2) (long_at d 4)) _ _ (λ b. w.checks l)
      (λ b. w.unerased l (by-check c eight) i b))
      (λ i. w.faults l.fit l.is_dnload_lem address (out_of_range refl))

  erase_ways : Loads s f setup idle → get_or d 0 0 ≡ erase → Finishes (erase_of s (word_at d 2) (word_at d 4))
  unfolding erase_of Finishes
  erase_ways l c =
      pick Finishes (in_application s.board (word_at d 2) (start_of (word_at d 4))) _ _
      (λ i. subst⁻¹ P (wipe_finished s f d reply (word_at d 2) (word_at d 4)) (w.erases l c i))
      (λ i. faulty l address (out_of_range refl))

  carried_ways : Loads s f setup idle → well_formed d ≡ true → Finishes (by_number (get_or d 0 0) s f d)
  unfolding Only by_number
  carried_ways l g =
      pick Finishes (eqb (get_or d 0 0) prog) _ _ (λ e. prog_ways l (eqb-true _ _ e) (long_enough d g))
      (λ n1.
      pick Finishes (eqb (get_or d 0 0) read) _ _ (λ _. alone _ (read_ways l))
      (λ n2.
      pick Finishes (eqb (get_or d 0 0) check) _ _ (λ e. alone _ (check_ways l (eqb-true _ _ e) (others_eight d g (eqb-false _ _ n1))))
      (λ n3.
      pick Finishes (eqb (get_or d 0 0) erase) _ _ (λ e. erase_ways l (eqb-true _ _ e))
      (λ n4.
      pick Finishes (eqb (get_or d 0 0) info) _ _ (λ _. alone _ (w.informs l))
      (λ n5.
      pick Finishes (eqb (get_or d 0 0) bin) _ _ (λ _. alone _ (w.bins l))
      (λ n6.
      alone _
      (w.resets l (others_eight d g (eqb-false _ _ n1))
      (last_reset d g (eqb-false _ _ n1) (eqb-false _ _ n2) (eqb-false _ _ n3) (eqb-false _ _ n4) (eqb-false _ _ n5)
      (eqb-false _ _ n6)))))))))

  command_ways : Loads s f setup idle → Finishes (command_of s f d)
  unfolding command_of
  command_ways l = pick Finishes (well_formed d) _ _ (λ g. carried_ways l g) (λ _. faulty l vendor (bad_command refl))

  close_ways : Loads s f setup download_idle → Only (closed_of s)
  unfolding closed_of Only
  close_ways l =
      pick Only (eqb s.down.left 0) _ _ (λ _. w.closes l)
      (λ _. w.faults l.fit l.is_dnload_lem not_done (bytes_missing refl))

  piece_ways : Loads s f setup download_idle → Finishes (piece_of s (length d))
  unfolding Finishes Only piece_of
  piece_ways l =
      pick Finishes (eqb (length d) 0) _ _ (λ _. alone _ (close_ways l))
      (λ _.
      pick Finishes (leb (length d) s.down.left) _ _
      (λ n.
      subst⁻¹ P (bytes_finished s f d reply s.down.place.0 0 (length d) (s.down.left - length d) refl)
      (w.pieces l (leb-true _ _ n)))
      (λ _. alone _ (w.faults l.fit l.is_dnload_lem address (out_of_range refl))))

  dnload_ways :
      Ready s f → request_of setup ≡ Some Request.Dnload
      → allowed_of Request.Dnload (w_length setup) s.phase.state.0 ≡ true → Finishes (dnload_of s f d)
  unfolding dnload_of
  dnload_ways r q a =
      pick Finishes (eqb s.phase.state.0 idle) _ _
      (λ e. command_ways (record { fit = r; is_dnload_lem = q; here = eqb-true _ _ e }))
      (λ n.
      ⊎_elim (λ e. absurd (eqb-false _ _ n e)) (λ e. piece_ways (record { fit = r; is_dnload_lem = q; here = e }))
      (allowed_loading s (w_length setup) a).in_two)

  Settles : Decided → Type 0
  Settles x = P (settled x f d)

  served_ways :
      (q : Request) → request_of setup ≡ Some q → Ready s f → allowed_of q (w_length setup) s.phase.state.0 ≡ true
      → Settles (served q s f (w_length setup) d reply)
  unfolding served Settles Finishes settled job_done allowed_of
  served_ways Request.Dnload e r a = dnload_ways r e a
  served_ways Request.Upload e r a = w.uploads r e
  served_ways Request.GetStatus e r a = w.polls r e
  served_ways Request.ClrStatus e r a = w.idles r
  served_ways Request.GetState e r a = w.tells r e
  served_ways Request.Abort e r a = w.idles r
  served_ways Request.Query e r a = w.queries r e

  asked_ways : (q : Option Request) → request_of setup ≡ q → Ready s f → Settles (asked_of q s f (w_length setup) d reply)
  unfolding Settles settled job_done
  asked_ways (Some q) e r =
      pick Settles (allowed_of q (w_length setup) s.phase.state.0) _ _ (λ a. served_ways q e r a) (λ n. w.stalls r (rw e n))
  asked_ways None e r = w.stalls r (rw e)

  pub every_way : P (step_of s f setup d reply)
  unfolding step_of Settles decided_of settled job_done
  every_way =
      pick Settles (ready s (length f) setup (length d) (length reply)) _ _
      (λ r.
      asked_ways (request_of setup) refl (ready_fit s f setup (length d) (length reply) r))
      (λ r. w.unfits r)
