-- The parts of reading back, request by request: what each leaves at the sessions of the run. Assumes nothing.
use Prim.Native.Nat.{ℕ, ◌+◌, ◌^◌, ◌≤◌, ◌<◌}
use mathlib.Core.Bool.{true}
use mathlib.Core.List.{List}
use mathlib.Core.Path.{◌≡◌, refl, ap, ap₂, ◌∙◌}
use native.Mathlib.Omega.{arith}
use borrow.Author.Tests.{eq-eqb, ne_eqb}
use lib.ListN.{length, get_or}
use Rattle.flash.specs.Flash.{start_of, next_start, erased}
use Rattle.sums.specs.declared.Sums.{Sums}
use Rattle.sums.specs.Sum.{refreshed}
use Rattle.session.specs.Codes.{idle}
use Rattle.session.specs.Session.{no_download, up_of, with_up, app_end, flash_stream}
use Rattle.session.specs.Rules.{split_rule, in_application}
use Rattle.session.specs.declared.Board.{Board}
use Rattle.session.specs.declared.Session.{Session}
use Rattle.session.proofs.Laws.{fit_kept, split_facts, end_in_flash, inside_facts, facts_inside}
use Rattle.numbers.specs.Numbers.{word_at, long_at}
use Rattle.numbers.proofs.Laws.{four_bytes}
use Rattle.request.specs.Request.{allowed_of}
use Rattle.answers.specs.Answers.{leaves}
use Rattle.answers.specs.Moves.{moved_to, to_sync, taken_of}
use Rattle.jobs.specs.Job.{Plan, job_done, sums_wiped}
use Rattle.command.specs.Ready.{Ready}
use Rattle.command.specs.Download.{dnload_of, command_of, by_number, well_formed, read_of, erase_of}
use Rattle.command.proofs.Laws.{long_enough}
use Rattle.loader.specs.Reply.{answered, polled, getstatus_of}
use Rattle.loader.specs.Step.{step_of, settled}
use Rattle.demands.specs.Calls.{called}
use Rattle.demands.specs.Does.ReadBack.{Host, asks, run, dnload, poll, read_command, erase_command}
use Rattle.demands.proofs.Ground.Finished.{finished}
use Rattle.demands.proofs.Does.ReadBack.Calls.{site_of, on_taken, is_yes, dnload-called, poll-called}
use Rattle.demands.proofs.Does.ReadBack.Sessions.{in_state_lem, at_idle, at_command}
use Rattle.demands.proofs.Does.ReadBack.Sessions.{idle_fit}

module _ (s : Session) (f lent : List ℕ) (r : Ready s f) (room : 1024 ≤ length lent) where
  -- a poll
  pub polled_on : {A : Type 0} (h : Host A) → run step_of (site_of s f) (asks (poll lent) (λ _. h)) ≡ run step_of (site_of (polled s) f) h
  unfolding getstatus_of answered allowed_of
  polled_on h = on_taken (site_of s f) (poll lent) (λ _. h) _ (polled s) f _ (poll-called s f lent r room (fit_kept s r.fit).state)

  -- a well-formed command in state idle is carried out
  pub command_called :
      (d : List ℕ) → s.phase.state.0 ≡ idle → well_formed d ≡ true → length d ≤ 1024
      → called step_of (site_of s f) (dnload lent d) ≡ finished (by_number (get_or d 0 0) s f d) f d lent
  unfolding dnload_of command_of allowed_of
  command_called d in_idle w few =
      let long = long_enough d w in
      dnload-called s f lent r room d few (rw (in_idle, ne_eqb (length d) 0 (omega arith)))
      ∙ ap (λ (x : Plan). finished x f d lent) (is_yes _ _ _ (eq-eqb _ _ in_idle) ∙ is_yes _ _ _ w)

-- a range of the application isn't empty, its block and the count of its blocks have 16 bits, its length has 32
module _ (board : Board) (block len : ℕ) (split : split_rule board ≡ true) (legal : in_application board block len ≡ true) where
  pub near : (0 < len) × (block < 65536) × (next_start len < 65536) × (len < 2 ^ 32)
  near =
      let facts = split_facts board split in
      let ends = end_in_flash board in
      let inside = inside_facts board block len legal in
      omega arith

-- READ
pub read-called :
    (s : Session) (f lent : List ℕ) (block len : ℕ) → Ready s f → 1024 ≤ length lent → s.phase.state.0 ≡ idle
    → s.up.«prefix» ≡ 1
    → in_application s.board block len ≡ true
    → called step_of (site_of s f) (dnload lent (read_command block len))
    ≡ leaves (taken_of (in_state_lem s block len at_command no_download 0 s.sums)) f lent
unfolding read_command well_formed by_number settled job_done read_of moved_to
read-called s f lent block len r room in_idle prefixed legal =
    let small = near s.board block len (fit_kept s r.fit).split legal in
    let the_block : word_at (read_command block len) 2 ≡ block = omega arith in
    let the_length : long_at (read_command block len) 4 ≡ len = four_bytes len (omega arith) in
    command_called s f lent r room (read_command block len) in_idle refl (omega arith)
    ∙ ap₂ (λ (b n : ℕ). leaves (read_of s b n) f lent) the_block the_length
    ∙ ap (λ o. leaves o f lent) (is_yes _ _ _ legal)
    ∙ ap (λ (x : ℕ). leaves (taken_of (to_sync (with_up s (up_of flash_stream x block len 0)) idle no_download)) f lent) prefixed

-- the blocks that the range touches lie in the application too
pub blocks_legal :
    (board : Board) (block len : ℕ) → split_rule board ≡ true → in_application board block len ≡ true
    → in_application board block (start_of (next_start len)) ≡ true
blocks_legal board block len split legal =
    let inside = inside_facts board block len legal in
    let few = split_facts board split in
    let ends = end_in_flash board in
    facts_inside board block (start_of (next_start len)) (omega arith)
    (record { some = omega arith; from = inside.from; to = omega arith })

-- ERASE
module _ (board : Board) (block len : ℕ) (sums : Sums) (f : List ℕ) where
  abbrev pub wiped_sums : Sums
  wiped_sums = refreshed sums (erased f block (next_start len)) board.a.0 (app_end board) block (block + next_start len)

module _
    (base : Session) (block len : ℕ) (sums : Sums) (f lent : List ℕ) (split : split_rule base.board ≡ true)
    (legal : in_application base.board block len ≡ true) (sized : length f ≡ start_of base.board.b.0)
    (room : 1024 ≤ length lent) where
  pub erase-called :
      called step_of (site_of (in_state_lem base block len at_idle no_download 0 sums) f) (dnload lent (erase_command block (next_start len)))
      ≡ leaves (taken_of (in_state_lem base block len at_command no_download 0 (wiped_sums base.board block len sums f)))
      (erased f block (next_start len))
      lent
  unfolding erase_command well_formed by_number erase_of settled job_done sums_wiped moved_to
  erase-called =
      let s = in_state_lem base block len at_idle no_download 0 sums in
      let small = near base.board block len split legal in
      let count = next_start len in
      let the_block : word_at (erase_command block count) 2 ≡ block = omega arith in
      let the_count : word_at (erase_command block count) 4 ≡ count = omega arith in
      command_called s f lent (record { fit = idle_fit base block len split legal sums; sized = sized }) room
      (erase_command block count) refl refl (omega arith)
      ∙ ap₂ (λ (b n : ℕ). finished (erase_of s b n) f (erase_command block count) lent) the_block the_count
      ∙ ap (λ (x : Plan). finished x f (erase_command block count) lent)
      (is_yes _ _ _ (blocks_legal base.board block len split legal))
