-- The commands that change no flash, and the faults in their order: what each definition says once its tests are told. Assumes nothing.
use Prim.Native.Nat.{ℕ, ◌+◌, ◌-◌, ◌≤◌, ◌<◌}
use mathlib.Core.Bool.{Bool, true, false}
use mathlib.Core.List.{[]}
use mathlib.Core.Logic.{inl, inr}
use mathlib.Core.Path.{◌≡◌, refl, ap, ◌∙◌}
use native.Mathlib.Omega.{arith}
use lib.ListN.{length, get_or}
use borrow.Author.Tests.{eq-eqb, ne_eqb, le-leb, lt-leb}
use Rattle.flash.specs.Flash.{start_of}
use Rattle.session.specs.Codes.{address}
use Rattle.session.specs.Rules.{in_application}
use Rattle.session.specs.Session.{fresh_of}
use Rattle.request.specs.declared.Request.{Request}
use Rattle.answers.specs.declared.Answer.{Answer}
use Rattle.answers.specs.Moves.{moved_to, fault_of, reset_of}
use Rattle.jobs.specs.Job.{job_done}
use Rattle.command.specs.Download.{prog_of, read_of, check_of, erase_of, info_of, prefix_for, bin_of, by_number, piece_of, fault_plan}
use Rattle.loader.specs.Step.{step_of, settled}
use Rattle.demands.specs.Calls.{Call, Site}
use Rattle.demands.specs.Asked.{Asks}
use Rattle.demands.specs.Commanded.{FirstUnerased, Commanded, Named, Counted, Legal, Blank, NoCommand}
use Rattle.demands.specs.Does.Rows.{Hands, Moves}
use Rattle.demands.specs.Does.Commands.{Chooses, Finds, Commands}
use Rattle.demands.proofs.Ground.Bytes.{bytes_erased}
use Rattle.demands.proofs.Ground.Unerased.{none_found, first_searched, first_unerased}
use Rattle.demands.proofs.Does.Forms.{asks_brings}
use Rattle.demands.proofs.Does.Outcomes.{so_moves, so_finds, so_hands}
use Rattle.demands.proofs.Does.Downloads.{legal_in, illegal_out, piece_leaves, command_leaves, no_command_leaves, legal_near}
use Rattle.demands.proofs.Does.Works.{legal_fits}

module _ (at : Site) (c : Call) (block len : ℕ) (k : Commanded at c 2 8) (range : Named c block len) where
  read_done : Legal at block len → Chooses step_of at c 0 at.session.up.«prefix» block len
  unfolding by_number settled job_done read_of moved_to
  read_done legal =
      so_hands at c Answer.Taken [] _ at.flash
      (command_leaves at c 2 8 k (omega arith) (omega arith) (omega arith) (inr refl)
      ∙ rw (range.block_is, range.len_is, legal_in at block len (legal_near at c k.asks.prepared) legal)) refl

  read-range : (Legal at block len → ⊥) → Moves step_of at c 3 [] 10 0x08
  unfolding by_number settled job_done read_of fault_of
  read-range none =
      so_moves at c Answer.Faulted [] 10 0x08
      (command_leaves at c 2 8 k (omega arith) (omega arith) (omega arith) (inr refl)
      ∙ rw (range.block_is, range.len_is, illegal_out at block len none))

module _ (at : Site) (c : Call) (block len : ℕ) (k : Commanded at c 3 8) (range : Named c block len) where
  check_done : Legal at block len → Blank at block len → Finds step_of at c 0 3 0 0xFFFFFFFF
  unfolding by_number settled job_done check_of
  check_done legal blank =
      let all = bytes_erased at.flash block len (legal_fits at c block len k.asks.prepared legal) blank in
      so_finds at c Answer.Taken 3 0 0xFFFFFFFF
      (command_leaves at c 3 8 k (omega arith) (omega arith) (omega arith) (inr refl)
      ∙ rw (
        range.block_is,
        range.len_is,
        legal_in at block len (legal_near at c k.asks.prepared) legal,
        all,
        none_found at block len all,
      ))

  check-range : (Legal at block len → ⊥) → Moves step_of at c 3 [] 10 0x08
  unfolding by_number settled job_done check_of fault_of
  check-range none =
      so_moves at c Answer.Faulted [] 10 0x08
      (command_leaves at c 3 8 k (omega arith) (omega arith) (omega arith) (inr refl)
      ∙ rw (range.block_is, range.len_is, illegal_out at block len none))

  check_unerased : (first : ℕ) → Legal at block len → FirstUnerased at block len first → Finds step_of at c 3 10 0x05 first
  unfolding by_number settled job_done check_of fault_of
  check_unerased first legal is =
      let fits = legal_fits at c block len k.asks.prepared legal in
      so_finds at c Answer.Faulted 10 0x05 first
      (command_leaves at c 3 8 k (omega arith) (omega arith) (omega arith) (inr refl)
      ∙ rw (
        range.block_is,
        range.len_is,
        legal_in at block len (legal_near at c k.asks.prepared) legal,
        first_unerased at block len fits first is,
        first_searched at block len fits first is,
      ))

erase-range :
    (at : Site) (c : Call) (block count : ℕ) → Commanded at c 4 8 → Counted c block count → (Legal at block (start_of count) → ⊥)
    → Moves step_of at c 3 [] 10 0x08
unfolding by_number settled job_done erase_of fault_of
erase-range at c block count k range none =
    so_moves at c Answer.Faulted [] 10 0x08
    (command_leaves at c 4 8 k (omega arith) (omega arith) (omega arith) (inr refl)
    ∙ rw (range.block_is, range.count_is, illegal_out at block (start_of count) none))

module _ (at : Site) (c : Call) where
  info-done : Commanded at c 5 8 → Chooses step_of at c 1 at.session.up.«prefix» at.session.up.first.0 at.session.up.len
  unfolding by_number settled job_done info_of moved_to
  info-done k =
      so_hands at c Answer.Taken [] _ at.flash
      (command_leaves at c 5 8 k (omega arith) (omega arith) (omega arith) (inr refl)) refl

  bin_off :
      Commanded at c 6 8 → (get_or c.bytes 1 0 ≡ 0 → ⊥)
      → Chooses step_of at c at.session.up.choice 0 at.session.up.first.0 at.session.up.len
  unfolding by_number settled job_done bin_of prefix_for moved_to
  bin_off k ne =
      so_hands at c Answer.Taken [] _ at.flash
      (command_leaves at c 6 8 k (omega arith) (omega arith) (omega arith) (inr refl) ∙ rw (ne_eqb (get_or c.bytes 1 0) 0 ne)) refl

  bin_on :
      Commanded at c 6 8 → get_or c.bytes 1 0 ≡ 0
      → Chooses step_of at c at.session.up.choice 1 at.session.up.first.0 at.session.up.len
  unfolding by_number settled job_done bin_of prefix_for moved_to
  bin_on k e =
      so_hands at c Answer.Taken [] _ at.flash
      (command_leaves at c 6 8 k (omega arith) (omega arith) (omega arith) (inr refl) ∙ rw (eq-eqb (get_or c.bytes 1 0) 0 e)) refl

  reset-done :
      Commanded at c 7 8
      → Hands step_of at c 4 [] (fresh_of at.session.board at.session.sums)
  unfolding by_number settled job_done reset_of
  reset-done k =
      so_hands at c Answer.ResetAsked [] _ at.flash
      (command_leaves at c 7 8 k (omega arith) (omega arith) (omega arith) (inr refl)) refl

  no_command : (code n : ℕ) → Commanded at c code n → NoCommand code n → Moves step_of at c 3 [] 10 0x0B
  unfolding fault_of
  no_command code n k none = so_moves at c Answer.Faulted [] 10 0x0B (no_command_leaves at c code n k none)

  piece_data :
      (n : ℕ) → Asks at c Request.Dnload n → at.session.phase.state.0 ≡ 5 → at.session.down.left < n
      → Moves step_of at c 3 [] 10 0x08
  unfolding piece_of settled job_done fault_of
  piece_data n k loading lt =
      let is = asks_brings at c n k in
      so_moves at c Answer.Faulted [] 10 0x08
      (piece_leaves at c n k loading
      ∙ rw (
        ne_eqb (length c.bytes) 0 (λ e. omega (arith, e, is, lt)),
        lt-leb (length c.bytes) at.session.down.left (omega (arith, is, lt)),
      ))

module _ (at : Site) (c : Call) (block len n : ℕ) (k : Commanded at c 1 n) where
  first_long : length c.bytes - 8 ≡ n - 8
  first_long = ap (λ (m : ℕ). m - 8) (asks_brings at c n k.asks)

  prog-range : 8 ≤ n → Named c block len → (Legal at block len → ⊥) → Moves step_of at c 3 [] 10 0x08
  unfolding by_number settled job_done prog_of fault_of
  prog-range long range none =
      so_moves at c Answer.Faulted [] 10 0x08
      (command_leaves at c 1 n k long (omega arith) (omega arith) (inl refl)
      ∙ rw (range.block_is, range.len_is, illegal_out at block len none))

  -- in the application or not: 0x08 either way
  too_much :
      8 + len < n → (t : Bool) → in_application at.session.board block len ≡ t
      → prog_of at.session at.flash block len (length c.bytes - 8) ≡ fault_plan at.session address
  unfolding prog_of
  too_much lt true e = rw (e, lt-leb (length c.bytes - 8) len (omega (arith, first_long, lt)))
  too_much lt false e = rw e

  prog_data : Named c block len → 8 + len < n → Moves step_of at c 3 [] 10 0x08
  unfolding by_number settled job_done fault_of
  prog_data range lt =
      so_moves at c Answer.Faulted [] 10 0x08
      (command_leaves at c 1 n k (omega arith) (omega arith) (omega arith) (inl refl)
      ∙ rw (range.block_is, range.len_is, too_much lt (in_application at.session.board block len) refl))

  prog_unerased :
      (first : ℕ) → 8 ≤ n → Named c block len → Legal at block len → n ≤ 8 + len → FirstUnerased at block len first
      → Finds step_of at c 3 10 0x05 first
  unfolding by_number settled job_done prog_of fault_of
  prog_unerased first long range legal few is =
      let fits = legal_fits at c block len k.asks.prepared legal in
      so_finds at c Answer.Faulted 10 0x05 first
      (command_leaves at c 1 n k long (omega arith) (omega arith) (inl refl)
      ∙ rw (
        range.block_is,
        range.len_is,
        legal_in at block len (legal_near at c k.asks.prepared) legal,
        le-leb (length c.bytes - 8) len (omega (arith, first_long, few)),
        first_unerased at block len fits first is,
        first_searched at block len fits first is,
      ))

pub Commands_hold : Commands step_of
Commands_hold at c =
    record {
      read = read_done at c;
      check = check_done at c;
      info = info-done at c;
      bin_off = bin_off at c;
      bin_on = bin_on at c;
      reset = reset-done at c;
      no_command = no_command at c;
      prog-range = prog-range at c;
      read-range = read-range at c;
      check-range = check-range at c;
      erase-range = erase-range at c;
      prog_data = prog_data at c;
      piece_data = piece_data at c;
      prog_unerased = λ block len n first k. prog_unerased at c block len n k first;
      check_unerased = λ block len first k range. check_unerased at c block len k range first;
    }
