-- Exact: the impostors, each of which fails a demand.
use Rattle.std.specs.Prelude.{ℕ, ◌-◌, ◌≤◌, ◌<◌, cond, ◌&&◌, List, ◌++◌, ◌≡◌, eqb, length, get_or, drop}
use Rattle.flash.specs.Flash.{start_of, spliced}
use Rattle.sums.specs.declared.Sums.{Sums}
use Rattle.session.specs.Session.{with_sums}
use Rattle.session.specs.declared.Session.{Session}
use Rattle.numbers.specs.Numbers.{word_at}
use Rattle.answers.specs.Answers.{Leaves, leaves}
use Rattle.answers.specs.Moves.{taken_of, stall_of}
use Rattle.loader.specs.Step.{start_outcome, step_of}
use Rattle.demands.specs.Calls.{Start, Step, Call, Site, begun, after_calls}
use Rattle.demands.specs.Does.Rows.{RowsAt}
use Rattle.demands.specs.Does.Commands.{EraseAt, ProgramAt}
use Rattle.demands.specs.Kept.History.{History}

-- what a call leaves, with another flash, another count and reply, or another session in the place of its own
abbrev pub but_flash : Leaves → List ℕ → Leaves
but_flash l flash = record { answer = l.answer; count = l.count; session = l.session; flash = flash; reply = l.reply }

abbrev pub but_reply : Leaves → ℕ → List ℕ → Leaves
but_reply l count reply = record { answer = l.answer; count = count; session = l.session; flash = l.flash; reply = reply }

abbrev pub but_session : Leaves → Session → Leaves
but_session l s = record { answer = l.answer; count = l.count; session = s; flash = l.flash; reply = l.reply }

-- one that stalls everything
abbrev pub stalls_all : Step
stalls_all s flash setup d reply = leaves (stall_of s) flash reply

-- one with a single reply, right in all else
unfoldable pub single_reply : List ℕ → Step
single_reply bytes s flash setup d reply =
    but_reply (step_of s flash setup d reply) (length bytes) (bytes ++ drop (length bytes) reply)

-- one that does nothing: the flash stays, whatever is asked; right in all else, so that the host hears what it hopes for
unfoldable pub does_nothing : Step
does_nothing s flash setup d reply = but_flash (step_of s flash setup d reply) flash

-- one that leaves the flash where the data begin with one command's number; right at every other call and in all else
unfoldable pub does_nothing_at : ℕ → Step
does_nothing_at code s flash setup d reply =
    let l = step_of s flash setup d reply in
    but_flash l (cond (eqb (get_or d 0 0) code) flash l.flash)

-- one that says taken and leaves the session as it is too
abbrev pub says_taken : Step
says_taken s flash setup d reply = leaves (taken_of s) flash reply

-- one that does all in the first piece: it knows the image beforehand and stores all of it once a PROG is taken; right in all else
unfoldable pub all_at_first : List ℕ → Step
all_at_first image s flash setup d reply =
    let l = step_of s flash setup d reply in
    but_flash l
    (cond (eqb s.phase.state.0 2 && eqb l.session.phase.after.0 5)
    (spliced l.flash (start_of (word_at d 2)) image)
    l.flash)

-- one that saves all for the close: no piece changes the flash, and the close stores what was held back; right in all else
unfoldable pub all_at_close : List ℕ → Step
all_at_close held s flash setup d reply =
    let l = step_of s flash setup d reply in
    but_flash l
    (cond (eqb l.session.phase.after.0 5) flash
    (cond (eqb l.session.phase.state.0 6) (spliced l.flash (s.down.place.0 - length held) held) l.flash))

-- one that invents the byte count, by what was asked for alone; right in all else
unfoldable pub invents_count : (ℕ → ℕ) → Step
invents_count invented s flash setup d reply =
    let l = step_of s flash setup d reply in
    but_reply l (invented (word_at setup 6)) l.reply

-- one with constant sums, right in all else
unfoldable pub constant_sums : Sums → Step
constant_sums sums s flash setup d reply =
    let l = step_of s flash setup d reply in
    but_session l (with_sums l.session sums)

-- and such a start
unfoldable pub constant_start : Sums → Start
constant_start sums flash a b part0 part1 =
    let o = start_outcome flash a b part0 part1 in
    record { answer = o.answer; count = o.count; session = with_sums o.session sums }

-- a demand of any site and call, asked of a loader where our start and the loader's own calls lead to on a board with A = 1 and B = 3
abbrev pub Led : (Step → Site → Call → Type 0) → Step → Type 0
Led demand step =
    (f : List ℕ) → length f ≡ start_of 3 → (calls : List Call) (c : Call)
    → demand step (after_calls step (begun start_outcome f 1 3 0 0) calls) c

-- each of them fails a demand, and at a site that a start and calls lead to
pub record Impostors : Type 0 where
  -- the rows of requests
  pub stalls_everything : Led RowsAt stalls_all → ⊥
  pub single_reply_lem : (bytes : List ℕ) → Led RowsAt (single_reply bytes) → ⊥
  -- ERASE and PROG, each by itself
  pub nothing-done_at_erase : Led EraseAt does_nothing → ⊥
  pub nothing-done_at_prog : Led ProgramAt does_nothing → ⊥
  pub nothing-erased : Led EraseAt (does_nothing_at 4) → ⊥
  pub nothing_programmed : Led ProgramAt (does_nothing_at 1) → ⊥
  pub nothing_but_said : Led EraseAt says_taken → ⊥
  -- the flash after each piece, whatever the image, if some byte of it behind the first isn't 0xFF
  pub all_at_first_lem :
      (image : List ℕ) (i : ℕ) → 1 ≤ i → i < length image → (get_or image i 0 ≡ 0xFF → ⊥) → Led ProgramAt (all_at_first image)
      → ⊥
  pub all_at_close_lem : (held : List ℕ) → Led ProgramAt (all_at_close held) → ⊥
  -- the row of UPLOAD
  pub invented_count : (invented : ℕ → ℕ) → Led RowsAt (invents_count invented) → ⊥
  -- the sums over a history
  pub constant_sums_lem : (sums : Sums) → History start_outcome (constant_sums sums) → ⊥
  pub constant_start_lem : (sums : Sums) → History (constant_start sums) step_of → ⊥
