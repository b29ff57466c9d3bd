-- Does: what a start hands back.
use Rattle.std.specs.Prelude.{ℕ, ◌-◌, ◌*◌, List, ◌≡◌, replicate}
use Rattle.sums.specs.Sum.{most_blocks, Right}
use Rattle.session.specs.Session.{board_of, app_end, phase_of, down_of, up_of, fresh_of}
use Rattle.answers.specs.Answers.{Told}
use Rattle.demands.specs.Calls.{Start}
use Rattle.demands.specs.Safe.Fit.{AllowedStart}

-- a fresh start: answer 0, state 2, prefix on, read range all of the application, nowhere found unerased, sums those of the flash
pub record Fresh (flash : List ℕ) (a b part0 part1 : ℕ) (o : Told) : Type 0 where
  pub answer : o.answer ≡ 0
  pub count : o.count ≡ 0
  pub board : o.session.board ≡ board_of a b part0 part1
  pub phase : o.session.phase ≡ phase_of 2 0 2
  pub down : o.session.down ≡ down_of 0 0
  pub up : o.session.up ≡ up_of 0 1 a ((app_end (board_of a b part0 part1) - a) * 1024) 0
  pub unerased : o.session.unerased ≡ 0xFFFFFFFF
  pub sums : Right o.session.sums flash a (app_end (board_of a b part0 part1))
  pub session : o.session ≡ fresh_of (board_of a b part0 part1) o.session.sums

-- a refused start: answer 2 and a session of zeros
pub record Zeros (o : Told) : Type 0 where
  pub answer : o.answer ≡ 2
  pub count : o.count ≡ 0
  pub board : o.session.board ≡ board_of 0 0 0 0
  pub phase : o.session.phase ≡ phase_of 0 0 0
  pub down : o.session.down ≡ down_of 0 0
  pub up : o.session.up ≡ up_of 0 0 0 0 0
  pub unerased : o.session.unerased ≡ 0
  pub sums : o.session.sums ≡ record { block = replicate most_blocks 0; whole = 0 }

pub record Starts (start : Start) : Type 0 where
  pub taken :
      (flash : List ℕ) (a b part0 part1 : ℕ) → AllowedStart flash a b
      → Fresh flash a b part0 part1 (start flash a b part0 part1)
  pub refused : (flash : List ℕ) (a b part0 part1 : ℕ) → (AllowedStart flash a b → ⊥) → Zeros (start flash a b part0 part1)
