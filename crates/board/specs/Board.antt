-- The two calls as a board hears them: numbers for the answers, and the session handed back in place.
use Rattle.std.specs.Prelude.{ℕ, List}
use Rattle.session.specs.declared.Session.{Session}
use Rattle.answers.specs.Answers.{Leaves, Told}
use Rattle.loader.specs.Step.{start_outcome, step_of}
use Rattle.board.specs.declared.Reply.{Reply}
use Rattle.board.specs.declared.Started.{Started}

-- what a start leaves, as the board has it
abbrev pub started_by : Told → Started
started_by t = record { code = t.answer; session = t.session }

-- a start
unfoldable pub started_of : List ℕ → ℕ → ℕ → ℕ → ℕ → Started
started_of flash a b part0 part1 = started_by (start_outcome flash a b part0 part1)

-- all that a request leaves at the board: what the host hears, and the session, the flash and the reply buffer at exit
pub record AtBoard : Type 0 where
  pub answer : Reply
  pub session : Session
  pub flash : List ℕ
  pub reply : List ℕ

abbrev pub at_board : Reply → Session → List ℕ → List ℕ → AtBoard
at_board answer session flash reply = record { answer = answer; session = session; flash = flash; reply = reply }

-- what a call leaves, as the board has it
abbrev pub at_board_by : Leaves → AtBoard
at_board_by l = at_board (record { code = l.answer; count = l.count }) l.session l.flash l.reply

-- a request
unfoldable pub requested_of : Session → List ℕ → List ℕ → List ℕ → List ℕ → AtBoard
requested_of s flash setup d reply = at_board_by (step_of s flash setup d reply)
