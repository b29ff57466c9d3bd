-- A board loses nothing by having the answer and the count apart: what a request leaves at the board tells what `step_of` leaves.
-- Assumes nothing.
use Prim.Native.Nat.{ℕ}
use mathlib.Core.List.{List}
use mathlib.Core.Path.{◌≡◌, refl}
use Rattle.session.specs.declared.Session.{Session}
use Rattle.answers.specs.Answers.{Leaves}
use Rattle.loader.specs.Step.{step_of}
use Rattle.board.specs.Board.{AtBoard, requested_of}

-- what the loader left, read back from what it left at the board
abbrev pub read_back_lem : AtBoard → Leaves
read_back_lem l =
    record { answer = l.answer.code; count = l.answer.count; session = l.session; flash = l.flash; reply = l.reply }

pub requested_tells :
    (s : Session) (flash setup d reply : List ℕ) → read_back_lem (requested_of s flash setup d reply) ≡ step_of s flash setup d reply
unfolding requested_of
requested_tells s flash setup d reply = refl
