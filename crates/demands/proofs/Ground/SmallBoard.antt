-- The board of every witness: three blocks, of which the first is the loader's, an erased flash and a reply buffer with room for an
-- answer. Assumes nothing.
use Prim.Native.Nat.{ℕ, ◌≤◌}
use mathlib.Core.List.{List}
use mathlib.Core.Path.{◌≡◌}
use native.Mathlib.Omega.{arith}
use lib.ListN.{length}
use Rattle.flash.specs.Flash.{start_of, blank}
use Rattle.flash.proofs.Laws.{length-blank}
use Rattle.sums.specs.Sum.{fresh_sums}
use Rattle.session.specs.Session.{board_of, fresh_of}
use Rattle.session.specs.declared.Board.{Board}
use Rattle.session.specs.declared.Session.{Session}
use Rattle.demands.specs.Calls.{Call}

-- A = 1, B = 3
abbrev pub small_board : Board
small_board = board_of 1 3 0 0

abbrev pub small_flash : List ℕ
small_flash = blank (start_of 3)

pub small_long : length small_flash ≡ start_of 3
small_long = length-blank (start_of 3)

-- the session of a start
abbrev pub small_session : Session
small_session = fresh_of small_board (fresh_sums small_flash 1 3)

-- a call with a reply buffer of 1,024 bytes
abbrev pub lent : List ℕ → List ℕ → Call
lent setup bytes = record { setup = setup; bytes = bytes; reply = blank 1024 }

pub roomy : 1024 ≤ length (blank 1024)
roomy = omega (arith, length-blank 1024)
