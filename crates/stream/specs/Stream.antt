-- The two streams that an upload can choose, and the bytes of one that an answer brings.
use Rattle.std.specs.Prelude.{ℕ, ◌+◌, ◌≤◌, ◌≡◌, cond, List, [], ◌∷◌, ◌++◌, eqb, length, take, drop}
use Rattle.numbers.specs.Numbers.{bytes2, bytes4}
use Rattle.flash.specs.Flash.{block_size, start_of, range}
use Rattle.sums.specs.Sum.{most_blocks}
use Rattle.session.specs.declared.Board.{Board}
use Rattle.session.specs.declared.Upload.{Upload}
use Rattle.session.specs.Session.{app_end, info_bytes, stream_length}
use Rattle.request.specs.Commands.{prog}

-- a PROG header for the read range: the command, a byte that is ignored, the block, the length
unfoldable pub header_of : Upload → List ℕ
header_of up = (prog ∷ 0 ∷ []) ++ bytes2 up.first.0 ++ bytes4 up.len

-- the header if the prefix is on
unfoldable pub prefix_of : Upload → List ℕ
prefix_of up = cond (eqb up.«prefix» 1) (header_of up) []

-- the info bytes: block size and B, 16 bits each, the two part numbers, where the application ends and where it starts, and the number
-- of what the last search found
unfoldable pub info_stream : Board → ℕ → List ℕ
info_stream board unerased =
    bytes2 block_size
    ++ bytes2 board.b.0
    ++ bytes4 board.part0
    ++ bytes4 board.part1
    ++ bytes4 (start_of (app_end board))
    ++ bytes4 (start_of board.a.0)
    ++ bytes4 unerased

-- the flash stream: the prefix and then the range
abbrev pub range_stream : Upload → List ℕ → List ℕ
range_stream up flash = prefix_of up ++ range flash (start_of up.first.0) up.len

-- the chosen stream: the info bytes, or the flash stream
unfoldable pub stream_of : Board → ℕ → Upload → List ℕ → List ℕ
stream_of board unerased up flash = cond (eqb up.choice info_bytes) (info_stream board unerased) (range_stream up flash)

-- the next bytes of the stream from a place on: as many as were asked for, or all that are left
unfoldable pub next_of : Board → ℕ → Upload → List ℕ → ℕ → ℕ → List ℕ
next_of board unerased up flash place asked = take asked (drop place (stream_of board unerased up flash))

-- what there has to be for an answer: a read range in the application, the application in flash, a place in the stream, and room
-- for what is asked
pub record Sendable (board : Board) (up : Upload) (flash : List ℕ) (place asked room : ℕ) : Type 0 where
  pub few_blocks : board.b.0 ≤ most_blocks
  pub range_from : board.a.0 ≤ up.first.0
  pub range_to : start_of up.first.0 + up.len ≤ start_of (app_end board)
  pub in_flash : start_of (app_end board) ≤ length flash
  pub in_stream : place ≤ stream_length up
  pub in_room : asked ≤ room

-- n bytes at the front of the reply, the rest of it untouched
pub record Sent (n : ℕ) (before after bytes : List ℕ) : Type 0 where
  pub count : n ≡ length bytes
  pub reply : after ≡ bytes ++ drop (length bytes) before
