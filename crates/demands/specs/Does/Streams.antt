-- Does: what the bytes are that an upload can choose, and how many, for any numbers.
use Rattle.std.specs.Prelude.{ℕ, ◌+◌, ◌*◌, ◌/◌, ◌%◌, List, [], ◌∷◌, ◌++◌, ◌≡◌, take, drop}
use Rattle.session.specs.Session.{app_end, stream_length}
use Rattle.session.specs.declared.Board.{Board}
use Rattle.session.specs.declared.Upload.{Upload}
use Rattle.stream.specs.Stream.{stream_of}

-- INFO: block size and B, 16 bits each, the two part numbers, B × 1,024, A × 1,024, and the number of where flash wasn't erased
pub record InfoBytes (board : Board) (unerased : ℕ) (up : Upload) (flash : List ℕ) : Type 0 where
  pub bytes :
      stream_of board unerased up flash
      ≡ 0x00
      ∷ 0x04
      ∷ board.b.0 % 256
      ∷ board.b.0 / 256 % 256
      ∷ board.part0 % 256
      ∷ board.part0 / 256 % 256
      ∷ board.part0 / 65536 % 256
      ∷ board.part0 / 16777216 % 256
      ∷ board.part1 % 256
      ∷ board.part1 / 256 % 256
      ∷ board.part1 / 65536 % 256
      ∷ board.part1 / 16777216 % 256
      ∷ app_end board * 1024 % 256
      ∷ app_end board * 1024 / 256 % 256
      ∷ app_end board * 1024 / 65536 % 256
      ∷ app_end board * 1024 / 16777216 % 256
      ∷ board.a.0 * 1024 % 256
      ∷ board.a.0 * 1024 / 256 % 256
      ∷ board.a.0 * 1024 / 65536 % 256
      ∷ board.a.0 * 1024 / 16777216 % 256
      ∷ unerased % 256
      ∷ unerased / 256 % 256
      ∷ unerased / 65536 % 256
      ∷ unerased / 16777216 % 256
      ∷ []
  pub count : stream_length up ≡ 24

-- the flash stream with the prefix on: the eight bytes of a PROG command for the range (1, a byte that is ignored, block, length), and
-- then the range
pub record HeaderAndRange (board : Board) (unerased : ℕ) (up : Upload) (flash : List ℕ) : Type 0 where
  pub bytes :
      stream_of board unerased up flash
      ≡ (0x01
      ∷ 0x00
      ∷ up.first.0 % 256
      ∷ up.first.0 / 256 % 256
      ∷ up.len % 256
      ∷ up.len / 256 % 256
      ∷ up.len / 65536 % 256
      ∷ up.len / 16777216 % 256
      ∷ [])
      ++ take up.len (drop (up.first.0 * 1024) flash)
  pub count : stream_length up ≡ 8 + up.len

-- with the prefix off: the range alone
pub record RangeAlone (board : Board) (unerased : ℕ) (up : Upload) (flash : List ℕ) : Type 0 where
  pub bytes : stream_of board unerased up flash ≡ take up.len (drop (up.first.0 * 1024) flash)
  pub count : stream_length up ≡ up.len

-- Streams: which of them it is, by the choice and the prefix flag
pub record Streams : Type 0 where
  pub info : (board : Board) (unerased : ℕ) (up : Upload) (flash : List ℕ) → up.choice ≡ 1 → InfoBytes board unerased up flash
  pub prefix_on :
      (board : Board) (unerased : ℕ) (up : Upload) (flash : List ℕ) → up.choice ≡ 0 → up.«prefix» ≡ 1
      → HeaderAndRange board unerased up flash
  pub prefix_off :
      (board : Board) (unerased : ℕ) (up : Upload) (flash : List ℕ) → up.choice ≡ 0 → up.«prefix» ≡ 0
      → RangeAlone board unerased up flash
