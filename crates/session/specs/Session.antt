-- The session: its groups of fields, a setter for each that changes and for the talk as a whole, the fresh session and the session of
-- zeros.
use Rattle.std.specs.Prelude.{ℕ, ◌+◌, ◌-◌, ◌*◌, Bool, cond, ◌&&◌, eqb, leb, ltb, replicate}
use Rattle.flash.specs.declared.Blocks.{Blocks}
use Rattle.flash.specs.Flash.{block_size, nowhere}
use Rattle.sums.specs.declared.Sums.{Sums}
use Rattle.sums.specs.Sum.{most_blocks}
use Rattle.session.specs.declared.Board.{Board}
use Rattle.session.specs.declared.Phase.{Phase}
use Rattle.session.specs.declared.Download.{Download}
use Rattle.session.specs.declared.Upload.{Upload}
use Rattle.session.specs.declared.Talk.{Talk}
use Rattle.session.specs.declared.Session.{Session}
use Rattle.session.specs.Codes.{idle, ok}

-- A and B that a flash can have: 1 ≤ A < B ≤ most blocks
abbrev pub allowed_split : ℕ → ℕ → Bool
allowed_split a b = leb 1 a && ltb a b && leb b most_blocks

-- A, B and the two part numbers
abbrev pub board_of : ℕ → ℕ → ℕ → ℕ → Board
board_of a b part0 part1 = record { a = record { 0 = a }; b = record { 0 = b }; part0 = part0; part1 = part1 }

-- the block after the application's last: B
unfoldable pub app_end : Board → ℕ
app_end board = board.b.0

-- the blocks of the application: from A to the one before B
abbrev pub application_of : Board → Blocks
application_of board = record { first = record { 0 = board.a.0 }; stop = record { 0 = app_end board } }

-- a state, its status and the state after sync
abbrev pub phase_of : ℕ → ℕ → ℕ → Phase
phase_of state status after =
    record { state = record { 0 = state }; status = record { 0 = status }; after = record { 0 = after } }

-- a download: where its next byte goes and how many bytes remain
abbrev pub down_of : ℕ → ℕ → Download
down_of place left = record { place = record { 0 = place }; left = left }

-- the download fields while none runs
abbrev pub no_download : Download
no_download = down_of 0 0

-- the two streams that an upload can choose
abbrev pub flash_stream : ℕ
flash_stream = 0

abbrev pub info_bytes : ℕ
info_bytes = 1

-- an upload: its stream, whether the prefix is on, the read range's first block and length, the place in the stream
abbrev pub up_of : ℕ → ℕ → ℕ → ℕ → ℕ → Upload
up_of choice pre first len place =
    record { choice = choice; «prefix» = pre; first = record { 0 = first }; len = len; place = place }

-- how many the info bytes are
abbrev pub info_length : ℕ
info_length = 24

-- how many bytes the prefix has: a PROG header, if it is on
abbrev pub prefix_length : Upload → ℕ
prefix_length up = cond (eqb up.«prefix» 1) 8 0

-- how many bytes the chosen stream has: the info bytes, or the prefix and the range
unfoldable pub stream_length : Upload → ℕ
stream_length up = cond (eqb up.choice info_bytes) info_length (prefix_length up + up.len)

-- the session with other groups in the place of its own
abbrev pub with_phase : Session → Phase → Session
with_phase s phase =
    record { board = s.board; phase = phase; down = s.down; up = s.up; unerased = s.unerased; sums = s.sums }

abbrev pub with_down : Session → Download → Session
with_down s down =
    record { board = s.board; phase = s.phase; down = down; up = s.up; unerased = s.unerased; sums = s.sums }

abbrev pub with_up : Session → Upload → Session
with_up s up =
    record { board = s.board; phase = s.phase; down = s.down; up = up; unerased = s.unerased; sums = s.sums }

abbrev pub with_unerased : Session → ℕ → Session
with_unerased s unerased =
    record { board = s.board; phase = s.phase; down = s.down; up = s.up; unerased = unerased; sums = s.sums }

abbrev pub with_sums : Session → Sums → Session
with_sums s sums =
    record { board = s.board; phase = s.phase; down = s.down; up = s.up; unerased = s.unerased; sums = sums }

-- the talk of a session, and the session with another talk in the place of its own
abbrev pub talk_of : Session → Talk
talk_of s = record { phase = s.phase; down = s.down; up = s.up; unerased = s.unerased }

abbrev pub with_talk : Session → Talk → Session
with_talk s talk =
    record {
      board = s.board;
      phase = talk.phase;
      down = talk.down;
      up = talk.up;
      unerased = talk.unerased;
      sums = s.sums;
    }

-- the upload of a fresh session: the flash stream with its prefix, over all of the application
unfoldable pub whole_upload : Board → Upload
whole_upload board = up_of flash_stream 1 board.a.0 ((app_end board - board.a.0) * block_size) 0

-- the talk of a fresh session: no search has found anything
abbrev pub fresh_talk : Board → Talk
fresh_talk board =
    record { phase = phase_of idle ok idle; down = no_download; up = whole_upload board; unerased = nowhere }

-- the fresh session
unfoldable pub fresh_of : Board → Sums → Session
fresh_of board sums =
    record {
      board = board;
      phase = (fresh_talk board).phase;
      down = (fresh_talk board).down;
      up = (fresh_talk board).up;
      unerased = (fresh_talk board).unerased;
      sums = sums;
    }

-- the session of zeros
unfoldable pub zeros_of : Session
zeros_of =
    record {
      board = board_of 0 0 0 0;
      phase = phase_of 0 0 0;
      down = no_download;
      up = up_of 0 0 0 0 0;
      unerased = 0;
      sums = record { block = replicate most_blocks 0; whole = 0 };
    }
