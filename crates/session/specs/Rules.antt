-- The rules that a fit session keeps, in the order of the paper.
use Rattle.std.specs.Prelude.{ℕ, Bool, not, ◌&&◌, ◌||◌, eqb, leb, ltb}
use Rattle.flash.specs.Flash.{start_of, in_reach, lies_in}
use Rattle.session.specs.declared.Board.{Board}
use Rattle.session.specs.declared.Phase.{Phase}
use Rattle.session.specs.declared.Download.{Download}
use Rattle.session.specs.declared.Upload.{Upload}
use Rattle.session.specs.declared.Session.{Session}
use Rattle.session.specs.Codes.{idle, download_sync, download_idle, upload_idle, error, known_state, ok, error_status}
use Rattle.session.specs.Session.{allowed_split, app_end, stream_length}

-- A and B are a split that a flash can have
abbrev pub split_rule : Board → Bool
split_rule board = allowed_split board.a.0 board.b.0

-- the state is one of the states
abbrev pub state_rule : Phase → Bool
state_rule phase = known_state phase.state.0

-- status 0 outside state error, and one of its own in it
abbrev pub status_rule : Phase → Bool
status_rule phase =
    (eqb phase.state.0 error || eqb phase.status.0 ok)
    && (not (eqb phase.state.0 error) || error_status phase.status.0)

-- a download runs in state download idle, and in download sync that leads to it
abbrev pub running : Phase → Bool
running phase =
    eqb phase.state.0 download_idle
    || eqb phase.state.0 download_sync && eqb phase.after.0 download_idle

-- download fields are zero unless a download runs
abbrev pub download_rule : Phase → Download → Bool
download_rule phase down = running phase || eqb down.place.0 0 && eqb down.left 0

-- only in state upload idle can an upload stand beyond the first byte, and at most at the end of its stream
abbrev pub upload_rule : Phase → Upload → Bool
upload_rule phase up =
    (eqb phase.state.0 upload_idle || eqb up.place 0) && leb up.place (stream_length up)

-- the state after sync is idle, or in state download sync also download idle
abbrev pub after_rule : Phase → Bool
after_rule phase =
    eqb phase.after.0 idle
    || eqb phase.state.0 download_sync && eqb phase.after.0 download_idle

-- some bytes that begin at a block and lie wholly in the application; a block out of reach is out of range
abbrev pub in_application : Board → ℕ → ℕ → Bool
in_application board first len =
    in_reach first && ltb 0 len && lies_in (start_of first) len board.a.0 (app_end board)

-- the read range isn't empty and lies in the application
abbrev pub range_rule : Board → Upload → Bool
range_rule board up = in_application board up.first.0 up.len

-- a running download's place lies in the application, its end included, and so do the bytes that remain
abbrev pub place_rule : Board → Phase → Download → Bool
place_rule board phase down =
    not (running phase) || lies_in down.place.0 down.left board.a.0 (app_end board)

-- the upload's choice and its prefix flag are 0 or 1
abbrev pub flags_rule : Upload → Bool
flags_rule up = leb up.choice 1 && leb up.«prefix» 1

-- a session that keeps them all; the part numbers, the number of the last search and the kept sums aren't judged
unfoldable pub fit_of : Session → Bool
fit_of s =
    split_rule s.board
    && state_rule s.phase
    && status_rule s.phase
    && download_rule s.phase s.down
    && upload_rule s.phase s.up
    && after_rule s.phase
    && range_rule s.board s.up
    && place_rule s.board s.phase s.down
    && flags_rule s.up
