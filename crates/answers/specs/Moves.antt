-- How a session goes on to another state, and the answers that refuse.
use Rattle.std.specs.Prelude.{ℕ, cond, eqb}
use Rattle.session.specs.Codes.{idle, download_sync, error, ok, stalled}
use Rattle.session.specs.Session.{phase_of, no_download, up_of, with_phase, with_down, with_up, fresh_of}
use Rattle.session.specs.declared.Phase.{Phase}
use Rattle.session.specs.declared.Download.{Download}
use Rattle.session.specs.declared.Upload.{Upload}
use Rattle.session.specs.declared.Session.{Session}
use Rattle.answers.specs.declared.Answer.{Answer}
use Rattle.answers.specs.declared.Outcome.{Outcome}
use Rattle.answers.specs.Answers.{outcome}

-- an upload with its place at the stream's first byte; choice, range and prefix flag stay
abbrev pub rewound : Upload → Upload
rewound up = up_of up.choice up.«prefix» up.first.0 up.len 0

-- the session in another state than upload idle, with the download that runs there or none
unfoldable pub moved_to : Session → Phase → Download → Session
moved_to s phase down = with_up (with_down (with_phase s phase) down) (rewound s.up)

-- idle: a running download is dropped
abbrev pub to_idle : Session → Session
to_idle s = moved_to s (phase_of idle ok idle) no_download

-- error with a status: a running download is dropped
abbrev pub to_error : Session → ℕ → Session
to_error s status = moved_to s (phase_of error status idle) no_download

-- download sync, from which a poll leads on
abbrev pub to_sync : Session → ℕ → Download → Session
to_sync s after down = moved_to s (phase_of download_sync ok after) down

-- 0 taken, with no reply
abbrev pub taken_of : Session → Outcome
taken_of s = outcome Answer.Taken 0 s

-- 1 stalled: to state error with status stalled; in state error nothing changes
unfoldable pub stall_of : Session → Outcome
stall_of s = outcome Answer.Stalled 0 (cond (eqb s.phase.state.0 error) s (to_error s stalled))

-- 2 unfit: nothing changes
unfoldable pub unfit_of : Session → Outcome
unfit_of s = outcome Answer.Unfit 0 s

-- 3 faulted: to state error with the fault's status
unfoldable pub fault_of : Session → ℕ → Outcome
fault_of s status = outcome Answer.Faulted 0 (to_error s status)

-- 4 reset asked: as fresh, with A, B, the part numbers and the sums kept
unfoldable pub reset_of : Session → Outcome
reset_of s = outcome Answer.ResetAsked 0 (fresh_of s.board s.sums)
