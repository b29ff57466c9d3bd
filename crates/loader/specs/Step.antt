-- The two calls: a fresh start, and a request.
use Rattle.std.specs.Prelude.{ℕ, ◌≤◌, Bool, true, cond, ◌&&◌, List, ◌≡◌, Option, Some, None, eqb, leb, length}
use Rattle.flash.specs.Flash.{start_of, Store}
use Rattle.sums.specs.Sum.{fresh_sums}
use Rattle.session.specs.Session.{allowed_split, board_of, app_end, fresh_of, zeros_of}
use Rattle.session.specs.Rules.{fit_of}
use Rattle.session.specs.declared.Board.{Board}
use Rattle.session.specs.declared.Session.{Session}
use Rattle.request.specs.Request.{request_of, w_length, data_asked, allowed_of}
use Rattle.request.specs.declared.Request.{Request}
use Rattle.answers.specs.declared.Answer.{Answer}
use Rattle.answers.specs.declared.Outcome.{Outcome}
use Rattle.answers.specs.Answers.{Leaves, Told, Done, Replied, outcome, leaves, told}
use Rattle.answers.specs.Moves.{to_idle, taken_of, stall_of, unfit_of}
use Rattle.loader.specs.Reply.{getstatus_of, getstate_of, query_of}
use Rattle.jobs.specs.declared.Job.{Job}
use Rattle.jobs.specs.Job.{Plan, plan_of, stores_for, job_done}
use Rattle.command.specs.Ready.{Ready}
use Rattle.command.specs.Download.{dnload_of}
use Rattle.loader.specs.Upload.{upload_of}

-- A, B and the flash length as they must be
unfoldable pub startable : ℕ → ℕ → ℕ → Bool
startable flash_length a b = allowed_split a b && eqb flash_length (start_of b)

-- the fresh session of a board with a flash
unfoldable pub fresh_start : List ℕ → Board → Session
fresh_start flash board = fresh_of board (fresh_sums flash board.a.0 (app_end board))

-- a start: the fresh session, or answer 2 and the session of zeros
unfoldable pub start_outcome : List ℕ → ℕ → ℕ → ℕ → ℕ → Told
start_outcome flash a b part0 part1 =
    cond (startable (length flash) a b) (told (outcome Answer.Taken 0 (fresh_start flash (board_of a b part0 part1))))
    (told (outcome Answer.Unfit 0 zeros_of))

-- what a call must find, or it is unfit: 8 setup bytes, room for a reply, the flash's length, as many data bytes as the setup asks
-- for, a session that keeps its rules
unfoldable pub ready : Session → ℕ → List ℕ → ℕ → ℕ → Bool
ready s flash_length setup data_length reply_length =
    eqb (length setup) 8
    && leb 1024 reply_length
    && eqb flash_length (start_of s.board.b.0)
    && eqb data_length (data_asked setup)
    && fit_of s

-- what is decided on a call: its plan, and the reply buffer with its answer; no flash has changed yet
pub record Decided : Type 0 where
  pub plan : Plan
  pub reply : List ℕ

abbrev pub decided : Plan → List ℕ → Decided
decided plan reply = record { plan = plan; reply = reply }

-- an outcome that leaves flash alone, with no reply, and with one
abbrev pub only : Outcome → List ℕ → Decided
only o reply = decided (plan_of o Job.Nothing) reply

abbrev pub answers : Replied → Decided
answers r = only r.outcome r.reply

-- what an allowed request finds
pub record Served (r : Request) (s : Session) (flash : List ℕ) (asked room : ℕ) : Type 0 where
  pub prepared : Ready s flash
  pub permitted : allowed_of r asked s.phase.state.0 ≡ true
  pub few : r ≡ Request.Upload → asked ≤ 1024
  pub roomy : 1024 ≤ room

-- what an allowed request does
unfoldable pub served : Request → Session → List ℕ → ℕ → List ℕ → List ℕ → Decided
served Request.Dnload s flash asked d reply = decided (dnload_of s flash d) reply
served Request.Upload s flash asked d reply = answers (upload_of s flash asked reply)
served Request.GetStatus s flash asked d reply = answers (getstatus_of s reply)
served Request.ClrStatus s flash asked d reply = only (taken_of (to_idle s)) reply
served Request.GetState s flash asked d reply = answers (getstate_of s reply)
served Request.Abort s flash asked d reply = only (taken_of (to_idle s)) reply
served Request.Query s flash asked d reply = answers (query_of s reply)

-- what is asked for: a request that the state allows is served, any other is stalled, and so is what is no request
abbrev pub asked_of : Option Request → Session → List ℕ → ℕ → List ℕ → List ℕ → Decided
asked_of (Some r) s flash asked d reply =
    cond (allowed_of r asked s.phase.state.0) (served r s flash asked d reply) (only (stall_of s) reply)
asked_of None s flash asked d reply = only (stall_of s) reply

-- what a request does: unfit, form and state, then what it asks for
unfoldable pub decided_of : Session → List ℕ → List ℕ → List ℕ → List ℕ → Decided
decided_of s flash setup d reply =
    cond (ready s (length flash) setup (length d) (length reply))
    (asked_of (request_of setup) s flash (w_length setup) d reply) (only (unfit_of s) reply)

abbrev pub with_reply : Done → List ℕ → Leaves
with_reply x reply = leaves x.outcome x.flash reply

-- what was decided, once it is carried out
unfoldable pub settled : Decided → List ℕ → List ℕ → Leaves
settled x flash d = with_reply (job_done x.plan.job x.plan.outcome flash d) x.reply

-- a request: decided, then carried out
unfoldable pub step_of : Session → List ℕ → List ℕ → List ℕ → List ℕ → Leaves
step_of s flash setup d reply = settled (decided_of s flash setup d reply) flash d

-- the single stores of a request, the first of them first
unfoldable pub stores_of : Session → List ℕ → List ℕ → List ℕ → List ℕ → List Store
stores_of s flash setup d reply = stores_for (decided_of s flash setup d reply).plan.job d
