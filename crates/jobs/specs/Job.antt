-- A job: what a call does to flash, as single stores, as the flash that they leave, and with the sums that go with it.
use Rattle.std.specs.Prelude.{ℕ, ◌+◌, ◌≤◌, cond, List, [], eqb, length, drop}
use Rattle.flash.specs.Flash.{start_of, Within, holder_of, next_start, spliced, blank, erased, Store, stores}
use Rattle.sums.specs.Sum.{refreshed, Split}
use Rattle.sums.specs.declared.Sums.{Sums}
use Rattle.session.specs.Session.{app_end, with_sums}
use Rattle.session.specs.declared.Board.{Board}
use Rattle.session.specs.declared.Session.{Session}
use Rattle.answers.specs.declared.Heard.{Heard}
use Rattle.answers.specs.declared.Outcome.{Outcome}
use Rattle.answers.specs.Answers.{Done, outcome, done, heard_at}
use Rattle.jobs.specs.declared.Decision.{Decision}
use Rattle.jobs.specs.declared.Job.{Job}
use Rattle.jobs.specs.declared.Job.TheVariants.{Nothing, Bytes, Wipe}

-- what a call comes to but for its job, which is still to be carried out
pub record Plan : Type 0 where
  pub outcome : Outcome
  pub job : Job

abbrev pub plan_of : Outcome → Job → Plan
plan_of o job = record { outcome = o; job = job }

-- what is decided on a call, and the plan that it is at the session of the call
abbrev pub decision_of : Heard → Job → Decision
decision_of h job = record { heard = h; job = job }

abbrev pub planned : Session → Decision → Plan
planned s x = plan_of (heard_at s x.heard) x.job

-- some bytes of the data that come with a call, and some blocks
abbrev pub bytes_to : ℕ → ℕ → Job
bytes_to at skip = Bytes (record { 0 = at }) skip

abbrev pub wipe_of : ℕ → ℕ → Job
wipe_of first count = Wipe (record { 0 = first }) count

-- n bytes from an address on that lie in the application
pub record Place (board : Board) (at n : ℕ) : Type 0 where
  pub low : start_of board.a.0 ≤ at
  pub high : at + n ≤ start_of (app_end board)

-- a job that can be carried out: what it stores lies in the application, and the application in flash
abbrev pub Can : Job → Board → List ℕ → List ℕ → Type 0
Can Nothing board flash d = Unit
Can (Bytes at skip) board flash d =
    (skip ≤ length d) × Split flash board.a.0 (app_end board) × Place board at.0 (length (drop skip d))
Can (Wipe first count) board flash d =
    Split flash board.a.0 (app_end board) × Place board (start_of first.0) (start_of count)

-- a job whose stores lie in flash
abbrev pub Reaches : Job → List ℕ → List ℕ → Type 0
Reaches Nothing flash d = Unit
Reaches (Bytes at skip) flash d = (skip ≤ length d) × Within flash at.0 (length (drop skip d))
Reaches (Wipe first count) flash d = Within flash (start_of first.0) (start_of count)

-- the single stores of a job, the first of them first
unfoldable pub stores_for : Job → List ℕ → List Store
stores_for Nothing d = []
stores_for (Bytes at skip) d = stores at.0 (drop skip d)
stores_for (Wipe first count) d = stores (start_of first.0) (blank (start_of count))

-- the sums after n bytes were stored from an address on: no byte touches no block
unfoldable pub sums_after : Board → Sums → List ℕ → ℕ → ℕ → Sums
sums_after board kept flash at n =
    cond (eqb n 0) kept (refreshed kept flash board.a.0 (app_end board) (holder_of at) (next_start (at + n)))

-- the sums after blocks were erased
unfoldable pub sums_wiped : Board → Sums → List ℕ → ℕ → ℕ → Sums
sums_wiped board kept flash first count = refreshed kept flash board.a.0 (app_end board) first (first + count)

-- the flash once a job is done
abbrev pub flash_done : Job → List ℕ → List ℕ → List ℕ
flash_done Nothing flash d = flash
flash_done (Bytes at skip) flash d = spliced flash at.0 (drop skip d)
flash_done (Wipe first count) flash d = erased flash first.0 count

-- the sums once a job is done, by the flash that it left
abbrev pub sums_done : Job → Board → Sums → List ℕ → List ℕ → Sums
sums_done Nothing board kept flash d = kept
sums_done (Bytes at skip) board kept flash d = sums_after board kept flash at.0 (length (drop skip d))
sums_done (Wipe first count) board kept flash d = sums_wiped board kept flash first.0 count

-- an outcome with other sums in its session
abbrev pub summed : Outcome → Sums → Outcome
summed o sums = outcome o.answer o.count (with_sums o.session sums)

-- an outcome once its job is done: the flash with the job's stores, and the sums of the blocks that they touch anew
unfoldable pub job_done : Job → Outcome → List ℕ → List ℕ → Done
job_done job o flash d =
    let left = flash_done job flash d in
    done (summed o (sums_done job o.session.board o.session.sums left d)) left
