-- What a call leaves, and the numbers that the host hears for its answer.
use Rattle.std.specs.Prelude.{ℕ, List}
use Rattle.session.specs.Session.{with_talk}
use Rattle.session.specs.declared.Talk.{Talk}
use Rattle.session.specs.declared.Session.{Session}
use Rattle.answers.specs.declared.Answer.{Answer}
use Rattle.answers.specs.declared.Heard.{Heard}
use Rattle.answers.specs.declared.Outcome.{Outcome}

-- the number of each answer
abbrev pub answer_number : Answer → ℕ
answer_number Answer.Taken = 0
answer_number Answer.Stalled = 1
answer_number Answer.Unfit = 2
answer_number Answer.Faulted = 3
answer_number Answer.ResetAsked = 4

-- an answer with its count of reply bytes, and the session handed back
abbrev pub outcome : Answer → ℕ → Session → Outcome
outcome answer count session = record { answer = answer; count = count; session = session }

-- an answer with its count and the talk from there on, and the outcome that it is at a session: board and sums stay
abbrev pub heard : Answer → ℕ → Talk → Heard
heard answer count talk = record { answer = answer; count = count; talk = talk }

abbrev pub heard_at : Session → Heard → Outcome
heard_at s h = outcome h.answer h.count (with_talk s h.talk)

-- all that a call leaves: the answer by its number, how many bytes of the reply are meant, the session for the next call, the flash and
-- the reply buffer
pub record Leaves : Type 0 where
  pub answer : ℕ
  pub count : ℕ
  pub session : Session
  pub flash : List ℕ
  pub reply : List ℕ

-- all that a start leaves
pub record Told : Type 0 where
  pub answer : ℕ
  pub count : ℕ
  pub session : Session

-- an outcome with the flash at exit: what is left once a job is carried out
pub record Done : Type 0 where
  pub outcome : Outcome
  pub flash : List ℕ

-- an outcome with the reply at exit: all that a request leaves that changes no flash
pub record Replied : Type 0 where
  pub outcome : Outcome
  pub reply : List ℕ

abbrev pub leaves : Outcome → List ℕ → List ℕ → Leaves
leaves o flash reply =
    record { answer = answer_number o.answer; count = o.count; session = o.session; flash = flash; reply = reply }

abbrev pub told : Outcome → Told
told o = record { answer = answer_number o.answer; count = o.count; session = o.session }

abbrev pub done : Outcome → List ℕ → Done
done o flash = record { outcome = o; flash = flash }

abbrev pub replied : Outcome → List ℕ → Replied
replied o reply = record { outcome = o; reply = reply }
