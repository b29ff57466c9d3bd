-- The requests that answer bytes but stream none: GETSTATUS, GETSTATE and the query.
use Rattle.std.specs.Prelude.{ℕ, cond, List, [], ◌∷◌, ◌++◌, eqb, length, drop}
use Rattle.session.specs.Codes.{idle, download_sync, manifest_sync}
use Rattle.session.specs.Session.{phase_of, with_phase}
use Rattle.session.specs.declared.Phase.{Phase}
use Rattle.session.specs.declared.Session.{Session}
use Rattle.numbers.specs.Numbers.{bytes3}
use Rattle.answers.specs.declared.Answer.{Answer}
use Rattle.answers.specs.Answers.{Replied, outcome, replied}

-- taken, with bytes at the front of the reply and the rest untouched
unfoldable pub answered : Session → List ℕ → List ℕ → Replied
answered s bytes reply = replied (outcome Answer.Taken (length bytes) s) (bytes ++ drop (length bytes) reply)

-- the state that a poll enters: from download sync the state after sync, from manifest sync idle, else it stays
unfoldable pub entered : Phase → ℕ
entered phase =
    cond (eqb phase.state.0 download_sync) phase.after.0
    (cond (eqb phase.state.0 manifest_sync) idle phase.state.0)

-- what a poll leaves of the session
unfoldable pub polled : Session → Session
polled s = with_phase s (phase_of (entered s.phase) s.phase.status.0 idle)

-- how long the host is to wait before it polls again
unfoldable pub poll_time : Session → ℕ
poll_time s = 0

-- GETSTATUS: status, poll time, the state now entered, zero
unfoldable pub getstatus_of : Session → List ℕ → Replied
getstatus_of s reply =
    answered (polled s) ((s.phase.status.0 ∷ []) ++ bytes3 (poll_time s) ++ (entered s.phase ∷ 0 ∷ [])) reply

-- GETSTATE: the present state
unfoldable pub getstate_of : Session → List ℕ → Replied
getstate_of s reply = answered s (s.phase.state.0 ∷ []) reply

-- the query
unfoldable pub query_of : Session → List ℕ → Replied
query_of s reply = answered s (0x4D ∷ 0x4C ∷ 0x01 ∷ 0x20 ∷ []) reply
