-- UPLOAD: how an upload goes through the chosen stream.
use Rattle.std.specs.Prelude.{ℕ, ◌+◌, Bool, cond, List, eqb, ltb, length}
use Rattle.session.specs.Codes.{idle, upload_idle, ok}
use Rattle.session.specs.Session.{phase_of, no_download, up_of, with_phase, with_down, with_up}
use Rattle.session.specs.declared.Session.{Session}
use Rattle.stream.specs.Stream.{next_of}
use Rattle.answers.specs.Answers.{Replied}
use Rattle.answers.specs.Moves.{to_idle}
use Rattle.loader.specs.Reply.{answered}

-- where an answer starts: one begun in state idle at the stream's first byte
unfoldable pub place_of : Session → ℕ
place_of s = cond (eqb s.phase.state.0 upload_idle) s.up.place 0

-- the next bytes of the chosen stream, as many as were asked for or are left
unfoldable pub answer_of : Session → List ℕ → ℕ → List ℕ
answer_of s flash asked = next_of s.board s.unerased s.up flash (place_of s) asked

-- whether an upload ends with an answer: by the guide, one that was asked for fewer than 1,024 bytes
unfoldable pub upload_ends : ℕ → ℕ → Bool
upload_ends asked given = ltb asked 1024

-- upload idle, at a place of the stream
unfoldable pub uploading_at : Session → ℕ → Session
uploading_at s place =
    with_up (with_down (with_phase s (phase_of upload_idle ok idle)) no_download)
    (up_of s.up.choice s.up.«prefix» s.up.first.0 s.up.len place)

-- the session after so many bytes were asked for and given
unfoldable pub uploaded_of : Session → ℕ → ℕ → Session
uploaded_of s asked given = cond (upload_ends asked given) (to_idle s) (uploading_at s (place_of s + given))

-- UPLOAD
unfoldable pub upload_of : Session → List ℕ → ℕ → List ℕ → Replied
upload_of s flash asked reply =
    answered (uploaded_of s asked (length (answer_of s flash asked))) (answer_of s flash asked) reply
