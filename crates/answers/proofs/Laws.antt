-- What is heard at a session, from what the calls say that make it. Assumes nothing.
use mathlib.Core.Path.{◌≡◌, ap, ◌∙◌}
use Rattle.session.specs.Session.{with_talk}
use Rattle.session.specs.declared.Talk.{Talk}
use Rattle.session.specs.declared.Session.{Session}
use Rattle.answers.specs.declared.Answer.{Answer}
use Rattle.answers.specs.declared.Heard.{Heard}
use Rattle.answers.specs.Answers.{heard, heard_at}
use Rattle.answers.specs.Moves.{taken_of}

-- a talk that is taken is the session that it leads to
pub taken_at :
    (s t : Session) (talk : Talk) (h : Heard) → h ≡ heard Answer.Taken 0 talk → with_talk s talk ≡ t → heard_at s h ≡ taken_of t
taken_at s t talk h e p = ap (heard_at s) e ∙ ap taken_of p
