-- What holds once a call has been found fit: what the parts of a step ask of their callers.
use Rattle.std.specs.Prelude.{ℕ, true, List, ◌⊎◌, ◌≡◌, length}
use Rattle.flash.specs.Flash.{start_of}
use Rattle.session.specs.Codes.{idle, download_idle}
use Rattle.session.specs.Rules.{fit_of}
use Rattle.session.specs.declared.Session.{Session}

-- a session that keeps its rules, with a flash of its length
pub record Ready (s : Session) (flash : List ℕ) : Type 0 where
  pub fit : fit_of s ≡ true
  pub sized : length flash ≡ start_of s.board.b.0

-- a session in a state that allows DNLOAD
pub record Loading (s : Session) : Type 0 where
  pub in_two : (s.phase.state.0 ≡ idle) ⊎ (s.phase.state.0 ≡ download_idle)
