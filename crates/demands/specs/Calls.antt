-- A loader is a start and a step. Calls in a row: a host hands over requests, and each is served with the session that the call
-- before it handed back.
use Rattle.std.specs.Prelude.{ℕ, List, [], ◌∷◌}
use Rattle.session.specs.declared.Session.{Session}
use Rattle.answers.specs.Answers.{Leaves, Told}

-- session, flash, setup, data and reply buffer to all that a call leaves
abbrev pub Step : Type 0
Step = Session → List ℕ → List ℕ → List ℕ → List ℕ → Leaves

-- flash, A, B and the part numbers to what a start leaves; it changes no flash
abbrev pub Start : Type 0
Start = List ℕ → ℕ → ℕ → ℕ → ℕ → Told

-- the number that the host hears: 0 taken, 1 stalled, 2 unfit, 3 faulted, 4 reset asked
abbrev pub heard : Leaves → ℕ
heard l = l.answer

-- what a call is handed besides the session and the flash: setup bytes, data, and the reply buffer as it was lent
pub record Call : Type 0 where
  pub setup : List ℕ
  pub bytes : List ℕ
  pub reply : List ℕ

-- what stands between two calls
pub record Site : Type 0 where
  pub session : Session
  pub flash : List ℕ

-- the site that a start leaves: its session, and the flash that it read
unfoldable pub begun : Start → List ℕ → ℕ → ℕ → ℕ → ℕ → Site
begun start f a b part0 part1 = record { session = (start f a b part0 part1).session; flash = f }

-- all that a call leaves
unfoldable pub called : Step → Site → Call → Leaves
called step at c = step at.session at.flash c.setup c.bytes c.reply

-- the site after a call, and after a list of them
unfoldable pub after_call : Step → Site → Call → Site
after_call step at c = record { session = (called step at c).session; flash = (called step at c).flash }

unfoldable pub after_calls : Step → Site → List Call → Site
after_calls step at [] = at
after_calls step at (c ∷ cs) = after_calls step (after_call step at c) cs
