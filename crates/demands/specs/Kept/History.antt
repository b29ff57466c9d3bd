-- Kept: what holds over any history, a start and then any calls.
use Rattle.std.specs.Prelude.{ℕ, List, ◌≡◌}
use Rattle.sums.specs.Sum.{Right}
use Rattle.session.specs.Session.{board_of, app_end}
use Rattle.session.specs.Fit.{Fit}
use Rattle.session.specs.declared.Board.{Board}
use Rattle.demands.specs.Calls.{Start, Step, Call, Site, begun, after_call, after_calls}
use Rattle.demands.specs.Safe.Outside.{Untouched}
use Rattle.demands.specs.Safe.Fit.{AllowedStart}

-- the kept sums are those of the flash, for a board's application
abbrev pub SumsRight : Board → Site → Type 0
SumsRight board at = Right at.session.sums at.flash board.a.0 (app_end board)

-- what a history leaves of a start on flash f: A, B and the part numbers as given, a fit session, sums that are those of the flash
-- as it now is, and every byte outside the application as it was at the start
pub record Held (f : List ℕ) (board : Board) (at : Site) : Type 0 where
  pub board_kept : at.session.board ≡ board
  pub fit : Fit at.session
  pub sums_right : SumsRight board at
  pub outside_kept : Untouched board f at.flash

-- History: start on any flash of an allowed size and split, then serve any list of calls, each with the session last handed back. A
-- list is any, so this holds after each of its calls too
abbrev pub History : Start → Step → Type 0
History start step =
    (f : List ℕ) (a b part0 part1 : ℕ) → AllowedStart f a b → (calls : List Call)
    → Held f (board_of a b part0 part1) (after_calls step (begun start f a b part0 part1) calls)

-- SumsStay: sums that are those of the flash are so after any call, whatever led there and whatever the session
abbrev pub SumsStay : Step → Type 0
SumsStay step = (at : Site) (c : Call) → SumsRight at.session.board at → SumsRight at.session.board (after_call step at c)
