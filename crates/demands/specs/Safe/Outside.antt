-- Safe: no call touches flash that it must not.
use Rattle.std.specs.Prelude.{ℕ, ◌≤◌, ◌<◌, List, ◌⊎◌, ◌≡◌, length, get_or}
use Rattle.flash.specs.Flash.{start_of}
use Rattle.session.specs.Session.{app_end}
use Rattle.session.specs.declared.Board.{Board}
use Rattle.demands.specs.Calls.{Step, Call, Site, after_call}

-- an address in no application block: below block A's first byte, or from the application's end on
abbrev pub OutsideApp : Board → ℕ → Type 0
OutsideApp board k = (k < start_of board.a.0) ⊎ (start_of (app_end board) ≤ k)

-- g is as long as f, and every byte of it that lies in no application block is as in f
pub record Untouched (board : Board) (f g : List ℕ) : Type 0 where
  pub as_long : length g ≡ length f
  pub as_before : (k : ℕ) → OutsideApp board k → get_or g k 0 ≡ get_or f k 0

-- Outside: whatever the session, fit or not, the flash, the setup, the data and the reply buffer, a call changes no byte outside
-- the application blocks of the session, and not the flash's length
abbrev pub Outside : Step → Type 0
Outside step = (at : Site) (c : Call) → Untouched at.session.board at.flash (after_call step at c).flash
