-- What the rules say of a fit session, as facts about its numbers.
use Rattle.std.specs.Prelude.{ℕ, ◌+◌, ◌≤◌, ◌<◌, ◌≡◌, ◌⊎◌}
use Rattle.flash.specs.Flash.{start_of}
use Rattle.sums.specs.Sum.{most_blocks}
use Rattle.session.specs.declared.Board.{Board}
use Rattle.session.specs.declared.Phase.{Phase}
use Rattle.session.specs.declared.Session.{Session}
use Rattle.session.specs.Session.{app_end, stream_length, no_download}

-- a number is a state
pub data KnownState (n : ℕ) : Type 0 where
  is_idle : n ≡ 2 → KnownState n
  is_download_sync : n ≡ 3 → KnownState n
  is_download_idle : n ≡ 5 → KnownState n
  is_manifest_sync : n ≡ 6 → KnownState n
  is_upload_idle : n ≡ 9 → KnownState n
  is_error : n ≡ 10 → KnownState n

-- a number is a status of state 10
pub data ErrorStatus (n : ℕ) : Type 0 where
  is_check_erased : n ≡ 0x05 → ErrorStatus n
  is_address : n ≡ 0x08 → ErrorStatus n
  is_not_done : n ≡ 0x09 → ErrorStatus n
  is_vendor : n ≡ 0x0B → ErrorStatus n
  is_stalled : n ≡ 0x0F → ErrorStatus n

-- a download runs: state 5, or state 3 that leads to 5
abbrev pub Running : Phase → Type 0
Running p = (p.state.0 ≡ 5) ⊎ ((p.state.0 ≡ 3) × (p.after.0 ≡ 5))

-- some bytes that begin at a block and lie in the application
pub record Inside (board : Board) (first len : ℕ) : Type 0 where
  pub some : 0 < len
  pub from : board.a.0 ≤ first
  pub to : start_of first + len ≤ start_of (app_end board)

-- the facts, in the order of the rules and in the paper's numbers
pub record Fit (s : Session) : Type 0 where
  pub some_loader : 1 ≤ s.board.a.0
  pub some_application : s.board.a.0 < s.board.b.0
  pub few_blocks : s.board.b.0 ≤ most_blocks
  pub state : KnownState s.phase.state.0
  pub status_outside : (s.phase.state.0 ≡ 10 → ⊥) → s.phase.status.0 ≡ 0
  pub status_inside : s.phase.state.0 ≡ 10 → ErrorStatus s.phase.status.0
  pub no_download_lem : (Running s.phase → ⊥) → s.down ≡ no_download
  pub no_upload : (s.phase.state.0 ≡ 9 → ⊥) → s.up.place ≡ 0
  pub in_stream : s.up.place ≤ stream_length s.up
  pub after_sync : s.phase.state.0 ≡ 3 → (s.phase.after.0 ≡ 2) ⊎ (s.phase.after.0 ≡ 5)
  pub after_others : (s.phase.state.0 ≡ 3 → ⊥) → s.phase.after.0 ≡ 2
  pub range-some : 0 < s.up.len
  pub range_from : s.board.a.0 ≤ s.up.first.0
  pub range_to : start_of s.up.first.0 + s.up.len ≤ start_of (app_end s.board)
  pub place_from : Running s.phase → start_of s.board.a.0 ≤ s.down.place.0
  pub place_to : Running s.phase → s.down.place.0 ≤ start_of (app_end s.board)
  pub left_to : Running s.phase → s.down.place.0 + s.down.left ≤ start_of (app_end s.board)
  pub choice : s.up.choice ≤ 1
  pub flag : s.up.«prefix» ≤ 1
