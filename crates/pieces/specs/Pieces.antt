-- A buffer into which bytes were laid.
use Rattle.std.specs.Prelude.{ℕ, ◌+◌, List, ◌≡◌, length}
use Rattle.std.proofs.Math.Seq.{paste}

-- a buffer with these bytes from a place on
abbrev pub placed : List ℕ → ℕ → List ℕ → List ℕ
placed buffer at bytes = paste buffer at bytes (length bytes)

-- bytes were laid from a place on, and the next ones go behind them
pub record Laid (buffer after : List ℕ) (at next : ℕ) (bytes : List ℕ) : Type 0 where
  pub stand : after ≡ placed buffer at bytes
  pub behind : next ≡ at + length bytes
