-- What the claims about file formats share.
use Rattle.std.specs.Prelude.{ℕ, ◌<◌, List, get_or}

-- a list of bytes: what a lent slice is by its type
abbrev pub Bytes : List ℕ → Type 0
Bytes xs = (i : ℕ) → get_or xs i 0 < 256

-- one holds if and only if the other does
pub record Exactly (one other : Type 0) : Type 0 where
  pub then : one → other
  pub back : other → one
