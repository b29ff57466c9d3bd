-- What a command asks for and finds, in the paper's words: its number and its range, whether that is legal and erased, and which commands
-- search it.
use Rattle.std.specs.Prelude.{ℕ, ◌+◌, ◌≤◌, ◌<◌, ◌⊎◌, ◌≡◌, get_or}
use Rattle.flash.specs.Flash.{start_of}
use Rattle.session.specs.Session.{app_end}
use Rattle.numbers.specs.Numbers.{word_at, long_at}
use Rattle.request.specs.declared.Request.{Request}
use Rattle.demands.specs.Calls.{Call, Site}
use Rattle.demands.specs.Asked.{state_of, Asks}

-- a DNLOAD of n bytes in state 2: its first byte is the command's number
pub record Commanded (at : Site) (c : Call) (code n : ℕ) : Type 0 where
  pub asks : Asks at c Request.Dnload n
  pub some : 1 ≤ n
  pub idle : state_of at ≡ 2
  pub command : get_or c.bytes 0 0 ≡ code

-- block in bytes 2-3 and length in bytes 4-7; for ERASE the count of blocks in bytes 4-5, and the length is theirs
pub record Named (c : Call) (block len : ℕ) : Type 0 where
  pub block_is : word_at c.bytes 2 ≡ block
  pub len_is : long_at c.bytes 4 ≡ len

pub record Counted (c : Call) (block count : ℕ) : Type 0 where
  pub block_is : word_at c.bytes 2 ≡ block
  pub count_is : word_at c.bytes 4 ≡ count

-- a range that isn't empty and lies wholly in the application
pub record Legal (at : Site) (block len : ℕ) : Type 0 where
  pub some : 1 ≤ len
  pub from : at.session.board.a.0 ≤ block
  pub to : start_of block + len ≤ start_of (app_end at.session.board)

-- all of its bytes are 0xFF
abbrev pub Blank : Site → ℕ → ℕ → Type 0
Blank at block len = (i : ℕ) → i < len → get_or at.flash (start_of block + i) 0 ≡ 0xFF

-- the first address of a range whose byte isn't 0xFF
pub record FirstUnerased (at : Site) (block len k : ℕ) : Type 0 where
  pub from : start_of block ≤ k
  pub to : k < start_of block + len
  pub unerased : get_or at.flash k 0 ≡ 0xFF → ⊥
  pub erased_before : (j : ℕ) → start_of block ≤ j → j < k → get_or at.flash j 0 ≡ 0xFF

-- what is no command: under 8 bytes, an unknown number, or extra bytes after a command other than PROG
pub data NoCommand (code n : ℕ) : Type 0 where
  short : n < 8 → NoCommand code n
  unknown : (code ≡ 0) ⊎ (7 < code) → NoCommand code n
  extra : 8 < n → (code ≡ 1 → ⊥) → NoCommand code n

-- a PROG or CHECK that comes as far as the search: a legal range, and in a PROG not more data than the length
pub data Searches (at : Site) (c : Call) (block len : ℕ) : Type 0 where
  prog : (n : ℕ) → Commanded at c 1 n → 8 ≤ n → Named c block len → Legal at block len → n ≤ 8 + len → Searches at c block len
  check : Commanded at c 3 8 → Named c block len → Legal at block len → Searches at c block len

-- the number that a search of a range leaves: the first address whose byte isn't 0xFF, or 0xFFFFFFFF where there is none
pub data SearchLeaves (at : Site) (block len number : ℕ) : Type 0 where
  first : FirstUnerased at block len number → SearchLeaves at block len number
  none : Blank at block len → number ≡ 0xFFFFFFFF → SearchLeaves at block len number
