-- Does: the rows leave nothing out.
use Rattle.std.specs.Prelude.{ℕ, ◌+◌, ◌≤◌, ◌<◌, ◌⊎◌, ◌≡◌, get_or}
use Rattle.flash.specs.Flash.{start_of}
use Rattle.request.specs.declared.Request.{Request}
use Rattle.demands.specs.Calls.{Call, Site}
use Rattle.demands.specs.Asked.{state_of, Prepared, Allowed, Asks, NoRequest}
use Rattle.demands.specs.Commanded.{FirstUnerased, Commanded, Counted, Blank, Legal, Named, NoCommand}

-- the rows that a DNLOAD can fall under, each with what it asks for: those of EraseWorks, ProgramWorks and Commands, and of Rows those
-- for no bytes
pub data DnloadRow (at : Site) (c : Call) : Type 0 where
  close : Asks at c Request.Dnload 0 → state_of at ≡ 5 → at.session.down.left ≡ 0 → DnloadRow at c
  close_missing : Asks at c Request.Dnload 0 → state_of at ≡ 5 → 0 < at.session.down.left → DnloadRow at c
  piece : (n : ℕ) → Asks at c Request.Dnload n → state_of at ≡ 5 → 1 ≤ n → n ≤ at.session.down.left → DnloadRow at c
  piece_data : (n : ℕ) → Asks at c Request.Dnload n → state_of at ≡ 5 → at.session.down.left < n → DnloadRow at c
  no_command : (code n : ℕ) → Commanded at c code n → NoCommand code n → DnloadRow at c
  prog :
      (block len n : ℕ) → Commanded at c 1 n → 8 ≤ n → Named c block len → Legal at block len → n ≤ 8 + len
      → Blank at block len → DnloadRow at c
  prog-range :
      (block len n : ℕ) → Commanded at c 1 n → 8 ≤ n → Named c block len → (Legal at block len → ⊥) → DnloadRow at c
  prog_data : (block len n : ℕ) → Commanded at c 1 n → Named c block len → 8 + len < n → DnloadRow at c
  prog_unerased :
      (block len n k : ℕ) → Commanded at c 1 n → 8 ≤ n → Named c block len → Legal at block len → n ≤ 8 + len
      → FirstUnerased at block len k → DnloadRow at c
  read : (block len : ℕ) → Commanded at c 2 8 → Named c block len → Legal at block len → DnloadRow at c
  read-range : (block len : ℕ) → Commanded at c 2 8 → Named c block len → (Legal at block len → ⊥) → DnloadRow at c
  check : (block len : ℕ) → Commanded at c 3 8 → Named c block len → Legal at block len → Blank at block len → DnloadRow at c
  check-range : (block len : ℕ) → Commanded at c 3 8 → Named c block len → (Legal at block len → ⊥) → DnloadRow at c
  check_unerased :
      (block len k : ℕ) → Commanded at c 3 8 → Named c block len → Legal at block len → FirstUnerased at block len k
      → DnloadRow at c
  erase :
      (block count : ℕ) → Commanded at c 4 8 → Counted c block count → Legal at block (start_of count) → DnloadRow at c
  erase-range :
      (block count : ℕ) → Commanded at c 4 8 → Counted c block count → (Legal at block (start_of count) → ⊥)
      → DnloadRow at c
  info : Commanded at c 5 8 → DnloadRow at c
  bin_off : Commanded at c 6 8 → (get_or c.bytes 1 0 ≡ 0 → ⊥) → DnloadRow at c
  bin_on : Commanded at c 6 8 → get_or c.bytes 1 0 ≡ 0 → DnloadRow at c
  reset : Commanded at c 7 8 → DnloadRow at c

-- DnloadRows: no DNLOAD that is in form and allowed is left out
abbrev pub DnloadRows : Type 0
DnloadRows =
    (at : Site) (c : Call) (n : ℕ) → Asks at c Request.Dnload n → Allowed Request.Dnload n (state_of at) → DnloadRow at c

-- Covered: a call that isn't unfit is a request in form and allowed, or none; there is nothing else
abbrev pub Covered : Type 0
Covered =
    (at : Site) (c : Call) → Prepared at c
    → ((r : Request) × (n : ℕ) × Asks at c r n × Allowed r n (state_of at)) ⊎ NoRequest at c
