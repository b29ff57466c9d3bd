-- Does: what a DNLOAD with data does in state 2 and in state 5, and the faults in their order.
use Rattle.std.specs.Prelude.{ℕ, ◌+◌, ◌-◌, ◌≤◌, ◌<◌, List, [], ◌⊎◌, ◌≡◌, length, get_or, drop}
use Rattle.flash.specs.Flash.{start_of}
use Rattle.session.specs.Session.{phase_of, down_of, up_of, with_unerased, with_sums, fresh_of}
use Rattle.request.specs.declared.Request.{Request}
use Rattle.demands.specs.Calls.{Step, Call, Site, called}
use Rattle.demands.specs.Asked.{state_of, Asks}
use Rattle.demands.specs.Commanded.{Commanded, Named, Counted, Legal, Blank, FirstUnerased, NoCommand}
use Rattle.demands.specs.Does.Rows.{gone_to, at_place, handed, Answers, Hands, Moves}

-- a flash in which n bytes from an address on are new, and all others as before
pub record Rewritten (before after : List ℕ) (from n : ℕ) (byte : ℕ → ℕ) : Type 0 where
  pub as_long : length after ≡ length before
  pub inside : (i : ℕ) → i < n → get_or after (from + i) 0 ≡ byte i
  pub outside : (k : ℕ) → (k < from) ⊎ (from + n ≤ k) → get_or after k 0 ≡ get_or before k 0

module _ (step : Step) where
  -- a legal ERASE is taken, goes to 3 and then to 2, and the blocks hold 0xFF
  pub record EraseDone (at : Site) (c : Call) (block count : ℕ) : Type 0 where
    pub answers : Answers step at c 0 []
    pub session :
        handed step at c
        ≡ with_sums (gone_to at.session (phase_of 3 0 2) (down_of 0 0) at.session.up) (handed step at c).sums
    pub flash : Rewritten at.flash (called step at c).flash (start_of block) (start_of count) (λ i. 0xFF)

  abbrev pub EraseAt : Site → Call → Type 0
  EraseAt at c =
      (block count : ℕ) → Commanded at c 4 8 → Counted c block count → Legal at block (start_of count)
      → EraseDone at c block count

  abbrev pub EraseWorks : Type 0
  EraseWorks = (at : Site) (c : Call) → EraseAt at c

  -- bytes are taken: they stand from a place on, the session goes to 3 and then to 5, the next byte's place and the bytes remaining
  -- have moved on, and the session has a number of where flash wasn't erased
  pub record BytesDone (at : Site) (c : Call) (place len : ℕ) (bytes : List ℕ) (unerased : ℕ) : Type 0 where
    pub answers : Answers step at c 0 []
    pub session :
        handed step at c
        ≡ with_sums
        (with_unerased
        (gone_to at.session (phase_of 3 0 5) (down_of (place + length bytes) (len - length bytes)) at.session.up)
        unerased)
        (handed step at c).sums
    pub flash : Rewritten at.flash (called step at c).flash place (length bytes) (λ i. get_or bytes i 0)

  -- PROG with a legal, erased range and not more data than the length, which stands behind its eight bytes: nowhere was flash found
  -- unerased; and a piece of data in state 5, of not more bytes than remain: that number stays
  pub record ProgramAt (at : Site) (c : Call) : Type 0 where
    pub starts :
        (block len n : ℕ) → Commanded at c 1 n → 8 ≤ n → Named c block len → Legal at block len
        → n ≤ 8 + len → Blank at block len → BytesDone at c (start_of block) len (drop 8 c.bytes) 0xFFFFFFFF
    pub goes_on :
        (n : ℕ) → Asks at c Request.Dnload n → state_of at ≡ 5 → 1 ≤ n → n ≤ at.session.down.left
        → BytesDone at c at.session.down.place.0 at.session.down.left c.bytes at.session.unerased

  abbrev pub ProgramWorks : Type 0
  ProgramWorks = (at : Site) (c : Call) → ProgramAt at c

  -- the session goes to a state with another choice, prefix flag or read range, and no upload or download runs
  abbrev pub Chooses : Site → Call → ℕ → ℕ → ℕ → ℕ → Type 0
  Chooses at c choice flag first len =
      Hands step at c 0 [] (gone_to at.session (phase_of 3 0 2) (down_of 0 0) (up_of choice flag first len 0))

  -- the session goes to a state with a status, as in the rows of requests, and to a number of where flash wasn't erased
  abbrev pub Finds : Site → Call → ℕ → ℕ → ℕ → ℕ → Type 0
  Finds at c number n status unerased =
      Hands step at c number []
      (with_unerased (gone_to at.session (phase_of n status 2) (down_of 0 0) (at_place at.session.up 0)) unerased)

  -- the other commands, and the faults: what is so at any site for any call
  pub record CommandsAt (at : Site) (c : Call) : Type 0 where
    -- READ chooses the flash stream and its range
    pub read :
        (block len : ℕ) → Commanded at c 2 8 → Named c block len → Legal at block len
        → Chooses at c 0 at.session.up.«prefix» block len
    -- CHECK faults unless all erased; where all is, nowhere was flash found unerased
    pub check :
        (block len : ℕ) → Commanded at c 3 8 → Named c block len → Legal at block len → Blank at block len
        → Finds at c 0 3 0 0xFFFFFFFF
    -- INFO chooses the info bytes
    pub info :
        Commanded at c 5 8
        → Chooses at c 1 at.session.up.«prefix» at.session.up.first.0 at.session.up.len
    -- BIN: byte 1 not zero: no prefix; zero: prefix
    pub bin_off :
        Commanded at c 6 8 → (get_or c.bytes 1 0 ≡ 0 → ⊥)
        → Chooses at c at.session.up.choice 0 at.session.up.first.0 at.session.up.len
    pub bin_on :
        Commanded at c 6 8 → get_or c.bytes 1 0 ≡ 0
        → Chooses at c at.session.up.choice 1 at.session.up.first.0 at.session.up.len
    -- RESET is answer 4 and as fresh: state 2, prefix on, read range all of the application, nowhere found unerased
    pub reset :
        Commanded at c 7 8 → Hands step at c 4 [] (fresh_of at.session.board at.session.sums)
    -- 0x0B
    pub no_command : (code n : ℕ) → Commanded at c code n → NoCommand code n → Moves step at c 3 [] 10 0x0B
    -- 0x08: range empty or not wholly in the application, of PROG, READ, CHECK and ERASE
    pub prog-range :
        (block len n : ℕ) → Commanded at c 1 n → 8 ≤ n → Named c block len → (Legal at block len → ⊥) → Moves step at c 3 [] 10 0x08
    pub read-range :
        (block len : ℕ) → Commanded at c 2 8 → Named c block len → (Legal at block len → ⊥) → Moves step at c 3 [] 10 0x08
    pub check-range :
        (block len : ℕ) → Commanded at c 3 8 → Named c block len → (Legal at block len → ⊥) → Moves step at c 3 [] 10 0x08
    pub erase-range :
        (block count : ℕ) → Commanded at c 4 8 → Counted c block count → (Legal at block (start_of count) → ⊥)
        → Moves step at c 3 [] 10 0x08
    -- 0x08: more data than the length, or than remains
    pub prog_data : (block len n : ℕ) → Commanded at c 1 n → Named c block len → 8 + len < n → Moves step at c 3 [] 10 0x08
    pub piece_data :
        (n : ℕ) → Asks at c Request.Dnload n → state_of at ≡ 5 → at.session.down.left < n → Moves step at c 3 [] 10 0x08
    -- 0x05: the range of PROG or CHECK isn't all erased; the number is its first address whose byte isn't 0xFF
    pub prog_unerased :
        (block len n k : ℕ) → Commanded at c 1 n → 8 ≤ n → Named c block len → Legal at block len → n ≤ 8 + len
        → FirstUnerased at block len k → Finds at c 3 10 0x05 k
    pub check_unerased :
        (block len k : ℕ) → Commanded at c 3 8 → Named c block len → Legal at block len → FirstUnerased at block len k
        → Finds at c 3 10 0x05 k

  abbrev pub Commands : Type 0
  Commands = (at : Site) (c : Call) → CommandsAt at c
