-- Reading back: a host reads a range, erases its blocks and sends what it was answered, and the range's bytes are those of the start.
use Rattle.std.specs.Prelude.{ℕ, zero, suc, ◌+◌, ◌/◌, ◌≤◌, Bool, true, cond, ◌&&◌, List, [], ◌∷◌, ◌++◌, ◌≡◌, eqb, ltb, length, take}
use Rattle.flash.specs.Flash.{start_of, next_start, range, spliced, erased}
use Rattle.session.specs.Codes.{idle, download_idle}
use Rattle.session.specs.Session.{down_of}
use Rattle.session.specs.Fit.{Fit}
use Rattle.numbers.specs.Numbers.{bytes2, bytes4}
use Rattle.request.specs.Commands.{prog, read, erase}
use Rattle.answers.specs.Answers.{Leaves}
use Rattle.demands.specs.Calls.{Step, heard, Call, Site, called, after_call}
use Rattle.demands.specs.Commanded.{Legal}

-- A host ends with something, or makes a call and goes on by the reply bytes that it hears. It is handed no session and no flash, so
-- what it asks can hang on nothing but what it was told and what it heard.
pub data Host (A : Type 0) : Type 0 where
  ends : A → Host A
  asks : Call → (List ℕ → Host A) → Host A

-- the reply bytes of a call: as many as its count says
unfoldable pub replied : Leaves → List ℕ
replied l = take l.count l.reply

-- whether the answer was 0, taken
unfoldable pub was_taken : Leaves → Bool
was_taken l = eqb (heard l) 0

-- what a host's calls leave: the site, what the host ended with, and whether every one of them was taken
pub record Ran (A : Type 0) : Type 0 where
  pub site : Site
  pub got : A
  pub taken : Bool

-- the same with a call before them
unfoldable pub ran_after : {A : Type 0} → Bool → Ran A → Ran A
ran_after first r = record { site = r.site; got = r.got; taken = first && r.taken }

-- a host's calls one after another, each with the session and the flash that the one before it left
unfoldable pub run : {A : Type 0} → Step → Site → Host A → Ran A
run step at (ends a) = record { site = at; got = a; taken = true }
run step at (asks c go) =
    ran_after (was_taken (called step at c)) (run step (after_call step at c) (go (replied (called step at c))))

-- setup bytes: type, number, wValue 0, wIndex 0, wLength
unfoldable pub setup_for : ℕ → ℕ → ℕ → List ℕ
setup_for kind number asked = (kind ∷ number ∷ 0 ∷ 0 ∷ 0 ∷ 0 ∷ []) ++ bytes2 asked

-- the four requests that the host makes, each with the buffer that it lends for the reply
unfoldable pub dnload : List ℕ → List ℕ → Call
dnload lent bytes = record { setup = setup_for 0x21 1 (length bytes); bytes = bytes; reply = lent }

unfoldable pub upload : List ℕ → Call
upload lent = record { setup = setup_for 0xA1 2 1024; bytes = []; reply = lent }

unfoldable pub poll : List ℕ → Call
poll lent = record { setup = setup_for 0xA1 3 6; bytes = []; reply = lent }

unfoldable pub abort : List ℕ → Call
abort lent = record { setup = setup_for 0x21 6 0; bytes = []; reply = lent }

-- the two commands that it writes itself: READ with block and length, ERASE with block and count
unfoldable pub read_command : ℕ → ℕ → List ℕ
read_command block len = (read ∷ 0 ∷ []) ++ bytes2 block ++ bytes4 len

unfoldable pub erase_command : ℕ → ℕ → List ℕ
erase_command block count = (erase ∷ 0 ∷ []) ++ bytes2 block ++ bytes2 count ++ (0 ∷ 0 ∷ [])

-- the command that it hears at the front of the stream and sends back: PROG with block and length
unfoldable pub prog_command : ℕ → ℕ → List ℕ
prog_command block len = (prog ∷ 0 ∷ []) ++ bytes2 block ++ bytes4 len

-- an answer joins those before it, unless it is empty
unfoldable pub keep : List (List ℕ) → List ℕ → List (List ℕ)
keep got bytes = cond (eqb (length bytes) 0) got (got ++ (bytes ∷ []))

-- UPLOADs of 1,024 until an answer has fewer bytes than that: the stream's end. At most so many are made.
unfoldable pub gathers : List ℕ → ℕ → List (List ℕ) → Host (List (List ℕ))
gathers lent zero got = ends got
gathers lent (suc n) got =
    asks (upload lent) (λ bytes. cond (ltb (length bytes) 1024) (ends (keep got bytes)) (gathers lent n (keep got bytes)))

-- the bytes of some answers, one after another
unfoldable pub joined : List (List ℕ) → List ℕ
joined [] = []
joined (bytes ∷ rest) = bytes ++ joined rest

-- how many answers a stream of so many bytes has, the one that falls short among them
abbrev pub answers_of : ℕ → ℕ
answers_of bytes = bytes / 1024 + 1

-- the first part: READ of the range, a poll, and UPLOADs of 1,024 to the end of the header's 8 bytes and the range's
unfoldable pub reads : List ℕ → ℕ → ℕ → Host (List (List ℕ))
reads lent block len =
    asks (dnload lent (read_command block len)) (λ _. asks (poll lent) (λ _. gathers lent (answers_of (8 + len)) []))

-- the second: ABORT, ERASE of the blocks that the range touches, a poll
unfoldable pub clears : List ℕ → ℕ → ℕ → Host Unit
clears lent block len =
    asks (abort lent)
    (λ _. asks (dnload lent (erase_command block (next_start len))) (λ _. asks (poll lent) (λ _. ends tt)))

-- the third: each answer as one DNLOAD with a poll after it
unfoldable pub sends : List ℕ → List (List ℕ) → Host Unit
sends lent [] = ends tt
sends lent (bytes ∷ rest) = asks (dnload lent bytes) (λ _. asks (poll lent) (λ _. sends lent rest))

-- where it is claimed: a fit session in state 2 with the prefix on, a flash of its length, a reply buffer with room for an answer,
-- and a range that isn't empty and lies in the application
pub record MayReadBack (at : Site) (lent : List ℕ) (block len : ℕ) : Type 0 where
  pub fit : Fit at.session
  pub in_idle : at.session.phase.state.0 ≡ idle
  pub prefixed : at.session.up.«prefix» ≡ 1
  pub sized : length at.flash ≡ start_of at.session.board.b.0
  pub roomy : 1024 ≤ length lent
  pub legal : Legal at block len

module _ (step : Step) where
  -- the parts in turn, each at the site that the one before it left; what is sent is what was replied
  unfoldable pub has_read : Site → List ℕ → ℕ → ℕ → Ran (List (List ℕ))
  has_read at lent block len = run step at (reads lent block len)

  unfoldable pub has_cleared : Site → List ℕ → ℕ → ℕ → Ran Unit
  has_cleared at lent block len = run step (has_read at lent block len).site (clears lent block len)

  unfoldable pub has_sent : Site → List ℕ → ℕ → ℕ → Ran Unit
  has_sent at lent block len = run step (has_cleared at lent block len).site (sends lent (has_read at lent block len).got)

  -- what is claimed: every call is taken; the host hears the PROG command and the range's bytes, and that changes no flash; the erase
  -- clears the blocks of the range and no other byte; what is sent fills the range with its bytes of the start, and then the download
  -- has no bytes left to come
  pub record ReadsBack (at : Site) (lent : List ℕ) (block len : ℕ) : Type 0 where
    pub read_taken : (has_read at lent block len).taken ≡ true
    pub clear_taken : (has_cleared at lent block len).taken ≡ true
    pub send_taken : (has_sent at lent block len).taken ≡ true
    pub all_heard :
        joined (has_read at lent block len).got ≡ prog_command block len ++ range at.flash (start_of block) len
    pub untouched : (has_read at lent block len).site.flash ≡ at.flash
    pub cleared : (has_cleared at lent block len).site.flash ≡ erased at.flash block (next_start len)
    pub filled :
        (has_sent at lent block len).site.flash
        ≡ spliced (erased at.flash block (next_start len)) (start_of block) (range at.flash (start_of block) len)
    pub restored :
        range (has_sent at lent block len).site.flash (start_of block) len ≡ range at.flash (start_of block) len
    pub in_download_idle : (has_sent at lent block len).site.session.phase.state.0 ≡ download_idle
    pub none_left : (has_sent at lent block len).site.session.down ≡ down_of (start_of block + len) 0

  -- read-back: wherever it is claimed, it is so
  abbrev pub ReadBack : Type 0
  ReadBack =
      (at : Site) (lent : List ℕ) (block len : ℕ) → MayReadBack at lent block len → ReadsBack at lent block len
