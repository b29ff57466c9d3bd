-- Exact: the starred desk examples.
use Rattle.std.specs.Prelude.{ℕ, ◌≤◌, List, [], ◌∷◌, ◌++◌, ◌≡◌, length, drop}
use Rattle.flash.specs.Flash.{start_of, spliced, erased}
use Rattle.answers.specs.Answers.{Leaves}
use Rattle.demands.specs.Calls.{Start, Step, heard, Call, Site, begun, called, after_calls}

-- one example: where it starts, the calls that lead up to it, the call, and what is expected of it: the answer's number, the state
-- and the status of the session handed back, the bytes of the reply, and the flash
pub record Case : Type 0 where
  pub at : Site
  pub before : List Call
  pub call : Call
  pub answer : ℕ
  pub state : ℕ
  pub status : ℕ
  pub reply : List ℕ
  pub flash : List ℕ

-- what a call leaves is what an example expects: the count is that of the reply's bytes, and the rest of the reply is untouched
pub record Meets (l : Leaves) (c : Case) : Type 0 where
  pub answer : heard l ≡ c.answer
  pub count : l.count ≡ length c.reply
  pub state : l.session.phase.state.0 ≡ c.state
  pub status : l.session.phase.status.0 ≡ c.status
  pub reply : l.reply ≡ c.reply ++ drop (length c.reply) c.call.reply
  pub flash : l.flash ≡ c.flash

abbrev pub Expected : Step → Case → Type 0
Expected step c = Meets (called step (after_calls step c.at c.before) c.call) c

-- something holds of all of a list
pub data All (P : Case → Type 0) : List Case → Type 0 where
  none : All P []
  ◌and◌ : {c : Case} {cs : List Case} → P c → All P cs → All P (c ∷ cs)

infixr 20 ◌and◌
-- the calls of the examples, each with the reply buffer that it is lent
module _ (buffer : List ℕ) where
  -- a request that brings no data
  abbrev pub request : List ℕ → Call
  request setup = record { setup = setup; bytes = []; reply = buffer }

  -- a DNLOAD of a few bytes
  abbrev pub dnload : List ℕ → Call
  dnload bytes =
      record { setup = 0x21 ∷ 0x01 ∷ 0 ∷ 0 ∷ 0 ∷ 0 ∷ length bytes ∷ 0 ∷ []; bytes = bytes; reply = buffer }

  abbrev pub get_status : Call
  get_status = request (0xA1 ∷ 0x03 ∷ 0 ∷ 0 ∷ 0 ∷ 0 ∷ 6 ∷ 0 ∷ [])

  abbrev pub get_state : Call
  get_state = request (0xA1 ∷ 0x05 ∷ 0 ∷ 0 ∷ 0 ∷ 0 ∷ 1 ∷ 0 ∷ [])

  abbrev pub clr_status : Call
  clr_status = request (0x21 ∷ 0x04 ∷ 0 ∷ 0 ∷ 0 ∷ 0 ∷ 0 ∷ 0 ∷ [])

  abbrev pub query : Call
  query = request (0xA1 ∷ 0x42 ∷ 0x23 ∷ 0x00 ∷ 0x00 ∷ 0x00 ∷ 0x04 ∷ 0x00 ∷ [])

  -- ERASE of all 48 blocks of the application
  abbrev pub erase_all : Call
  erase_all = dnload (0x04 ∷ 0x00 ∷ 0x10 ∷ 0x00 ∷ 0x30 ∷ 0x00 ∷ 0x00 ∷ 0x00 ∷ [])

  -- PROG of one byte at block 16, with no data yet, and with a zero byte
  abbrev pub prog_one : Call
  prog_one = dnload (0x01 ∷ 0x00 ∷ 0x10 ∷ 0x00 ∷ 0x01 ∷ 0x00 ∷ 0x00 ∷ 0x00 ∷ [])

  abbrev pub prog_zero : Call
  prog_zero = dnload (0x01 ∷ 0x00 ∷ 0x10 ∷ 0x00 ∷ 0x01 ∷ 0x00 ∷ 0x00 ∷ 0x00 ∷ 0x00 ∷ [])

  -- 7 bytes, which are no command, and the download of no bytes
  abbrev pub seven : Call
  seven = dnload (0x04 ∷ 0x00 ∷ 0x10 ∷ 0x00 ∷ 0x30 ∷ 0x00 ∷ 0x00 ∷ [])

  abbrev pub close : Call
  close = dnload []

-- the flash with the application erased, and then with a zero byte at its start
abbrev pub wiped : List ℕ → List ℕ
wiped flash = erased flash 16 48

abbrev pub marred : List ℕ → List ℕ
marred flash = spliced (wiped flash) (start_of 16) (0x00 ∷ [])

-- the examples stand at a fresh start with A = 16 and B = 64
module _ (start : Start) (part0 part1 : ℕ) (flash : List ℕ) where
  abbrev pub fresh_site : Site
  fresh_site = begun start flash 16 64 part0 part1

  -- an example with its parts in a row
  abbrev pub case : List Call → Call → ℕ → ℕ → ℕ → List ℕ → List ℕ → Case
  case before call answer state status reply then =
      record {
        at = fresh_site;
        before = before;
        call = call;
        answer = answer;
        state = state;
        status = status;
        reply = reply;
        flash = then;
      }

  -- the starred examples, 1 to 11: calls before, call; answer, state, status, reply, flash
  abbrev pub desk_cases : List ℕ → List Case
  desk_cases b =
      -- 1
      case [] (get_state b) 0 2 0 (0x02 ∷ []) flash
      -- 2
      ∷ case [] (query b) 0 2 0 (0x4D ∷ 0x4C ∷ 0x01 ∷ 0x20 ∷ []) flash
      -- 3: 48 blocks, and 49
      ∷ case [] (erase_all b) 0 3 0 [] (wiped flash)
      ∷ case [] (dnload b (0x04 ∷ 0x00 ∷ 0x10 ∷ 0x00 ∷ 0x31 ∷ 0x00 ∷ 0x00 ∷ 0x00 ∷ [])) 3 10 0x08 [] flash
      -- 4: block 15
      ∷ case [] (dnload b (0x04 ∷ 0x00 ∷ 0x0F ∷ 0x00 ∷ 0x01 ∷ 0x00 ∷ 0x00 ∷ 0x00 ∷ [])) 3 10 0x08 [] flash
      -- 5: block 63, length 1,024 and 1,025
      ∷ case (erase_all b ∷ get_status b ∷ [])
      (dnload b (0x01 ∷ 0x00 ∷ 0x3F ∷ 0x00 ∷ 0x00 ∷ 0x04 ∷ 0x00 ∷ 0x00 ∷ [])) 0 3 0 [] (wiped flash)
      ∷ case (erase_all b ∷ get_status b ∷ [])
      (dnload b (0x01 ∷ 0x00 ∷ 0x3F ∷ 0x00 ∷ 0x01 ∷ 0x04 ∷ 0x00 ∷ 0x00 ∷ [])) 3 10 0x08 [] (wiped flash)
      -- 6: length 0 and 4,294,967,295
      ∷ case [] (dnload b (0x01 ∷ 0x00 ∷ 0x10 ∷ 0x00 ∷ 0x00 ∷ 0x00 ∷ 0x00 ∷ 0x00 ∷ [])) 3 10 0x08 [] flash
      ∷ case [] (dnload b (0x01 ∷ 0x00 ∷ 0x10 ∷ 0x00 ∷ 0xFF ∷ 0xFF ∷ 0xFF ∷ 0xFF ∷ [])) 3 10 0x08 [] flash
      -- 7: 7 bytes, and the status then
      ∷ case [] (seven b) 3 10 0x0B [] flash
      ∷ case (seven b ∷ []) (get_status b) 0 10 0x0B (0x0B ∷ 0x00 ∷ 0x00 ∷ 0x00 ∷ 0x0A ∷ 0x00 ∷ []) flash
      -- 8
      ∷ case [] (close b) 1 10 0x0F [] flash
      -- 9: a download of one byte is opened, and closed with none
      ∷ case (erase_all b ∷ get_status b ∷ prog_one b ∷ get_status b ∷ []) (close b) 3 10 0x09 [] (wiped flash)
      -- 10: a zero byte is programmed and closed, and then lies in the range
      ∷ case (erase_all b ∷ get_status b ∷ prog_zero b ∷ get_status b ∷ close b ∷ get_status b ∷ [])
      (dnload b (0x01 ∷ 0x00 ∷ 0x10 ∷ 0x00 ∷ 0x00 ∷ 0x04 ∷ 0x00 ∷ 0x00 ∷ [])) 3 10 0x05 [] (marred flash)
      -- 11: in state 10, and in state 2
      ∷ case (seven b ∷ []) (clr_status b) 0 2 0 [] flash
      ∷ case [] (clr_status b) 1 10 0x0F [] flash
      ∷ []

-- all the starred examples hold, over any flash of 64 blocks and with any reply buffer that has room
abbrev pub Desk : Start → Step → Type 0
Desk start step =
    (part0 part1 : ℕ) (flash buffer : List ℕ) → length flash ≡ start_of 64 → 1024 ≤ length buffer
    → All (Expected step) (desk_cases start part0 part1 flash buffer)
