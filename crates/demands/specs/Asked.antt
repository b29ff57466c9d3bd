-- What a call asks for, in the paper's words: which calls are prepared, the form table, and the states that allow a request.
use Rattle.std.specs.Prelude.{ℕ, ◌≤◌, ◌<◌, List, ◌⊎◌, ◌≡◌, length, get_or}
use Rattle.flash.specs.Flash.{start_of}
use Rattle.session.specs.Fit.{Fit}
use Rattle.numbers.specs.Numbers.{word_at}
use Rattle.request.specs.declared.Request.{Request}
use Rattle.demands.specs.Calls.{Call, Site}

-- the state that a site is in
abbrev pub state_of : Site → ℕ
state_of at = at.session.phase.state.0

-- type 0x21 and number 1, whatever the rest of the setup holds
abbrev pub SaysDnload : List ℕ → Type 0
SaysDnload setup = (get_or setup 0 0 ≡ 0x21) × (get_or setup 1 0 ≡ 1)

-- a call that is prepared: 8 setup bytes, room for 1,024 reply bytes, B × 1,024 bytes of flash, wLength data bytes for DNLOAD and
-- none otherwise, a session that keeps its rules
pub record Prepared (at : Site) (c : Call) : Type 0 where
  pub setup_bytes : length c.setup ≡ 8
  pub room : 1024 ≤ length c.reply
  pub flash_length : length at.flash ≡ start_of at.session.board.b.0
  pub dnload_data : SaysDnload c.setup → length c.bytes ≡ word_at c.setup 6
  pub other_data : (SaysDnload c.setup → ⊥) → length c.bytes ≡ 0
  pub rules : Fit at.session

-- what setup bytes say: type, number, wIndex 0, and n for wLength; wValue is left open
pub record Says (setup : List ℕ) (type number n : ℕ) : Type 0 where
  pub typed : get_or setup 0 0 ≡ type
  pub numbered : get_or setup 1 0 ≡ number
  pub no_index : word_at setup 4 ≡ 0
  pub long : word_at setup 6 ≡ n

-- the form table: each request by type, number and wLength, the query also by wValue
pub data Form (setup : List ℕ) (n : ℕ) : Request → Type 0 where
  dnload : Says setup 0x21 1 n → n ≤ 1024 → Form setup n Request.Dnload
  upload : Says setup 0xA1 2 n → 1 ≤ n → n ≤ 1024 → Form setup n Request.Upload
  getstatus : Says setup 0xA1 3 n → n ≡ 6 → Form setup n Request.GetStatus
  clrstatus : Says setup 0x21 4 n → n ≡ 0 → Form setup n Request.ClrStatus
  getstate : Says setup 0xA1 5 n → n ≡ 1 → Form setup n Request.GetState
  abort : Says setup 0x21 6 n → n ≡ 0 → Form setup n Request.Abort
  query : Says setup 0xA1 0x42 n → n ≡ 4 → word_at setup 2 ≡ 0x23 → Form setup n Request.Query

-- its last column: the states that allow a request of n bytes
abbrev pub Allowed : Request → ℕ → ℕ → Type 0
Allowed Request.Dnload n state = ((state ≡ 2) × (0 < n)) ⊎ (state ≡ 5)
Allowed Request.Upload n state = (state ≡ 2) ⊎ (state ≡ 9)
Allowed Request.GetStatus n state = Unit
Allowed Request.ClrStatus n state = state ≡ 10
Allowed Request.GetState n state = Unit
Allowed Request.Abort n state = state ≡ 10 → ⊥
Allowed Request.Query n state = Unit

-- a prepared call that is a request in form
pub record Asks (at : Site) (c : Call) (r : Request) (n : ℕ) : Type 0 where
  pub prepared : Prepared at c
  pub form : Form c.setup n r

-- a call that is no request in form which the state allows
abbrev pub NoRequest : Site → Call → Type 0
NoRequest at c = (r : Request) (n : ℕ) → Form c.setup n r → Allowed r n (state_of at) → ⊥
