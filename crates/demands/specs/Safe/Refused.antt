-- Safe: a refused call leaves what the paper says, and which calls are refused.
use Rattle.std.specs.Prelude.{ℕ, ◌-◌, ◌≡◌, length, get_or}
use Rattle.flash.specs.Flash.{start_of}
use Rattle.session.specs.Session.{app_end}
use Rattle.session.specs.declared.Session.{Session}
use Rattle.request.specs.declared.Request.{Request}
use Rattle.answers.specs.Answers.{Leaves}
use Rattle.demands.specs.Calls.{Step, heard, Call, Site, called}
use Rattle.demands.specs.Asked.{state_of, Prepared, Form, Allowed, NoRequest}
use Rattle.demands.specs.Commanded.{FirstUnerased, Searches}

-- what every refused call leaves: a count of 0, flash and reply untouched
pub record Quiet (at : Site) (c : Call) (l : Leaves) : Type 0 where
  pub count : l.count ≡ 0
  pub flash : l.flash ≡ at.flash
  pub reply : l.reply ≡ c.reply

-- t is s gone to a state with a status, to an upload of some choice, prefix flag and range, and to a number of where flash wasn't
-- erased: the state after sync is 2, the download is dropped, the upload is at its stream's first byte; A, B, part numbers and the sums
-- stay
pub record Settled (s t : Session) (state status choice flag first len unerased : ℕ) : Type 0 where
  pub board : t.board ≡ s.board
  pub in_state : t.phase.state.0 ≡ state
  pub told : t.phase.status.0 ≡ status
  pub after_sync : t.phase.after.0 ≡ 2
  pub down_place : t.down.place.0 ≡ 0
  pub down_left : t.down.left ≡ 0
  pub chosen : t.up.choice ≡ choice
  pub prefix_flag : t.up.«prefix» ≡ flag
  pub range_first : t.up.first.0 ≡ first
  pub range_length : t.up.len ≡ len
  pub up_place : t.up.place ≡ 0
  pub unerased_is : t.unerased ≡ unerased
  pub sums : t.sums ≡ s.sums

-- in state 10, the upload's choice, prefix flag and range as they were
abbrev pub InError : Session → Session → ℕ → ℕ → Type 0
InError s t status unerased =
    Settled s t 10 status s.up.choice s.up.«prefix» s.up.first.0 s.up.len unerased

-- as fresh: state 2, status 0, the flash stream with its prefix over all of the application, and nowhere found unerased
abbrev pub AsFresh : Session → Session → Type 0
AsFresh s t = Settled s t 2 0 0 1 s.board.a.0 (start_of (app_end s.board - s.board.a.0)) 0xFFFFFFFF

-- row 1, stalled: wrong form, or not allowed in this state; state 10, status 0x0F; in state 10 nothing changes
pub record Stalled (at : Site) (c : Call) (l : Leaves) : Type 0 where
  pub when : NoRequest at c
  pub quiet : Quiet at c l
  pub in_ten : at.session.phase.state.0 ≡ 10 → l.session ≡ at.session
  pub elsewhere : (at.session.phase.state.0 ≡ 10 → ⊥) → InError at.session l.session 0x0F at.session.unerased

-- row 2, unfit: nothing changes
pub record Unfit (at : Site) (c : Call) (l : Leaves) : Type 0 where
  pub quiet : Quiet at c l
  pub session : l.session ≡ at.session

-- a status of a fault that no search was made for: 08, 09 or 0B
pub data FaultStatus (n : ℕ) : Type 0 where
  out_of_range : n ≡ 0x08 → FaultStatus n
  bytes_missing : n ≡ 0x09 → FaultStatus n
  bad_command : n ≡ 0x0B → FaultStatus n

-- what a fault leaves of the session: state 10 with its status. Of a call that doesn't search the number of where flash wasn't erased
-- stays; a PROG or CHECK that searches its range has the status 05, and the number is the first address of the range whose byte isn't 0xFF
pub data FaultLeaves (at : Site) (c : Call) (t : Session) : Type 0 where
  unsearched :
      (status : ℕ) → FaultStatus status → ((block len : ℕ) → Searches at c block len → ⊥)
      → InError at.session t status at.session.unerased → FaultLeaves at c t
  not_erased :
      (block len k : ℕ) → Searches at c block len → FirstUnerased at block len k → InError at.session t 0x05 k
      → FaultLeaves at c t

-- row 3, faulted: a download
pub record Faulted (at : Site) (c : Call) (l : Leaves) : Type 0 where
  pub when : (n : ℕ) × Form c.setup n Request.Dnload
  pub quiet : Quiet at c l
  pub session : FaultLeaves at c l.session

-- a DNLOAD in state 2 of the eight bytes of RESET, number 7
pub record ResetCommand (at : Site) (c : Call) : Type 0 where
  pub in_form : (n : ℕ) × Form c.setup n Request.Dnload
  pub in_two : at.session.phase.state.0 ≡ 2
  pub eight : length c.bytes ≡ 8
  pub number : get_or c.bytes 0 0 ≡ 7

-- row 4, reset asked: RESET command; as fresh
pub record ResetAsked (at : Site) (c : Call) (l : Leaves) : Type 0 where
  pub when : ResetCommand at c
  pub quiet : Quiet at c l
  pub as_fresh : AsFresh at.session l.session

-- rows 1 to 4 of the answer table
pub record AnswerRows (at : Site) (c : Call) (l : Leaves) : Type 0 where
  pub stalled : heard l ≡ 1 → Stalled at c l
  pub unfit : heard l ≡ 2 → Unfit at c l
  pub faulted : heard l ≡ 3 → Faulted at c l
  pub reset_asked : heard l ≡ 4 → ResetAsked at c l

-- Refused: each refused call leaves what its row says
abbrev pub Refused : Step → Type 0
Refused step = (at : Site) (c : Call) → AnswerRows at c (called step at c)

-- UnfitExactly: a call that is not so prepared is answered unfit, and no other
pub record UnfitExactly (step : Step) : Type 0 where
  pub unprepared : (at : Site) (c : Call) → (Prepared at c → ⊥) → heard (called step at c) ≡ 2
  pub prepared : (at : Site) (c : Call) → Prepared at c → heard (called step at c) ≡ 2 → ⊥

-- StalledExactly: of the prepared calls those are stalled that are no request in form which the state allows, and no other call is
pub record StalledExactly (step : Step) : Type 0 where
  pub not_allowed : (at : Site) (c : Call) → Prepared at c → NoRequest at c → heard (called step at c) ≡ 1
  pub allowed :
      (at : Site) (c : Call) (r : Request) (n : ℕ) → Form c.setup n r → Allowed r n (state_of at)
      → heard (called step at c) ≡ 1 → ⊥
