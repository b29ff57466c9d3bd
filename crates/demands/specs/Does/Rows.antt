-- Does: what is asked for in form and in a state that allows it is done, and anything else is stalled.
use Rattle.std.specs.Prelude.{ℕ, ◌+◌, ◌-◌, ◌≤◌, ◌<◌, min, List, [], ◌∷◌, ◌++◌, ◌⊎◌, ◌≡◌, length, take, drop}
use Rattle.session.specs.Session.{phase_of, down_of, up_of, stream_length, with_phase, with_down, with_up}
use Rattle.session.specs.declared.Phase.{Phase}
use Rattle.session.specs.declared.Download.{Download}
use Rattle.session.specs.declared.Upload.{Upload}
use Rattle.session.specs.declared.Session.{Session}
use Rattle.request.specs.declared.Request.{Request}
use Rattle.stream.specs.Stream.{stream_of}
use Rattle.demands.specs.Calls.{Step, heard, Call, Site, called}
use Rattle.demands.specs.Asked.{state_of, Prepared, Asks, NoRequest}

-- where an upload's next answer starts: begun in state 2 at the stream's first byte, in state 9 at its place
abbrev pub StartsAt : Site → ℕ → Type 0
StartsAt at place =
    ((state_of at ≡ 2) × (place ≡ 0))
    ⊎ ((state_of at ≡ 9) × (place ≡ at.session.up.place))

-- the next n bytes of the chosen stream, or all that are left of it
abbrev pub next_bytes : Site → ℕ → ℕ → List ℕ
next_bytes at place n =
    take n (drop place (stream_of at.session.board at.session.unerased at.session.up at.flash))

-- a session with another state, status and state after sync, another download and another upload; all else stays
abbrev pub gone_to : Session → Phase → Download → Upload → Session
gone_to s phase down up = with_up (with_down (with_phase s phase) down) up

-- an upload at a place of its stream; choice, range and prefix flag stay
abbrev pub at_place : Upload → ℕ → Upload
at_place up place = up_of up.choice up.«prefix» up.first.0 up.len place

module _ (step : Step) where
  -- the session that a call hands back
  abbrev pub handed : Site → Call → Session
  handed at c = (called step at c).session

  -- what the host hears: the answer's number, and so many bytes at the front of the reply, the rest of it untouched
  pub record Answers (at : Site) (c : Call) (number : ℕ) (bytes : List ℕ) : Type 0 where
    pub answer : heard (called step at c) ≡ number
    pub count : (called step at c).count ≡ length bytes
    pub reply : (called step at c).reply ≡ bytes ++ drop (length bytes) c.reply

  -- a call that leaves the flash alone: the answer's number, the reply bytes, and the session handed back
  pub record Hands (at : Site) (c : Call) (number : ℕ) (bytes : List ℕ) (t : Session) : Type 0 where
    pub answers : Answers at c number bytes
    pub session : handed at c ≡ t
    pub flash : (called step at c).flash ≡ at.flash

  -- nothing changes but the reply
  abbrev pub Unchanged : Site → Call → ℕ → List ℕ → Type 0
  Unchanged at c number bytes = Hands at c number bytes at.session

  -- the session goes to a state with a status: a running download is dropped, an upload will start at its first byte, and choice, range
  -- and prefix flag and all else stay
  abbrev pub Moves : Site → Call → ℕ → List ℕ → ℕ → ℕ → Type 0
  Moves at c number bytes n status =
      Hands at c number bytes (gone_to at.session (phase_of n status 2) (down_of 0 0) (at_place at.session.up 0))

  -- GETSTATUS answers status, three zero bytes, the state it now enters, and zero
  abbrev pub Reports : Site → Call → ℕ → Type 0
  Reports at c entered =
      Hands at c 0 (at.session.phase.status.0 ∷ 0 ∷ 0 ∷ 0 ∷ entered ∷ 0 ∷ [])
      (with_phase at.session (phase_of entered at.session.phase.status.0 2))

  -- an upload stays in state 9, behind what was answered
  abbrev pub Uploads : Site → Call → ℕ → ℕ → Type 0
  Uploads at c place n =
      Hands at c 0 (next_bytes at place n)
      (gone_to at.session (phase_of 9 0 2) (down_of 0 0)
      (at_place at.session.up (place + min n (stream_length at.session.up - place))))

  -- the requests row by row, DNLOAD with data apart: what is so at any site for any call
  pub record RowsAt (at : Site) (c : Call) : Type 0 where
    -- DNLOAD of no bytes in state 5: with none remaining to 6, else 0x09
    pub close : Asks at c Request.Dnload 0 → state_of at ≡ 5 → at.session.down.left ≡ 0 → Moves at c 0 [] 6 0
    pub close_missing : Asks at c Request.Dnload 0 → state_of at ≡ 5 → 0 < at.session.down.left → Moves at c 3 [] 10 0x09
    -- UPLOAD: the next bytes, as many as the smaller of wLength and those left; fewer than 1,024 asked for end it
    pub upload-count :
        (n place : ℕ) → Asks at c Request.Upload n → StartsAt at place
        → (called step at c).count ≡ min n (stream_length at.session.up - place)
    pub upload_ends :
        (n place : ℕ) → Asks at c Request.Upload n → StartsAt at place → n < 1024 → Moves at c 0 (next_bytes at place n) 2 0
    pub upload_goes_on : (n place : ℕ) → Asks at c Request.Upload n → StartsAt at place → 1024 ≤ n → Uploads at c place n
    -- GETSTATUS: from 3 it enters the state after sync, from 6 it enters 2, else it stays
    pub getstatus_sync : Asks at c Request.GetStatus 6 → state_of at ≡ 3 → Reports at c at.session.phase.after.0
    pub getstatus_manifest : Asks at c Request.GetStatus 6 → state_of at ≡ 6 → Reports at c 2
    pub getstatus_else :
        Asks at c Request.GetStatus 6 → (state_of at ≡ 3 → ⊥) → (state_of at ≡ 6 → ⊥) → Reports at c (state_of at)
    -- CLRSTATUS clears status and goes to 2
    pub clrstatus : Asks at c Request.ClrStatus 0 → state_of at ≡ 10 → Moves at c 0 [] 2 0
    -- GETSTATE answers the present state
    pub getstate : Asks at c Request.GetState 1 → Unchanged at c 0 (state_of at ∷ [])
    -- ABORT goes to 2
    pub abort : Asks at c Request.Abort 0 → (state_of at ≡ 10 → ⊥) → Moves at c 0 [] 2 0
    -- the query answers four bytes and changes nothing
    pub query : Asks at c Request.Query 4 → Unchanged at c 0 (0x4D ∷ 0x4C ∷ 0x01 ∷ 0x20 ∷ [])
    -- everything else is stalled: to state 10 with status 0x0F; in state 10 nothing changes
    pub stalled : Prepared at c → NoRequest at c → (state_of at ≡ 10 → ⊥) → Moves at c 1 [] 10 0x0F
    pub stalled_in_error : Prepared at c → NoRequest at c → state_of at ≡ 10 → Unchanged at c 1 []

  abbrev pub Rows : Type 0
  Rows = (at : Site) (c : Call) → RowsAt at c
