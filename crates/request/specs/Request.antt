-- The requests: how the setup is read, the form of each, and the states that allow it.
use Rattle.std.specs.Prelude.{ℕ, Bool, false, not, cond, ◌&&◌, ◌||◌, List, Option, Some, None, eqb, leb, length, get_or}
use Rattle.numbers.specs.Numbers.{word_at}
use Rattle.session.specs.Codes.{idle, download_idle, upload_idle, error, known_state}
use Rattle.request.specs.declared.Setup.{Setup}
use Rattle.request.specs.declared.Request.{Request}
use Rattle.request.specs.declared.Request.TheVariants.{Dnload, Upload, GetStatus, ClrStatus}
use Rattle.request.specs.declared.Request.TheVariants.{GetState, Abort, Query}

-- the parts of a setup: bmRequestType, bRequest, wValue, wIndex, wLength; zeros unless it is 8 bytes
unfoldable pub setup_of : List ℕ → Setup
setup_of bytes =
    cond (eqb (length bytes) 8)
    (record {
      kind = get_or bytes 0 0;
      number = get_or bytes 1 0;
      value = word_at bytes 2;
      index = word_at bytes 4;
      length = word_at bytes 6;
    })
    (record { kind = 0; number = 0; value = 0; index = 0; length = 0 })

-- what bytes are read as: the parts of eight, and of no others
abbrev pub read_of : List ℕ → Option Setup
read_of bytes = cond (eqb (length bytes) 8) (Some (setup_of bytes)) None

-- type, number, wIndex 0, and wLength from the least to the most
abbrev pub has_form : Setup → ℕ → ℕ → ℕ → ℕ → Bool
has_form s kind number least most =
    eqb s.kind kind
    && eqb s.number number
    && eqb s.index 0
    && leb least s.length
    && leb s.length most

-- the form table: type, number, wLength; wValue is ignored except in the query
abbrev pub in_form : Request → Setup → Bool
in_form Dnload s = has_form s 0x21 1 0 1024
in_form Upload s = has_form s 0xA1 2 1 1024
in_form GetStatus s = has_form s 0xA1 3 6 6
in_form ClrStatus s = has_form s 0x21 4 0 0
in_form GetState s = has_form s 0xA1 5 1 1
in_form Abort s = has_form s 0x21 6 0 0
in_form Query s = has_form s 0xA1 0x42 4 4 && eqb s.value 0x23

-- the request whose form a setup has; everything else is none
unfoldable pub form_of : Setup → Option Request
form_of s =
    cond (in_form Dnload s) (Some Dnload)
    (cond (in_form Upload s) (Some Upload)
    (cond (in_form GetStatus s) (Some GetStatus)
    (cond (in_form ClrStatus s) (Some ClrStatus)
    (cond (in_form GetState s) (Some GetState)
    (cond (in_form Abort s) (Some Abort)
    (cond (in_form Query s) (Some Query) None))))))

-- the request that setup bytes are, or none
abbrev pub request_of : List ℕ → Option Request
request_of bytes = form_of (setup_of bytes)

-- how many bytes a setup speaks of
abbrev pub w_length : List ℕ → ℕ
w_length bytes = (setup_of bytes).length

-- how many data bytes come with a setup: wLength for type 0x21 and number 1, whatever the rest holds
abbrev pub data_for : Setup → ℕ
data_for s = cond (eqb s.kind 0x21 && eqb s.number 1) s.length 0

unfoldable pub data_asked : List ℕ → ℕ
data_asked bytes = data_for (setup_of bytes)

-- the states in which a request of so many bytes is allowed
unfoldable pub allowed_of : Request → ℕ → ℕ → Bool
allowed_of Dnload bytes state = eqb state idle && not (eqb bytes 0) || eqb state download_idle
allowed_of Upload bytes state = eqb state idle || eqb state upload_idle
allowed_of GetStatus bytes state = known_state state
allowed_of ClrStatus bytes state = eqb state error
allowed_of GetState bytes state = known_state state
allowed_of Abort bytes state = known_state state && not (eqb state error)
allowed_of Query bytes state = known_state state

-- the same of what setup bytes are: no request is allowed in no state
abbrev pub permitted : Option Request → ℕ → ℕ → Bool
permitted (Some r) bytes state = allowed_of r bytes state
permitted None bytes state = false

-- the table's rows, in the order of the form table
abbrev pub row_of : Request → ℕ
row_of Dnload = 0
row_of Upload = 1
row_of GetStatus = 2
row_of ClrStatus = 3
row_of GetState = 4
row_of Abort = 5
row_of Query = 6
