-- What is to be done can be asked for: on the small board, inputs that meet each premise. Assumes nothing.
use Prim.Native.Nat.{ℕ, ◌+◌, ◌*◌, ◌≤◌}
use mathlib.Core.Bool.{true}
use mathlib.Core.List.{List, [], ◌∷◌, ◌++◌}
use mathlib.Core.Logic.{inl, inr}
use mathlib.Core.Path.{◌≡◌, refl, sym, ap, ◌∙◌}
use native.Mathlib.Omega.{arith}
use lib.ListN.{length, get_or}
use Rattle.flash.specs.Flash.{start_of, spliced}
use Rattle.flash.proofs.Laws.{spliced-length, spliced_other}
use Rattle.session.specs.Session.{phase_of, down_of, up_of, app_end, stream_length, with_phase, with_down, with_up, fresh_of}
use Rattle.session.specs.Rules.{fit_of}
use Rattle.session.specs.declared.Session.{Session}
use Rattle.request.specs.Request.{setup_of, data_asked}
use Rattle.request.specs.declared.Request.{Request}
use Rattle.demands.specs.Calls.{Call, Site}
use Rattle.demands.specs.Asked.{Prepared, Asks, NoRequest, Says, Form}
use Rattle.demands.specs.Commanded.{FirstUnerased, Commanded, Named, Counted, Legal, Blank, NoCommand}
use Rattle.demands.specs.Does.Rows.{StartsAt}
use Rattle.demands.specs.Asked.Form.{dnload, upload, getstatus, clrstatus, getstate, abort, query}
use Rattle.demands.specs.Commanded.NoCommand.{short, unknown, extra}
use Rattle.demands.proofs.Ground.Prepared.{prepared_from}
use Rattle.demands.proofs.Ground.SmallBoard.{small_flash, small_long, small_session, lent, roomy}
use Rattle.demands.proofs.Ground.Bytes.{blank_byte, spliced_byte}

-- the small board in a state, with a download and a place in the stream
abbrev pub placed : ℕ → ℕ → ℕ → ℕ → ℕ → Site
placed state status place left at =
    record {
      session =
          with_up (with_down (with_phase small_session (phase_of state status 2)) (down_of place left)) (up_of 0 1 1 2048 at);
      flash = small_flash;
    }

abbrev pub small : ℕ → ℕ → ℕ → ℕ → Site
small state status place left = placed state status place left 0

-- setup bytes with wIndex 0, and what they say
abbrev pub setups : ℕ → ℕ → ℕ → ℕ → ℕ → List ℕ
setups type number value low high = type ∷ number ∷ value ∷ 0 ∷ 0 ∷ 0 ∷ low ∷ high ∷ []

pub so : (type number value low high : ℕ) → Says (setups type number value low high) type number (low + high * 256)
so type number value low high = record { typed = refl; numbered = refl; no_index = refl; long = refl }

-- a DNLOAD of a few bytes
abbrev pub brings : List ℕ → Call
brings bytes = lent (setups 0x21 1 0 (length bytes) 0) bytes

-- such a call is sound over any flash of three blocks, if its own numbers are
pub small_sound :
    (s : Session) (flash setup bytes : List ℕ) → s.board.b.0 ≡ 3 → length flash ≡ start_of 3 → length setup ≡ 8
    → length bytes ≡ data_asked setup → fit_of s ≡ true → Prepared (record { session = s; flash = flash }) (lent setup bytes)
small_sound s flash setup bytes b sized eight brought fit =
    prepared_from (record { session = s; flash = flash }) (lent setup bytes) eight roomy (rw b sized) brought fit

module _ (state status place left at : ℕ) (fit : fit_of (placed state status place left at).session ≡ true) where
  met :
      (r : Request) (n : ℕ) (setup bytes : List ℕ) → length setup ≡ 8 → length bytes ≡ data_asked setup → Form setup n r
      → Asks (placed state status place left at) (lent setup bytes) r n
  unfolding fresh_of
  met r n setup bytes eight brought form =
      record {
        prepared = small_sound (placed state status place left at).session small_flash setup bytes refl small_long eight brought fit;
        form = form;
      }

-- a command of a few bytes in state 2, over any flash
module _ (flash bytes : List ℕ) (code : ℕ) (sized : length flash ≡ start_of 3) where
  pub commanded_over :
      length bytes ≤ 1024 → 1 ≤ length bytes → get_or bytes 0 0 ≡ code
      → Commanded (record { session = (small 2 0 0 0).session; flash = flash }) (brings bytes) code (length bytes)
  unfolding fit_of stream_length fresh_of app_end data_asked setup_of
  commanded_over few some e =
      let long : length bytes + 0 * 256 ≡ length bytes = omega arith in
      record {
        asks =
            record {
              prepared =
                  small_sound (small 2 0 0 0).session flash (setups 0x21 1 0 (length bytes) 0) bytes refl sized refl (sym long) refl;
              form = dnload (rw long at (so 0x21 1 0 (length bytes) 0)) few;
            };
        some = some;
        idle = refl;
        command = e;
      }

commanded :
    (bytes : List ℕ) (code : ℕ) → length bytes ≤ 1024 → 1 ≤ length bytes → get_or bytes 0 0 ≡ code
    → Commanded (small 2 0 0 0) (brings bytes) code (length bytes)
commanded bytes code = commanded_over small_flash bytes code small_long

-- the eight bytes of a command on block 1 with a 16-bit length or count
abbrev pub on_one : ℕ → ℕ → ℕ → List ℕ
on_one code low high = code ∷ 0 ∷ 1 ∷ 0 ∷ low ∷ high ∷ 0 ∷ 0 ∷ []

pub EraseWorks_met :
    Commanded (small 2 0 0 0) (brings (on_one 4 1 0)) 4 8 × Counted (brings (on_one 4 1 0)) 1 1 × Legal (small 2 0 0 0) 1 (start_of 1)
unfolding fresh_of app_end
EraseWorks_met = (
  commanded (on_one 4 1 0) 4 (omega arith) (omega arith) refl,
  record { block_is = refl; count_is = refl },
  record { some = omega arith; from = omega arith; to = omega arith },
)

-- two bytes, of which the first comes with the command
pub ProgramWorks_met_start :
    Commanded (small 2 0 0 0) (brings (on_one 1 2 0 ++ (7 ∷ []))) 1 9 × Named (brings (on_one 1 2 0 ++ (7 ∷ []))) 1 2
    × Legal (small 2 0 0 0) 1 2 × Blank (small 2 0 0 0) 1 2
unfolding fresh_of app_end
ProgramWorks_met_start = (
  commanded (on_one 1 2 0 ++ (7 ∷ [])) 1 (omega arith) (omega arith) refl,
  record { block_is = refl; len_is = refl },
  record { some = omega arith; from = omega arith; to = omega arith },
  λ i lt. blank_byte (start_of 3) (1024 + i) (omega arith),
)

pub ProgramWorks_met_piece :
    (x : ℕ) (place : ℕ) → fit_of (small 5 0 place 1).session ≡ true → Asks (small 5 0 place 1) (brings (x ∷ [])) Request.Dnload 1
unfolding data_asked setup_of
ProgramWorks_met_piece x place fit = met 5 0 place 1 0 fit Request.Dnload 1 _ _ refl refl (dnload (so _ _ _ _ _) (omega arith))

-- the commands that change no flash, on one byte at block 1
pub read_met : Commanded (small 2 0 0 0) (brings (on_one 2 1 0)) 2 8 × Named (brings (on_one 2 1 0)) 1 1 × Legal (small 2 0 0 0) 1 1
unfolding fresh_of app_end
read_met = (
  commanded (on_one 2 1 0) 2 (omega arith) (omega arith) refl,
  record { block_is = refl; len_is = refl },
  record { some = omega arith; from = omega arith; to = omega arith },
)

pub check_met :
    Commanded (small 2 0 0 0) (brings (on_one 3 1 0)) 3 8 × Named (brings (on_one 3 1 0)) 1 1 × Legal (small 2 0 0 0) 1 1
    × Blank (small 2 0 0 0) 1 1
unfolding fresh_of app_end
check_met = (
  commanded (on_one 3 1 0) 3 (omega arith) (omega arith) refl,
  record { block_is = refl; len_is = refl },
  record { some = omega arith; from = omega arith; to = omega arith },
  λ i lt. blank_byte (start_of 3) (1024 + i) (omega arith),
)

pub info_met : Commanded (small 2 0 0 0) (brings (on_one 5 0 0)) 5 8
info_met = commanded (on_one 5 0 0) 5 (omega arith) (omega arith) refl

pub bin_on_met : Commanded (small 2 0 0 0) (brings (on_one 6 0 0)) 6 8
bin_on_met = commanded (on_one 6 0 0) 6 (omega arith) (omega arith) refl

pub bin_off_met : Commanded (small 2 0 0 0) (brings (6 ∷ 1 ∷ 0 ∷ 0 ∷ 0 ∷ 0 ∷ 0 ∷ 0 ∷ [])) 6 8
bin_off_met = commanded (6 ∷ 1 ∷ 0 ∷ 0 ∷ 0 ∷ 0 ∷ 0 ∷ 0 ∷ []) 6 (omega arith) (omega arith) refl

pub reset_met : Commanded (small 2 0 0 0) (brings (on_one 7 0 0)) 7 8
reset_met = commanded (on_one 7 0 0) 7 (omega arith) (omega arith) refl

-- no command: one byte, the unknown command 8, and a byte behind READ
pub no_command_met :
    (Commanded (small 2 0 0 0) (brings (4 ∷ [])) 4 1 × NoCommand 4 1)
    × (Commanded (small 2 0 0 0) (brings (on_one 8 0 0)) 8 8 × NoCommand 8 8)
    × (Commanded (small 2 0 0 0) (brings (on_one 2 1 0 ++ (0 ∷ []))) 2 9 × NoCommand 2 9)
no_command_met = (
  (commanded (4 ∷ []) 4 (omega arith) (omega arith) refl, short (omega arith)),
  (commanded (on_one 8 0 0) 8 (omega arith) (omega arith) refl, unknown (inr (omega arith))),
  (commanded (on_one 2 1 0 ++ (0 ∷ [])) 2 (omega arith) (omega arith) refl, extra (omega arith) (λ e. omega (arith, e))),
)

-- an empty range is illegal, for whichever command
pub range_met :
    (code : ℕ)
    → Commanded (small 2 0 0 0) (brings (on_one code 0 0)) code 8
    × Named (brings (on_one code 0 0)) 1 0 × Counted (brings (on_one code 0 0)) 1 0
    × (Legal (small 2 0 0 0) 1 0 → ⊥)
range_met code = (
  commanded (on_one code 0 0) code (omega arith) (omega arith) refl,
  record { block_is = refl; len_is = refl },
  record { block_is = refl; count_is = refl },
  λ l. omega (arith, l.some),
)

-- two bytes for a length of one, and for a download of which one byte remains
pub prog_data_met : Commanded (small 2 0 0 0) (brings (on_one 1 1 0 ++ (7 ∷ 7 ∷ []))) 1 10 × Named (brings (on_one 1 1 0 ++ (7 ∷ 7 ∷ []))) 1 1
prog_data_met = (commanded (on_one 1 1 0 ++ (7 ∷ 7 ∷ [])) 1 (omega arith) (omega arith) refl, record { block_is = refl; len_is = refl })

pub piece_data_met : Asks (small 5 0 1024 1) (brings (7 ∷ 7 ∷ [])) Request.Dnload 2
unfolding fit_of stream_length fresh_of app_end data_asked setup_of
piece_data_met = met 5 0 1024 1 0 refl Request.Dnload 2 _ _ refl refl (dnload (so _ _ _ _ _) (omega arith))

-- a flash with zeros behind block 1's first byte, and a range of three bytes there, for PROG and CHECK: the first zero is found
abbrev pub marred : Site
marred = record { session = (small 2 0 0 0).session; flash = spliced small_flash 1025 (0 ∷ 0 ∷ []) }

pub unerased_met : (code : ℕ) → Commanded marred (brings (on_one code 3 0)) code 8 × Legal marred 1 3 × FirstUnerased marred 1 3 1025
unfolding fresh_of app_end
unerased_met code =
    let fits : 1025 + 2 ≤ length small_flash = rw small_long (omega arith) in
    let g = spliced small_flash 1025 (0 ∷ 0 ∷ []) in
    let zero_byte : get_or g (1025 + 0) 0 ≡ 0 = spliced_byte small_flash 1025 (0 ∷ 0 ∷ []) fits 0 (omega arith) in
    let before : get_or g 1024 0 ≡ 255 =
    spliced_other small_flash 1025 (0 ∷ 0 ∷ []) fits 1024 (inl (omega arith)) ∙ blank_byte (start_of 3) 1024 (omega arith)
    in
    let long = spliced-length small_flash 1025 (0 ∷ 0 ∷ []) fits ∙ small_long in (
      commanded_over g (on_one code 3 0) code long (omega arith) (omega arith) refl,
      record { some = omega arith; from = omega arith; to = omega arith },
      record {
        from = omega arith;
        to = omega arith;
        unerased = λ e. omega (arith, zero_byte, e);
        erased_before = λ j low lt. (let same : j ≡ 1024 = omega arith in ap (λ (k : ℕ). get_or g k 0) same ∙ before);
      },
    )

pub close_met : Asks (small 5 0 1025 0) (lent (setups 0x21 1 0 0 0) []) Request.Dnload 0
unfolding fit_of stream_length fresh_of app_end data_asked setup_of
close_met = met 5 0 1025 0 0 refl Request.Dnload 0 _ _ refl refl (dnload (so _ _ _ _ _) (omega arith))

pub close_missing_met : Asks (small 5 0 1024 1) (lent (setups 0x21 1 0 0 0) []) Request.Dnload 0
unfolding fit_of stream_length fresh_of app_end data_asked setup_of
close_missing_met = met 5 0 1024 1 0 refl Request.Dnload 0 _ _ refl refl (dnload (so _ _ _ _ _) (omega arith))

pub upload_ends_met : Asks (small 2 0 0 0) (lent (setups 0xA1 2 0 20 0) []) Request.Upload 20 × StartsAt (small 2 0 0 0) 0
unfolding fit_of stream_length fresh_of app_end data_asked setup_of
upload_ends_met = (
  met 2 0 0 0 0 refl Request.Upload 20 _ _ refl refl (upload (so _ _ _ _ _) (omega arith) (omega arith)),
  inl (refl, refl),
)

-- the answers behind the first
pub upload_goes_on_met :
    Asks (placed 9 0 0 0 1024) (lent (setups 0xA1 2 0 0 4) []) Request.Upload 1024 × StartsAt (placed 9 0 0 0 1024) 1024
unfolding fit_of stream_length fresh_of app_end data_asked setup_of
upload_goes_on_met = (
  met 9 0 0 0 1024 refl Request.Upload 1024 _ _ refl refl (upload (so _ _ _ _ _) (omega arith) (omega arith)),
  inr (refl, refl),
)

-- in states 3, 6 and 2
pub getstatus_met :
    Asks (small 3 0 0 0) (lent (setups 0xA1 3 0 6 0) []) Request.GetStatus 6
    × Asks (small 6 0 0 0) (lent (setups 0xA1 3 0 6 0) []) Request.GetStatus 6
    × Asks (small 2 0 0 0) (lent (setups 0xA1 3 0 6 0) []) Request.GetStatus 6
unfolding fit_of stream_length fresh_of app_end data_asked setup_of
getstatus_met = (
  met 3 0 0 0 0 refl Request.GetStatus 6 _ _ refl refl (getstatus (so _ _ _ _ _) refl),
  met 6 0 0 0 0 refl Request.GetStatus 6 _ _ refl refl (getstatus (so _ _ _ _ _) refl),
  met 2 0 0 0 0 refl Request.GetStatus 6 _ _ refl refl (getstatus (so _ _ _ _ _) refl),
)

pub clrstatus_met : Asks (small 10 0x0B 0 0) (lent (setups 0x21 4 0 0 0) []) Request.ClrStatus 0
unfolding fit_of stream_length fresh_of app_end data_asked setup_of
clrstatus_met = met 10 0x0B 0 0 0 refl Request.ClrStatus 0 _ _ refl refl (clrstatus (so _ _ _ _ _) refl)

pub getstate_met : Asks (small 2 0 0 0) (lent (setups 0xA1 5 0 1 0) []) Request.GetState 1
unfolding fit_of stream_length fresh_of app_end data_asked setup_of
getstate_met = met 2 0 0 0 0 refl Request.GetState 1 _ _ refl refl (getstate (so _ _ _ _ _) refl)

pub abort_met : Asks (placed 9 0 0 0 1024) (lent (setups 0x21 6 0 0 0) []) Request.Abort 0
unfolding fit_of stream_length fresh_of app_end data_asked setup_of
abort_met = met 9 0 0 0 1024 refl Request.Abort 0 _ _ refl refl (abort (so _ _ _ _ _) refl)

pub query_met : Asks (small 10 0x0F 0 0) (lent (setups 0xA1 0x42 0x23 4 0) []) Request.Query 4
unfolding fit_of stream_length fresh_of app_end data_asked setup_of
query_met = met 10 0x0F 0 0 0 refl Request.Query 4 _ _ refl refl (query (so _ _ _ _ _) refl refl)

-- eight zeros have the form of no request
no_form : (r : Request) (n : ℕ) → Form (setups 0 0 0 0 0) n r → ⊥
no_form Request.Dnload n (dnload s few) = omega (arith, s.typed)
no_form Request.Upload n (upload s some few) = omega (arith, s.typed)
no_form Request.GetStatus n (getstatus s e) = omega (arith, s.typed)
no_form Request.ClrStatus n (clrstatus s e) = omega (arith, s.typed)
no_form Request.GetState n (getstate s e) = omega (arith, s.typed)
no_form Request.Abort n (abort s e) = omega (arith, s.typed)
no_form Request.Query n (query s e v) = omega (arith, s.typed)

-- so they are refused in states 2 and 10
pub stalled_met :
    Prepared (small 2 0 0 0) (lent (setups 0 0 0 0 0) []) × NoRequest (small 2 0 0 0) (lent (setups 0 0 0 0 0) [])
    × Prepared (small 10 0x0F 0 0) (lent (setups 0 0 0 0 0) []) × NoRequest (small 10 0x0F 0 0) (lent (setups 0 0 0 0 0) [])
unfolding fit_of stream_length fresh_of app_end data_asked setup_of
stalled_met = (
  small_sound (small 2 0 0 0).session small_flash (setups 0 0 0 0 0) [] refl small_long refl refl refl,
  λ r n form a. no_form r n form,
  small_sound (small 10 0x0F 0 0).session small_flash (setups 0 0 0 0 0) [] refl small_long refl refl refl,
  λ r n form a. no_form r n form,
)
