-- Each impostor fails the demand that it is held against: on the board of three blocks, at a start or after uploads. Assumes nothing.
use Prim.Native.Nat.{ℕ, ◌+◌, ◌-◌, ◌*◌, ◌≤◌, ◌<◌, min}
use mathlib.Core.List.{List, [], ◌∷◌, ◌++◌}
use mathlib.Core.Logic.{inl, inr}
use mathlib.Core.Path.{◌≡◌, refl, sym, ap, ap₂, subst, ◌∙◌}
use native.Mathlib.Omega.{arith}
use lib.Bits.{bit_xor, xor_self}
use lib.ListN.{length, get_or, take, drop, length-append}
use lib.Seq.{take-add, drop-drop, length-take-le}
use Rattle.crc.specs.Crc.{start, bit_step, bit_steps, byte_step, crc_from, crc_of}
use Rattle.crc.proofs.Bits.{xor_swap}
use Rattle.crc.proofs.Laws.{crc_append, bits_xor}
use Rattle.flash.specs.Flash.{start_of, range, spliced}
use Rattle.flash.proofs.Laws.{spliced-length, spliced_from, spliced_apart}
use Rattle.sums.specs.Sum.{blocks_of, whole_sum}
use Rattle.sums.specs.declared.Sums.{Sums}
use Rattle.session.specs.Session.{app_end, stream_length, up_of}
use Rattle.session.specs.declared.Board.{Board}
use Rattle.session.specs.declared.Phase.{Phase}
use Rattle.session.specs.declared.Upload.{Upload}
use Rattle.session.specs.declared.Session.{Session}
use Rattle.session.proofs.Laws.{facts_fit}
use Rattle.request.specs.Request.{setup_of, data_asked}
use Rattle.request.specs.declared.Request.{Request}
use Rattle.answers.specs.Moves.{stall_of}
use Rattle.loader.specs.Step.{start_outcome, step_of}
use Rattle.demands.specs.Calls.{Step, Call, Site, begun, called, after_call, after_calls}
use Rattle.demands.specs.Safe.Fit.{AllowedStart}
use Rattle.demands.specs.Asked.{state_of, Asks, Form}
use Rattle.demands.specs.Commanded.{Commanded, Legal}
use Rattle.demands.specs.Asked.Form.{dnload, upload, getstate, query}
use Rattle.demands.specs.Does.Rows.{StartsAt, RowsAt}
use Rattle.demands.specs.Does.Starts.{Fresh}
use Rattle.demands.specs.Does.Commands.{EraseAt, EraseDone, ProgramAt, BytesDone}
use Rattle.demands.specs.Kept.History.{Held, History}
use Rattle.demands.specs.Exact.Impostors.{stalls_all, single_reply, does_nothing, does_nothing_at, says_taken, all_at_first, all_at_close}
use Rattle.demands.specs.Exact.Impostors.{invents_count, constant_sums, constant_start, Led, Impostors}
use Rattle.demands.proofs.Ground.Prepared.{prepared_from}
use Rattle.demands.proofs.Ground.SmallBoard.{small_board, small_flash, small_long, lent, roomy}
use Rattle.demands.proofs.Ground.Bytes.{blank_byte, spliced_byte}
use Rattle.demands.proofs.Safe.Outside.{outside_holds}
use Rattle.demands.proofs.Does.Rows.{Rows_hold}
use Rattle.demands.proofs.Does.Works.{EraseWorks_holds, ProgramWorks_holds}
use Rattle.demands.proofs.Does.Starts.{Starts_hold}
use Rattle.demands.proofs.Does.Examples.{setups, so, brings, on_one}
use Rattle.demands.proofs.Kept.History.{history_holds, held_begun}

-- the calls at which they fail: the state, the query, ERASE of both blocks, PROG of all of them that brings the first byte, and an
-- UPLOAD of a full answer
abbrev state_call : Call
state_call = lent (setups 0xA1 5 0 1 0) []

abbrev query_call : Call
query_call = lent (setups 0xA1 0x42 0x23 4 0) []

abbrev erase_call : Call
erase_call = brings (on_one 4 2 0)

abbrev prog_call : Call
prog_call = brings (on_one 1 0 8 ++ (7 ∷ []))

abbrev upload_call : Call
upload_call = lent (setups 0xA1 2 0 0 4) []

-- where a start on a flash leads
abbrev fresh_site_lem : List ℕ → Site
fresh_site_lem f = begun start_outcome f 1 3 0 0

-- what can be asked for on a flash of three blocks
module _ (f : List ℕ) (sized : length f ≡ start_of 3) where
  -- wherever a history leads
  module _ (at : Site) (held : Held f small_board at) where
    asks :
        (r : Request) (n : ℕ) (setup bytes : List ℕ) → length setup ≡ 8 → length bytes ≡ data_asked setup → Form setup n r
        → Asks at (lent setup bytes) r n
    asks r n setup bytes eight brought form =
        let blocks = ap (λ (b : Board). start_of b.b.0) held.board_kept in
        record {
          prepared =
              prepared_from at (lent setup bytes) eight roomy (held.outside_kept.as_long ∙ sized ∙ sym blocks) brought
              (facts_fit at.session held.fit);
          form = form;
        }

    asks_upload : Asks at upload_call Request.Upload 1024
    unfolding data_asked setup_of
    asks_upload = asks Request.Upload 1024 _ _ refl refl (upload (so _ _ _ _ _) (omega arith) (omega arith))

  -- at the start
  may : AllowedStart f 1 3
  may = record { some_loader = omega arith; some_application = omega arith; few_blocks = omega arith; sized = sized }

  fresh : Fresh f 1 3 0 0 (start_outcome f 1 3 0 0)
  fresh = Starts_hold.taken f 1 3 0 0 may

  begins : Held f small_board (fresh_site_lem f)
  begins = held_begun f 1 3 0 0 may

  idle : state_of (fresh_site_lem f) ≡ 2
  unfolding begun
  idle = ap (λ (p : Phase). p.state.0) fresh.phase

  asks_state : Asks (fresh_site_lem f) state_call Request.GetState 1
  unfolding data_asked setup_of
  asks_state = asks (fresh_site_lem f) begins Request.GetState 1 _ _ refl refl (getstate (so _ _ _ _ _) refl)

  asks_query : Asks (fresh_site_lem f) query_call Request.Query 4
  unfolding data_asked setup_of
  asks_query = asks (fresh_site_lem f) begins Request.Query 4 _ _ refl refl (query (so _ _ _ _ _) refl refl)

  commanded :
      (bytes : List ℕ) (code : ℕ) → length bytes ≤ 1024 → 1 ≤ length bytes → get_or bytes 0 0 ≡ code
      → Commanded (fresh_site_lem f) (brings bytes) code (length bytes)
  unfolding data_asked setup_of
  commanded bytes code few some e =
      let long : length bytes + 0 * 256 ≡ length bytes = omega arith in
      record {
        asks =
            asks (fresh_site_lem f) begins Request.Dnload (length bytes) _ bytes refl (sym long)
            (dnload (rw long at (so 0x21 1 0 (length bytes) 0)) few);
        some = some;
        idle = idle;
        command = e;
      }

  -- blocks 1 and 2 are the application
  both_legal : Legal (fresh_site_lem f) 1 (start_of 2)
  unfolding app_end
  both_legal =
      let first = ap (λ (b : Board). b.a.0) begins.board_kept in
      let end = ap (λ (b : Board). b.b.0) begins.board_kept in
      record { some = omega arith; from = omega (arith, first); to = omega (arith, end) }

-- what a demand says at the start
here :
    (demand : Step → Site → Call → Type 0) (step : Step) → Led demand step → (f : List ℕ) → length f ≡ start_of 3 → (c : Call)
    → demand step (fresh_site_lem f) c
unfolding after_calls
here demand step h f sized c = h f sized [] c

-- GETSTATE is taken
stalls_not : Led RowsAt stalls_all → ⊥
unfolding called stall_of
stalls_not h =
    let rows = here RowsAt stalls_all h small_flash small_long in
    omega (arith, ((rows state_call).getstate (asks_state small_flash small_long)).answers.answer)

-- and answers one byte, the query four
replies_not : (bytes : List ℕ) → Led RowsAt (single_reply bytes) → ⊥
unfolding called single_reply
replies_not bytes h =
    let rows = here RowsAt (single_reply bytes) h small_flash small_long in
    let one : length bytes ≡ 1 = ((rows state_call).getstate (asks_state small_flash small_long)).answers.count in
    let four : length bytes ≡ 4 = ((rows query_call).query (asks_query small_flash small_long)).answers.count in
    omega arith

-- the flash with another last byte
last_flash : ℕ → List ℕ
last_flash x = spliced small_flash 3071 (x ∷ [])

last_fits : (x : ℕ) → 3071 + length (x ∷ []) ≤ length small_flash
last_fits x = omega (arith, small_long)

last_long : (x : ℕ) → length (last_flash x) ≡ start_of 3
unfolding last_flash
last_long x = spliced-length small_flash 3071 (x ∷ []) (last_fits x) ∙ small_long

-- ERASE clears a zero there
erases : (step : Step) → Led EraseAt step → EraseDone step (fresh_site_lem (last_flash 0)) erase_call 1 2
erases step h =
    let long = last_long 0 in
    here EraseAt step h (last_flash 0) long erase_call 1 2 (commanded (last_flash 0) long _ 4 (omega arith) (omega arith) refl)
    (record { block_is = refl; count_is = refl }) (both_legal (last_flash 0) long)

clears : (step : Step) → Led EraseAt step → (called step (fresh_site_lem (last_flash 0)) erase_call).flash ≡ last_flash 0 → ⊥
unfolding last_flash
clears step h kept =
    let zero_there : get_or (last_flash 0) 3071 0 ≡ 0 = spliced_byte small_flash 3071 (0 ∷ []) (last_fits 0) 0 (omega arith) in
    let cleared = (erases step h).flash.inside 2047 (omega arith) in
    omega (arith, sym zero_there ∙ sym (ap (λ (l : List ℕ). get_or l 3071 0) kept) ∙ cleared)

idles_at_erase : Led EraseAt does_nothing → ⊥
unfolding called begun does_nothing
idles_at_erase h = clears does_nothing h refl

erases_not : Led EraseAt (does_nothing_at 4) → ⊥
unfolding called begun does_nothing_at
erases_not h = clears (does_nothing_at 4) h refl

said_not : Led EraseAt says_taken → ⊥
unfolding called begun
said_not h = clears says_taken h refl

-- PROG over an erased flash stores its first byte
abbrev erased_site : Site
erased_site = fresh_site_lem small_flash

programs : (step : Step) → Led ProgramAt step → BytesDone step erased_site prog_call 1024 2048 (7 ∷ []) 0xFFFFFFFF
unfolding begun
programs step h =
    (here ProgramAt step h small_flash small_long prog_call).starts 1 2048 9
    (commanded small_flash small_long _ 1 (omega arith) (omega arith) refl) (omega arith) (record { block_is = refl; len_is = refl })
    (both_legal small_flash small_long) (omega arith) (λ i lt. blank_byte (start_of 3) (1024 + i) (omega arith))

stores : (step : Step) → Led ProgramAt step → (called step erased_site prog_call).flash ≡ small_flash → ⊥
stores step h kept =
    let there : get_or (called step erased_site prog_call).flash 1024 0 ≡ 7 = (programs step h).flash.inside 0 (omega arith) in
    omega (arith, sym (blank_byte (start_of 3) 1024 (omega arith)) ∙ sym (ap (λ (l : List ℕ). get_or l 1024 0) kept) ∙ there)

idles_at_prog : Led ProgramAt does_nothing → ⊥
unfolding called begun does_nothing
idles_at_prog h = stores does_nothing h refl

programs_not : Led ProgramAt (does_nothing_at 1) → ⊥
unfolding called begun does_nothing_at
programs_not h = stores (does_nothing_at 1) h refl

closes_not : (held : List ℕ) → Led ProgramAt (all_at_close held) → ⊥
unfolding called begun all_at_close
closes_not held h =
    let leads : (called step_of erased_site prog_call).session.phase.after.0 ≡ 5 =
    ap (λ (s : Session). s.phase.after.0) (programs (all_at_close held) h).session
    in
    stores (all_at_close held) h (rw leads)

-- a splice is there up to its end, also where it doesn't fit
spliced_reaches : (f : List ℕ) (at : ℕ) (d : List ℕ) → at ≤ length f → at + length d ≤ length (spliced f at d)
unfolding spliced
spliced_reaches f at d h =
    let front = length-take-le at f h in
    simp length-append (omega (arith, front))

-- and no other: an image at once makes the flash longer, or is there behind the first byte
module _
    (image : List ℕ) (i : ℕ) (behind : 1 ≤ i) (lt : i < length image) (other : get_or image i 0 ≡ 0xFF → ⊥)
    (h : Led ProgramAt (all_at_first image)) where
  abbrev ours : List ℕ
  ours = (called step_of erased_site prog_call).flash

  ours_long : length ours ≡ start_of 3
  unfolding after_call begun
  ours_long = (outside_holds erased_site prog_call).as_long ∙ small_long

  stored : (called (all_at_first image) erased_site prog_call).flash ≡ spliced ours 1024 image
  unfolding called all_at_first
  stored =
      let leads : (called step_of erased_site prog_call).session.phase.after.0 ≡ 5 =
      ap (λ (s : Session). s.phase.after.0) (programs (all_at_first image) h).session
      in
      rw (idle small_flash small_long, leads)

  first_not : ⊥
  unfolding begun
  first_not =
      let w = (programs (all_at_first image) h).flash in
      let reaches = spliced_reaches ours 1024 image (omega (arith, ours_long)) in
      let long : length (spliced ours 1024 image) ≡ start_of 3 = ap length (sym stored) ∙ w.as_long ∙ small_long in
      let there = spliced_byte ours 1024 image (omega (arith, ours_long)) i lt in
      let kept = w.outside (1024 + i) (inr (omega arith)) ∙ blank_byte (start_of 3) (1024 + i) (omega arith) in
      other (sym there ∙ ap (λ (l : List ℕ). get_or l (1024 + i) 0) (sym stored) ∙ kept)

-- where the next answer of an upload over both blocks starts
abbrev Uploading : Site → ℕ → Type 0
Uploading at place = (at.session.up ≡ up_of 0 1 1 2048 place) × StartsAt at place

-- one that is wrong in the count alone stands where ours does
module _ (invented : ℕ → ℕ) where
  abbrev site : List Call → Site
  site calls = after_calls (invents_count invented) erased_site calls

  same_way : (at : Site) (calls : List Call) → after_calls (invents_count invented) at calls ≡ after_calls step_of at calls
  unfolding after_calls after_call called invents_count
  same_way at [] = refl
  same_way at (c ∷ cs) = same_way (after_call step_of at c) cs

  asks_there : (calls : List Call) → Asks (site calls) upload_call Request.Upload 1024
  asks_there calls =
      asks_upload small_flash small_long (site calls)
      (subst (Held small_flash small_board) (sym (same_way erased_site calls))
      (history_holds small_flash 1 3 0 0 (may small_flash small_long) calls))

  -- and of 2,056 bytes three full answers have 1,024, 1,024 and 8
  module _ (h : Led RowsAt (invents_count invented)) where
    module _ (calls : List Call) (place : ℕ) (now : Uploading (site calls) place) where
      rows : RowsAt (invents_count invented) (site calls) upload_call
      rows = h small_flash small_long calls upload_call

      counts : invented 1024 ≡ min 1024 (2056 - place)
      unfolding called invents_count stream_length
      counts =
          rows.upload-count 1024 place (asks_there calls) now.1
          ∙ ap (λ (u : Upload). min 1024 (stream_length u - place)) now.0

      further : Uploading (after_call (invents_count invented) (site calls) upload_call) (place + min 1024 (2056 - place))
      unfolding after_call stream_length
      further =
          let done = rows.upload_goes_on 1024 place (asks_there calls) now.1 (omega arith) in
          let up =
          ap (λ (s : Session). s.up) done.session
          ∙ ap (λ (u : Upload). up_of u.choice u.«prefix» u.first.0 u.len (place + min 1024 (stream_length u - place))) now.0
          in
          (up, inr (ap (λ (s : Session). s.phase.state.0) done.session, sym (ap (λ (u : Upload). u.place) up)))

    at_first : Uploading (site []) 0
    unfolding after_calls begun app_end
    at_first = ((fresh small_flash small_long).up, inl (idle small_flash small_long, refl))

    at_second : Uploading (site (upload_call ∷ [])) 1024
    unfolding after_calls
    at_second = further [] 0 at_first

    at_third : Uploading (site (upload_call ∷ upload_call ∷ [])) 2048
    unfolding after_calls
    at_third = further (upload_call ∷ []) 1024 at_second

    invents_not : ⊥
    invents_not = omega (arith, counts [] 0 at_first, counts (upload_call ∷ upload_call ∷ []) 2048 at_third)

-- the last byte of the application tells in the sum of the whole: 0 and 255 make two sums
last_tells : (c : ℕ) → byte_step c 0 ≡ byte_step c 255 → ⊥
unfolding byte_step bit_steps bit_step
last_tells c e =
    let joint : bit_steps 8 (bit_xor (bit_xor c 0) (bit_xor c 255)) ≡ bit_xor (byte_step c 0) (byte_step c 255) =
    bits_xor 8 (bit_xor c 0) (bit_xor c 255)
    in
    let same : bit_xor (byte_step c 0) (byte_step c 255) ≡ 0 =
    ap (λ (x : ℕ). bit_xor x (byte_step c 255)) e ∙ xor_self (byte_step c 255)
    in
    let apart : bit_xor (bit_xor c 0) (bit_xor c 255) ≡ 255 =
    xor_swap c 0 c 255 ∙ ap (λ (x : ℕ). bit_xor x 255) (xor_self c)
    in
    let some : bit_steps 8 255 ≡ 0 = sym (ap (bit_steps 8) apart) ∙ joint ∙ same in
    omega (arith, some)

-- the sum of all before the last byte
abbrev front_sum : ℕ
front_sum = crc_of (range small_flash 1024 2047)

last_sum : (x : ℕ) → whole_sum (last_flash x) 1 3 ≡ byte_step front_sum x
unfolding whole_sum blocks_of range crc_of crc_from last_flash
last_sum x =
    let f = small_flash in
    let g = spliced f 3071 (x ∷ []) in
    let front : take 2047 (drop 1024 g) ≡ take 2047 (drop 1024 f) =
    spliced_apart f 3071 (x ∷ []) (last_fits x) 1024 2047 (inl (omega arith))
    in
    let back : take 1 (drop 2047 (drop 1024 g)) ≡ x ∷ [] =
    ap (take 1) (drop-drop 2047 1024 g ∙ spliced_from f 3071 (x ∷ []) (last_fits x))
    in
    ap (crc_from start) (take-add 2047 1 (drop 1024 g) ∙ ap₂ ◌++◌ front back)
    ∙ crc_append start (take 2047 (drop 1024 f)) (x ∷ [])

-- so no sums are right for every last byte
constant_not : (sums : Sums) → ((x : ℕ) → sums.whole ≡ whole_sum (last_flash x) 1 3) → ⊥
constant_not sums each = last_tells front_sum (sym (each 0 ∙ last_sum 0) ∙ (each 255 ∙ last_sum 255))

-- not after a call that leaves the flash
sums_not : (sums : Sums) → History start_outcome (constant_sums sums) → ⊥
unfolding after_calls after_call called begun app_end constant_sums
sums_not sums h =
    constant_not sums λ x.
    let f = last_flash x in
    (h f 1 3 0 0 (may f (last_long x)) (state_call ∷ [])).sums_right.whole
    ∙ ap (λ (g : List ℕ). whole_sum g 1 3)
    ((Rows_hold (fresh_site_lem f) state_call).getstate (asks_state f (last_long x))).flash

-- nor after none
starts_not : (sums : Sums) → History (constant_start sums) step_of → ⊥
unfolding after_calls begun app_end constant_start
starts_not sums h = constant_not sums λ x. (h (last_flash x) 1 3 0 0 (may (last_flash x) (last_long x)) []).sums_right.whole

pub Impostors_fail : Impostors
Impostors_fail =
    record {
      stalls_everything = stalls_not;
      single_reply_lem = replies_not;
      nothing-done_at_erase = idles_at_erase;
      nothing-done_at_prog = idles_at_prog;
      nothing-erased = erases_not;
      nothing_programmed = programs_not;
      nothing_but_said = said_not;
      all_at_first_lem = first_not;
      all_at_close_lem = closes_not;
      invented_count = invents_not;
      constant_sums_lem = sums_not;
      constant_start_lem = starts_not;
    }

-- what is asked of them our loader does
pub ours_does : Led RowsAt step_of × Led EraseAt step_of × Led ProgramAt step_of × History start_outcome step_of
ours_does = (
  λ f sized calls c. Rows_hold _ c,
  λ f sized calls c. EraseWorks_holds _ c,
  λ f sized calls c. ProgramWorks_holds _ c,
  history_holds,
)

-- an image that has another byte than 0xFF behind its first
abbrev two_bytes : List ℕ
two_bytes = 7 ∷ 8 ∷ []

pub all_at_first_met : (1 ≤ 1) × (1 < length two_bytes) × (get_or two_bytes 1 0 ≡ 0xFF → ⊥)
all_at_first_met = (omega arith, omega arith, λ e. omega (arith, e))
