-- A legal erase and a legal program are taken, and the flash is the named one to the byte. Assumes nothing.
use Prim.Native.Nat.{ℕ, ◌+◌, ◌-◌, ◌≤◌}
use mathlib.Core.List.{List, []}
use mathlib.Core.Logic.{inl, inr}
use mathlib.Core.Path.{◌≡◌, refl, ap, ◌∙◌, sym}
use native.Mathlib.Omega.{arith}
use lib.ListN.{length, get_or, drop, length-drop}
use borrow.Author.Tests.{ne_eqb, le-leb}
use Rattle.flash.specs.Flash.{start_of, spliced, erased}
use Rattle.flash.proofs.Laws.{spliced-length, spliced_other}
use Rattle.sums.specs.Sum.{refreshed}
use Rattle.sums.specs.declared.Sums.{Sums}
use Rattle.session.specs.Codes.{idle, download_idle}
use Rattle.session.specs.Session.{app_end, phase_of, down_of, no_download, with_unerased, with_sums}
use Rattle.session.specs.declared.Session.{Session}
use Rattle.session.proofs.Laws.{end_in_flash}
use Rattle.request.specs.declared.Request.{Request}
use Rattle.answers.specs.declared.Answer.{Answer}
use Rattle.answers.specs.Answers.{leaves}
use Rattle.answers.specs.Moves.{moved_to, rewound, to_sync, taken_of}
use Rattle.jobs.specs.Job.{sums_after, job_done, sums_wiped}
use Rattle.command.specs.Download.{prog_of, erase_of, by_number, piece_of}
use Rattle.loader.specs.Step.{with_reply, step_of, settled}
use Rattle.demands.specs.Calls.{Call, Site, called}
use Rattle.demands.specs.Asked.{Prepared, Asks}
use Rattle.demands.specs.Commanded.{Commanded, Named, Counted, Legal, Blank}
use Rattle.demands.specs.Does.Rows.{gone_to}
use Rattle.session.specs.declared.Upload.{Upload}
use Rattle.demands.specs.Does.Commands.{EraseDone, EraseWorks, BytesDone, ProgramWorks}
use Rattle.demands.proofs.Ground.Bytes.{spliced_byte, erased-length, erased_byte_lem, erased_other, bytes_erased}
use Rattle.demands.proofs.Ground.Unerased.{none_found}
use Rattle.demands.proofs.Does.Forms.{asks_brings}
use Rattle.demands.proofs.Does.Outcomes.{so_answers, so_session, so_flash, at_start}
use Rattle.demands.proofs.Does.Downloads.{legal_in, command_leaves, piece_leaves, legal_near}
use Rattle.demands.proofs.Ground.Finished.{stored_of, bytes_finished}

-- a session that is some other one but for the sums, where the upload is at its start
but_sums :
    (h t : Session) (of : Upload → Session) (u v : Upload) → h ≡ with_sums (of u) t.sums → u ≡ v
    → h ≡ with_sums (of v) h.sums
but_sums h t of u v e same =
    e ∙ ap (λ (x : Upload). with_sums (of x) t.sums) same ∙ ap (λ (s : Session). with_sums (of v) s.sums) (sym e)

-- a legal range lies in flash
pub legal_fits : (at : Site) (c : Call) (block len : ℕ) → Prepared at c → Legal at block len → start_of block + len ≤ length at.flash
legal_fits at c block len k l = omega (arith, l.to, end_in_flash at.session.board, k.flash_length)

module _
    (at : Site) (c : Call) (block count : ℕ) (k : Commanded at c 4 8) (range : Counted c block count)
    (legal : Legal at block (start_of count)) where
  erase_sums : Sums
  erase_sums =
      refreshed at.session.sums (erased at.flash block count) at.session.board.a.0 (app_end at.session.board) block
      (block + count)

  erase-leaves :
      called step_of at c
      ≡ leaves (taken_of (to_sync (with_sums at.session erase_sums) idle no_download)) (erased at.flash block count) c.reply
  unfolding by_number erase_of erase_sums settled job_done sums_wiped moved_to
  erase-leaves =
      command_leaves at c 4 8 k (omega arith) (omega arith) (omega arith) (inr refl)
      ∙ rw (range.block_is, range.count_is, legal_in at block (start_of count) (legal_near at c k.asks.prepared) legal)

  erase-done : EraseDone step_of at c block count
  unfolding moved_to
  erase-done =
      let f = at.flash in
      let t = to_sync (with_sums at.session erase_sums) idle no_download in
      let g = erased f block count in
      let fits = legal_fits at c block (start_of count) k.asks.prepared legal in
      let session = so_session at c Answer.Taken [] t g erase-leaves in
      let flash = so_flash at c Answer.Taken [] t g erase-leaves in
      record {
        answers = so_answers at c Answer.Taken [] t g erase-leaves;
        session =
            but_sums _ t (gone_to at.session (phase_of 3 0 2) (down_of 0 0)) (rewound at.session.up) at.session.up session
            (at_start at c k.asks.prepared (λ e. omega (arith, e, k.idle)));
        flash =
            record {
              as_long = ap length flash ∙ erased-length f block count fits;
              inside =
                  λ i lt.
                  ap (λ (l : List ℕ). get_or l (start_of block + i) 0) flash
                  ∙ erased_byte_lem f block count fits (start_of block + i) (omega arith) (omega arith);
              outside = λ j o. ap (λ (l : List ℕ). get_or l j 0) flash ∙ erased_other f block count fits j o;
            };
      }

pub EraseWorks_holds : EraseWorks step_of
EraseWorks_holds = erase-done

-- what a write leaves, where the bytes lie in flash
module _
    (at : Site) (c : Call) (place len : ℕ) (bytes : List ℕ) (unerased : ℕ) (k : Prepared at c)
    (ne : at.session.phase.state.0 ≡ 9 → ⊥) (fits : place + length bytes ≤ length at.flash) where
  written : Session
  written =
      to_sync
      (with_sums (with_unerased at.session unerased)
      (sums_after at.session.board at.session.sums (spliced at.flash place bytes) place (length bytes)))
      download_idle
      (down_of (place + length bytes) (len - length bytes))

  write_done :
      called step_of at c
      ≡ with_reply (stored_of (with_unerased at.session unerased) at.flash place bytes (len - length bytes)) c.reply
      → BytesDone step_of at c place len bytes unerased
  unfolding stored_of written moved_to
  write_done e =
      let g = spliced at.flash place bytes in
      let session = so_session at c Answer.Taken [] written g e in
      let flash = so_flash at c Answer.Taken [] written g e in
      record {
        answers = so_answers at c Answer.Taken [] written g e;
        session =
            but_sums _ written
            (gone_to (with_unerased at.session unerased) (phase_of 3 0 5) (down_of (place + length bytes) (len - length bytes)))
            (rewound at.session.up) at.session.up session (at_start at c k ne);
        flash =
            record {
              as_long = ap length flash ∙ spliced-length at.flash place bytes fits;
              inside = λ i lt. ap (λ (l : List ℕ). get_or l (place + i) 0) flash ∙ spliced_byte at.flash place bytes fits i lt;
              outside = λ j o. ap (λ (l : List ℕ). get_or l j 0) flash ∙ spliced_other at.flash place bytes fits j o;
            };
      }

module _
    (at : Site) (c : Call) (block len n : ℕ) (k : Commanded at c 1 n) (long : 8 ≤ n) (range : Named c block len)
    (legal : Legal at block len) (few : n ≤ 8 + len) (blank : Blank at block len) where
  first_few : length (drop 8 c.bytes) ≤ len
  first_few = omega (arith, length-drop 8 c.bytes, asks_brings at c n k.asks)

  prog-done : BytesDone step_of at c (start_of block) len (drop 8 c.bytes) 0xFFFFFFFF
  unfolding by_number prog_of
  prog-done =
      let fits = legal_fits at c block len k.asks.prepared legal in
      let long_data = length-drop 8 c.bytes in
      let all = bytes_erased at.flash block len fits blank in
      let t = with_unerased at.session 0xFFFFFFFF in
      write_done at c (start_of block) len (drop 8 c.bytes) 0xFFFFFFFF k.asks.prepared (λ e. omega (arith, e, k.idle))
      (omega (arith, first_few, fits))
      (command_leaves at c 1 n k long (omega arith) (omega arith) (inl refl)
      ∙ rw (
        range.block_is,
        range.len_is,
        legal_in at block len (legal_near at c k.asks.prepared) legal,
        le-leb (length c.bytes - 8) len (omega (arith, first_few, long_data)),
        all,
        none_found at block len all,
      )
      (bytes_finished t at.flash c.bytes c.reply (start_of block) 8 (length c.bytes - 8)
      (len - (length c.bytes - 8)) (sym long_data)
      ∙ ap (λ (m : ℕ). with_reply (stored_of t at.flash (start_of block) (drop 8 c.bytes) (len - m)) c.reply)
      (sym long_data)))

module _
    (at : Site) (c : Call) (n : ℕ) (k : Asks at c Request.Dnload n) (loading : at.session.phase.state.0 ≡ 5) (some : 1 ≤ n)
    (few : n ≤ at.session.down.left) where
  pub written_leaves :
      called step_of at c
      ≡ with_reply
      (stored_of at.session at.flash at.session.down.place.0 c.bytes (at.session.down.left - length c.bytes))
      c.reply
  unfolding piece_of
  written_leaves =
      let is = asks_brings at c n k in
      piece_leaves at c n k loading
      ∙ rw (
        ne_eqb (length c.bytes) 0 (λ e. omega (arith, e, some, is)),
        le-leb (length c.bytes) at.session.down.left (omega (arith, few, is)),
      )
      (bytes_finished at.session at.flash c.bytes c.reply at.session.down.place.0 0 (length c.bytes)
      (at.session.down.left - length c.bytes) refl)

  -- a running download lies in flash
  piece_fits : at.session.down.place.0 + length c.bytes ≤ length at.flash
  piece_fits =
      let s = at.session in
      let fits = k.prepared.rules.left_to (inl loading) in
      omega (arith, fits, end_in_flash s.board, few, asks_brings at c n k, k.prepared.flash_length)

  piece_done : BytesDone step_of at c at.session.down.place.0 at.session.down.left c.bytes at.session.unerased
  piece_done =
      write_done at c at.session.down.place.0 at.session.down.left c.bytes at.session.unerased k.prepared
      (λ e. omega (arith, e, loading))
      piece_fits
      written_leaves

pub ProgramWorks_holds : ProgramWorks step_of
ProgramWorks_holds at c = record { starts = prog-done at c; goes_on = piece_done at c }
