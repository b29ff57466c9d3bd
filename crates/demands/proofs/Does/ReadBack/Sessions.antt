-- The sessions that reading back goes through: that of the start with a range that lies in its application, the prefix on, and each of
-- the run's states with its download, its upload's place and its sums. Each is fit. Assumes nothing.
use Prim.Native.Nat.{ℕ, ◌+◌, ◌≤◌}
use mathlib.Core.Bool.{true, ◌||◌}
use mathlib.Core.List.{List, ◌++◌}
use mathlib.Core.Path.{◌≡◌, refl, ap₂, ◌∙◌}
use native.Mathlib.Omega.{arith}
use borrow.Author.Tests.{le-leb}
use lib.Dec.{eqb}
use lib.ListN.{length, length-append}
use Rattle.flash.specs.Flash.{start_of, range, lies_in}
use Rattle.flash.proofs.Laws.{length-range}
use Rattle.flash.proofs.Reaching.{facts_lie}
use Rattle.sums.specs.declared.Sums.{Sums}
use Rattle.session.specs.Codes.{idle, download_sync, download_idle, upload_idle, ok}
use Rattle.session.specs.Session.{phase_of, down_of, no_download, up_of, app_end, flash_stream, stream_length}
use Rattle.session.specs.Session.{with_phase, with_down, with_up, with_sums}
use Rattle.session.specs.Rules.{state_rule, status_rule, download_rule, after_rule, place_rule, split_rule, in_application, fit_of}
use Rattle.session.specs.declared.Board.{Board}
use Rattle.session.specs.declared.Phase.{Phase}
use Rattle.session.specs.declared.Download.{Download}
use Rattle.session.specs.declared.Session.{Session}
use Rattle.session.proofs.Laws.{kept_fit, split_facts, end_in_flash}
use Rattle.stream.specs.Stream.{header_of, prefix_of, stream_of}
use Rattle.stream.proofs.Laws.{header_length}

-- a session with the range chosen, in a state, with a download, a place in the stream and its sums
abbrev pub in_state_lem : Session → ℕ → ℕ → Phase → Download → ℕ → Sums → Session
in_state_lem base block len phase down place sums =
    with_sums (with_up (with_down (with_phase base phase) down) (up_of flash_stream 1 block len place)) sums

module _ (board : Board) (block len : ℕ) where
  -- the header of the range and the range
  abbrev pub image : List ℕ → List ℕ
  image f = header_of (up_of flash_stream 1 block len 0) ++ range f (start_of block) len

  pub image_streamed :
      (unerased : ℕ) (f : List ℕ) (place : ℕ) → stream_of board unerased (up_of flash_stream 1 block len place) f ≡ image f
  unfolding stream_of prefix_of header_of
  image_streamed unerased f place = refl

  pub image_length : (f : List ℕ) → start_of block + len ≤ length f → length (image f) ≡ 8 + len
  image_length f h =
      let up = up_of flash_stream 1 block len 0 in
      length-append (header_of up) (range f (start_of block) len)
      ∙ ap₂ ◌+◌ (header_length up) (length-range f (start_of block) len h)

-- the states of the run
abbrev pub at_idle : Phase
at_idle = phase_of idle ok idle

abbrev pub at_command : Phase
at_command = phase_of download_sync ok idle

abbrev pub at_upload : Phase
at_upload = phase_of upload_idle ok idle

abbrev pub at_piece : Phase
at_piece = phase_of download_sync ok download_idle

abbrev pub at_download : Phase
at_download = phase_of download_idle ok idle

module _
    (base : Session) (block len : ℕ) (split : split_rule base.board ≡ true) (legal : in_application base.board block len ≡ true)
    (sums : Sums) where
  -- the rules that the board, the range and the flags don't settle
  state_fit : (phase : Phase) (down : Download) (place : ℕ)
      → state_rule phase ≡ true
      → status_rule phase ≡ true
      → download_rule phase down ≡ true
      → (eqb phase.state.0 upload_idle || eqb place 0) ≡ true
      → place ≤ 8 + len
      → after_rule phase ≡ true
      → place_rule base.board phase down ≡ true
      → fit_of (in_state_lem base block len phase down place sums) ≡ true
  unfolding stream_length
  state_fit phase down place state status download where_upload upload after at =
      kept_fit (in_state_lem base block len phase down place sums)
      (record {
        split = split;
        state = state;
        status = status;
        download = download;
        upload = rw (where_upload, le-leb place (8 + len) upload);
        after = after;
        range = legal;
        place = at;
        flags = refl;
      })

  pub idle_fit : fit_of (in_state_lem base block len at_idle no_download 0 sums) ≡ true
  idle_fit = state_fit at_idle no_download 0 refl refl refl refl (omega arith) refl refl

  pub command_fit : fit_of (in_state_lem base block len at_command no_download 0 sums) ≡ true
  command_fit = state_fit at_command no_download 0 refl refl refl refl (omega arith) refl refl

  pub upload_fit : (place : ℕ) → place ≤ 8 + len → fit_of (in_state_lem base block len at_upload no_download place sums) ≡ true
  upload_fit place h = state_fit at_upload no_download place refl refl refl refl h refl refl

  module _ (at left : ℕ) (from : start_of base.board.a.0 ≤ at) (to : at + left ≤ start_of (app_end base.board)) where
    placed : lies_in at left base.board.a.0 (app_end base.board) ≡ true
    placed =
        let few = split_facts base.board split in
        let ends = end_in_flash base.board in
        facts_lie at left base.board.a.0 (app_end base.board) from to (omega arith)

    pub piece_fit : fit_of (in_state_lem base block len at_piece (down_of at left) 0 sums) ≡ true
    piece_fit = state_fit at_piece (down_of at left) 0 refl refl refl refl (omega arith) refl placed

    pub download_fit : fit_of (in_state_lem base block len at_download (down_of at left) 0 sums) ≡ true
    download_fit = state_fit at_download (down_of at left) 0 refl refl refl refl (omega arith) refl placed
