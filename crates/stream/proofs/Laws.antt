-- Laws of the streams: which one is chosen, how long it is, what its header says, and the desk examples.
-- Assumes nothing.
use Prim.Native.Nat.{ℕ, ◌+◌, ◌-◌, ◌^◌, ◌≤◌, ◌<◌, min}
use mathlib.Core.Path.{◌≡◌, refl, ap, ap₂, ◌∙◌}
use mathlib.Core.Bool.{Bool, true, false, cond}
use mathlib.Core.List.{List, [], ◌∷◌, ◌++◌}
use native.Mathlib.Omega.{arith}
use lib.Dec.{eqb}
use lib.ListN.{length, get_or, length-append}
use borrow.Author.Tests.{ne_eqb}
use Rattle.numbers.specs.Numbers.{word_at, long_at, bytes2, bytes4}
use Rattle.numbers.proofs.Laws.{word_back, long_back}
use Rattle.flash.specs.Flash.{start_of, range, Within}
use Rattle.flash.proofs.Laws.{length-range}
use Rattle.sums.specs.Sum.{most_blocks}
use Rattle.session.specs.declared.Board.{Board}
use Rattle.session.specs.declared.Upload.{Upload}
use Rattle.session.specs.declared.Session.{Session}
use Rattle.session.specs.Session.{board_of, app_end, up_of, flash_stream, info_bytes, info_length, prefix_length, stream_length, fresh_talk}
use Rattle.session.specs.Fit.{Fit}
use Rattle.session.proofs.Laws.{end_in_flash}
use Rattle.request.specs.Commands.{prog}
use Rattle.stream.specs.Stream.{header_of, prefix_of, info_stream, stream_of, next_of, Sendable}
use Rattle.stream.proofs.Giving.{part_length}

-- the prefix, on and off
pub prefix_on : (up : Upload) → up.«prefix» ≡ 1 → prefix_of up ≡ header_of up
unfolding prefix_of
prefix_on up h = rw h

pub prefix_off : (up : Upload) → (up.«prefix» ≡ 1 → ⊥) → prefix_of up ≡ []
unfolding prefix_of
prefix_off up n = rw (ne_eqb _ _ n)

-- the stream, and how many bytes it is said to have
module _ (board : Board) (unerased : ℕ) (up : Upload) (flash : List ℕ) where
  pub info_chosen : up.choice ≡ info_bytes → stream_of board unerased up flash ≡ info_stream board unerased
  unfolding stream_of
  info_chosen h = rw h

  pub flash_chosen :
      (up.choice ≡ info_bytes → ⊥)
      → stream_of board unerased up flash ≡ prefix_of up ++ range flash (start_of up.first.0) up.len
  unfolding stream_of
  flash_chosen n = rw (ne_eqb _ _ n)

pub flash_chosen_length : (up : Upload) → (up.choice ≡ info_bytes → ⊥) → stream_length up ≡ prefix_length up + up.len
unfolding stream_length
flash_chosen_length up n = rw (ne_eqb _ _ n)

-- the bytes are as many as they are said to be
pub header_length : (up : Upload) → length (header_of up) ≡ 8
unfolding header_of
header_length up = refl

pub info_stream-length : (board : Board) (unerased : ℕ) → length (info_stream board unerased) ≡ info_length
unfolding info_stream
info_stream-length board unerased = refl

picked_length : (t : Bool) (x y : List ℕ) → length (cond t x y) ≡ cond t (length x) (length y)
picked_length true x y = refl
picked_length false x y = refl

pub prefix_length_lem : (up : Upload) → length (prefix_of up) ≡ prefix_length up
unfolding prefix_of
prefix_length_lem up = picked_length (eqb up.«prefix» 1) (header_of up) [] ∙ rw header_length

-- the header, or nothing, and the range are together as many
pub parts_sum :
    (up : Upload) (flash head body : List ℕ) → start_of up.first.0 + up.len ≤ length flash
    → head ≡ prefix_of up → body ≡ range flash (start_of up.first.0) up.len
    → length head + length body ≡ prefix_length up + up.len
parts_sum up flash head body h e f =
    ap₂ ◌+◌ (ap length e ∙ prefix_length_lem up) (ap length f ∙ length-range flash (start_of up.first.0) up.len h)

module _
    (board : Board) (unerased : ℕ) (up : Upload) (flash : List ℕ)
    (inside : start_of up.first.0 + up.len ≤ length flash) where
  pub stream_length_lem : length (stream_of board unerased up flash) ≡ stream_length up
  unfolding stream_of stream_length
  stream_length_lem =
      picked_length (eqb up.choice info_bytes) (info_stream board unerased) _
      ∙ ap₂ (cond (eqb up.choice info_bytes)) (info_stream-length board unerased)
      (length-append (prefix_of up) _ ∙ parts_sum up flash _ _ inside refl refl)

  -- each answer is as many as were asked for, or all that are left
  pub next_length :
      (place asked : ℕ) → length (next_of board unerased up flash place asked) ≡ min asked (stream_length up - place)
  unfolding next_of
  next_length place asked =
      part_length (stream_of board unerased up flash) place asked ∙ ap (λ (n : ℕ). min asked (n - place)) stream_length_lem

-- what the header says, read back as a command
module _ (up : Upload) where
  pub header_command : get_or (header_of up) 0 0 ≡ prog
  unfolding header_of
  header_command = refl

  pub header_ignored : get_or (header_of up) 1 0 ≡ 0
  unfolding header_of
  header_ignored = refl

  pub header_block : up.first.0 < 2 ^ 16 → word_at (header_of up) 2 ≡ up.first.0
  unfolding header_of
  header_block h = word_back (prog ∷ 0 ∷ []) (bytes4 up.len) up.first.0 h

  pub header_len : up.len < 2 ^ 32 → long_at (header_of up) 4 ≡ up.len
  unfolding header_of
  header_len h = long_back ((prog ∷ 0 ∷ []) ++ bytes2 up.first.0) [] up.len h

-- what can be sent lies in flash, at 32-bit addresses
module _ {board : Board} {up : Upload} {flash : List ℕ} {place asked room : ℕ} (s : Sendable board up flash place asked room) where
  pub end_near : start_of (app_end board) ≤ start_of most_blocks
  end_near = omega (arith, s.few_blocks, end_in_flash board)

  pub range_within : Within flash (start_of up.first.0) up.len
  range_within = let e = end_near in record { inside = omega arith; addressed = omega arith }

-- a fit session's stream can be sent from any place in it, where the flash has B blocks
pub fit_sendable :
    (s : Session) (flash : List ℕ) (place asked room : ℕ) → Fit s → length flash ≡ start_of s.board.b.0
    → place ≤ stream_length s.up → asked ≤ room → Sendable s.board s.up flash place asked room
fit_sendable s flash place asked room f e h k =
    record {
      few_blocks = f.few_blocks;
      range_from = f.range_from;
      range_to = f.range_to;
      in_flash = omega (arith, e, end_in_flash s.board);
      in_stream = h;
      in_room = k;
    }

-- desk example 13: the prefix of block 16, length 2,000, and the lengths of the two answers
pub prefix_example :
    prefix_of (up_of flash_stream 1 16 2000 0) ≡ 0x01 ∷ 0x00 ∷ 0x10 ∷ 0x00 ∷ 0xD0 ∷ 0x07 ∷ 0x00 ∷ 0x00 ∷ []
unfolding prefix_of header_of
prefix_example = refl

pub answers_example :
    (board : Board) (unerased : ℕ) (flash : List ℕ) → start_of 16 + 2000 ≤ length flash
    → (length (next_of board unerased (up_of flash_stream 1 16 2000 0) flash 0 1024) ≡ 1024)
    × (length (next_of board unerased (up_of flash_stream 1 16 2000 0) flash 1024 1024) ≡ 984)
unfolding stream_length
answers_example board unerased flash h =
    let up = up_of flash_stream 1 16 2000 0 in
    (next_length board unerased up flash h 0 1024, next_length board unerased up flash h 1024 1024)

-- desk example 14: the info bytes of a fresh session with A = 16, B = 64, part numbers zero
pub info_example :
    info_stream (board_of 16 64 0 0) (fresh_talk (board_of 16 64 0 0)).unerased
    ≡ 0x00 ∷ 0x04 ∷ 0x40 ∷ 0x00
    ∷ 0x00 ∷ 0x00 ∷ 0x00 ∷ 0x00 ∷ 0x00 ∷ 0x00 ∷ 0x00 ∷ 0x00
    ∷ 0x00 ∷ 0x00 ∷ 0x01 ∷ 0x00 ∷ 0x00 ∷ 0x40 ∷ 0x00 ∷ 0x00
    ∷ 0xFF ∷ 0xFF ∷ 0xFF ∷ 0xFF ∷ []
unfolding info_stream app_end
info_example = refl
