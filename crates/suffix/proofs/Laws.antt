-- The laws of writing: what is laid into the buffer, and whether there is room for it. Assumes nothing.
use mathlib.Core.List.{List, ◌++◌}
use mathlib.Core.Path.{◌≡◌, ap, ap₂, ◌∙◌}
use Prim.Native.Nat.{ℕ, ◌≤◌, ◌<◌}
use native.Mathlib.Omega.{arith}
use lib.ListN.{length, drop, length-append}
use borrow.Author.Tests.{lt-ltb, le-ltb}
use Rattle.pieces.specs.Pieces.{Laid}
use Rattle.pieces.proofs.Laws.{laid_more, laid_front}
use Rattle.crc.proofs.Laws.{crc_of-append}
use Rattle.suffix.specs.declared.Parts.{Parts}
use Rattle.std.specs.Prelude.{Ok}
use Rattle.suffix.specs.Suffix.{front_size, front_of, sum_bytes, suffixed, size_with, laid, unwritten, left, write_of}

-- the file, the front and the sum, one behind the other
pub laid_by :
    (file : List ℕ) (p : Parts) (front sum b b1 b2 b3 : List ℕ) (n1 n2 n3 : ℕ) → front ≡ front_of p → sum ≡ sum_bytes (file ++ front)
    → Laid b b1 0 n1 file → Laid b1 b2 n1 n2 front → Laid b2 b3 n2 n3 sum
    → b3 ≡ laid file p b
unfolding front_of sum_bytes suffixed laid
laid_by file p front sum b b1 b2 b3 n1 n2 n3 f s one two three =
    let both : Laid b b2 0 n2 (file ++ front) = laid_more b b1 b2 0 n1 n2 file front (omega arith) one two in
    let all : Laid b b3 0 n3 ((file ++ front) ++ sum) = laid_more b b2 b3 0 n2 n3 (file ++ front) sum (omega arith) both three in
    let twelve : length front ≡ front_size = ap length f in
    let four : length sum ≡ 4 = ap length s in
    let end : n3 ≡ size_with file =
    omega (arith, all.behind, length-append (file ++ front) sum, length-append file front)
    in
    laid_front b b3 n3 ((file ++ front) ++ sum) all
    ∙ ap₂ (λ (x : List ℕ) (n : ℕ). x ++ drop n b)
    (ap₂ ◌++◌ (ap (λ (x : List ℕ). file ++ x) f) (s ∙ ap (λ (x : List ℕ). sum_bytes (file ++ x)) f))
    end

-- with too little room nothing is laid
pub no_room :
    (file : List ℕ) (p : Parts) (buffer : List ℕ) → length buffer < size_with file → left unwritten buffer ≡ write_of file p buffer
unfolding write_of
no_room file p buffer h = rw (lt-ltb (length buffer) (size_with file) h)

pub room :
    (file : List ℕ) (p : Parts) (buffer after : List ℕ) → size_with file ≤ length buffer → after ≡ laid file p buffer
    → left (Ok (size_with file)) after ≡ write_of file p buffer
unfolding write_of
room file p buffer after h e = rw (le-ltb (length buffer) (size_with file) h, e)

-- the sum of a file goes on over what stands behind it
pub ruleset goes_on = (crc_of-append)
