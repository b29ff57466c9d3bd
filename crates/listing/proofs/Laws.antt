-- How long numbers and lines get, and lines laid one behind the other. Assumes nothing.
use Prim.Native.Nat.{ℕ, suc, ◌+◌, ◌≤◌, ◌<◌}
use mathlib.Core.List.{List, [], ◌++◌}
use mathlib.Core.Path.{◌≡◌, sym, ap, ◌∙◌}
use native.Mathlib.Decide.{dec_lt}
use native.Mathlib.Omega.{arith}
use lib.ListN.{length, drop, length-append, length-take, length-drop}
use borrow.Author.Tests.{lt-ltb, le-ltb}
use Rattle.pieces.specs.Pieces.{Laid}
use Rattle.pieces.proofs.Laws.{laid_more}
use Rattle.print.specs.Decimal.{decimal_of}
use Rattle.print.specs.Hex.{hex_of}
use Rattle.print.proofs.Laws.{decimal_short}
use Rattle.crc.specs.Crc.{crc_of}
use Rattle.std.specs.Prelude.{None, Some, Ok, Err}
use Rattle.std.specs.Result.{result_ok}
use Rattle.bundle.specs.Bundle.{most_images, Reading, read_of, images_in, part_of, image_of}
use Rattle.bundle.proofs.Meaning.{few_images}
use Rattle.listing.specs.Listing.{most_bytes, refused_word, images_word, space, feed, line_of, lines_from, listed, list_of}

pub two_digits : (n : ℕ) → n < 100 → length (decimal_of n) ≤ 2
two_digits n h = decimal_short 1 n h

-- and with the space behind it
pub short_number : (n : ℕ) → n < 100 → length (decimal_of n ++ space) ≤ 3
short_number n h = omega (arith, two_digits n h, length-append (decimal_of n) space)

pub long_number : (n : ℕ) → n ≤ most_bytes → length (decimal_of n ++ space) ≤ 6
long_number n h = omega (arith, decimal_short 4 n (omega arith), length-append (decimal_of n) space)

-- the images to list
pub too_long : (bytes : List ℕ) → most_bytes < length bytes → listed bytes ≡ None
too_long bytes h = rw (lt-ltb most_bytes (length bytes) h)

pub short_enough : (bytes : List ℕ) → length bytes ≤ most_bytes → listed bytes ≡ result_ok (read_of bytes)
short_enough bytes h = rw (le-ltb most_bytes (length bytes) h)

found : (r : Reading) (n : ℕ) → result_ok r ≡ Some n → r ≡ Ok n
found (Ok m) n h = cc
found (Err e) n h = absurd (cc)

-- some are listed only of a file that is short enough, and is read as a bundle of so many
listed_read : (bytes : List ℕ) (n : ℕ) → listed bytes ≡ Some n → (length bytes ≤ most_bytes) × (read_of bytes ≡ Ok n)
listed_read bytes n h =
    elim (dec_lt most_bytes (length bytes)) [
      | yes l ↦ let none : None ≡ Some n = sym (too_long bytes l) ∙ h in absurd (cc)
      | no l ↦
          let short : length bytes ≤ most_bytes = omega arith in
          (short, found (read_of bytes) n (sym (short_enough bytes short) ∙ h))
    ]

pub listed_short : (bytes : List ℕ) (n : ℕ) → listed bytes ≡ Some n → length bytes ≤ most_bytes
listed_short bytes n h = (listed_read bytes n h).0

pub listed_few : (bytes : List ℕ) (n : ℕ) → listed bytes ≡ Some n → n ≤ most_images
listed_few bytes n h = omega (arith, few_images bytes, ap images_in (listed_read bytes n h).1)

-- number, length and sum make a line
pub laid_line :
    (b b1 b2 b3 image : List ℕ) (at n1 n2 n3 k : ℕ) → at ≤ length b → Laid b b1 at n1 (decimal_of k ++ space)
    → Laid b1 b2 n1 n2 (decimal_of (length image) ++ space) → Laid b2 b3 n2 n3 (hex_of (crc_of image) ++ feed)
    → Laid b b3 at n3 (line_of k image)
unfolding line_of
laid_line b b1 b2 b3 image at n1 n2 n3 k h one two three =
    laid_more b b2 b3 at n2 n3 _ _ h (laid_more b b1 b2 at n1 n2 _ _ h one two) three

-- the lines of the images from image k on
pub lines_next : (bytes : List ℕ) (m n k : ℕ) → m ≡ suc n → lines_from bytes m k ≡ line_of k (image_of bytes k) ++ lines_from bytes n (k + 1)
unfolding lines_from
lines_next bytes m n k e = ap (λ (i : ℕ). lines_from bytes i k) e

pub lines_none : (bytes : List ℕ) (m k : ℕ) → m ≡ 0 → lines_from bytes m k ≡ []
unfolding lines_from
lines_none bytes m k e = ap (λ (i : ℕ). lines_from bytes i k) e

-- an image is no longer than its file
pub image_short : (bytes : List ℕ) (k : ℕ) → length (image_of bytes k) ≤ length bytes
unfolding image_of
image_short bytes k =
    let part : List ℕ = drop (part_of bytes k).from bytes in
    omega (arith, length-take (part_of bytes k).length part, length-drop (part_of bytes k).from bytes)

-- the whole text
pub laid_refused : (bytes b c : List ℕ) (r : ℕ) → listed bytes ≡ None → Laid b c 0 r (refused_word ++ feed) → Laid b c 0 r (list_of bytes)
unfolding list_of
laid_refused bytes b c r none laid = rw none laid

pub laid_list :
    (bytes b b1 b2 : List ℕ) (n r1 r2 : ℕ) → listed bytes ≡ Some n → Laid b b1 0 r1 (images_word ++ decimal_of n ++ feed)
    → Laid b1 b2 r1 r2 (lines_from bytes n 0) → Laid b b2 0 r2 (list_of bytes)
unfolding list_of
laid_list bytes b b1 b2 n r1 r2 some first lines = rw some (laid_more b b1 b2 0 r1 r2 _ _ (omega arith) first lines)
