-- The laws of the walks over the lengths that a writer is given, and of what a reading counts. Assumes nothing.
use Prim.Native.Nat.{ℕ, ◌+◌, ◌*◌, ◌^◌, ◌≤◌, ◌<◌}
use mathlib.Core.Bool.{true, false, ◌||◌, false≢true}
use mathlib.Core.List.{List, [], ◌∷◌, ◌++◌}
use mathlib.Core.Path.{◌≡◌, refl, sym, ap, ◌∙◌}
use native.Mathlib.Omega.{arith}
use native.Mathlib.Numerals.{add-one}
use lib.Dec.{leb}
use lib.ListN.{length, get_or, drop, drop_of_length-le, length-append}
use lib.Seq.{drop-cons}
use borrow.Author.Tests.{leb-true, leb-false, eq-eqb, ne_eqb}
use Rattle.numbers.specs.Numbers.{bytes2, bytes4}
use Rattle.pieces.specs.Pieces.{placed, Laid}
use Rattle.pieces.proofs.Laws.{laid_more, laid_front}
use Rattle.pieces.proofs.Tests.{Tells, both, at_most, neither, either_way}
use Rattle.bundle.specs.declared.reasons.Unwritten.TheVariants.{WrongCount, EmptyImage, NoRoom, WrongLengths}
use Rattle.std.specs.Prelude.{Ok, Err, sum}
use Rattle.std.proofs.lemmas.List.Sums.{sum_by-cons}
use Rattle.bundle.specs.Bundle.{most_images, can_count, head_size, has_empty, fits_in, total, size_of, entries_of, bundle_of, Writable, left, write_of}

-- the library's sum is the total
pub sum_is_total : (l : List ℕ) → sum l ≡ total l
unfolding total
sum_is_total [] = refl
sum_is_total (n ∷ l) = sum_by-cons (λ (x : ℕ). x) n l ∙ ap (λ (m : ℕ). n + m) (sum_is_total l)

-- how many images a bundle may have
pub count_tells : (n : ℕ) → Tells (can_count n) ((1 ≤ n) × (n ≤ most_images))
count_tells n = both _ _ _ _ (at_most 1 n) (at_most n most_images)

-- the numbers from place k on are the one there and those behind it; at the end there is none
module _ (l : List ℕ) (k : ℕ) where
  pub next : k < length l → drop k l ≡ get_or l k 0 ∷ drop (k + 1) l
  next h = drop-cons l k 0 h ∙ ap (λ (i : ℕ). get_or l k 0 ∷ drop i l) (sym (add-one k))

  pub none : length l ≤ k → drop k l ≡ []
  none h = drop_of_length-le l h

  pub entries_next :
      (at : ℕ) (bytes : List ℕ) → k < length l → bytes ≡ bytes4 at ++ bytes4 (get_or l k 0)
      → entries_of at (drop k l) ≡ bytes ++ entries_of (at + get_or l k 0) (drop (k + 1) l)
  unfolding entries_of
  entries_next at bytes h e =
      ap (entries_of at) (next h) ∙ ap (λ (x : List ℕ). x ++ entries_of (at + get_or l k 0) (drop (k + 1) l)) (sym e)

  pub entries_none : (at : ℕ) → length l ≤ k → entries_of at (drop k l) ≡ []
  unfolding entries_of
  entries_none at h = ap (entries_of at) (none h)

  pub fits_not : (room at : ℕ) → k < length l → (leb (2 ^ 32) at || leb (2 ^ 32) (get_or l k 0)) ≡ true → fits_in room at (drop k l) ≡ false
  unfolding fits_in
  fits_not room at h t = ap (fits_in room at) (next h) ∙ rw t

  pub fits_next :
      (room at : ℕ) → k < length l → (leb (2 ^ 32) at || leb (2 ^ 32) (get_or l k 0)) ≡ false
      → fits_in room at (drop k l) ≡ fits_in room (at + get_or l k 0) (drop (k + 1) l)
  unfolding fits_in
  fits_next room at h t = ap (fits_in room at) (next h) ∙ rw t

-- neither number is past 32 bits
pub narrow : (n m : ℕ) → (leb (2 ^ 32) n || leb (2 ^ 32) m) ≡ false → (n < 2 ^ 32) × (m < 2 ^ 32)
narrow n m h =
    let e = neither (leb (2 ^ 32) n) (leb (2 ^ 32) m) h in
    (leb-false (2 ^ 32) n e.0, leb-false (2 ^ 32) m e.1)

-- where a bundle fits, so do its next offset and length, and the rest of it
pub fits_on :
    (l : List ℕ) (k room at : ℕ) → k < length l → fits_in room at (drop k l) ≡ true
    → ((at < 2 ^ 32) × (get_or l k 0 < 2 ^ 32)) × (fits_in room (at + get_or l k 0) (drop (k + 1) l) ≡ true)
fits_on l k room at h fits =
    either_way (leb (2 ^ 32) at || leb (2 ^ 32) (get_or l k 0))
    (λ t. absurd (false≢true (sym (fits_not l k room at h t) ∙ fits)))
    (λ t. (narrow at (get_or l k 0) t, sym (fits_next l k room at h t) ∙ fits))

-- an entry has eight bytes
pub entries_long : (at : ℕ) (l : List ℕ) → length (entries_of at l) ≡ 8 * length l
unfolding entries_of
entries_long at [] = refl
entries_long at (n ∷ l) = omega (arith, entries_long (at + n) l)

-- where the lengths fit, so does their total
pub fits_total : (room at : ℕ) (l : List ℕ) → fits_in room at l ≡ true → at + total l ≤ room
unfolding fits_in total
fits_total room at [] h = omega (arith, leb-true at room h)
fits_total room at (n ∷ l) h =
    omega (arith, fits_total room (at + n) l (fits_on (n ∷ l) 0 room at (omega arith) h).1)

pub writable_room : (l images : List ℕ) (room : ℕ) → Writable l images room → head_size (length l) + length images ≤ room
writable_room l images room w = omega (arith, fits_total room (head_size (length l)) l w.fits, w.adds)

-- a bundle is its head and its images
pub bundle_long : (l images : List ℕ) → length (bundle_of l images) ≡ head_size (length l) + length images
unfolding bundle_of
bundle_long l images =
    let head : List ℕ = bytes2 (length l) ++ entries_of (head_size (length l)) l in
    omega (arith, length-append head images, length-append (bytes2 (length l)) (entries_of (head_size (length l)) l), entries_long (head_size (length l)) l)

-- count, entries and images, one behind the other
pub laid_bundle :
    (l images two b b1 b2 b3 : List ℕ) (n1 n2 n3 : ℕ) → two ≡ bytes2 (length l) → Laid b b1 0 n1 two
    → Laid b1 b2 2 n2 (entries_of (head_size (length l)) l) → Laid b2 b3 n2 n3 images
    → Laid b b3 0 n3 (bundle_of l images)
unfolding bundle_of
laid_bundle l images two b b1 b2 b3 n1 n2 n3 is count entries rest =
    let counted : Laid b b1 0 2 (bytes2 (length l)) =
    record { stand = count.stand ∙ ap (placed b 0) is; behind = refl }
    in
    laid_more b b2 b3 0 n2 n3 _ images (omega arith)
    (laid_more b b1 b2 0 2 n2 (bytes2 (length l)) _ (omega arith) counted entries) rest

-- what a writing comes to, test by test
module _ (l images buffer : List ℕ) where
  pub wrong_count : can_count (length l) ≡ false → write_of l images buffer ≡ left (Err WrongCount) buffer
  unfolding write_of
  wrong_count c = rw c

  module _ (c : can_count (length l) ≡ true) where
    pub empty_image : has_empty l ≡ true → write_of l images buffer ≡ left (Err EmptyImage) buffer
    unfolding write_of
    empty_image e = rw (c, e)

    module _ (e : has_empty l ≡ false) where
      pub no_room : fits_in (length buffer) (head_size (length l)) l ≡ false → write_of l images buffer ≡ left (Err NoRoom) buffer
      unfolding write_of
      no_room f = rw (c, e, f)

      module _ (f : fits_in (length buffer) (head_size (length l)) l ≡ true) where
        pub wrong_lengths : (total l ≡ length images → ⊥) → write_of l images buffer ≡ left (Err WrongLengths) buffer
        unfolding write_of
        wrong_lengths t = rw (c, e, f, ne_eqb (total l) (length images) t)

        pub wrote :
            total l ≡ length images → (after : List ℕ) (n : ℕ) → Laid buffer after 0 n (bundle_of l images)
            → write_of l images buffer ≡ left (Ok n) after
        unfolding write_of
        wrote t after n laid =
            let size : size_of l ≡ n = omega (arith, laid.behind, bundle_long l images) in
            rw (c, e, f, eq-eqb (total l) (length images) t)
            (ap (λ (k : ℕ). left (Ok k) (bundle_of l images ++ drop k buffer)) size
            ∙ ap (left (Ok n)) (sym (laid_front buffer after n (bundle_of l images) laid)))
