-- The theorems of the list. Assumes nothing.
use Prim.Native.Nat.{ℕ, zero, suc, ◌+◌, ◌≤◌}
use mathlib.Core.List.{List, [], ◌++◌}
use mathlib.Core.Path.{◌≡◌, refl, sym, ap, ap₂, ◌∙◌}
use native.Mathlib.Decide.{dec_lt}
use native.Mathlib.Numerals.{add-one}
use native.Mathlib.Omega.{arith}
use lib.ListN.{length, get_or, drop, drop_of_length-le}
use lib.Seq.{drop-cons}
use Rattle.std.specs.Prelude.{None, Some, Ok, Err}
use Rattle.std.specs.Result.{result_ok}
use Rattle.pieces.specs.Claims.{Bytes}
use Rattle.print.specs.Decimal.{decimal_of}
use Rattle.bundle.specs.Bundle.{Reading, read_of}
use Rattle.bundle.specs.Claims.{Legal, bundled, BundleWith}
use Rattle.bundle.proofs.Theorems.{accepts_exactly, read-bundled, hands_back}
use Rattle.listing.specs.Listing.{most_bytes, refused_word, images_word, feed, line_of, lines_from, listed, text_for, list_of}
use Rattle.listing.specs.Claims.{lines_of, text_of, Listed, ListsExactly, OneLister}
use Rattle.listing.proofs.Laws.{too_long, short_enough, lines_next, lines_none}

-- the lines of what is handed back are those of the images
lines_are :
    (images : List (List ℕ)) → Legal images → (m k : ℕ) → k + m ≡ length images
    → lines_from (bundled images) m k ≡ lines_of k (drop k images)
unfolding lines_of
lines_are images legal zero k h =
    let past : length images ≤ k = omega arith in
    lines_none (bundled images) 0 k refl ∙ ap (lines_of k) (sym (drop_of_length-le images past))
lines_are images legal (suc m) k h =
    lines_next (bundled images) (suc m) m k refl
    ∙ ap₂ (λ (x y : List ℕ). line_of k x ++ y) (hands_back.of_bundle images legal k) (lines_are images legal m (k + 1) (omega arith))
    ∙ ap (λ (i : ℕ). line_of k (get_or images k []) ++ lines_of (k + 1) (drop i images)) (add-one k)
    ∙ ap (lines_of k) (sym (drop-cons images k [] (omega arith)))

-- a file that is listed has its images to list
listed_images : (bytes : List ℕ) (images : List (List ℕ)) → Listed bytes images → listed bytes ≡ Some (length images)
listed_images bytes images l = short_enough bytes l.short ∙ ap result_ok (ap read_of l.made ∙ read-bundled images l.legal)

of_bundle : (bytes : List ℕ) (images : List (List ℕ)) → Listed bytes images → list_of bytes ≡ text_of images
unfolding list_of
of_bundle bytes images l =
    ap₂ text_for l.made (listed_images bytes images l)
    ∙ ap (λ (x : List ℕ). (images_word ++ decimal_of (length images) ++ feed) ++ x) (lines_are images l.legal (length images) 0 (omega arith))

-- a file has images to list, or there is none
module _ (A : Type 0) (bytes : List ℕ) (b : Bytes bytes) (some : (images : List (List ℕ)) → Listed bytes images → A) (none : listed bytes ≡ None → A) where
  as_read : length bytes ≤ most_bytes → (r : Reading) → read_of bytes ≡ r → A
  as_read short (Ok n) e =
      let w : BundleWith bytes n = (accepts_exactly bytes b (Ok n)).then e in
      some w.images (record { legal = w.legal; made = w.made; short = short })
  as_read short (Err r) e = none (short_enough bytes short ∙ ap result_ok e)

  either : A
  either =
      elim (dec_lt most_bytes (length bytes)) [
        | yes l ↦ none (too_long bytes l)
        | no l ↦ as_read (omega arith) (read_of bytes) refl
      ]

refused : (bytes : List ℕ) → listed bytes ≡ None → list_of bytes ≡ refused_word ++ feed
unfolding list_of
refused bytes e = ap (text_for bytes) e

pub lists_exactly : ListsExactly list_of
lists_exactly =
    record {
      of_bundle = of_bundle;
      of_other = λ bytes b other. either _ bytes b (λ images l. absurd (other images l)) (refused bytes);
    }

-- what has no image to list is not the bundle of any
none_listed : (bytes : List ℕ) → listed bytes ≡ None → (images : List (List ℕ)) → Listed bytes images → ⊥
none_listed bytes e images l = let other : None ≡ Some (length images) = sym e ∙ listed_images bytes images l in cc

pub one_lister : OneLister
one_lister list exactly bytes b =
    either _ bytes b (λ images l. exactly.of_bundle bytes images l ∙ sym (of_bundle bytes images l))
    (λ e. exactly.of_other bytes b (none_listed bytes e) ∙ sym (refused bytes e))
