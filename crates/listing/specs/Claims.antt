-- What is promised of the list, of any lister: by lists of images, and not by what a reader finds.
use Rattle.std.specs.Prelude.{ℕ, ◌+◌, ◌≤◌, List, [], ◌∷◌, ◌++◌, ◌≡◌, length}
use Rattle.print.specs.Decimal.{decimal_of}
use Rattle.pieces.specs.Claims.{Bytes}
use Rattle.bundle.specs.Claims.{Legal, bundled}
use Rattle.listing.specs.Listing.{most_bytes, refused_word, images_word, feed, line_of, list_of}

-- the lines of images that are numbered from k on, and the whole text
unfoldable pub lines_of : ℕ → List (List ℕ) → List ℕ
lines_of k [] = []
lines_of k (image ∷ images) = line_of k image ++ lines_of (k + 1) images

abbrev pub text_of : List (List ℕ) → List ℕ
text_of images = (images_word ++ decimal_of (length images) ++ feed) ++ lines_of 0 images

-- a file that is short enough is the bundle of these images
pub record Listed (bytes : List ℕ) (images : List (List ℕ)) : Type 0 where
  pub legal : Legal images
  pub made : bytes ≡ bundled images
  pub short : length bytes ≤ most_bytes

-- such a file is listed by its images, and any other is refused
pub record ListsExactly (list : List ℕ → List ℕ) : Type 0 where
  pub of_bundle : (bytes : List ℕ) (images : List (List ℕ)) → Listed bytes images → list bytes ≡ text_of images
  pub of_other :
      (bytes : List ℕ) → Bytes bytes → ((images : List (List ℕ)) → Listed bytes images → ⊥) → list bytes ≡ refused_word ++ feed

-- no other lister does that
abbrev pub OneLister : Type 0
OneLister = (list : List ℕ → List ℕ) → ListsExactly list → (bytes : List ℕ) → Bytes bytes → list bytes ≡ list_of bytes
