-- The list of a bundle's images as text, in ASCII.
use Rattle.std.specs.Prelude.{ℕ, zero, suc, ◌+◌, ◌*◌, cond, List, [], ◌∷◌, ◌++◌, ltb, length, Option, None, Some}
use Rattle.std.specs.Result.{result_ok}
use Rattle.crc.specs.Crc.{crc_of}
use Rattle.print.specs.Hex.{hex_of}
use Rattle.print.specs.Decimal.{decimal_of}
use Rattle.bundle.specs.Bundle.{most_images, read_of, image_of}

-- the longest file that is listed
abbrev pub most_bytes : ℕ
most_bytes = 65536

-- "refused" and "images ", and the space between and the line feed behind
abbrev pub refused_word : List ℕ
refused_word = 114 ∷ 101 ∷ 102 ∷ 117 ∷ 115 ∷ 101 ∷ 100 ∷ []

abbrev pub images_word : List ℕ
images_word = 105 ∷ 109 ∷ 97 ∷ 103 ∷ 101 ∷ 115 ∷ 32 ∷ []

abbrev pub space : List ℕ
space = 32 ∷ []

abbrev pub feed : List ℕ
feed = 10 ∷ []

-- an image's line: its number, its length and its sum
unfoldable pub line_of : ℕ → List ℕ → List ℕ
line_of k image = (decimal_of k ++ space) ++ (decimal_of (length image) ++ space) ++ (hex_of (crc_of image) ++ feed)

-- the lines of n images, from image k on
unfoldable pub lines_from : List ℕ → ℕ → ℕ → List ℕ
lines_from bytes zero k = []
lines_from bytes (suc n) k = line_of k (image_of bytes k) ++ lines_from bytes n (k + 1)

-- how many images to list: none of a file that is refused or too long
abbrev pub listed : List ℕ → Option ℕ
listed bytes = cond (ltb most_bytes (length bytes)) None (result_ok (read_of bytes))

-- the text where there are so many images, and where there are none
abbrev pub text_for : List ℕ → Option ℕ → List ℕ
text_for bytes None = refused_word ++ feed
text_for bytes (Some n) = (images_word ++ decimal_of n ++ feed) ++ lines_from bytes n 0

-- the whole text for any bytes
unfoldable pub list_of : List ℕ → List ℕ
list_of bytes = text_for bytes (listed bytes)

-- the most bytes of the first line, of an image's, and of the whole text
abbrev pub most_first : ℕ
most_first = 10

abbrev pub most_line : ℕ
most_line = 18

abbrev pub most_text : ℕ
most_text = most_first + most_images * most_line
