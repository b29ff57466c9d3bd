-- A bundle of images; what reading any bytes comes to, and what writing leaves.
use Rattle.std.specs.Prelude.{ℕ, zero, suc, ◌+◌, ◌*◌, ◌^◌, Bool, true, false, cond, not, ◌&&◌, ◌||◌, List, [], ◌∷◌, ◌++◌, ◌≡◌, eqb, ltb, leb, length, take, drop}
use Rattle.std.specs.Prelude.{Result, Ok, Err, codes}
use Rattle.std.specs.List.{list_any}
use Rattle.std.specs.Result.{result_unwrap_or}
use Rattle.numbers.specs.Numbers.{word_at, long_at, bytes2, bytes4}
use Rattle.bundle.specs.declared.Entry.{Entry}
use Rattle.bundle.specs.declared.Part.{Part}
use Rattle.bundle.specs.declared.Refusal.{Refusal}
use Rattle.bundle.specs.declared.Refusal.TheVariants.{Short, Count, Table, Offset, Empty, Past, LeftOver}
use Rattle.bundle.specs.declared.reasons.Unwritten.{Unwritten}
use Rattle.bundle.specs.declared.reasons.Unwritten.TheVariants.{WrongCount, EmptyImage, NoRoom, WrongLengths}

-- the most images of a bundle, and whether it may have n
abbrev pub most_images : ℕ
most_images = 32

abbrev pub can_count : ℕ → Bool
can_count n = leb 1 n && leb n most_images

-- the bytes of the count and of n entries
abbrev pub head_size : ℕ → ℕ
head_size n = 2 + 8 * n

-- ---- a bundle

-- the entries of images of these lengths, which stand end to end from a place on: offset and length of each
unfoldable pub entries_of : ℕ → List ℕ → List ℕ
entries_of at [] = []
entries_of at (n ∷ ns) = (bytes4 at ++ bytes4 n) ++ entries_of (at + n) ns

-- the bundle of images of these lengths, which are these bytes end to end
unfoldable pub bundle_of : List ℕ → List ℕ → List ℕ
bundle_of lengths images = (bytes2 (length lengths) ++ entries_of (head_size (length lengths)) lengths) ++ images

-- ---- reading

-- what a reading comes to: how many images there are, or why the file is refused
abbrev pub Reading : Type 0
Reading = Result ℕ Refusal

-- entry k of a file
abbrev pub entry_at : List ℕ → ℕ → Entry
entry_at bytes k = record { offset = long_at bytes (head_size k); length = long_at bytes (head_size k + 4) }

-- where its image ends
abbrev pub end_of : Entry → ℕ
end_of e = e.offset + e.length

-- an entry of a file of so many bytes, where the image before it ended at a place: the first test that fails says why
abbrev pub judged : ℕ → ℕ → Entry → Reading → Reading
judged size at e rest =
    cond (not (eqb e.offset at)) (Err Offset) (cond (eqb e.length 0) (Err Empty) (cond (ltb size (end_of e)) (Err Past) rest))

-- the entries from entry k on, where `left` of the n are not read yet; behind the last image nothing may be left over
unfoldable pub read_from : List ℕ → ℕ → ℕ → ℕ → ℕ → Reading
read_from bytes n zero k at = cond (ltb at (length bytes)) (Err LeftOver) (Ok n)
read_from bytes n (suc left) k at =
    judged (length bytes) at (entry_at bytes k) (read_from bytes n left (k + 1) (end_of (entry_at bytes k)))

-- any bytes
unfoldable pub read_of : List ℕ → Reading
read_of bytes =
    let n : ℕ = word_at bytes 0 in
    cond (ltb (length bytes) 2) (Err Short)
    (cond (not (can_count n)) (Err Count)
    (cond (ltb (length bytes) (head_size n)) (Err Table)
    (read_from bytes n n 0 (head_size n))))

-- the refusals by number
abbrev pub refusal_number : Refusal → ℕ
refusal_number Short = 1
refusal_number Count = 2
refusal_number Table = 3
refusal_number Offset = 4
refusal_number Empty = 5
refusal_number Past = 6
refusal_number LeftOver = 7

-- a reading by number: 0 for what is accepted
abbrev pub reading_number : Reading → ℕ
reading_number (Ok n) = 0
reading_number (Err r) = refusal_number r

-- the refusals in words
abbrev pub refusal_words : Refusal → List ℕ
refusal_words Short = codes "too short for a count"
refusal_words Count = codes "not 1 to 32 images"
refusal_words Table = codes "too short for the entries"
refusal_words Offset = codes "an image is not where the one before it ended"
refusal_words Empty = codes "an image has no bytes"
refusal_words Past = codes "an image ends past the file"
refusal_words LeftOver = codes "bytes are left over behind the last image"

-- the images of a bundle; none in what is refused
abbrev pub images_in : Reading → ℕ
images_in r = result_unwrap_or r 0

-- where image k lies, and no bytes where there is none; and its bytes
unfoldable pub part_of : List ℕ → ℕ → Part
part_of bytes k =
    cond (leb (images_in (read_of bytes)) k) (record { from = 0; length = 0 })
    (record { from = (entry_at bytes k).offset; length = (entry_at bytes k).length })

unfoldable pub image_of : List ℕ → ℕ → List ℕ
image_of bytes k = take (part_of bytes k).length (drop (part_of bytes k).from bytes)

-- ---- writing

-- what a writing comes to: how many bytes were written, or why none were
abbrev pub Writing : Type 0
Writing = Result ℕ Unwritten

abbrev pub has_empty : List ℕ → Bool
has_empty = list_any (λ n. eqb n 0)

-- whether images of these lengths, end to end from a place on, have offsets and lengths of 32 bits and end within the room
unfoldable pub fits_in : ℕ → ℕ → List ℕ → Bool
fits_in room at [] = leb at room
fits_in room at (n ∷ ns) = cond (leb (2 ^ 32) at || leb (2 ^ 32) n) false (fits_in room (at + n) ns)

unfoldable pub total : List ℕ → ℕ
total [] = 0
total (n ∷ ns) = n + total ns

-- the bytes of a bundle of images of these lengths
abbrev pub size_of : List ℕ → ℕ
size_of lengths = head_size (length lengths) + total lengths

-- these images have a bundle that fits into so many bytes
pub record Writable (lengths images : List ℕ) (room : ℕ) : Type 0 where
  pub counted : can_count (length lengths) ≡ true
  pub fits : fits_in room (head_size (length lengths)) lengths ≡ true
  pub adds : total lengths ≡ length images

-- all that a writing leaves
pub record Left : Type 0 where
  pub result : Writing
  pub buffer : List ℕ

abbrev pub left : Writing → List ℕ → Left
left result buffer = record { result = result; buffer = buffer }

-- images of these lengths, which are these bytes end to end, go to the buffer's front
unfoldable pub write_of : List ℕ → List ℕ → List ℕ → Left
write_of lengths images buffer =
    cond (not (can_count (length lengths))) (left (Err WrongCount) buffer)
    (cond (has_empty lengths) (left (Err EmptyImage) buffer)
    (cond (not (fits_in (length buffer) (head_size (length lengths)) lengths)) (left (Err NoRoom) buffer)
    (cond (not (eqb (total lengths) (length images))) (left (Err WrongLengths) buffer)
    (left (Ok (size_of lengths)) (bundle_of lengths images ++ drop (size_of lengths) buffer)))))

-- what stood in the way, by number
abbrev pub unwritten_number : Unwritten → ℕ
unwritten_number WrongCount = 1
unwritten_number EmptyImage = 2
unwritten_number NoRoom = 3
unwritten_number WrongLengths = 4

-- a writing by number: 0 for what was written
abbrev pub writing_number : Writing → ℕ
writing_number (Ok n) = 0
writing_number (Err u) = unwritten_number u

-- what stood in the way, in words
abbrev pub unwritten_words : Unwritten → List ℕ
unwritten_words WrongCount = codes "not 1 to 32 images"
unwritten_words EmptyImage = codes "an image has no bytes"
unwritten_words NoRoom = codes "too little room, or a number past 32 bits"
unwritten_words WrongLengths = codes "the lengths are not those of the bytes"

-- how many bytes it wrote
abbrev pub bytes_written : Writing → ℕ
bytes_written w = result_unwrap_or w 0
