-- A file with its suffix; what reading any bytes comes to, and what writing leaves.
use Rattle.std.specs.Prelude.{ℕ, ◌+◌, ◌-◌, Bool, cond, not, ◌&&◌, List, [], ◌∷◌, ◌++◌, eqb, ltb, length, get_or, take, drop}
use Rattle.std.specs.Prelude.{Result, Ok, Err, codes}
use Rattle.numbers.specs.Numbers.{word_at, long_at, bytes2, bytes4}
use Rattle.crc.specs.Crc.{crc_of}
use Rattle.suffix.specs.declared.Parts.{Parts}
use Rattle.suffix.specs.declared.Suffixed.{Suffixed}
use Rattle.suffix.specs.declared.Refusal.{Refusal}
use Rattle.suffix.specs.declared.Refusal.TheVariants.{Short, Signature, Length, Version, Sum}
use Rattle.suffix.specs.declared.NoRoom.{NoRoom}

-- the bytes of a suffix
abbrev pub suffix_size : ℕ
suffix_size = 16

-- those of them that its sum covers
abbrev pub front_size : ℕ
front_size = 12

-- the standard's version that a suffix names
abbrev pub dfu_version : ℕ
dfu_version = 0x0100

-- a suffix but for its sum: bcdDevice, idProduct, idVendor, bcdDFU, the signature, the length
unfoldable pub front_of : Parts → List ℕ
front_of p =
    bytes2 p.device ++ bytes2 p.product ++ bytes2 p.vendor ++ bytes2 dfu_version ++ 0x55 ∷ 0x46 ∷ 0x44 ∷ suffix_size ∷ []

-- the sum of all the bytes before it, as it stands at the end of a file
unfoldable pub sum_bytes : List ℕ → List ℕ
sum_bytes before = bytes4 (crc_of before)

-- a file with its suffix
unfoldable pub suffixed : List ℕ → Parts → List ℕ
suffixed file p = (file ++ front_of p) ++ sum_bytes (file ++ front_of p)

-- what the bytes of a suffix say: the numbers, and whether the signature, the length and the version are right
abbrev pub parts_of : List ℕ → Parts
parts_of suffix = record { device = word_at suffix 0; product = word_at suffix 2; vendor = word_at suffix 4 }

abbrev pub signed : List ℕ → Bool
signed suffix = eqb (get_or suffix 8 0) 0x55 && eqb (get_or suffix 9 0) 0x46 && eqb (get_or suffix 10 0) 0x44

abbrev pub sized : List ℕ → Bool
sized suffix = eqb (get_or suffix 11 0) suffix_size

abbrev pub versioned : List ℕ → Bool
versioned suffix = eqb (word_at suffix 6) dfu_version

-- and whether its sum is that of the bytes that it covers
abbrev pub summed : List ℕ → List ℕ → Bool
summed suffix covered = eqb (long_at suffix front_size) (crc_of covered)

-- what a reading comes to: a file of so many bytes with the suffix of these parts, or why the bytes are refused
abbrev pub Reading : Type 0
Reading = Result Suffixed Refusal

abbrev pub accepted : Parts → ℕ → Reading
accepted p n = Ok (record { parts = p; length = n })

-- the first test that fails says why; where none does, there is a suffix
abbrev pub judged : Bool → Bool → Bool → Bool → Reading → Reading
judged signed sized versioned summed found =
    cond (not signed) (Err Signature)
    (cond (not sized) (Err Length) (cond (not versioned) (Err Version) (cond (not summed) (Err Sum) found)))

-- the last 16 bytes of any that are enough, and what stands before them
abbrev pub suffix_of : List ℕ → List ℕ
suffix_of bytes = drop (length bytes - suffix_size) bytes

abbrev pub image_of : List ℕ → List ℕ
image_of bytes = take (length bytes - suffix_size) bytes

-- what bytes come to of which these are the image and the suffix
abbrev pub read_parts : List ℕ → List ℕ → List ℕ → Reading
read_parts bytes image suffix =
    judged (signed suffix) (sized suffix) (versioned suffix) (summed suffix (take (length image + front_size) bytes))
    (accepted (parts_of suffix) (length image))

-- any bytes
unfoldable pub read_of : List ℕ → Reading
read_of bytes =
    cond (ltb (length bytes) suffix_size) (Err Short) (read_parts bytes (image_of bytes) (suffix_of bytes))

-- the refusals by number
abbrev pub refusal_number : Refusal → ℕ
refusal_number Short = 1
refusal_number Signature = 2
refusal_number Length = 3
refusal_number Version = 4
refusal_number Sum = 5

-- a reading by number: 0 for what is accepted
abbrev pub reading_number : Reading → ℕ
reading_number (Ok s) = 0
reading_number (Err r) = refusal_number r

-- the refusals in words
abbrev pub refusal_words : Refusal → List ℕ
refusal_words Short = codes "too short for a suffix"
refusal_words Signature = codes "no suffix's signature"
refusal_words Length = codes "another length of suffix"
refusal_words Version = codes "another version of DFU"
refusal_words Sum = codes "another sum"

-- what a writing comes to: how many bytes were written, or that none were; and of that the number and the words
abbrev pub Writing : Type 0
Writing = Result ℕ NoRoom

abbrev pub unwritten : Writing
unwritten = Err (record {})

abbrev pub unwritten_number : NoRoom → ℕ
unwritten_number n = 1

abbrev pub unwritten_words : List ℕ
unwritten_words = codes "no room for the file and its suffix"

-- all that a writing leaves
pub record Left : Type 0 where
  pub result : Writing
  pub buffer : List ℕ

abbrev pub left : Writing → List ℕ → Left
left result buffer = record { result = result; buffer = buffer }

-- the bytes of a file with its suffix
abbrev pub size_with : List ℕ → ℕ
size_with file = length file + suffix_size

-- a buffer with the file and its suffix at its front; what lies behind them stays
unfoldable pub laid : List ℕ → Parts → List ℕ → List ℕ
laid file p buffer = suffixed file p ++ drop (size_with file) buffer

-- they are laid there where there is room for them
unfoldable pub write_of : List ℕ → Parts → List ℕ → Left
write_of file p buffer =
    cond (ltb (length buffer) (size_with file)) (left unwritten buffer) (left (Ok (size_with file)) (laid file p buffer))
