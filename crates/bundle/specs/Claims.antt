-- What is promised of bundles, as claims about any reader and any writer. A bundle is here a list of images and not lengths and bytes.
use Rattle.std.specs.Prelude.{ℕ, zero, suc, ◌+◌, ◌*◌, ◌^◌, ◌≤◌, ◌<◌, List, [], ◌∷◌, ◌++◌, ◌≡◌, length, get_or, take, drop, Ok, Err}
use Rattle.numbers.specs.Numbers.{word_at, long_at}
use Rattle.pieces.specs.Claims.{Bytes, Exactly}
use Rattle.bundle.specs.declared.Part.{Part}
use Rattle.bundle.specs.declared.Refusal.TheVariants.{Short, Count, Table, Offset, Empty, Past, LeftOver}
use Rattle.bundle.specs.declared.reasons.Unwritten.TheVariants.{WrongCount, EmptyImage, NoRoom, WrongLengths}
use Rattle.bundle.specs.Bundle.{bundle_of, total, Reading, read_of, part_of, image_of, Left, left, write_of}

-- ---- lists of images

-- the lengths of images, and their bytes end to end
abbrev pub lengths_of : List (List ℕ) → List ℕ
lengths_of [] = []
lengths_of (image ∷ images) = length image ∷ lengths_of images

abbrev pub joined : List (List ℕ) → List ℕ
joined [] = []
joined (image ∷ images) = image ++ joined images

-- 1 to 32 of them
pub record Counted (lengths : List ℕ) : Type 0 where
  pub some : 1 ≤ length lengths
  pub few : length lengths ≤ 32

-- none of them empty
abbrev pub Full : List ℕ → Type 0
Full lengths = (k : ℕ) → k < length lengths → 1 ≤ get_or lengths k 0

-- each begins, and is long, by a number of 32 bits; the first begins behind the entries
pub record Narrow (lengths : List ℕ) : Type 0 where
  pub starts : (k : ℕ) → k < length lengths → 2 + 8 * length lengths + total (take k lengths) < 2 ^ 32
  pub sizes : (k : ℕ) → k < length lengths → get_or lengths k 0 < 2 ^ 32

-- images that can be in a bundle, and their bundle
pub record Legal (images : List (List ℕ)) : Type 0 where
  pub counted : Counted (lengths_of images)
  pub full : Full (lengths_of images)
  pub narrow : Narrow (lengths_of images)

abbrev pub bundled : List (List ℕ) → List ℕ
bundled images = bundle_of (lengths_of images) (joined images)

-- ---- reading

-- what a file says: its count; of image k, where it begins and how long it is
abbrev pub count : List ℕ → ℕ
count bytes = word_at bytes 0

abbrev pub offset : List ℕ → ℕ → ℕ
offset bytes k = long_at bytes (2 + 8 * k)

abbrev pub long : List ℕ → ℕ → ℕ
long bytes k = long_at bytes (2 + 8 * k + 4)

-- where image k must begin: where the one before it ended, and the first behind the entries
unfoldable pub start : List ℕ → ℕ → ℕ
start bytes zero = 2 + 8 * count bytes
start bytes (suc k) = start bytes k + long bytes k

-- what a file must meet, in the order of the refusals
abbrev pub LongEnough : List ℕ → Type 0
LongEnough bytes = 2 ≤ length bytes

abbrev pub CountGood : List ℕ → Type 0
CountGood bytes = (1 ≤ count bytes) × (count bytes ≤ 32)

abbrev pub TableThere : List ℕ → Type 0
TableThere bytes = 2 + 8 * count bytes ≤ length bytes

pub record Headed (bytes : List ℕ) : Type 0 where
  pub long_enough : LongEnough bytes
  pub count_good : CountGood bytes
  pub table_there : TableThere bytes

abbrev pub InPlace : List ℕ → ℕ → Type 0
InPlace bytes k = offset bytes k ≡ start bytes k

abbrev pub HasBytes : List ℕ → ℕ → Type 0
HasBytes bytes k = 1 ≤ long bytes k

abbrev pub Inside : List ℕ → ℕ → Type 0
Inside bytes k = offset bytes k + long bytes k ≤ length bytes

pub record EntryGood (bytes : List ℕ) (k : ℕ) : Type 0 where
  pub in_place : InPlace bytes k
  pub has_bytes : HasBytes bytes k
  pub inside : Inside bytes k

abbrev pub GoodBelow : List ℕ → ℕ → Type 0
GoodBelow bytes k = (j : ℕ) → j < k → EntryGood bytes j

-- a file whose head is right has an entry for which something holds, behind entries that are good
pub record AtEntry (bytes : List ℕ) (Wrong : ℕ → Type 0) : Type 0 where
  pub headed : Headed bytes
  pub entry : ℕ
  pub there : entry < count bytes
  pub before : GoodBelow bytes entry
  pub wrong : Wrong entry

-- bytes that are the bundle of n images
pub record BundleWith (bytes : List ℕ) (n : ℕ) : Type 0 where
  pub images : List (List ℕ)
  pub made : bytes ≡ bundled images
  pub many : length images ≡ n
  pub legal : Legal images

-- what each reading says of the bytes: a refusal, that all before it is met and it is not
abbrev pub Says : Reading → List ℕ → Type 0
Says (Ok n) bytes = BundleWith bytes n
Says (Err Short) bytes = LongEnough bytes → ⊥
Says (Err Count) bytes = LongEnough bytes × (CountGood bytes → ⊥)
Says (Err Table) bytes = LongEnough bytes × CountGood bytes × (TableThere bytes → ⊥)
Says (Err Offset) bytes = AtEntry bytes (λ k. InPlace bytes k → ⊥)
Says (Err Empty) bytes = AtEntry bytes (λ k. InPlace bytes k × (HasBytes bytes k → ⊥))
Says (Err Past) bytes = AtEntry bytes (λ k. InPlace bytes k × HasBytes bytes k × (Inside bytes k → ⊥))
Says (Err LeftOver) bytes = Headed bytes × GoodBelow bytes (count bytes) × (start bytes (count bytes) < length bytes)

-- a reading is given exactly where it is true
abbrev pub AcceptsExactly : (List ℕ → Reading) → Type 0
AcceptsExactly read = (bytes : List ℕ) → Bytes bytes → (r : Reading) → Exactly (read bytes ≡ r) (Says r bytes)

-- no other reader does that
abbrev pub OneReader : Type 0
OneReader = (read : List ℕ → Reading) → AcceptsExactly read → (bytes : List ℕ) → Bytes bytes → read bytes ≡ read_of bytes

-- each image of a bundle is handed back, and nothing for any other number or of any other file
pub record HandsBack (image : List ℕ → ℕ → List ℕ) : Type 0 where
  pub of_bundle : (images : List (List ℕ)) → Legal images → (k : ℕ) → image (bundled images) k ≡ get_or images k []
  pub of_other :
      (bytes : List ℕ) → Bytes bytes → ((images : List (List ℕ)) → Legal images → bytes ≡ bundled images → ⊥) → (k : ℕ)
      → image bytes k ≡ []

-- and no other call does that
abbrev pub OneHandsBack : Type 0
OneHandsBack =
    (image : List ℕ → ℕ → List ℕ) → HandsBack image → (bytes : List ℕ) → Bytes bytes → (k : ℕ) → image bytes k ≡ image_of bytes k

-- ---- writing

-- a bundle of images of these lengths can be written within so many bytes
pub record Fits (room : ℕ) (lengths : List ℕ) : Type 0 where
  pub narrow : Narrow lengths
  pub within : 2 + 8 * length lengths + total lengths ≤ room

-- the first thing that is wrong is told, with the buffer as it was; else the bundle is at its front, and the rest of it as it was
pub record WritesExactly (write : List ℕ → List ℕ → List ℕ → Left) : Type 0 where
  pub wrong_count :
      (lengths images buffer : List ℕ) → (Counted lengths → ⊥) → write lengths images buffer ≡ left (Err WrongCount) buffer
  pub empty_image :
      (lengths images buffer : List ℕ) → Counted lengths → (Full lengths → ⊥)
      → write lengths images buffer ≡ left (Err EmptyImage) buffer
  pub no_room :
      (lengths images buffer : List ℕ) → Counted lengths → Full lengths → (Fits (length buffer) lengths → ⊥)
      → write lengths images buffer ≡ left (Err NoRoom) buffer
  pub wrong_lengths :
      (lengths images buffer : List ℕ) → Counted lengths → Full lengths → Fits (length buffer) lengths
      → (total lengths ≡ length images → ⊥) → write lengths images buffer ≡ left (Err WrongLengths) buffer
  pub wrote :
      (images : List (List ℕ)) (buffer : List ℕ) → Legal images → length (bundled images) ≤ length buffer
      → write (lengths_of images) (joined images) buffer
      ≡ left (Ok (length (bundled images))) (bundled images ++ drop (length (bundled images)) buffer)

-- no other writer does that
abbrev pub OneWriter : Type 0
OneWriter =
    (write : List ℕ → List ℕ → List ℕ → Left) → WritesExactly write → (lengths images buffer : List ℕ)
    → write lengths images buffer ≡ write_of lengths images buffer

-- ---- both

-- a file that is read as the bundle of these images
pub record Holds (read : List ℕ → Reading) (image : List ℕ → ℕ → List ℕ) (bytes : List ℕ) (images : List (List ℕ)) : Type 0 where
  pub found : read bytes ≡ Ok (length images)
  pub each : (k : ℕ) → k < length images → image bytes k ≡ get_or images k []

-- reading what was written gives the images back
abbrev pub ReadWritten : (List ℕ → Reading) → (List ℕ → ℕ → List ℕ) → (List ℕ → List ℕ → List ℕ → Left) → Type 0
ReadWritten read image write =
    (images : List (List ℕ)) (buffer : List ℕ) (n : ℕ) → (write (lengths_of images) (joined images) buffer).result ≡ Ok n
    → Holds read image (take n (write (lengths_of images) (joined images) buffer).buffer) images

-- writing what was read gives the same bytes
abbrev pub WriteRead : (List ℕ → Reading) → (List ℕ → ℕ → List ℕ) → (List ℕ → List ℕ → List ℕ → Left) → Type 0
WriteRead read image write =
    (bytes : List ℕ) (images : List (List ℕ)) (buffer : List ℕ) → Bytes bytes → Holds read image bytes images
    → length bytes ≤ length buffer
    → write (lengths_of images) (joined images) buffer ≡ left (Ok (length bytes)) (bytes ++ drop (length bytes) buffer)

-- no two accepted files have the same images, and each list that is written has a bundle
pub record OneBundle (read : List ℕ → Reading) (image : List ℕ → ℕ → List ℕ) (write : List ℕ → List ℕ → List ℕ → Left) : Type 0 where
  pub same :
      (bytes other : List ℕ) (images : List (List ℕ)) → Bytes bytes → Bytes other → Holds read image bytes images
      → Holds read image other images → bytes ≡ other
  pub has_one :
      (images : List (List ℕ)) (buffer : List ℕ) (n : ℕ) → (write (lengths_of images) (joined images) buffer).result ≡ Ok n
      → Holds read image (bundled images) images

-- no second outcome fits what the calls promise, on the refused inputs too; and no two readings are true of the same bytes
pub record OneOutcome : Type 0 where
  pub meaning : (bytes : List ℕ) → Bytes bytes → (r s : Reading) → Says r bytes → Says s bytes → r ≡ s
  pub read : (bytes : List ℕ) (r s : Reading) → r ≡ read_of bytes → s ≡ read_of bytes → r ≡ s
  pub part : (bytes : List ℕ) (k : ℕ) (p q : Part) → p ≡ part_of bytes k → q ≡ part_of bytes k → p ≡ q
  pub image : (bytes : List ℕ) (k : ℕ) (l m : List ℕ) → l ≡ image_of bytes k → m ≡ image_of bytes k → l ≡ m
  pub write :
      (lengths images buffer : List ℕ) (l m : Left) → l ≡ write_of lengths images buffer → m ≡ write_of lengths images buffer
      → l ≡ m
