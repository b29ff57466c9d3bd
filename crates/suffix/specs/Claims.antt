-- What is promised of the suffix, as claims about any reader and any writer.
use Rattle.std.specs.Prelude.{ℕ, ◌+◌, ◌-◌, ◌^◌, ◌≤◌, ◌<◌, List, [], ◌∷◌, ◌++◌, ◌≡◌, length, take, drop, Ok, Err}
use Rattle.numbers.specs.Numbers.{bytes4}
use Rattle.crc.specs.Crc.{crc_of}
use Rattle.pieces.specs.Claims.{Bytes, Exactly}
use Rattle.suffix.specs.declared.Parts.{Parts}
use Rattle.suffix.specs.declared.Refusal.TheVariants.{Short, Signature, Length, Version, Sum}
use Rattle.suffix.specs.Suffix.{suffixed, Reading, accepted, read_of, unwritten, Left, left, write_of}

-- three numbers of 16 bits: what the parts are by their types
pub record Fits (p : Parts) : Type 0 where
  pub device : p.device < 2 ^ 16
  pub product : p.product < 2 ^ 16
  pub vendor : p.vendor < 2 ^ 16

-- n of the last 16 bytes, from one of them on
abbrev pub field : List ℕ → ℕ → ℕ → List ℕ
field bytes from n = take n (drop (length bytes - 16 + from) bytes)

-- what a file must meet, in the order of the refusals
abbrev pub LongEnough : List ℕ → Type 0
LongEnough bytes = 16 ≤ length bytes

abbrev pub Signed : List ℕ → Type 0
Signed bytes = field bytes 8 3 ≡ 0x55 ∷ 0x46 ∷ 0x44 ∷ []

abbrev pub Sized : List ℕ → Type 0
Sized bytes = field bytes 11 1 ≡ 0x10 ∷ []

abbrev pub Versioned : List ℕ → Type 0
Versioned bytes = field bytes 6 2 ≡ 0x00 ∷ 0x01 ∷ []

abbrev pub Summed : List ℕ → Type 0
Summed bytes = field bytes 12 4 ≡ bytes4 (crc_of (take (length bytes - 4) bytes))

-- bytes that are a file of n bytes with the suffix of these parts
pub record FileWith (bytes : List ℕ) (p : Parts) (n : ℕ) : Type 0 where
  pub file : List ℕ
  pub made : bytes ≡ suffixed file p
  pub long : length file ≡ n
  pub fits : Fits p

-- what each reading says of the bytes: a refusal, that all before it is met and it is not
abbrev pub Says : Reading → List ℕ → Type 0
Says (Ok s) bytes = FileWith bytes s.parts s.length
Says (Err Short) bytes = LongEnough bytes → ⊥
Says (Err Signature) bytes = LongEnough bytes × (Signed bytes → ⊥)
Says (Err Length) bytes = LongEnough bytes × Signed bytes × (Sized bytes → ⊥)
Says (Err Version) bytes = LongEnough bytes × Signed bytes × Sized bytes × (Versioned bytes → ⊥)
Says (Err Sum) bytes = LongEnough bytes × Signed bytes × Sized bytes × Versioned bytes × (Summed bytes → ⊥)

-- a reading is given exactly where it is true
abbrev pub AcceptsExactly : (List ℕ → Reading) → Type 0
AcceptsExactly read = (bytes : List ℕ) → Bytes bytes → (r : Reading) → Exactly (read bytes ≡ r) (Says r bytes)

-- no other reader does that
abbrev pub OneReader : Type 0
OneReader = (read : List ℕ → Reading) → AcceptsExactly read → (bytes : List ℕ) → Bytes bytes → read bytes ≡ read_of bytes

-- refused only for want of room, with the buffer as it was; else file and suffix at its front, and the rest of it as it was
pub record WritesExactly (write : List ℕ → Parts → List ℕ → Left) : Type 0 where
  pub no_room :
      (file : List ℕ) (p : Parts) (buffer : List ℕ) → length buffer < length file + 16
      → write file p buffer ≡ left unwritten buffer
  pub room :
      (file : List ℕ) (p : Parts) (buffer : List ℕ) → length file + 16 ≤ length buffer
      → write file p buffer ≡ left (Ok (length file + 16)) (suffixed file p ++ drop (length file + 16) buffer)

-- no other writer does that
abbrev pub OneWriter : Type 0
OneWriter =
    (write : List ℕ → Parts → List ℕ → Left) → WritesExactly write → (file : List ℕ) (p : Parts) (buffer : List ℕ)
    → write file p buffer ≡ write_of file p buffer

-- reading what was written gives the parts and the file back
abbrev pub ReadWritten : (List ℕ → Reading) → (List ℕ → Parts → List ℕ → Left) → Type 0
ReadWritten read write =
    (file : List ℕ) (p : Parts) (buffer : List ℕ) (n : ℕ) → Bytes file → Fits p → (write file p buffer).result ≡ Ok n
    → (read (take n (write file p buffer).buffer) ≡ accepted p (length file))
    × (take (length file) (write file p buffer).buffer ≡ file)

-- writing what was read gives the same bytes
abbrev pub WriteRead : (List ℕ → Reading) → (List ℕ → Parts → List ℕ → Left) → Type 0
WriteRead read write =
    (bytes : List ℕ) (p : Parts) (n : ℕ) (buffer : List ℕ) → Bytes bytes → read bytes ≡ accepted p n
    → length bytes ≤ length buffer
    → write (take n bytes) p buffer ≡ left (Ok (length bytes)) (bytes ++ drop (length bytes) buffer)

-- two accepted files with the same file and parts are equal
abbrev pub OneSuffix : (List ℕ → Reading) → Type 0
OneSuffix read =
    (bytes other : List ℕ) (p : Parts) (n m : ℕ) → Bytes bytes → Bytes other → read bytes ≡ accepted p n
    → read other ≡ accepted p m → take n bytes ≡ take m other → bytes ≡ other

-- no second outcome fits what the two calls promise, on the refused inputs too; and no two readings are true of the same bytes
pub record OneOutcome : Type 0 where
  pub meaning : (bytes : List ℕ) → Bytes bytes → (r s : Reading) → Says r bytes → Says s bytes → r ≡ s
  pub read : (bytes : List ℕ) (r s : Reading) → r ≡ read_of bytes → s ≡ read_of bytes → r ≡ s
  pub write :
      (file : List ℕ) (p : Parts) (buffer : List ℕ) (l m : Left) → l ≡ write_of file p buffer → m ≡ write_of file p buffer
      → l ≡ m
