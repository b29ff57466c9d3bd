-- What a script holds, and the flash that every run begins with.
use Rattle.std.specs.Prelude.{ℕ, zero, suc, ◌+◌, ◌*◌, ◌/◌, ◌%◌, cond, ◌&&◌, List, Option, Some, None, eqb, leb, ltb, length, ◌≡◌, ◌<◌, ◌≤◌, get_or, take, drop}
use Rattle.std.specs.Io.KnownBytes.{Consumes, IsAtEnd}
use Rattle.flash.specs.Flash.{block_size}
use Rattle.crc.specs.Values.{values}
use Rattle.numbers.specs.Numbers.{word_at, long_at}
use Rattle.script.specs.declared.tape.Head.{Head}

-- the head: A, B and the two part numbers, low byte first
unfoldable pub head_of : List ℕ → Head
head_of script =
    record {
      a = get_or script 0 0;
      b = get_or script 1 0;
      part0 = long_at script 2;
      part1 = long_at script 6;
    }

-- where the setup of a record ends: a byte says how many bytes it has
abbrev pub setup_end : List ℕ → ℕ
setup_end rest = get_or rest 0 0 + 1

-- where the data of a record ends: two bytes after the setup say how many bytes it has
abbrev pub data_end : List ℕ → ℕ
data_end rest = setup_end rest + 2 + word_at rest (setup_end rest)

-- a call: its setup, its data, and what follows its record
pub record Call : Type 0 where
  pub setup : List ℕ
  pub «data» : List ℕ
  pub rest : List ℕ

abbrev pub call_with : List ℕ → List ℕ → List ℕ → Call
call_with setup bytes rest = record { setup = setup; «data» = bytes; rest = rest }

-- the call whose record the rest of a script begins with; none at the end, nor where the record is cut short
unfoldable pub record_of : List ℕ → Option Call
record_of rest =
    cond (ltb (length rest) (setup_end rest + 2)) None
    (cond (ltb (length rest) (data_end rest)) None
    (Some
    (call_with (take (get_or rest 0 0) (drop 1 rest)) (take (word_at rest (setup_end rest)) (drop (setup_end rest + 2) rest))
    (drop (data_end rest) rest))))

-- one call for a whole record, and those counted in what follows it; nothing where there is none
unfoldable pub count_with : (List ℕ → ℕ) → Option Call → ℕ
count_with count (Some call) = 1 + count call.rest
count_with count None = 0

-- the calls that the rest of a script holds, up to its end or to a record that is cut short; n at most
unfoldable pub count_from : ℕ → List ℕ → ℕ
count_from zero rest = 0
count_from (suc n) rest = count_with (count_from n) (record_of rest)

-- all of them; every record takes some bytes, so there are no more calls than bytes
abbrev pub calls_in : List ℕ → ℕ
calls_in rest = count_from (length rest) rest

-- the calls of a script: none where it is too short for a head of ten bytes
unfoldable pub calls_of : List ℕ → ℕ
calls_of script = cond (ltb (length script) 10) 0 (calls_in (drop 10 script))

-- byte i of the flash at first: a pattern, with every even-numbered block from A on erased
unfoldable pub first_byte : ℕ → ℕ → ℕ
first_byte a i = cond (leb a (i / block_size) && eqb (i / block_size % 2) 0) 255 ((i * 7 + i / 256) % 251)

-- the flash at first, of so many bytes
unfoldable pub first_flash : ℕ → ℕ → List ℕ
first_flash a n = values (first_byte a) 0 n

-- the bytes of a script that are read at most
abbrev pub most_bytes : ℕ
most_bytes = 65536

-- so many calls were in the bytes taken from a reader: as many bytes as are read at most, or fewer where the reader had no more
pub record PlaysInput (before after : Option (List ℕ)) (calls : ℕ) : Type 0 where
  pub bytes : List ℕ
  pub taken : Consumes before after bytes
  pub few : length bytes ≤ most_bytes
  pub all : length bytes < most_bytes → IsAtEnd after
  pub counted : calls ≡ calls_of bytes
