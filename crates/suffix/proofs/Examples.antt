-- A worked example, whose bytes are those that stock dfu-suffix makes of the same file and numbers; and one damage for each refusal.
-- Assumes nothing.
use Prim.Native.Nat.{ℕ}
use mathlib.Core.List.{List, [], ◌∷◌}
use mathlib.Core.Path.{◌≡◌, refl}
use lib.ListN.{take, set}
use Rattle.crc.specs.Crc.{bit_step, bit_steps, byte_step, crc_from, crc_of}
use Rattle.suffix.specs.declared.Parts.{Parts}
use Rattle.std.specs.Prelude.{Err}
use Rattle.suffix.specs.declared.Refusal.TheVariants.{Short, Signature, Length, Version, Sum}
use Rattle.suffix.specs.Suffix.{front_of, sum_bytes, suffixed, accepted, read_of}

-- the ASCII bytes 123456789
abbrev pub digits : List ℕ
digits = 49 ∷ 50 ∷ 51 ∷ 52 ∷ 53 ∷ 54 ∷ 55 ∷ 56 ∷ 57 ∷ []

abbrev pub parts : Parts
parts = record { device = 0x1234; product = 0x0002; vendor = 0x0451 }

abbrev pub file : List ℕ
file =
    49 ∷ 50 ∷ 51 ∷ 52 ∷ 53 ∷ 54 ∷ 55 ∷ 56 ∷ 57
    ∷ 0x34 ∷ 0x12 ∷ 0x02 ∷ 0x00 ∷ 0x51 ∷ 0x04 ∷ 0x00 ∷ 0x01 ∷ 0x55 ∷ 0x46 ∷ 0x44 ∷ 0x10 ∷ 0x57 ∷ 0x49 ∷ 0xB1 ∷ 0xB7 ∷ []

pub written_example : suffixed digits parts ≡ file
unfolding suffixed front_of sum_bytes crc_of crc_from byte_step bit_steps bit_step
written_example = refl

pub read_example : read_of file ≡ accepted parts 9
unfolding read_of crc_of crc_from byte_step bit_steps bit_step
read_example = refl

pub record Refusals : Type 0 where
  short : read_of (take 15 file) ≡ Err Short
  signature : read_of (set file 18 0x47) ≡ Err Signature
  length_byte : read_of (set file 20 0x11) ≡ Err Length
  version : read_of (set file 15 0x01) ≡ Err Version
  sum : read_of (set file 0 50) ≡ Err Sum

pub refusal_examples : Refusals
unfolding read_of crc_of crc_from byte_step bit_steps bit_step
refusal_examples = record { short = refl; signature = refl; length_byte = refl; version = refl; sum = refl }
