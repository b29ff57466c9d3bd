-- The laws of the join: what a sum is after a block, from the block's own sum; and how so many bits go by half bytes. Assumes nothing.
use mathlib.Core.Path.{◌≡◌, refl, sym, ap, ap₂, ◌∙◌, subst}
use mathlib.Core.List.{List, [], ◌∷◌}
use Prim.Native.Nat.{ℕ, zero, suc, ◌+◌, ◌*◌, ◌/◌, ◌%◌, ◌^◌, ◌≤◌, ◌<◌}
use native.Mathlib.Nat.{zero-mul, mul-one, zero-add, suc-add, zero-lt-suc, mod-lt}
use native.Mathlib.Numerals.{add-one}
use native.Mathlib.Omega.{arith}
use lib.ListN.{length, get_or, drop, drop_of_length-le}
use lib.Seq.{drop-cons}
use lib.Pow.{shr_lt}
use lib.Bits.{bit_xor, xor_assoc, xor_comm, xor_self, xor_zero_l, xor_zero_r}
use Rattle.crc.specs.Crc.{start, bit_step, bit_steps, byte_step, crc_from, crc_of}
use Rattle.crc.specs.Join.{block_bits, joined, half_rows, past_halves}
use Rattle.crc.specs.Values.{values}
use Rattle.crc.proofs.Values.{values_at}
use Rattle.crc.proofs.Bits.{parted}
use Rattle.crc.proofs.Laws.{bits_xor}

-- ---- a block behind some bytes

-- bit steps one after the other, and those of nothing
pub bits_add : (m n c : ℕ) → bit_steps (m + n) c ≡ bit_steps n (bit_steps m c)
unfolding bit_steps
bits_add zero n c = ap (λ (k : ℕ). bit_steps k c) (zero-add n)
bits_add (suc m) n c = ap (λ (k : ℕ). bit_steps k c) (suc-add m n) ∙ bits_add m n (bit_step c)

pub bits_none : (n : ℕ) → bit_steps n 0 ≡ 0
unfolding bit_steps bit_step
bits_none zero = refl
bits_none (suc n) = bits_none n

-- what is put into the running value goes through the bits of the bytes, and through nothing else
pub crc_xor : (c d : ℕ) (xs : List ℕ) → crc_from (bit_xor c d) xs ≡ bit_xor (crc_from c xs) (bit_steps (length xs * 8) d)
unfolding crc_from byte_step bit_steps
crc_xor c d [] = refl
crc_xor c d (x ∷ xs) =
    let bits : 8 + length xs * 8 ≡ suc (length xs) * 8 = omega arith in
    ap (λ (n : ℕ). crc_from (bit_steps 8 n) xs) (xor_assoc c d x ∙ ap (bit_xor c) (xor_comm d x) ∙ sym (xor_assoc c x d))
    ∙ ap (λ (n : ℕ). crc_from n xs) (bits_xor 8 (bit_xor c x) d)
    ∙ crc_xor (byte_step c x) (bit_steps 8 d) xs
    ∙ ap (bit_xor (crc_from (byte_step c x) xs)) (sym (bits_add 8 (length xs * 8) d) ∙ ap (λ (n : ℕ). bit_steps n d) bits)

-- the law: a sum that goes on from c is the bytes' own sum, and what their bits make of the difference of c and the start
pub crc_law : (c : ℕ) (xs : List ℕ) → crc_from c xs ≡ bit_xor (crc_of xs) (bit_steps (length xs * 8) (bit_xor c start))
unfolding crc_of
crc_law c xs =
    ap (λ (n : ℕ). crc_from n xs) (sym (xor_zero_l c) ∙ ap (λ (n : ℕ). bit_xor n c) (sym (xor_self start)) ∙ xor_assoc start start c)
    ∙ ap (λ (n : ℕ). crc_from (bit_xor start n) xs) (xor_comm start c)
    ∙ crc_xor start (bit_xor c start) xs

-- the join is the law at a block
pub crc_joined : (c : ℕ) (block : List ℕ) → length block * 8 ≡ block_bits → crc_from c block ≡ joined c (crc_of block)
unfolding joined
crc_joined c block e =
    crc_law c block
    ∙ ap (λ (n : ℕ). bit_xor (crc_of block) (bit_steps n (bit_xor c start))) e
    ∙ xor_comm (crc_of block) (bit_steps block_bits (bit_xor c start))

-- ---- so many bits by half bytes

-- an entry of the rows is what the bits make of its half byte at its place
half_row :
    (f : ℕ → ℕ) (n from place : ℕ) → place < n
    → get_or (half_rows f from n) place [] ≡ values (λ digit. f (digit * 2 ^ ((from + place) * 4))) 0 16
unfolding half_rows
half_row f zero from place lt = let no : ⊥ = omega arith in absurd no
half_row f (suc n) from zero lt =
    let here : from ≡ from + 0 = omega arith in ap (λ (m : ℕ). values (λ digit. f (digit * 2 ^ (m * 4))) 0 16) here
half_row f (suc n) from (suc place) lt =
    let on : from + 1 + place ≡ from + suc place = omega arith in
    half_row f n (from + 1) place (omega arith) ∙ ap (λ (m : ℕ). values (λ digit. f (digit * 2 ^ (m * 4))) 0 16) on

pub half_at :
    (bits place d : ℕ) → place < 8 → d < 16
    → get_or (get_or (past_halves bits) place []) d 0 ≡ bit_steps bits (d * 2 ^ (place * 4))
unfolding past_halves
half_at bits place d near few =
    ap (λ (row : List ℕ). get_or row d 0) (half_row (bit_steps bits) 8 0 place near)
    ∙ values_at _ 16 d few
    ∙ ap (λ (m : ℕ). bit_steps bits (d * 2 ^ (m * 4))) (zero-add place)

-- the xor of what the half bytes of a number pick from rows, the lowest from the first
unfoldable pub picked : List (List ℕ) → ℕ → ℕ
picked [] number = 0
picked (row ∷ rows) number = bit_xor (get_or row (number % 16) 0) (picked rows (number / 16))

picked_steps :
    (bits n place number : ℕ) → number < 2 ^ (n * 4)
    → picked (half_rows (bit_steps bits) place n) number ≡ bit_steps bits (number * 2 ^ (place * 4))
unfolding half_rows picked
picked_steps bits zero place number few =
    let none : number ≡ 0 = omega arith in
    sym (ap (λ (m : ℕ). bit_steps bits (m * 2 ^ (place * 4))) none ∙ ap (bit_steps bits) (zero-mul (2 ^ (place * 4))) ∙ bits_none bits)
picked_steps bits (suc n) place number few =
    let on : (place + 1) * 4 ≡ place * 4 + 4 = omega arith in
    let size : suc n * 4 ≡ n * 4 + 4 = omega arith in
    let low : ℕ = number % 16 * 2 ^ (place * 4) in
    ap₂ bit_xor
    (values_at _ 16 (number % 16) (mod-lt number (zero-lt-suc 15)))
    (picked_steps bits n (place + 1) (number / 16) (shr_lt (n * 4) 4 (subst (λ (m : ℕ). number < 2 ^ m) size few))
    ∙ ap (λ (m : ℕ). bit_steps bits (number / 16 * 2 ^ m)) on)
    ∙ sym (bits_xor bits low (number / 16 * 2 ^ (place * 4 + 4)))
    ∙ ap (bit_steps bits) (parted 4 (place * 4) number)

-- the rows of so many bits do what the bits do
pub picked_bits : (bits number : ℕ) {rows : List (List ℕ)} → rows ≡ past_halves bits → number < 2 ^ 32 → picked rows number ≡ bit_steps bits number
unfolding past_halves
picked_bits bits number {rows} e few =
    ap (λ (l : List (List ℕ)). picked l number) e ∙ picked_steps bits 8 0 number few ∙ ap (bit_steps bits) (mul-one number)

-- the rows of so many bits are eight
pub rows_length : (bits : ℕ) {rows : List (List ℕ)} → rows ≡ past_halves bits → length rows ≡ 8
unfolding past_halves half_rows
rows_length bits e = ap length e

-- the walk over the rows: what is picked so far, and what is left to pick
pub picked_next :
    (rows : List (List ℕ)) (i left sum : ℕ) → i < length rows
    → bit_xor (bit_xor sum (get_or (get_or rows i []) (left % 16) 0)) (picked (drop (i + 1) rows) (left / 16))
    ≡ bit_xor sum (picked (drop i rows) left)
unfolding picked
picked_next rows i left sum near =
    let row : List ℕ = get_or rows i [] in
    rw (drop-cons rows i [], add-one) (xor_assoc sum (get_or row (left % 16) 0) (picked (drop (suc i) rows) (left / 16)))

pub picked_done : (rows : List (List ℕ)) (i left sum : ℕ) → length rows ≤ i → bit_xor sum (picked (drop i rows) left) ≡ sum
unfolding picked
picked_done rows i left sum all = rw (drop_of_length-le rows all) (xor_zero_r sum)

pub ruleset walks = (xor_zero_l, rows_length, picked_next, picked_done, picked_bits)
