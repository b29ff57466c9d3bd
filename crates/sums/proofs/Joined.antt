-- The sums of blocks in a row, joined, are the sum of their bytes. Assumes nothing.
use Prim.Native.Nat.{ℕ, zero, suc, ◌+◌, ◌-◌, ◌*◌, ◌≤◌, ◌<◌}
use mathlib.Core.List.{List, ◌++◌}
use mathlib.Core.Path.{◌≡◌, sym, ap, ap₂, ◌∙◌}
use native.Mathlib.Numerals.{add-one}
use native.Mathlib.Omega.{arith}
use lib.ListN.{length, get_or, take, drop}
use lib.Seq.{drop-cons, drop-drop, take-add}
use Rattle.crc.specs.Crc.{crc_from, crc_of, start}
use Rattle.crc.specs.Join.{block_bits, joined, joined_from, joined_of}
use Rattle.crc.proofs.Laws.{crc_append}
use Rattle.crc.proofs.Joins.{crc_joined}
use Rattle.flash.specs.Flash.{block_size, start_of, range}
use Rattle.flash.proofs.Laws.{length-range}
use Rattle.sums.specs.Sum.{blocks_of, block_sum, whole_sum, joined_sum}

-- a block of bytes that are there has a block's bits
block_bits_lem : (f : List ℕ) (k : ℕ) → start_of (k + 1) ≤ length f → length (blocks_of f k (k + 1)) * 8 ≡ block_bits
unfolding blocks_of
block_bits_lem f k h =
    let n : start_of (k + 1) - start_of k ≡ block_size = omega arith in
    ap (λ (x : ℕ). length (range f (start_of k) x) * 8) n ∙ ap (λ (x : ℕ). x * 8) (length-range f (start_of k) block_size (omega arith))

-- the first of some blocks, and the others
blocks_cons : (f : List ℕ) (k n : ℕ) → blocks_of f k (k + suc n) ≡ blocks_of f k (k + 1) ++ blocks_of f (k + 1) (k + 1 + n)
unfolding blocks_of range
blocks_cons f k n =
    let one : start_of (k + 1) - start_of k ≡ block_size = omega arith in
    let all : start_of (k + suc n) - start_of k ≡ block_size + n * block_size = omega arith in
    let rest : start_of (k + 1 + n) - start_of (k + 1) ≡ n * block_size = omega arith in
    let next : start_of k + block_size ≡ start_of (k + 1) = omega arith in
    ap (λ (x : ℕ). take x (drop (start_of k) f)) all
    ∙ take-add block_size (n * block_size) (drop (start_of k) f)
    ∙ ap₂ ◌++◌
    (sym (ap (λ (x : ℕ). take x (drop (start_of k) f)) one))
    (ap (take (n * block_size)) (drop-drop block_size (start_of k) f ∙ ap (λ (x : ℕ). drop x f) next)
    ∙ sym (ap (λ (x : ℕ). take x (drop (start_of (k + 1)) f)) rest))

-- a block behind some bytes is joined by its sum
block_joined : (f : List ℕ) (k c : ℕ) → start_of (k + 1) ≤ length f → joined c (block_sum f k) ≡ crc_from c (blocks_of f k (k + 1))
unfolding block_sum
block_joined f k c h = sym (crc_joined c (blocks_of f k (k + 1)) (block_bits_lem f k h))

-- n blocks from block k on, behind what left the running value c
joined_row :
    (f block : List ℕ) (n k c : ℕ) → start_of (k + n) ≤ length f → k + n ≤ length block
    → ((i : ℕ) → k ≤ i → i < k + n → get_or block i 0 ≡ block_sum f i)
    → joined_from c (take n (drop k block)) ≡ crc_from c (blocks_of f k (k + n))
unfolding joined_from crc_from blocks_of range
joined_row f block zero k c inside long each =
    let none : start_of (k + 0) - start_of k ≡ 0 = omega arith in
    sym (ap (λ (n : ℕ). crc_from c (take n (drop (start_of k) f))) none)
joined_row f block (suc n) k c inside long each =
    let next : ℕ = crc_from c (blocks_of f k (k + 1)) in
    ap (λ (l : List ℕ). joined_from c (take (suc n) l)) (drop-cons block k 0 (omega arith))
    ∙ ap (λ (x : ℕ). joined_from x (take n (drop (suc k) block)))
    (ap (joined c) (each k (omega arith) (omega arith)) ∙ block_joined f k c (omega arith))
    ∙ ap (λ (x : ℕ). joined_from next (take n (drop x block))) (sym (add-one k))
    ∙ joined_row f block n (k + 1) next (omega arith) (omega arith) (λ i lo hi. each i (omega arith) (omega arith))
    ∙ sym (ap (crc_from c) (blocks_cons f k n) ∙ crc_append c (blocks_of f k (k + 1)) (blocks_of f (k + 1) (k + 1 + n)))

-- the application's sum is that of its blocks' sums, joined
pub joined-whole :
    (f block : List ℕ) (a e : ℕ) → a ≤ e → start_of e ≤ length f → e ≤ length block
    → ((k : ℕ) → a ≤ k → k < e → get_or block k 0 ≡ block_sum f k) → joined_sum block a e ≡ whole_sum f a e
unfolding joined_sum joined_of whole_sum crc_of
joined-whole f block a e ordered inside long each =
    let all : a + (e - a) ≡ e = omega arith in
    joined_row f block (e - a) a start (omega arith) (omega arith) (λ k lo hi. each k lo (omega arith))
    ∙ ap (λ (x : ℕ). crc_from start (blocks_of f a x)) all
