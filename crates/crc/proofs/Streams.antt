-- Eight sums side by side: a turn takes four bytes of each eighth, and the eighths' sums join to that of the block. Assumes nothing.
use mathlib.Core.Path.{◌≡◌, refl, sym, ap, ap₂, ◌∙◌}
use mathlib.Core.List.{List, foldl, ◌++◌}
use Prim.Native.Nat.{ℕ, zero, suc, ◌+◌, ◌-◌, ◌*◌, ◌/◌, ◌%◌, ◌≤◌, ◌<◌}
use native.Mathlib.Decide.{ℕ_discrete}
use native.Mathlib.Nat.{mul-le-mul_right, add-mul-mod_self_right}
use native.Mathlib.Omega.{arith}
use lib.ListN.{length, get_or, set, replicate, take, drop, length-set, length-drop}
use Rattle.std.proofs.lemmas.List.{take-append-drop, nil_from_length}
use lib.Seq.{get_or-set_same, get_or-set_other}
use lib.Bits.{bit_xor, xor_assoc, xor_comm, xor_zero_l, xor_zero_r, xor_shifted}
use Rattle.numbers.specs.Numbers.{long_at}
use Rattle.crc.specs.Crc.{bit_steps, byte_step, crc_from}
use Rattle.crc.specs.Eighths.{each_from, with_four, one_byte_on, first_sums, Ahead, joined_past, eighths_join}
use Rattle.crc.proofs.Folds.{fold_next, fold_done}
use Rattle.crc.proofs.Laws.{crc_append, bits_xor, bits_shifted}
use Rattle.crc.proofs.Joins.{bits_add, crc_xor}

-- ---- each of some numbers anew, by its element and as a loop

each_length : (n : ℕ) (f : ℕ → ℕ → ℕ) (l : List ℕ) (k : ℕ) → length (each_from f l k n) ≡ length l
unfolding each_from
each_length zero f l k = refl
each_length (suc n) f l k = each_length n f (set l k (f k (get_or l k 0))) (k + 1) ∙ length-set l k (f k (get_or l k 0))

each_before : (n : ℕ) (f : ℕ → ℕ → ℕ) (l : List ℕ) (k j : ℕ) → j < k → get_or (each_from f l k n) j 0 ≡ get_or l j 0
unfolding each_from
each_before zero f l k j h = refl
each_before (suc n) f l k j h =
    let other : j ≡ k → ⊥ = λ q. omega arith in
    each_before n f (set l k (f k (get_or l k 0))) (k + 1) j (omega arith) ∙ get_or-set_other l k j (f k (get_or l k 0)) 0 other

each_at :
    (n : ℕ) (f : ℕ → ℕ → ℕ) (l : List ℕ) (k j : ℕ) → k ≤ j → j < k + n → j < length l
    → get_or (each_from f l k n) j 0 ≡ f j (get_or l j 0)
unfolding each_from
each_at zero f l k j lo hi in_list = absurd (omega arith)
each_at (suc n) f l k j lo hi in_list =
    let v : ℕ = f k (get_or l k 0) in
    elim (ℕ_discrete j k) [
      | yes q ↦
          each_before n f (set l k v) (k + 1) j (omega arith)
          ∙ ap (λ (i : ℕ). get_or (set l k v) i 0) q
          ∙ get_or-set_same l k v 0 (omega arith)
          ∙ ap (λ (i : ℕ). f i (get_or l i 0)) (sym q)
      | no other ↦
          each_at n f (set l k v) (k + 1) j (omega arith) (omega arith) (rw length-set in_list)
          ∙ ap (f j) (get_or-set_other l k j v 0 other)
    ]

pub each_turn :
    (f : ℕ → ℕ → ℕ) (l : List ℕ) (k high v : ℕ) → k < high → v ≡ f k (get_or l k 0)
    → each_from f (set l k v) (k + 1) (high - (k + 1)) ≡ each_from f l k (high - k)
unfolding each_from
each_turn f l k high v lt e =
    let n : ℕ = high - (k + 1) in
    let m : high - k ≡ suc n = omega arith in
    ap (λ (x : ℕ). each_from f (set l k x) (k + 1) n) e ∙ sym (ap (each_from f l k) m)

pub each_done : (f : ℕ → ℕ → ℕ) (l : List ℕ) (k high : ℕ) → high ≤ k → each_from f l k (high - k) ≡ l
unfolding each_from
each_done f l k high le = let z : high - k ≡ 0 = omega arith in ap (each_from f l k) z

-- ---- four bytes at once

-- a byte of what was put in goes through, and what stands above it moves down
low_byte : (c x above : ℕ) → x < 256 → byte_step (bit_xor c (x + above * 256)) 0 ≡ bit_xor (byte_step c x) above
unfolding byte_step
low_byte c x above h =
    let turned : x + above * 256 ≡ above * 256 + x = omega arith in
    ap (bit_steps 8)
    (xor_zero_r (bit_xor c (x + above * 256))
    ∙ ap (bit_xor c) (turned ∙ sym (xor_shifted above 8 x h) ∙ xor_comm (above * 256) x)
    ∙ sym (xor_assoc c x (above * 256)))
    ∙ bits_xor 8 (bit_xor c x) (above * 256)
    ∙ ap (bit_xor (byte_step c x)) (bits_shifted 8 above)

-- the last one has nothing above it
last_byte : (c x : ℕ) → byte_step (bit_xor c x) 0 ≡ byte_step c x
unfolding byte_step
last_byte c x = ap (bit_steps 8) (xor_zero_r (bit_xor c x))

-- one byte more is taken in
byte_on :
    (c : ℕ) (bytes : List ℕ) (i j : ℕ) → j ≡ i + 1 → i < length bytes
    → crc_from (byte_step c (get_or bytes i 0)) (drop j bytes) ≡ crc_from c (drop i bytes)
unfolding crc_from
byte_on c bytes i j e h =
    ap (λ (k : ℕ). crc_from (byte_step c (get_or bytes i 0)) (drop k bytes)) e ∙ fold_next byte_step c _ bytes i h refl

-- all that was put in is gone through
abbrev four_bytes_on : ℕ → ℕ
four_bytes_on c = byte_step (byte_step (byte_step (byte_step c 0) 0) 0) 0

four_on :
    (c : ℕ) (bytes : List ℕ) (i : ℕ) → ((k : ℕ) → get_or bytes k 0 < 256) → i + 4 ≤ length bytes
    → crc_from (four_bytes_on (bit_xor c (long_at bytes i))) (drop (i + 4) bytes) ≡ crc_from c (drop i bytes)
four_on c bytes i few inside =
    let x : ℕ = get_or bytes i 0 in
    let y : ℕ = get_or bytes (i + 1) 0 in
    let z : ℕ = get_or bytes (i + 2) 0 in
    let w : ℕ = get_or bytes (i + 3) 0 in
    let place : i + 2 + 1 ≡ i + 3 = omega arith in
    let same : get_or bytes (i + 2 + 1) 0 ≡ w = ap (λ (k : ℕ). get_or bytes k 0) place in
    let nested : long_at bytes i ≡ x + (y + (z + w * 256) * 256) * 256 = omega arith in
    ap (λ (n : ℕ). crc_from n (drop (i + 4) bytes))
    (ap (λ (n : ℕ). four_bytes_on (bit_xor c n)) nested
    ∙ ap (λ (n : ℕ). byte_step (byte_step (byte_step n 0) 0) 0) (low_byte c x _ (few i))
    ∙ ap (λ (n : ℕ). byte_step (byte_step n 0) 0) (low_byte (byte_step c x) y _ (few (i + 1)))
    ∙ ap (λ (n : ℕ). byte_step n 0) (low_byte (byte_step (byte_step c x) y) z w (few (i + 2)))
    ∙ last_byte (byte_step (byte_step (byte_step c x) y) z) w)
    ∙ byte_on _ bytes (i + 3) (i + 4) (omega arith) (omega arith)
    ∙ byte_on _ bytes (i + 2) (i + 3) (omega arith) (omega arith)
    ∙ byte_on _ bytes (i + 1) (i + 2) (omega arith) (omega arith)
    ∙ byte_on c bytes i (i + 1) refl (omega arith)

-- ---- a turn, and turn after turn

stepped :
    (before : List ℕ) {after : List ℕ} (s : ℕ) → after ≡ each_from one_byte_on before 0 8 → s < 8 → s < length before
    → get_or after s 0 ≡ byte_step (get_or before s 0) 0
stepped before s e near in_list = ap (λ (l : List ℕ). get_or l s 0) e ∙ each_at 8 one_byte_on before 0 s (omega arith) (omega arith) in_list

same_length : (f : ℕ → ℕ → ℕ) (before : List ℕ) {after : List ℕ} → after ≡ each_from f before 0 8 → length after ≡ length before
same_length f before e = ap length e ∙ each_length 8 f before 0

-- a place of an eighth lies where the last eighth's still fits
pub place_inside : (at s eighth n end : ℕ) → s < 8 → at + 7 * eighth + n ≤ end → at + s * eighth + n ≤ end
place_inside at s eighth n end near inside =
    let below : s * eighth ≤ 7 * eighth = mul-le-mul_right eighth (omega arith) in
    omega arith

pub turn_ahead :
    {bytes sums put one two three four : List ℕ} {at eighth : ℕ} → ((k : ℕ) → get_or bytes k 0 < 256)
    → at + 7 * eighth + 4 ≤ length bytes → put ≡ each_from (with_four bytes at eighth) sums 0 8 → one ≡ each_from one_byte_on put 0 8
    → two ≡ each_from one_byte_on one 0 8 → three ≡ each_from one_byte_on two 0 8 → four ≡ each_from one_byte_on three 0 8
    → Ahead bytes at eighth 4 sums four
turn_ahead {bytes} {sums} {put} {one} {two} {three} {four} {at} {eighth} few inside p a b c d =
    let long_put : length put ≡ length sums = same_length (with_four bytes at eighth) sums p in
    let long_one : length one ≡ length sums = same_length one_byte_on put a ∙ long_put in
    let long_two : length two ≡ length sums = same_length one_byte_on one b ∙ long_one in
    let long_three : length three ≡ length sums = same_length one_byte_on two c ∙ long_two in
    record {
      long = same_length one_byte_on three d ∙ long_three;
      each = λ s near in_list.
          let i : ℕ = at + s * eighth in
          ap (λ (n : ℕ). crc_from n (drop (i + 4) bytes))
          (stepped three s d near (omega arith)
          ∙ ap (λ (n : ℕ). byte_step n 0) (stepped two s c near (omega arith))
          ∙ ap (λ (n : ℕ). byte_step (byte_step n 0) 0) (stepped one s b near (omega arith))
          ∙ ap (λ (n : ℕ). byte_step (byte_step (byte_step n 0) 0) 0) (stepped put s a near (omega arith))
          ∙ ap four_bytes_on (ap (λ (l : List ℕ). get_or l s 0) p ∙ each_at 8 (with_four bytes at eighth) sums 0 s (omega arith) (omega arith) in_list))
          ∙ four_on (get_or sums s 0) bytes i few (place_inside at s eighth 4 (length bytes) near inside);
    }

-- n bytes of each eighth, and m more
pub ahead_more :
    {bytes before between after : List ℕ} {at next eighth n m all : ℕ} → all ≡ n + m → next ≡ at + n
    → Ahead bytes at eighth n before between → Ahead bytes next eighth m between after → Ahead bytes at eighth all before after
ahead_more {bytes} {before} {between} {after} {at} {next} {eighth} {n} {m} {all} e there first then =
    record {
      long = then.long ∙ first.long;
      each = λ s near in_list.
          let p : ℕ = s * eighth in
          let far : at + p + all ≡ next + p + m = omega arith in
          let near_by : next + p ≡ at + p + n = omega arith in
          let long : length between ≡ length before = first.long in
          ap (λ (k : ℕ). crc_from (get_or after s 0) (drop k bytes)) far
          ∙ then.each s near (omega arith)
          ∙ ap (λ (k : ℕ). crc_from (get_or between s 0) (drop k bytes)) near_by
          ∙ first.each s near in_list;
    }

-- ---- the join of the eighths

-- a sum of the n bytes from a place on that started from nothing joins the running one, which goes through the bits of those bytes
pub joined_on :
    (bytes : List ℕ) (at n bits j s c : ℕ) → bits ≡ n * 8 → at + n ≤ length bytes
    → crc_from s (drop (at + n) bytes) ≡ crc_from 0 (drop at bytes) → crc_from j (drop at bytes) ≡ c
    → crc_from (bit_xor (bit_steps bits j) s) (drop (at + n) bytes) ≡ c
joined_on bytes at n bits j s c e inside own before =
    let left : length (drop (at + n) bytes) ≡ length bytes - (at + n) = length-drop (at + n) bytes in
    let all : length (drop at bytes) ≡ length bytes - at = length-drop at bytes in
    let sizes : bits + length (drop (at + n) bytes) * 8 ≡ length (drop at bytes) * 8 = omega arith in
    ap (λ (k : ℕ). crc_from k (drop (at + n) bytes)) (xor_comm (bit_steps bits j) s)
    ∙ crc_xor s (bit_steps bits j) (drop (at + n) bytes)
    ∙ ap₂ bit_xor own (sym (bits_add bits (length (drop (at + n) bytes) * 8) j) ∙ ap (λ (k : ℕ). bit_steps k j) sizes)
    ∙ sym (crc_xor 0 j (drop at bytes))
    ∙ ap (λ (k : ℕ). crc_from k (drop at bytes)) (xor_zero_l j)
    ∙ before

-- behind the first of eight sums stand those that start from nothing
zeros : (n i : ℕ) → ◌≡◌ {A = ℕ} (get_or (replicate n 0) i 0) 0
zeros zero i = refl
zeros (suc n) zero = refl
zeros (suc n) (suc i) = zeros n i

-- the first eighth's sum stands for all before the second
pub first_eighth :
    {bytes sums : List ℕ} {at eighth running : ℕ} → Ahead bytes at eighth eighth (first_sums running) sums
    → crc_from (get_or sums 0 0) (drop (at + 1 * eighth) bytes) ≡ crc_from running (drop at bytes)
first_eighth {bytes} {sums} {at} {eighth} {running} a =
    let here : at + 0 * eighth ≡ at = omega arith in
    let there : at + 1 * eighth ≡ at + 0 * eighth + eighth = omega arith in
    ap (λ (k : ℕ). crc_from (get_or sums 0 0) (drop k bytes)) there
    ∙ a.each 0 (omega arith) (omega arith)
    ∙ ap (λ (k : ℕ). crc_from running (drop k bytes)) here

-- the next one joins
pub next_eighth :
    (s j : ℕ) {bytes sums : List ℕ} {at eighth running past : ℕ}
    → Ahead bytes at eighth eighth (first_sums running) sums → at + 8 * eighth ≤ length bytes → 0 < s → s < 8
    → past ≡ bit_steps (eighth * 8) j → crc_from j (drop (at + s * eighth) bytes) ≡ crc_from running (drop at bytes)
    → crc_from (bit_xor past (get_or sums s 0)) (drop (at + (s + 1) * eighth) bytes) ≡ crc_from running (drop at bytes)
next_eighth zero j a inside some near e before = absurd (omega arith)
next_eighth (suc i) j {bytes} {sums} {at} {eighth} {running} {past} a inside some near e before =
    let s : ℕ = suc i in
    let there : at + (s + 1) * eighth ≡ at + s * eighth + eighth = omega arith in
    ap₂ (λ (p k : ℕ). crc_from (bit_xor p (get_or sums s 0)) (drop k bytes)) e there
    ∙ joined_on bytes (at + s * eighth) eighth (eighth * 8) j (get_or sums s 0) (crc_from running (drop at bytes)) refl
    (place_inside at s eighth eighth (length bytes) near (omega arith))
    (a.each s near (omega arith) ∙ ap (λ (n : ℕ). crc_from n (drop (at + s * eighth) bytes)) (zeros 7 i))
    before

joined_from_lem :
    (n s j : ℕ) {bytes sums : List ℕ} {at eighth running : ℕ}
    → Ahead bytes at eighth eighth (first_sums running) sums → at + 8 * eighth ≤ length bytes → 0 < s → s + n ≡ 8
    → crc_from j (drop (at + s * eighth) bytes) ≡ crc_from running (drop at bytes)
    → crc_from (foldl (joined_past (eighth * 8)) j (drop s sums)) (drop (at + 8 * eighth) bytes) ≡ crc_from running (drop at bytes)
joined_from_lem zero s j {bytes} {sums} {at} {eighth} {running} a inside some e before =
    let last : s ≡ 8 = omega arith in
    let long : length sums ≡ 8 = a.long in
    ap (λ (n : ℕ). crc_from n (drop (at + 8 * eighth) bytes)) (fold_done (joined_past (eighth * 8)) j sums s (omega arith))
    ∙ sym (ap (λ (k : ℕ). crc_from j (drop (at + k * eighth) bytes)) last)
    ∙ before
joined_from_lem (suc n) s j {bytes} {sums} {at} {eighth} {running} a inside some e before =
    let long : length sums ≡ 8 = a.long in
    let next : ℕ = joined_past (eighth * 8) j (get_or sums s 0) in
    ap (λ (m : ℕ). crc_from m (drop (at + 8 * eighth) bytes)) (sym (fold_next (joined_past (eighth * 8)) j next sums s (omega arith) refl))
    ∙ joined_from_lem n (s + 1) next a inside (omega arith) (omega arith) (next_eighth s j a inside some (omega arith) refl before)

-- all eight
pub eighths_joined :
    {bytes sums : List ℕ} {at eighth running sum : ℕ}
    → Ahead bytes at eighth eighth (first_sums running) sums → sum ≡ eighths_join (eighth * 8) sums
    → (end : ℕ) → end ≡ at + 8 * eighth → end ≤ length bytes → crc_from sum (drop end bytes) ≡ crc_from running (drop at bytes)
eighths_joined {bytes} {sums} {at} {eighth} {running} {sum} a j end e inside =
    ap₂ (λ (n k : ℕ). crc_from n (drop k bytes)) j e
    ∙ joined_from_lem 7 1 (get_or sums 0 0) a (omega arith) (omega arith) (omega arith) (first_eighth a)

-- a part is gone over: its sum comes of those of its eighths, and the rest goes on from it
pub part_on :
    (bytes : List ℕ) {part after sums : List ℕ} {running sum : ℕ} (size : ℕ) → size % 32 ≡ 0 → part ≡ take size bytes → after ≡ drop size bytes
    → length part ≡ size → Ahead part 0 (size / 8) (size / 8) (first_sums running) sums → sum ≡ eighths_join size sums
    → crc_from sum after ≡ crc_from running bytes
unfolding crc_from
part_on bytes {part} {after} {sums} {running} {sum} size whole front back long a j =
    let eighth : ℕ = size / 8 in
    let bits : size ≡ eighth * 8 = omega arith in
    let end : ℕ = 0 + 8 * eighth in
    let own : sum ≡ crc_from running part =
    sym (fold_done byte_step sum part end (omega arith))
    ∙ eighths_joined a (j ∙ ap (λ (n : ℕ). eighths_join n sums) bits) end refl (omega arith) in
    ap₂ crc_from own back
    ∙ sym (crc_append running part (drop size bytes))
    ∙ ap (λ (front_part : List ℕ). crc_from running (front_part ++ drop size bytes)) front
    ∙ ap (crc_from running) (take-append-drop size bytes)

-- a part less leaves as much beyond whole parts
pub parts_left : (size n m : ℕ) → m + size ≡ n → m % size ≡ n % size
parts_left size n m e =
    let all : m + 1 * size ≡ n = omega arith in
    sym (add-mul-mod_self_right m 1 size) ∙ ap (λ (k : ℕ). k % size) all

-- the bytes that fill no block, and then the blocks
pub blocks_on :
    (bytes odd blocks left : List ℕ) (running sum last : ℕ) → bytes ≡ odd ++ blocks → sum ≡ crc_from running odd → length left ≡ 0
    → crc_from last left ≡ crc_from sum blocks → last ≡ crc_from running bytes
unfolding crc_from
blocks_on bytes odd blocks left running sum last e own none same =
    sym (ap (crc_from last) (nil_from_length left none)) ∙ same ∙ ap (λ (n : ℕ). crc_from n blocks) own ∙ sym (crc_append running odd blocks)
    ∙ ap (crc_from running) (sym e)
