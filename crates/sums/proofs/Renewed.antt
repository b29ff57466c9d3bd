-- Block sums made anew, by their elements, and one turn of the loop that makes them. Assumes nothing.
use Prim.Native.Nat.{ℕ, zero, suc, ◌+◌, ◌-◌, ◌≤◌, ◌<◌}
use mathlib.Core.List.{List}
use mathlib.Core.Logic.{◌⊎◌, inl, inr, ⊎_elim}
use mathlib.Core.Path.{◌≡◌, refl, sym, ap, ap₂, ◌∙◌}
use native.Mathlib.Decide.{ℕ_discrete}
use native.Mathlib.Omega.{arith}
use lib.ListN.{length, get_or, set, length-set}
use lib.Seq.{get_or-set_same, get_or-set_other}
use Rattle.sums.specs.Sum.{block_sum, joined_sum, renewed, refreshed}
use Rattle.sums.specs.declared.Sums.{Sums}

pub renewed-length : (n : ℕ) (l f : List ℕ) (k : ℕ) → length (renewed l f k n) ≡ length l
unfolding renewed
renewed-length zero l f k = refl
renewed-length (suc n) l f k = renewed-length n (set l k (block_sum f k)) f (k + 1) ∙ length-set l k (block_sum f k)

pub renewed_other : (n : ℕ) (l f : List ℕ) (k j : ℕ) → (j < k) ⊎ (k + n ≤ j) → get_or (renewed l f k n) j 0 ≡ get_or l j 0
unfolding renewed
renewed_other zero l f k j o = refl
renewed_other (suc n) l f k j o =
    let ne : j ≡ k → ⊥ = λ q. ⊎_elim (λ h. omega arith) (λ h. omega arith) o in
    renewed_other n (set l k (block_sum f k)) f (k + 1) j (⊎_elim (λ h. inl (omega arith)) (λ h. inr (omega arith)) o)
    ∙ get_or-set_other l k j (block_sum f k) 0 ne

pub renewed_at : (n : ℕ) (l f : List ℕ) (k j : ℕ) → k ≤ j → j < k + n → j < length l → get_or (renewed l f k n) j 0 ≡ block_sum f j
unfolding renewed
renewed_at zero l f k j lo hi in_list = absurd (omega arith)
renewed_at (suc n) l f k j lo hi in_list =
    let v : ℕ = block_sum f k in
    elim (ℕ_discrete j k) [
      | yes q ↦
          renewed_other n (set l k v) f (k + 1) j (inl (omega arith))
          ∙ ap (λ (i : ℕ). get_or (set l k v) i 0) q
          ∙ get_or-set_same l k v 0 (omega arith)
          ∙ ap (block_sum f) (sym q)
      | no ne ↦ renewed_at n (set l k v) f (k + 1) j (omega arith) (omega arith) (rw length-set in_list)
    ]

-- the loop: what is left to make anew, after one more block
pub renewed_turn :
    (l f : List ℕ) (k high v : ℕ) → k < high → v ≡ block_sum f k
    → renewed (set l k v) f (k + 1) (high - (k + 1)) ≡ renewed l f k (high - k)
unfolding renewed
renewed_turn l f k high v lt e =
    let n : ℕ = high - (k + 1) in
    let m : high - k ≡ suc n = omega arith in
    ap (λ (x : ℕ). renewed (set l k x) f (k + 1) n) e ∙ sym (ap (renewed l f k) m)

pub renewed-done : (l f : List ℕ) (k high : ℕ) → high ≤ k → renewed l f k (high - k) ≡ l
unfolding renewed
renewed-done l f k high le = let z : high - k ≡ 0 = omega arith in ap (renewed l f k) z

-- behind the loop: what has the block sums anew and the whole joined from them is refreshed
pub refreshed-by :
    (kept : Sums) (f : List ℕ) (a e first stop : ℕ) {block : List ℕ} {whole : ℕ} → block ≡ renewed kept.block f first (stop - first)
    → whole ≡ joined_sum block a e → record { block = block; whole = whole } ≡ refreshed kept f a e first stop
unfolding refreshed
refreshed-by kept f a e first stop b w =
    ap₂ {C = Sums} (λ (l : List ℕ) (n : ℕ). record { block = l; whole = n }) b (w ∙ ap (λ (l : List ℕ). joined_sum l a e) b)
