-- Right sums: fresh ones are, refreshed ones are if the kept ones were and only the blocks made anew had changed, and no others are.
-- Assumes nothing.
use Prim.Native.Nat.{ℕ, ◌+◌, ◌-◌, ◌≤◌, ◌<◌}
use mathlib.Core.Bool.{Bool, cond}
use mathlib.Core.List.{List}
use mathlib.Core.Logic.{◌⊎◌, inl, inr, ⊎_elim}
use mathlib.Core.Path.{◌≡◌, refl, sym, ap, ap₂, ◌∙◌}
use native.Mathlib.Decide.{dec_lt}
use native.Mathlib.Omega.{arith}
use lib.ListN.{length, get_or, replicate, length-replicate, get_or-replicate}
use lib.Seq.{ext_get_or}
use Rattle.crc.specs.Crc.{crc_of}
use Rattle.crc.proofs.Values.{values_length, values_at}
use Rattle.flash.specs.Flash.{start_of, spliced}
use Rattle.flash.proofs.Laws.{spliced_apart}
use Rattle.sums.specs.Sum.{most_blocks, blocks_of, among, block_sum, sum_for, fresh_sums, renewed, refreshed, Right, SameBut}
use Rattle.sums.specs.declared.Sums.{Sums}
use Rattle.sums.proofs.Among.{is_among, not_among}
use Rattle.sums.proofs.Renewed.{renewed-length, renewed_other, renewed_at}
use Rattle.sums.proofs.Joined.{joined-whole}

-- where k stands to blocks first to stop − 1
side : (first stop k : ℕ) → ((first ≤ k) × (k < stop)) ⊎ ((k < first) ⊎ (stop ≤ k))
side first stop k =
    elim (dec_lt k first) [
      | yes lt ↦ inr (inl lt)
      | no ge ↦ elim (dec_lt k stop) [ yes lt ↦ inl (omega arith, lt) | no ge' ↦ inr (inr (omega arith)) ]
    ]

sum_inside : (f : List ℕ) (a e k : ℕ) → a ≤ k → k < e → sum_for f a e k ≡ block_sum f k
unfolding sum_for
sum_inside f a e k lo hi = ap (λ (b : Bool). cond b (block_sum f k) 0) (is_among a e k lo hi)

sum_outside : (f : List ℕ) (a e k : ℕ) → (k < a) ⊎ (e ≤ k) → sum_for f a e k ≡ 0
unfolding sum_for
sum_outside f a e k o = ap (λ (b : Bool). cond b (block_sum f k) 0) (not_among a e k o)

pub fresh_right : (f : List ℕ) (a e : ℕ) → Right (fresh_sums f a e) f a e
unfolding fresh_sums
fresh_right f a e =
    record { long = values_length (sum_for f a e) 0 most_blocks; each = λ k lt. values_at (sum_for f a e) most_blocks k lt; whole = refl }

pub right_unique : (s t : Sums) (f : List ℕ) (a e : ℕ) → Right s f a e → Right t f a e → s ≡ t
right_unique s t f a e r q =
    ap₂ {C = Sums} (λ (b : List ℕ) (w : ℕ). record { block = b; whole = w })
    (ext_get_or 0 s.block t.block (r.long ∙ sym q.long) λ k lt.
    let few : k < most_blocks = omega (arith, r.long) in
    r.each k few ∙ sym (q.each k few))
    (r.whole ∙ sym q.whole)

-- if the kept sums were right but for blocks first to stop − 1, the refreshed ones are right
module _
    (kept : Sums) (f : List ℕ) (a e first stop : ℕ)
    (counted : e ≤ most_blocks) (low : a ≤ first) (ordered : first ≤ stop) (high : stop ≤ e)
    (inside : start_of e ≤ length f) (long : length kept.block ≡ most_blocks) where
  anew : List ℕ
  anew = renewed kept.block f first (stop - first)

  pub refreshed_if :
      ((k : ℕ) → k < most_blocks → (k < first) ⊎ (stop ≤ k) → get_or kept.block k 0 ≡ sum_for f a e k)
      → Right (refreshed kept f a e first stop) f a e
  unfolding refreshed anew
  refreshed_if h =
      let as_long : length anew ≡ most_blocks = renewed-length (stop - first) kept.block f first ∙ long in
      let each : (k : ℕ) → k < most_blocks → get_or anew k 0 ≡ sum_for f a e k =
      λ k lt.
      ⊎_elim
      (λ i.
      renewed_at (stop - first) kept.block f first k i.0 (omega arith) (omega arith)
      ∙ sym (sum_inside f a e k (omega arith) (omega arith)))
      (λ o.
      renewed_other (stop - first) kept.block f first k (⊎_elim (λ l. inl l) (λ g. inr (omega arith)) o) ∙ h k lt o)
      (side first stop k)
      in
      record {
        long = as_long;
        each = each;
        whole =
            joined-whole f anew a e (omega arith) inside (omega (arith, as_long))
            (λ k lo hi. each k (omega arith) ∙ sum_inside f a e k lo hi);
      }

-- the sums of two flashes that differ in some blocks alone
same_sum : (f g : List ℕ) (a e first stop k : ℕ) → SameBut f g first stop → (k < first) ⊎ (stop ≤ k) → sum_for f a e k ≡ sum_for g a e k
unfolding sum_for block_sum
same_sum f g a e first stop k s o = ap (λ (l : List ℕ). cond (among a e k) (crc_of l) 0) (sym (s.apart k o))

pub refreshed_right :
    (kept : Sums) (f g : List ℕ) (a e first stop : ℕ) → e ≤ most_blocks → a ≤ first → first ≤ stop → stop ≤ e
    → start_of e ≤ length g → Right kept f a e → SameBut f g first stop → Right (refreshed kept g a e first stop) g a e
refreshed_right kept f g a e first stop counted low ordered high inside r s =
    refreshed_if kept g a e first stop counted low ordered high inside r.long (λ k lt o. r.each k lt ∙ same_sum f g a e first stop k s o)

-- with nothing kept, a refresh of all application blocks gives the fresh sums
pub fresh_from_none :
    (none : Sums) (f : List ℕ) (a e : ℕ) → none.block ≡ replicate most_blocks 0 → a ≤ e → e ≤ most_blocks
    → start_of e ≤ length f → refreshed none f a e a e ≡ fresh_sums f a e
fresh_from_none none f a e z ordered counted inside =
    let zero_at : (k : ℕ) → k < most_blocks → get_or none.block k 0 ≡ 0 =
    λ k lt. ap (λ (l : List ℕ). get_or l k 0) z ∙ get_or-replicate most_blocks k 0 0 lt
    in
    right_unique (refreshed none f a e a e) (fresh_sums f a e) f a e
    (refreshed_if none f a e a e counted (omega arith) ordered (omega arith) inside (ap length z ∙ length-replicate {A = ℕ} most_blocks 0)
    (λ k lt o. zero_at k lt ∙ sym (sum_outside f a e k o)))
    (fresh_right f a e)

-- a splice whose bytes lie in blocks first to stop − 1 changes those alone
pub spliced_same :
    (f : List ℕ) (at : ℕ) (d : List ℕ) (first stop : ℕ) → at + length d ≤ length f
    → start_of first ≤ at → at + length d ≤ start_of stop → SameBut f (spliced f at d) first stop
unfolding blocks_of
spliced_same f at d first stop h low high =
    record {
      apart = λ k o.
          spliced_apart f at d h (start_of k) (start_of (k + 1) - start_of k)
          (⊎_elim (λ l. inl (omega arith)) (λ g. inr (omega arith)) o);
    }
