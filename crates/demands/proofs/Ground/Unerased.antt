-- A range is all erased, or has a first address whose byte isn't 0xFF, and that is what the search finds. Assumes nothing.
use Prim.Native.Nat.{ℕ, zero, suc, ◌+◌, ◌-◌, ◌≤◌, ◌<◌}
use mathlib.Core.Bool.{true, false, false≢true}
use mathlib.Core.Logic.{◌⊎◌, inl, inr, ⊎_elim}
use mathlib.Core.Path.{◌≡◌, sym, ap, subst⁻¹, ◌∙◌}
use native.Mathlib.Decide.{ℕ_discrete, dec_lt}
use native.Mathlib.Omega.{arith}
use lib.ListN.{length, get_or}
use Rattle.flash.specs.Flash.{start_of, searched, nothing, found_number}
use Rattle.std.proofs.Common.{Some, None}
use Rattle.flash.proofs.Unerased.{first_found}
use Rattle.command.specs.Download.{all_erased}
use Rattle.demands.specs.Calls.{Site}
use Rattle.demands.specs.Commanded.{Blank, FirstUnerased, SearchLeaves, first, none}
use Rattle.demands.proofs.Ground.Bytes.{nothing_is, bytes_erased}

-- by the bytes before the last, and the last
pub blank_or_first : (at : Site) (block len : ℕ) → Blank at block len ⊎ ((k : ℕ) × FirstUnerased at block len k)
blank_or_first at block zero = inl (λ i lt. absurd (omega arith))
blank_or_first at block (suc len) =
    let byte : ℕ → ℕ = λ i. get_or at.flash (start_of block + i) 0 in
    ⊎_elim {A = Blank at block len}
    (λ all.
    elim (ℕ_discrete (byte len) 0xFF) [
      | yes e ↦ inl (λ i lt. elim (ℕ_discrete i len) [ yes same ↦ ap byte same ∙ e | no other ↦ all i (omega arith) ])
      | no ne ↦
          inr (
            start_of block + len,
            record { from = omega arith; to = omega arith; unerased = ne; erased_before = λ j low lt. blank_at at block len all j low (omega arith) },
          )
    ])
    (λ first.
    inr (
      first.0,
      record {
        from = first.1.from;
        to = omega (arith, first.1.to);
        unerased = first.1.unerased;
        erased_before = first.1.erased_before;
      },
    ))
    (blank_or_first at block len)
  where
    blank_at :
        (at : Site) (block len : ℕ) → Blank at block len → (j : ℕ) → start_of block ≤ j → j < start_of block + len
        → get_or at.flash j 0 ≡ 0xFF
    blank_at at block len all j low lt =
        let here : start_of block + (j - start_of block) ≡ j = omega arith in
        ap (λ (k : ℕ). get_or at.flash k 0) (sym here) ∙ all (j - start_of block) (omega arith)

-- two first addresses are the same: neither lies before the other
one_first : (at : Site) (block len j k : ℕ) → FirstUnerased at block len j → FirstUnerased at block len k → j ≡ k
one_first at block len j k x y =
    elim (dec_lt j k) [
      | yes lt ↦ absurd (x.unerased (y.erased_before j x.from lt))
      | no ge ↦
          elim (dec_lt k j) [
            | yes lt ↦ absurd (y.unerased (x.erased_before k y.from lt))
            | no le ↦ omega arith
          ]
    ]

-- none and a first address exclude each other, so a search leaves one number
blank_no_first : (at : Site) (block len k : ℕ) → Blank at block len → FirstUnerased at block len k → ⊥
blank_no_first at block len k all x =
    let here : start_of block + (k - start_of block) ≡ k = omega (arith, x.from) in
    x.unerased (ap (λ (j : ℕ). get_or at.flash j 0) (sym here) ∙ all (k - start_of block) (omega (arith, x.from, x.to)))

pub one_left : (at : Site) (block len j k : ℕ) → SearchLeaves at block len j → SearchLeaves at block len k → j ≡ k
one_left at block len j k (first x) (first y) = one_first at block len j k x y
one_left at block len j k (first x) (none all e) = absurd (blank_no_first at block len j all x)
one_left at block len j k (none all e) (first y) = absurd (blank_no_first at block len k all y)
one_left at block len j k (none all e) (none also h) = e ∙ sym h

-- all erased: the search finds nothing
pub none_found : (at : Site) (block len : ℕ) → all_erased at.flash block len ≡ true → searched at.flash block len ≡ None
unfolding all_erased
none_found at block len e = nothing_is (searched at.flash block len) e

module _ (at : Site) (block len : ℕ) (h : start_of block + len ≤ length at.flash) where
  -- else the first such address
  pub first_searched : (k : ℕ) → FirstUnerased at block len k → searched at.flash block len ≡ Some (record { 0 = k })
  unfolding searched
  first_searched k x = first_found at.flash (start_of block) len h k x.from x.to x.unerased x.erased_before

  pub first_unerased : (k : ℕ) → FirstUnerased at block len k → all_erased at.flash block len ≡ false
  unfolding all_erased
  first_unerased k x = ap nothing (first_searched k x)

  pub number_first : all_erased at.flash block len ≡ false → FirstUnerased at block len (found_number (searched at.flash block len))
  number_first n =
      ⊎_elim (λ all. absurd (false≢true (sym n ∙ bytes_erased at.flash block len h all)))
      (λ first. subst⁻¹ (FirstUnerased at block len) (ap found_number (first_searched first.0 first.1)) first.1)
      (blank_or_first at block len)
