-- Flash byte by byte: what a splice and an erase leave at an address, and a range that is all erased. Assumes nothing.
use Prim.Native.Nat.{ℕ, ◌+◌, ◌-◌, ◌≤◌, ◌<◌}
use mathlib.Core.Bool.{Bool, true, false, false≢true}
use mathlib.Core.List.{List, [], append-nil}
use mathlib.Core.Logic.{◌⊎◌, inl, inr, ⊎_elim}
use mathlib.Core.Path.{◌≡◌, refl, sym, ap, ◌∙◌}
use native.Mathlib.Omega.{arith}
use lib.ListN.{length, take, drop, get_or, get_or-replicate, take-append-drop}
use lib.Seq.{get_or-take, get_or-drop, ext_get_or}
use Rattle.flash.specs.Flash.{start_of, range, spliced, blank, erased, searched, nothing}
use Rattle.flash.specs.declared.Addr.{Addr}
use Rattle.std.proofs.Common.{Option, Some, None}
use Rattle.flash.proofs.Laws.{length-blank, length-range, spliced-length, spliced-range, spliced_other}
use Rattle.flash.proofs.Unerased.{nothing-blank, blank-searched}
use Rattle.command.specs.Download.{all_erased}

pub range_byte : (f : List ℕ) (at n i : ℕ) → i < n → get_or (range f at n) i 0 ≡ get_or f (at + i) 0
unfolding range
range_byte f at n i lt = get_or-take n (drop at f) i 0 lt ∙ get_or-drop at f i 0

pub blank_byte : (n i : ℕ) → i < n → get_or (blank n) i 0 ≡ 255
unfolding blank
blank_byte n i lt = get_or-replicate n i 255 0 lt

-- a byte of a splice
pub spliced_byte :
    (f : List ℕ) (at : ℕ) (d : List ℕ) → at + length d ≤ length f → (i : ℕ) → i < length d → get_or (spliced f at d) (at + i) 0
    ≡ get_or d i 0
spliced_byte f at d h i lt =
    sym (range_byte (spliced f at d) at (length d) i lt) ∙ ap (λ (l : List ℕ). get_or l i 0) (spliced-range f at d h)

-- a splice of nothing
pub spliced_none : (f : List ℕ) (at : ℕ) → spliced f at [] ≡ f
unfolding spliced
spliced_none f at =
    let here : at + 0 ≡ at = omega arith in
    rw (append-nil (take at f), here) (take-append-drop at f)

-- what an erase leaves
module _ (f : List ℕ) (first count : ℕ) (h : start_of first + start_of count ≤ length f) where
  fits : start_of first + length (blank (start_of count)) ≤ length f
  fits = rw (length-blank (start_of count)) h

  pub erased-length : length (erased f first count) ≡ length f
  unfolding erased
  erased-length = spliced-length f (start_of first) (blank (start_of count)) fits

  pub erased_byte_lem : (k : ℕ) → start_of first ≤ k → k < start_of first + start_of count → get_or (erased f first count) k 0 ≡ 255
  unfolding erased
  erased_byte_lem k low high =
      let i : ℕ = k - start_of first in
      let e : start_of first + i ≡ k = omega arith in
      let long = length-blank (start_of count) in
      ap (λ (m : ℕ). get_or (spliced f (start_of first) (blank (start_of count))) m 0) (sym e)
      ∙ spliced_byte f (start_of first) (blank (start_of count)) fits i (omega arith)
      ∙ blank_byte (start_of count) i (omega arith)

  pub erased_other : (k : ℕ) → (k < start_of first) ⊎ (start_of first + start_of count ≤ k) → get_or (erased f first count) k 0 ≡ get_or f k 0
  unfolding erased
  erased_other k o =
      let long = length-blank (start_of count) in
      spliced_other f (start_of first) (blank (start_of count)) fits k
      (⊎_elim (λ l. inl l) (λ l. inr (omega arith)) o)

pub nothing_is : (x : Option Addr) → nothing x ≡ true → x ≡ None
nothing_is (Some at) e = absurd (false≢true e)
nothing_is None e = refl

-- a range is all erased exactly if each of its bytes is 0xFF
module _ (f : List ℕ) (block n : ℕ) (h : start_of block + n ≤ length f) where
  pub bytes_erased : ((i : ℕ) → i < n → get_or f (start_of block + i) 0 ≡ 255) → all_erased f block n ≡ true
  unfolding all_erased
  bytes_erased each =
      let long = length-range f (start_of block) n h in
      ap nothing
      (blank-searched f block n
      (ext_get_or 0 (range f (start_of block) n) (blank n) (long ∙ sym (length-blank n)) λ i lt.
      let lt' : i < n = omega arith in
      range_byte f (start_of block) n i lt' ∙ each i lt' ∙ sym (blank_byte n i lt')))

  pub erased_bytes : all_erased f block n ≡ true → (i : ℕ) → i < n → get_or f (start_of block + i) 0 ≡ 255
  unfolding all_erased
  erased_bytes e i lt =
      sym (range_byte f (start_of block) n i lt)
      ∙ ap (λ (l : List ℕ). get_or l i 0) (nothing-blank f block n h (nothing_is (searched f block n) e))
      ∙ blank_byte n i lt

  pub not_erased : (i : ℕ) → i < n → (get_or f (start_of block + i) 0 ≡ 255 → ⊥) → all_erased f block n ≡ false
  not_erased i lt ne = go (all_erased f block n) refl
    where
      go : (t : Bool) → all_erased f block n ≡ t → all_erased f block n ≡ false
      go true e = absurd (ne (erased_bytes e i lt))
      go false e = e

-- a part of what was erased is erased
pub erased_part :
    (f : List ℕ) (first count block n : ℕ) → start_of first + start_of count ≤ length f → first ≤ block
    → start_of block + n ≤ start_of first + start_of count → all_erased (erased f first count) block n ≡ true
erased_part f first count block n h low high =
    let long = erased-length f first count h in
    bytes_erased (erased f first count) block n (omega arith) λ i lt.
    erased_byte_lem f first count h (start_of block + i) (omega arith) (omega arith)
