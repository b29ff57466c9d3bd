-- The search: one byte further, past erased bytes, at the first byte that is not erased, and at the end; it finds nothing exactly if all
-- is erased.
-- Assumes nothing.
use Prim.Native.Nat.{ℕ, zero, suc, ◌+◌, ◌-◌, ◌^◌, ◌≤◌, ◌<◌}
use mathlib.Core.Bool.{false≢true}
use mathlib.Core.Path.{◌≡◌, refl, sym, ap, ap₂, subst, ◌∙◌}
use mathlib.Core.List.{List, [], ◌∷◌, ◌++◌}
use native.Mathlib.Decide.{ℕ_discrete}
use native.Mathlib.Omega.{arith}
use borrow.Author.Tests.{eq-eqb, ne_eqb}
use lib.ListN.{length, take, drop, get_or, replicate-append-replicate}
use lib.Seq.{drop-cons, get_or-take, get_or-drop, drop-length, drop-drop, take-add}
use Rattle.numbers.specs.Numbers.{long_at, bytes4}
use Rattle.numbers.proofs.Laws.{long_taken, long_fits}
use Rattle.flash.specs.Flash.{first_in, searched, nothing, nowhere, found_number, range, blank, start_of, Within, eight_at, Passed}
use Rattle.flash.specs.declared.Addr.{Addr}
use Rattle.std.proofs.Common.{Some, None}
use Rattle.flash.proofs.Laws.{length-range}
use Rattle.flash.proofs.Writing.{blank_byte}

-- the search from address at to address end finds what the whole search finds
pub record Ahead (f : List ℕ) (from n at : ℕ) : Type 0 where
  pub same : first_in from (range f from n) ≡ first_in at (drop (at - from) (range f from n))
  pub low : from ≤ at
  pub high : at ≤ from + n

-- the same address, written otherwise
pub ahead_same : (f : List ℕ) (from n at to : ℕ) → at ≡ to → Ahead f from n at → Ahead f from n to
ahead_same f from n at to e a = subst (Ahead f from n) e a

pub ahead_from : (f : List ℕ) (from n at : ℕ) → at ≡ from → Ahead f from n at
ahead_from f from n at e =
    let z : at - from ≡ 0 = omega arith in
    record {
      same = ap (λ (k : ℕ). first_in k (range f from n)) (sym e) ∙ ap (λ (k : ℕ). first_in at (drop k (range f from n))) (sym z);
      low = omega arith;
      high = omega arith;
    }

-- a byte of a range
range_byte : (f : List ℕ) (at n k : ℕ) → k < n → get_or (range f at n) k 0 ≡ get_or f (at + k) 0
unfolding range
range_byte f at n k lt = get_or-take n (drop at f) k 0 lt ∙ get_or-drop at f k 0

-- nothing is passed over at first; and erased bytes behind erased ones are a longer run of them
pub passed_none : (f : List ℕ) (at stop : ℕ) → at ≤ stop → Passed f at stop at
unfolding range blank
passed_none f at stop le =
    let none : at - at ≡ 0 = omega arith in record { low = omega arith; high = le; over = rw none refl }

blank_more : (f : List ℕ) (at m n : ℕ) → range f at m ≡ blank m → range f (at + m) n ≡ blank n → range f at (m + n) ≡ blank (m + n)
unfolding range blank
blank_more f at m n a b =
    take-add m n (drop at f)
    ∙ ap₂ ◌++◌ a (ap (take n) (drop-drop m at f) ∙ b)
    ∙ replicate-append-replicate m n 255

-- a number of two halves is the greatest one only if both are
module _ (f : List ℕ) (byte : (k : ℕ) → get_or f k 0 < 256) where
  four_blank : (at : ℕ) → at + 4 ≤ length f → long_at f at ≡ 2 ^ 32 - 1 → range f at 4 ≡ blank 4
  unfolding range blank
  four_blank at h e = sym (long_taken f byte at h) ∙ ap bytes4 e

  eight_blank : (at : ℕ) → at + 8 ≤ length f → eight_at f at ≡ 2 ^ 64 - 1 → range f at 8 ≡ blank 8
  eight_blank at h e =
      let low = long_fits f byte at in
      let high = long_fits f byte (at + 4) in
      blank_more f at 4 4
      (four_blank at (omega arith) (omega (arith, low, high)))
      (four_blank (at + 4) (omega arith) (omega (arith, low, high)))

  pub passed_eight :
      (at stop next to : ℕ) → stop ≤ length f → to ≤ stop → next + 8 ≡ to → eight_at f next ≡ 2 ^ 64 - 1 → Passed f at stop next
      → Passed f at stop to
  passed_eight at stop next to h le e8 e p =
      let here : at + (next - at) ≡ next = omega (arith, p.low) in
      let long : to - at ≡ next - at + 8 = omega (arith, p.low) in
      let eight : range f (at + (next - at)) 8 ≡ blank 8 = rw here (eight_blank next (omega arith) e) in
      record { low = omega (arith, p.low); high = le; over = rw long (blank_more f at (next - at) 8 p.over eight) }

module _ (f : List ℕ) (from n : ℕ) (h : from + n ≤ length f) where
  byte_at : (at : ℕ) → from ≤ at → at < from + n → drop (at - from) (range f from n) ≡ get_or f at 0 ∷ drop (at + 1 - from) (range f from n)
  byte_at at low lt =
      let here : from + (at - from) ≡ at = omega arith in
      let next : suc (at - from) ≡ at + 1 - from = omega arith in
      drop-cons (range f from n) (at - from) 0 (rw (length-range f from n h) (omega arith))
      ∙ ap (λ (b : ℕ). b ∷ drop (suc (at - from)) (range f from n))
      (range_byte f from n (at - from) (omega arith) ∙ ap (λ (k : ℕ). get_or f k 0) here)
      ∙ ap (λ (k : ℕ). get_or f at 0 ∷ drop k (range f from n)) next

  pub ahead_one : (at : ℕ) → at < from + n → get_or f at 0 ≡ 255 → Ahead f from n at → Ahead f from n (at + 1)
  unfolding first_in
  ahead_one at lt e a =
      record {
        same = a.same ∙ ap (first_in at) (byte_at at a.low lt) ∙ rw (eq-eqb (get_or f at 0) 255 e);
        low = omega arith;
        high = omega arith;
      }

  -- the address where the range starts may be written otherwise
  module _ (start : ℕ) (e : from ≡ start) where
    pub ahead_found :
        (at : ℕ) → at < from + n → (get_or f at 0 ≡ 255 → ⊥) → Ahead f from n at
        → Some (record { 0 = at }) ≡ first_in start (range f start n)
    unfolding first_in
    ahead_found at lt ne a =
        sym (a.same ∙ ap (first_in at) (byte_at at a.low lt) ∙ rw (ne_eqb (get_or f at 0) 255 ne))
        ∙ ap (λ (k : ℕ). first_in k (range f k n)) e

    pub ahead_none : (at : ℕ) → from + n ≤ at → Ahead f from n at → None ≡ first_in start (range f start n)
    unfolding first_in
    ahead_none at le a =
        let past : at - from ≡ length (range f from n) = omega (arith, length-range f from n h, a.low, a.high) in
        sym
        (a.same
        ∙ ap (λ (k : ℕ). first_in at (drop k (range f from n))) past
        ∙ ap (first_in at) (drop-length (range f from n)))
        ∙ ap (λ (k : ℕ). first_in k (range f k n)) e

  -- past bytes that are all erased
  module _ (at stop next : ℕ) (le : stop ≤ from + n) (p : Passed f at stop next) (a : Ahead f from n at) where
    erased_at : (k : ℕ) → k < next - at → get_or f (at + k) 0 ≡ 255
    erased_at k lt =
        sym (range_byte f at (next - at) k lt)
        ∙ ap (λ (l : List ℕ). get_or l k 0) p.over
        ∙ sym (blank_byte (next - at) k lt)

    ahead_by : (k to : ℕ) → k ≤ next - at → at + k ≡ to → Ahead f from n to
    ahead_by zero to lt e = let same : at ≡ to = omega arith in subst (Ahead f from n) same a
    ahead_by (suc k) to lt e =
        let one : at + k + 1 ≡ to = omega arith in
        let there = ahead_by k (at + k) (omega arith) refl in
        subst (Ahead f from n) one (ahead_one (at + k) (omega (arith, p.high)) (erased_at k (omega arith)) there)

    pub ahead_passed : Ahead f from n next
    ahead_passed = ahead_by (next - at) next (omega arith) (omega (arith, p.low))

  -- past bytes that are erased one by one, to the first that isn't
  module _ (each : ℕ) (most : each ≤ n) (erased : (j : ℕ) → from ≤ j → j < from + each → get_or f j 0 ≡ 255) where
    ahead_each : (k to : ℕ) → k ≤ each → from + k ≡ to → Ahead f from n to
    ahead_each zero to le e = ahead_from f from n to (omega arith)
    ahead_each (suc k) to le e =
        let one : from + k + 1 ≡ to = omega arith in
        let there = ahead_each k (from + k) (omega arith) refl in
        subst (Ahead f from n) one (ahead_one (from + k) (omega arith) (erased (from + k) (omega arith) (omega arith)) there)

  pub first_found :
      (at : ℕ) → from ≤ at → at < from + n → (get_or f at 0 ≡ 255 → ⊥) → ((j : ℕ) → from ≤ j → j < at → get_or f j 0 ≡ 255)
      → first_in from (range f from n) ≡ Some (record { 0 = at })
  first_found at low lt ne erased =
      let each = at - from in
      sym
      (ahead_found from refl at lt ne
      (ahead_each each (omega arith) (λ j h k. erased j h (omega arith)) each at (omega arith) (omega arith)))

-- nothing found: all bytes are erased
all_erased_lem : (at : ℕ) (xs : List ℕ) → first_in at xs ≡ None → xs ≡ blank (length xs)
unfolding first_in blank
all_erased_lem at [] e = refl
all_erased_lem at (x ∷ xs) e =
    elim (ℕ_discrete x 255) [
      | yes q ↦
          (let here = eq-eqb x 255 q in
          let rest : first_in (at + 1) xs ≡ None = sym (rw here) ∙ e in
          let more = all_erased_lem (at + 1) xs rest in
          ap (λ (b : ℕ). b ∷ xs) q ∙ ap (λ (l : List ℕ). 255 ∷ l) more)
      | no q ↦
          (let here = ne_eqb x 255 q in
          let found : first_in at (x ∷ xs) ≡ Some (record { 0 = at }) = rw here in
          let z : ◌≡◌ {A = ℕ} 0 1 = cc in
          let no : ⊥ = omega arith in
          absurd no)
    ]

-- something found: its address is one of the range's
first_below : (at : ℕ) (xs : List ℕ) (k : Addr) → first_in at xs ≡ Some k → k.0 < at + length xs
unfolding first_in
first_below at [] k e = absurd (false≢true (sym (ap nothing e)))
first_below at (x ∷ xs) k e =
    elim (ℕ_discrete x 255) [
      | yes q ↦
          (let past : first_in at (x ∷ xs) ≡ first_in (at + 1) xs = rw (eq-eqb x 255 q) in
          let rest = first_below (at + 1) xs k (sym past ∙ e) in
          omega (arith, rest))
      | no q ↦
          (let found : first_in at (x ∷ xs) ≡ Some (record { 0 = at }) = rw (ne_eqb x 255 q) in
          let here : at ≡ k.0 = ap found_number (sym found ∙ e) in
          omega (arith, here))
    ]

-- so its number isn't the one that says there is none
pub found_below :
    (f : List ℕ) (first n : ℕ) → Within f (start_of first) n → (k : Addr) → searched f first n ≡ Some k → k.0 < nowhere
unfolding searched
found_below f first n w k e =
    let below = first_below (start_of first) (range f (start_of first) n) k e in
    omega (arith, below, length-range f (start_of first) n w.inside, w.addressed)

blank-nothing : (at n : ℕ) → first_in at (blank n) ≡ None
unfolding first_in blank
blank-nothing at zero = refl
blank-nothing at (suc n) = blank-nothing (at + 1) n

-- the search finds nothing exactly if the range is all erased
pub nothing-blank :
    (f : List ℕ) (first n : ℕ) → start_of first + n ≤ length f → searched f first n ≡ None
    → range f (start_of first) n ≡ blank n
unfolding searched
nothing-blank f first n h e =
    all_erased_lem (start_of first) (range f (start_of first) n) e ∙ ap blank (length-range f (start_of first) n h)

pub blank-searched : (f : List ℕ) (first n : ℕ) → range f (start_of first) n ≡ blank n → searched f first n ≡ None
unfolding searched
blank-searched f first n e = ap (first_in (start_of first)) e ∙ blank-nothing (start_of first) n
