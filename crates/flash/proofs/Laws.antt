-- What a splice leaves: its length, what lies before, in and after it, two splices end to end, a range put back. An erase is a splice.
-- Assumes nothing.
use Prim.Native.Nat.{ℕ, ◌+◌, ◌-◌, ◌≤◌, ◌<◌}
use mathlib.Core.Path.{◌≡◌, refl, sym, ap, ◌∙◌}
use mathlib.Core.List.{List, [], ◌∷◌, ◌++◌, append_assoc}
use mathlib.Core.Logic.{◌⊎◌, ⊎_elim}
use native.Mathlib.Numerals.{add-one}
use native.Mathlib.Omega.{arith}
use lib.ListN.{length, take, drop, get_or, set, length-append, length-drop, length-replicate, take-append-drop}
use lib.Seq.{take-append-le, drop-append-le, drop-append-add, take_at, drop_at, drop-drop, take-take, take-add}
use lib.Seq.{get_or-take, get_or-drop, length-take-le, sets, sets-eq}
use Rattle.flash.specs.Flash.{spliced, blank, erased, range, start_of, carried, stores}

pub length-blank : (n : ℕ) → length (blank n) ≡ n
unfolding blank
length-blank n = length-replicate n 255

pub length-range : (f : List ℕ) (at n : ℕ) → at + n ≤ length f → length (range f at n) ≡ n
unfolding range
length-range f at n h = length-take-le n (drop at f) (rw length-drop (omega arith))

module _ (f : List ℕ) (at : ℕ) (d : List ℕ) (h : at + length d ≤ length f) where
  front : length (take at f) ≡ at
  front = length-take-le at f (omega arith)

  pub spliced-length : length (spliced f at d) ≡ length f
  unfolding spliced
  spliced-length = simp (length-append, length-drop) (omega (arith, front))

  -- before the splice
  pub spliced-take : (n : ℕ) → n ≤ at → take n (spliced f at d) ≡ take n f
  unfolding spliced
  spliced-take n le =
      ap (take n) (append_assoc (take at f) d (drop (at + length d) f))
      ∙ take-append-le n (take at f) (d ++ drop (at + length d) f) (rw front le)
      ∙ take-take n at f le

  -- from the splice on
  pub spliced_from : drop at (spliced f at d) ≡ d ++ drop (at + length d) f
  unfolding spliced
  spliced_from =
      ap (drop at) (append_assoc (take at f) d (drop (at + length d) f)) ∙ drop_at (take at f) (d ++ drop (at + length d) f) at front

  -- after the splice
  pub spliced-drop : (n : ℕ) → at + length d ≤ n → drop n (spliced f at d) ≡ drop n f
  spliced-drop n le =
      let k : ℕ = n - (at + length d) in
      let e : at + (length d + k) ≡ n = omega arith in
      let e' : at + length d + k ≡ n = omega arith in
      ap (λ (m : ℕ). drop m (spliced f at d)) (sym e)
      ∙ sym (drop-drop (length d + k) at (spliced f at d))
      ∙ ap (drop (length d + k)) spliced_from
      ∙ drop-append-add d (drop (at + length d) f) k
      ∙ drop-drop k (at + length d) f
      ∙ ap (λ (m : ℕ). drop m f) e'

  -- the splice itself
  pub spliced-range : range (spliced f at d) at (length d) ≡ d
  unfolding range
  spliced-range = ap (take (length d)) spliced_from ∙ take_at d (drop (at + length d) f) (length d) refl

  before : (k : ℕ) → k ≤ at → drop k (spliced f at d) ≡ drop k (take at f) ++ (d ++ drop (at + length d) f)
  unfolding spliced
  before k le =
      ap (drop k) (append_assoc (take at f) d (drop (at + length d) f))
      ∙ drop-append-le k (take at f) (d ++ drop (at + length d) f) (rw front le)

  whole : (k : ℕ) → k ≤ at → drop k f ≡ drop k (take at f) ++ drop at f
  whole k le = ap (drop k) (sym (take-append-drop at f)) ∙ drop-append-le k (take at f) (drop at f) (rw front le)

  short : (from n : ℕ) → from + n ≤ at → n ≤ length (drop from (take at f))
  short from n le = rw (length-drop, front) (omega arith)

  -- a range that ends before the splice or begins after it
  pub spliced_apart : (from n : ℕ) → (from + n ≤ at) ⊎ (at + length d ≤ from) → range (spliced f at d) from n ≡ range f from n
  unfolding range
  spliced_apart from n =
      ⊎_elim
      (λ le.
      ap (take n) (before from (omega arith))
      ∙ take-append-le n (drop from (take at f)) (d ++ drop (at + length d) f) (short from n le)
      ∙ sym (take-append-le n (drop from (take at f)) (drop at f) (short from n le))
      ∙ sym (ap (take n) (whole from (omega arith))))
      (λ le. ap (take n) (spliced-drop from le))

  -- two splices end to end are one
  pub spliced-join : (e : List ℕ) → spliced (spliced f at d) (at + length d) e ≡ spliced f at (d ++ e)
  unfolding spliced
  spliced-join e =
      let p : List ℕ = take at f ++ d in
      let n : ℕ = at + length d + length e in
      let long : length p ≡ at + length d = simp length-append (omega (arith, front)) in
      let head : take (at + length d) (spliced f at d) ≡ p = take_at p (drop (at + length d) f) (at + length d) long in
      let end : n ≡ at + length (d ++ e) = omega (arith, length-append d e) in
      ap (λ (x : List ℕ). x ++ e ++ drop n (spliced f at d)) head
      ∙ ap (λ (x : List ℕ). p ++ e ++ x) (spliced-drop n (omega arith))
      ∙ ap (λ (x : List ℕ). x ++ drop n f) (append_assoc (take at f) d e)
      ∙ ap (λ (m : ℕ). take at f ++ (d ++ e) ++ drop m f) end

  -- the bytes of the splice, and those around it
  pub spliced_other : (k : ℕ) → (k < at) ⊎ (at + length d ≤ k) → get_or (spliced f at d) k 0 ≡ get_or f k 0
  spliced_other k =
      ⊎_elim
      (λ lt.
      sym (get_or-take at (spliced f at d) k 0 lt)
      ∙ ap (λ (l : List ℕ). get_or l k 0) (spliced-take at (omega arith))
      ∙ get_or-take at f k 0 lt)
      (λ le.
      let j : ℕ = k - (at + length d) in
      let e : at + length d + j ≡ k = omega arith in
      ap (λ (m : ℕ). get_or (spliced f at d) m 0) (sym e)
      ∙ sym (get_or-drop (at + length d) (spliced f at d) j 0)
      ∙ ap (λ (l : List ℕ). get_or l j 0) (spliced-drop (at + length d) (omega arith))
      ∙ get_or-drop (at + length d) f j 0
      ∙ ap (λ (m : ℕ). get_or f m 0) e)

-- a range put back where it came from
pub spliced_back : (f : List ℕ) (at n : ℕ) → at + n ≤ length f → spliced f at (range f at n) ≡ f
unfolding spliced range
spliced_back f at n h =
    ap (λ (m : ℕ). take at f ++ range f at n ++ drop (at + m) f) (length-range f at n h)
    ∙ ap (λ (x : List ℕ). x ++ drop (at + n) f) (sym (take-add at n f))
    ∙ take-append-drop (at + n) f

-- an erased range is all erased
pub erased-blank :
    (f : List ℕ) (first count : ℕ) → start_of first + start_of count ≤ length f
    → range (erased f first count) (start_of first) (start_of count) ≡ blank (start_of count)
unfolding erased
erased-blank f first count h =
    let e = length-blank (start_of count) in
    ap (range (spliced f (start_of first) (blank (start_of count))) (start_of first)) (sym e)
    ∙ spliced-range f (start_of first) (blank (start_of count)) (omega arith)

-- carrying out the stores of some bytes, one after another, is their splice
stores-sets : (d f : List ℕ) (at : ℕ) → carried f (stores at d) ≡ sets f at d
unfolding carried stores
stores-sets [] f at = refl
stores-sets (b ∷ d) f at = stores-sets d (set f at b) (at + 1) ∙ ap (λ (k : ℕ). sets (set f at b) k d) (add-one at)

pub stores-spliced : (f : List ℕ) (at : ℕ) (d : List ℕ) → at + length d ≤ length f → carried f (stores at d) ≡ spliced f at d
unfolding spliced
stores-spliced f at d h = stores-sets d f at ∙ sets-eq d f at h
